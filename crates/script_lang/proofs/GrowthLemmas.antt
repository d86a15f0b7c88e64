-- How the draft grows by what one line more says.
use Rattle.std.proofs.Common.{ℕ, suc, ◌≡◌, ◌<◌, ◌≤◌, ◌∙◌, nat_lt, Bool, true, false, ◌&&◌, ◌||◌, List, [], ◌∷◌, ◌++◌, Option, Some, None, length, ap, sym, refl, subst, inr, ⊎_elim, append-nil, arith}
use Rattle.std.specs.Prelude.{slice_get, IsSome, fold}
use Rattle.std.specs.List.{cons_option, filter_map}
use Rattle.std.proofs.lemmas.Bool.{cases_lt}
use Rattle.std.proofs.lemmas.Bool.Decides.{nat_tests}
use Rattle.std.proofs.lemmas.List.Elements.{filter_map-append}
use Rattle.std.proofs.lemmas.List.Sums.{fold-append}
use Rattle.folder_disk.specs.declared.main_read.MainRead.{MainRead}
use Rattle.script_lang.specs.declared.parsing.draft.Draft.{Draft}
use Rattle.script_lang.specs.declared.parsing.line.Line.{Line}
use Rattle.script_lang.specs.declared.parsing.line.Line.TheVariants.{Nothing, File, History, Node, Client, Fault, Fuse, Die, Run}
use Rattle.script_lang.specs.declared.plan.mode.Mode.{Mode}
use Rattle.script_lang.specs.declared.parsing.script_error.ScriptFault.TheVariants.{TooManyNames, WrongPlace}
use Rattle.script_lang.specs.Draft.{HasHomes, closes, draft_of, node_of, client_of, home_of, file_of, entries_of, fault_of, fuse_of, death_of, is_node, is_plan, run_of, shorter}
use Rattle.script_lang.specs.Faults.{RowBreaks}
use Rattle.script_lang.specs.Growth.{HasPlace, draft_with}
use Rattle.script_lang.specs.Meaning.{Says}
use Rattle.script_lang.specs.Rows.{Row}

-- what one line more may add to what is found in the lines
abbrev pushed : {X : Type 0} → Option X → List X → List X
pushed None xs = xs
pushed (Some x) xs = xs ++ x ∷ []

abbrev burnt : Option ℕ → Option ℕ → Option ℕ
burnt None fuse = fuse
burnt (Some left) fuse = shorter fuse left

abbrev closed_by : (plan : Bool) → Bool → Bool → Bool
closed_by false closed noded = closed
closed_by true closed noded = closed || noded

one_more : {X : Type 0} (found : Option X) (xs : List X) → xs ++ cons_option found [] ≡ pushed found xs
one_more None xs = append-nil xs
one_more (Some x) xs = refl

-- what is found in the lines, with one line more
found_more : {X : Type 0} (find : Line → Option X) (before : List Line) (said : Line) → filter_map find (before ++ said ∷ []) ≡ pushed (find said) (filter_map find before)
found_more find before said = filter_map-append find before (said ∷ []) ∙ one_more (find said) (filter_map find before)

fuse_more : (found : Option ℕ) (xs : List ℕ) → fold shorter None (pushed found xs) ≡ burnt found (fold shorter None xs)
fuse_more None xs = refl
fuse_more (Some left) xs = fold-append shorter None xs (left ∷ [])

-- a node stands among the lines, or before them
has_node : (noded : Bool) → List Line → Bool
has_node noded [] = noded
has_node noded (line ∷ lines) = has_node (noded || is_node line) lines

stays_noded : (lines : List Line) → has_node true lines ≡ true
unfolding has_node
stays_noded [] = refl
stays_noded (line ∷ lines) = stays_noded lines

some_counted : (n : ℕ) → nat_lt 0 (suc n) ≡ true
some_counted n = grind (arith, nat_tests)

node_found : (noded : Bool) (lines : List Line) → has_node noded lines ≡ (noded || nat_lt 0 (length (filter_map node_of lines)))
unfolding has_node
node_found true lines = stays_noded lines
node_found false [] = refl
node_found false (Node name ∷ lines) = stays_noded lines ∙ sym (some_counted (length (filter_map node_of lines)))
node_found false (Nothing ∷ lines) = node_found false lines
node_found false (File main ∷ lines) = node_found false lines
node_found false (History entries ∷ lines) = node_found false lines
node_found false (Client name home ∷ lines) = node_found false lines
node_found false (Fault planned ∷ lines) = node_found false lines
node_found false (Fuse left ∷ lines) = node_found false lines
node_found false (Die death ∷ lines) = node_found false lines
node_found false (Run line ∷ lines) = node_found false lines

closed_alone : (noded plan : Bool) → ((noded && plan) || false) ≡ closed_by plan false noded
closed_alone true true = refl
closed_alone true false = refl
closed_alone false true = refl
closed_alone false false = refl

closed_behind : (first plan closed noded : Bool) → (first || closed_by plan closed noded) ≡ closed_by plan (first || closed) noded
closed_behind true true closed noded = refl
closed_behind true false closed noded = refl
closed_behind false true closed noded = refl
closed_behind false false closed noded = refl

closes_more : (noded : Bool) (before : List Line) (said : Line) → closes noded (before ++ said ∷ []) ≡ closed_by (is_plan said) (closes noded before) (has_node noded before)
unfolding has_node
closes_more noded [] said = closed_alone noded (is_plan said)
closes_more noded (line ∷ before) said =
    ap (λ behind. (noded && is_plan line) || behind) (closes_more (noded || is_node line) before said)
    ∙ closed_behind (noded && is_plan line) (is_plan said) (closes (noded || is_node line) before) (has_node (noded || is_node line) before)

abbrev draft_more_of : Mode → List Line → Line → Draft
draft_more_of mode before said = record {
  mode = mode;
  nodes = pushed (node_of said) (filter_map node_of before);
  clients = pushed (client_of said) (filter_map client_of before);
  homes = pushed (home_of said) (filter_map home_of before);
  file = slice_get (pushed (file_of said) (filter_map file_of before)) 0;
  entries = slice_get (pushed (entries_of said) (filter_map entries_of before)) 0;
  faults = pushed (fault_of said) (filter_map fault_of before);
  fuse = burnt (fuse_of said) (fold shorter None (filter_map fuse_of before));
  deaths = pushed (death_of said) (filter_map death_of before);
  lines = pushed (run_of said) (filter_map run_of before);
  is_closed = closed_by (is_plan said) (closes false before) (nat_lt 0 (length (filter_map node_of before)));
}

draft_more : (mode : Mode) (before : List Line) (said : Line) → draft_of mode (before ++ said ∷ []) ≡ draft_more_of mode before said
draft_more mode before said =
    let fuse : fold shorter None (filter_map fuse_of (before ++ said ∷ [])) ≡ burnt (fuse_of said) (fold shorter None (filter_map fuse_of before)) =
    ap (fold shorter None) (found_more fuse_of before said) ∙ fuse_more (fuse_of said) (filter_map fuse_of before) in
    let closed : closes false (before ++ said ∷ []) ≡ closed_by (is_plan said) (closes false before) (nat_lt 0 (length (filter_map node_of before))) =
    closes_more false before said ∙ ap (closed_by (is_plan said) (closes false before)) (node_found false before) in
    rw (found_more node_of before said, found_more client_of before said, found_more home_of before said, found_more file_of before said, found_more entries_of before said, found_more fault_of before said, fuse, found_more death_of before said, found_more run_of before said, closed) refl

-- where nothing was found, the first is the one that comes
first_is : {X : Type 0} (xs : List X) (x : X) → slice_get xs 0 ≡ None → slice_get (xs ++ x ∷ []) 0 ≡ Some x
first_is [] x none = refl
first_is (y ∷ xs) x none = cc

pub draft_grows : (mode : Mode) (before : List Line) (said : Line) → HasPlace (draft_of mode before) said → draft_of mode (before ++ said ∷ []) ≡ draft_with (draft_of mode before) said
draft_grows mode before Nothing place = draft_more mode before Nothing
draft_grows mode before (File main) place = draft_more mode before (File main) ∙ ap (λ (file : Option MainRead). record (draft_of mode before) { file = file }) (first_is (filter_map file_of before) main place)
draft_grows mode before (History most) place = draft_more mode before (History most) ∙ ap (λ (entries : Option ℕ). record (draft_of mode before) { entries = entries }) (first_is (filter_map entries_of before) most place)
draft_grows mode before (Node name) place = draft_more mode before (Node name)
draft_grows mode before (Client name home) place = draft_more mode before (Client name home)
draft_grows mode before (Fault planned) place = draft_more mode before (Fault planned)
draft_grows mode before (Fuse left) place = draft_more mode before (Fuse left)
draft_grows mode before (Die death) place = draft_more mode before (Die death)
draft_grows mode before (Run line) place = draft_more mode before (Run line)

none_there : {X : Type 0} (o : Option X) → ¬ IsSome o → o ≡ None
none_there None none = refl
none_there (Some x) none = absurd (none refl)

less_than : (n most : ℕ) → ¬ (most ≤ n) → n < most
less_than n most few = ⊎_elim (λ less. less) (λ many. absurd (few many)) (cases_lt n most)

-- what a line says has a place in the draft
pub says_has_place : (draft : Draft) (number : ℕ) (line : List ℕ) (said : Line) → Says draft number line said → HasPlace draft said
says_has_place draft number line Nothing says = tt
says_has_place draft number line (File main) says =
    let spelled = says.spelled in
    let P : Row → Type 0 = λ row. RowBreaks draft row WrongPlace in
    none_there draft.file (λ some. says.keeps_rules WrongPlace (record { read = spelled.read; row = spelled.row; of_line = spelled.of_line; breaks = subst P (sym spelled.spells.is) (inr (inr some)) }))
says_has_place draft number line (History most) says =
    let spelled = says.spelled in
    let P : Row → Type 0 = λ row. RowBreaks draft row WrongPlace in
    none_there draft.entries (λ some. says.keeps_rules WrongPlace (record { read = spelled.read; row = spelled.row; of_line = spelled.of_line; breaks = subst P (sym spelled.spells.is) (inr some) }))
says_has_place draft number line (Node name) says =
    let spelled = says.spelled in
    let P : Row → Type 0 = λ row. RowBreaks draft row TooManyNames in
    less_than (length draft.nodes) 16 (λ many. says.keeps_rules TooManyNames (record { read = spelled.read; row = spelled.row; of_line = spelled.of_line; breaks = subst P (sym spelled.spells.is) many }))
says_has_place draft number line (Client name home) says =
    let spelled = says.spelled in
    let P : Row → Type 0 = λ row. RowBreaks draft row TooManyNames in
    less_than (length draft.clients) 64 (λ many. says.keeps_rules TooManyNames (record { read = spelled.read; row = spelled.row; of_line = spelled.of_line; breaks = subst P (sym spelled.spells.is) many }))
says_has_place draft number line (Fault planned) says = tt
says_has_place draft number line (Fuse left) says = tt
says_has_place draft number line (Die death) says = tt
says_has_place draft number line (Run run) says = tt

-- each line that declares a client names its node
homes_found : (lines : List Line) → length (filter_map home_of lines) ≡ length (filter_map client_of lines)
homes_found [] = refl
homes_found (Client name home ∷ lines) = ap (λ n. suc n) (homes_found lines)
homes_found (Nothing ∷ lines) = homes_found lines
homes_found (File main ∷ lines) = homes_found lines
homes_found (History entries ∷ lines) = homes_found lines
homes_found (Node name ∷ lines) = homes_found lines
homes_found (Fault planned ∷ lines) = homes_found lines
homes_found (Fuse left ∷ lines) = homes_found lines
homes_found (Die death ∷ lines) = homes_found lines
homes_found (Run line ∷ lines) = homes_found lines

pub draft_has_homes : (mode : Mode) (lines : List Line) → HasHomes (draft_of mode lines)
draft_has_homes mode lines = homes_found lines

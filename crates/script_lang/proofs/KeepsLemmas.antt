-- Each script keeps what is asked of scripts, since each of its lines does.
use Rattle.std.proofs.Common.{ℕ, ◌≡◌, ◌+◌, ◌<◌, ◌≤◌, List, [], ◌∷◌, ◌++◌, Option, Some, None, length, sym, refl, subst, ⊎_elim, arith, lit≤, length-append, append-nil, append_assoc}
use Rattle.std.specs.Prelude.{All, codes, slice_get, unwrap_or}
use Rattle.std.specs.List.{filter_map}
use Rattle.std.specs.Option.{IfSome, IsSomeAnd}
use Rattle.std.proofs.lemmas.Bool.{cases_lt}
use Rattle.std.proofs.lemmas.List.Elements.{All-cons, All-nil, All-push}
use Rattle.std.proofs.lemmas.Option.{slice_get_within}
use Rattle.store_traits.specs.declared.ids.NodeId.{NodeId}
use Rattle.script_lang.specs.declared.parsing.draft.Draft.{Draft}
use Rattle.script_lang.specs.declared.parsing.line.Line.{Line}
use Rattle.script_lang.specs.declared.parsing.line.Line.TheVariants.{Nothing, File, History, Node, Client, Fault, Fuse, Die, Run}
use Rattle.script_lang.specs.declared.parsing.line_word.LineWord.TheVariants as word
use Rattle.script_lang.specs.declared.plan.mode.Mode.{Mode}
use Rattle.script_lang.specs.declared.plan.run_line.RunLine.{RunLine}
use Rattle.script_lang.specs.declared.plan.script.Script.{Script}
use Rattle.script_lang.specs.declared.plan.session_plan.SessionPlan.{SessionPlan}
use Rattle.script_lang.specs.declared.parsing.script_error.ScriptFault.{ScriptFault}
use Rattle.script_lang.specs.declared.parsing.script_error.ScriptFault.TheVariants.{NameTaken, TooManyLines}
use Rattle.script_lang.specs.Draft.{death_of, draft_of, fault_of, run_of, shorter}
use Rattle.script_lang.specs.Faults.{IsTaken, RowBreaks, SomeRowBreaks}
use Rattle.script_lang.specs.Growth.{draft_with}
use Rattle.script_lang.specs.Keeps.{CanName, IsBuiltAct, Keeps, KeepsDeath, KeepsEntries, KeepsFault, KeepsHomes, KeepsNames, KeepsPlan, KeepsRun, StandOnce}
use Rattle.script_lang.specs.Lines.{lines_of}
use Rattle.script_lang.specs.Meaning.{AllSay, Means, Says, script_of}
use Rattle.script_lang.specs.Rows.{Row, keyword}
use Rattle.script_lang.specs.Spelling.{SomeRowSpells}
use Rattle.script_lang.proofs.GrowthLemmas.{draft_grows, says_has_place}
use Rattle.script_lang.proofs.KeepsActs.{act_keeps, names_of, runs_of_more_names}
use Rattle.script_lang.proofs.KeepsNames.{client_keeps, deaths_of_more_homes, homes_of_more_nodes, node_keeps, one_home_more}

abbrev IsBuiltLine : RunLine → Type 0
IsBuiltLine line = IsBuiltAct line.act

abbrev IsFuse : ℕ → Type 0
IsFuse left = left ≤ 4294967295

-- how many lines say what happens in the session, but for fuses
abbrev pub planned_in : Draft → ℕ
planned_in draft = length draft.faults + length draft.deaths + length draft.lines

-- the same of a draft
pub record KeepsDraft (draft : Draft) : Type 0 where
  pub names : KeepsNames draft.nodes draft.clients
  pub homes : KeepsHomes draft.nodes draft.clients draft.homes
  pub entries : IfSome draft.entries KeepsEntries
  pub faults : All KeepsFault draft.faults
  pub fuse : IfSome draft.fuse IsFuse
  pub deaths : All (KeepsDeath draft.homes) draft.deaths
  pub runs : All (KeepsRun (names_of draft)) draft.lines
  pub acts : All IsBuiltLine draft.lines
  pub few : planned_in draft ≤ 100000

none_twice : StandOnce []
none_twice i j name e f = cc

pub empty_keeps : (mode : Mode) → KeepsDraft (draft_of mode [])
empty_keeps mode = record {
  names = record { nodes_named = All-nil CanName; clients_named = All-nil CanName; nodes_once = none_twice; clients_once = none_twice; apart = λ name has. absurd (omega (arith, has.1)); few_nodes = lit≤ tt; few_clients = lit≤ tt };
  homes = record { one_each = refl; declared = All-nil (λ (home : NodeId). home.0 < 0) };
  entries = tt;
  faults = All-nil KeepsFault;
  fuse = tt;
  deaths = All-nil (KeepsDeath []);
  runs = All-nil (KeepsRun (record { nodes = []; clients = [] }));
  acts = All-nil IsBuiltLine;
  few = lit≤ tt;
}

shorter_keeps : (other : Option ℕ) (left : ℕ) → IfSome other IsFuse → IsFuse left → IfSome (shorter other left) IsFuse
shorter_keeps None left keeps within = within
shorter_keeps (Some other) left keeps within = omega (arith, within)

few_more : (n number m : ℕ) → n < number → ¬ (100000 < number) → m ≡ n + 1 → m ≤ 100000
few_more n number m less few is = ⊎_elim (λ more. absurd (few (omega arith))) (λ within. within) (cases_lt 100000 m)

module _ (draft : Draft) (number : ℕ) (line : List ℕ) (keeps : KeepsDraft draft) where
  -- the rules that a line keeps, of the row that it has
  kept_rule : (said : Line) (has : SomeRowSpells draft line said) (row : Row) → has.row ≡ row → (fault : ScriptFault) → ¬ SomeRowBreaks draft line fault → ¬ RowBreaks draft row fault
  kept_rule said has row is fault kept broken =
      let P : Row → Type 0 = λ other. RowBreaks draft other fault in
      kept (record { read = has.read; row = has.row; of_line = has.of_line; breaks = subst P (sym is) broken })

  -- the name that a word in the first place behind the line word declares is free
  fresh_name : (behind rest : List (List ℕ)) (name : List ℕ) → behind ≡ name ∷ rest → ¬ IsSomeAnd (slice_get behind 0) (IsTaken draft) → ¬ IsTaken draft name
  fresh_name behind rest name is kept taken =
      let P : List (List ℕ) → Type 0 = λ words. IsSomeAnd (slice_get words 0) (IsTaken draft) in
      kept (subst P (sym is) taken)

  pub draft_keeps : (said : Line) → Says draft number line said → planned_in draft < number → KeepsDraft (draft_with draft said)
  draft_keeps Nothing says few = keeps
  draft_keeps (File main) says few = record { names = keeps.names; homes = keeps.homes; entries = keeps.entries; faults = keeps.faults; fuse = keeps.fuse; deaths = keeps.deaths; runs = keeps.runs; acts = keeps.acts; few = keeps.few }
  draft_keeps (History entries) says few =
      let number_is = says.spelled.spells.follow.is_number in
      record { names = keeps.names; homes = keeps.homes; entries = record { some = number_is.low; few = number_is.high }; faults = keeps.faults; fuse = keeps.fuse; deaths = keeps.deaths; runs = keeps.runs; acts = keeps.acts; few = keeps.few }
  draft_keeps (Node name) says few =
      let spelled = says.spelled in
      let place = says_has_place draft number line (Node name) says in
      let row = spelled.spells in
      record {
        names = node_keeps draft.nodes draft.clients name keeps.names place row.follow.is_name
            (fresh_name row.behind [] name row.follow.row (kept_rule (Node name) spelled (keyword word.Node row.behind) row.is NameTaken (says.keeps_rules NameTaken)));
        homes = homes_of_more_nodes draft.nodes draft.clients draft.homes name keeps.homes;
        entries = keeps.entries;
        faults = keeps.faults;
        fuse = keeps.fuse;
        deaths = keeps.deaths;
        runs = runs_of_more_names (names_of draft) (names_of (draft_with draft (Node name))) draft.lines (omega (arith, length-append draft.nodes (name ∷ []))) (omega arith) keeps.runs;
        acts = keeps.acts;
        few = keeps.few;
      }
  draft_keeps (Client name home) says few =
      let spelled = says.spelled in
      let place = says_has_place draft number line (Client name home) says in
      let row = spelled.spells in
      record {
        names = client_keeps draft.nodes draft.clients name keeps.names place row.follow.is_name
            (fresh_name row.behind (codes "on" ∷ row.home_name ∷ []) name row.follow.row (kept_rule (Client name home) spelled (keyword word.Client row.behind) row.is NameTaken (says.keeps_rules NameTaken)));
        homes = one_home_more draft.nodes draft.clients draft.homes name home keeps.homes (slice_get_within draft.nodes home.0 row.home_name row.declared);
        entries = keeps.entries;
        faults = keeps.faults;
        fuse = keeps.fuse;
        deaths = deaths_of_more_homes draft.homes home draft.deaths keeps.deaths;
        runs = runs_of_more_names (names_of draft) (names_of (draft_with draft (Client name home))) draft.lines (omega arith) (omega (arith, length-append draft.clients (name ∷ []))) keeps.runs;
        acts = keeps.acts;
        few = keeps.few;
      }
  draft_keeps (Fault planned) says few =
      let within : ¬ (100000 < number) = says.keeps_rules TooManyLines in
      let number_is = says.spelled.spells.follow.is_number in
      record {
        names = keeps.names;
        homes = keeps.homes;
        entries = keeps.entries;
        faults = All-push KeepsFault draft.faults planned keeps.faults (record { first = number_is.low; few = number_is.high });
        fuse = keeps.fuse;
        deaths = keeps.deaths;
        runs = keeps.runs;
        acts = keeps.acts;
        few = few_more (planned_in draft) number (planned_in (draft_with draft (Fault planned))) few within (omega (arith, length-append draft.faults (planned ∷ [])));
      }
  draft_keeps (Fuse left) says few =
      record {
        names = keeps.names;
        homes = keeps.homes;
        entries = keeps.entries;
        faults = keeps.faults;
        fuse = shorter_keeps draft.fuse left keeps.fuse says.spelled.spells.follow.is_number.high;
        deaths = keeps.deaths;
        runs = keeps.runs;
        acts = keeps.acts;
        few = keeps.few;
      }
  draft_keeps (Die death) says few =
      let within : ¬ (100000 < number) = says.keeps_rules TooManyLines in
      let spelled = says.spelled.spells in
      let number_is = spelled.follow.is_number in
      record {
        names = keeps.names;
        homes = keeps.homes;
        entries = keeps.entries;
        faults = keeps.faults;
        fuse = keeps.fuse;
        deaths = All-push (KeepsDeath draft.homes) draft.deaths death keeps.deaths (record { home = spelled.home; first = number_is.low; few = number_is.high; step = spelled.follow.can_die });
        runs = keeps.runs;
        acts = keeps.acts;
        few = few_more (planned_in draft) number (planned_in (draft_with draft (Die death))) few within (omega (arith, length-append draft.deaths (death ∷ [])));
      }
  draft_keeps (Run run) says few =
      let within : ¬ (100000 < number) = says.keeps_rules TooManyLines in
      let kept = act_keeps draft says.spelled.row run.client run.act says.spelled.spells in
      record {
        names = keeps.names;
        homes = keeps.homes;
        entries = keeps.entries;
        faults = keeps.faults;
        fuse = keeps.fuse;
        deaths = keeps.deaths;
        runs = All-push (KeepsRun (names_of draft)) draft.lines run keeps.runs kept.0;
        acts = All-push IsBuiltLine draft.lines run keeps.acts kept.1;
        few = few_more (planned_in draft) number (planned_in (draft_with draft (Run run))) few within (omega (arith, length-append draft.lines (run ∷ [])));
      }

-- all lines, one by one
fewer_found : (lines : List Line) → length (filter_map fault_of lines) + length (filter_map death_of lines) + length (filter_map run_of lines) ≤ length lines
fewer_found [] = lit≤ tt
fewer_found (Nothing ∷ lines) = omega (arith, fewer_found lines)
fewer_found (File main ∷ lines) = omega (arith, fewer_found lines)
fewer_found (History entries ∷ lines) = omega (arith, fewer_found lines)
fewer_found (Node name ∷ lines) = omega (arith, fewer_found lines)
fewer_found (Client name home ∷ lines) = omega (arith, fewer_found lines)
fewer_found (Fault planned ∷ lines) = omega (arith, fewer_found lines)
fewer_found (Fuse left ∷ lines) = omega (arith, fewer_found lines)
fewer_found (Die death ∷ lines) = omega (arith, fewer_found lines)
fewer_found (Run line ∷ lines) = omega (arith, fewer_found lines)

pub keeps_more : (mode : Mode) (before : List Line) (line : List ℕ) (said : Line) → KeepsDraft (draft_of mode before) → Says (draft_of mode before) (length before + 1) line said → KeepsDraft (draft_of mode (before ++ said ∷ []))
keeps_more mode before line said keeps says =
    let fewer : planned_in (draft_of mode before) ≤ length before = fewer_found before in
    let place = says_has_place (draft_of mode before) (length before + 1) line said says in
    let P : Draft → Type 0 = KeepsDraft in
    subst P (sym (draft_grows mode before said place)) (draft_keeps (draft_of mode before) (length before + 1) line keeps said says (omega arith))

pub lines_keep : (mode : Mode) (before : List Line) (lines : List (List ℕ)) (said : List Line) → AllSay mode before lines said → KeepsDraft (draft_of mode before) → KeepsDraft (draft_of mode (before ++ said))
lines_keep mode before [] [] each keeps = rw (append-nil before) keeps
lines_keep mode before [] (s ∷ said) each keeps = absurd each
lines_keep mode before (line ∷ lines) [] each keeps = absurd each
lines_keep mode before (line ∷ lines) (s ∷ said) each keeps =
    let P : List Line → Type 0 = λ all. KeepsDraft (draft_of mode all) in
    subst P (append_assoc before (s ∷ []) said) (lines_keep mode (before ++ s ∷ []) lines said each.1 (keeps_more mode before line s keeps each.0))

within_entries : (o : Option ℕ) → IfSome o KeepsEntries → KeepsEntries (unwrap_or o 100000)
within_entries None keeps = record { some = lit≤ tt; few = lit≤ tt }
within_entries (Some entries) keeps = keeps

pub script_keeps : (mode : Mode) (bytes : List ℕ) (script : Script) → Means mode bytes script → Keeps script
script_keeps mode bytes script means =
    let keeps = lines_keep mode [] (lines_of bytes) means.said means.each (empty_keeps mode) in
    let draft = draft_of mode means.said in
    let made = script_of draft in
    let plan : SessionPlan = record { folder_faults = draft.faults; fuse = draft.fuse; deaths = draft.deaths; lines = draft.lines; stop = None } in
    let P : Script → Type 0 = Keeps in
    subst P (sym means.made) (record {
      names = keeps.names;
      homes = keeps.homes;
      entries = within_entries draft.entries keeps.entries;
      sessions = record {
        plans = All-cons (KeepsPlan made) plan [] (record { faults = keeps.faults; fuse = keeps.fuse; deaths = keeps.deaths; runs = keeps.runs }) (All-nil (KeepsPlan made));
        stops = refl;
        few = omega (arith, keeps.few);
      };
      built = record { plan = plan; only = refl; unstopped = refl; acts = keeps.acts; unreplaced = refl };
    })

-- A line says one thing.
use Rattle.std.proofs.Common.{ℕ, ◌≡◌, ◌<◌, ◌≤◌, ◌∙◌, ◌^◌, List, [], ◌∷◌, ◌⊎◌, Some, ap, sym, refl, subst, inl, inr, ⊎_elim, arith, lit≤}
use Rattle.std.specs.Prelude.{codes, slice_get}
use Rattle.std.proofs.lemmas.Fmt.{decimal_injective}
use Rattle.folder_disk.specs.declared.call.FolderCall.{FolderCall}
use Rattle.folder_disk.specs.declared.call.Planned.{Planned}
use Rattle.folder_disk.specs.declared.main_read.MainRead.{MainRead}
use Rattle.shelf.specs.declared.store.PlannedDeath.{PlannedDeath}
use Rattle.store_traits.specs.declared.ids.ClientId.{ClientId}
use Rattle.store_traits.specs.declared.ids.NodeId.{NodeId}
use Rattle.script_words.specs.Numbers.{IsNumberWithin}
use Rattle.script_lang.specs.declared.parsing.draft.Draft.{Draft}
use Rattle.script_lang.specs.declared.parsing.line.Line.{Line}
use Rattle.script_lang.specs.declared.parsing.line.Line.TheVariants.{Nothing, File, History, Node, Client, Fault, Fuse, Die, Run}
use Rattle.script_lang.specs.declared.parsing.line_word.LineWord.TheVariants as word
use Rattle.script_lang.specs.declared.plan.run_line.Act.{Act}
use Rattle.script_lang.specs.declared.plan.run_line.Act.TheVariants.{Go}
use Rattle.script_lang.specs.CallWords.{CallsFor}
use Rattle.script_lang.specs.DeathSteps.{step_text}
use Rattle.script_lang.specs.Keeps.{StandOnce}
use Rattle.script_lang.specs.Rows.{Row, keyword, call, IsSkipped, IsFileWord, IsFileRow, IsHistoryRow, IsNodeRow, IsClientRow, IsFaultRow, IsFuseRow, IsDieRow, IsGoRow, folder_call}
use Rattle.script_lang.specs.Spelling.{LineSpells, SomeRowSpells, Spells, SpellsAct, SpellsCall}
use Rattle.script_lang.proofs.NameLemmas.{same_node}
use Rattle.script_lang.proofs.OneCall.{one_call}
use Rattle.script_lang.proofs.OneFile.{one_file}
use Rattle.script_lang.proofs.OneRow.{first_same, one_folder_call, one_row}
use Rattle.script_lang.proofs.OneStep.{one_step}

one_number : (word : List ℕ) (least most a b : ℕ) → most ≤ 4294967295 → IsNumberWithin word least most a → IsNumberWithin word least most b → a ≡ b
one_number word least most a b bound is also =
    let a_high = is.high in
    let b_high = also.high in
    let a_fits : a < 2 ^ 64 = omega arith in
    let b_fits : b < 2 ^ 64 = omega arith in
    decimal_injective a b a_fits b_fits (sym is.text ∙ also.text)

-- what a row says, seen from the row
record OfFile (behind : List (List ℕ)) (said : Line) : Type 0 where
  main : MainRead
  is : said ≡ File main
  follow : IsFileRow behind main

record OfHistory (behind : List (List ℕ)) (said : Line) : Type 0 where
  entries : ℕ
  is : said ≡ History entries
  follow : IsHistoryRow behind entries

record OfNode (behind : List (List ℕ)) (said : Line) : Type 0 where
  name : List ℕ
  is : said ≡ Node name
  follow : IsNodeRow behind name

record OfClient (draft : Draft) (behind : List (List ℕ)) (said : Line) : Type 0 where
  name : List ℕ
  home_name : List ℕ
  home : NodeId
  is : said ≡ Client name home
  follow : IsClientRow behind name home_name
  declared : slice_get draft.nodes home.0 ≡ Some home_name

record OfFault (behind : List (List ℕ)) (said : Line) : Type 0 where
  planned : Planned
  is : said ≡ Fault planned
  follow : IsFaultRow behind planned

record OfFuse (behind : List (List ℕ)) (said : Line) : Type 0 where
  left : ℕ
  is : said ≡ Fuse left
  follow : IsFuseRow behind left

record OfDie (draft : Draft) (behind : List (List ℕ)) (said : Line) : Type 0 where
  name : List ℕ
  death : PlannedDeath
  is : said ≡ Die death
  follow : IsDieRow behind name death.call.number death.step
  declared : slice_get draft.clients death.call.client.0 ≡ Some name
  home : slice_get draft.homes death.call.client.0 ≡ Some death.call.node

record OfGo (draft : Draft) (behind : List (List ℕ)) (said : Line) : Type 0 where
  name : List ℕ
  client : ClientId
  steps : ℕ
  is : said ≡ Run (record { client = client; act = Go steps })
  follow : IsGoRow behind name steps
  declared : slice_get draft.clients client.0 ≡ Some name

record OfCall (draft : Draft) (first : List ℕ) (behind : List (List ℕ)) (said : Line) : Type 0 where
  client : ClientId
  act : Act
  is : said ≡ Run (record { client = client; act = act })
  follow : CallsFor draft.nodes behind act
  declared : slice_get draft.clients client.0 ≡ Some first

abbrev OfRow : Draft → Row → Line → Type 0
OfRow draft (keyword word.File behind) said = OfFile behind said
OfRow draft (keyword word.History behind) said = OfHistory behind said
OfRow draft (keyword word.Node behind) said = OfNode behind said
OfRow draft (keyword word.Client behind) said = OfClient draft behind said
OfRow draft (keyword word.Fault behind) said = OfFault behind said
OfRow draft (keyword word.Fuse behind) said = OfFuse behind said
OfRow draft (keyword word.Die behind) said = OfDie draft behind said
OfRow draft (keyword word.Go behind) said = OfGo draft behind said
OfRow draft (keyword _ behind) said = ⊥
OfRow draft (call first behind) said = OfCall draft first behind said

call_of_row : (draft : Draft) (row : Row) (client : ClientId) (act : Act) → SpellsCall draft row client act → OfRow draft row (Run (record { client = client; act = act }))
call_of_row draft row client act spelled =
    let P : Row → Type 0 = λ r. OfRow draft r (Run (record { client = client; act = act })) in
    subst P (sym spelled.is) (record { client = client; act = act; is = refl; follow = spelled.follow; declared = spelled.declared })

act_of_row : (draft : Draft) (row : Row) (client : ClientId) (act : Act) → SpellsAct draft row client act → OfRow draft row (Run (record { client = client; act = act }))
act_of_row draft row client (Go steps) spelled =
    let P : Row → Type 0 = λ r. OfRow draft r (Run (record { client = client; act = Go steps })) in
    subst P (sym spelled.is) (record { name = spelled.name; client = client; steps = steps; is = refl; follow = spelled.follow; declared = spelled.declared })
act_of_row draft row client act spelled = call_of_row draft row client act spelled

of_row : (draft : Draft) (row : Row) (said : Line) → Spells draft row said → OfRow draft row said
of_row draft row Nothing spelled = absurd spelled
of_row draft row (File main) spelled = let P : Row → Type 0 = λ r. OfRow draft r (File main) in subst P (sym spelled.is) (record { main = main; is = refl; follow = spelled.follow })
of_row draft row (History entries) spelled = let P : Row → Type 0 = λ r. OfRow draft r (History entries) in subst P (sym spelled.is) (record { entries = entries; is = refl; follow = spelled.follow })
of_row draft row (Node name) spelled = let P : Row → Type 0 = λ r. OfRow draft r (Node name) in subst P (sym spelled.is) (record { name = name; is = refl; follow = spelled.follow })
of_row draft row (Client name home) spelled =
    let P : Row → Type 0 = λ r. OfRow draft r (Client name home) in
    subst P (sym spelled.is) (record { name = name; home_name = spelled.home_name; home = home; is = refl; follow = spelled.follow; declared = spelled.declared })
of_row draft row (Fault planned) spelled = let P : Row → Type 0 = λ r. OfRow draft r (Fault planned) in subst P (sym spelled.is) (record { planned = planned; is = refl; follow = spelled.follow })
of_row draft row (Fuse left) spelled = let P : Row → Type 0 = λ r. OfRow draft r (Fuse left) in subst P (sym spelled.is) (record { left = left; is = refl; follow = spelled.follow })
of_row draft row (Die death) spelled =
    let P : Row → Type 0 = λ r. OfRow draft r (Die death) in
    subst P (sym spelled.is) (record { name = spelled.name; death = death; is = refl; follow = spelled.follow; declared = spelled.declared; home = spelled.home })
of_row draft row (Run run) spelled = act_of_row draft row run.client run.act spelled

same_client : (a b : ClientId) → a.0 ≡ b.0 → a ≡ b
same_client a b e = ap (λ (n : ℕ). record { 0 = n }) e

at_same_place : (names : List (List ℕ)) → StandOnce names → (i j : ℕ) (a b : List ℕ) → a ≡ b → slice_get names i ≡ Some a → slice_get names j ≡ Some b → i ≡ j
at_same_place names once i j a b same at_i at_j = once i j b (at_i ∙ ap Some same) at_j

same_home : (homes : List NodeId) (i j : ℕ) (a b : NodeId) → i ≡ j → slice_get homes i ≡ Some a → slice_get homes j ≡ Some b → a ≡ b
same_home homes i j a b same at_i at_j = let both : Some a ≡ Some b = sym at_i ∙ ap (λ (n : ℕ). slice_get homes n) same ∙ at_j in cc

same_death : (a b : PlannedDeath) → a.call.node ≡ b.call.node → a.call.client ≡ b.call.client → a.call.number ≡ b.call.number → a.step ≡ b.step → a ≡ b
same_death a b nodes clients numbers steps = rw (nodes, clients, numbers, steps) refl

module _ (draft : Draft) (nodes_once : StandOnce draft.nodes) (clients_once : StandOnce draft.clients) (a b : Line) where
  both_files : (behind : List (List ℕ)) → OfFile behind a → OfFile behind b → a ≡ b
  both_files behind x y =
      let words = (first_same x.follow.word y.follow.word [] [] (sym x.follow.row ∙ y.follow.row)).0 in
      let P : List ℕ → Type 0 = λ w. IsFileWord w x.main in
      x.is ∙ ap File (one_file y.follow.word x.main y.main (subst P words x.follow.is_file) y.follow.is_file) ∙ sym y.is

  both_bounds : (behind : List (List ℕ)) → OfHistory behind a → OfHistory behind b → a ≡ b
  both_bounds behind x y =
      let words = (first_same x.follow.word y.follow.word [] [] (sym x.follow.row ∙ y.follow.row)).0 in
      let P : List ℕ → Type 0 = λ w. IsNumberWithin w 1 100000 x.entries in
      x.is ∙ ap History (one_number y.follow.word 1 100000 x.entries y.entries (lit≤ tt) (subst P words x.follow.is_number) y.follow.is_number) ∙ sym y.is

  both_nodes : (behind : List (List ℕ)) → OfNode behind a → OfNode behind b → a ≡ b
  both_nodes behind x y = x.is ∙ ap Node (first_same x.name y.name [] [] (sym x.follow.row ∙ y.follow.row)).0 ∙ sym y.is

  both_clients : (behind : List (List ℕ)) → OfClient draft behind a → OfClient draft behind b → a ≡ b
  both_clients behind x y =
      let rows = sym x.follow.row ∙ y.follow.row in
      let cut = first_same x.name y.name (codes "on" ∷ x.home_name ∷ []) (codes "on" ∷ y.home_name ∷ []) rows in
      let names : x.name ≡ y.name = cut.0 in
      let last = first_same (codes "on") (codes "on") (x.home_name ∷ []) (y.home_name ∷ []) cut.1 in
      let homes : x.home_name ≡ y.home_name = (first_same x.home_name y.home_name [] [] last.1).0 in
      let ids : x.home ≡ y.home = same_node x.home y.home (at_same_place draft.nodes nodes_once x.home.0 y.home.0 x.home_name y.home_name homes x.declared y.declared) in
      x.is ∙ ap (λ (n : List ℕ). Client n x.home) names ∙ ap (λ (h : NodeId). Client y.name h) ids ∙ sym y.is

  both_faults : (behind : List (List ℕ)) → OfFault behind a → OfFault behind b → a ≡ b
  both_faults behind x y =
      let cut = first_same (folder_call x.planned.call) (folder_call y.planned.call) (x.follow.word ∷ []) (y.follow.word ∷ []) (sym x.follow.row ∙ y.follow.row) in
      let calls : x.planned.call ≡ y.planned.call = one_folder_call x.planned.call y.planned.call cut.0 in
      let words : x.follow.word ≡ y.follow.word = (first_same x.follow.word y.follow.word [] [] cut.1).0 in
      let P : List ℕ → Type 0 = λ w. IsNumberWithin w 1 4294967295 x.planned.number in
      let numbers : x.planned.number ≡ y.planned.number = one_number y.follow.word 1 4294967295 x.planned.number y.planned.number (lit≤ tt) (subst P words x.follow.is_number) y.follow.is_number in
      x.is ∙ ap (λ (c : FolderCall). Fault (record { call = c; number = x.planned.number })) calls ∙ ap (λ (n : ℕ). Fault (record { call = y.planned.call; number = n })) numbers ∙ sym y.is

  both_fuses : (behind : List (List ℕ)) → OfFuse behind a → OfFuse behind b → a ≡ b
  both_fuses behind x y =
      let words = (first_same x.follow.word y.follow.word [] [] (sym x.follow.row ∙ y.follow.row)).0 in
      let P : List ℕ → Type 0 = λ w. IsNumberWithin w 0 4294967295 x.left in
      x.is ∙ ap Fuse (one_number y.follow.word 0 4294967295 x.left y.left (lit≤ tt) (subst P words x.follow.is_number) y.follow.is_number) ∙ sym y.is

  both_deaths : (behind : List (List ℕ)) → OfDie draft behind a → OfDie draft behind b → a ≡ b
  both_deaths behind x y =
      let cut = first_same x.name y.name (x.follow.word ∷ step_text x.death.step ∷ []) (y.follow.word ∷ step_text y.death.step ∷ []) (sym x.follow.row ∙ y.follow.row) in
      let last = first_same x.follow.word y.follow.word (step_text x.death.step ∷ []) (step_text y.death.step ∷ []) cut.1 in
      let steps = one_step x.death.step y.death.step (first_same (step_text x.death.step) (step_text y.death.step) [] [] last.1).0 in
      let places = at_same_place draft.clients clients_once x.death.call.client.0 y.death.call.client.0 x.name y.name cut.0 x.declared y.declared in
      let P : List ℕ → Type 0 = λ w. IsNumberWithin w 1 4294967295 x.death.call.number in
      let numbers = one_number y.follow.word 1 4294967295 x.death.call.number y.death.call.number (lit≤ tt) (subst P last.0 x.follow.is_number) y.follow.is_number in
      let homes = same_home draft.homes x.death.call.client.0 y.death.call.client.0 x.death.call.node y.death.call.node places x.home y.home in
      x.is ∙ ap Die (same_death x.death y.death homes (same_client x.death.call.client y.death.call.client places) numbers steps) ∙ sym y.is

  both_gos : (behind : List (List ℕ)) → OfGo draft behind a → OfGo draft behind b → a ≡ b
  both_gos behind x y =
      let rows = sym x.follow.row ∙ y.follow.row in
      let cut = first_same x.name y.name (x.follow.word ∷ []) (y.follow.word ∷ []) rows in
      let names : x.name ≡ y.name = cut.0 in
      let words : x.follow.word ≡ y.follow.word = (first_same x.follow.word y.follow.word [] [] cut.1).0 in
      let ids : x.client ≡ y.client = same_client x.client y.client (at_same_place draft.clients clients_once x.client.0 y.client.0 x.name y.name names x.declared y.declared) in
      let P : List ℕ → Type 0 = λ w. IsNumberWithin w 0 1000 x.steps in
      let steps : x.steps ≡ y.steps = one_number y.follow.word 0 1000 x.steps y.steps (lit≤ tt) (subst P words x.follow.is_number) y.follow.is_number in
      x.is ∙ ap (λ (c : ClientId). Run (record { client = c; act = Go x.steps })) ids ∙ ap (λ (n : ℕ). Run (record { client = y.client; act = Go n })) steps ∙ sym y.is

  both_calls : (first : List ℕ) (behind : List (List ℕ)) → OfCall draft first behind a → OfCall draft first behind b → a ≡ b
  both_calls first behind x y =
      let ids : x.client ≡ y.client = same_client x.client y.client (clients_once x.client.0 y.client.0 first x.declared y.declared) in
      let acts : x.act ≡ y.act = one_call draft.nodes nodes_once behind x.act y.act x.follow y.follow in
      x.is ∙ ap (λ (c : ClientId). Run (record { client = c; act = x.act })) ids ∙ ap (λ (a : Act). Run (record { client = y.client; act = a })) acts ∙ sym y.is

  both_of_row : (row : Row) → OfRow draft row a → OfRow draft row b → a ≡ b
  both_of_row (keyword word.File behind) x y = both_files behind x y
  both_of_row (keyword word.History behind) x y = both_bounds behind x y
  both_of_row (keyword word.Node behind) x y = both_nodes behind x y
  both_of_row (keyword word.Client behind) x y = both_clients behind x y
  both_of_row (keyword word.Fault behind) x y = both_faults behind x y
  both_of_row (keyword word.Fuse behind) x y = both_fuses behind x y
  both_of_row (keyword word.Die behind) x y = both_deaths behind x y
  both_of_row (keyword word.Go behind) x y = both_gos behind x y
  both_of_row (keyword _ behind) x y = absurd x
  both_of_row (call first behind) x y = both_calls first behind x y

  both_of_rows : (line : List ℕ) → SomeRowSpells draft line a → SomeRowSpells draft line b → a ≡ b
  both_of_rows line x y =
      let P : Row → Type 0 = λ row. OfRow draft row a in
      both_of_row y.row (subst P (one_row line x.row y.row x.of_line y.of_line) (of_row draft x.row a x.spells)) (of_row draft y.row b y.spells)

-- a line is skipped, or its row says something
skips_or_says : (draft : Draft) (line : List ℕ) (said : Line) → LineSpells draft line said → (IsSkipped line × (said ≡ Nothing)) ⊎ SomeRowSpells draft line said
skips_or_says draft line Nothing skipped = inl (skipped, refl)
skips_or_says draft line (File main) spelled = inr spelled
skips_or_says draft line (History entries) spelled = inr spelled
skips_or_says draft line (Node name) spelled = inr spelled
skips_or_says draft line (Client name home) spelled = inr spelled
skips_or_says draft line (Fault planned) spelled = inr spelled
skips_or_says draft line (Fuse left) spelled = inr spelled
skips_or_says draft line (Die death) spelled = inr spelled
skips_or_says draft line (Run run) spelled = inr spelled

pub one_meaning : (draft : Draft) → StandOnce draft.nodes → StandOnce draft.clients → (line : List ℕ) (a b : Line) → LineSpells draft line a → LineSpells draft line b → a ≡ b
one_meaning draft nodes_once clients_once line a b x y =
    ⊎_elim
    (λ skipped. ⊎_elim (λ also. skipped.1 ∙ sym also.1) (λ read. absurd (read.read skipped.0)) (skips_or_says draft line b y))
    (λ read. ⊎_elim (λ skipped. absurd (read.read skipped.0)) (λ also. both_of_rows draft nodes_once clients_once a b line read also) (skips_or_says draft line b y))
    (skips_or_says draft line a x)

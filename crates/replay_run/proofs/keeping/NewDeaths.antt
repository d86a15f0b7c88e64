-- Behind a turn nodes have died as planned, a planned death is left unless its call died, and no call of a dead node added an entry.
use Rattle.std.proofs.Common.{◌≡◌, ◌∙◌, ◌⊎◌, inl, inr, ◌==◌, ◌||◌, ℕ, Bool, true, false, List, [], ◌∷◌, ◌++◌, All, Contains, None, append_assoc, append-nil, not, refl, sym, ap, subst}
use Rattle.std.specs.List.{list_any}
use Rattle.std.proofs.lemmas.Bool.{and_parts, eqb-true, or_parts, or_right}
use Rattle.std.proofs.lemmas.List.Elements.{All-contains, All-filter}
use Rattle.std.proofs.lemmas.List.Folds.{list_any-append}
use Rattle.store_traits.specs.declared.ids.CallId.{CallId}
use Rattle.store_traits.specs.declared.step.Step.{Step}
use Rattle.store_traits.specs.declared.step.Step.TheVariants.{U4, U5, U6, U7}
use Rattle.hist_journal.specs.declared.seen.KindSeen.TheVariants.{Death}
use Rattle.hist_journal.specs.Kinds.{is_call}
use Rattle.hist_journal.specs.Nodes.{is_dead}
use Rattle.prefs_text.specs.EntryText.{PrefEntry, PrefKind}
use Rattle.shelf.specs.declared.store.PlannedDeath.{PlannedDeath}
use Rattle.shelf.specs.declared.store.Store.{Store}
use Rattle.shelf.specs.Deaths.{died_since, step_number, strikes, used_up}
use Rattle.shelf.specs.Each.{Each}
use Rattle.shelf.specs.Entries.{is_death, is_own}
use Rattle.shelf.specs.WritingSteps.{is_writing}
use Rattle.shelf.proofs.Bools.{never}
use Rattle.shelf.proofs.DeathLemmas.{none_of_node}
use Rattle.shelf.proofs.EachLemmas.{each_push}
use Rattle.shelf.proofs.SameCalls.{itself, same_call}
use Rattle.step_table.specs.declared.progress.Progress.{Progress}
use Rattle.step_table.specs.Calls.{Reply}
use Rattle.step_table.specs.Turn.{Turn, dies_now, dying, has_died_by}
use Rattle.step_table.specs.World.{Turned, begin, is_ready_now, step_of}
use Rattle.step_table.proofs.Applying.{dead_turn_changes_nothing, entries_of}
use Rattle.node_core.specs.Knows.{Knows}
use Rattle.step_table.proofs.GrowingDeaths.{still_lives}
use Rattle.node_core.proofs.ReadyLemmas.{writes_either}
use Rattle.script_lang.specs.GoodFailures.{IsPlanned}
use Rattle.replay_run.specs.Settings.{Change, PrefRules, PrefWorld, Value}
use Rattle.replay_run.proofs.keeping.Deaths.{dies}
use Rattle.replay_run.proofs.keeping.OwnTurns.{kinds_of, own_turn}
use Rattle.replay_run.proofs.keeping.TurnCases.{TurnCase, Worked, dead, struck, turn_case, works}
use Rattle.replay_run.proofs.lists.TestLemmas.{any_before, kept_there, some_passes}

-- whether a step is one of writing is told by its number
abbrev writes : ℕ → Bool
writes number = (number == 10) || (number == 11) || (number == 12) || (number == 13)

by_number : (step : Step) → is_writing step ≡ writes (step_number step)
by_number U4 = refl
by_number U5 = refl
by_number U6 = refl
by_number U7 = refl
by_number other = refl

same_writing : (a b : Step) → (step_number a == step_number b) ≡ true → is_writing b ≡ is_writing a
same_writing a b same = by_number b ∙ (ap writes (sym (eqb-true (step_number a) (step_number b) same)) ∙ sym (by_number a))

module _ (Holds : List PrefEntry → PrefEntry → Type 0) (Fit : List PrefEntry → Type 0) (call : CallId) where
  abbrev entry : PrefKind → PrefEntry
  entry kind = record { who = call; kind = kind }

  abbrev AddsOne : Type 0
  AddsOne = (before : List PrefEntry) (kind : PrefKind) → is_death kind ≡ false → Fit before → Holds before (entry kind) × Fit (before ++ entry kind ∷ [])

  -- what holds of each entry holds of those of a call that adds no Death
  each_added : AddsOne → (kinds : List PrefKind) (list : List PrefEntry) → list_any dies (entries_of call kinds) ≡ false → Fit list → Each Holds list → Each Holds (list ++ entries_of call kinds)
  each_added step [] list none fit each = subst (Each Holds) (sym (append-nil list)) each
  each_added step (kind ∷ kinds) list none fit each =
      let parts = or_parts (is_death kind) (list_any dies (entries_of call kinds)) none in
      let here = step list kind parts.0 fit in
      subst (Each Holds) (append_assoc list (entry kind ∷ []) (entries_of call kinds)) (each_added step kinds (list ++ entry kind ∷ []) parts.1 here.1 (each_push Holds list (entry kind) each here.0))

abbrev IsLiving : List PrefEntry → PrefEntry → Type 0
IsLiving before e = is_dead e.who.node before ≡ false

-- an entry that is no Death leaves a node that lives alive
living_on : (call : CallId) (before : List PrefEntry) (kind : PrefKind) → is_death kind ≡ false → is_dead call.node before ≡ false → is_dead call.node (before ++ record { who = call; kind = kind } ∷ []) ≡ false
living_on call before kind none lives =
    let e : PrefEntry = record { who = call; kind = kind } in
    let still = still_lives call.node None before (e ∷ []) (none_of_node call.node (e ∷ []) (rw none refl)) (rw lives refl) in
    (or_parts (is_dead call.node (before ++ e ∷ [])) false still).0

module _ {M : Type 0} (s : Store Value M) where
  abbrev IsDueDeath : List PrefEntry → PrefEntry → Type 0
  IsDueDeath before e = is_death e.kind ≡ true → IsPlanned s.deaths before e.who

  -- left in this world, or its call died
  abbrev IsLeft : PrefWorld → PlannedDeath → Type 0
  IsLeft w death = Contains w.deaths death ⊎ (list_any (is_own is_death death.call) w.history ≡ true)

  pub record KeepsDeaths (w : PrefWorld) : Type 0 where
    pub living : Each IsLiving w.history
    pub deaths : Each IsDueDeath w.history
    pub left : All (Contains s.deaths) w.deaths
    pub used : (death : PlannedDeath) → Contains s.deaths death → IsLeft w death

module _ (r : PrefRules) {M : Type 0} (s : Store Value M) (t : Turned Value Change) (gave : Progress (Reply Value)) (turn : Turn r s t gave) (keeps : KeepsDeaths s t.world) where
  module _ (lives : has_died_by (begin t) ≡ false) (k : Knows r s t.world t.call) where
    alive : is_dead t.call.id.node t.world.history ≡ false
    alive = (or_parts (is_dead t.call.id.node t.world.history) (died_since t.call.id.node (begin t).call.since t.world.history) lives).0

    module _ (planned : dies_now (begin t) ≡ true) (is : turn.effect ≡ dying (begin t)) where
      abbrev death : PrefEntry
      death = record { who = t.call.id; kind = Death t.call.id.node }

      adds : t.world_after.history ≡ t.world.history ++ death ∷ []
      adds = ap (λ (w : PrefWorld). w.history) turn.comes.world ∙ rw is refl

      leaves : t.world_after.deaths ≡ used_up t.call.id (step_of t) t.world.deaths
      leaves = ap (λ (w : PrefWorld). w.deaths) turn.comes.world ∙ rw is refl

      -- the death that strikes was planned, with its step
      due : IsPlanned s.deaths t.world.history t.call.id
      due =
          let it = some_passes (strikes t.call.id (step_of t)) t.world.deaths planned in
          let parts = and_parts (is_call t.call.id it.0.call) (step_number (step_of t) == step_number it.0.step) it.2 in
          record {
            death = it.0;
            is = All-contains (Contains s.deaths) t.world.deaths it.0 keeps.left it.1;
            own = sym (same_call t.call.id it.0.call parts.0);
            step = same_writing (step_of t) it.0.step parts.1 ∙ (writes_either (is_ready_now t) t.call.at ∙ k.last);
          }

      -- it is used up, and its call died
      used_by : (planned : PlannedDeath) → IsLeft s t.world planned → IsLeft s t.world_after planned
      used_by planned (inr died) = inr (rw adds (any_before (is_own is_death planned.call) t.world.history (death ∷ []) died))
      used_by planned (inl there) = by_test (strikes t.call.id (step_of t) planned) refl
        where
          by_test : (b : Bool) → strikes t.call.id (step_of t) planned ≡ b → IsLeft s t.world_after planned
          by_test false apart = inl (rw leaves (kept_there (λ death. not (strikes t.call.id (step_of t) death)) t.world.deaths planned there (rw apart refl)))
          by_test true hits =
              let own : t.call.id ≡ planned.call = same_call t.call.id planned.call (and_parts (is_call t.call.id planned.call) (step_number (step_of t) == step_number planned.step) hits).0 in
              inr (rw (adds, ← own, list_any-append (is_own is_death t.call.id) t.world.history (death ∷ [])) (or_right (list_any (is_own is_death t.call.id) t.world.history) _ (rw (itself t.call.id) refl)))

      strikes_down : KeepsDeaths s t.world_after
      strikes_down =
          record {
            living = subst (Each IsLiving) (sym adds) (each_push IsLiving t.world.history death keeps.living alive);
            deaths = subst (Each (IsDueDeath s)) (sym adds) (each_push (IsDueDeath s) t.world.history death keeps.deaths (λ dead. due));
            left = rw leaves (All-filter (λ death. not (strikes t.call.id (step_of t) death)) (Contains s.deaths) t.world.deaths keeps.left);
            used = λ death is. used_by death (keeps.used death is);
          }

  module _ (work : Worked r s t gave turn) (k : Knows r s t.world t.call) where
    works_on : KeepsDeaths s t.world_after
    works_on =
        let own = own_turn r s t gave turn work.row k.plan in
        let kinds = kinds_of t turn.effect in
        record {
          living =
              subst (Each IsLiving) (sym own.adds)
              (each_added IsLiving (λ before. is_dead t.call.id.node before ≡ false) t.call.id (λ before kind none lives. (lives, living_on t.call.id before kind none lives)) kinds t.world.history own.alive (alive work.lives k) keeps.living);
          deaths =
              subst (Each (IsDueDeath s)) (sym own.adds)
              (each_added (IsDueDeath s) (λ before. Unit {0}) t.call.id (λ before kind none fit. (λ dead. never (sym none ∙ dead), tt)) kinds t.world.history own.alive tt keeps.deaths);
          left = rw own.deaths keeps.left;
          used =
              λ death is.
              elim (keeps.used death is) [
                | inl there ↦ inl (rw own.deaths there)
                | inr died ↦ inr (rw own.adds (any_before (is_own is_death death.call) t.world.history (entries_of t.call.id kinds) died))
              ];
        }

  module _ (knows : has_died_by (begin t) ≡ false → Knows r s t.world t.call) where
    by_case : TurnCase r s t gave turn → KeepsDeaths s t.world_after
    by_case (dead died it) = subst (KeepsDeaths s) (sym (dead_turn_changes_nothing r s t gave turn died).world) keeps
    by_case (struck lives planned is) = strikes_down lives (knows lives) planned is
    by_case (works work) = works_on work (knows work.lives)

    pub turn_keeps_deaths : KeepsDeaths s t.world_after
    turn_keeps_deaths = by_case (turn_case r s t gave turn)

-- No death is planned for the steps that an update has gone through.
use Rattle.std.proofs.Common.{◌≡◌, ◌∙◌, ◌⊎◌, inl, inr, ◌==◌, ◌&&◌, Bool, true, false, List, [], ◌∷◌, ◌++◌, length, ℕ, Contains, IfSome, if◌then◌else◌, refl, sym, ap}
use Rattle.std.specs.List.{list_any}
use Rattle.std.proofs.lemmas.Bool.{and_right}
use Rattle.std.proofs.lemmas.List.Elements.{All-contains, All-contains_itself, All-weaker}
use Rattle.std.proofs.lemmas.List.Folds.{list_any-append, list_any_none}
use Rattle.store_traits.specs.declared.ids.CallId.{CallId}
use Rattle.store_traits.specs.declared.step.Step.{Step}
use Rattle.store_traits.specs.declared.step.Step.TheVariants.{U1, U2, U3, U4, U6, U7, U8}
use Rattle.hist_journal.specs.Kinds.{is_call}
use Rattle.hist_journal.specs.Nodes.{is_ready}
use Rattle.prefs_text.specs.EntryText.{PrefEntry}
use Rattle.shelf.specs.declared.store.PlannedDeath.{PlannedDeath}
use Rattle.shelf.specs.declared.store.Store.{Store}
use Rattle.shelf.specs.Deaths.{step_number, strikes}
use Rattle.shelf.specs.Endings.{synced_kinds}
use Rattle.shelf.specs.Entries.{is_death, is_own}
use Rattle.shelf.proofs.Bools.{never, none_in_both}
use Rattle.shelf.proofs.SameCalls.{same_call}
use Rattle.step_table.specs.Calls.{At, Changed, Ending, Kept, Plan, Reply, SyncingFolder, Update, Writing, Appending, SyncingScratch, step_at}
use Rattle.step_table.specs.Effects.{Effect, all_kinds, at_by, gave_by}
use Rattle.step_table.specs.Rows.{Row, acknowledges, appends, changes, creates, filling, keeps, kept_edit, piece_written, raises, renames, syncs_scratch, takes}
use Rattle.step_table.specs.declared.progress.Progress.{Progress}
use Rattle.step_table.specs.declared.progress.Progress.TheVariants.{Ended}
use Rattle.step_table.proofs.Applying.{entries_of}
use Rattle.node_core.specs.Own.{OwnEntries}
use Rattle.script_lang.specs.GoodFailures.{IsSpared, Spares, is_edit, is_passed, is_passed_writing, plans}
use Rattle.replay_run.specs.Answering.{reply_told}
use Rattle.replay_run.specs.ClientInvariant.{gone_through, is_behind}
use Rattle.replay_run.specs.Settings.{Change, PrefRules, PrefWorld, Value}
use Rattle.replay_run.proofs.keeping.OwnNone.{no_edit}
use Rattle.replay_run.proofs.keeping.PlansAside.{plans_either, plans_none}
use Rattle.replay_run.proofs.lists.TestLemmas.{all_fail}

abbrev pub is_at : Step → Step → Bool
is_at now step = step_number now == step_number step

-- behind a step a call has gone through no step that counts, those that it had, or that one more
abbrev Passes : At Value Change → Step → At Value Change → Type 0
Passes at now next = (gone_through next ≡ []) ⊎ (gone_through next ≡ gone_through at) ⊎ (gone_through next ≡ gone_through at ++ now ∷ [])

filled : (plan : Plan Value Change) → gone_through (filling plan) ≡ U1 ∷ U2 ∷ U3 ∷ U4 ∷ []
filled plan = by_rest (length plan.text.rest == 0)
  where
    by_rest : (b : Bool) → gone_through (Writing (if b then SyncingScratch else Appending) plan) ≡ U1 ∷ U2 ∷ U3 ∷ U4 ∷ []
    by_rest true = refl
    by_rest false = refl

module _ (r : PrefRules) {M : Type 0} (s : Store Value M) (w : PrefWorld) (call : CallId) where
  abbrev now_at : At Value Change → Step
  now_at at = step_at (is_ready call.node w.history) at

  row_passes : {at : At Value Change} {e : Effect Value Change} → Row r s w call at e → Passes at (now_at at) (at_by e.next at)
  row_passes (takes {ask = Update edit} may ready) = inr (inr (rw ready refl))
  row_passes (keeps read same) = inr (inr refl)
  row_passes (changes makes fits) = inr (inr refl)
  row_passes raises = inr (inr refl)
  row_passes (creates {plan}) = inr (inr (filled plan))
  row_passes (appends {plan}) = inr (inl (filled (piece_written plan)))
  row_passes syncs_scratch = inr (inr refl)
  row_passes renames = inr (inr refl)
  row_passes other = inl refl

  module _ (planned : List PlannedDeath) where
    -- what was not planned for those is not for these
    aside_by : (at : At Value Change) (now : Step) (next : At Value Change) → Passes at now next → plans (is_behind at) call planned ≡ false → plans (is_at now) call planned ≡ false → plans (is_behind next) call planned ≡ false
    aside_by at now next (inl none) before here = plans_none call planned (is_behind next) (λ step. rw none refl)
    aside_by at now next (inr (inl same)) before here = ap (λ steps. plans (λ step. list_any (λ passed. is_at passed step) steps) call planned) same ∙ before
    aside_by at now next (inr (inr one)) before here =
        plans_either call planned (is_behind next) (is_behind at) (is_at now)
        (λ step earlier last. rw one (list_any-append (λ passed. is_at passed step) (gone_through at) (now ∷ []) ∙ rw (earlier, last) refl)) before here

    pub row_aside : {at : At Value Change} {e : Effect Value Change} → Row r s w call at e → plans (is_behind at) call planned ≡ false → plans (is_at (now_at at)) call planned ≡ false → plans (is_behind (at_by e.next at)) call planned ≡ false
    row_aside {at} {e} row = aside_by at (now_at at) (at_by e.next at) (row_passes row)

    passed_by : (ending : Ending Change) (step : Step) → is_behind (SyncingFolder ending) step ≡ false → is_at U8 step ≡ false → is_passed step ≡ false
    passed_by ending U8 behind last = never (sym last)
    passed_by (Changed place) U1 behind last = never (sym behind)
    passed_by (Changed place) U2 behind last = never (sym behind)
    passed_by (Kept edit) U1 behind last = never (sym behind)
    passed_by (Kept edit) U2 behind last = never (sym behind)
    passed_by ending other behind last = refl

    written_by : (place : ℕ) (step : Step) → is_behind (SyncingFolder (Changed place)) step ≡ false → is_passed_writing step ≡ false
    written_by place U3 behind = never (sym behind)
    written_by place U4 behind = never (sym behind)
    written_by place U6 behind = never (sym behind)
    written_by place U7 behind = never (sym behind)
    written_by place other behind = refl

    -- an update that is acknowledged was spared
    abbrev pub SparedBy : List PrefEntry → Progress (Reply Value) → Type 0
    SparedBy list (Ended reply) = IfSome (reply_told reply) (Spares planned list call)
    SparedBy list other = Unit {0}

    spared_as : (ending : Ending Change) → OwnEntries call (SyncingFolder ending) w.history → plans (is_behind (SyncingFolder ending)) call planned ≡ false → plans (is_at U8) call planned ≡ false
        → IsSpared planned (w.history ++ entries_of call (synced_kinds (kept_edit ending))) call
    spared_as (Changed place) own before here =
        record {
          passed = plans_either call planned is_passed (is_behind (SyncingFolder (Changed place))) (is_at U8) (passed_by (Changed place)) before here;
          written = λ edits. plans_either call planned is_passed_writing (is_behind (SyncingFolder (Changed place))) (is_behind (SyncingFolder (Changed place))) (λ step behind again. written_by place step behind) before before;
        }
    spared_as (Kept edit) own before here =
        record {
          passed = plans_either call planned is_passed (is_behind (SyncingFolder (Kept edit))) (is_at U8) (passed_by (Kept edit)) before here;
          written = λ edits. never (sym (none_in_both (is_own is_edit call) w.history (entries_of call (synced_kinds (kept_edit (Kept edit)))) (no_edit call w.history own) (rw (and_right (is_call call call) false refl) refl)) ∙ edits);
        }

    pub row_spares : {at : At Value Change} {e : Effect Value Change} (count : ℕ) → Row r s w call at e → OwnEntries call at w.history → plans (is_behind at) call planned ≡ false → plans (is_at (now_at at)) call planned ≡ false
        → SparedBy (w.history ++ entries_of call (all_kinds e.folder count e.kinds)) (gave_by e.next)
    row_spares count (acknowledges {ending}) own before here = spared_as ending own before here
    row_spares count other own before here = tt

-- of deaths that are left unless their call died, a call that has not died has none that were planned for the step that none of them strikes
module _ (call : CallId) (now : Step) (planned left : List PlannedDeath) (list : List PrefEntry) (used : (death : PlannedDeath) → Contains planned death → Contains left death ⊎ (list_any (is_own is_death death.call) list ≡ true)) where
  pub none_here : list_any (is_own is_death call) list ≡ false → list_any (strikes call now) left ≡ false → plans (is_at now) call planned ≡ false
  none_here lives none = list_any_none (λ death. is_call call death.call && is_at now death.step) planned (All-weaker (Contains planned) (λ death. strikes call now death ≡ false) aside planned (All-contains_itself planned))
    where
      aside : (death : PlannedDeath) → Contains planned death → strikes call now death ≡ false
      aside death is = by_call (is_call call death.call) refl (used death is)
        where
          by_call : (own : Bool) → is_call call death.call ≡ own → Contains left death ⊎ (list_any (is_own is_death death.call) list ≡ true) → strikes call now death ≡ false
          by_call own same (inl there) = All-contains (λ death. strikes call now death ≡ false) left death (all_fail (strikes call now) left none) there
          by_call true same (inr died) = never (sym (ap (λ call. list_any (is_own is_death call) list) (sym (same_call call death.call same)) ∙ lives) ∙ died)
          by_call false same (inr died) = rw same refl

-- The folder's count of faults is not less than at the start, nor than that of a Fault; so a call that fails tells of a new one.
use Rattle.std.proofs.Common.{◌≡◌, ◌<◌, ◌≤◌, inl, inr, ℕ, nat_le, Bool, false, List, refl, ap, arith}
use Rattle.std.specs.List.{list_any}
use Rattle.std.proofs.lemmas.Bool.{OnTrue_at}
use Rattle.std.proofs.lemmas.Bool.Decides.{nat_tests}
use Rattle.store_traits.specs.declared.ids.CallId.{CallId}
use Rattle.folder_disk.specs.Tally.{Tally}
use Rattle.hist_journal.specs.declared.device.Device.TheVariants.{Folder}
use Rattle.prefs_text.specs.EntryText.{PrefEntry}
use Rattle.shelf.specs.declared.store.Store.{Store}
use Rattle.shelf.specs.FaultCounts.{has_reached}
use Rattle.shelf.proofs.Bools.{none_in_both}
use Rattle.step_table.specs.Calls.{At, Changed, Kept, Reply}
use Rattle.step_table.specs.Effects.{Effect, FolderUse, Unused, Served, Faulted, Uses, left_by}
use Rattle.step_table.specs.Rows.{Row, acknowledges, renames}
use Rattle.step_table.specs.Turn.{Turn, has_died_by}
use Rattle.step_table.specs.World.{Turned, begin}
use Rattle.step_table.specs.declared.progress.Progress.{Progress}
use Rattle.step_table.proofs.Applying.{entries_of}
use Rattle.node_core.specs.Plans.{PlanAt}
use Rattle.replay_run.specs.Settings.{Change, PrefRules, PrefWorld, Value}
use Rattle.replay_run.proofs.keeping.OwnTurns.{adds_own, kinds_of, none_with_fault}
use Rattle.replay_run.proofs.keeping.TurnCases.{TurnCase, dead, struck, turn_case, works}
use Rattle.replay_run.proofs.kept.RowFits.{FaultsRise}

-- it tells of a Fault of the folder with this count, or a greater one
abbrev reaches : ℕ → PrefEntry → Bool
reaches count e = has_reached Folder count e.kind

below_count : (reached greater : ℕ) → reached < greater → nat_le greater reached ≡ false
below_count reached greater low = grind (arith, nat_tests, low)

pub record CountsFaults {M : Type 0} (s : Store Value M) (count : ℕ) (list : List PrefEntry) : Type 0 where
  pub first : s.folder.count ≤ count
  pub told : (greater : ℕ) → count < greater → list_any (λ (e : PrefEntry). has_reached Folder greater e.kind) list ≡ false

module _ (r : PrefRules) {M : Type 0} (s : Store Value M) where
  -- a row tells of no Fault, but for that of its own call of the folder
  row_tells : (greater : ℕ) (w : PrefWorld) (call : CallId) {at : At Value Change} {e : Effect Value Change} → Row r s w call at e → PlanAt at → list_any (reaches greater) (entries_of call e.kinds) ≡ false
  row_tells greater w call renames so = rw so.asked.is refl
  row_tells greater w call (acknowledges {ending = Changed place}) so = refl
  row_tells greater w call (acknowledges {ending = Kept edit}) so = refl
  row_tells greater w call other so = refl

  module _ (t : Turned Value Change) (counts : CountsFaults s t.world.tally.count t.world.history) where
    -- a call that fails tells of a new count
    pub counts_rise : FaultsRise r s t
    counts_rise request serves =
        elim (OnTrue_at refl serves.tally.counts.cause) [
          | inl more ↦ inl (record { start = omega (arith, more, counts.first); earlier = counts.told t.world_after.tally.count more })
          | inr last ↦ inr last
        ]

    -- the count does not fall
    later_by : (e : Effect Value Change) (used : FolderUse) → Uses t e used → t.world_after.tally ≡ left_by used t.world.tally t.world_after.tally → t.world.tally.count ≤ t.world_after.tally.count
    later_by e Unused it same = rw (ap (λ (x : Tally). x.count) same) omega arith
    later_by e (Served request) it same = it.tally.counts.later
    later_by e (Faulted request) it same = it.tally.counts.later

    -- nor does a death tell of one
    effect_tells : (greater : ℕ) (gave : Progress (Reply Value)) (turn : Turn r s t gave) → TurnCase r s t gave turn → (has_died_by (begin t) ≡ false → PlanAt t.call.at) → list_any (reaches greater) (entries_of t.call.id turn.effect.kinds) ≡ false
    effect_tells greater gave turn (dead died it) plan = rw it.is refl
    effect_tells greater gave turn (struck lives planned is) plan = rw is refl
    effect_tells greater gave turn (works it) plan = row_tells greater t.world t.call.id it.row (plan it.lives)

    -- so it is behind a turn
    pub counts_on : (gave : Progress (Reply Value)) → Turn r s t gave → (has_died_by (begin t) ≡ false → PlanAt t.call.at) → CountsFaults s t.world_after.tally.count t.world_after.history
    counts_on gave turn plan =
        let e = turn.effect in
        let later = later_by e e.folder turn.comes.used (ap (λ (w : PrefWorld). w.tally) turn.comes.world) in
        record {
          first = omega (arith, later, counts.first);
          told =
              λ greater low.
              rw (adds_own r s t gave turn)
              (none_in_both (reaches greater) t.world.history (entries_of t.call.id (kinds_of t e)) (counts.told greater (omega (arith, later, low)))
              (none_with_fault (reaches greater) t.call.id e.folder t.world_after.tally.count e.kinds (below_count t.world_after.tally.count greater low) (effect_tells greater gave turn (turn_case r s t gave turn) plan)));
        }

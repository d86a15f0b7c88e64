-- The third rule is tested: what is acknowledged stands in the history.
use Rattle.std.proofs.Common.{◌≡◌, ℕ, false, List, ◌∷◌, ◌++◌, Contains}
use Rattle.std.specs.List.{list_any}
use Rattle.store_traits.specs.declared.ids.CallId.{CallId}
use Rattle.hist_journal.specs.Folds.{edition_of}
use Rattle.hist_journal.specs.declared.seen.KindSeen.TheVariants.{Edit, Same}
use Rattle.prefs_edit.specs.declared.edit_step.EditStep.{EditStep}
use Rattle.prefs_text.specs.EntryText.{PrefEntry, PrefKind}
use Rattle.prefs_text.specs.declared.seen.AnswerLineSeen.{AnswerLineSeen}
use Rattle.prefs_text.specs.declared.seen.AnswerSeen.{AnswerSeen}
use Rattle.prefs_text.specs.declared.seen.AnswerSeen.TheVariants.{Updated, Restarted}
use Rattle.shelf.specs.Acknowledged.{Carries, IsUpdated}
use Rattle.shelf.specs.Decided.{Decided}
use Rattle.shelf.specs.Entries.{is_own, is_update}
use Rattle.shelf.specs.Images.{is_synced}
use Rattle.shelf.proofs.ListTests.{each}
use Rattle.shelf.proofs.PlaceTests.{StandsSo, follows_so, stands_so}
use Rattle.shelf.proofs.Tests.{both, like, no, none, same_number}
use Rattle.script_lang.specs.declared.plan.run_line.Act.{Act}
use Rattle.script_lang.specs.declared.plan.run_line.Act.TheVariants as act
use Rattle.script_lang.specs.Chronicle.{Chapter}
use Rattle.script_lang.specs.GoodUpdates.{Acknowledges, IsAcknowledged, IsDone, IsRestarted, has_restart, is_restart_of}
use Rattle.script_lang.proofs.CallTests.{asked, carried}
use Rattle.script_lang.proofs.EditTests.{one_edit}

abbrev pub carries : (edit : List EditStep) (kind : PrefKind) → Decided (Carries edit kind)
carries edit (Edit t) = one_edit t edit
carries edit (Same t) = one_edit t edit
carries edit other = none (λ it. it)

module _ (call : CallId) (edit : List EditStep) (edition : ℕ) where
  -- what stands around the update and its end
  abbrev pub IsItsOnly : List PrefEntry → PrefEntry → List PrefEntry → List PrefEntry → Type 0
  IsItsOnly before first between behind =
      Carries edit first.kind × ((list_any (is_own is_update call) before ≡ false) × ((list_any (is_own is_update call) behind ≡ false) × (edition ≡ edition_of (before ++ first ∷ between))))

  abbrev pub is_its_only : (before : List PrefEntry) (first : PrefEntry) (between behind : List PrefEntry) → Decided (IsItsOnly before first between behind)
  is_its_only before first between behind =
      both (carries edit first.kind) (both (no (list_any (is_own is_update call) before)) (both (no (list_any (is_own is_update call) behind)) (same_number edition (edition_of (before ++ first ∷ between)))))

  abbrev pub updated : (list : List PrefEntry) → Decided (IsUpdated call edit edition list)
  updated list =
      like
      (λ it. record { synced = it.follows; carried = it.around.0; none_before = it.around.1.0; none_behind = it.around.1.1.0; reached = it.around.1.1.1 })
      (λ it. record { follows = it.synced; around = (it.carried, (it.none_before, (it.none_behind, it.reached))) })
      (follows_so is_update is_synced call IsItsOnly is_its_only list)

module _ (c : Chapter) where
  abbrev pub acknowledged : (line : AnswerLineSeen) (edition : ℕ) → Decided (IsAcknowledged c line edition)
  acknowledged line edition =
      like
      (λ it. record { edit = it.edit; carried = it.carried; updated = it.fits })
      (λ it. record { edit = it.edit; carried = it.carried; fits = it.updated })
      (carried c line.call line.poster (λ edit. IsUpdated line.call edit edition c.told.entries) (λ edit. updated line.call edit edition c.told.entries))

  module _ (call : CallId) (place : ℕ) where
    abbrev pub IsOnly : List PrefEntry → PrefEntry → List PrefEntry → Type 0
    IsOnly before e behind = (has_restart call before ≡ false) × (has_restart call behind ≡ false)

    abbrev pub OfRestart : Act → Type 0
    OfRestart (act.Restart node) = StandsSo (is_own (is_restart_of node) call) place IsOnly c.told.entries
    OfRestart other = ⊥

    abbrev pub by_restart : (a : Act) → Decided (OfRestart a)
    by_restart (act.Restart node) = stands_so (is_own (is_restart_of node) call) place IsOnly (λ before e behind. both (no (has_restart call before)) (no (has_restart call behind))) c.told.entries
    by_restart other = none (λ it. it)

    pub restarted_so : (a : Act) → Contains c.asked (record { call = call; act = a }) → OfRestart a → IsRestarted c call place
    restarted_so (act.Restart node) among it = record { node = node; asked = among; only = record { restart = it.stands; none_before = it.around.0; none_behind = it.around.1 } }
    restarted_so other among it = absurd it

    abbrev pub restarted : Decided (IsRestarted c call place)
    restarted =
        like
        (λ it. restarted_so it.act it.asked it.fits)
        (λ it. record { act = act.Restart it.node; asked = it.asked; fits = record { stands = it.only.restart; around = (it.only.none_before, it.only.none_behind) } })
        (asked c call OfRestart by_restart)

  abbrev pub done : (line : AnswerLineSeen) (answer : AnswerSeen) → Decided (IsDone c line answer)
  done line (Updated edition) = both (acknowledged line edition) (no (has_restart line.call c.told.entries))
  done line (Restarted at) = restarted line.call at
  done line other = no (has_restart line.call c.told.entries)

  abbrev pub acknowledges : Decided (Acknowledges c)
  acknowledges = each (λ before line. IsDone c line line.answer) (λ before line. done line line.answer) c.told.answers

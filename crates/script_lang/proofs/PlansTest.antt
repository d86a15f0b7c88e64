-- The eighth rule is tested: nodes die and devices fail only as planned.
use Rattle.std.proofs.Common.{◌≡◌, true, false, List, count_by, length}
use Rattle.std.specs.List.{list_any}
use Rattle.store_traits.specs.declared.ids.CallId.{CallId}
use Rattle.hist_journal.specs.declared.device.Device.TheVariants.{Folder, Legacy}
use Rattle.prefs_text.specs.EntryText.{PrefEntry}
use Rattle.prefs_text.specs.declared.seen.AnswerSeen.{AnswerSeen}
use Rattle.prefs_text.specs.declared.seen.AnswerSeen.TheVariants.{Updated}
use Rattle.shelf.specs.declared.store.PlannedDeath.{PlannedDeath}
use Rattle.shelf.specs.Decided.{Decided}
use Rattle.shelf.specs.Entries.{is_death, is_own}
use Rattle.shelf.specs.Places.{is_fault_of}
use Rattle.shelf.specs.WritingSteps.{is_writing}
use Rattle.shelf.proofs.ListTests.{each, found}
use Rattle.shelf.proofs.Tests.{at_most, both, if_so, is_none, like, no, one_call, same_bool, same_number, sure, yes}
use Rattle.shelf.specs.FaultCounts.{count_after}
use Rattle.script_lang.specs.Chronicle.{Chapter}
use Rattle.script_lang.specs.Good.{EndCounts, Fails, FailsAsCounted, Handed, KeepsPlans, Scripted, Setting}
use Rattle.shelf.specs.LastRaise.{ends_in_raise}
use Rattle.script_lang.specs.GoodFailures.{DiesAsPlanned, FailsAsPlanned, IsPlanned, Spares, faults_of, is_edit, is_passed, is_passed_writing, plans}

module _ (c : Chapter) where
  module _ (before : List PrefEntry) (call : CallId) where
    abbrev pub IsIts : PlannedDeath → Type 0
    IsIts death = (death.call ≡ call) × (is_writing death.step ≡ ends_in_raise call false before)

    abbrev pub planned : Decided (IsPlanned c.plan.deaths before call)
    planned =
        like
        (λ it. record { death = it.item; is = it.among; own = it.holds.0; step = it.holds.1 })
        (λ it. record { item = it.death; among = it.is; holds = (it.own, it.step) })
        (found IsIts (λ death. both (one_call death.call call) (same_bool (is_writing death.step) (ends_in_raise call false before))) c.plan.deaths)

  abbrev pub spares : (call : CallId) (answer : AnswerSeen) → Decided (Spares c.plan.deaths c.told.entries call answer)
  spares call (Updated edition) =
      like
      (λ it. record { passed = it.0; written = it.1 })
      (λ it. (it.passed, it.written))
      (both (no (plans is_passed call c.plan.deaths)) (if_so (yes (list_any (is_own is_edit call) c.told.entries)) (no (plans is_passed_writing call c.plan.deaths))))
  spares call other = sure tt

  abbrev pub dies_as_planned : Decided (DiesAsPlanned c)
  dies_as_planned =
      like
      (λ it. record { deaths = it.0; spared = it.1 })
      (λ it. (it.deaths, it.spared))
      (both
      (each (λ before e. is_death e.kind ≡ true → IsPlanned c.plan.deaths before e.who) (λ before e. if_so (yes (is_death e.kind)) (planned before e.who)) c.told.entries)
      (each (λ before line. Spares c.plan.deaths c.told.entries line.call line.answer) (λ before line. spares line.call line.answer) c.told.answers))

  abbrev pub fails_as_planned : Decided (FailsAsPlanned c)
  fails_as_planned =
      like
      (λ it. record { folder = it.0; legacy = it.1 })
      (λ it. (it.folder, it.legacy))
      (both (if_so (is_none c.plan.fuse) (at_most (faults_of c) (length c.plan.folder_faults))) (same_number (count_by (λ e. is_fault_of Legacy e.kind) c.told.entries) 0))

  abbrev pub fails_as_counted : (end : EndCounts) → Decided (FailsAsCounted end c)
  fails_as_counted end =
      like
      (λ it. record { alive = it.0; folder = it.1.0; legacy = it.1.1 })
      (λ it. (it.alive, (it.folder, it.legacy)))
      (both (no (list_any (λ e. is_death e.kind) c.told.entries))
      (both (at_most (count_after Folder c.store.folder.count c.told.entries) end.folder) (at_most (count_after Legacy c.store.legacy.count c.told.entries) end.legacy)))

  abbrev pub fails_so : (setting : Setting) → Decided (Fails setting c)
  fails_so Scripted = fails_as_planned
  fails_so (Handed start end) = fails_as_counted end

  abbrev pub keeps_plans : (setting : Setting) → Decided (KeepsPlans setting c)
  keeps_plans setting = like (λ it. record { deaths = it.0; faults = it.1 }) (λ it. (it.deaths, it.faults)) (both dies_as_planned (fails_so setting))

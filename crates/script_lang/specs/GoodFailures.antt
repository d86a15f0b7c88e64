-- That nodes die and devices fail only as it was planned.
use Rattle.std.specs.Prelude.{◌≡◌, ◌≤◌, ℕ, ◌&&◌, Bool, true, false, List, length, count_by, Contains, None}
use Rattle.std.specs.List.{list_any}
use Rattle.store_traits.specs.declared.ids.CallId.{CallId}
use Rattle.store_traits.specs.declared.step.Step.{Step}
use Rattle.store_traits.specs.declared.step.Step.TheVariants.{U1, U2, U3, U4, U6, U7, U8}
use Rattle.hist_journal.specs.declared.device.Device.TheVariants.{Folder, Legacy}
use Rattle.hist_journal.specs.declared.seen.KindSeen.TheVariants.{Edit}
use Rattle.hist_journal.specs.Kinds.{is_call}
use Rattle.prefs_text.specs.EntryText.{PrefEntry, PrefKind}
use Rattle.prefs_text.specs.declared.seen.AnswerSeen.{AnswerSeen}
use Rattle.prefs_text.specs.declared.seen.AnswerSeen.TheVariants.{Updated}
use Rattle.shelf.specs.declared.store.PlannedDeath.{PlannedDeath}
use Rattle.shelf.specs.Entries.{is_death, is_own}
use Rattle.shelf.specs.LastRaise.{ends_in_raise}
use Rattle.shelf.specs.Places.{is_fault_of}
use Rattle.shelf.specs.WritingSteps.{is_writing}
use Rattle.script_lang.specs.Chronicle.{Chapter}
use Rattle.shelf.specs.Each.{Each}

-- a death of the call is planned, at a step of writing exactly where the call had raised the version last
pub record IsPlanned (planned : List PlannedDeath) (before : List PrefEntry) (call : CallId) : Type 0 where
  pub death : PlannedDeath
  pub is : Contains planned death
  pub own : death.call ≡ call
  pub step : is_writing death.step ≡ ends_in_raise call false before

-- an update that goes well is at these steps
abbrev pub is_passed : Step → Bool
is_passed U1 = true
is_passed U2 = true
is_passed U8 = true
is_passed other = false

-- and where it changes the value, at these
abbrev pub is_passed_writing : Step → Bool
is_passed_writing U3 = true
is_passed_writing U4 = true
is_passed_writing U6 = true
is_passed_writing U7 = true
is_passed_writing other = false

abbrev pub is_edit : PrefKind → Bool
is_edit (Edit t) = true
is_edit other = false

-- a death of the call is planned at such a step
abbrev pub plans : (Step → Bool) → CallId → List PlannedDeath → Bool
plans at call deaths = list_any (λ death. is_call call death.call && at death.step) deaths

-- no death was planned for a step that the update went through
pub record IsSpared (planned : List PlannedDeath) (list : List PrefEntry) (call : CallId) : Type 0 where
  pub passed : plans is_passed call planned ≡ false
  pub written : list_any (is_own is_edit call) list ≡ true → plans is_passed_writing call planned ≡ false

abbrev pub Spares : List PlannedDeath → List PrefEntry → CallId → AnswerSeen → Type 0
Spares planned list call (Updated edition) = IsSpared planned list call
Spares planned list call other = Unit {0}

abbrev pub faults_of : Chapter → ℕ
faults_of c = count_by (λ e. is_fault_of Folder e.kind) c.told.entries

-- by a script: a fuse may make any number of calls fail; faults of old settings join, once scripts plan them
pub record FailsAsPlanned (c : Chapter) : Type 0 where
  pub folder : c.plan.fuse ≡ None → faults_of c ≤ length c.plan.folder_faults
  pub legacy : count_by (λ e. is_fault_of Legacy e.kind) c.told.entries ≡ 0

-- a lawful call dies once, so no planned death is two
pub record DiesAsPlanned (c : Chapter) : Type 0 where
  pub deaths : Each (λ before e. is_death e.kind ≡ true → IsPlanned c.plan.deaths before e.who) c.told.entries
  pub spared : Each (λ before line. Spares c.plan.deaths c.told.entries line.call line.answer) c.told.answers

-- Which entries of a call stand in the history, by its next step.
use Rattle.std.specs.Prelude.{◌≡◌, ◌+◌, ℕ, Bool, true, false, List, ◌∷◌, ◌++◌, length}
use Rattle.std.specs.List.{list_any}
use Rattle.store_traits.specs.declared.ids.CallId.{CallId}
use Rattle.hist_journal.specs.declared.seen.EntrySeen.{EntrySeen}
use Rattle.hist_journal.specs.declared.seen.KindSeen.{KindSeen}
use Rattle.hist_journal.specs.declared.seen.KindSeen.TheVariants.{Raise, Edit, Inited}
use Rattle.step_table.specs.Calls.{Ask, Update, Read, At, First, Reading, Migrating, Finishing, Raising, Writing, SyncingFolder, Restarting, Gone, Changed, Kept, Plan}
use Rattle.shelf.specs.Entries.{is_own}
use Rattle.shelf.specs.Meanwhile.{NoneOf}

module _ {V T : Type 0} where
  -- anything but what stands before a value change
  abbrev pub is_late : KindSeen V T → Bool
  is_late Raise = false
  is_late (Inited node) = false
  is_late other = true

  -- the call was told of by nothing but an Inited and a Raise
  abbrev pub IsEarly : CallId → List (EntrySeen V T) → Type 0
  IsEarly call list = list_any (is_own is_late call) list ≡ false

  -- its value change is the entry at this place, and its last one
  pub record HasChanged (call : CallId) (place : ℕ) (list : List (EntrySeen V T)) : Type 0 where
    pub before : List (EntrySeen V T)
    pub edit : T
    pub behind : List (EntrySeen V T)
    pub is : list ≡ before ++ record { who = call; kind = Edit edit } ∷ behind
    pub early : IsEarly call before
    pub last : NoneOf call behind
    pub counted : place ≡ length before + 1

  abbrev pub OwnEntries : CallId → At V T → List (EntrySeen V T) → Type 0
  OwnEntries call (SyncingFolder (Changed place)) = HasChanged call place
  OwnEntries call other = IsEarly call

  -- the call writes what this transform makes
  abbrev pub WritesEdit : T → Plan V T → Type 0
  WritesEdit edit plan = plan.change ≡ Edit edit

  -- a read writes nothing
  abbrev pub WritesFor : Ask T → Plan V T → Type 0
  WritesFor (Update edit) plan = WritesEdit edit plan
  WritesFor Read plan = ⊥

  -- what is left to do is what was asked for, or was done for it
  abbrev pub IsFor : CallId → Ask T → At V T → List (EntrySeen V T) → Type 0
  IsFor call asked (First ask) list = ask ≡ asked
  IsFor call asked (Reading purpose ask) list = ask ≡ asked
  IsFor call asked (Migrating ask value) list = ask ≡ asked
  IsFor call asked (Finishing ask) list = ask ≡ asked
  IsFor call asked (Raising plan) list = WritesFor asked plan
  IsFor call asked (Writing stage plan) list = WritesFor asked plan
  IsFor call asked (SyncingFolder (Kept edit)) list = asked ≡ Update edit
  IsFor call asked (SyncingFolder (Changed place)) list = (changed : HasChanged call place list) × (asked ≡ Update changed.edit)
  IsFor call asked (Restarting node) list = ⊥
  IsFor call asked Gone list = Unit {0}

-- What a call knows of the world between two of its turns.
use Rattle.std.specs.Prelude.{◌≡◌, ◌↔◌, ◌≤◌, ℕ, true, false, not, List, ◌++◌, length, Some, IfSome, IsTrue}
use Rattle.std.specs.List.{list_any}
use Rattle.hist_journal.specs.declared.seen.BaseSeen.TheVariants.{Held}
use Rattle.hist_journal.specs.declared.seen.EntrySeen.{EntrySeen}
use Rattle.hist_journal.specs.Folds.{value_after}
use Rattle.hist_journal.specs.Nodes.{is_ready}
use Rattle.hist_journal.specs.Quiet.{pending}
use Rattle.folder_disk.specs.Contents.{Contents, Unsynced, Synced}
use Rattle.shelf.specs.declared.store.Store.{Store}
use Rattle.shelf.specs.CallOrder.{is_later}
use Rattle.step_table.specs.Calls.{At, Call, Migrating, Finishing, Raising, Writing, Stage, Creating, Appending, SyncingScratch, Renaming, SyncingFolder, Kept, Plan}
use Rattle.shelf.specs.Changes.{KeepsValue, MakesValue}
use Rattle.shelf.specs.LastRaise.{ends_in_raise}
use Rattle.shelf.specs.Legal.{value_at}
use Rattle.shelf.specs.Rules.{Rules}
use Rattle.step_table.specs.World.{World}
use Rattle.node_core.specs.Own.{OwnEntries}
use Rattle.node_core.specs.Plans.{PlanAt}
use Rattle.node_core.specs.Phases.{is_holding, is_initialising, is_raised}

module _ {V T M : Type 0} (r : Rules V T) (s : Store V M) where
  -- the plan is the text of the value that its change makes of the one now
  pub record IsDue (list : List (EntrySeen V T)) (plan : Plan V T) : Type 0 where
    pub allowed : MakesValue r.meanings.after s.handler (value_at r.meanings s list) plan.change
    pub makes : value_after r.meanings.after (value_at r.meanings s list) plan.change ≡ Held plan.value
    pub text : plan.text.written ++ plan.text.rest ≡ r.encoded plan.value

  -- so much of it is in the scratch file
  pub record IsInScratch (folder : Contents) (list : List (EntrySeen V T)) (plan : Plan V T) : Type 0 where
    pub due : IsDue list plan
    pub scratch : folder.scratch ≡ Unsynced plan.text.written

  -- all of it is, and on the disk
  pub record IsOnDisk (folder : Contents) (list : List (EntrySeen V T)) (plan : Plan V T) : Type 0 where
    pub due : IsDue list plan
    pub scratch : folder.scratch ≡ Synced plan.text.written

  -- there is a value
  pub record IsReadable (list : List (EntrySeen V T)) : Type 0 where
    pub value : V
    pub held : value_at r.meanings s list ≡ Held value

  -- how far the text is written
  abbrev pub KnowsText : Stage → Plan V T → Contents → List (EntrySeen V T) → Type 0
  KnowsText Creating plan folder list = IsDue list plan
  KnowsText Appending plan folder list = IsInScratch folder list plan
  KnowsText SyncingScratch plan folder list = IsInScratch folder list plan
  KnowsText Renaming plan folder list = IsOnDisk folder list plan

  -- what the call knows of contents, by its next step
  abbrev pub KnowsContents : At V T → Contents → List (EntrySeen V T) → Type 0
  KnowsContents (Migrating ask value) folder list = value_at r.meanings s list ≡ Held value
  KnowsContents (Finishing ask) folder list = IsReadable list
  KnowsContents (Raising plan) folder list = IsDue list plan
  KnowsContents (Writing stage plan) folder list = KnowsText stage plan folder list
  KnowsContents (SyncingFolder (Kept edit)) folder list = KeepsValue r.meanings.after s.handler (value_at r.meanings s list) edit
  KnowsContents other folder list = Unit {0}

  -- a call that owns the lock had a turn before; its node is initialised, or is not
  pub record Holds (w : World V T) (c : Call V T) : Type 0 where
    pub begun : (entries : ℕ) × (c.since ≡ Some entries)
    pub owns : w.owner ≡ Some c.id
    pub ready : is_ready c.id.node w.history ≡ not (is_initialising c.at)

  pub record Knows (w : World V T) (c : Call V T) : Type 0 where
    -- its earliest turn is past, or still to come
    pub began : IfSome c.since (λ entries. entries ≤ length w.history)
    -- no later call of its client was told of
    pub numbers : list_any (is_later c.id) w.history ≡ false
    pub entries : OwnEntries c.id c.at w.history
    pub plan : PlanAt c.at
    -- it told of a Raise last, or did not
    pub last : is_raised c.at ≡ ends_in_raise c.id false w.history
    -- its Raise is open, or is not
    pub raised : (is_raised c.at ≡ true) ↔ (pending w.history ≡ Some c.id)
    pub holds : is_holding c.at ≡ true → Holds w c
    pub contents : IsTrue w.told → KnowsContents c.at w.folder w.history

-- What a turn finds and leaves.
use Rattle.std.specs.Prelude.{◌≡◌, ◌+◌, ℕ, Bool, List, [], ◌∷◌, length, Option, Some, None, IsTrue, unwrap_or}
use Rattle.store_traits.specs.declared.ids.CallId.{CallId}
use Rattle.store_traits.specs.declared.step.Step.{Step}
use Rattle.folder_disk.specs.Contents.{Contents, Images}
use Rattle.folder_disk.specs.Tally.{Tally}
use Rattle.hist_journal.specs.declared.seen.EntrySeen.{EntrySeen}
use Rattle.hist_journal.specs.Nodes.{is_ready}
use Rattle.shelf.specs.declared.store.PlannedDeath.{PlannedDeath}
use Rattle.shelf.specs.declared.store.SectionSeen.{SectionSeen}
use Rattle.shelf.specs.declared.store.Store.{Store}
use Rattle.step_table.specs.Calls.{Call, step_at}

-- the version is that of the version word, `tally` the folder's count of faults and of its calls by kind, and `deaths` those that are not used up; `told` says whether the folder tells what it holds, and `spares` whether its calls leave all of that where they fail
pub record World (V T : Type 0) : Type 0 where
  pub told : Bool
  pub spares : Bool
  pub folder : Contents
  -- the old settings; no step changes them yet
  pub sections : List SectionSeen
  pub owner : Option CallId
  pub history : List (EntrySeen V T)
  pub deaths : List PlannedDeath
  pub version : ℕ
  pub tally : Tally

-- one turn: the world and the call before it and after it
pub record Turned (V T : Type 0) : Type 0 where
  pub world : World V T
  pub call : Call V T
  pub world_after : World V T
  pub call_after : Call V T

-- a session of this store begins in this world
pub record Begins {V T M : Type 0} (s : Store V M) (w : World V T) : Type 0 where
  pub main : IsTrue w.told → w.folder.main ≡ s.main
  pub sections : w.sections ≡ s.sections
  pub alone : IsTrue w.told → IsTrue s.alone → w.folder.kept ≡ Images (s.main ∷ [])
  pub owner : w.owner ≡ None
  pub history : w.history ≡ []
  pub deaths : w.deaths ≡ s.deaths
  pub version : w.version ≡ 0
  pub count : w.tally.count ≡ s.folder.count

module _ {V T : Type 0} where
  -- the place of the next entry
  abbrev pub next_place : World V T → ℕ
  next_place w = length w.history + 1

module _ {V T : Type 0} (t : Turned V T) where
  -- the node of the call is initialised
  abbrev pub is_ready_now : Bool
  is_ready_now = is_ready t.call.id.node t.world.history

  -- the step that the call is at
  abbrev pub step_of : Step
  step_of = step_at is_ready_now t.call.at

  -- the call knows from its earliest turn on how many entries there were when that began
  abbrev pub begin : Turned V T
  begin = record t { call = record t.call { since = Some (unwrap_or t.call.since (length t.world.history)) } }

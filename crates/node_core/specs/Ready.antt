-- What a step of an update needs: what its call knows, and memory in the folder for what is still to be written.
use Rattle.std.specs.Prelude.{◌≡◌, ◌≤◌, List, length, Option, Some, None, IfSome, IsTrue}
use Rattle.store_traits.specs.declared.codec.Codec as codec_trait
use Rattle.store_traits.specs.declared.transform.Transform as transform_trait
use Rattle.folder_disk.specs.declared.folder.Folder as folder_trait
use Rattle.folder_disk.specs.Room.{Room, HasRoomFor}
use Rattle.hist_journal.specs.declared.seen.BaseSeen.TheVariants.{Held}
use Rattle.hist_journal.specs.declared.seen.EntrySeen.{EntrySeen}
use Rattle.hist_journal.specs.Folds.{value_after}
use Rattle.shelf.specs.declared.store.Store.{Store}
use Rattle.step_table.specs.Calls.{At, Raising, Writing, Stage, Creating, Appending, SyncingScratch, Renaming, Plan}
use Rattle.shelf.specs.Kept.{MayBeMain}
use Rattle.shelf.specs.Legal.{value_at}
use Rattle.shelf.specs.ShelfSeen.{ShelfSeen}
use Rattle.shelf.specs.Rules.{Rules, rules_of}
use Rattle.node_core.specs.declared.origin.Origin.{Origin}
use Rattle.node_core.specs.Knows.{Knows}
use Rattle.node_core.specs.Phases.{room_at}
use Rattle.node_core.specs.Views.{call_seen, world_seen}

module _ {V T : Type 0} where
  -- what is being written
  abbrev pub plan_at : At V T → Option (Plan V T)
  plan_at (Raising plan) = Some plan
  plan_at (Writing stage plan) = Some plan
  plan_at other = None

  -- the folder has memory for the calls to come
  pub record CanFill (plan : Plan V T) (room : Room) : Type 0 where
    pub bytes : length plan.text.rest ≤ room.bytes
    pub rename : 1 ≤ room.renames

  abbrev pub HasWritingRoom : Stage → Plan V T → Room → Type 0
  HasWritingRoom Creating plan room = HasRoomFor (length plan.text.rest) room
  HasWritingRoom Appending plan room = CanFill plan room
  HasWritingRoom SyncingScratch plan room = 1 ≤ room.renames
  HasWritingRoom Renaming plan room = 1 ≤ room.renames

  abbrev pub HasFolderRoom : At V T → Room → Type 0
  HasFolderRoom (Raising plan) room = HasRoomFor (length plan.text.rest) room
  HasFolderRoom (Writing stage plan) room = HasWritingRoom stage plan room
  HasFolderRoom other room = Unit {0}

module _ {V T M : Type 0} (r : Rules V T) (IsValue : V → Type 0) (s : Store V M) where
  -- what the change makes of the value now may be main
  abbrev pub MayWrite : List (EntrySeen V T) → Plan V T → Type 0
  MayWrite list plan = (v : V) → value_after r.meanings.after (value_at r.meanings s list) plan.change ≡ Held v → MayBeMain r IsValue s v

module _ {C F V T : Type 0} (c : codec_trait.Ghosts C V) (t : transform_trait.Ghosts T V) (f : folder_trait.Ghosts F) where
  -- the rules of what transforms make and weigh, and of the codec
  abbrev pub rules_seen : ShelfSeen C F V T → Rules V T
  rules_seen s = rules_of t.after t.weight_of (c.encoded s.codec) (c.reads s.codec) (c.default_of s.codec)

  -- there is room for the entries and for the bytes to come, and they may be main
  pub record Equipped (at : At V T) (s : ShelfSeen C F V T) : Type 0 where
    pub entries : room_at at ≤ s.room
    pub room : HasFolderRoom at (f.room s.folder)
    pub may : IsTrue f.told → IfSome (plan_at at) (λ plan. MayWrite (rules_seen s) (c.is_value s.codec) s.store s.list plan)

  abbrev pub KnowsNow : Origin → At V T → ShelfSeen C F V T → Type 0
  KnowsNow origin at s = Knows (rules_seen s) s.store (world_seen f s) (call_seen origin at)

  pub record Ready (origin : Origin) (at : At V T) (s : ShelfSeen C F V T) : Type 0 where
    pub knows : KnowsNow origin at s
    pub equipped : Equipped at s

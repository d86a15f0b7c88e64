-- What a read of main gives, and why.
use Rattle.std.specs.Prelude.{◌≡◌, ◌⊎◌, ℕ, Bool, true, false, List, [], Option, Some, None}
use Rattle.store_traits.specs.declared.decoded.Decoded.{Decoded}
use Rattle.store_traits.specs.declared.decoded.Decoded.TheVariants as decoded
use Rattle.store_traits.specs.declared.ids.CallId.{CallId}
use Rattle.folder_disk.specs.declared.call.FolderCall.TheVariants.{ReadMain}
use Rattle.folder_disk.specs.Tally.{Tally, Tallies}
use Rattle.folder_disk.specs.declared.main_read.MainRead.{MainRead}
use Rattle.folder_disk.specs.declared.main_read.MainRead.TheVariants.{Absent, Bytes}
use Rattle.hist_journal.specs.declared.seen.BaseSeen.{BaseSeen}
use Rattle.hist_journal.specs.declared.seen.BaseSeen.TheVariants as base
use Rattle.shelf.specs.declared.answers.Loaded.{Loaded}
use Rattle.shelf.specs.declared.answers.Loaded.TheVariants.{Value, Corrupt, TooLong, Faulted, NoMemory}
use Rattle.shelf.specs.ShelfSeen.{ShelfSeen}
use Rattle.shelf.specs.ShelfTurns.{Adds, Faults}

-- what main reads as, where the answer says it
abbrev pub base_of : {V : Type 0} → Loaded V → Option (BaseSeen V)
base_of (Value given) = Some (base.Held given.value.value)
base_of Corrupt = Some base.Corrupt
base_of (TooLong len) = Some (base.TooLong len)
base_of (Faulted at) = None
base_of NoMemory = None

abbrev pub is_faulted : {V : Type 0} → Loaded V → Bool
is_faulted (Faulted at) = true
is_faulted other = false

-- the edition of a value is that of the history
abbrev pub IsOfEdition : {V : Type 0} → ℕ → Loaded V → Type 0
IsOfEdition edition (Value given) = given.edition ≡ edition
IsOfEdition edition other = Unit {0}

module _ {F : Type 0} (told : Bool) (tally : F → Tally) where
  -- the folder was asked what main is, or was left alone
  abbrev pub MayAsk : F → F → Type 0
  MayAsk old new = (new ≡ old) ⊎ Tallies told ReadMain false (tally old) (tally new)

  -- a read that met want of memory may have asked the folder or not; any other asked it once
  abbrev pub Asks : {V : Type 0} → Loaded V → F → F → Type 0
  Asks NoMemory old new = MayAsk old new
  Asks other old new = Tallies told ReadMain (is_faulted other) (tally old) (tally new)

-- no file, or bytes within the limit, decoded
module _ {V : Type 0} (reads : List ℕ → V → Type 0) (absent : V) where
  abbrev pub DecodesAs : MainRead → Loaded V → Type 0
  DecodesAs Absent (Value given) = given.value.value ≡ absent
  DecodesAs (Bytes bytes) (Value given) = reads bytes given.value.value
  DecodesAs (Bytes bytes) Corrupt = (v : V) → reads bytes v → ⊥
  DecodesAs read NoMemory = Unit {0}
  DecodesAs read other = ⊥

  abbrev pub ReadDecodes : MainRead → Decoded V → Type 0
  ReadDecodes Absent (decoded.Good v) = v ≡ absent
  ReadDecodes (Bytes bytes) (decoded.Good v) = reads bytes v
  ReadDecodes (Bytes bytes) decoded.Corrupt = (v : V) → reads bytes v → ⊥
  ReadDecodes Absent decoded.Corrupt = ⊥

module _ {C F V T : Type 0} where
  -- a device that failed adds its Fault and ends the call; any other read leaves the shelf as it was
  abbrev pub LoadRow : CallId → ℕ → Loaded V → ShelfSeen C F V T → ShelfSeen C F V T → Type 0
  LoadRow call count (Faulted at) old new = Faults call count at old new
  LoadRow call count other old new = Adds call [] old new

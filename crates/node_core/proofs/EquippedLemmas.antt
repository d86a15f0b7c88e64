-- What a write is equipped with stays so.
use Rattle.std.proofs.Common.{◌≡◌, ◌+◌, ◌-◌, ◌≤◌, ◌==◌, ℕ, Bool, true, false, List, [], ◌∷◌, ◌++◌, length, take, drop, refl, sym, ap, subst, arith, if◌then◌else◌}
use Rattle.std.proofs.lemmas.List.{length-drop, length-take}
use Rattle.store_traits.specs.declared.codec.Codec as codec_trait
use Rattle.store_traits.specs.declared.ids.CallId.{CallId}
use Rattle.store_traits.specs.declared.transform.Transform as transform_trait
use Rattle.folder_disk.specs.declared.folder.Folder as folder_trait
use Rattle.folder_disk.specs.Contents.{ChangesScratch, Contents, Scratch, Unsynced, scratch_bytes}
use Rattle.folder_disk.specs.Room.{Room, Uses}
use Rattle.hist_journal.specs.declared.seen.KindSeen.TheVariants.{Raise}
use Rattle.hist_journal.proofs.FoldLemmas.{value_of-other}
use Rattle.scratch_rename.specs.Filling.{Filling, filled_more, next_piece}
use Rattle.step_table.specs.Calls.{Raising, Writing, Stage, Creating, Appending, SyncingScratch, Renaming, Plan}
use Rattle.step_table.specs.Rows.{filling, piece_written}
use Rattle.shelf.specs.Legal.{value_at}
use Rattle.shelf.specs.ShelfSeen.{ShelfSeen}
use Rattle.shelf.specs.ShelfTurns.{Adds}
use Rattle.node_core.specs.Ready.{CanFill, Equipped, HasWritingRoom, rules_seen}

-- the owner of the lock has the room that it has not used
pub room_left : {before after old new : ℕ} (kinds : ℕ) → before ≤ old → new ≡ old - kinds → after + kinds ≤ before → after ≤ new
room_left {before} {after} {old} {new} kinds had left enough = omega (arith, had, left, enough)

-- what is appended has memory, and so has the rest
pub piece_fits : (rest : List ℕ) (bytes : ℕ) → length rest ≤ bytes → length (take 4096 rest) ≤ bytes
piece_fits rest bytes fits = let is = length-take 4096 rest in omega (arith, fits, is)

rest_fits : (rest : List ℕ) (old new : ℕ) → length rest ≤ old → old ≤ new + length (take 4096 rest) → length (drop 4096 rest) ≤ new
rest_fits rest old new fits uses = let taken = length-take 4096 rest in let left = length-drop 4096 rest in omega (arith, fits, uses, taken, left)

-- what becomes of these bytes, where they are in the scratch file
pub of_scratch : (made : List ℕ → Scratch) (bytes : List ℕ) (old new : Contents) → old.scratch ≡ Unsynced bytes → ChangesScratch (made bytes) old new
    → ChangesScratch (made (scratch_bytes old.scratch)) old new
of_scratch made bytes old new is changes = subst (λ (there : List ℕ). ChangesScratch (made there) old new) (sym (ap scratch_bytes is)) changes

module _ {V T : Type 0} (plan : Plan V T) where
  filling_room : (filled : Bool) (room : Room) → CanFill plan room → HasWritingRoom (if filled then SyncingScratch else Appending) plan room
  filling_room true room fill = fill.rename
  filling_room false room fill = fill

module _ {C F V T : Type 0} (c : codec_trait.Ghosts C V) (t : transform_trait.Ghosts T V) (f : folder_trait.Ghosts F) (call : CallId) (plan : Plan V T) (old new : ShelfSeen C F V T) where
  -- a raise leaves the value
  pub equipped_raise : Adds call (Raise ∷ []) old new → new.folder ≡ old.folder → Equipped c t f (Raising plan) old → Equipped c t f (Writing Creating plan) new
  equipped_raise adds same e =
      let value : value_at (rules_seen c t f old).meanings old.store (old.list ++ record { who = call; kind = Raise } ∷ []) ≡ value_at (rules_seen c t f old).meanings old.store old.list =
      value_of-other t.after old.store.base old.list (record { who = call; kind = Raise }) refl in
      record { entries = omega (arith, e.entries, adds.room); room = rw same e.room; may = λ told. rw (adds.codec, adds.store, adds.list, value) (e.may told) }

  module _ (adds : Adds call [] old new) where
    -- and so does what writes no entry
    equipped_on : (stage next : Stage) (text : Filling) → HasWritingRoom next (record plan { text = text }) (f.room new.folder) → Equipped c t f (Writing stage plan) old → Equipped c t f (Writing next (record plan { text = text })) new
    equipped_on stage next text room e = record { entries = room_left 0 e.entries adds.room (omega arith); room = room; may = λ told. rw (adds.codec, adds.store, adds.list) (e.may told) }

    pub equipped_create : Uses 1 0 0 (f.room old.folder) (f.room new.folder) → Equipped c t f (Writing Creating plan) old → Equipped c t f (filling plan) new
    equipped_create spent e =
        let fill : CanFill plan (f.room new.folder) = record { bytes = omega (arith, e.room.bytes, spent.bytes_left); rename = omega (arith, e.room.rename, spent.renames_left) } in
        equipped_on Creating _ plan.text (filling_room plan (length plan.text.rest == 0) (f.room new.folder) fill) e

    pub equipped_append : Uses 0 (length (next_piece plan.text)) 0 (f.room old.folder) (f.room new.folder) → Equipped c t f (Writing Appending plan) old → Equipped c t f (filling (piece_written plan)) new
    equipped_append spent e =
        let left = rest_fits plan.text.rest (f.room old.folder).bytes (f.room new.folder).bytes e.room.bytes spent.bytes_left in
        let fill : CanFill (piece_written plan) (f.room new.folder) = record { bytes = left; rename = omega (arith, e.room.rename, spent.renames_left) } in
        equipped_on Appending _ (filled_more plan.text) (filling_room (piece_written plan) (length (drop 4096 plan.text.rest) == 0) (f.room new.folder) fill) e

    pub equipped_sync : f.room new.folder ≡ f.room old.folder → Equipped c t f (Writing SyncingScratch plan) old → Equipped c t f (Writing Renaming plan) new
    equipped_sync room e = equipped_on SyncingScratch Renaming plan.text (rw room e.room) e

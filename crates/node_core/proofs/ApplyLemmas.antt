-- The turn in which an update applies its edit to the value that it read.
use Rattle.std.proofs.Common.{◌≡◌, ◌∙◌, [], length, IsTrue, refl, sym, ap, arith, Err, false}
use Rattle.store_traits.specs.declared.applied.Applied.{Applied}
use Rattle.store_traits.specs.declared.applied.Applied.TheVariants.{Changed}
use Rattle.store_traits.specs.declared.codec.Codec as codec_trait
use Rattle.store_traits.specs.declared.given.Given.{Given}
use Rattle.store_traits.specs.declared.transform.Transform as transform_trait
use Rattle.store_traits.specs.declared.update_error.UpdateError.{UpdateError}
use Rattle.store_traits.specs.declared.update_error.UpdateError.TheVariants as error
use Rattle.folder_disk.specs.declared.folder.Folder as folder_trait
use Rattle.folder_disk.specs.Room.{HasRoomFor}
use Rattle.hist_journal.specs.declared.seen.BaseSeen.{BaseSeen}
use Rattle.hist_journal.specs.declared.seen.BaseSeen.TheVariants.{Held}
use Rattle.hist_journal.specs.declared.seen.KindSeen.TheVariants.{Edit}
use Rattle.hist_journal.specs.Folds.{applied_or, edited, value_after}
use Rattle.shelf.specs.Legal.{value_at}
use Rattle.shelf.specs.ShelfSeen.{ShelfSeen}
use Rattle.shelf.specs.ShelfTurns.{Adds, Frees}
use Rattle.step_table.specs.declared.progress.Progress.TheVariants.{Ended, Moved}
use Rattle.step_table.specs.Calls.{At, Failed, Gone, Kept, Raising, Reading, Serve, SyncingFolder, Update}
use Rattle.step_table.specs.Effects.{asking, errs}
use Rattle.step_table.specs.Requests.{ReadMain, Serves}
use Rattle.step_table.specs.Rows.{Makes, changes, keeps, lacks_memory, past_limit, refuses}
use Rattle.node_core.specs.declared.applying.Made.{Made}
use Rattle.node_core.specs.declared.origin.Origin.{Origin}
use Rattle.node_core.specs.Applying.{AppliedRow, MakesOther, MakesPlan, MakesTooLong}
use Rattle.node_core.specs.ReadMain.{HasRead}
use Rattle.node_core.specs.Ready.{Equipped, rules_seen}
use Rattle.node_core.specs.Steps.{Steps}
use Rattle.node_core.specs.Views.{unwritten, world_seen}
use Rattle.node_core.proofs.EquippedLemmas.{room_left}
use Rattle.node_core.proofs.RowLemmas.{Line, ends_behind, goes_on}

-- the value that an edit makes is the one that it makes of the old one
the_value : {V T : Type 0} (after : T → V → Applied V) (edit : T) (base : BaseSeen V) (old new v : V) → base ≡ Held old → after edit old ≡ Changed new → value_after after base (Edit edit) ≡ Held v → v ≡ new
unfolding value_after edited applied_or
the_value after edit base old new v held makes is = let both : ◌≡◌ {A = BaseSeen _} (Held new) (Held v) = sym (rw (held, makes) refl) ∙ is in cc

module _ {C F V T : Type 0} (c : codec_trait.Ghosts C V) (t : transform_trait.Ghosts T V) (f : folder_trait.Ghosts F) (origin : Origin) (edit : T) (given : Given V) (old mid new : ShelfSeen C F V T) (read : HasRead c t f origin given old mid)
    (same : new ≡ record mid { folder = new.folder }) (contents : IsTrue f.told → f.contents new.folder ≡ f.contents mid.folder) (tally : f.tally new.folder ≡ f.tally mid.folder) where
  abbrev here : At V T
  here = Reading Serve (Update edit)

  -- nothing but the folder was touched
  still : Adds origin.call [] old new
  still =
      record {
        list = ap (λ (s : ShelfSeen C F V T). s.list) same ∙ read.same.list;
        owner = ap (λ (s : ShelfSeen C F V T). s.owner) same ∙ read.same.owner;
        room = ap (λ (s : ShelfSeen C F V T). s.room) same ∙ read.same.room;
        deaths = ap (λ (s : ShelfSeen C F V T). s.deaths) same ∙ read.same.deaths;
        codec = ap (λ (s : ShelfSeen C F V T). s.codec) same ∙ read.same.codec;
        store = ap (λ (s : ShelfSeen C F V T). s.store) same ∙ read.same.store;
      }

  serves : Serves ReadMain false (world_seen f old) (world_seen f new)
  serves = record { folder = λ told. contents told ∙ read.contents told; spared = λ told spares. tt; tally = rw tally read.tally }

  -- the edit makes another value of the one that was read
  makes_other : (value : V) → MakesOther (rules_seen c t f old) (c.is_value old.codec) old.store given.value.value edit value → Makes (rules_seen c t f old) old.store (world_seen f old) origin.call edit value
  makes_other value other = record { old = given.value.value; read = read.reads; makes = other.makes; differs = other.differs }

  module _ (ready : Equipped c t f here old) where
    -- the plan has memory, and what it is the text of may be main
    pub writes : (made : Made V) → MakesPlan (rules_seen c t f mid) (c.is_value mid.codec) mid.store given.value.value edit made → HasRoomFor (length made.plan) (f.room new.folder)
        → Steps c t f origin here old Moved (Raising (unwritten (record { kind = Edit edit; value = made.value.value }) made.plan)) new
    writes made makes room =
        let new_value = made.value.value in
        let made_here : MakesPlan (rules_seen c t f old) (c.is_value old.codec) old.store given.value.value edit made = rw (read.same.codec, read.same.store) at makes in
        let text : made.plan ≡ c.encoded old.codec new_value = made_here.writes.text in
        rw text (goes_on c t f origin here old new (changes (makes_other new_value made_here.other) made_here.writes.may.fits) still serves (record {
          entries = room_left 0 ready.entries still.room (omega arith);
          room = rw text at room;
          may =
              λ told v is.
              let is_here : value_after t.after (value_at (rules_seen c t f old).meanings old.store old.list) (Edit edit) ≡ Held v = rw (still.store, still.list) at is in
              let same_value : v ≡ new_value = the_value t.after edit _ given.value.value new_value v (read.held told) made_here.other.makes is_here in
              rw (same_value, still.codec, still.store) made_here.writes.may;
        }))

    pub keeps_value : t.after edit given.value.value ≡ Changed given.value.value → Steps c t f origin here old Moved (SyncingFolder (Kept edit)) new
    keeps_value makes = goes_on c t f origin here old new (keeps read.reads makes) still serves (record { entries = room_left 0 ready.entries still.room (omega arith); room = tt; may = λ told. tt })

  -- the call ends without a plan
  pub makes_none : (err : UpdateError) (after : ShelfSeen C F V T) → AppliedRow (rules_seen c t f mid) (c.is_value mid.codec) mid.store given.value.value edit given.edition (Err err)
      → Frees origin.call [] new after → after.folder ≡ new.folder → Steps c t f origin here old (Ended (Failed err)) Gone after
  makes_none err after row frees folder = by_error err row
    where
      behind : (err : UpdateError) → Line c t f origin here old (asking ReadMain (errs err)) → Steps c t f origin here old (Ended (Failed err)) Gone after
      behind err line = ends_behind c t f origin here old after new line still serves frees folder

      by_error : (err : UpdateError) → AppliedRow (rules_seen c t f mid) (c.is_value mid.codec) mid.store given.value.value edit given.edition (Err err) → Steps c t f origin here old (Ended (Failed err)) Gone after
      by_error (error.Refused code shown) row = rw (row.1 ∙ read.reached) (behind _ (refuses read.reads row.0))
      by_error (error.ValueTooLong len) row =
          let it : MakesTooLong (rules_seen c t f old) (c.is_value old.codec) old.store given.value.value edit len = rw (read.same.codec, read.same.store) at row in
          behind _ (past_limit (makes_other it.new it.other) it.long)
      by_error error.NoMemory row = behind _ lacks_memory
      by_error other row = absurd row

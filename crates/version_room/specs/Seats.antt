-- What a clause says of a seat at a room's table, which is what a pass or a note is.
use Rattle.std.specs.Prelude.{◌≡◌, [], ◌∷◌, Option, Some}
use Rattle.atomic_table.specs.Table.{Me}
use Rattle.atomic_table.specs.declared.shared.Seat.{Seat}
use Rattle.hist_journal.specs.Meaning.{Meaning}
use Rattle.version_room.specs.declared.room.Room.{Room}
use Rattle.version_room.specs.declared.view.Known.{Known}
use Rattle.version_room.specs.declared.view.Stage.TheVariants.{Outside}
use Rattle.version_room.specs.declared.view.View.{View}

module _ {S D E H : Type 0} where
  -- what is known of the pass, or of what the note tells
  abbrev pub known : Seat (Option S) (View D E H) → Known E H
  known seat = seat.me.0.own

  -- the same seat, maybe with another view
  abbrev pub IsSame : Seat (Option S) (View D E H) → Seat (Option S) (View D E H) → Type 0
  IsSame old new = (new.table_id ≡ old.table_id) × (new.id ≡ old.id)

  abbrev pub IsAtTable : Room S D E H → Seat (Option S) (View D E H) → Type 0
  IsAtTable room seat = seat.table_id ≡ room.table.shared.table_id

  -- it has the slot of the state, with this in it
  abbrev pub Carries : Me (Option S) (View D E H) → Option S → Type 0
  Carries me slot = me.1 ≡ (0, slot) ∷ []

  -- it is in no turn, and has no slot
  abbrev pub Rests : Me (Option S) (View D E H) → Type 0
  Rests me = (me.0.stage ≡ Outside) × (me.1 ≡ [])

  -- the head of the room's state, for good
  abbrev pub head_of : Meaning S D E H → Room S D E H → D
  head_of m room = m.head room.table.shared.key.value

  -- the pass or note is of this room, and in no turn
  pub record IsOf (m : Meaning S D E H) (room : Room S D E H) (seat : Seat (Option S) (View D E H)) : Type 0 where
    pub table : IsAtTable room seat
    pub rests : Rests seat.me
    pub head : seat.me.0.head ≡ Some (head_of m room)
    pub alone : seat.me.0.gathered ≡ []

-- What a clause says of a turn.
use Rattle.std.specs.Prelude.{◌≡◌, ◌⊎◌, ℕ, ◌+◌, ◌<◌, List, [], ◌∷◌, length, drop, All, Option, Some, None}
use mathlib.Core.List.{IsPrefix}
use Rattle.atomic_table.specs.Table.{Me}
use Rattle.atomic_table.specs.declared.shared.Seat.{Seat}
use Rattle.hist_journal.specs.Meaning.{Meaning, raises}
use Rattle.version_room.specs.declared.turn_word.Entered.{Entered}
use Rattle.version_room.specs.declared.view.Begun.{Begun}
use Rattle.version_room.specs.declared.view.Known.{Known}
use Rattle.version_room.specs.declared.view.Stage.{Stage}
use Rattle.version_room.specs.declared.view.Stage.TheVariants.{Outside, Waiting, InTurn}
use Rattle.version_room.specs.declared.view.View.{View}
use Rattle.version_room.specs.Known.{HasClient, StaysHeld}
use Rattle.version_room.specs.Seats.{IsSame, known}
use Rattle.version_room.specs.Steps.{Welcomes, raised_once, version_of}
use Rattle.version_room.specs.Views.{after_turn, staged}

module _ {S D E H : Type 0} (m : Meaning S D E H) where
  -- in a turn of the seat `before` that found the state `entry` and raised r times since; the slot has this in it
  pub record Turned (before now : Seat (Option S) (View D E H)) (entry : S) (slot : Option S) (r : ℕ) : Type 0 where
    pub same : IsSame before now
    pub head : before.me.0.head ≡ Some (m.head entry)
    pub alone : before.me.0.gathered ≡ []
    pub begun : Begun E H
    pub now_is : now.me ≡ (staged before.me.0 (InTurn begun), (0, slot) ∷ [])
    pub list : begun.list ≡ m.list entry
    pub holding : begun.holding ≡ m.holding entry
    pub raised : begun.raised ≡ r

  -- a turn began, and the state waits to be taken
  pub record Begins (before now : Seat (Option S) (View D E H)) : Type 0 where
    pub entry : S
    pub turned : Turned before now entry (Some entry) 0
    pub welcomes : Welcomes m entry (known before)

  -- since a turn began: it found the state `entry`, which was taken, and raised r times
  abbrev pub Since : Seat (Option S) (View D E H) → S → ℕ → Seat (Option S) (View D E H) → Type 0
  Since before entry r now = Turned before now entry None r

  -- these are entries of the pass's own calls
  abbrev pub AreOwn : Known E H → List E → Type 0
  AreOwn k entries = All (λ e. HasClient k (m.client e)) entries

  -- x may be left of a turn that found the state `entry` and raised r times: with the same head, and a list that goes on
  -- by own entries alone, r of them raises; what the state held for a client of another pass it still holds
  pub record Follows (k : Known E H) (entry : S) (r : ℕ) (x : S) : Type 0 where
    pub head : m.head x ≡ m.head entry
    pub longer : IsPrefix (m.list entry) (m.list x)
    pub mine : AreOwn k (drop (length (m.list entry)) (m.list x))
    pub others : (h : H) → m.holding entry ≡ Some h → HasClient k (m.holder h) ⊎ StaysHeld m x h
    pub raised : raises m (m.list x) ≡ raises m (m.list entry) + r

  pub record MayLeave (now : Seat (Option S) (View D E H)) (x : S) : Type 0 where
    pub before : Seat (Option S) (View D E H)
    pub entry : S
    pub r : ℕ
    pub since : Since before entry r now
    pub follows : Follows (known before) entry r x

  -- the turn ended, and x was left
  abbrev pub HasLeft : Seat (Option S) (View D E H) → S → Seat (Option S) (View D E H) → Type 0
  HasLeft now x gone =
      (before : Seat (Option S) (View D E H)) (entry : S) (r : ℕ) → Since before entry r now
      → IsSame before gone × (gone.me ≡ (after_turn m before.me.0 (m.list entry) x, []))

  -- the version in a turn, as the number of a word
  abbrev pub number_of : Stage E H → ℕ
  number_of Outside = 0
  number_of (Waiting ticket) = 0
  number_of (InTurn b) = version_of m b

  abbrev pub IsNumber : Stage E H → ℕ → Type 0
  IsNumber stage n = (b : Begun E H) → stage ≡ InTurn b → n ≡ version_of m b

  abbrev pub CanRaise : Stage E H → Type 0
  CanRaise stage = (b : Begun E H) × (stage ≡ InTurn b) × (version_of m b < 18446744073709551615)

-- the turn as it began
module _ {E H : Type 0} where
  abbrev pub begun_of : Stage E H → Option (Begun E H)
  begun_of Outside = None
  begun_of (Waiting ticket) = None
  begun_of (InTurn b) = Some (record b { raised = 0 })

module _ {S D E H : Type 0} where
  abbrev pub HasRaised : Me (Option S) (View D E H) → Me (Option S) (View D E H) → Type 0
  HasRaised me now = (b : Begun E H) → me.0.stage ≡ InTurn b → now ≡ (staged me.0 (InTurn (raised_once b)), me.1)

  abbrev pub made_of : ℕ → Seat (Option S) (View D E H) → Entered S D E H
  made_of name seat = record { seat = record seat { me = (staged seat.me.0 Outside, seat.me.1) }; pass = name; begun = begun_of seat.me.0.stage }

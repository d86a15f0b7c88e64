-- What each step on the table tells its caller.
use Rattle.std.specs.Prelude.{◌≡◌, ℕ, ◌+◌, ◌≤◌, ◌==◌, [], ◌∷◌, Option, Some, MatchBool}
use mathlib.Core.List.{IsPrefix}
use Rattle.atomic_table.specs.Table.{Me, Step}
use Rattle.hist_journal.specs.Meaning.{Meaning, raises, of_clients}
use Rattle.version_room.specs.declared.view.Begun.{Begun}
use Rattle.version_room.specs.declared.view.Known.{Known}
use Rattle.version_room.specs.declared.view.Stage.TheVariants.{Waiting, InTurn}
use Rattle.version_room.specs.declared.view.View.{View}
use Rattle.version_room.specs.Known.{StaysHeld}
use Rattle.version_room.specs.Views.{after_learning, after_load, after_turn, staged}

abbrev pub raised_once : {E H : Type 0} → Begun E H → Begun E H
raised_once b = record b { raised = b.raised + 1 }

module _ {S D E H : Type 0} (m : Meaning S D E H) where
  -- the version in a turn: the raises of the list at entry and the turn's own
  abbrev pub version_of : Begun E H → ℕ
  version_of b = raises m b.list + b.raised

  abbrev pub begun_at : ℕ → S → Begun E H
  begun_at ticket x = record { ticket = ticket; list = m.list x; holding = m.holding x; raised = 0 }

  -- what the state at entry is to a pass of which this was known
  pub record Welcomes (x : S) (k : Known E H) : Type 0 where
    pub seen : IsPrefix k.seen (m.list x)
    pub last : k.last ≤ raises m (m.list x)
    pub mine : k.mine ≡ of_clients m k.low k.high (m.list x)
    pub held : (h : H) → k.held ≡ Some h → StaysHeld m x h

  -- the seat has the state, and is in a turn
  pub record Enters (me now : Me (Option S) (View D E H)) : Type 0 where
    pub ticket : ℕ
    pub entry : S
    pub now_is : now ≡ (staged me.0 (InTurn (begun_at ticket entry)), (0, Some entry) ∷ [])
    pub head : (d : D) → me.0.head ≡ Some d → m.head entry ≡ d
    pub welcomes : Welcomes entry me.0.own

  -- Each is of the step, the seat before, the number found, and the seat after
  abbrev pub Tells : Type 1
  Tells = Step (Option S) → Me (Option S) (View D E H) → ℕ → Me (Option S) (View D E H) → Type 0

  abbrev pub draws : Tells
  draws step me n now = MatchBool (n == step.first) (now ≡ (staged me.0 (Waiting step.first), me.1)) (now ≡ me)

  abbrev pub looks : Tells
  looks step me n now = (ticket : ℕ) → me.0.stage ≡ Waiting ticket → MatchBool (n == ticket) (Enters me now) (now ≡ me)

  abbrev pub hears : Tells
  hears step me n now = (now ≡ me) × ((b : Begun E H) → me.0.stage ≡ InTurn b → n ≡ version_of b)

  abbrev pub lifts : Tells
  lifts step me n now = (b : Begun E H) → me.0.stage ≡ InTurn b → now ≡ (staged me.0 (InTurn (raised_once b)), me.1)

  abbrev pub ends : Tells
  ends step me n now = (b : Begun E H) (x : S) → me.0.stage ≡ InTurn b → me.1 ≡ (0, Some x) ∷ [] → now ≡ (after_turn m me.0 b.list x, [])

  abbrev pub loads : Tells
  loads step me n now = (now ≡ (after_load me.0 n, me.1)) × (raises m me.0.own.seen ≤ n) × (me.0.own.last ≤ n)

  abbrev pub learns : Tells
  learns step me n now = (now ≡ (after_learning me.0, me.1)) × IsPrefix me.0.own.seen now.0.own.seen × IsPrefix me.0.told now.0.own.seen

-- The rule of the table: word 0 is the version, word 1 the next ticket, word 2 the ticket that is served, and slot 0
-- holds the state.
use Rattle.std.specs.Prelude.{◌≡◌, ◌⊎◌, ℕ, ◌+◌, ◌<◌, ◌≤◌, Bool, true, false, List, [], ◌∷◌, All, Option, Some}
use mathlib.Core.Option.{some}
use mathlib.Core.Option as maybe
use mathlib.Core.List.{IsPrefix}
use lib.ListN.{get_elem?}
use Rattle.atomic_table.specs.Table.{State}
use Rattle.hist_journal.specs.Meaning.{Meaning, raises, of_clients}
use Rattle.version_room.specs.declared.view.Begun.{Begun}
use Rattle.version_room.specs.declared.view.Known.{Known}
use Rattle.version_room.specs.declared.view.Stage.{Stage}
use Rattle.version_room.specs.declared.view.Stage.TheVariants.{Outside, Waiting, InTurn}
use Rattle.version_room.specs.declared.view.View.{View}
use Rattle.version_room.specs.Known.{HasClient, HasSomeClient}

-- What is so at one moment: the state's list and holding when it was last in its slot, the raises of the turn in
-- progress, whose turn it is, who has each client number, who drew each ticket, and the three words
pub record Moment (E H : Type 0) : Type 0 where
  pub now : List E
  pub hold : Option H
  pub raised : ℕ
  pub owner : ℕ
  -- the state is out of its slot, with the owner
  pub out : Bool
  pub who : ℕ → ℕ
  pub drawn : ℕ → ℕ
  pub version : ℕ
  pub ticket : ℕ
  pub serving : ℕ

module _ {E H : Type 0} (t : Moment E H) (seat : ℕ) where
  -- the seat waits with this ticket
  pub record Waits (ticket : ℕ) : Type 0 where
    pub unserved : t.serving ≤ ticket
    pub before : ticket < t.ticket
    pub drawn : t.drawn ticket ≡ seat

  -- the turn in progress is this one, of the seat
  pub record HasTurn (b : Begun E H) : Type 0 where
    pub served : b.ticket ≡ t.serving
    pub before : b.ticket < t.ticket
    pub drawn : t.drawn b.ticket ≡ seat
    pub owner : t.owner ≡ seat
    pub out : t.out ≡ true
    pub list : b.list ≡ t.now
    pub holding : b.holding ≡ t.hold
    pub raised : b.raised ≡ t.raised

  abbrev pub Stands : Stage E H → Type 0
  Stands Outside = Unit {0}
  Stands (Waiting ticket) = Waits ticket
  Stands (InTurn b) = HasTurn b

-- the state is out of its slot, with a seat that is in a turn and has a client number
pub record IsOutWith {D E H : Type 0} (owner : ℕ) (out : Bool) (views : List (View D E H)) : Type 0 where
  pub v : View D E H
  pub begun : Begun E H
  pub at : get_elem? views owner ≡ some v
  pub stage : v.stage ≡ InTurn begun
  pub some_client : HasSomeClient v.own
  pub gone : out ≡ true

abbrev pub IsOut : {D E H : Type 0} → Moment E H → List (View D E H) → Type 0
IsOut t views = IsOutWith t.owner t.out views

module _ {S D E H : Type 0} (m : Meaning S D E H) (head : D) where
  -- what is known of a pass is true
  pub record IsTrueOf (now : List E) (hold : Option H) (version : ℕ) (who : ℕ → ℕ) (seat : ℕ) (k : Known E H) : Type 0 where
    pub seen : IsPrefix k.seen now
    pub mine : k.mine ≡ of_clients m k.low k.high now
    pub last : k.last ≤ version
    pub held : (h : H) → k.held ≡ Some h → HasClient k (m.holder h) × ((hold ≡ Some h) ⊎ m.lapsed h now)
    pub clients : (n : ℕ) → HasClient k n → who n ≡ seat

  abbrev pub IsTrueAt : Moment E H → ℕ → Known E H → Type 0
  IsTrueAt t seat k = IsTrueOf t.now t.hold t.version t.who seat k

  pub record Fits (t : Moment E H) (seat : ℕ) (v : View D E H) : Type 0 where
    pub head_is : (d : D) → v.head ≡ Some d → d ≡ head
    pub own : IsTrueAt t seat v.own
    pub gathered : All (IsTrueAt t seat) v.gathered
    pub told : IsPrefix v.told t.now
    pub stands : Stands t seat v.stage

  -- the state is in its slot
  pub record IsHomeWith (now : List E) (hold : Option H) (raised : ℕ) (out : Bool) (home : maybe.Option (Option S)) : Type 0 where
    pub x : S
    pub is : home ≡ some (Some x)
    pub head_is : m.head x ≡ head
    pub list_is : m.list x ≡ now
    pub holding_is : m.holding x ≡ hold
    pub quiet : raised ≡ 0
    pub inside : out ≡ false

  abbrev pub IsHome : Moment E H → maybe.Option (Option S) → Type 0
  IsHome t home = IsHomeWith t.now t.hold t.raised t.out home

  pub record Keeps (s : State (Option S) (View D E H)) : Type 0 where
    pub t : Moment E H
    pub home : maybe.Option (Option S)
    pub words_are : s.words ≡ t.version ∷ t.ticket ∷ t.serving ∷ []
    pub homes_are : s.homes ≡ home ∷ []
    pub ticket_fits : t.ticket < 18446744073709551616
    pub order : t.serving ≤ t.ticket
    pub version_is : t.version ≡ raises m t.now + t.raised
    pub state : IsHome t home ⊎ IsOut t s.views
    pub each : (seat : ℕ) (v : View D E H) → get_elem? s.views seat ≡ some v → Fits t seat v

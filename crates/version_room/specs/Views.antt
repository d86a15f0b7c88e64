-- What a seat knows, and what each step makes of it.
use Rattle.std.specs.Prelude.{ℕ, List, [], ◌∷◌, Option, Some, None}
use Rattle.hist_journal.specs.Meaning.{Meaning}
use Rattle.version_room.specs.declared.view.Known.{Known}
use Rattle.version_room.specs.declared.view.Stage.{Stage}
use Rattle.version_room.specs.declared.view.Stage.TheVariants.{Outside}
use Rattle.version_room.specs.declared.view.View.{View}
use Rattle.version_room.specs.Known.{begins_with, first_known, with_load, with_the_least, with_the_rest, with_told, with_turn}

module _ {D E H : Type 0} where
  abbrev pub fresh_view : Option D → Known E H → View D E H
  fresh_view head k = record { head = head; own = k; stage = Outside; told = []; gathered = [] }

  abbrev pub first_view : D → View D E H
  first_view head = fresh_view (Some head) first_known

  -- the same at another stage
  abbrev pub staged : View D E H → Stage E H → View D E H
  staged v stage = record v { stage = stage }

  abbrev pub after_load : View D E H → ℕ → View D E H
  after_load v n = record v { own = with_load v.own n }

  abbrev pub after_learning : View D E H → View D E H
  after_learning v = record v { own = with_told v.own v.told }

  -- of a pass that is split, the one keeps the rest, the other takes the least client number
  abbrev pub keeps_the_rest : View D E H → View D E H
  keeps_the_rest v = record v { own = with_the_rest v.own }

  abbrev pub takes_the_least : View D E H → View D E H
  takes_the_least v = fresh_view v.head (with_the_least v.own)

  -- a note has no client number
  abbrev pub note_view : View D E H → View D E H
  note_view v = fresh_view v.head (begins_with v.own.seen 0 0)

  abbrev pub hears_of : View D E H → View D E H → View D E H
  hears_of v note = record v { told = note.own.seen }

  abbrev pub gathers : View D E H → View D E H → View D E H
  gathers v other = record v { gathered = other.own ∷ v.gathered }

  -- a seat that was joined to another
  abbrev pub given_up : View D E H
  given_up = fresh_view None (begins_with [] 0 0)

-- after a turn that found this list and left the state x
abbrev pub after_turn : {S D E H : Type 0} → Meaning S D E H → View D E H → List E → S → View D E H
after_turn m v list x = record v { own = with_turn m v.own list x; stage = Outside }

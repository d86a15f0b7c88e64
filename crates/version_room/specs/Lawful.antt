-- What the types of passes and notes keep.
use Rattle.std.specs.Prelude.{◌≡◌, Some}
use Rattle.hist_journal.specs.Meaning.{Meaning}
use Rattle.version_room.specs.declared.view.View.{View}

-- the list that was seen is lawful under the head
abbrev pub IsLawful : {S D E H : Type 0} → Meaning S D E H → View D E H → Type 0
IsLawful {S} {D} m v = (head : D) → v.head ≡ Some head → m.lawful head v.own.seen

-- A small store of one number, which is 0 where there is no file.
use Rattle.std.specs.Prelude.{◌≡◌, ℕ, ◌+◌, ◌-◌, ◌^◌, nat_le, true, List, [], ◌∷◌, Option, Some, None, if◌then◌else◌}
use Rattle.store_traits.specs.declared.applied.Applied.{Applied}
use Rattle.store_traits.specs.declared.applied.Applied.TheVariants.{Changed, Refused}
use Rattle.store_traits.specs.declared.ids.NodeId.{NodeId}
use Rattle.hist_journal.specs.declared.seen.BaseSeen.{BaseSeen}
use Rattle.hist_journal.specs.declared.seen.BaseSeen.TheVariants.{Held, Corrupt, TooLong}
use Rattle.hist_journal.specs.declared.seen.EntrySeen.{EntrySeen}
use Rattle.hist_journal.specs.declared.seen.KindSeen.{KindSeen}
use Rattle.shelf.specs.declared.examples.ExampleEdit.{ExampleEdit}
use Rattle.shelf.specs.declared.examples.ExampleEdit.TheVariants.{Set, Add}
use Rattle.shelf.specs.declared.store.Store.{Store}
use Rattle.shelf.specs.Meanings.{Meanings}

abbrev pub after : ExampleEdit → ℕ → Applied ℕ
after (Set n) old = Changed n
after (Add n) old = if nat_le (old + n) (2 ^ 31 - 1) then Changed (old + n) else Refused 2

abbrev pub meanings : Meanings ℕ ExampleEdit
meanings = record { after = after }

-- a file has the number as its one byte
abbrev pub encoded : ℕ → List ℕ
encoded n = n ∷ []

abbrev pub reads : List ℕ → ℕ → Type 0
reads bytes n = bytes ≡ encoded n

abbrev pub n1 : NodeId
n1 = record { 0 = 1 }

abbrev pub n2 : NodeId
n2 = record { 0 = 2 }

-- nobody plans a death, there are no old settings, and no device had a fault
abbrev pub store : BaseSeen ℕ → Option (List ℕ) → Option ℕ → Store ℕ (Unit {0})
store base main handler =
    record {
      base = base;
      nodes = n1 ∷ n2 ∷ [];
      handler = handler;
      migrations = [];
      limits = record { file = 1048576; history = record { entries = 100000; weight = 67108864 } };
      deaths = [];
      main = main;
      sections = [];
      folder = record { count = 0; most = None };
      legacy = record { count = 0; most = None };
      alone = true;
    }

-- there is no file
abbrev pub empty : Store ℕ (Unit {0})
empty = store (Held 0) None None

-- the file holds the number 1
abbrev pub holds_one : Store ℕ (Unit {0})
holds_one = store (Held 1) (Some (1 ∷ [])) None

-- the file is unreadable, and 0 takes its place
abbrev pub unreadable : Store ℕ (Unit {0})
unreadable = store Corrupt (Some (10 ∷ 10 ∷ [])) (Some 0)

-- the same, where a file may have one byte
abbrev pub too_long : Store ℕ (Unit {0})
too_long = record unreadable { base = TooLong 2; limits = record { file = 1; history = record { entries = 100000; weight = 67108864 } } }

-- the folder failed once before
abbrev pub failed_once : Store ℕ (Unit {0})
failed_once = record empty { folder = record { count = 1; most = None } }

abbrev pub Entry : Type 0
Entry = EntrySeen ℕ ExampleEdit

-- the call with this number of client a, which is on n1
abbrev pub a : ℕ → KindSeen ℕ ExampleEdit → Entry
a number kind = record { who = record { node = n1; client = record { 0 = 1 }; number = number }; kind = kind }

-- of client b, which is on n2
abbrev pub b : ℕ → KindSeen ℕ ExampleEdit → Entry
b number kind = record { who = record { node = n2; client = record { 0 = 2 }; number = number }; kind = kind }

-- of client c, which is on n1 too
abbrev pub c : ℕ → KindSeen ℕ ExampleEdit → Entry
c number kind = record { who = record { node = n1; client = record { 0 = 3 }; number = number }; kind = kind }

-- What an entry makes of the value before it.
use Rattle.std.specs.Prelude.{◌≡◌, ◌≢◌, Option, Some}
use Rattle.store_traits.specs.declared.applied.Applied.{Applied}
use Rattle.store_traits.specs.declared.applied.Applied.TheVariants.{Changed}
use Rattle.hist_journal.specs.declared.seen.BaseSeen.{BaseSeen}
use Rattle.hist_journal.specs.declared.seen.BaseSeen.TheVariants.{Held, Corrupt}
use Rattle.hist_journal.specs.declared.seen.KindSeen.{KindSeen}
use Rattle.hist_journal.specs.declared.seen.KindSeen.TheVariants.{Edit, Same, Replace}

-- `after` is what a transform makes of a value, `handler` the value that replaces an unreadable file, `value` the value before the entry
module _ {V T : Type 0} (after : T → V → Applied V) (handler : Option V) (value : BaseSeen V) where
  -- the transform makes another value of it
  pub record ChangesValue (t : T) : Type 0 where
    pub old : V
    pub new : V
    pub held : value ≡ Held old
    pub makes : after t old ≡ Changed new
    pub differs : new ≢ old

  -- the transform makes the same value of it
  pub record KeepsValue (t : T) : Type 0 where
    pub old : V
    pub held : value ≡ Held old
    pub makes : after t old ≡ Changed old

  -- the file is unreadable, and this is the handler's value
  pub record ReplacesUnreadable (v : V) : Type 0 where
    pub unreadable : value ≡ Corrupt
    pub given : handler ≡ Some v

  -- an Edit changes the value, a Same keeps it, and a Replace takes the place of an unreadable file
  abbrev pub MakesValue : KindSeen V T → Type 0
  MakesValue (Edit t) = ChangesValue t
  MakesValue (Same t) = KeepsValue t
  MakesValue (Replace v) = ReplacesUnreadable v
  MakesValue other = Unit {0}

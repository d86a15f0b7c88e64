-- What comes of the value that an update read.
use Rattle.std.specs.Prelude.{◌≡◌, ◌≢◌, ℕ, Option, Some, None, Result, Ok, Err}
use Rattle.store_traits.specs.declared.applied.Applied.TheVariants.{Changed, Refused}
use Rattle.store_traits.specs.declared.update_error.UpdateError.{UpdateError}
use Rattle.store_traits.specs.declared.update_error.UpdateError.TheVariants as error
use Rattle.shelf.specs.declared.store.Store.{Store}
use Rattle.shelf.specs.PastBounds.{IsPastLimit}
use Rattle.shelf.specs.Plans.{Writes}
use Rattle.shelf.specs.Rules.{Rules}
use Rattle.node_core.specs.declared.applying.Made.{Made}

module _ {V T M : Type 0} (r : Rules V T) (IsValue : V → Type 0) (s : Store V M) (old : V) (edit : T) where
  -- the edit makes this other value
  pub record MakesOther (new : V) : Type 0 where
    pub makes : r.meanings.after edit old ≡ Changed new
    pub differs : new ≢ old

  -- which is to be written by this plan
  pub record MakesPlan (made : Made V) : Type 0 where
    pub other : MakesOther made.value.value
    pub writes : Writes r IsValue s made.value.value made.plan

  -- or whose text has this length and is too long
  pub record MakesTooLong (len : ℕ) : Type 0 where
    pub new : V
    pub other : MakesOther new
    pub long : IsPastLimit r s new len

  -- a plan, or none where the edit keeps the value; or why there is none. `edition` is that of the value
  abbrev pub AppliedRow : ℕ → Result (Option (Made V)) UpdateError → Type 0
  AppliedRow edition (Ok None) = r.meanings.after edit old ≡ Changed old
  AppliedRow edition (Ok (Some made)) = MakesPlan made
  AppliedRow edition (Err (error.Refused code shown)) = (r.meanings.after edit old ≡ Refused code) × (shown ≡ edition)
  AppliedRow edition (Err (error.ValueTooLong len)) = MakesTooLong len
  AppliedRow edition (Err error.NoMemory) = Unit {0}
  AppliedRow edition other = ⊥

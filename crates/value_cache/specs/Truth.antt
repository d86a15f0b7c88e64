-- Of which history a cached value is.
use Rattle.std.specs.Prelude.{◌≡◌, ◌++◌, List}
use Rattle.store_traits.specs.declared.applied.Applied.{Applied}
use Rattle.hist_journal.specs.declared.seen.BaseSeen.{BaseSeen}
use Rattle.hist_journal.specs.declared.seen.BaseSeen.TheVariants.{Held}
use Rattle.hist_journal.specs.declared.seen.EntrySeen.{EntrySeen}
use Rattle.hist_journal.specs.Folds.{edition_of, raises_of, value_of}
use Rattle.hist_journal.specs.Quiet.{Quiet}
use Rattle.value_cache.specs.Cached.{Cached}

-- `after` is what a transform makes of a value, and `base` where histories begin
module _ {V T : Type 0} (after : T → V → Applied V) (base : BaseSeen V) where
  -- the history is quiet, and comes to this value, at its version and its edition
  pub record IsValueOf (list : List (EntrySeen V T)) (cached : Cached V) : Type 0 where
    pub quiet : Quiet list
    pub version : cached.version ≡ raises_of list
    pub edition : cached.edition ≡ edition_of list
    pub value : value_of after base list ≡ Held cached.value

  -- it is of a quiet prefix of this history
  pub record IsOfPrefix (list : List (EntrySeen V T)) (cached : Cached V) : Type 0 where
    pub front : List (EntrySeen V T)
    pub back : List (EntrySeen V T)
    pub is : list ≡ front ++ back
    pub of : IsValueOf front cached

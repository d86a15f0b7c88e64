-- What is of a prefix of a history stays so.
use Rattle.std.proofs.Common.{◌∙◌, Bool, true, false, List, [], ◌++◌, Option, Some, None, IfSome, nat_lt, sym, ap, append_assoc, append-nil, if◌then◌else◌}
use Rattle.store_traits.specs.declared.applied.Applied.{Applied}
use Rattle.hist_journal.specs.declared.seen.BaseSeen.{BaseSeen}
use Rattle.hist_journal.specs.declared.seen.EntrySeen.{EntrySeen}
use Rattle.value_cache.specs.Cached.{Cached, published}
use Rattle.value_cache.specs.Truth.{IsOfPrefix, IsValueOf}

either : {X : Type 0} (P : X → Type 0) (b : Bool) (x y : X) → P x → P y → P (if b then x else y)
either P true x y p q = p
either P false x y p q = q

module _ {V T : Type 0} (after : T → V → Applied V) (base : BaseSeen V) where
  pub IsOfPrefix-now : (list : List (EntrySeen V T)) (cached : Cached V) → IsValueOf after base list cached → IsOfPrefix after base list cached
  IsOfPrefix-now list cached of = record { front = list; back = []; is = sym (append-nil list); of = of }

  pub IsOfPrefix-append : (list more : List (EntrySeen V T)) (cached : Cached V) → IsOfPrefix after base list cached → IsOfPrefix after base (list ++ more) cached
  IsOfPrefix-append list more cached it =
      record {
        front = it.front;
        back = it.back ++ more;
        is = ap (λ (xs : List (EntrySeen V T)). xs ++ more) it.is ∙ append_assoc it.front it.back more;
        of = it.of;
      }

  pub IsOfPrefix-published : (list : List (EntrySeen V T)) (kept : Option (Cached V)) (new : Cached V)
      → IfSome kept (IsOfPrefix after base list) → IsOfPrefix after base list new → IfSome (published kept new) (IsOfPrefix after base list)
  IsOfPrefix-published list None new old it = it
  IsOfPrefix-published list (Some kept) new old it = either (IsOfPrefix after base list) (nat_lt kept.version new.version) new kept it old

-- Tests of entries at their places, together with what stands around them.
use Rattle.std.proofs.Common.{◌≡◌, ◌+◌, ℕ, Bool, true, false, List, ◌∷◌, ◌++◌, length, refl}
use Rattle.std.specs.List.{list_any}
use Rattle.store_traits.specs.declared.ids.CallId.{CallId}
use Rattle.hist_journal.specs.declared.seen.EntrySeen.{EntrySeen}
use Rattle.hist_journal.specs.declared.seen.KindSeen.{KindSeen}
use Rattle.shelf.specs.Decided.{Decided}
use Rattle.shelf.specs.Entries.{is_any, is_own}
use Rattle.shelf.specs.Places.{Follows, StandsAt}
use Rattle.shelf.proofs.ListTests.{Place, some}
use Rattle.shelf.proofs.Tests.{both, like, no, same_number, yes}

module _ {V T : Type 0} where
  module _ (passes : EntrySeen V T → Bool) (place : ℕ) (Around : List (EntrySeen V T) → EntrySeen V T → List (EntrySeen V T) → Type 0) where
    pub record StandsSo (list : List (EntrySeen V T)) : Type 0 where
      pub stands : StandsAt passes place list
      pub around : Around stands.before stands.entry stands.behind

    abbrev pub IsThere : List (EntrySeen V T) → EntrySeen V T → List (EntrySeen V T) → Type 0
    IsThere before e behind = (place ≡ length before + 1) × ((passes e ≡ true) × Around before e behind)

    abbrev pub stands_so : ((before : List (EntrySeen V T)) (e : EntrySeen V T) (behind : List (EntrySeen V T)) → Decided (Around before e behind)) → (list : List (EntrySeen V T)) → Decided (StandsSo list)
    stands_so one list =
        like
        (λ it. record { stands = record { before = it.before; entry = it.here; behind = it.behind; is = it.is; counted = it.stands.0; passed = it.stands.1.0 }; around = it.stands.1.1 })
        (λ it. let s = it.stands in record { before = s.before; here = s.entry; behind = s.behind; is = s.is; stands = (s.counted, (s.passed, it.around)) })
        (some IsThere (λ before e behind. both (same_number place (length before + 1)) (both (yes (passes e)) (one before e behind))) list)

  module _ (is_first is_second : KindSeen V T → Bool) (call : CallId) (Around : List (EntrySeen V T) → EntrySeen V T → List (EntrySeen V T) → List (EntrySeen V T) → Type 0) where
    -- around two entries: those before, the first, those between, and those behind
    pub record FollowsSo (list : List (EntrySeen V T)) : Type 0 where
      pub follows : Follows is_first is_second call list
      pub around : Around follows.before follows.first follows.between follows.behind

    abbrev pub IsNext : List (EntrySeen V T) → EntrySeen V T → List (EntrySeen V T) → EntrySeen V T → List (EntrySeen V T) → Type 0
    IsNext before first between second behind = (list_any (is_own is_any call) between ≡ false) × ((is_own is_second call second ≡ true) × Around before first between behind)

    abbrev pub Opens : List (EntrySeen V T) → EntrySeen V T → List (EntrySeen V T) → Type 0
    Opens before first rest = (is_own is_first call first ≡ true) × Place (IsNext before first) rest

    pub follows_from : (list : List (EntrySeen V T)) → Place Opens list → FollowsSo list
    follows_from list it =
        let end = it.stands.1 in
        record {
          follows =
              record {
                before = it.before;
                first = it.here;
                between = end.before;
                second = end.here;
                behind = end.behind;
                is = rw end.is at it.is;
                opens = it.stands.0;
                next = end.stands.0;
                closes = end.stands.1.0;
              };
          around = end.stands.1.1;
        }

    pub place_of : (list : List (EntrySeen V T)) → FollowsSo list → Place Opens list
    place_of list it =
        let f = it.follows in
        let end : Place (IsNext f.before f.first) (f.between ++ f.second ∷ f.behind) =
        record { before = f.between; here = f.second; behind = f.behind; is = refl; stands = (f.next, (f.closes, it.around)) }
        in
        record { before = f.before; here = f.first; behind = f.between ++ f.second ∷ f.behind; is = f.is; stands = (f.opens, end) }

    module _ (one : (before : List (EntrySeen V T)) (first : EntrySeen V T) (between behind : List (EntrySeen V T)) → Decided (Around before first between behind)) where
      abbrev pub next : (before : List (EntrySeen V T)) (first : EntrySeen V T) (between : List (EntrySeen V T)) (second : EntrySeen V T) (behind : List (EntrySeen V T)) → Decided (IsNext before first between second behind)
      next before first between second behind = both (no (list_any (is_own is_any call) between)) (both (yes (is_own is_second call second)) (one before first between behind))

      abbrev pub follows_so : (list : List (EntrySeen V T)) → Decided (FollowsSo list)
      follows_so list =
          like (follows_from list) (place_of list) (some Opens (λ before first rest. both (yes (is_own is_first call first)) (some (IsNext before first) (next before first) rest)) list)

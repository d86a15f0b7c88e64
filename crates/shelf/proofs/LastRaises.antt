-- Whether a call told of a Raise last, as the history grows.
use Rattle.std.proofs.Common.{◌≡◌, Bool, true, false, List, [], ◌∷◌, ◌++◌, ◌&&◌, refl, if◌then◌else◌}
use Rattle.std.specs.List.{list_any}
use Rattle.std.proofs.lemmas.Bool.{or_parts}
use Rattle.store_traits.specs.declared.ids.CallId.{CallId}
use Rattle.hist_journal.specs.declared.seen.EntrySeen.{EntrySeen}
use Rattle.hist_journal.specs.declared.seen.KindSeen.{KindSeen}
use Rattle.hist_journal.specs.Kinds.{is_call, is_raise}
use Rattle.shelf.specs.Entries.{is_any, is_own}
use Rattle.shelf.specs.LastRaise.{ends_in_raise}
use Rattle.shelf.specs.Meanwhile.{NoneOf}
use Rattle.shelf.proofs.SameCalls.{itself}

not_own : (own : Bool) → (own && true) ≡ false → own ≡ false
not_own true none = none
not_own false none = refl

module _ {V T : Type 0} (call : CallId) where
  -- behind an entry of its own, that one decides
  pub ends_in_raise-push : (so_far : Bool) (list : List (EntrySeen V T)) (kind : KindSeen V T) → ends_in_raise call so_far (list ++ record { who = call; kind = kind } ∷ []) ≡ is_raise kind
  unfolding ends_in_raise
  ends_in_raise-push so_far [] kind = rw (itself call) refl
  ends_in_raise-push so_far (e ∷ es) kind = ends_in_raise-push (if is_call call e.who then is_raise e.kind else so_far) es kind

  -- entries of others decide nothing
  none_decides : (so_far : Bool) (more : List (EntrySeen V T)) → NoneOf call more → ends_in_raise call so_far more ≡ so_far
  unfolding ends_in_raise
  none_decides so_far [] none = refl
  none_decides so_far (e ∷ es) none =
      let parts = or_parts (is_own is_any call e) (list_any (is_own is_any call) es) none in
      rw (not_own (is_call call e.who) parts.0) (none_decides so_far es parts.1)

  pub ends_in_raise-others : (so_far : Bool) (list more : List (EntrySeen V T)) → NoneOf call more → ends_in_raise call so_far (list ++ more) ≡ ends_in_raise call so_far list
  unfolding ends_in_raise
  ends_in_raise-others so_far [] more none = none_decides so_far more none
  ends_in_raise-others so_far (e ∷ es) more none = ends_in_raise-others (if is_call call e.who then is_raise e.kind else so_far) es more none

  -- a call of which nothing was told ends in none
  pub ends_in_raise-none : (list : List (EntrySeen V T)) → NoneOf call list → ends_in_raise call false list ≡ false
  ends_in_raise-none list none = none_decides false list none

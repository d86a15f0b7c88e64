-- The turn in which an update ends.
use Rattle.std.proofs.Common.{◌≡◌, ◌∙◌, Bool, true, false, List, [], ◌∷◌, ◌++◌, Option, Some, None, refl, sym, if◌then◌else◌}
use Rattle.store_traits.specs.declared.ids.CallId.{CallId}
use Rattle.hist_journal.specs.declared.seen.EntrySeen.{EntrySeen}
use Rattle.hist_journal.specs.declared.seen.KindSeen.{KindSeen}
use Rattle.hist_journal.specs.declared.seen.KindSeen.TheVariants.{Same, Synced}
use Rattle.hist_journal.specs.Kinds.{is_raise}
use Rattle.hist_journal.specs.Nodes.{is_ready}
use Rattle.hist_journal.specs.Quiet.{ends, pending, pending_after, still_pending}
use Rattle.hist_journal.proofs.QuietLemmas.{pending-push}
use Rattle.shelf.specs.declared.store.Store.{Store}
use Rattle.shelf.specs.Changes.{KeepsValue}
use Rattle.shelf.specs.Legal.{value_at}
use Rattle.shelf.specs.Meanings.{Meanings}
use Rattle.shelf.specs.ShelfTurns.{FitInTurn}
use Rattle.shelf.proofs.GoingOn.{GoesOn, same_fits, synced_fits}

still_not : (ended : Bool) (was call : CallId) → (Some was ≡ Some call → ⊥) → (if ended then None else Some was) ≡ Some call → ⊥
still_not true was call not is = let no : None ≡ Some call = is in cc
still_not false was call not is = not is

not_raised_by : (is_ended : CallId → Bool) (was : Option CallId) (call : CallId) → (was ≡ Some call → ⊥) → still_pending is_ended was ≡ Some call → ⊥
not_raised_by is_ended None call not is = not is
not_raised_by is_ended (Some was) call not is = still_not (is_ended was) was call not is

-- no entry but a Raise opens one
pub not_raised : {V T : Type 0} (call : CallId) (list : List (EntrySeen V T)) (kind : KindSeen V T) → is_raise kind ≡ false → (pending list ≡ Some call → ⊥) → pending (list ++ record { who = call; kind = kind } ∷ []) ≡ Some call → ⊥
not_raised {V} {T} call list kind other not is =
    let e : EntrySeen V T = record { who = call; kind = kind } in
    let after : pending_after (pending list) e ≡ Some call = sym (pending-push list e) ∙ is in
    let still : still_pending (λ pending. ends pending e) (pending list) ≡ Some call = rw other at after in
    not_raised_by (λ pending. ends pending e) (pending list) call not still

module _ {V T : Type 0} (call : CallId) (list : List (EntrySeen V T)) where
  -- nor do a Same and a Synced
  pub not_raised_twice : (edit : T) → (pending list ≡ Some call → ⊥) → pending ((list ++ record { who = call; kind = Same edit } ∷ []) ++ record { who = call; kind = Synced } ∷ []) ≡ Some call → ⊥
  not_raised_twice edit not = not_raised call (list ++ record { who = call; kind = Same edit } ∷ []) Synced refl (not_raised call list (Same edit) refl not)

  -- the entries of an update that kept the value
  pub kept_fits : {M : Type 0} (m : Meanings V T) (s : Store V M) (edit : T) → GoesOn call list → is_ready call.node list ≡ true → KeepsValue m.after s.handler (value_at m s list) edit → FitInTurn m s call (Same edit ∷ Synced ∷ []) list
  kept_fits m s edit goes ready keeps = (same_fits call m s list goes edit ready keeps, (synced_fits call m s list goes (Same edit) refl, tt))

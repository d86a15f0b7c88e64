-- A call that may change the value is the pending one.
use Rattle.std.proofs.Common.{◌≡◌, inl, inr, Bool, true, false, ◌||◌, ◌&&◌, not, List, [], ◌∷◌, Some, refl}
use Rattle.std.specs.List.{list_any}
use Rattle.std.proofs.lemmas.Bool.{or_parts, or_from, and_parts, not-true, or_cases, or_right}
use Rattle.store_traits.specs.declared.ids.CallId.{CallId}
use Rattle.hist_journal.specs.declared.seen.EntrySeen.{EntrySeen}
use Rattle.hist_journal.specs.Kinds.{is_call, is_raise, is_change, is_fault, is_death_of}
use Rattle.hist_journal.specs.Quiet.{ends, has_raise, pending}
use Rattle.shelf.specs.Entries.{some_entry, is_own}
use Rattle.shelf.specs.OpenRaise.{spends, is_open_raise, has_open_raise}
use Rattle.shelf.proofs.SameCalls.{same_call}

-- a stronger test passes nothing where the weaker passes nothing
pub none_of_fewer : {X : Type 0} (p q : X → Bool) (xs : List X) → ((x : X) → q x ≡ false → p x ≡ false) → list_any q xs ≡ false → list_any p xs ≡ false
none_of_fewer p q [] weaker none = refl
none_of_fewer p q (x ∷ xs) weaker none =
    let parts = or_parts (q x) (list_any q xs) none in
    or_from (p x) (list_any p xs) (weaker x parts.0) (none_of_fewer p q xs weaker parts.1)

-- what ends a Raise spends it
unspent_parts : (raises changes own faults dies : Bool) → ((raises || changes) || ((own && faults) || dies)) ≡ false
    → (raises ≡ false) × (((own && (changes || faults)) || dies) ≡ false)
unspent_parts true changes own faults dies is = absurd (let no : true ≡ false = is in cc)
unspent_parts false true own faults dies is = absurd (let no : true ≡ false = is in cc)
unspent_parts false false own faults dies is = (refl, is)

module _ {V T : Type 0} where
  unspent : (call : CallId) (e : EntrySeen V T) → spends call e ≡ false → (is_raise e.kind ≡ false) × (ends call e ≡ false)
  unspent call e is = unspent_parts (is_raise e.kind) (is_change e.kind) (is_call call e.who) (is_fault e.kind) (is_death_of call.node e.kind) is

  pub raise_of_open : (call : CallId) (e : EntrySeen V T) (behind : List (EntrySeen V T)) → is_open_raise call e behind ≡ true
      → (call ≡ e.who) × (is_raise e.kind ≡ true) × (list_any (spends call) behind ≡ false)
  raise_of_open call e behind is =
      let parts : (is_own is_raise call e ≡ true) × (not (list_any (spends call) behind) ≡ true) = and_parts (is_own is_raise call e) (not (list_any (spends call) behind)) is in
      let own : (is_call call e.who ≡ true) × (is_raise e.kind ≡ true) = and_parts (is_call call e.who) (is_raise e.kind) parts.0 in
      (same_call call e.who own.0, own.1, not-true (list_any (spends call) behind) parts.1)

  some_raise : (call : CallId) (list : List (EntrySeen V T)) → some_entry (is_open_raise call) list ≡ true → has_raise list ≡ true
  some_raise call [] is = is
  some_raise call (e ∷ es) is =
      elim (or_cases (is_open_raise call e es) (some_entry (is_open_raise call) es) is) [
        | inl here ↦ (let raises : is_raise e.kind ≡ true = (raise_of_open call e es here).1 in rw raises refl)
        | inr later ↦ or_right (is_raise e.kind) (has_raise es) (some_raise call es later)
      ]

  pending_here : (call : CallId) (e : EntrySeen V T) (behind : List (EntrySeen V T)) → is_open_raise call e behind ≡ true → pending (e ∷ behind) ≡ Some call
  unfolding pending
  pending_here call e behind is =
      let parts = raise_of_open call e behind is in
      let none : has_raise behind ≡ false = none_of_fewer (λ (x : EntrySeen V T). is_raise x.kind) (spends call) behind (λ x free. (unspent call x free).0) parts.2 in
      let lasts : list_any (ends call) behind ≡ false = none_of_fewer (ends call) (spends call) behind (λ x free. (unspent call x free).1) parts.2 in
      let raises : is_raise e.kind ≡ true = parts.1 in
      let who : call ≡ e.who = parts.0 in
      rw (none, raises, ← who, lasts) refl

  -- a call with an open Raise is the pending one
  pub open_is_pending : (call : CallId) (list : List (EntrySeen V T)) → has_open_raise call list ≡ true → pending list ≡ Some call
  unfolding pending has_open_raise
  open_is_pending call [] is = absurd (let no : false ≡ true = is in cc)
  open_is_pending call (e ∷ es) is =
      elim (or_cases (is_open_raise call e es) (some_entry (is_open_raise call) es) is) [
        | inl here ↦ pending_here call e es here
        | inr later ↦ (let behind : has_raise es ≡ true = some_raise call es later in rw behind (open_is_pending call es later))
      ]

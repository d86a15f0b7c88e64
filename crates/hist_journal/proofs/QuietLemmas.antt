-- The pending call after one more entry.
use Rattle.std.proofs.Common.{◌≡◌, ◌∙◌, Bool, true, false, ◌||◌, ◌&&◌, not, List, [], ◌∷◌, ◌++◌, Option, Some, None, refl, sym, ap, cond}
use Rattle.std.specs.List.{list_any}
use Rattle.std.proofs.lemmas.List.Folds.{list_any-append}
use Rattle.store_traits.specs.declared.ids.CallId.{CallId}
use Rattle.hist_journal.specs.declared.seen.EntrySeen.{EntrySeen}
use Rattle.hist_journal.specs.declared.seen.KindSeen.{KindSeen}
use Rattle.hist_journal.specs.declared.seen.KindSeen.TheVariants.{Raise}
use Rattle.hist_journal.specs.Kinds.{is_call, is_raise, is_change, is_fault, is_death_of}
use Rattle.hist_journal.specs.Quiet.{Quiet, ends, has_raise, open_raise, pending, still_pending, pending_after}

or_false : (b : Bool) → (b || false) ≡ b
or_false true = refl
or_false false = refl

-- one more element that is tested
any_more : {X : Type 0} (p : X → Bool) (xs : List X) (x : X) → list_any p (xs ++ x ∷ []) ≡ (list_any p xs || p x)
any_more p xs x = list_any-append p xs (x ∷ []) ∙ ap (λ b. list_any p xs || b) (or_false (p x))

-- a Raise stays open behind one more entry that is no Raise, unless that ends it
open_more : (raises ended ends_it : Bool) (call : CallId) → cond (raises && not (ended || ends_it)) (Some call) None ≡ cond (raises && not ended) (cond ends_it None (Some call)) None
open_more false ended ends_it call = refl
open_more true true ends_it call = refl
open_more true false true call = refl
open_more true false false call = refl

still_open : (is_ended : CallId → Bool) (is_open : Bool) (call : CallId) → still_pending is_ended (cond is_open (Some call) None) ≡ cond is_open (cond (is_ended call) None (Some call)) None
still_open is_ended true call = refl
still_open is_ended false call = refl

-- the last Raise is the new entry, or stands behind the front, or is the front
last_raise : (behind is_new : Bool) (call : CallId) (is_ended : CallId → Bool) (p front front_before : Option CallId) → front ≡ still_pending is_ended front_before
    → cond (behind || is_new) (cond is_new (Some call) (still_pending is_ended p)) front ≡ cond is_new (Some call) (still_pending is_ended (cond behind p front_before))
last_raise true true call is_ended p front front_before e = refl
last_raise true false call is_ended p front front_before e = refl
last_raise false true call is_ended p front front_before e = refl
last_raise false false call is_ended p front front_before e = e

module _ {V T : Type 0} where
  open_raise-push : (x : EntrySeen V T) (behind : List (EntrySeen V T)) (e : EntrySeen V T) → open_raise x (behind ++ e ∷ []) ≡ still_pending (λ call. ends call e) (open_raise x behind)
  open_raise-push x behind e =
      ap (λ b. cond (is_raise x.kind && not b) (Some x.who) None) (any_more (ends x.who) behind e)
      ∙ (open_more (is_raise x.kind) (list_any (ends x.who) behind) (ends x.who e) x.who
      ∙ sym (still_open (λ call. ends call e) (is_raise x.kind && not (list_any (ends x.who) behind)) x.who))

  pub pending-push : (list : List (EntrySeen V T)) (e : EntrySeen V T) → pending (list ++ e ∷ []) ≡ pending_after (pending list) e
  unfolding pending
  pending-push [] e = alone (is_raise e.kind) e.who
    where
      alone : (b : Bool) (call : CallId) → cond (b && true) (Some call) None ≡ cond b (Some call) None
      alone true call = refl
      alone false call = refl
  pending-push (x ∷ xs) e =
      ap (λ b. cond b (pending (xs ++ e ∷ [])) (open_raise x (xs ++ e ∷ []))) (any_more (λ (y : EntrySeen V T). is_raise y.kind) xs e)
      ∙ (ap (λ p. cond (has_raise xs || is_raise e.kind) p (open_raise x (xs ++ e ∷ []))) (pending-push xs e)
      ∙ last_raise (has_raise xs) (is_raise e.kind) e.who (λ call. ends call e) (pending xs) (open_raise x (xs ++ e ∷ [])) (open_raise x xs) (open_raise-push x xs e))

  pub pending-raise : (list : List (EntrySeen V T)) (e : EntrySeen V T) → is_raise e.kind ≡ true → pending (list ++ e ∷ []) ≡ Some e.who
  pending-raise list e raises = rw (pending-push list e, raises)

  -- only a Raise ends the quiet
  pub Quiet-push : (list : List (EntrySeen V T)) (e : EntrySeen V T) → Quiet list → is_raise e.kind ≡ false → Quiet (list ++ e ∷ [])
  Quiet-push list e quiet other = rw (pending-push list e, other, quiet)

  -- what ends a Raise is none
  raise_ends_nothing : (call : CallId) (is_own : Bool) (kind : KindSeen V T) → ((is_own && (is_change kind || is_fault kind)) || is_death_of call.node kind) ≡ true → is_raise kind ≡ false
  raise_ends_nothing call true Raise is = absurd (let no : false ≡ true = is in cc)
  raise_ends_nothing call false Raise is = absurd (let no : false ≡ true = is in cc)
  raise_ends_nothing call is_own other is = refl

  pub Quiet-ended : (list : List (EntrySeen V T)) (e : EntrySeen V T) (call : CallId) → pending list ≡ Some call → ends call e ≡ true → Quiet (list ++ e ∷ [])
  Quiet-ended list e call open_call is = rw (pending-push list e, raise_ends_nothing call (is_call call e.who) e.kind is, open_call, is)

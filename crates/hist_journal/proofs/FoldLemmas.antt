-- The folds of a longer history.
use Rattle.std.proofs.Common.{◌≡◌, ◌∙◌, ◌+◌, ◌≤◌, ℕ, Bool, true, false, List, [], ◌∷◌, ◌++◌, Option, Some, length, count_by, refl, sym, ap, cond, arith, ◌==◌, if◌then◌else◌}
use Rattle.std.proofs.lemmas.Bool.Decides.{nat_tests}
use Rattle.std.proofs.lemmas.List.Sums.{sum_by-append, count_by-le-length}
use Rattle.store_traits.specs.declared.applied.Applied.{Applied}
use Rattle.hist_journal.specs.declared.seen.BaseSeen.{BaseSeen}
use Rattle.hist_journal.specs.declared.seen.BaseSeen.TheVariants.{Held}
use Rattle.hist_journal.specs.declared.seen.EntrySeen.{EntrySeen}
use Rattle.hist_journal.specs.declared.seen.KindSeen.{KindSeen}
use Rattle.hist_journal.specs.declared.seen.KindSeen.TheVariants.{Raise, Edit, Same, Replace, Migrate, Synced, Cleared, Inited, Fault, Death, Restart}
use Rattle.hist_journal.specs.Folds.{edition_of, raises_of, value_after, value_of, text_or, main_of, kind_weight, weight_of}
use Rattle.hist_journal.specs.Kinds.{is_raise, is_change}
use Rattle.hist_journal.specs.ListedJournal.{journal_meaning}
use Rattle.hist_journal.specs.Meaning as listed
use Rattle.hist_journal.specs.Meaning.{Meaning}

-- one more entry counts where it passes the test
counted : {X : Type 0} (p : X → Bool) (xs : List X) (x : X) → count_by p (xs ++ x ∷ []) ≡ count_by p xs + cond (p x) 1 0
counted p xs x = sum_by-append _ xs (x ∷ []) ∙ ap (λ n. count_by p xs + n) (omega arith)

counted_first : {X : Type 0} (p : X → Bool) (x : X) (xs : List X) → count_by p (x ∷ xs) ≡ cond (p x) 1 0 + count_by p xs
counted_first p x xs = sum_by-append _ (x ∷ []) xs ∙ ap (λ n. n + count_by p xs) (omega arith)

-- the count of a room
count_is : {S D E H : Type 0} (m : Meaning S D E H) (b : Bool) (n : ℕ) → listed.count m b n ≡ cond b 1 0 + n
count_is m true n = omega arith
count_is m false n = omega arith

-- a number above 0 is not 0
shown : {X : Type 0} (n : ℕ) (main text : X) → (if n + 1 == 0 then main else text) ≡ text
shown n main text = grind (arith, nat_tests)

module _ {V T : Type 0} where
  pub edition_of-append : (xs ys : List (EntrySeen V T)) → edition_of (xs ++ ys) ≡ edition_of xs + edition_of ys
  unfolding edition_of
  edition_of-append xs ys = sum_by-append _ xs ys

  pub edition_of-push : (list : List (EntrySeen V T)) (e : EntrySeen V T) → edition_of (list ++ e ∷ []) ≡ edition_of list + (if is_change e.kind then 1 else 0)
  unfolding edition_of
  edition_of-push list e = counted (λ (x : EntrySeen V T). is_change x.kind) list e

  pub edition_of-change : (list : List (EntrySeen V T)) (e : EntrySeen V T) → is_change e.kind ≡ true → edition_of (list ++ e ∷ []) ≡ edition_of list + 1
  edition_of-change list e h = edition_of-push list e ∙ ap (λ b. edition_of list + cond b 1 0) h

  pub edition_of-other : (list : List (EntrySeen V T)) (e : EntrySeen V T) → is_change e.kind ≡ false → edition_of (list ++ e ∷ []) ≡ edition_of list
  edition_of-other list e h = edition_of-push list e ∙ (ap (λ b. edition_of list + cond b 1 0) h ∙ omega arith)

  pub edition_of-le : (list : List (EntrySeen V T)) → edition_of list ≤ length list
  unfolding edition_of
  edition_of-le list = count_by-le-length _ list

  pub raises_of-append : (xs ys : List (EntrySeen V T)) → raises_of (xs ++ ys) ≡ raises_of xs + raises_of ys
  unfolding raises_of
  raises_of-append xs ys = sum_by-append _ xs ys

  pub raises_of-push : (list : List (EntrySeen V T)) (e : EntrySeen V T) → raises_of (list ++ e ∷ []) ≡ raises_of list + (if is_raise e.kind then 1 else 0)
  unfolding raises_of
  raises_of-push list e = counted (λ (x : EntrySeen V T). is_raise x.kind) list e

  pub raises_of-raise : (list : List (EntrySeen V T)) (e : EntrySeen V T) → is_raise e.kind ≡ true → raises_of (list ++ e ∷ []) ≡ raises_of list + 1
  raises_of-raise list e h = raises_of-push list e ∙ ap (λ b. raises_of list + cond b 1 0) h

  pub raises_of-other : (list : List (EntrySeen V T)) (e : EntrySeen V T) → is_raise e.kind ≡ false → raises_of (list ++ e ∷ []) ≡ raises_of list
  raises_of-other list e h = raises_of-push list e ∙ (ap (λ b. raises_of list + cond b 1 0) h ∙ omega arith)

  pub raises_of-le : (list : List (EntrySeen V T)) → raises_of list ≤ length list
  unfolding raises_of
  raises_of-le list = count_by-le-length _ list

  -- a room counts the same raises
  pub raises_of-listed : (list : List (EntrySeen V T)) → listed.raises (journal_meaning {V = V} {T = T}) list ≡ raises_of list
  unfolding raises_of
  raises_of-listed [] = refl
  raises_of-listed (e ∷ es) =
      let m = journal_meaning {V = V} {T = T} in
      let first = counted_first (λ (x : EntrySeen V T). is_raise x.kind) e es in
      ap (listed.count m (is_raise e.kind)) (raises_of-listed es)
      ∙ (count_is m (is_raise e.kind) (count_by (λ (x : EntrySeen V T). is_raise x.kind) es) ∙ sym first)

  pub value_of-append : (after : T → V → Applied V) (base : BaseSeen V) (xs ys : List (EntrySeen V T)) → value_of after base (xs ++ ys) ≡ value_of after (value_of after base xs) ys
  unfolding value_of
  value_of-append after base [] ys = refl
  value_of-append after base (x ∷ xs) ys = value_of-append after (value_after after base x.kind) xs ys

  -- the value after one more entry
  pub value_of-push : (after : T → V → Applied V) (base : BaseSeen V) (list : List (EntrySeen V T)) (e : EntrySeen V T)
      → value_of after base (list ++ e ∷ []) ≡ value_after after (value_of after base list) e.kind
  unfolding value_of
  value_of-push after base list e = value_of-append after base list (e ∷ [])

  -- only a value change changes the value
  pub value_after-other : (after : T → V → Applied V) (value : BaseSeen V) (kind : KindSeen V T) → is_change kind ≡ false → value_after after value kind ≡ value
  unfolding value_after
  value_after-other after value Raise h = refl
  value_after-other after value (Edit t) h = absurd (let no : true ≡ false = h in cc)
  value_after-other after value (Same t) h = refl
  value_after-other after value (Replace v) h = absurd (let no : true ≡ false = h in cc)
  value_after-other after value (Migrate names v) h = absurd (let no : true ≡ false = h in cc)
  value_after-other after value Synced h = refl
  value_after-other after value (Cleared name) h = refl
  value_after-other after value (Inited node) h = refl
  value_after-other after value (Fault device count) h = refl
  value_after-other after value (Death node) h = refl
  value_after-other after value (Restart node) h = refl

  pub value_of-other : (after : T → V → Applied V) (base : BaseSeen V) (list : List (EntrySeen V T)) (e : EntrySeen V T)
      → is_change e.kind ≡ false → value_of after base (list ++ e ∷ []) ≡ value_of after base list
  value_of-other after base list e h = value_of-push after base list e ∙ value_after-other after (value_of after base list) e.kind h

  pub main_of-other : (after : T → V → Applied V) (encoded : V → List ℕ) (base : BaseSeen V) (main : Option (List ℕ)) (list : List (EntrySeen V T)) (e : EntrySeen V T)
      → is_change e.kind ≡ false → main_of after encoded base main (list ++ e ∷ []) ≡ main_of after encoded base main list
  unfolding main_of
  main_of-other after encoded base main list e h = rw (edition_of-other list e h, value_of-other after base list e h)

  -- main after a value change is the text of the value
  pub main_of-change : (after : T → V → Applied V) (encoded : V → List ℕ) (base : BaseSeen V) (main : Option (List ℕ)) (list : List (EntrySeen V T)) (e : EntrySeen V T) (v : V)
      → is_change e.kind ≡ true → value_of after base (list ++ e ∷ []) ≡ Held v → main_of after encoded base main (list ++ e ∷ []) ≡ Some (encoded v)
  unfolding main_of text_or
  main_of-change after encoded base main list e v h is = rw (edition_of-change list e h, is) (shown (edition_of list) main (Some (encoded v)))

  pub weight_of-append : (transform_weight : T → ℕ) (value_weight : V → ℕ) (xs ys : List (EntrySeen V T))
      → weight_of transform_weight value_weight (xs ++ ys) ≡ weight_of transform_weight value_weight xs + weight_of transform_weight value_weight ys
  unfolding weight_of
  weight_of-append transform_weight value_weight xs ys = sum_by-append _ xs ys

  pub weight_of-push : (transform_weight : T → ℕ) (value_weight : V → ℕ) (list : List (EntrySeen V T)) (e : EntrySeen V T)
      → weight_of transform_weight value_weight (list ++ e ∷ []) ≡ weight_of transform_weight value_weight list + kind_weight transform_weight value_weight e.kind
  unfolding weight_of
  weight_of-push transform_weight value_weight list e = omega (arith, sum_by-append (λ (x : EntrySeen V T). kind_weight transform_weight value_weight x.kind) list (e ∷ []))

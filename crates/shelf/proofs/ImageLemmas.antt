-- What a machine stop may leave, after one more entry.
use Rattle.std.proofs.Common.{◌≡◌, ◌∙◌, Bool, true, false, ◌||◌, List, [], ◌∷◌, ◌++◌, refl, ap, cond, append_assoc, append-nil, ℕ, sym, Option, All}
use Rattle.std.proofs.Math.Bool.{or-false}
use Rattle.std.proofs.lemmas.List.Folds.{list_any-append}
use Rattle.std.proofs.lemmas.Bool.{or_parts, or_right}
use Rattle.std.proofs.lemmas.List.Elements.{All-cons, All-nil}
use Rattle.hist_journal.specs.declared.seen.EntrySeen.{EntrySeen}
use Rattle.hist_journal.specs.declared.seen.KindSeen.{KindSeen}
use Rattle.hist_journal.specs.declared.seen.KindSeen.TheVariants.{Synced}
use Rattle.hist_journal.specs.Folds.{edition_of, main_of}
use Rattle.hist_journal.specs.Kinds.{is_change}
use Rattle.shelf.specs.declared.store.Store.{Store}
use Rattle.shelf.specs.Images.{IsMainSinceSynced, is_synced, has_synced, kept_front, unkept, main_at, changed_mains, images}
use Rattle.shelf.specs.Meanings.{Meanings}
use Rattle.shelf.proofs.Bools.{never}

-- a choice between lists, with more at the end
chosen_more : {X : Type 0} (b : Bool) (longer short list more : List X) → longer ≡ short ++ more → cond b longer (list ++ more) ≡ cond b short list ++ more
chosen_more true longer short list more is = is
chosen_more false longer short list more is = refl

-- a list with or without a first element, with more at the end
first_more : {X : Type 0} (b : Bool) (x : X) (longer short more : List X) → longer ≡ short ++ more → cond b (x ∷ longer) longer ≡ cond b (x ∷ short) short ++ more
first_more true x longer short more is = ap (λ xs. x ∷ xs) is
first_more false x longer short more is = is

parted : {X : Type 0} (b : Bool) (x : X) (front back list : List X) → front ++ back ≡ list → cond b (x ∷ front) [] ++ cond b back (x ∷ list) ≡ x ∷ list
parted true x front back list is = ap (λ xs. x ∷ xs) is
parted false x front back list is = refl

module _ {V T : Type 0} where
  has_synced-push : (list : List (EntrySeen V T)) (e : EntrySeen V T) → has_synced (list ++ e ∷ []) ≡ (has_synced list || is_synced e.kind)
  has_synced-push list e = list_any-append (λ (x : EntrySeen V T). is_synced x.kind) list (e ∷ []) ∙ ap (λ b. has_synced list || b) (or-false (is_synced e.kind))

  has_synced-last : (list : List (EntrySeen V T)) (e : EntrySeen V T) → is_synced e.kind ≡ true → has_synced (list ++ e ∷ []) ≡ true
  has_synced-last list e synced = has_synced-push list e ∙ or_right (has_synced list) (is_synced e.kind) synced

  has_synced-other : (list : List (EntrySeen V T)) (e : EntrySeen V T) → is_synced e.kind ≡ false → has_synced (list ++ e ∷ []) ≡ has_synced list
  has_synced-other list e other = has_synced-push list e ∙ (ap (λ b. has_synced list || b) other ∙ or-false (has_synced list))

  pub kept_front-unkept : (list : List (EntrySeen V T)) → kept_front list ++ unkept list ≡ list
  unfolding kept_front unkept
  kept_front-unkept [] = refl
  kept_front-unkept (x ∷ xs) = parted (has_synced (x ∷ xs)) x (kept_front xs) (unkept xs) xs (kept_front-unkept xs)

  kept_front-synced : (list : List (EntrySeen V T)) (e : EntrySeen V T) → is_synced e.kind ≡ true → kept_front (list ++ e ∷ []) ≡ list ++ e ∷ []
  unfolding kept_front
  kept_front-synced [] e synced = rw synced refl
  kept_front-synced (x ∷ xs) e synced =
      let has : has_synced (x ∷ (xs ++ e ∷ [])) ≡ true = has_synced-last (x ∷ xs) e synced in
      ap (λ b. cond b (x ∷ kept_front (xs ++ e ∷ [])) []) has ∙ ap (λ l. x ∷ l) (kept_front-synced xs e synced)

  kept_front-other : (list : List (EntrySeen V T)) (e : EntrySeen V T) → is_synced e.kind ≡ false → kept_front (list ++ e ∷ []) ≡ kept_front list
  unfolding kept_front
  kept_front-other [] e other = rw other refl
  kept_front-other (x ∷ xs) e other =
      let has : has_synced (x ∷ (xs ++ e ∷ [])) ≡ has_synced (x ∷ xs) = has_synced-other (x ∷ xs) e other in
      ap (λ b. cond b (x ∷ kept_front (xs ++ e ∷ [])) []) has ∙ ap (λ l. cond (has_synced (x ∷ xs)) (x ∷ l) []) (kept_front-other xs e other)

  unkept-synced : (list : List (EntrySeen V T)) (e : EntrySeen V T) → is_synced e.kind ≡ true → unkept (list ++ e ∷ []) ≡ []
  unfolding unkept
  unkept-synced [] e synced = rw synced refl
  unkept-synced (x ∷ xs) e synced =
      let has : has_synced (x ∷ (xs ++ e ∷ [])) ≡ true = has_synced-last (x ∷ xs) e synced in
      ap (λ b. cond b (unkept (xs ++ e ∷ [])) (x ∷ (xs ++ e ∷ []))) has ∙ unkept-synced xs e synced

  unkept-other : (list : List (EntrySeen V T)) (e : EntrySeen V T) → is_synced e.kind ≡ false → unkept (list ++ e ∷ []) ≡ unkept list ++ e ∷ []
  unfolding unkept
  unkept-other [] e other = rw other refl
  unkept-other (x ∷ xs) e other =
      let has : has_synced (x ∷ (xs ++ e ∷ [])) ≡ has_synced (x ∷ xs) = has_synced-other (x ∷ xs) e other in
      ap (λ b. cond b (unkept (xs ++ e ∷ [])) (x ∷ (xs ++ e ∷ []))) has
      ∙ chosen_more (has_synced (x ∷ xs)) (unkept (xs ++ e ∷ [])) (unkept xs) (x ∷ xs) (e ∷ []) (unkept-other xs e other)

  rest_unsynced : (b : Bool) (rest list : List (EntrySeen V T)) → has_synced list ≡ b → has_synced rest ≡ false → has_synced (cond b rest list) ≡ false
  rest_unsynced true rest list is unsynced = unsynced
  rest_unsynced false rest list is unsynced = is

  unkept-unsynced : (list : List (EntrySeen V T)) → has_synced (unkept list) ≡ false
  unfolding unkept
  unkept-unsynced [] = refl
  unkept-unsynced (x ∷ xs) = rest_unsynced (has_synced (x ∷ xs)) (unkept xs) (x ∷ xs) refl (unkept-unsynced xs)

  change_is_not_synced : (kind : KindSeen V T) → is_change kind ≡ true → is_synced kind ≡ false
  change_is_not_synced Synced change = never change
  change_is_not_synced other change = refl

module _ {V T M : Type 0} (m : Meanings V T) (encoded : V → List ℕ) (s : Store V M) where
  changed_mains-append : (before xs ys : List (EntrySeen V T)) → changed_mains m encoded s before (xs ++ ys) ≡ changed_mains m encoded s before xs ++ changed_mains m encoded s (before ++ xs) ys
  unfolding changed_mains
  changed_mains-append before [] ys = rw append-nil refl
  changed_mains-append before (x ∷ xs) ys =
      let rest : changed_mains m encoded s (before ++ x ∷ []) (xs ++ ys) ≡ changed_mains m encoded s (before ++ x ∷ []) xs ++ changed_mains m encoded s (before ++ x ∷ xs) ys =
      changed_mains-append (before ++ x ∷ []) xs ys ∙ ap (λ l. changed_mains m encoded s (before ++ x ∷ []) xs ++ changed_mains m encoded s l ys) (append_assoc before (x ∷ []) xs)
      in
      first_more (is_change x.kind) (main_at m encoded s (before ++ x ∷ [])) (changed_mains m encoded s (before ++ x ∷ []) (xs ++ ys)) (changed_mains m encoded s (before ++ x ∷ []) xs) (changed_mains m encoded s (before ++ x ∷ xs) ys) rest

  pub images-empty : images m encoded s [] ≡ s.main ∷ []
  unfolding images kept_front unkept changed_mains main_of edition_of
  images-empty = refl

  pub images-synced : (list : List (EntrySeen V T)) (e : EntrySeen V T) → is_synced e.kind ≡ true → images m encoded s (list ++ e ∷ []) ≡ main_at m encoded s (list ++ e ∷ []) ∷ []
  unfolding images changed_mains
  images-synced list e synced =
      ap (λ back. main_at m encoded s (kept_front (list ++ e ∷ [])) ∷ changed_mains m encoded s (kept_front (list ++ e ∷ [])) back) (unkept-synced list e synced)
      ∙ ap (λ front. main_at m encoded s front ∷ []) (kept_front-synced list e synced)

  -- an entry that is no Synced leaves the images, and may add one
  images-push : (list : List (EntrySeen V T)) (e : EntrySeen V T) → is_synced e.kind ≡ false → images m encoded s (list ++ e ∷ []) ≡ images m encoded s list ++ changed_mains m encoded s list (e ∷ [])
  unfolding images
  images-push list e other =
      ap (λ front. main_at m encoded s front ∷ changed_mains m encoded s front (unkept (list ++ e ∷ []))) (kept_front-other list e other)
      ∙ (ap (λ back. main_at m encoded s (kept_front list) ∷ changed_mains m encoded s (kept_front list) back) (unkept-other list e other)
      ∙ (ap (λ mains. main_at m encoded s (kept_front list) ∷ mains) (changed_mains-append (kept_front list) (unkept list) (e ∷ []))
      ∙ ap (λ whole. main_at m encoded s (kept_front list) ∷ (changed_mains m encoded s (kept_front list) (unkept list) ++ changed_mains m encoded s whole (e ∷ []))) (kept_front-unkept list)))

  pub images-change : (list : List (EntrySeen V T)) (e : EntrySeen V T) → is_change e.kind ≡ true → images m encoded s (list ++ e ∷ []) ≡ images m encoded s list ++ main_at m encoded s (list ++ e ∷ []) ∷ []
  unfolding changed_mains
  images-change list e change =
      images-push list e (change_is_not_synced e.kind change)
      ∙ ap (λ b. images m encoded s list ++ cond b (main_at m encoded s (list ++ e ∷ []) ∷ []) []) change

  pub images-other : (list : List (EntrySeen V T)) (e : EntrySeen V T) → is_change e.kind ≡ false → is_synced e.kind ≡ false → images m encoded s (list ++ e ∷ []) ≡ images m encoded s list
  unfolding changed_mains
  images-other list e still other =
      images-push list e other
      ∙ (ap (λ b. images m encoded s list ++ cond b (main_at m encoded s (list ++ e ∷ []) ∷ []) []) still ∙ append-nil (images m encoded s list))

  IsMainSinceSynced-cons : (list : List (EntrySeen V T)) (b : Bool) (image : Option (List ℕ)) (rest : List (Option (List ℕ)))
      → IsMainSinceSynced m encoded s list image → All (IsMainSinceSynced m encoded s list) rest → All (IsMainSinceSynced m encoded s list) (cond b (image ∷ rest) rest)
  IsMainSinceSynced-cons list true image rest here later = All-cons (IsMainSinceSynced m encoded s list) image rest here later
  IsMainSinceSynced-cons list false image rest here later = later

  changed_mains_are : (list before rest : List (EntrySeen V T)) → list ≡ before ++ rest → has_synced rest ≡ false → All (IsMainSinceSynced m encoded s list) (changed_mains m encoded s before rest)
  unfolding changed_mains
  changed_mains_are list before [] is synced = All-nil (IsMainSinceSynced m encoded s list)
  changed_mains_are list before (e ∷ es) is synced =
      let later : has_synced es ≡ false = (or_parts (is_synced e.kind) (has_synced es) synced).1 in
      let parts : list ≡ (before ++ e ∷ []) ++ es = is ∙ sym (append_assoc before (e ∷ []) es) in
      IsMainSinceSynced-cons list (is_change e.kind) (main_at m encoded s (before ++ e ∷ [])) (changed_mains m encoded s (before ++ e ∷ []) es)
      (record { front = before ++ e ∷ []; back = es; is = parts; synced = later; main = refl })
      (changed_mains_are list (before ++ e ∷ []) es parts later)

  pub images-since_synced : (list : List (EntrySeen V T)) → All (IsMainSinceSynced m encoded s list) (images m encoded s list)
  unfolding images
  images-since_synced list =
      let parts : list ≡ kept_front list ++ unkept list = sym (kept_front-unkept list) in
      All-cons (IsMainSinceSynced m encoded s list) (main_at m encoded s (kept_front list)) (changed_mains m encoded s (kept_front list) (unkept list))
      (record { front = kept_front list; back = unkept list; is = parts; synced = unkept-unsynced list; main = refl })
      (changed_mains_are list (kept_front list) (unkept list) parts (unkept-unsynced list))

-- Clearing faults of a longer history.
use Rattle.std.proofs.Common.{◌≡◌, ◌∙◌, ◌⊎◌, ◌↔◌, inl, inr, Bool, List, [], ◌∷◌, ◌++◌, refl, ap, append_assoc, if◌then◌else◌}
use Rattle.store_traits.specs.declared.ids.CallId.{CallId}
use Rattle.hist_journal.specs.declared.seen.EntrySeen.{EntrySeen}
use Rattle.hist_journal.specs.Clearing.{is_replace, ends_in_replace, HasEntry}
use Rattle.hist_journal.specs.Kinds.{is_call}

-- what stands in a list stands in a longer one
pub longer : {X : Type 0} (list before behind more : List X) (x : X) → list ≡ before ++ x ∷ behind → list ++ more ≡ before ++ x ∷ (behind ++ more)
longer {X = X} list before behind more x e = ap (λ (xs : List X). xs ++ more) e ∙ append_assoc before (x ∷ behind) more

-- what stands in a list with one more element is that element, or stands in the list
pub last_or_before : {X : Type 0} (list before behind : List X) (last x : X) → list ++ last ∷ [] ≡ before ++ x ∷ behind
    → ((before ≡ list) × (x ≡ last)) ⊎ ((front : List X) × (list ≡ before ++ x ∷ front))
last_or_before [] [] behind last x e = inl (refl, cc)
last_or_before [] (y ∷ []) behind last x e = absurd (cc)
last_or_before [] (y ∷ z ∷ before) behind last x e = absurd (cc)
last_or_before (a ∷ list) [] behind last x e = inr (list, cc)
last_or_before {X = X} (a ∷ list) (y ∷ before) behind last x e =
    let same : a ≡ y = cc in
    let rest : list ++ last ∷ [] ≡ before ++ x ∷ behind = cc in
    elim (last_or_before list before behind last x rest) [
      | inl it ↦ (let front : before ≡ list = it.0 in let here : x ≡ last = it.1 in inl (cc, here))
      | inr it ↦ (let is : list ≡ before ++ x ∷ it.0 = it.1 in inr (it.0, cc))
    ]

module _ {V T : Type 0} where
  pub ends_in_replace-push : (call : CallId) (so_far : Bool) (list : List (EntrySeen V T)) (e : EntrySeen V T)
      → ends_in_replace call so_far (list ++ e ∷ []) ≡ (if is_call call e.who then is_replace e.kind else ends_in_replace call so_far list)
  unfolding ends_in_replace
  ends_in_replace-push call so_far [] e = refl
  ends_in_replace-push call so_far (x ∷ xs) e = ends_in_replace-push call (if is_call call x.who then is_replace x.kind else so_far) xs e

  module _ (Stands : List (EntrySeen V T) → EntrySeen V T → Type 0) where
    pub HasEntry-append : (list more : List (EntrySeen V T)) → HasEntry Stands list → HasEntry Stands (list ++ more)
    HasEntry-append list more has =
        record {
          before = has.before;
          entry = has.entry;
          behind = has.behind ++ more;
          is = longer list has.before has.behind more has.entry has.is;
          stands = has.stands;
        }

    pub HasEntry-last : (list : List (EntrySeen V T)) (e : EntrySeen V T) → Stands list e → HasEntry Stands (list ++ e ∷ [])
    HasEntry-last list e stands = record { before = list; entry = e; behind = []; is = refl; stands = stands }

    -- the entry that stands so is the new one, or was there
    pub HasEntry-push : (list : List (EntrySeen V T)) (e : EntrySeen V T) → HasEntry Stands (list ++ e ∷ []) ↔ (HasEntry Stands list ⊎ Stands list e)
    HasEntry-push list e = (split, joined)
      where
        joined : HasEntry Stands list ⊎ Stands list e → HasEntry Stands (list ++ e ∷ [])
        joined (inl has) = HasEntry-append list (e ∷ []) has
        joined (inr stands) = HasEntry-last list e stands

        split : HasEntry Stands (list ++ e ∷ []) → HasEntry Stands list ⊎ Stands list e
        split has =
            elim (last_or_before list has.before has.behind e has.entry has.is) [
              | inl it ↦ inr (rw it.0 at (rw it.1 at has.stands))
              | inr it ↦ inl (record { before = has.before; entry = has.entry; behind = it.0; is = it.1; stands = has.stands })
            ]

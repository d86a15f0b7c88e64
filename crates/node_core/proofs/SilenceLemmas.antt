-- A call whose node has died is silent, once the history is longer.
use Rattle.std.proofs.Common.{◌≡◌, ◌∙◌, ◌⊎◌, inl, inr, ℕ, Bool, true, false, List, [], ◌∷◌, ◌++◌, Option, refl, sym, ap}
use Rattle.std.specs.List.{list_any}
use Rattle.std.proofs.lemmas.Bool.{eq-eqb, or_parts}
use Rattle.std.proofs.lemmas.List.Folds.{list_any-append}
use Rattle.store_traits.specs.declared.ids.CallId.{CallId}
use Rattle.hist_journal.specs.declared.seen.EntrySeen.{EntrySeen}
use Rattle.hist_journal.specs.declared.seen.KindSeen.TheVariants.{Death}
use Rattle.hist_journal.specs.Kinds.{is_death_of}
use Rattle.shelf.specs.Deaths.{has_died}
use Rattle.shelf.specs.Meanwhile.{NoDeathOf}
use Rattle.shelf.specs.Places.{StandsAt, is_up_to}
use Rattle.shelf.proofs.Bools.{never, none_in_both}
use Rattle.shelf.proofs.LegalLemmas.{nothing_stands_in_none}
use Rattle.node_core.specs.Silence.{IsSilent}
use Rattle.step_table.proofs.GrowingDeaths.{still_lives}

module _ {X : Type 0} (x : X) where
  -- an element of two lists stands in the first one
  record StandsFirst (behind list more : List X) (before : List X) : Type 0 where
    rest : List X
    is : list ≡ before ++ x ∷ rest
    then : behind ≡ rest ++ more

  -- or in the second one
  record StandsSecond (behind more : List X) : Type 0 where
    rest : List X
    is : more ≡ rest ++ x ∷ behind

  stands_in : (list more before behind : List X) → list ++ more ≡ before ++ x ∷ behind → StandsFirst behind list more before ⊎ StandsSecond behind more
  stands_in [] more before behind is = inr (record { rest = before; is = is })
  stands_in (y ∷ ys) more [] behind is =
      let first : y ≡ x = cc in
      let others : behind ≡ ys ++ more = cc in
      inl (record { rest = ys; is = ap (λ e. e ∷ ys) first; then = others })
  stands_in (y ∷ ys) more (z ∷ zs) behind is =
      let first : y ≡ z = cc in
      let others : ys ++ more ≡ zs ++ x ∷ behind = cc in
      elim (stands_in ys more zs behind others) [
        | inl it ↦ inl (record { rest = it.rest; is = ap (λ xs. y ∷ xs) it.is ∙ ap (λ e. e ∷ (zs ++ x ∷ it.rest)) first; then = it.then })
        | inr it ↦ inr (record { rest = it.rest; is = it.is })
      ]

module _ {V T : Type 0} (call : CallId) where
  abbrev ours : EntrySeen V T → Bool
  ours e = is_death_of call.node e.kind

  -- of entries of which none passes, those behind one of them do not either
  none_behind : (p : EntrySeen V T → Bool) (before : List (EntrySeen V T)) (e : EntrySeen V T) (behind : List (EntrySeen V T)) → list_any p (before ++ e ∷ behind) ≡ false → list_any p behind ≡ false
  none_behind p before e behind none =
      let parts = or_parts (list_any p before) (list_any p (e ∷ behind)) (sym (list_any-append p before (e ∷ behind)) ∙ none) in
      (or_parts (p e) (list_any p behind) parts.1).1

  -- where others add entries, it stays so
  pub still_silent : (since : Option ℕ) (list more : List (EntrySeen V T)) → (has_died call.node since list ≡ true → IsSilent call list) → list_any (is_up_to call) more ≡ false
      → has_died call.node since (list ++ more) ≡ true → IsSilent call (list ++ more)
  still_silent since list more silent none died place death last =
      elim (stands_in death.entry list more death.before death.behind death.is) [
        | inl it ↦
            let parts = or_parts (list_any ours it.rest) (list_any ours more) (sym (list_any-append ours it.rest more) ∙ (ap (list_any ours) (sym it.then) ∙ last)) in
            let stands : StandsAt ours place list = record { before = death.before; entry = death.entry; behind = it.rest; is = it.is; counted = death.counted; passed = death.passed } in
            rw it.then (none_in_both (is_up_to call) it.rest more (silent (before_too (has_died call.node since list) refl parts.1) place stands parts.0) none)
        | inr it ↦ none_behind (is_up_to call) it.rest death.entry death.behind (ap (list_any (is_up_to call)) (sym it.is) ∙ none)
      ]
    where
      before_too : (b : Bool) → has_died call.node since list ≡ b → NoDeathOf call.node more → b ≡ true
      before_too true was spared = refl
      before_too false was spared = never (sym (still_lives call.node since list more spared was) ∙ died)

  abbrev own_death : EntrySeen V T
  own_death = record { who = call; kind = Death call.node }

  -- behind its own Death nothing stands
  pub dying_silent : (list : List (EntrySeen V T)) → IsSilent call (list ++ own_death ∷ [])
  dying_silent list place death last =
      elim (stands_in death.entry list (own_death ∷ []) death.before death.behind death.is) [
        | inl it ↦ never (sym (or_parts (list_any ours it.rest) true (sym (list_any-append ours it.rest (own_death ∷ []) ∙ rw (eq-eqb call.node.0 call.node.0 refl) refl) ∙ (ap (list_any ours) (sym it.then) ∙ last))).1)
        | inr it ↦ alone it.rest it.is
      ]
    where
      alone : (rest : List (EntrySeen V T)) → own_death ∷ [] ≡ rest ++ death.entry ∷ death.behind → list_any (is_up_to call) death.behind ≡ false
      alone [] is = let none : [] ≡ death.behind = cc in rw (sym none) refl
      alone (x ∷ xs) is = absurd (nothing_stands_in_none xs death.behind death.entry (let none : [] ≡ xs ++ death.entry ∷ death.behind = cc in none))

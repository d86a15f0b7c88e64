-- What the lines say that have nodes die, and which of their rules are broken first.
use Rattle.std.proofs.Common.{ℕ, ◌≡◌, ◌<◌, ◌≤◌, ◌∙◌, true, List, [], ◌∷◌, Some, length, get_or, Bor, ap, sym, refl, subst, arith}
use Rattle.std.specs.Prelude.{Contains, slice_get}
use Rattle.std.proofs.lemmas.Option.{slice_get-get_or, slice_get_within}
use Rattle.store_traits.specs.declared.ids.ClientId.{ClientId}
use Rattle.store_traits.specs.declared.ids.NodeId.{NodeId}
use Rattle.store_traits.specs.declared.step.Step.{Step}
use Rattle.script_words.specs.Numbers.{IsNumberWithin}
use Rattle.script_words.specs.Words.{texts_at}
use Rattle.script_lang.specs.declared.parsing.draft.Draft.{Draft}
use Rattle.script_lang.specs.declared.parsing.line.Line.TheVariants as said
use Rattle.script_lang.specs.declared.parsing.line_word.LineWord.TheVariants.{Die}
use Rattle.script_lang.specs.declared.parsing.script_error.ScriptFault.TheVariants.{BadValue, UnknownName, WrongPlace}
use Rattle.script_lang.specs.declared.plan.mode.Mode.TheVariants.{Nodes}
use Rattle.script_lang.specs.DeathSteps.{can_die_at, step_text}
use Rattle.script_lang.specs.Draft.{HasHomes}
use Rattle.script_lang.specs.Faults.{HasBadValue, HasUnknownName, HasUnknownWord}
use Rattle.script_lang.specs.Reading.{RowSays, IsRowFault}
use Rattle.script_lang.specs.Rows.{keyword, IsDieRow}
use Rattle.script_lang.proofs.NameLemmas.{Contains-from_slice_get}
use Rattle.script_lang.proofs.OneRow.{first_same}
use Rattle.script_lang.proofs.RowFaults.{bad_value_first, unknown_name_first, wrong_place_first, row_says}
use Rattle.script_lang.proofs.WordLemmas.{no_word, three_texts}

-- the word in the place of a step is one
known : (words : List (Bor (List ℕ))) (step : Step) → 3 ≤ length words → (get_or words 2 no_word).now ≡ step_text step → can_die_at step ≡ true → ¬ HasUnknownWord (keyword Die (texts_at words))
known [] step some is can = absurd (omega (arith, some))
known (client ∷ []) step some is can = absurd (omega (arith, some))
known (client ∷ number ∷ []) step some is can = absurd (omega (arith, some))
known (client ∷ number ∷ word ∷ more) step some is can = λ unknown. unknown (record { step = step; can = can; is = is })

module _ (draft : Draft) (words : List (Bor (List ℕ))) (three : 3 ≤ length words) (step : Step) (is : (get_or words 2 no_word).now ≡ step_text step) (can : can_die_at step ≡ true) where
  known_step : ¬ HasUnknownWord (keyword Die (texts_at words))
  known_step = known words step three is can

  module _ (no_more : length words < 4) where
    name : List ℕ
    name = (get_or words 0 no_word).now

    number_word : List ℕ
    number_word = (get_or words 1 no_word).now

    row_has : texts_at words ≡ name ∷ number_word ∷ step_text step ∷ []
    unfolding name number_word
    row_has = three_texts words three no_more ∙ ap (λ (last : List ℕ). (get_or words 0 no_word).now ∷ (get_or words 1 no_word).now ∷ last ∷ []) is

    pub number_bad : ((n : ℕ) → ¬ IsNumberWithin (get_or words 1 no_word).now 1 4294967295 n) → IsRowFault draft (keyword Die (texts_at words)) BadValue
    unfolding name number_word
    number_bad none = bad_value_first draft (keyword Die (texts_at words)) known_step (λ client number other follow.
        let cut = first_same client name (follow.word ∷ step_text other ∷ []) (number_word ∷ step_text step ∷ []) (sym follow.row ∙ row_has) in
        let same = (first_same follow.word number_word (step_text other ∷ []) (step_text step ∷ []) cut.1).0 in
        let P : List ℕ → Type 0 = λ word. IsNumberWithin word 1 4294967295 number in
        none number (subst P same follow.is_number))

    module _ (number : ℕ) (is_number : IsNumberWithin (get_or words 1 no_word).now 1 4294967295 number) where
      row_is : IsDieRow (texts_at words) (get_or words 0 no_word).now number step
      unfolding name number_word
      row_is = record { word = (get_or words 1 no_word).now; row = row_has; is_number = is_number; can_die = can }

      good : ¬ HasBadValue (keyword Die (texts_at words))
      good = λ bad. bad (get_or words 0 no_word).now number step row_is

      pub client_unknown : ¬ Contains draft.clients (get_or words 0 no_word).now → IsRowFault draft (keyword Die (texts_at words)) UnknownName
      client_unknown unknown =
          let P : List (List ℕ) → Type 0 = λ behind. HasUnknownName draft (keyword Die behind) in
          unknown_name_first draft (keyword Die (texts_at words)) known_step good (subst P (sym row_is.row) unknown)

      module _ (client : ClientId) (declared : slice_get draft.clients client.0 ≡ Some (get_or words 0 no_word).now) where
        named : ¬ HasUnknownName draft (keyword Die (texts_at words))
        named = λ unknown.
            let P : List (List ℕ) → Type 0 = λ behind. HasUnknownName draft (keyword Die behind) in
            let first : ¬ Contains draft.clients (get_or words 0 no_word).now = subst P row_is.row unknown in
            first (Contains-from_slice_get draft.clients (get_or words 0 no_word).now client.0 declared)

        pub die_barred : draft.mode ≡ Nodes → IsRowFault draft (keyword Die (texts_at words)) WrongPlace
        die_barred barred = wrong_place_first draft (keyword Die (texts_at words)) known_step good named (λ h. h) (λ h. h) barred

        pub die_said : ¬ (draft.mode ≡ Nodes) → (home : NodeId) → slice_get draft.homes client.0 ≡ Some home
            → RowSays draft (keyword Die (texts_at words)) (said.Die (record { call = record { node = home; client = client; number = number }; step = step }))
        die_said free home at =
            row_says draft (keyword Die (texts_at words)) (said.Die (record { call = record { node = home; client = client; number = number }; step = step }))
            (record { behind = texts_at words; name = (get_or words 0 no_word).now; is = refl; follow = row_is; declared = declared; home = at })
            known_step good named (λ h. h) (λ h. h) free

-- the home of a declared client stands at its place
pub home_within : (draft : Draft) → HasHomes draft → (name : List ℕ) (place : ℕ) → slice_get draft.clients place ≡ Some name → place < length draft.homes
home_within draft homed name place at = let within : place < length draft.clients = slice_get_within draft.clients place name at in omega (arith, homed)

pub home_at : (homes list : List NodeId) (place : ℕ) (none : NodeId) → list ≡ homes → place < length list → slice_get homes place ≡ Some (get_or list place none)
home_at homes list place none same within = rw (← same) (slice_get-get_or list place none within)

-- What the lines on names say, and which of their rules are broken first.
use Rattle.std.proofs.Common.{ℕ, ◌≡◌, ◌≤◌, List, [], ◌∷◌, Some, length, refl}
use Rattle.std.specs.Prelude.{codes, slice_get, Contains}
use Rattle.store_traits.specs.declared.ids.NodeId.{NodeId}
use Rattle.script_words.specs.Names.{IsName}
use Rattle.script_lang.specs.declared.parsing.draft.Draft.{Draft}
use Rattle.script_lang.specs.declared.parsing.line.Line.TheVariants as said
use Rattle.script_lang.specs.declared.parsing.line_word.LineWord.TheVariants.{Node, Client}
use Rattle.script_lang.specs.declared.parsing.script_error.ScriptFault.TheVariants.{UnknownName, NameTaken, TooManyNames, WrongPlace}
use Rattle.script_lang.specs.Faults.{IsTaken, FollowsOther, HasBadValue, HasUnknownName}
use Rattle.script_lang.specs.Reading.{RowSays, IsRowFault}
use Rattle.script_lang.specs.Rows.{keyword}
use Rattle.script_lang.proofs.NameLemmas.{Contains-from_slice_get}
use Rattle.script_lang.proofs.RowFaults.{unknown_name_first, name_taken_first, too_many_first, wrong_place_first, row_says}

module _ (draft : Draft) (name : List ℕ) (is_name : IsName name) where
  good_node : ¬ HasBadValue (keyword Node (name ∷ []))
  good_node = λ bad. bad name (record { row = refl; is_name = is_name })

  pub node_taken : IsTaken draft name → IsRowFault draft (keyword Node (name ∷ [])) NameTaken
  node_taken taken = name_taken_first draft (keyword Node (name ∷ [])) (λ h. h) good_node (λ h. h) taken

  pub node_too_many : ¬ IsTaken draft name → 16 ≤ length draft.nodes → IsRowFault draft (keyword Node (name ∷ [])) TooManyNames
  node_too_many free many = too_many_first draft (keyword Node (name ∷ [])) (λ h. h) good_node (λ h. h) free many

  pub node_barred : ¬ IsTaken draft name → ¬ (16 ≤ length draft.nodes) → FollowsOther draft → IsRowFault draft (keyword Node (name ∷ [])) WrongPlace
  node_barred free few barred = wrong_place_first draft (keyword Node (name ∷ [])) (λ h. h) good_node (λ h. h) free few barred

  pub node_said : ¬ IsTaken draft name → ¬ (16 ≤ length draft.nodes) → ¬ FollowsOther draft → RowSays draft (keyword Node (name ∷ [])) (said.Node name)
  node_said free few right = row_says draft (keyword Node (name ∷ [])) (said.Node name) (record { behind = name ∷ []; is = refl; follow = record { row = refl; is_name = is_name } })
      (λ h. h) good_node (λ h. h) free few right

  module _ (home : List ℕ) where
    good_client : ¬ HasBadValue (keyword Client (name ∷ codes "on" ∷ home ∷ []))
    good_client = λ bad. bad name home (record { row = refl; is_name = is_name })

    pub client_unknown : ¬ Contains draft.nodes home → IsRowFault draft (keyword Client (name ∷ codes "on" ∷ home ∷ [])) UnknownName
    client_unknown unknown = unknown_name_first draft (keyword Client (name ∷ codes "on" ∷ home ∷ [])) (λ h. h) good_client unknown

    module _ (id : NodeId) (declared : slice_get draft.nodes id.0 ≡ Some home) where
      known_home : ¬ HasUnknownName draft (keyword Client (name ∷ codes "on" ∷ home ∷ []))
      known_home = λ unknown. unknown (Contains-from_slice_get draft.nodes home id.0 declared)

      pub client_taken : IsTaken draft name → IsRowFault draft (keyword Client (name ∷ codes "on" ∷ home ∷ [])) NameTaken
      client_taken taken = name_taken_first draft (keyword Client (name ∷ codes "on" ∷ home ∷ [])) (λ h. h) good_client known_home taken

      pub client_too_many : ¬ IsTaken draft name → 64 ≤ length draft.clients → IsRowFault draft (keyword Client (name ∷ codes "on" ∷ home ∷ [])) TooManyNames
      client_too_many free many = too_many_first draft (keyword Client (name ∷ codes "on" ∷ home ∷ [])) (λ h. h) good_client known_home free many

      pub client_barred : ¬ IsTaken draft name → ¬ (64 ≤ length draft.clients) → FollowsOther draft → IsRowFault draft (keyword Client (name ∷ codes "on" ∷ home ∷ [])) WrongPlace
      client_barred free few barred = wrong_place_first draft (keyword Client (name ∷ codes "on" ∷ home ∷ [])) (λ h. h) good_client known_home free few barred

      pub client_said : ¬ IsTaken draft name → ¬ (64 ≤ length draft.clients) → ¬ FollowsOther draft → RowSays draft (keyword Client (name ∷ codes "on" ∷ home ∷ [])) (said.Client name id)
      client_said free few right =
          row_says draft (keyword Client (name ∷ codes "on" ∷ home ∷ [])) (said.Client name id)
          (record { behind = name ∷ codes "on" ∷ home ∷ []; home_name = home; is = refl; follow = record { row = refl; is_name = is_name }; declared = declared })
          (λ h. h) good_client known_home free few right

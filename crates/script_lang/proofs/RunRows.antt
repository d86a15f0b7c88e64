-- What the lines say that clients follow, and which of their rules are broken first.
use Rattle.std.proofs.Common.{ℕ, ◌≡◌, List, [], ◌∷◌, Some, refl, inl, inr, ⊎_elim}
use Rattle.std.specs.Prelude.{slice_get, Contains}
use Rattle.store_traits.specs.declared.ids.ClientId.{ClientId}
use Rattle.script_words.specs.Names.{IsName}
use Rattle.script_words.specs.Numbers.{IsNumberWithin}
use Rattle.script_lang.specs.declared.parsing.draft.Draft.{Draft}
use Rattle.script_lang.specs.declared.parsing.line.Line.TheVariants.{Run}
use Rattle.script_lang.specs.declared.parsing.line_word.LineWord.TheVariants as word
use Rattle.script_lang.specs.declared.plan.run_line.Act.{Act}
use Rattle.script_lang.specs.declared.plan.run_line.Act.TheVariants.{Go}
use Rattle.script_lang.specs.declared.parsing.script_error.ScriptFault.{ScriptFault}
use Rattle.script_lang.specs.declared.parsing.script_error.ScriptFault.TheVariants.{UnknownWord, BadValue, UnknownName, NoMemory}
use Rattle.script_lang.specs.CallWords.{Called, to_restart, AreCallWords, CallsFor, HasUnknownCall, IsCallFault}
use Rattle.script_lang.specs.Faults.{HasBadValue, HasUnknownName, HasUnknownWord}
use Rattle.script_lang.specs.Reading.{RowSays, IsRowFault}
use Rattle.script_lang.specs.Rows.{keyword, call}
use Rattle.script_lang.proofs.CallLemmas.{call_declared, call_known, spells_act}
use Rattle.script_lang.proofs.NameLemmas.{Contains-from_slice_get}
use Rattle.script_lang.proofs.RowFaults.{unknown_word_first, bad_value_first, unknown_name_first, row_says}

module _ (draft : Draft) (name number : List ℕ) (steps : ℕ) (is_number : IsNumberWithin number 0 1000 steps) where
  good_go : ¬ HasBadValue (keyword word.Go (name ∷ number ∷ []))
  good_go = λ bad. bad name steps (record { word = number; row = refl; is_number = is_number })

  pub go_unknown : ¬ Contains draft.clients name → IsRowFault draft (keyword word.Go (name ∷ number ∷ [])) UnknownName
  go_unknown unknown = unknown_name_first draft (keyword word.Go (name ∷ number ∷ [])) (λ h. h) good_go unknown

  pub go_said : (client : ClientId) → slice_get draft.clients client.0 ≡ Some name → RowSays draft (keyword word.Go (name ∷ number ∷ [])) (Run (record { client = client; act = Go steps }))
  go_said client declared =
      row_says draft (keyword word.Go (name ∷ number ∷ [])) (Run (record { client = client; act = Go steps }))
      (record { behind = name ∷ number ∷ []; name = name; is = refl; follow = record { word = number; row = refl; is_number = is_number }; declared = declared })
      (λ h. h) good_go (λ unknown. unknown (Contains-from_slice_get draft.clients name client.0 declared)) (λ h. h) (λ h. h) (λ h. h)

module _ (draft : Draft) (name : List ℕ) (is_name : IsName name) (behind : List (List ℕ)) where
  known_row : ¬ HasUnknownCall behind → ¬ HasUnknownWord (call name behind)
  known_row known = λ unknown. ⊎_elim (λ no_name. no_name is_name) known unknown

  module _ (called : Called) (are : AreCallWords behind called) where
    known_call : ¬ HasUnknownWord (call name behind)
    known_call = known_row (call_known behind called are)

    good_call : ¬ HasBadValue (call name behind)
    good_call = λ bad. bad called are

  -- why the words are no call is why the line is faulty
  pub call_fault : (fault : ScriptFault) → IsCallFault draft.nodes behind fault → IsRowFault draft (call name behind) fault
  call_fault UnknownWord unknown = unknown_word_first draft (call name behind) (inr unknown)
  call_fault BadValue bad = bad_value_first draft (call name behind) (known_row bad.0) bad.1
  call_fault UnknownName none =
      unknown_name_first draft (call name behind) (known_call (to_restart none.name) none.words) (good_call (to_restart none.name) none.words)
      (inr (record { name = none.name; more = []; words = none.words; unknown = none.unknown }))
  call_fault NoMemory free = inl refl
  call_fault _ none = absurd none

  module _ (act : Act) (calls : CallsFor draft.nodes behind act) where
    pub call_unknown : ¬ Contains draft.clients name → IsRowFault draft (call name behind) UnknownName
    call_unknown unknown = unknown_name_first draft (call name behind) (known_call calls.called calls.words) (good_call calls.called calls.words) (inl unknown)

    pub call_said : (client : ClientId) → slice_get draft.clients client.0 ≡ Some name → RowSays draft (call name behind) (Run (record { client = client; act = act }))
    call_said client declared =
        let named : ¬ HasUnknownName draft (call name behind) = λ unknown. ⊎_elim
        (λ no_client. no_client (Contains-from_slice_get draft.clients name client.0 declared))
        (call_declared draft.nodes behind act calls.called calls.words calls.asks) unknown in
        row_says draft (call name behind) (Run (record { client = client; act = act }))
        (spells_act draft (call name behind) client act (record { behind = behind; name = name; is = refl; follow = calls; declared = declared }))
        (known_call calls.called calls.words) (good_call calls.called calls.words) named (λ h. h) (λ h. h) (λ h. h)

-- What an edit makes of a map is a map.
use Rattle.std.proofs.Common.{◌≡◌, ℕ, ℤ, ◌+ℤ◌, List, [], ◌∷◌, Option, Some, None, is_some, Bool, not, All, subst, true, false, if◌then◌else◌}
use Rattle.std.specs.Ordering.{is_eq}
use Rattle.std.proofs.lemmas.List.Elements.{All-head, All-tail, All-nil}
use Rattle.std.proofs.lemmas.Option.{same_Some}
use Rattle.store_traits.specs.declared.applied.Applied.TheVariants.{Changed}
use Rattle.prefs_model.specs.declared.pref_pair.PrefPair.{PrefPair}
use Rattle.prefs_model.specs.declared.pref_value.PrefValue.{PrefValue}
use Rattle.prefs_model.specs.declared.pref_value.PrefValue.TheVariants.{Bool as Truth, Int, Long, Texts}
use Rattle.prefs_model.specs.Map.{IsMap, IsKey, value_at, with_value, key_cmp}
use Rattle.prefs_model.specs.Texts.{IsTextSet, with_text, without_text}
use Rattle.prefs_model.specs.Value.{IsValue}
use Rattle.prefs_model.proofs.Maps.{IsMap-with_value, IsMap-without_value}
use Rattle.prefs_model.proofs.Texts.{IsTextSet-with_text, IsTextSet-without_text}
use Rattle.prefs_edit.specs.declared.edit_step.EditStep.{EditStep}
use Rattle.prefs_edit.specs.declared.edit_step.EditStep.TheVariants.{Set, Remove, Clear, AddInt, AddLong, Toggle, InsertText, RemoveText, Require}
use Rattle.prefs_edit.specs.Kinds.{bool_of, int_of, long_of, texts_of}
use Rattle.prefs_edit.specs.Same.{is_value}
use Rattle.prefs_edit.specs.Step.{after_step, of_kind, fits, with_sum}
use Rattle.prefs_edit.specs.After.{after_steps}
use Rattle.prefs_edit.specs.Laws.{IsStep}
use Rattle.prefs_edit.proofs.Fits.{FitsSigned-int, FitsSigned-long}
use Rattle.prefs_edit.proofs.Holds.{Holds, holds_of, holds_of_kind, holds_with_sum, holds_either, holds_required, holds_after}

-- the value, if there is one, is one
abbrev IsFound : Option PrefValue → Type 0
IsFound None = Unit {0}
IsFound (Some value) = IsValue value

found_by : (b : Bool) (pair : PrefPair) (rest : Option PrefValue) → IsValue pair.value → IsFound rest → IsFound (if b then Some pair.value else rest)
found_by true pair rest here behind = here
found_by false pair rest here behind = behind

found_is_value : (pairs : List PrefPair) (key : List ℕ) → All (λ pair. IsValue pair.value) pairs → IsFound (value_at pairs key)
found_is_value [] key all = tt
found_is_value (pair ∷ pairs) key all =
    let Valued : PrefPair → Type 0 = λ pair. IsValue pair.value in
    found_by (is_eq (key_cmp key pair.key)) pair (value_at pairs key) (All-head Valued pair pairs all) (found_is_value pairs key (All-tail Valued pair pairs all))

-- a set that is read at a key is one
read_is_set : (found : Option PrefValue) (texts : List (List ℕ)) → IsFound found → texts_of found ≡ Some texts → IsTextSet texts
read_is_set None texts known is = subst IsTextSet (same_Some _ _ is) (record { rising = tt; valid = All-nil _ })
read_is_set (Some (Texts there)) texts known is = subst IsTextSet (same_Some _ _ is) known
read_is_set (Some other) texts known is = cc

IsMap-sum : (content : Option ℤ) (bits : ℕ) (kind : ℤ → PrefValue) (map : List PrefPair) (key : List ℕ) (amount : ℤ) → ((sum : ℤ) → fits bits sum ≡ true → IsValue (kind sum)) → IsMap map → IsKey key → Holds IsMap (of_kind content (λ number. with_sum bits kind map key (number +ℤ amount)))
IsMap-sum content bits kind map key amount valid is_map is_key =
    holds_of_kind IsMap content (λ number. with_sum bits kind map key (number +ℤ amount)) (λ number is.
    let sum = number +ℤ amount in
    holds_with_sum IsMap bits kind map key sum (λ fitting. IsMap-with_value map key (kind sum) is_map is_key (valid sum fitting)))

IsMap-after_step : (step : EditStep) (map : List PrefPair) → IsStep step → IsMap map → Holds IsMap (after_step step map)
unfolding after_step
IsMap-after_step (Set key value) map valid is_map = IsMap-with_value map key value is_map valid.0 valid.1
IsMap-after_step (Remove key) map valid is_map = IsMap-without_value map key is_map
IsMap-after_step Clear map valid is_map = record { rising = tt; keys = All-nil _; values = All-nil _ }
IsMap-after_step (AddInt key amount) map valid is_map =
    IsMap-sum (int_of (value_at map key)) 31 Int map key amount FitsSigned-int is_map valid
IsMap-after_step (AddLong key amount) map valid is_map =
    IsMap-sum (long_of (value_at map key)) 63 Long map key amount FitsSigned-long is_map valid
IsMap-after_step (Toggle key) map valid is_map =
    holds_of_kind IsMap (bool_of (value_at map key)) (λ b. Changed (with_value map key (Truth (not b)))) (λ b is. IsMap-with_value map key (Truth (not b)) is_map valid tt)
IsMap-after_step (InsertText key text) map valid is_map =
    let found = value_at map key in
    holds_of_kind IsMap (texts_of found) (λ texts. Changed (with_value map key (Texts (with_text texts text)))) (λ texts is.
    IsMap-with_value map key (Texts (with_text texts text)) is_map valid.0 (IsTextSet-with_text texts text (read_is_set found texts (found_is_value map key is_map.values) is) valid.1))
IsMap-after_step (RemoveText key text) map valid is_map =
    let found = value_at map key in
    let made : List (List ℕ) → List PrefPair = λ texts. with_value map key (Texts (without_text texts text)) in
    holds_of_kind IsMap (texts_of found) (λ texts. Changed (if is_some found then made texts else map)) (λ texts is.
    let set = IsTextSet-without_text texts text (read_is_set found texts (found_is_value map key is_map.values) is) in
    holds_either IsMap (is_some found) (made texts) map (IsMap-with_value map key (Texts (without_text texts text)) is_map valid.0 set) is_map)
IsMap-after_step (Require key value) map valid is_map = holds_required IsMap (is_value (value_at map key) value) map is_map

pub IsMap-after_steps : (steps : List EditStep) (map changed : List PrefPair) → All IsStep steps → IsMap map → after_steps steps map ≡ Changed changed → IsMap changed
IsMap-after_steps steps map changed all is_map is = holds_of IsMap (after_steps steps map) changed (holds_after IsMap IsStep IsMap-after_step steps map all is_map) is

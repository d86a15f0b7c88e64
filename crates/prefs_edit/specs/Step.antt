-- What a step makes of a map: another map, or the code of its refusal.
use Rattle.std.specs.Prelude.{ℕ, ℤ, pos, negsuc, ◌+ℤ◌, ◌^◌, nat_lt, List, [], Option, Some, None, is_some, Bool, not, if◌then◌else◌}
use Rattle.store_traits.specs.declared.applied.Applied.{Applied}
use Rattle.store_traits.specs.declared.applied.Applied.TheVariants.{Changed, Refused}
use Rattle.prefs_model.specs.declared.pref_pair.PrefPair.{PrefPair}
use Rattle.prefs_model.specs.declared.pref_value.PrefValue.{PrefValue}
use Rattle.prefs_model.specs.declared.pref_value.PrefValue.TheVariants.{Bool as Truth, Int, Long, Texts}
use Rattle.prefs_model.specs.Map.{value_at, with_value, without_value}
use Rattle.prefs_model.specs.Texts.{with_text, without_text}
use Rattle.prefs_edit.specs.declared.edit_step.EditStep.{EditStep}
use Rattle.prefs_edit.specs.declared.edit_step.EditStep.TheVariants.{Set, Remove, Clear, AddInt, AddLong, Toggle, InsertText, RemoveText, Require}
use Rattle.prefs_edit.specs.Kinds.{bool_of, int_of, long_of, texts_of}
use Rattle.prefs_edit.specs.Same.{is_value}

-- a map, or a code
abbrev pub Outcome : Type 0
Outcome = Applied (List PrefPair)

-- code 1 where the key has a value of another kind
abbrev pub of_kind : {X : Type 0} → Option X → (X → Outcome) → Outcome
of_kind None next = Refused 1
of_kind (Some content) next = next content

-- the number needs no more than so many bits beside its sign
abbrev pub fits : ℕ → ℤ → Bool
fits bits (pos n) = nat_lt n (2 ^ bits)
fits bits (negsuc n) = nat_lt n (2 ^ bits)

-- the map once the key has the sum, or code 2 where that is outside its kind's range
abbrev pub with_sum : ℕ → (ℤ → PrefValue) → List PrefPair → List ℕ → ℤ → Outcome
with_sum bits kind map key sum = if fits bits sum then Changed (with_value map key (kind sum)) else Refused 2

unfoldable pub after_step : EditStep → List PrefPair → Outcome
after_step (Set key value) map = Changed (with_value map key value)
after_step (Remove key) map = Changed (without_value map key)
after_step Clear map = Changed []
after_step (AddInt key amount) map = of_kind (int_of (value_at map key)) (λ number. with_sum 31 Int map key (number +ℤ amount))
after_step (AddLong key amount) map = of_kind (long_of (value_at map key)) (λ number. with_sum 63 Long map key (number +ℤ amount))
after_step (Toggle key) map = of_kind (bool_of (value_at map key)) (λ b. Changed (with_value map key (Truth (not b))))
after_step (InsertText key text) map = of_kind (texts_of (value_at map key)) (λ texts. Changed (with_value map key (Texts (with_text texts text))))
after_step (RemoveText key text) map = of_kind (texts_of (value_at map key)) (λ texts. Changed (if is_some (value_at map key) then with_value map key (Texts (without_text texts text)) else map))
after_step (Require key value) map = if is_value (value_at map key) value then Changed map else Refused 3

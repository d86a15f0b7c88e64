-- An edit that leaves a key alone leaves what it has.
use Rattle.std.proofs.Common.{◌≡◌, ◌≢◌, ℕ, ℤ, ◌+ℤ◌, List, Option, is_some, not, All, ◌∙◌, refl, if◌then◌else◌}
use Rattle.store_traits.specs.declared.applied.Applied.TheVariants.{Changed}
use Rattle.prefs_model.specs.declared.pref_pair.PrefPair.{PrefPair}
use Rattle.prefs_model.specs.declared.pref_value.PrefValue.{PrefValue}
use Rattle.prefs_model.specs.declared.pref_value.PrefValue.TheVariants.{Bool as Truth, Int, Long, Texts}
use Rattle.prefs_model.specs.Texts.{with_text, without_text}
use Rattle.prefs_model.specs.Map.{value_at, with_value}
use Rattle.prefs_model.proofs.Maps.{value_at-with_other, value_at-without_other}
use Rattle.prefs_edit.specs.declared.edit_step.EditStep.{EditStep}
use Rattle.prefs_edit.specs.declared.edit_step.EditStep.TheVariants.{Set, Remove, Clear, AddInt, AddLong, Toggle, InsertText, RemoveText, Require}
use Rattle.prefs_edit.specs.Step.{after_step, of_kind, with_sum}
use Rattle.prefs_edit.specs.After.{after_steps}
use Rattle.prefs_edit.specs.Kinds.{bool_of, int_of, long_of, texts_of}
use Rattle.prefs_edit.specs.Same.{is_value}
use Rattle.prefs_edit.specs.Laws.{LeavesAlone}
use Rattle.prefs_edit.proofs.Holds.{Holds, holds_of, holds_of_kind, holds_with_sum, holds_either, holds_required, holds_after}

module _ (key : List ℕ) (value : Option PrefValue) where
  abbrev HasStill : List PrefPair → Type 0
  HasStill map = value_at map key ≡ value

  -- the key has what it had once another key has a value
  still_behind : (map : List PrefPair) (other : List ℕ) (new : PrefValue) → key ≢ other → HasStill map → HasStill (with_value map other new)
  still_behind map other new differs has = value_at-with_other map other new key differs ∙ has

  still_sum : (content : Option ℤ) (bits : ℕ) (kind : ℤ → PrefValue) (map : List PrefPair) (other : List ℕ) (amount : ℤ) → key ≢ other → HasStill map → Holds HasStill (of_kind content (λ number. with_sum bits kind map other (number +ℤ amount)))
  still_sum content bits kind map other amount differs has =
      holds_of_kind HasStill content (λ number. with_sum bits kind map other (number +ℤ amount)) (λ number is. holds_with_sum HasStill bits kind map other (number +ℤ amount) (λ fitting. still_behind map other (kind (number +ℤ amount)) differs has))

  still_of_kind : {X : Type 0} (content : Option X) (made : X → List PrefPair) → ((x : X) → HasStill (made x)) → Holds HasStill (of_kind content (λ x. Changed (made x)))
  still_of_kind content made each = holds_of_kind HasStill content (λ x. Changed (made x)) (λ x is. each x)

  still_has : (step : EditStep) (map : List PrefPair) → LeavesAlone key step → HasStill map → Holds HasStill (after_step step map)
  unfolding after_step
  still_has (Set other new) map differs has = still_behind map other new differs has
  still_has (Remove other) map differs has = value_at-without_other map other key differs ∙ has
  still_has Clear map wrong has = absurd wrong
  still_has (AddInt other amount) map differs has = still_sum (int_of (value_at map other)) 31 Int map other amount differs has
  still_has (AddLong other amount) map differs has = still_sum (long_of (value_at map other)) 63 Long map other amount differs has
  still_has (Toggle other) map differs has = still_of_kind (bool_of (value_at map other)) (λ b. with_value map other (Truth (not b))) (λ b. still_behind map other (Truth (not b)) differs has)
  still_has (InsertText other text) map differs has =
      still_of_kind (texts_of (value_at map other)) (λ texts. with_value map other (Texts (with_text texts text))) (λ texts. still_behind map other (Texts (with_text texts text)) differs has)
  still_has (RemoveText other text) map differs has =
      let made : List (List ℕ) → List PrefPair = λ texts. with_value map other (Texts (without_text texts text)) in
      still_of_kind (texts_of (value_at map other)) (λ texts. if is_some (value_at map other) then made texts else map) (λ texts. holds_either HasStill (is_some (value_at map other)) (made texts) map (still_behind map other (Texts (without_text texts text)) differs has) has)
  still_has (Require other wanted) map alone has = holds_required HasStill (is_value (value_at map other) wanted) map has

pub value_at-after_steps : (steps : List EditStep) (map changed : List PrefPair) (key : List ℕ) → All (LeavesAlone key) steps → after_steps steps map ≡ Changed changed → value_at changed key ≡ value_at map key
value_at-after_steps steps map changed key all is =
    let value = value_at map key in
    holds_of (HasStill key value) (after_steps steps map) changed (holds_after (HasStill key value) (LeavesAlone key) (still_has key value) steps map all refl) is

-- What an edit makes of a map: its steps in order, of which the first that refuses refuses the whole.
use Rattle.std.specs.Prelude.{List, [], ◌∷◌}
use Rattle.store_traits.specs.declared.applied.Applied.TheVariants.{Changed, Refused}
use Rattle.prefs_model.specs.declared.pref_pair.PrefPair.{PrefPair}
use Rattle.prefs_edit.specs.declared.edit_step.EditStep.{EditStep}
use Rattle.prefs_edit.specs.Step.{Outcome, after_step}

-- goes on with the map, if there is one
abbrev pub and_then : Outcome → (List PrefPair → Outcome) → Outcome
and_then (Changed map) next = next map
and_then (Refused code) next = Refused code

unfoldable pub after_steps : List EditStep → List PrefPair → Outcome
after_steps [] map = Changed map
after_steps (step ∷ steps) map = and_then (after_step step map) (after_steps steps)

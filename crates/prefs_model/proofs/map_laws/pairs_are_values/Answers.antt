use Rattle.prefs_model.proofs.Maps.{value_at-pair, has_value-value_at}
use Rattle.prefs_model.proofs.map_laws.pairs_are_values.Goals as goal

pub returns : goal.returns
returns c = record { values = value_at-pair; keys = has_value-value_at }

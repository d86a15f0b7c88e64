use Rattle.prefs_model.proofs.Maps.{same_from_value_at}
use Rattle.prefs_model.proofs.map_laws.one_map.Goals as goal

pub returns : goal.returns
returns c = same_from_value_at

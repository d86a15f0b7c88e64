use Rattle.prefs_model.proofs.Maps.{IsMap-with_value, value_at-with_value, value_at-with_other, with_value_same}
use Rattle.prefs_model.proofs.map_laws.values_after_set.Goals as goal

pub returns : goal.returns
returns c = record {
  map = IsMap-with_value;
  this_key = value_at-with_value;
  other_keys = value_at-with_other;
  same_value = with_value_same;
}

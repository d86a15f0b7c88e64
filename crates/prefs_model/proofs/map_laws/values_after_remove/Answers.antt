use Rattle.prefs_model.proofs.Maps.{IsMap-without_value, value_at-without_value, value_at-without_other, without_value_absent}
use Rattle.prefs_model.proofs.map_laws.values_after_remove.Goals as goal

pub returns : goal.returns
returns c = record {
  map = IsMap-without_value;
  this_key = value_at-without_value;
  other_keys = value_at-without_other;
  absent = without_value_absent;
}

use Rattle.prefs_edit.proofs.Maps.{IsMap-after_steps}
use Rattle.prefs_edit.proofs.edit_laws.maps_stay_maps.Goals as goal

pub returns : goal.returns
returns c = IsMap-after_steps

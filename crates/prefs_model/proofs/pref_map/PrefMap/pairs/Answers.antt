use Rattle.prefs_model.proofs.Maps.{IsMap-sorted}
use Rattle.prefs_model.proofs.pref_map.PrefMap.pairs.Goals as goal

pub returns-clause-map : goal.returns-clause-map
returns-clause-map c = rw (← c.self.view_is) (IsMap-sorted c.self.inside.pairs c.as_slice.ensures.sorted)

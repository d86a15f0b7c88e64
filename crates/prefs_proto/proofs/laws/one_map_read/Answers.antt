use Rattle.prefs_proto.specs.Laws.OneReading.{reads_once}
use Rattle.prefs_proto.proofs.laws.one_map_read.Goals as goal

pub returns : goal.returns
returns c = reads_once

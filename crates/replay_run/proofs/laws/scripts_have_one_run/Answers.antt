use Rattle.prefs_proto.specs.Laws.OneReading.{reads_once}
use Rattle.replay_run.specs.PrefsBasis.{prefs_basis}
use Rattle.replay_run.proofs.unique.OneTranscript.{runs_once}
use Rattle.replay_run.proofs.laws.scripts_have_one_run.Goals as goal

pub returns : goal.returns
returns c script one other run also = runs_once prefs_basis reads_once script one other run also

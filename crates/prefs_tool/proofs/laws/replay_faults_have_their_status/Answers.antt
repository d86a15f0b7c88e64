use Rattle.prefs_tool.proofs.FaultStatus.{sink_of_replay, source_of_replay}
use Rattle.prefs_tool.proofs.laws.replay_faults_have_their_status.Goals as goal

pub returns : goal.returns
returns c = record { sink = sink_of_replay; source = source_of_replay }

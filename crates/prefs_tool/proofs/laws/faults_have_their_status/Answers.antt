use Rattle.prefs_tool.proofs.FaultStatus.{folder_of_command, sink_of_command, sink_of_words}
use Rattle.prefs_tool.proofs.laws.faults_have_their_status.Goals as goal

pub returns : goal.returns
returns c = record { sink = sink_of_command; folder = folder_of_command; words = sink_of_words }

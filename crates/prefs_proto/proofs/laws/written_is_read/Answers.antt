use Rattle.prefs_proto.specs.Laws.Written.{written_reads}
use Rattle.prefs_proto.proofs.laws.written_is_read.Goals as goal

pub returns : goal.returns
returns c = written_reads

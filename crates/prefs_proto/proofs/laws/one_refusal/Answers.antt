use Rattle.prefs_proto.proofs.Decodes.{no_map}
use Rattle.prefs_proto.proofs.OneRefusal.{one_refusal}
use Rattle.prefs_proto.proofs.laws.one_refusal.Goals as goal

pub returns-clause-same : goal.returns-clause-same
returns-clause-same c = one_refusal

pub returns-clause-no_map : goal.returns-clause-no_map
returns-clause-no_map c = λ bytes e pairs refusal read. no_map bytes e refusal.detail refusal.not_memory pairs read

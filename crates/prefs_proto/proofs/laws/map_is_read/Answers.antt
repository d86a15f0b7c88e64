use Rattle.prefs_proto.proofs.laws.map_is_read.Goals as goal

pub returns : goal.returns
returns c = λ bytes pairs r. r.map

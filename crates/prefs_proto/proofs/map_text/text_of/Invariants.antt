use Rattle.std.proofs.Common.{◌≡◌, take}
use Rattle.prefs_proto.specs.Encoded.{encoded}
use Rattle.prefs_proto.proofs.map_text.text_of.Given as goal

abbrev pub invariant-loop-pair : goal.invariant-loop-pair
invariant-loop-pair l = l.out.items ≡ encoded (take l.pair-index l.pairs)

use Rattle.std.proofs.Common.{◌≡◌, take}
use Rattle.prefs_proto.specs.FieldText.{count_of}
use Rattle.prefs_proto.specs.Encoded.{encoded}
use Rattle.prefs_proto.proofs.map_text.text_len.Given as goal

abbrev pub invariant-loop-pair : goal.invariant-loop-pair
invariant-loop-pair l = l.len ≡ count_of (encoded (take l.pair-index l.pairs))

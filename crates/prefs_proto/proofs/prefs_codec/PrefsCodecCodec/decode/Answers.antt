use Rattle.prefs_proto.proofs.Decodes.{no_map, not_true}
use Rattle.prefs_proto.proofs.prefs_codec.PrefsCodecCodec.decode.Goals as goal

pub returns : goal.returns
returns c = no_map c.args.bytes.now c.in-Err.e c.in-Err.ensures (λ is. not_true c.is_no_memory.result c.if-is_no_memory.false (c.is_no_memory.ensures.1 is))

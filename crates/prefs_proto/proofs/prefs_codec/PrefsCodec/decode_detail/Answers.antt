use Rattle.std.proofs.Common.{ap}
use Rattle.prefs_proto.specs.Found.{unfit_place}
use Rattle.prefs_proto.proofs.Decodes.{settled_found}
use Rattle.prefs_proto.proofs.prefs_codec.PrefsCodec.decode_detail.Goals as goal

pub returns : goal.returns
returns c = settled_found c.args.bytes.now c.in-Ok.found c.settle.result c.in-Ok.ensures (ap unfit_place c.in_default.is) (ap unfit_place c.in_default-keys.is) c.settle.ensures

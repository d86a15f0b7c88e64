use Rattle.std.proofs.Common.{◌≡◌}
use Rattle.prefs_proto.specs.Laws.Places.{good_text}
use Rattle.prefs_proto.proofs.Steps.{no_text}
use Rattle.prefs_proto.proofs.read_text.read_text.Goals as goal

pub returns-in_default : goal.returns-in_default
returns-in_default c = no_text c.args.place c.args.bytes.now c.in_default.ensures.cases.0

pub returns : goal.returns
returns c =
    let same : c.new.result ≡ c.args.bytes.now = cc (c.new.ensures, c.in_ok-from_str.ensures.ok, c.in-Ok.ensures.cases.0) in
    (same, good_text c.args.place c.args.bytes.now c.in-Ok.ensures.cases.1)

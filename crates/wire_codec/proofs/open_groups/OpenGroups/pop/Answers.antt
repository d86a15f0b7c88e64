use Rattle.wire_codec.proofs.Groups.{popped}
use Rattle.wire_codec.proofs.open_groups.OpenGroups.pop.Goals as goal

pub returns : goal.returns
returns c = popped c.self.inside.groups c.args.self.now c.self.inside.count c.self.invariant.0 c.self.view_is c.requires

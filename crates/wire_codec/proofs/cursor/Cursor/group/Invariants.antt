use Rattle.std.proofs.Common.{length}
use Rattle.wire_codec.proofs.Groups.{InGroup}
use Rattle.wire_codec.proofs.cursor.Cursor.group.Given as goal

abbrev pub invariant-loop-groups : goal.invariant-loop-groups
invariant-loop-groups l = InGroup l.fn.self l.self l.fn.first l.groups

abbrev pub decreases-loop-groups : goal.decreases-loop-groups
decreases-loop-groups l = length l.self.rest

use Rattle.std.proofs.Common.{rules}
use Rattle.version_room.proofs.Raising.{hears_keeps}
use Rattle.version_room.proofs.Lawfully.{same_lawful}
use Rattle.version_room.proofs.room.Room.hear.Goals as goal

pub load-requires : goal.load-requires
load-requires g c = (search rules, search rules, hears_keeps _ _ _ _ _)

pub invariant_of-pass-clause-lawful : goal.invariant_of-pass-clause-lawful
invariant_of-pass-clause-lawful g c = same_lawful g.S.Listed.meaning _ _ c.load.ensures.2.0 c.args.pass.now.lawful

use Rattle.std.proofs.Common.{rules, arith}
use Rattle.version_room.proofs.Raising.{lifts_keeps}
use Rattle.version_room.proofs.Lawfully.{raised_lawful, raised_numbers}
use Rattle.version_room.proofs.room.Room.lift.Goals as goal

pub fetch_add-requires : goal.fetch_add-requires
fetch_add-requires g c = let low = c.requires.low in (search rules, search rules, lifts_keeps _ _ _ _ _ low.0 low.1 (omega (arith, low.2)))

pub invariant_of-pass-clause-lawful : goal.invariant_of-pass-clause-lawful
invariant_of-pass-clause-lawful g c = raised_lawful g.S.Listed.meaning _ _ c.requires.low c.fetch_add.ensures.2 c.args.pass.now.lawful

pub invariant_of-pass-clause-numbers : goal.invariant_of-pass-clause-numbers
invariant_of-pass-clause-numbers g c = raised_numbers g.S.Listed.meaning _ _ c.requires.low c.fetch_add.ensures.2 c.args.pass.now.numbers

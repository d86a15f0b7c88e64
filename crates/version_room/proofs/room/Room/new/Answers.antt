use Rattle.version_room.proofs.Calls.{opens_as}
use Rattle.version_room.proofs.Lawfully.{first_lawful}
use Rattle.version_room.proofs.room.Room.new.Goals as goal

pub new-requires : goal.new-requires
new-requires g c = opens_as _ c.args.state _ _ c.of-about.ensures c.requires c.in-Ok.ensures.ok

pub invariant_of-result-in-Ok-new-clause-lawful : goal.invariant_of-result-in-Ok-new-clause-lawful
invariant_of-result-in-Ok-new-clause-lawful g c = first_lawful g.S.Listed.meaning c.in-Ok-new.seat.me c.args.state c.of-about.result.value c.in-Ok-new.ensures.ok.4 c.of-about.ensures c.requires c.show_lawful.ensures

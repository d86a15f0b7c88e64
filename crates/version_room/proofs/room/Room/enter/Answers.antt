use Rattle.std.proofs.Common.{◌∙◌}
use Rattle.version_room.proofs.Calls.{begins}
use Rattle.version_room.proofs.room.Room.enter.Goals as goal

pub returns-clause-begun : goal.returns-clause-begun
returns-clause-begun g c =
    let d = c.draw-ticket.ensures in
    let w = c.wait_for.ensures in
    begins g.S.Listed.meaning _ _ _ _ _ c.requires d.waiting w.entered (w.same.0 ∙ d.same.0, w.same.1 ∙ d.same.1)

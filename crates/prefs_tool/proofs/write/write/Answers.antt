-- The sink took all of the piece, or a prefix of it.
use Rattle.prefs_tool.proofs.write.write.Goals as goal

pub returns-in-Ok : goal.returns-in-Ok
returns-in-Ok g c = record { sound = c.in-Ok.ensures.faults.kept; gained = c.in-Ok.ensures.taken }

pub returns-in-Err : goal.returns-in-Err
returns-in-Err g c = record { rose = c.in-Err.ensures.faults.cause; gained = c.in-Err.ensures.taken }

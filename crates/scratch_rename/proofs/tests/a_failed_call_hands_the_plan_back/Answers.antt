use Rattle.std.proofs.Common.{arith}
use Rattle.scratch_rename.proofs.FillingLemmas.{piece_le}
use Rattle.scratch_rename.proofs.tests.a_failed_call_hands_the_plan_back.Goals as goal

pub append-requires-clause-room : goal.append-requires-clause-room
append-requires-clause-room g c = omega (arith, piece_le c.in_ok-filled.filled, c.create.ensures.room.bytes_left, c.in_ok-make_room.ensures.room.bytes)

use Rattle.std.proofs.Common.{arith}
use Rattle.scratch_rename.proofs.FillingLemmas.{piece_le}
use Rattle.scratch_rename.proofs.tests.a_text_of_two_pieces_becomes_main.Goals as goal

pub append-requires-clause-room : goal.append-requires-clause-room
append-requires-clause-room g c = omega (arith, piece_le c.in_ok-filled.filled, c.create.ensures.room.bytes_left, c.in_ok-make_room.ensures.room.bytes)

pub append-requires-2-clause-room : goal.append-requires-2-clause-room
append-requires-2-clause-room g c =
    omega (arith, piece_le c.in_ok-filled.filled, piece_le c.in_ok-filled-2.filled, c.create.ensures.room.bytes_left, c.append.ensures.room.bytes_left, c.in_ok-make_room.ensures.room.bytes)

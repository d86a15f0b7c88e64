use Rattle.wire_codec.specs.Faults.{eight_cut}
use Rattle.wire_codec.proofs.cursor.Cursor.eight.Goals as goal

pub returns-in_default-clause-fault : goal.returns-in_default-clause-fault
returns-in_default-clause-fault c = rw c.place-place.ensures (eight_cut c.in_default.ensures.0)

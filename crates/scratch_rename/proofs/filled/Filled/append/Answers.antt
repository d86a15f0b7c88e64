-- The plan stands behind the next piece once that is appended.
use Rattle.std.proofs.Common.{arith}
use Rattle.scratch_rename.proofs.FillingLemmas.{filled_by, length_written, piece_within}
use Rattle.scratch_rename.proofs.filled.Filled.append.Goals as goal

pub overflow_add-end : goal.overflow_add-end
overflow_add-end g c = omega (arith, length_written _ _ _ c.self.view_is c.self.invariant)

pub invariant_of-result : goal.invariant_of-result
invariant_of-result g c = piece_within _ _ _ _ c.self.view_is c.next_piece-piece.ensures.piece c.self.invariant

pub returns-in-Ok-clause-plan : goal.returns-in-Ok-clause-plan
returns-in-Ok-clause-plan g c = filled_by _ _ _ _ c.self.view_is c.next_piece-piece.ensures.piece

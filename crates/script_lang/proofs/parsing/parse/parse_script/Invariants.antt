use Rattle.std.proofs.Common.{length}
use Rattle.script_lang.proofs.ReadSoFar.{ReadSoFar}
use Rattle.script_lang.proofs.parsing.parse.parse_script.Given as goal

abbrev pub invariant-loop-rest : goal.invariant-loop-rest
invariant-loop-rest l = ReadSoFar l.fn.mode l.bytes l.number l.rest l.draft

abbrev pub decreases-loop-rest : goal.decreases-loop-rest
decreases-loop-rest l = length l.rest

use Rattle.script_words.specs.Words.{texts_at}
use Rattle.script_words.proofs.ReadSoFar.{ReadSoFar}
use Rattle.script_words.proofs.line.line_words.Given as goal

abbrev pub invariant-loop-at : goal.invariant-loop-at
invariant-loop-at l = ReadSoFar l.line l.start l.at l.place (texts_at l.words.items)

use Rattle.std.proofs.Common.{◌≡◌, ◌∷◌, ◌++◌, codes, take}
use Rattle.command_words.specs.Command.{texts}
use Rattle.command_words.specs.Line.{texts_at}
use Rattle.command_words.proofs.words.dashes.line_of.Given as goal

abbrev pub invariant-loop-word : goal.invariant-loop-word
invariant-loop-word l = texts_at l.line.items ≡ l.name ∷ codes "--" ∷ texts (take l.word-index l.before)

abbrev pub invariant-loop-word-2 : goal.invariant-loop-word-2
invariant-loop-word-2 l = texts_at l.line.items ≡ l.name ∷ codes "--" ∷ (texts l.before ++ texts (take l.word-index l.after))

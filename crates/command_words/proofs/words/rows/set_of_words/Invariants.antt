use Rattle.std.proofs.Common.{◌≡◌, take}
use Rattle.command_words.specs.Line.{texts_at}
use Rattle.command_words.proofs.words.rows.set_of_words.Given as goal

abbrev pub invariant-loop-word : goal.invariant-loop-word
invariant-loop-word l = l.entries ≡ texts_at (take l.word-index l.words)

use Rattle.std.proofs.Common.{All, take}
use Rattle.command_words.specs.Command.{texts}
use Rattle.command_words.specs.Words.{IsNoOption}
use Rattle.command_words.proofs.words.dashes.parted.Given as goal

abbrev pub invariant-loop-place : goal.invariant-loop-place
invariant-loop-place l = All IsNoOption (texts (take l.place l.words))

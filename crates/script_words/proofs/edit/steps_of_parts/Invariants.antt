-- The first parts are the steps so far.
use Rattle.std.proofs.Common.{take}
use Rattle.std.specs.List.{AllZip}
use Rattle.script_words.specs.Parts.{parts_at}
use Rattle.script_words.specs.StepWords.{AreStepWords}
use Rattle.script_words.proofs.edit.steps_of_parts.Given as goal

abbrev pub invariant-loop-part : goal.invariant-loop-part
invariant-loop-part l = AllZip AreStepWords (parts_at (take l.part-index l.parts)) l.steps.items

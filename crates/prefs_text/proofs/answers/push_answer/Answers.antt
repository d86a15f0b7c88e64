use Rattle.std.proofs.Common.{arith}
use Rattle.std.proofs.lemmas.Grind.{common_steps}
use Rattle.prefs_text.specs.AnswerText.{answer_text}
use Rattle.prefs_text.proofs.answers.push_answer.Goals as goal

-- for must-fail poster_is_the_actor
pub returns : goal.returns
unfolding answer_text
returns c = grind (arith, common_steps)

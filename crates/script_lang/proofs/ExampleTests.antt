-- A transcript of the examples is judged by computing.
use Rattle.std.proofs.Common.{◌≡◌, true, false}
use Rattle.shelf.proofs.Tests.{fails, holds}
use Rattle.script_lang.specs.declared.plan.script.Script.{Script}
use Rattle.script_lang.specs.declared.transcripts.transcript.Transcript.{Transcript}
use Rattle.script_lang.specs.Good.{Good, Scripted}
use Rattle.script_lang.specs.Rules.{Breaks, Rule}
use Rattle.script_lang.specs.TruthExamples.{basis}
use Rattle.script_lang.proofs.ExampleReads.{example_reads}
use Rattle.script_lang.proofs.GoodTest.{good, keeps}

pub shown : (script : Script) (transcript : Transcript) → (good basis example_reads Scripted script transcript).test ≡ true → Good basis script transcript
shown script transcript is = holds (good basis example_reads Scripted script transcript) is

pub broken : (rule : Rule) (script : Script) (transcript : Transcript) → (keeps basis example_reads Scripted script transcript rule).test ≡ false → Breaks basis rule script transcript
broken rule script transcript is = fails (keeps basis example_reads Scripted script transcript rule) is

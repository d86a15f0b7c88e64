-- Whoever the transcripts so far name has a name.
use Rattle.std.specs.Prelude.{All}
use Rattle.script_lang.specs.TranscriptText.{HasNames}
use Rattle.ds_bench.proofs.transcripts.transcripts.Given as goal

abbrev pub invariant-loop : goal.invariant-loop
invariant-loop l = All HasNames l.transcripts.items

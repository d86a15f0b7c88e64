use Rattle.std.proofs.Common.{sym, subst, arith}
use Rattle.script_lang.specs.TranscriptText.{HasNames}
use Rattle.ds_bench.proofs.transcripts.write_all_of.Goals as goal

pub write_transcript-requires : goal.write_transcript-requires
write_transcript-requires c =
    subst HasNames (sym c.transcript-item.is) (c.requires c.loop-transcript.transcript-index c.transcript-item.result (omega arith))

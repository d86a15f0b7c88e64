use Rattle.std.proofs.Common.{sym, subst}
use Rattle.std.specs.Prelude.{All}
use Rattle.script_lang.specs.TranscriptText.{HasNames}
use Rattle.ds_bench.proofs.transcripts.fastest_round.Goals as goal

pub write_all_of-requires : goal.write_all_of-requires
write_all_of-requires c = subst (All HasNames) (sym c.deref.ensures.value) c.in_ok-transcripts.ensures

use Rattle.std.proofs.Common.{[], ◌∷◌, sym, subst}
use Rattle.std.specs.Prelude.{All}
use Rattle.std.proofs.lemmas.List.Elements.{All-append, All-cons, All-nil}
use Rattle.script_lang.specs.TranscriptText.{HasNames}
use Rattle.ds_bench.proofs.transcripts.transcripts.Goals as goal

pub loop-preserved : goal.loop-preserved
loop-preserved c =
    let more = c.in_ok-transcript.field-0 in
    subst (All HasNames) (sym c.in_ok-push.ensures.items)
    (All-append HasNames c.loop.transcripts.items (more ∷ []) c.loop.invariant (All-cons HasNames more [] c.in_ok-transcript.ensures (All-nil HasNames)))

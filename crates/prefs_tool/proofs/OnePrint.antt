-- The bytes of the source determine what `replay` prints.
use Rattle.std.proofs.Common.{◌≡◌, ◌∙◌, ◌++◌, ℕ, List, sym, ap, subst}
use Rattle.std.proofs.Math.Logic.{∥∥₁_elim}
use Rattle.std.specs.Coded.{coded_ℕ, coded_list}
use base.Stored.{Coded-set}
use Rattle.byte_io.specs.Seen.{SinkSeen, SourceSeen}
use Rattle.prefs_proto.specs.Laws.OneReading.{reads_once}
use Rattle.script_lang.specs.TranscriptText as transcript
use Rattle.script_lang.specs.declared.plan.mode.Mode.TheVariants as mode
use Rattle.script_lang.specs.declared.plan.script.Script.{Script}
use Rattle.script_lang.proofs.ScriptLaws.{one_script}
use Rattle.replay_run.specs.PrefsBasis.{prefs_basis}
use Rattle.replay_run.specs.ScriptRun.{Runs}
use Rattle.replay_run.proofs.unique.OneTranscript.{runs_once}
use Rattle.prefs_tool.specs.Replaying.{Printed}

text_set : IsSet (List ℕ)
text_set = Coded-set (coded_list coded_ℕ)

pub one_print : (source one_source other_source : SourceSeen) (sink one_sink other_sink : SinkSeen)
    → Printed source sink one_source one_sink → Printed source sink other_source other_sink → one_sink.held ≡ other_sink.held
one_print source one_source other_source sink one_sink other_sink one other =
    let script : one.script ≡ other.script = one_script mode.Replay source.left one.script other.script one.means other.means in
    let text : transcript.text one.run ≡ transcript.text other.run =
    ∥∥₁_elim one.replays (text_set _ _) (λ first. ∥∥₁_elim other.replays (text_set _ _) (λ second.
    ap transcript.text (runs_once prefs_basis reads_once other.script one.run other.run (subst (λ (s : Script). Runs prefs_basis s one.run) script first.run) second.run))) in
    one.printed ∙ ap (λ (t : List ℕ). sink.held ++ t) text ∙ sym other.printed

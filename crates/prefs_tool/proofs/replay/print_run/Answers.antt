-- The source gives a script, the script its run, and the sink takes the text of the run.
use Rattle.std.proofs.lemmas.Result.{err_from_is_err_and}
use Rattle.byte_io.specs.Seen.{sink_seen, source_seen}
use Rattle.script_lang.proofs.KeepsLemmas.{script_keeps}
use Rattle.script_lang.specs.declared.plan.mode.Mode.TheVariants.{Replay}
use Rattle.prefs_tool.proofs.ReplayLemmas.{run_ends, run_stops, script_stops}
use Rattle.prefs_tool.proofs.replay.print_run.Goals as goal

pub returns-in_err-script : goal.returns-in_err-script
returns-in_err-script g c =
    let seen = source_seen g.S.Source in
    let p = err_from_is_err_and c.from_residual.result c.from_residual.ensures.1 in
    rw (p.1, p.2) (script_stops (seen c.args.source.now) (seen c.read_script.new.source) (Unit {0}) (sink_seen g.K.Sink c.args.sink.now)
    c.in_err-script.field-0.0 c.in_err-script.ensures.script c.in_err-script.ensures.faults)

pub replay-requires : goal.replay-requires
replay-requires g c = script_keeps Replay c.in_ok-script.ensures.script.bytes c.in_ok-script.script c.in_ok-script.ensures.script.means

pub returns-in_err-transcript : goal.returns-in_err-transcript
returns-in_err-transcript g c =
    let seen = source_seen g.S.Source in
    let p = err_from_is_err_and c.from_residual-in_err-transcript.result c.from_residual-in_err-transcript.ensures.1 in
    rw (p.1, p.2) (run_stops (seen c.args.source.now) (seen c.read_script.new.source) c.in_ok-script.script c.in_ok-script.ensures.script c.in_ok-script.ensures.faults
    (Unit {0}) (sink_seen g.K.Sink c.args.sink.now))

pub returns : goal.returns
returns g c =
    let seen = source_seen g.S.Source in
    let sink = sink_seen g.K.Sink in
    run_ends (seen c.args.source.now) (seen c.read_script.new.source) c.in_ok-script.script c.in_ok-script.ensures.script c.in_ok-script.ensures.faults
    (sink c.args.sink.now) (sink c.write_text.new.sink) c.in_ok-transcript.transcript c.write_text.result c.in_ok-transcript.ensures.replays c.write_text.ensures

use Rattle.std.proofs.Common.{List, subst}
use Rattle.std.proofs.lemmas.Result.{err_from_is_err_and}
use Rattle.byte_io.specs.Seen.{sink_seen}
use Rattle.folder_disk.specs.Seen.{folder_seen}
use Rattle.prefs_model.specs.declared.pref_pair.PrefPair.{PrefPair}
use Rattle.prefs_tool.specs.Outcome.{shown}
use Rattle.prefs_tool.specs.Writing.{WritesText}
use Rattle.prefs_tool.proofs.EndLemmas.{show_ends, show_stops}
use Rattle.prefs_tool.proofs.show.show.Goals as goal

pub returns-in_err-map : goal.returns-in_err-map
returns-in_err-map g c =
    let seen = folder_seen g.F.Folder in
    let p = err_from_is_err_and c.from_residual.result c.from_residual.ensures.1 in
    let why = c.in_err-map.ensures in
    rw (p.1, p.2) (show_stops (seen c.args.folder.now) (seen c.read_map.new.folder) (sink_seen g.K.Sink c.args.sink.now) (Unit {0}) c.in_err-map.field-0.0 why.read why.only why.faults)

pub returns : goal.returns
returns g c =
    let seen = folder_seen g.F.Folder in
    let sink = sink_seen g.K.Sink in
    let read = c.in_ok-map.ensures in
    let writes = subst (λ (p : List PrefPair). WritesText (shown p) (sink c.args.sink.now) c.write_pairs.result (sink c.write_pairs.new.sink)) c.pairs.ensures.pairs c.write_pairs.ensures in
    show_ends (seen c.args.folder.now) (seen c.read_map.new.folder) (sink c.args.sink.now) (sink c.write_pairs.new.sink) read.only read.faults
    c.in_ok-map.map c.write_pairs.result read.read writes

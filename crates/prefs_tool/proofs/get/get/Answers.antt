use Rattle.std.proofs.Common.{◌∙◌, List, ℕ, string_bytes, subst}
use Rattle.std.proofs.lemmas.Result.{err_from_is_err_and}
use Rattle.byte_io.specs.Seen.{sink_seen}
use Rattle.folder_disk.specs.Seen.{folder_seen}
use Rattle.prefs_tool.specs.Writing.{WritesPiece}
use Rattle.prefs_tool.proofs.EndLemmas.{get_ends, line_stops}
use Rattle.prefs_tool.proofs.WriteLemmas.{as_text}
use Rattle.prefs_tool.proofs.get.get.Goals as goal

pub returns-in_err-line : goal.returns-in_err-line
returns-in_err-line g c =
    let seen = folder_seen g.F.Folder in
    let p = err_from_is_err_and c.from_residual.result c.from_residual.ensures.1 in
    let why = c.in_err-line.ensures in
    rw (p.1, p.2) (line_stops (seen c.args.folder.now) (seen c.line_at.new.folder) (sink_seen g.K.Sink c.args.sink.now) (Unit {0}) c.args.key.now c.in_err-line.field-0.0 why.found why.only why.faults)

pub returns : goal.returns
returns g c =
    let seen = folder_seen g.F.Folder in
    let sink = sink_seen g.K.Sink in
    let found = c.in_ok-line.ensures in
    let line = string_bytes c.in_ok-line.line in
    let writes = subst (λ (p : List ℕ). WritesPiece p (sink c.args.sink.now) c.write.result (sink c.write.new.sink)) (c.as_bytes.ensures.value ∙ c.as_str.ensures.value) c.write.ensures in
    get_ends (seen c.args.folder.now) (seen c.line_at.new.folder) (sink c.args.sink.now) (sink c.write.new.sink) found.only found.faults
    c.args.key.now line c.write.result found.found (as_text line (sink c.args.sink.now) (sink c.write.new.sink) c.write.result writes)

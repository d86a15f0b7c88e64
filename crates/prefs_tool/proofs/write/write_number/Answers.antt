-- The front, then the number, then the end.
use Rattle.std.proofs.Common.{◌≡◌, ◌∙◌, ◌++◌, List, ℕ, Err, decimal, subst}
use Rattle.std.proofs.lemmas.Result.{err_from_is_err_and}
use Rattle.byte_io.specs.Seen.{sink_seen}
use Rattle.prefs_tool.specs.Writing.{Gains, WritesPiece}
use Rattle.prefs_tool.proofs.WriteLemmas.{gains_both, piece_behind, piece_stops}
use Rattle.prefs_tool.proofs.write.write_number.Goals as goal

pub returns-in_err-write : goal.returns-in_err-write
returns-in_err-write g c =
    let front = c.args.front.now in
    let digits = decimal c.args.number in
    let sink = c.args.sink.now in
    let second = c.write.new.sink in
    let error = c.in_err-write.field-0.0 in
    let both = piece_stops g.K.Sink (Unit {0}) front digits sink second error c.in_err-write.ensures in
    let p = err_from_is_err_and c.from_residual.result c.from_residual.ensures.1 in
    rw (p.1, p.2) (piece_stops g.K.Sink (Unit {0}) (front ++ digits) c.args.end.now sink second error both)

pub returns-in_err-write-2 : goal.returns-in_err-write-2
returns-in_err-write-2 g c =
    let front = c.args.front.now in
    let end = c.args.end.now in
    let digits = decimal c.args.number in
    let seen = sink_seen g.K.Sink in
    let sink = c.args.sink.now in
    let second = c.write.new.sink in
    let third = c.write-2.new.sink in
    let error = c.in_err-write-2.field-0.0 in
    let printed : c.as_bytes.result.now ≡ digits = c.as_bytes.ensures.value ∙ c.format.ensures.text in
    let stops = subst (λ (p : List ℕ). WritesPiece {T = Unit {0}} p (seen second) (Err error) (seen third)) printed c.in_err-write-2.ensures in
    let both = piece_behind g.K.Sink {T = Unit {0}} front digits sink second third (Err error) c.in_ok-write.ensures stops in
    let p = err_from_is_err_and c.from_residual-in_err-write-2.result c.from_residual-in_err-write-2.ensures.1 in
    rw (p.1, p.2) (piece_stops g.K.Sink (Unit {0}) (front ++ digits) end sink third error both)

pub returns : goal.returns
returns g c =
    let front = c.args.front.now in
    let digits = decimal c.args.number in
    let seen = sink_seen g.K.Sink in
    let sink = c.args.sink.now in
    let second = c.write.new.sink in
    let third = c.write-2.new.sink in
    let printed : c.as_bytes.result.now ≡ digits = c.as_bytes.ensures.value ∙ c.format.ensures.text in
    let number = subst (λ (p : List ℕ). Gains p (seen second) (seen third)) printed c.in_ok-write-2.ensures in
    piece_behind g.K.Sink (front ++ digits) c.args.end.now sink third c.write-3.new.sink c.write-3.result
    (gains_both g.K.Sink front digits sink second third c.in_ok-write.ensures number) c.write-3.ensures

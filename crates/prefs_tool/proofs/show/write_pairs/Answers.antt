-- Each line is gathered behind those before it, and a piece that is written is a prefix of all lines.
use Rattle.std.proofs.Common.{◌≡◌, ◌∙◌, ◌++◌, ◌+◌, IsTrue, List, ℕ, Err, take, string_bytes, ap, subst, arith}
use Rattle.std.proofs.lemmas.Result.{err_from_is_err_and}
use Rattle.std.proofs.lemmas.List.{take_all}
use Rattle.byte_io.specs.Seen.{sink_seen}
use Rattle.prefs_model.specs.declared.pref_pair.PrefPair.{PrefPair}
use Rattle.prefs_tool.specs.Outcome.{shown}
use Rattle.prefs_tool.specs.Writing.{WritesPiece}
use Rattle.prefs_tool.proofs.ShowLemmas.{AreWritten, line_gathered, piece_written, prefix_so_far, prefix_of_all, last_piece, stopped_inside}
use Rattle.prefs_tool.proofs.show.write_pairs.Goals as goal
use Rattle.prefs_tool.proofs.show.write_pairs.Goals.{then-len-ge-PIECE_LEN+in_ok-write, else-len-ge-PIECE_LEN}

pub returns-in_err-push_line : goal.returns-in_err-push_line
returns-in_err-push_line g c =
    let so_far = c.loop-pair.invariant in
    let p = err_from_is_err_and c.from_residual.result c.from_residual.ensures.1 in
    rw (p.1, p.2)
    (record { sound = so_far.sound; gained = λ told. prefix_of_all c.args.pairs.now c.loop-pair.pair-index _ _ (prefix_so_far _ _ _ _ (so_far.written told)) })

pub returns-in_err-write : goal.returns-in_err-write
returns-in_err-write g c =
    let so_far = c.loop-pair.invariant in
    let pairs = c.args.pairs.now in
    let i = c.loop-pair.pair-index in
    let seen = sink_seen g.K.Sink in
    let held = g.K.Sink.held in
    let first = c.args.sink.now in
    let error = c.in_err-write.field-0.0 in
    let gathered : IsTrue g.K.Sink.told → AreWritten (shown (take (i + 1) pairs)) (string_bytes c.push_line.new.piece) (held first) (held c.loop-pair.sink) =
    λ told. line_gathered pairs i c.pair-item.result (string_bytes c.loop-pair.piece) _ _ _ c.pair-item.is (omega arith) c.in_ok-push_line.ensures (so_far.written told) in
    let stops = subst (λ (p : List ℕ). WritesPiece {T = Unit {0}} p (seen c.loop-pair.sink) (Err error) (seen c.write.new.sink)) (c.as_bytes.ensures.value ∙ c.as_str.ensures.value) c.in_err-write.ensures in
    let p = err_from_is_err_and c.from_residual-in_err-write.result c.from_residual-in_err-write.ensures.1 in
    rw (p.1, p.2) (stopped_inside g.K.Sink (Unit {0}) pairs (i + 1) first c.write.new.sink error
    (last_piece g.K.Sink {T = Unit {0}} (shown (take (i + 1) pairs)) (string_bytes c.push_line.new.piece) first c.loop-pair.sink c.write.new.sink (Err error) so_far.sound gathered stops))

pub loop-pair-preserved : goal.loop-pair-preserved
loop-pair-preserved g c =
    let so_far = c.loop-pair.invariant in
    let pairs = c.args.pairs.now in
    let i = c.loop-pair.pair-index in
    let held = g.K.Sink.held in
    let first = c.args.sink.now in
    let gathered : IsTrue g.K.Sink.told → AreWritten (shown (take (i + 1) pairs)) (string_bytes c.push_line.new.piece) (held first) (held c.loop-pair.sink) =
    λ told. line_gathered pairs i c.pair-item.result (string_bytes c.loop-pair.piece) _ _ _ c.pair-item.is (omega arith) c.in_ok-push_line.ensures (so_far.written told) in
    elim c.if-len-ge-PIECE_LEN.branch [
      | then-len-ge-PIECE_LEN+in_ok-write w ↦ rw (w.sink-is, w.piece-is) (record {
        sound = w.in_ok-write.ensures.sound ∙ so_far.sound;
        written = λ told. piece_written _ (string_bytes c.push_line.new.piece) _ (held first) (held c.loop-pair.sink) (held w.write.new.sink) w.clear.ensures.bytes
            (w.in_ok-write.ensures.gained told ∙ ap (λ (p : List ℕ). held c.loop-pair.sink ++ p) (w.as_bytes.ensures.value ∙ w.as_str.ensures.value)) (gathered told);
      })
      | else-len-ge-PIECE_LEN w ↦ rw (w.sink-is, w.piece-is) (record { sound = so_far.sound; written = gathered })
    ]

pub returns : goal.returns
returns g c =
    let so_far = c.loop-pair.invariant in
    let pairs = c.args.pairs.now in
    let seen = sink_seen g.K.Sink in
    let held = g.K.Sink.held in
    let first = c.args.sink.now in
    let sink = c.loop-pair.sink in
    let last = c.write-2.new.sink in
    let all : take c.loop-pair.pair-index pairs ≡ pairs = take_all c.loop-pair.pair-index pairs (omega arith) in
    let piece = string_bytes c.loop-pair.piece in
    let writes = subst (λ (p : List ℕ). WritesPiece p (seen sink) c.write-2.result (seen last)) (c.as_bytes-2.ensures.value ∙ c.as_str-2.ensures.value) c.write-2.ensures in
    last_piece g.K.Sink (shown pairs) piece first sink last c.write-2.result so_far.sound
    (λ told. subst (λ (l : List PrefPair). AreWritten (shown l) piece (held first) (held sink)) all (so_far.written told)) writes

-- One piece more is written, and nothing else has changed.
use Rattle.std.proofs.Common.{◌∙◌, ◌≡◌, ◌<◌, length, arith}
use Rattle.std.proofs.lemmas.Result.{err_from_is_err_and}
use Rattle.prefs_tool.proofs.AppendLemmas.{same_bytes, piece_le_rest, less_rest, room_less, appended, all_appended, append_failed, one_appended}
use Rattle.prefs_tool.proofs.FolderLemmas.{spares_both, spares_loosened}
use Rattle.prefs_tool.proofs.append.append_rest.Goals as goal

pub append-requires-clause-room : goal.append-requires-clause-room
append-requires-clause-room g c = omega (arith, piece_le_rest c.loop-filled.filled, c.loop-filled.invariant.room.bytes)

pub loop-filled-smaller : goal.loop-filled-smaller
loop-filled-smaller g c = less_rest c.loop-filled.filled c.in_ok-filled.filled c.in_ok-filled.ensures.plan (omega arith)

pub loop-filled-preserved : goal.loop-filled-preserved
loop-filled-preserved g c =
    let plan = c.loop-filled.filled in
    let next = c.in_ok-filled.filled in
    let more = c.in_ok-filled.ensures.plan in
    let so_far = c.loop-filled.invariant in
    let left : 0 < length plan.rest = omega arith in
    record {
      bytes = same_bytes plan next more ∙ so_far.bytes;
      contents = λ told. appended plan next _ _ _ more (so_far.contents told) (c.in_ok-filled.ensures.ok told);
      calls = λ told. one_appended (length c.args.plan.rest) plan next _ _ _ more left (so_far.calls told) (c.in_ok-filled.ensures.tally.due told);
      room = room_less plan next _ _ _ more so_far.room c.append.ensures.room;
      sound = c.in_ok-filled.ensures.tally.counts.kept ∙ so_far.sound;
    }

pub returns-in_err-filled-clause-spared : goal.returns-in_err-filled-clause-spared
returns-in_err-filled-clause-spared g c told =
    spares_both _ _ _ (c.loop-filled.invariant.contents told).spared (spares_loosened _ _ (c.in_err-filled.ensures.err told))

pub returns-in_err-filled-clause-calls : goal.returns-in_err-filled-clause-calls
returns-in_err-filled-clause-calls g c told =
    let plan = c.loop-filled.filled in
    let left : 0 < length plan.rest = omega arith in
    let p = err_from_is_err_and c.from_residual.result c.from_residual.ensures.1 in
    rw p.1 (append_failed (length c.args.plan.rest) plan _ _ _ left (c.loop-filled.invariant.calls told) (c.in_err-filled.ensures.tally.due told))

pub returns-clause-calls : goal.returns-clause-calls
returns-clause-calls g c told =
    let plan = c.loop-filled.filled in
    let none : length plan.rest ≡ 0 = omega arith in
    all_appended (length c.args.plan.rest) (length plan.rest) _ _ none (c.loop-filled.invariant.calls told)

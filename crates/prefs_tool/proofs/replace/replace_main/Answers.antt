-- Memory is taken, the scratch file is filled and moved over main, and the folder is synced.
use Rattle.std.proofs.lemmas.Result.{err_from_is_err_and}
use Rattle.folder_disk.specs.Seen.{folder_seen}
use Rattle.prefs_tool.proofs.FolderLemmas.{spares_both, spares_same, untouched_by}
use Rattle.prefs_tool.proofs.ReplaceLemmas.{filling_failed, is_written, keeping_failed, rename_failed, stops_since, written_since}
use Rattle.prefs_tool.proofs.replace.replace_main.Goals as goal

pub returns-in_err-make_room-clause-outcome : goal.returns-in_err-make_room-clause-outcome
returns-in_err-make_room-clause-outcome g c =
    let seen = folder_seen g.F.Folder in
    let p = err_from_is_err_and c.from_residual.result c.from_residual.ensures.1 in
    rw (p.1, p.2) (λ told. untouched_by (seen c.args.folder.now) (seen c.make_room.new.self) (c.in_err-make_room.ensures.contents told) c.in_err-make_room.ensures.tally)

pub returns-in_err-synced-clause-outcome : goal.returns-in_err-synced-clause-outcome
returns-in_err-synced-clause-outcome g c =
    let seen = folder_seen g.F.Folder in
    let p = err_from_is_err_and c.from_residual-in_err-synced.result c.from_residual-in_err-synced.ensures.1 in
    let roomy = seen c.make_room.new.self in
    let filled = seen c.fill_scratch.new.folder in
    rw (p.1, p.2, c.in_err-synced.ensures.err) (λ told. stops_since c.args.text (seen c.args.folder.now) roomy filled
    (untouched_by (seen c.args.folder.now) roomy (c.in_ok-make_room.ensures.contents told) c.in_ok-make_room.ensures.tally)
    (filling_failed c.args.text roomy filled (c.in_err-synced.ensures.spared told) (c.in_err-synced.ensures.calls told)))

pub returns-in_err-renamed-clause-outcome : goal.returns-in_err-renamed-clause-outcome
returns-in_err-renamed-clause-outcome g c =
    let seen = folder_seen g.F.Folder in
    let contents = g.F.Folder.contents in
    let p = err_from_is_err_and c.from_residual-in_err-renamed.result c.from_residual-in_err-renamed.ensures.1 in
    let roomy = seen c.make_room.new.self in
    let filled = seen c.fill_scratch.new.folder in
    let last = seen c.rename.new.folder in
    let fill = c.in_ok-synced.ensures in
    rw (p.1, p.2) (λ told. stops_since c.args.text (seen c.args.folder.now) roomy last
    (untouched_by (seen c.args.folder.now) roomy (c.in_ok-make_room.ensures.contents told) c.in_ok-make_room.ensures.tally)
    (rename_failed c.args.text roomy filled (record { spared = fill.spared told; scratch = fill.scratch told }) (fill.calls told) last
    (spares_both roomy.contents filled.contents last.contents (fill.spared told) (spares_same filled.contents last.contents (c.in_err-renamed.ensures.err told)))
    (c.in_err-renamed.ensures.tally.due told)))

pub returns-in_err-_kept-clause-outcome : goal.returns-in_err-_kept-clause-outcome
returns-in_err-_kept-clause-outcome g c =
    let seen = folder_seen g.F.Folder in
    let p = err_from_is_err_and c.from_residual-in_err-_kept.result c.from_residual-in_err-_kept.ensures.1 in
    let roomy = seen c.make_room.new.self in
    let filled = seen c.fill_scratch.new.folder in
    let moved = seen c.rename.new.folder in
    let last = seen c.keep.new.folder in
    let fill = c.in_ok-synced.ensures in
    rw (p.1, p.2) (λ told. stops_since c.args.text (seen c.args.folder.now) roomy last
    (untouched_by (seen c.args.folder.now) roomy (c.in_ok-make_room.ensures.contents told) c.in_ok-make_room.ensures.tally)
    (keeping_failed c.args.text roomy filled (record { spared = fill.spared told; scratch = fill.scratch told }) (fill.calls told) moved last
    (c.in_ok-renamed.ensures.ok told) (c.in_err-_kept.ensures.err told) (c.in_ok-renamed.ensures.tally.due told) (c.in_err-_kept.ensures.tally.due told)))

pub returns-clause-outcome : goal.returns-clause-outcome
returns-clause-outcome g c told =
    let seen = folder_seen g.F.Folder in
    let roomy = seen c.make_room.new.self in
    let filled = seen c.fill_scratch.new.folder in
    let moved = seen c.rename.new.folder in
    let last = seen c.keep.new.folder in
    let fill = c.in_ok-synced.ensures in
    written_since c.args.text (seen c.args.folder.now) roomy last
    (untouched_by (seen c.args.folder.now) roomy (c.in_ok-make_room.ensures.contents told) c.in_ok-make_room.ensures.tally)
    (is_written c.args.text roomy filled (record { spared = fill.spared told; scratch = fill.scratch told }) (fill.calls told) moved last
    (c.in_ok-renamed.ensures.ok told) (c.in_ok-_kept.ensures.ok told) (c.in_ok-renamed.ensures.tally.due told) (c.in_ok-_kept.ensures.tally.due told))

use Rattle.std.proofs.Common.{◌≡◌, false, true, ap}
use Rattle.shelf.specs.ShelfSeen.{ShelfSeen, shelf_seen}
use Rattle.node_core.proofs.LockLemmas.{blocks, has_no_memory, is_full, is_read, stays, takes_lock, unlocked}
use Rattle.node_core.proofs.RoomLemmas.{frees_spares, same_spares, then_spares}
use Rattle.node_core.proofs.locking.lock.Goals as goal
use Rattle.node_core.proofs.locking.lock.Goals.{in-HistoryFull, in-NoMemory}

pub returns-in-Init-clause-ok : goal.returns-in-Init-clause-ok
returns-in-Init-clause-ok g c =
    λ ask is. let e = c.in-Init.ensures in takes_lock c.args.origin ask c.args.shelf.now c.take.new.self e.deaths e.codec e.folder e.store false (rw (← is) at e.row)

pub returns-in-Held-clause-ok : goal.returns-in-Held-clause-ok
returns-in-Held-clause-ok g c =
    λ ask is. let e = c.in-Held.ensures in takes_lock c.args.origin ask c.args.shelf.now c.take.new.self e.deaths e.codec e.folder e.store true (rw (← is) at e.row)

pub returns-in-Unlocked-clause-ok : goal.returns-in-Unlocked-clause-ok
returns-in-Unlocked-clause-ok g c =
    λ ask is.
    let e = c.in-Unlocked.ensures in
    unlocked g.P.C.Codec g.P.T.Transform g.P.F.Folder c.args.origin ask _ _ e.row.0 (stays c.args.shelf.now c.take.new.self e.deaths e.codec e.folder e.store e.row.2) (rw is e.row.1)

pub returns-in-Unlocked-clause-unlocked : goal.returns-in-Unlocked-clause-unlocked
returns-in-Unlocked-clause-unlocked g c = λ same. is_read _ _ c.in-Unlocked.ensures.row.1

pub returns-in-Blocked-clause-ok : goal.returns-in-Blocked-clause-ok
returns-in-Blocked-clause-ok g c =
    λ ask is.
    let e = c.in-Blocked.ensures in
    blocks g.P.C.Codec g.P.T.Transform g.P.F.Folder c.args.origin ask _ _ e.row.0 (stays c.args.shelf.now c.take.new.self e.deaths e.codec e.folder e.store e.row.2) (rw is e.row.1)

pub returns-clause-err : goal.returns-clause-err
returns-clause-err g c =
    λ ask is.
    let stayed = stays c.args.shelf.now c.take.new.self c.take.ensures.deaths c.take.ensures.codec c.take.ensures.folder c.take.ensures.store in
    elim c.match-take.branch [
      | in-HistoryFull w ↦
          let row = rw (← is) at w.in-HistoryFull.ensures.row in
          rw w.error-is (is_full c.args.origin ask c.args.shelf.now _ _ (stayed row.3) c.free.ensures.turn c.free.ensures.folder _ _ row.0 row.1 row.2)
      | in-NoMemory w ↦
          let row = rw (← is) at w.in-NoMemory.ensures.row in
          rw w.error-is (has_no_memory c.args.origin ask c.args.shelf.now _ _ (stayed row.1) c.free.ensures.turn c.free.ensures.folder row.0)
    ]

pub returns-in-Init-clause-spares : goal.returns-in-Init-clause-spares
returns-in-Init-clause-spares g c = λ other owned unlike. absurd (c.in-Init.ensures.row.free (rw owned unlike))

pub returns-in-Held-clause-spares : goal.returns-in-Held-clause-spares
returns-in-Held-clause-spares g c = λ other owned unlike. absurd (c.in-Held.ensures.row.free (rw owned unlike))

pub returns-in-Unlocked-clause-spares : goal.returns-in-Unlocked-clause-spares
returns-in-Unlocked-clause-spares g c =
    let e = c.in-Unlocked.ensures in same_spares g.P.C.Codec g.P.T.Transform g.P.F.Folder c.args.origin (stays c.args.shelf.now c.take.new.self e.deaths e.codec e.folder e.store e.row.2)

pub returns-in-Blocked-clause-spares : goal.returns-in-Blocked-clause-spares
returns-in-Blocked-clause-spares g c =
    let e = c.in-Blocked.ensures in same_spares g.P.C.Codec g.P.T.Transform g.P.F.Folder c.args.origin (stays c.args.shelf.now c.take.new.self e.deaths e.codec e.folder e.store e.row.2)

pub returns-clause-spares : goal.returns-clause-spares
returns-clause-spares g c =
    let stayed = stays c.args.shelf.now c.take.new.self c.take.ensures.deaths c.take.ensures.codec c.take.ensures.folder c.take.ensures.store in
    let same : shelf_seen c.take.new.self ≡ shelf_seen c.args.shelf.now = elim c.match-take.branch [ in-HistoryFull w ↦ stayed w.in-HistoryFull.ensures.row.3 | in-NoMemory w ↦ stayed w.in-NoMemory.ensures.row.1 ] in
    then_spares g.P.C.Codec g.P.T.Transform g.P.F.Folder c.args.origin (ap (λ (s : ShelfSeen _ _ _ _). s.owner) same)
    (same_spares g.P.C.Codec g.P.T.Transform g.P.F.Folder c.args.origin same)
    (frees_spares g.P.C.Codec g.P.T.Transform g.P.F.Folder c.args.origin c.free.ensures.turn (ap g.P.F.Folder.room c.free.ensures.folder))

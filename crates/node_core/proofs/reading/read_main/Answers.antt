use Rattle.std.proofs.Common.{[], refl, ap}
use Rattle.shelf.specs.ShelfTurns.{Adds}
use Rattle.shelf.specs.ShelfSeen.{shelf_seen}
use Rattle.store_traits.specs.declared.update_error.UpdateError.TheVariants.{StorageFault}
use Rattle.step_table.specs.Calls.{Reading}
use Rattle.step_table.specs.Requests.{ReadMain}
use Rattle.step_table.specs.Rows.{read_fails}
use Rattle.node_core.proofs.ReadLemmas.{Stops, read_stops}
use Rattle.node_core.proofs.RoomLemmas.{adds_spares, frees_spares, then_spares}
use Rattle.node_core.proofs.RowLemmas.{faults, version_left}
use Rattle.node_core.proofs.reading.read_main.Goals as goal
use Rattle.node_core.proofs.reading.read_main.Goals.{in-Corrupt, in-TooLong, in-NoMemory}

pub returns-in-Faulted-clause-err : goal.returns-in-Faulted-clause-err
returns-in-Faulted-clause-err g c =
    λ purpose ask.
    let e = c.in-Faulted.ensures in
    faults g.P.C.Codec g.P.T.Transform g.P.F.Folder c.args.origin (Reading purpose ask) _ _ ReadMain StorageFault _ read_fails e.turn (record { folder = e.contents; spared = λ told spares. e.contents told; tally = e.tally })

pub returns-in-Faulted-clause-raises : goal.returns-in-Faulted-clause-raises
returns-in-Faulted-clause-raises g c = version_left c.in-Faulted.ensures.turn.leaves

pub returns-clause-err : goal.returns-clause-err
returns-clause-err g c =
    let read = c.read_main.ensures in
    let stops : Stops c.read_main.result c.match-read_main.error =
    elim c.match-read_main.branch [ in-Corrupt w ↦ rw w.in-Corrupt.is w.error-is | in-TooLong w ↦ rw w.in-TooLong.is w.error-is | in-NoMemory w ↦ rw w.in-NoMemory.is w.error-is ] in
    read_stops g.P.C.Codec g.P.T.Transform g.P.F.Folder c.args.origin (shelf_seen c.args.shelf.now) (shelf_seen c.read_main.new.self) (shelf_seen c.free.new.self)
    c.free.ensures.turn
    c.free.ensures.folder
    read.contents
    refl
    _ c.read_main.result c.match-read_main.error stops read.turn read.reads read.tally

pub returns-in-Value-clause-spares : goal.returns-in-Value-clause-spares
returns-in-Value-clause-spares g c = let e = c.in-Value.ensures in adds_spares g.P.C.Codec g.P.T.Transform g.P.F.Folder c.args.origin e.turn e.room_kept

pub returns-in-Faulted-clause-spares : goal.returns-in-Faulted-clause-spares
returns-in-Faulted-clause-spares g c = let e = c.in-Faulted.ensures in frees_spares g.P.C.Codec g.P.T.Transform g.P.F.Folder c.args.origin e.turn.leaves e.room_kept

pub returns-clause-spares : goal.returns-clause-spares
returns-clause-spares g c =
    let read = c.read_main.ensures in
    let turn : Adds c.args.origin.call [] (shelf_seen c.args.shelf.now) (shelf_seen c.read_main.new.self) =
    elim c.match-read_main.branch [ in-Corrupt w ↦ w.in-Corrupt.ensures.turn | in-TooLong w ↦ w.in-TooLong.ensures.turn | in-NoMemory w ↦ w.in-NoMemory.ensures.turn ] in
    then_spares g.P.C.Codec g.P.T.Transform g.P.F.Folder c.args.origin turn.owner
    (adds_spares g.P.C.Codec g.P.T.Transform g.P.F.Folder c.args.origin turn read.room_kept)
    (frees_spares g.P.C.Codec g.P.T.Transform g.P.F.Folder c.args.origin c.free.ensures.turn (ap g.P.F.Folder.room c.free.ensures.folder))

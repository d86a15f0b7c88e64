use Rattle.std.proofs.Common.{◌≡◌}
use Rattle.hist_journal.specs.Folds.{raises_of}
use Rattle.shelf.specs.ShelfSeen.{shelf_seen}
use Rattle.node_core.specs.Views.{read_seen}
use Rattle.store_tests.specs.Alone.{GoesOn, TellsOf}
use Rattle.store_tests.proofs.reads.go_through.Given as goal

abbrev pub invariant-loop-place : goal.invariant-loop-place
invariant-loop-place g l = record {
  goes : GoesOn g.P.C.Codec g.P.T.Transform g.P.F.Folder l.read.origin (read_seen l.read.state) (shelf_seen l.shelf);
  call : l.read.origin.call ≡ l.fn.read.origin.call;
  adds : TellsOf l.fn.read.origin.call (shelf_seen l.initial.shelf).list (shelf_seen l.shelf).list;
  store : (shelf_seen l.shelf).store ≡ (shelf_seen l.initial.shelf).store;
  number : g.W.Word.number l.word ≡ raises_of (shelf_seen l.shelf).list;
  made : g.W.Word.made l.word ≡ g.W.Word.made l.initial.word;
}

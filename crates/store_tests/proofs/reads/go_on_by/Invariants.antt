use Rattle.std.proofs.Common.{◌≡◌}
use Rattle.hist_journal.specs.Folds.{raises_of}
use Rattle.shelf.specs.ShelfSeen.{shelf_seen}
use Rattle.node_core.specs.Views.{state_seen}
use Rattle.store_tests.specs.Alone.{GoesOn, TellsOf}
use Rattle.store_tests.proofs.reads.go_on_by.Given as goal

abbrev pub invariant-loop-step : goal.invariant-loop-step
invariant-loop-step g l = record {
  goes : GoesOn g.P.C.Codec g.P.T.Transform g.P.F.Folder l.update.origin (state_seen l.update.state) (shelf_seen l.shelf);
  call : l.update.origin.call ≡ l.fn.update.origin.call;
  adds : TellsOf l.fn.update.origin.call (shelf_seen l.initial.shelf).list (shelf_seen l.shelf).list;
  store : (shelf_seen l.shelf).store ≡ (shelf_seen l.initial.shelf).store;
  number : g.W.Word.number l.word ≡ raises_of (shelf_seen l.shelf).list;
  made : g.W.Word.made l.word ≡ g.W.Word.made l.initial.word;
}

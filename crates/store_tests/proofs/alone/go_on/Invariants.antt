use Rattle.std.proofs.Common.{◌≡◌}
use Rattle.hist_journal.specs.Folds.{raises_of}
use Rattle.shelf.specs.ShelfSeen.{shelf_seen}
use Rattle.node_core.specs.StepsLeft.{steps_left}
use Rattle.node_core.specs.Views.{state_seen}
use Rattle.store_tests.specs.Alone.{IsAlone, TellsOf}
use Rattle.store_tests.proofs.alone.go_on.Given as goal

abbrev pub invariant-loop-answer : goal.invariant-loop-answer
invariant-loop-answer g l = record {
  alone : IsAlone g.P.C.Codec g.P.T.Transform g.P.F.Folder l.update.origin l.update.initialised (state_seen l.update.state) (shelf_seen l.shelf);
  call : l.update.origin.call ≡ l.fn.update.origin.call;
  adds : TellsOf l.fn.update.origin.call (shelf_seen l.initial.shelf).list (shelf_seen l.shelf).list;
  store : (shelf_seen l.shelf).store ≡ (shelf_seen l.initial.shelf).store;
  number : g.W.Word.number l.word ≡ raises_of (shelf_seen l.shelf).list;
  made : g.W.Word.made l.word ≡ g.W.Word.made l.initial.word;
}

abbrev pub decreases-loop-answer : goal.decreases-loop-answer
decreases-loop-answer g l = steps_left (shelf_seen l.shelf).store.limits.file l.update.initialised (state_seen l.update.state)

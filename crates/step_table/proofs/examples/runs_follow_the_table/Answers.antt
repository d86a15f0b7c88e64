use Rattle.std.proofs.Common.{refl}
use Rattle.hist_journal.specs.Folds.{edition_of, weight_of, kind_weight}
use Rattle.hist_journal.specs.Nodes.{is_dead, is_ready, last_mark}
use Rattle.shelf.specs.Deaths.{last_death}
use Rattle.shelf.specs.ExampleStore as example
use Rattle.step_table.specs.ExampleTurns as turns
use Rattle.step_table.proofs.Played.{Run-computed}
use Rattle.step_table.proofs.examples.runs_follow_the_table.Goals as goal

pub returns : goal.returns
unfolding is_dead is_ready last_mark edition_of weight_of kind_weight last_death
returns c =
    record {
      two_nodes = Run-computed example.empty refl turns.two_nodes turns.two_nodes_start refl;
      equal_value = Run-computed example.holds_one refl turns.equal_value turns.equal_value_start refl;
      reads_past = Run-computed example.empty refl turns.reads_past turns.reads_past_start refl;
      full_history = Run-computed turns.narrow refl turns.full_history turns.full_history_start refl;
      death_after_raise = Run-computed turns.deadly refl turns.death_after_raise turns.death_start refl;
      restart = Run-computed turns.short_lived refl turns.restart turns.restart_start refl;
      rename_fails = Run-computed example.empty refl turns.rename_fails turns.rename_fails_start refl;
      sync_fails = Run-computed example.empty refl turns.sync_fails turns.sync_fails_start refl;
    }

use Rattle.std.proofs.Common.{refl}
use Rattle.hist_journal.specs.Folds.{value_of, value_after, edited, applied_or}
use Rattle.hist_journal.specs.Nodes.{is_dead, is_ready, last_mark}
use Rattle.shelf.specs.ExampleStore as example
use Rattle.shelf.specs.UnlawfulExamples as unlawful
use Rattle.shelf.specs.OpenRaise.{has_open_raise}
use Rattle.shelf.proofs.ExampleTests.{refused}
use Rattle.shelf.proofs.examples.histories_are_unlawful.Goals as goal

pub returns : goal.returns
unfolding is_dead is_ready last_mark has_open_raise value_of value_after edited applied_or
returns c =
    record {
      former_life = refused example.empty unlawful.former_life refl;
      another_raise = refused example.empty unlawful.another_raise refl;
      no_raise = refused example.empty unlawful.no_raise refl;
      two_edits = refused example.empty unlawful.two_edits refl;
      two_ends = refused example.empty unlawful.two_ends refl;
      dead_node = refused example.empty unlawful.dead_node refl;
      after_fault = refused example.empty unlawful.after_fault refl;
      same_changes = refused example.empty unlawful.same_changes refl;
      edit_keeps = refused example.holds_one unlawful.edit_keeps refl;
      refused_edit = refused example.empty unlawful.refused_edit refl;
      readable_replaced = refused example.empty unlawful.readable_replaced refl;
      ready_inited = refused example.empty unlawful.ready_inited refl;
      unready_edit = refused example.empty unlawful.unready_edit refl;
      unready_restart = refused example.empty unlawful.unready_restart refl;
      alive_restart = refused example.empty unlawful.alive_restart refl;
      another_dies = refused example.empty unlawful.another_dies refl;
      numbers_fall = refused example.empty unlawful.numbers_fall refl;
      count_stays = refused example.empty unlawful.count_stays refl;
      settings_taken = refused example.empty unlawful.settings_taken refl;
      another_replaced = refused example.unreadable unlawful.another_replaced refl;
      settings_fault = refused example.empty unlawful.settings_fault refl;
      another_inited = refused example.empty unlawful.another_inited refl;
      inited_unreadable = refused example.unreadable unlawful.inited_unreadable refl;
      count_of_start = refused example.failed_once unlawful.count_of_start refl;
      settings_cleared = refused example.empty unlawful.settings_cleared refl;
    }

use Rattle.std.proofs.Common.{refl}
use Rattle.hist_journal.specs.Folds.{applied_or, edited, edition_of, main_of, text_or, value_after, value_of}
use Rattle.hist_journal.specs.Nodes.{is_dead, is_ready, last_mark}
use Rattle.prefs_edit.specs.After.{after_steps}
use Rattle.prefs_edit.specs.Step.{after_step}
use Rattle.shelf.specs.Images.{changed_mains, images, kept_front, unkept}
use Rattle.shelf.specs.OpenRaise.{has_open_raise}
use Rattle.script_lang.specs.Asked.{asked_by}
use Rattle.shelf.specs.FaultCounts.{count_after}
use Rattle.script_lang.specs.Chronicle.{chronicle}
use Rattle.shelf.specs.LastRaise.{ends_in_raise}
use Rattle.script_lang.specs.GoodPosts.{count_from}
use Rattle.script_lang.specs.Shown.{last_flow, shown_to}
use Rattle.script_lang.specs.Rules.{G8}
use Rattle.script_lang.specs.TruthExamples as example
use Rattle.script_lang.specs.UntrueExamples as untrue
use Rattle.script_lang.proofs.ExampleTests.{broken}
use Rattle.script_lang.proofs.truth.untrue_examples.untrue_failures.Goals as goal

pub returns : goal.returns
unfolding chronicle asked_by shown_to last_flow ends_in_raise count_from count_after main_of text_or edition_of value_of value_after edited applied_or after_steps after_step images kept_front unkept changed_mains is_dead is_ready last_mark has_open_raise
returns c =
    record {
      death_unplanned = broken G8 example.two_nodes (example.told untrue.death_unplanned) refl;
      death_left_out = broken G8 untrue.death_left_out (example.told example.two_nodes_told) refl;
      first_death_left_out = broken G8 untrue.first_death_left_out (example.told example.two_nodes_told) refl;
      death_planned_writing = broken G8 untrue.death_planned_writing (example.told untrue.death_unplanned) refl;
      death_planned_raising = broken G8 untrue.death_planned_raising (example.told untrue.death_behind_raise) refl;
      fault_unplanned = broken G8 untrue.fault_unplanned (example.told example.sync_failed_told) refl;
    }

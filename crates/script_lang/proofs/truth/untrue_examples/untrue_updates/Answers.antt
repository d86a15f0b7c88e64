use Rattle.std.proofs.Common.{refl}
use Rattle.hist_journal.specs.Folds.{applied_or, edited, edition_of, main_of, text_or, value_after, value_of}
use Rattle.hist_journal.specs.Nodes.{is_dead, is_ready, last_mark}
use Rattle.prefs_edit.specs.After.{after_steps}
use Rattle.prefs_edit.specs.Step.{after_step}
use Rattle.shelf.specs.Images.{changed_mains, images, kept_front, unkept}
use Rattle.shelf.specs.OpenRaise.{has_open_raise}
use Rattle.script_lang.specs.Asked.{asked_by}
use Rattle.shelf.specs.FaultCounts.{count_after}
use Rattle.script_lang.specs.Chronicle.{chronicle}
use Rattle.shelf.specs.LastRaise.{ends_in_raise}
use Rattle.script_lang.specs.GoodPosts.{count_from}
use Rattle.script_lang.specs.Shown.{last_flow, shown_to}
use Rattle.script_lang.specs.Rules.{G3}
use Rattle.script_lang.specs.TruthExamples as example
use Rattle.script_lang.specs.UntrueExamples as untrue
use Rattle.script_lang.proofs.ExampleTests.{broken}
use Rattle.script_lang.proofs.truth.untrue_examples.untrue_updates.Goals as goal

pub returns : goal.returns
unfolding chronicle asked_by shown_to last_flow ends_in_raise count_from count_after main_of text_or edition_of value_of value_after edited applied_or after_steps after_step images kept_front unkept changed_mains is_dead is_ready last_mark has_open_raise
returns c =
    record {
      edition_too_high = broken G3 example.two_nodes (example.told untrue.edition_too_high) refl;
      synced_left_out = broken G3 example.two_nodes (example.told untrue.synced_left_out) refl;
      edits_exchanged = broken G3 example.two_sets (example.told untrue.edits_exchanged) refl;
      restart_denied = broken G3 example.restart (example.told untrue.restart_denied) refl;
      restarted_another = broken G3 untrue.restart_of_the_first (example.told untrue.restarted_another) refl;
      restarted_elsewhere = broken G3 example.restart (example.told untrue.restarted_elsewhere) refl;
    }

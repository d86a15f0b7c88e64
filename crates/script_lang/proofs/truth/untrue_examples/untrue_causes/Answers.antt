use Rattle.std.proofs.Common.{[], ◌∷◌, refl}
use Rattle.hist_journal.specs.Folds.{applied_or, edited, edition_of, kind_weight, main_of, text_or, value_after, value_of, weight_of}
use Rattle.hist_journal.specs.Nodes.{is_dead, is_ready, last_mark}
use Rattle.prefs_edit.specs.After.{after_steps}
use Rattle.prefs_edit.specs.Step.{after_step}
use Rattle.prefs_edit.specs.Weight.{step_weight}
use Rattle.shelf.specs.Images.{changed_mains, images, kept_front, unkept}
use Rattle.shelf.specs.OpenRaise.{has_open_raise}
use Rattle.script_lang.specs.Asked.{asked_by}
use Rattle.shelf.specs.FaultCounts.{count_after}
use Rattle.script_lang.specs.Chronicle.{chronicle}
use Rattle.shelf.specs.LastRaise.{ends_in_raise}
use Rattle.script_lang.specs.GoodPosts.{count_from}
use Rattle.script_lang.specs.Shown.{last_flow, shown_to}
use Rattle.script_lang.specs.Rules.{G6}
use Rattle.script_lang.specs.TruthExamples as example
use Rattle.script_lang.specs.UntrueCauses as uncaused
use Rattle.script_lang.proofs.ExampleTests.{broken}
use Rattle.script_lang.proofs.truth.untrue_examples.untrue_causes.Goals as goal

pub returns : goal.returns
unfolding chronicle asked_by shown_to last_flow ends_in_raise count_from count_after main_of text_or edition_of value_of value_after edited applied_or after_steps after_step images kept_front unkept changed_mains is_dead is_ready last_mark has_open_raise weight_of kind_weight step_weight
returns c =
    record {
      fault_without_entry = broken G6 example.two_nodes (example.told uncaused.fault_without_entry) refl;
      unrefused = broken G6 example.two_nodes (example.told uncaused.unrefused) refl;
      another_code = broken G6 example.greatest (example.told uncaused.another_code) refl;
      another_edition = broken G6 example.greatest (example.told uncaused.another_edition) refl;
      corrupt = broken G6 example.two_nodes (example.told uncaused.corrupt) refl;
      read_corrupt = broken G6 example.update_then_read (example.told uncaused.read_corrupt) refl;
      file_too_long = broken G6 example.two_nodes (example.told uncaused.file_too_long) refl;
      read_file_too_long = broken G6 example.update_then_read (example.told uncaused.read_file_too_long) refl;
      value_too_long = broken G6 example.two_nodes (example.told uncaused.value_too_long) refl;
      read_value_too_long = broken G6 example.update_then_read (example.told uncaused.read_value_too_long) refl;
      history_full = broken G6 example.two_nodes (example.told uncaused.history_full) refl;
      read_history_full = broken G6 example.update_then_read (example.told uncaused.read_history_full) refl;
      storage_fault = broken G6 example.two_nodes (example.told uncaused.storage_fault) refl;
      read_storage_fault = broken G6 example.update_then_read (example.told uncaused.read_storage_fault) refl;
      fault_behind_edit = broken G6 example.sync_failed (example.told uncaused.fault_behind_edit) refl;
      not_durable = broken G6 example.two_nodes (example.told uncaused.not_durable) refl;
      read_not_durable = broken G6 example.update_then_read (example.told uncaused.read_not_durable) refl;
      another_uncertain = broken G6 example.sync_failed (example.told uncaused.another_uncertain) refl;
      legacy_fault = broken G6 example.two_nodes (example.told uncaused.legacy_fault) refl;
      read_legacy_fault = broken G6 example.update_then_read (example.told uncaused.read_legacy_fault) refl;
      died = broken G6 example.two_nodes (example.told uncaused.died) refl;
      read_died = broken G6 example.update_then_read (example.told uncaused.read_died) refl;
      died_elsewhere = broken G6 example.restart (example.told uncaused.died_elsewhere) refl;
      former_life = broken G6 example.restart (example.told uncaused.former_life) refl;
      died_before_update = broken G6 uncaused.late_read (example.told uncaused.died_before_update) refl;
      full = broken G6 example.two_posts (example.told uncaused.full) refl;
      full_at_first = broken G6 example.two_posts (example.told uncaused.full_at_first) refl;
      not_dead = broken G6 uncaused.late_restart (example.told uncaused.not_dead) refl;
      not_dead_read = broken G6 uncaused.late_restart_read (example.told uncaused.not_dead_read) refl;
      restarter_died = broken G6 uncaused.late_restart (example.told uncaused.restarter_died) refl;
      edit_of_another = broken G6 example.death_and_stop (record example.death_and_stop_told { sessions = uncaused.edit_of_another ∷ example.read_told ∷ [] }) refl;
      edit_of_a_read = broken G6 example.update_then_read (example.told uncaused.edit_of_a_read) refl;
    }

use Rattle.std.proofs.Common.{refl}
use Rattle.hist_journal.specs.Folds.{value_of, value_after, edited, applied_or}
use Rattle.hist_journal.specs.Nodes.{is_dead, is_ready, last_mark}
use Rattle.shelf.specs.ExampleStore as example
use Rattle.shelf.specs.LawfulExamples as lawful
use Rattle.shelf.specs.OpenRaise.{has_open_raise}
use Rattle.shelf.proofs.ExampleTests.{shown}
use Rattle.shelf.proofs.examples.histories_are_lawful.Goals as goal

pub returns : goal.returns
unfolding is_dead is_ready last_mark has_open_raise value_of value_after edited applied_or
returns c =
    record {
      two_nodes = shown example.empty lawful.two_nodes refl;
      read_between = shown example.empty lawful.read_between refl;
      equal_value = shown example.holds_one lawful.equal_value refl;
      death_after_raise = shown example.empty lawful.death_after_raise refl;
      death_after_rename = shown example.empty lawful.death_after_rename refl;
      sync_fails = shown example.empty lawful.sync_fails refl;
      rename_fails = shown example.empty lawful.rename_fails refl;
      folder_fails = shown example.empty lawful.folder_fails refl;
      greatest = shown example.empty lawful.greatest refl;
      replaced = shown example.unreadable lawful.replaced refl;
      restarted = shown example.empty lawful.restarted refl;
      former_life = shown example.empty lawful.former_life refl;
    }

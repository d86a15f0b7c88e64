use Rattle.std.proofs.Common.{refl}
use Rattle.hist_journal.specs.Folds.{edition_of, value_of, value_after, edited, applied_or, main_of, text_or}
use Rattle.shelf.specs.Images.{images, kept_front, unkept, changed_mains}
use Rattle.shelf.proofs.examples.histories_come_to.Goals as goal

pub returns : goal.returns
unfolding edition_of value_of value_after edited applied_or main_of text_or images kept_front unkept changed_mains
returns c =
    record {
      two_nodes = (refl, refl);
      equal_value = (refl, refl);
      greatest = refl;
      refused = refl;
      nothing_yet = refl;
      sync_fails = refl;
      equal_synced = refl;
      replaced = refl;
    }

use Rattle.folder_disk.proofs.FolderLemmas.{fails_untouched, spared_untouched}
use Rattle.folder_disk.proofs.mem_folder.MemFolderFolder.TheImpl.Goals as goal

pub create_scratch-tells : goal.create_scratch-tells
create_scratch-tells x c = record { ok = λ _. c.ensures.ok; err = λ _. fails_untouched c.result _ _ c.ensures.err; spared = λ _ _. spared_untouched c.result _ _ c.ensures.err; tally = c.ensures.tally; room = c.ensures.room }

pub append_scratch-tells : goal.append_scratch-tells
append_scratch-tells x c = record { ok = λ _. c.ensures.ok; err = λ _. fails_untouched c.result _ _ c.ensures.err; spared = λ _ _. spared_untouched c.result _ _ c.ensures.err; tally = c.ensures.tally; room = c.ensures.room }

pub sync_scratch-tells : goal.sync_scratch-tells
sync_scratch-tells x c = record { ok = λ _. c.ensures.ok; err = λ _. fails_untouched c.result _ _ c.ensures.err; spared = λ _ _. spared_untouched c.result _ _ c.ensures.err; tally = c.ensures.tally; room = c.ensures.room }

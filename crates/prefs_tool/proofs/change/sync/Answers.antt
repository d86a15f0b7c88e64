-- One call of the folder is made.
use Rattle.std.proofs.Common.{true, false}
use Rattle.std.proofs.lemmas.Result.{err_from_is_err_and}
use Rattle.folder_disk.specs.declared.call.FolderCall.TheVariants.{SyncFolder}
use Rattle.folder_disk.proofs.CallLemmas.{makes_one}
use Rattle.prefs_tool.proofs.change.sync.Goals as goal

pub returns-in_err-sync_folder-clause-outcome : goal.returns-in_err-sync_folder-clause-outcome
returns-in_err-sync_folder-clause-outcome g c =
    let p = err_from_is_err_and c.from_residual.result c.from_residual.ensures.1 in
    rw (p.1, p.2) (λ told. record {
      contents = c.in_err-sync_folder.ensures.err told;
      made = makes_one SyncFolder true _ _ (c.in_err-sync_folder.ensures.tally.due told);
    })

pub returns-clause-outcome : goal.returns-clause-outcome
returns-clause-outcome g c told = record {
  contents = c.in_ok-sync_folder.ensures.ok told;
  made = makes_one SyncFolder false _ _ (c.in_ok-sync_folder.ensures.tally.due told);
}

use Rattle.std.proofs.Common.{ap, ◌∙◌, ◌++◌, ◌∷◌, []}
use Rattle.hist_journal.specs.declared.seen.KindSeen.TheVariants.{Edit, Synced}
use Rattle.store_tests.proofs.UpdateLemmas.{change_fits, fault_changed, fault_raised, synced_changed, unraised_changed, unraised_written, writes_change}
use Rattle.store_tests.proofs.single_update.store.Goals as goal

pub rename-requires-clause-lawful : goal.rename-requires-clause-lawful
rename-requires-clause-lawful g c = λ told. let makes = c.requires.changes told in change_fits _ _ _ _ _ makes.new c.requires.raised.list_is makes.changes

pub rename-requires-clause-fault : goal.rename-requires-clause-fault
rename-requires-clause-fault g c = λ told. fault_raised _ _ _ _ c.requires.raised.list_is

pub rename-requires-clause-writes : goal.rename-requires-clause-writes
rename-requires-clause-writes g c = λ told. writes_change _ _ _ _ _ _ _ (c.requires.changes told)

pub sync_folder-requires-clause-ended : goal.sync_folder-requires-clause-ended
sync_folder-requires-clause-ended g c = unraised_changed _ c.args.edit _ (c.in-Ok.ensures.ok.list ∙ ap (λ xs. xs ++ record { who = c.args.call; kind = Edit c.args.edit } ∷ []) c.requires.raised.list_is)

pub sync_folder-requires-clause-lawful : goal.sync_folder-requires-clause-lawful
sync_folder-requires-clause-lawful g c =
    λ told. synced_changed _ _ _ _ c.args.edit (c.in-Ok.ensures.ok.list ∙ ap (λ xs. xs ++ record { who = c.args.call; kind = Edit c.args.edit } ∷ []) c.requires.raised.list_is)

pub sync_folder-requires-clause-fault : goal.sync_folder-requires-clause-fault
sync_folder-requires-clause-fault g c =
    λ told. fault_changed _ _ _ _ c.args.edit (c.in-Ok.ensures.ok.list ∙ ap (λ xs. xs ++ record { who = c.args.call; kind = Edit c.args.edit } ∷ []) c.requires.raised.list_is)

pub free-requires : goal.free-requires
free-requires g c = record {
  ended = unraised_written _ c.args.edit _
      (c.in-Ok-sync_folder.ensures.ok.list
      ∙ ap (λ xs. xs ++ record { who = c.args.call; kind = Synced } ∷ []) (c.in-Ok.ensures.ok.list ∙ ap (λ xs. xs ++ record { who = c.args.call; kind = Edit c.args.edit } ∷ []) c.requires.raised.list_is));
}

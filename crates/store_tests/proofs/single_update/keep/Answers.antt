use Rattle.std.proofs.Common.{ap, ◌∙◌, ◌++◌, ◌∷◌, []}
use Rattle.hist_journal.specs.declared.seen.KindSeen.TheVariants.{Same, Synced}
use Rattle.store_tests.proofs.UpdateLemmas.{fault_initialised, keep_fits, unraised_initialised, unraised_kept}
use Rattle.store_tests.proofs.single_update.keep.Goals as goal

pub sync_folder-requires-clause-ended : goal.sync_folder-requires-clause-ended
sync_folder-requires-clause-ended g c = unraised_initialised _ _ c.requires.holds.list_is

pub sync_folder-requires-clause-lawful : goal.sync_folder-requires-clause-lawful
sync_folder-requires-clause-lawful g c = λ told. keep_fits _ _ _ _ _ c.requires.holds.list_is (c.requires.same told)

pub sync_folder-requires-clause-fault : goal.sync_folder-requires-clause-fault
sync_folder-requires-clause-fault g c = λ told. fault_initialised _ _ _ _ c.requires.holds.list_is

pub free-requires : goal.free-requires
free-requires g c = record { ended = unraised_kept _ _ _ (c.in-Ok.ensures.ok.list ∙ ap (λ xs. (xs ++ record { who = c.args.call; kind = Same c.args.edit } ∷ []) ++ record { who = c.args.call; kind = Synced } ∷ []) c.requires.holds.list_is) }

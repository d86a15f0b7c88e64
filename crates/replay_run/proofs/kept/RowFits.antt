-- The entries of a turn fit behind those before it.
use Rattle.std.proofs.Common.{◌≡◌, true, false, [], ◌∷◌, IsTrue, refl}
use Rattle.hist_journal.specs.declared.device.Device.TheVariants.{Folder}
use Rattle.hist_journal.specs.declared.seen.KindSeen.TheVariants.{Fault}
use Rattle.hist_journal.specs.Nodes.{is_dead}
use Rattle.shelf.specs.declared.store.Store.{Store}
use Rattle.shelf.specs.FaultCounts.{RaisesCount}
use Rattle.shelf.specs.Legal.{Legal}
use Rattle.shelf.specs.Rules.{Rules}
use Rattle.shelf.specs.ShelfTurns.{FitInTurn}
use Rattle.shelf.proofs.GoingOn.{inited_fits, raise_fits}
use Rattle.shelf.proofs.LateCallLemmas.{late_fault, late_synced_fits}
use Rattle.shelf.proofs.PendingLemmas.{open_iff_pending}
use Rattle.step_table.specs.Calls.{At, Changed, Kept, Reply}
use Rattle.step_table.specs.Effects.{Comes, Effect, all_kinds}
use Rattle.step_table.specs.Requests.{Request, Serves}
use Rattle.step_table.specs.Rows.{Row, acknowledges, finishes, raises, read_fails, renames, restarts, sync_fails, write_fails}
use Rattle.step_table.specs.World.{Turned}
use Rattle.step_table.specs.declared.progress.Progress.{Progress}
use Rattle.node_core.specs.Knows.{Knows}
use Rattle.node_core.proofs.DyingFits.{going_restarts, living_ends}
use Rattle.node_core.proofs.EarlyLemmas.{changed_ends_on, early_goes_on}
use Rattle.node_core.proofs.EndLemmas.{kept_fits}
use Rattle.node_core.proofs.KeepingOn.{standing}
use Rattle.node_core.proofs.RenameLemmas.{edit_may}

module _ {V T M : Type 0} (r : Rules V T) (s : Store V M) where
  module _ (t : Turned V T) where
    -- a call of the folder that fails tells of a new count
    abbrev pub FaultsRise : Type 0
    FaultsRise = (request : Request) → Serves request true t.world t.world_after → RaisesCount s t.world.history (Fault Folder t.world_after.tally.count)

    module _ (told : IsTrue t.world.told) (lives : is_dead t.call.id.node t.world.history ≡ false) (rise : FaultsRise) (legal : Legal r.meanings s t.world.history) where
      a_fault : {at : At V T} (request : Request) → Knows r s t.world (standing at t.call) → Serves request true t.world t.world_after
          → FitInTurn r.meanings s t.call.id (Fault Folder t.world_after.tally.count ∷ []) t.world.history
      a_fault {at} request k serves =
          (late_fault t.call.id r.meanings s t.world.history (living_ends t.call.id t.world.history at k.entries lives k.numbers) t.world_after.tally.count (rise request serves), tt)

      pub row_fits : {at : At V T} {e : Effect V T} {gave : Progress (Reply V)} → Row r s t.world t.call.id at e → Comes t e gave → Knows r s t.world (standing at t.call)
          → FitInTurn r.meanings s t.call.id (all_kinds e.folder t.world_after.tally.count e.kinds) t.world.history
      row_fits read_fails comes k = a_fault _ k comes.used
      row_fits write_fails comes k = a_fault _ k comes.used
      row_fits sync_fails comes k = a_fault _ k comes.used
      row_fits finishes comes k =
          let read = k.contents told in
          (inited_fits _ _ _ _ (early_goes_on _ _ k.entries lives k.numbers) read.value read.held (k.holds refl).ready, tt)
      row_fits raises comes k = (raise_fits _ _ _ _ (early_goes_on _ _ k.entries lives k.numbers), tt)
      row_fits (renames {plan = plan}) comes k =
          let opened = (open_iff_pending r.meanings s t.world.history t.call.id legal).1 (k.raised.0 refl) in
          edit_may _ _ _ _ plan k.plan.asked (early_goes_on _ _ k.entries lives k.numbers) opened (k.holds refl).ready (k.contents told).due.allowed
      row_fits (acknowledges {ending = Changed place}) comes k = (late_synced_fits _ _ _ _ (changed_ends_on _ place _ k.entries lives k.numbers), tt)
      row_fits (acknowledges {ending = Kept edit}) comes k =
          kept_fits _ _ _ _ edit (early_goes_on _ _ k.entries lives k.numbers) (k.holds refl).ready (k.contents told)
      row_fits (restarts {node} is_dead) comes k = (going_restarts t.call.id t.world.history r.meanings s (early_goes_on _ _ k.entries lives k.numbers) node is_dead, tt)
      row_fits other comes k = tt

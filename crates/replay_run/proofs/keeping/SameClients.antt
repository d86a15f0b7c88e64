-- A step leaves its client what it is, with what it is asked for.
use Rattle.std.proofs.Common.{◌≡◌, Option, Some, None, refl}
use Rattle.shelf.specs.declared.store.Store.{Store}
use Rattle.replay_run.specs.Answering.{behind_look}
use Rattle.replay_run.specs.RunState.{Client, NodeView}
use Rattle.replay_run.specs.Settings.{PrefCached, PrefRules, Value}
use Rattle.replay_run.specs.Steps.{ClientSteps}
use Rattle.replay_run.proofs.keeping.BehindTurns.{behind, behind_same}
use Rattle.replay_run.proofs.keeping.StepCases.{StepCase, looks, rests, step_case, turns}

pub record IsStillThat (client now : Client) : Type 0 where
  pub id : now.id ≡ client.id
  pub node : now.node ≡ client.node
  pub earlier : now.earlier ≡ client.earlier
  pub asked : now.asked ≡ client.asked

looked : (client : Client) (found : Option PrefCached) → IsStillThat client (behind_look client found)
looked client (Some kept) = record { id = refl; node = refl; earlier = refl; asked = refl }
looked client None = record { id = refl; node = refl; earlier = refl; asked = refl }

module _ (r : PrefRules) {M : Type 0} (s : Store Value M) (client : Client) (view : NodeView) (after : Client) (view_after : NodeView) where
  by_case : StepCase r s client view after view_after → IsStillThat client after
  by_case (rests none now same) = rw now (record { id = refl; node = refl; earlier = refl; asked = refl })
  by_case (turns asked called at_it turn) =
      let same = behind_same turn.gave after (behind client turn.call_after turn.gave after turn.now) in
      record { id = same.id; node = same.node; earlier = same.earlier; asked = same.asked }
  by_case (looks at_it idle look) = rw look.now (looked client _)

  pub still_that : ClientSteps r s client view after view_after → IsStillThat client after
  still_that steps = by_case (step_case r s client view after view_after steps)

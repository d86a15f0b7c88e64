use Rattle.std.proofs.Common.{◌≡◌, ◌∙◌, false, Some, refl, sym, ap, subst}
use Rattle.prefs_edit.specs.contracts.edit.EditTransform.TheImpl as edit
use Rattle.prefs_proto.specs.contracts.prefs_codec.PrefsCodecCodec.TheImpl as codec
use Rattle.shelf.specs.Deaths.{died_since}
use Rattle.shelf.specs.ShelfSeen.{shelf_seen}
use Rattle.value_cache.specs.Cached.{kept_seen}
use Rattle.node_core.specs.Ready.{Equipped}
use Rattle.replay_run.specs.declared.client.Client as own
use Rattle.replay_run.specs.Answering.{behind_turn}
use Rattle.replay_run.specs.RunningSteps.{kept_of, replied_so}
use Rattle.replay_run.specs.SessionView.{IsEquipped, client_seen, running_seen}
use Rattle.replay_run.specs.Settings.{PrefCall}
use Rattle.replay_run.specs.Steps.{kept_behind}
use Rattle.replay_run.proofs.keeping.BehindTurns.{client_on}
use Rattle.replay_run.proofs.session.ClientTurns.{both_ok, equips, goes_on, may_step, not_ended, on_equipped, spares_now, takes}
use Rattle.replay_run.proofs.session.ScriptGhosts.{ghosts}
use Rattle.replay_run.proofs.session.TrueCacheLemmas.{publishes_true}
use Rattle.replay_run.proofs.client.Client.turn.Goals as goal

pub step-progress-requires-clause-may : goal.step-progress-requires-clause-may
step-progress-requires-clause-may c = may_step c.args.shelf.now c.args.self.now c.args.call c.requires.may

pub returns-in-Moved : goal.returns-in-Moved
returns-in-Moved c =
    let old = c.args.shelf.now in
    let new = c.step-progress.new.shelf in
    let client = c.args.self.now in
    let now = c.run.new.self in
    let after = c.step-progress.new.self in
    let gave = replied_so c.step-progress.result in
    let steps = c.step-progress.ensures.steps in
    let may = c.requires.may in
    let so = not_ended c.step-progress.result c.in-Moved.is in
    let seen : client_seen now ≡ client_on (client_seen client) (running_seen after) = ap client_seen c.run.ensures ∙ ap (client_on (client_seen client)) c.kept.ensures.same in
    let equipped : IsEquipped new c.kept.new.self =
    subst (λ (call : PrefCall). died_since call.id.node call.since (shelf_seen new).list ≡ false → Equipped codec.ghosts edit.ghosts ghosts call.at (shelf_seen new)) (sym c.kept.ensures.same) (equips old client c.args.call may new after gave steps so) in
    record {
      steps =
          takes old client c.args.call may new after gave steps refl refl now (kept_seen c.args.cache.now) (kept_seen c.publish.new.cache)
          (goes_on (client_seen client) (running_seen after) gave so ∙ ap Some (sym seen))
          (c.publish.ensures ∙ ap (kept_behind (kept_seen c.args.cache.now)) (c.kept.ensures.kept ∙ c.step-progress.ensures.published));
      equipped = on_equipped new now c.kept.new.self (ap (λ (x : own.Client). x.running) c.run.ensures) equipped;
      spares = spares_now old client c.args.call may new after gave steps;
      kept = c.run.ensures ∙ ap (λ (x : own.Client). record client { running = x.running; answered = x.answered }) (sym c.run.ensures);
      store = steps.store;
      codec = steps.codec;
      number = c.step-progress.ensures.number;
      cache =
          publishes_true old new steps c.args.cache.now c.publish.new.cache (kept_of after) (c.publish.ensures ∙ ap (kept_behind (kept_seen c.args.cache.now)) c.kept.ensures.kept)
          c.step-progress.ensures.current;
    }

pub returns-in-Ended-clause-steps : goal.returns-in-Ended-clause-steps
returns-in-Ended-clause-steps c =
    let client = c.args.self.now in
    let after = c.step-progress.new.self in
    let steps = c.step-progress.ensures.steps in
    both_ok c.end.result c.end.ensures.answered c.end.ensures.answered
    (λ answered again.
    takes c.args.shelf.now client c.args.call c.requires.may c.step-progress.new.shelf after (replied_so c.step-progress.result) steps refl refl c.end.new.self (kept_seen c.args.cache.now) (kept_seen c.publish.new.cache)
    (ap (λ gave. behind_turn (client_seen client) (running_seen after) (replied_so gave)) c.in-Ended.is ∙ answered (running_seen after) (steps.call ∙ c.requires.may.its.id))
    (c.publish.ensures ∙ ap (kept_behind (kept_seen c.args.cache.now)) (c.kept.ensures.kept ∙ c.step-progress.ensures.published)))

pub returns-in-Ended-clause-spares : goal.returns-in-Ended-clause-spares
returns-in-Ended-clause-spares c =
    spares_now c.args.shelf.now c.args.self.now c.args.call c.requires.may c.step-progress.new.shelf c.step-progress.new.self (replied_so c.step-progress.result) c.step-progress.ensures.steps

pub returns-in-Ended-clause-cache : goal.returns-in-Ended-clause-cache
returns-in-Ended-clause-cache c =
    publishes_true c.args.shelf.now c.step-progress.new.shelf c.step-progress.ensures.steps c.args.cache.now c.publish.new.cache (kept_of c.step-progress.new.self)
    (c.publish.ensures ∙ ap (kept_behind (kept_seen c.args.cache.now)) c.kept.ensures.kept) c.step-progress.ensures.current

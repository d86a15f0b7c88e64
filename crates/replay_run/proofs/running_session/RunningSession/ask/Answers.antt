use Rattle.std.proofs.Common.{vec_len}
use Rattle.std.proofs.lemmas.Option.{slice_get_read}
use Rattle.replay_run.proofs.session.ClientTurns.{both_ok}
use Rattle.replay_run.proofs.session.SessionLines.{asking_keeps, asks_now}
use Rattle.replay_run.proofs.running_session.RunningSession.ask.Goals as goal

pub returns-clause-asks : goal.returns-clause-asks
returns-clause-asks c =
    let old = c.args.self.now in
    let client = c.index_mut.result.now in
    let found = slice_get_read old.clients.items (vec_len old.clients) c.args.place client old.clients.ok.0 c.requires.within c.index_mut.ensures.value in
    both_ok c.ask.result c.ask.ensures.same c.ask.ensures.asked (λ same asked. asks_now old c.args.place client c.ask.new.self c.args.task found same asked)

pub returns-clause-keeps : goal.returns-clause-keeps
returns-clause-keeps c =
    let old = c.args.self.now in
    let client = c.index_mut.result.now in
    let found = slice_get_read old.clients.items (vec_len old.clients) c.args.place client old.clients.ok.0 c.requires.within c.index_mut.ensures.value in
    both_ok c.ask.result c.ask.ensures.same c.ask.ensures.asked (λ same asked.
    let keeps = asking_keeps old c.args.place client c.ask.new.self c.args.task found same asked c.requires.keeps c.requires.named in
    record { state = keeps.state; number = keeps.number; nodes = keeps.nodes; places = keeps.places; named = keeps.named; equipped = keeps.equipped })

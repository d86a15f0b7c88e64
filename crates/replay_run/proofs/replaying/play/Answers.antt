use Rattle.script_lang.specs.TranscriptView.{session_seen}
use Rattle.replay_run.proofs.session.SessionRun.{if_both, lines_fit, played_well}
use Rattle.replay_run.proofs.replaying.play.Goals as goal

pub follow-requires-clause-lines : goal.follow-requires-clause-lines
follow-requires-clause-lines c = rw c.as_slice.ensures (lines_fit c.args.script.now c.requires.keeps c.args.plan.now c.requires.plan c.in_ok-session.session c.in_ok-session.ensures.opened)

pub returns : goal.returns
returns c =
    let follows = rw c.as_slice.ensures at c.in_ok-follow.ensures.follows in
    if_both c.close.result c.close.ensures.tells c.close.ensures.base
    (λ session tells base.
    played_well c.args.script.now c.requires.keeps c.args.plan.now c.requires.plan (session_seen session) c.in_ok-session.session c.follow.new.self c.finish.new.self c.in_ok-session.ensures.opened follows
    c.in_ok-finish.ensures.finishes c.in_ok-finish.ensures.keeps c.follow.ensures.store c.finish.ensures.store tells base)

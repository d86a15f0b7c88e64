use Rattle.std.proofs.Common.{refl, sym, ap, ◌∙◌}
use Rattle.hist_journal.specs.ListedJournal.{journal_meaning}
use Rattle.version_room.proofs.TurnLemmas.{took, follows_unchanged, rested}
use Rattle.version_room.proofs.tests.len_in_turn.Goals as goal

pub leave-requires : goal.leave-requires
leave-requires g c =
    let e = c.take-log.ensures in
    let t = took journal_meaning _ _ _ _ c.enter-turn.ensures.begun e.state e.taken e.same in
    record { before = _; entry = _; r = 0; since = t.0; follows = follows_unchanged journal_meaning _ _ _ refl refl refl }

pub returns : goal.returns
returns g c =
    let e = c.take-log.ensures in
    let t = took journal_meaning _ _ _ _ c.enter-turn.ensures.begun e.state e.taken e.same in
    let gone = rested journal_meaning _ _ _ _ _ c.take-log.result _ c.requires t.0 c.leave.ensures in
    rw (c.pass-1.given.1 (sym (e.pass ∙ c.enter-turn.ensures.pass))) record { room = gone.0; clients = (ap (λ k. k.low) gone.1, ap (λ k. k.high) gone.1) }

use Rattle.std.proofs.Common.{refl, sym, ap, ◌∙◌}
use Rattle.hist_journal.specs.ListedJournal.{journal_meaning}
use Rattle.version_room.proofs.TurnLemmas.{took, follows_one, follows_unchanged, rested}
use Rattle.ds_bench.proofs.room.push_in_turn.Goals as goal

pub leave-requires : goal.leave-requires
leave-requires g c =
    let e = c.take-log.ensures in
    let t = took journal_meaning _ _ _ _ c.enter-turn.ensures.begun e.state e.taken e.same in
    let same = c.has_room-is_open.ensures.same in
    record { before = _; entry = _; r = 0; since = t.0; follows = follows_unchanged journal_meaning _ _ _ (λ i. record { base = same.base i; bounds = same.bounds i }) same.list refl }

pub returns-then-not-is_open-clause-room : goal.returns-then-not-is_open-clause-room
returns-then-not-is_open-clause-room g c =
    let e = c.take-log.ensures in
    let t = took journal_meaning _ _ _ _ c.enter-turn.ensures.begun e.state e.taken e.same in
    let gone = rested journal_meaning _ _ _ _ _ c.has_room-is_open.new.log _ c.requires.room t.0 c.leave.ensures in
    rw (c.pass-1.given.1 (sym (e.pass ∙ c.enter-turn.ensures.pass))) gone.0

pub returns-then-not-is_open-clause-clients : goal.returns-then-not-is_open-clause-clients
returns-then-not-is_open-clause-clients g c =
    let e = c.take-log.ensures in
    let t = took journal_meaning _ _ _ _ c.enter-turn.ensures.begun e.state e.taken e.same in
    let gone = rested journal_meaning _ _ _ _ _ c.has_room-is_open.new.log _ c.requires.room t.0 c.leave.ensures in
    rw (c.pass-1.given.1 (sym (e.pass ∙ c.enter-turn.ensures.pass))) (ap (λ k. k.low) gone.1, ap (λ k. k.high) gone.1)

pub leave-requires-2 : goal.leave-requires-2
leave-requires-2 g c =
    let e = c.take-log.ensures in
    let t = took journal_meaning _ _ _ _ c.enter-turn.ensures.begun e.state e.taken e.same in
    let same = c.has_room-is_open.ensures.same in
    let push = c.push.ensures in
    record {
      before = _;
      entry = _;
      r = 0;
      since = t.0;
      follows = follows_one journal_meaning _ _ _ _ _ (λ i. record { base = (push.base ∙ same.base) i; bounds = (push.bounds ∙ same.bounds) i }) same.list push.list c.requires.client (λ h x. absurd (cc x));
    }

pub returns-clause-room : goal.returns-clause-room
returns-clause-room g c =
    let e = c.take-log.ensures in
    let t = took journal_meaning _ _ _ _ c.enter-turn.ensures.begun e.state e.taken e.same in
    let gone = rested journal_meaning _ _ _ _ _ c.push.new.self _ c.requires.room t.0 c.leave-2.ensures in
    rw (c.pass-2-1.given.1 (sym (e.pass ∙ c.enter-turn.ensures.pass))) gone.0

pub returns-clause-clients : goal.returns-clause-clients
returns-clause-clients g c =
    let e = c.take-log.ensures in
    let t = took journal_meaning _ _ _ _ c.enter-turn.ensures.begun e.state e.taken e.same in
    let gone = rested journal_meaning _ _ _ _ _ c.push.new.self _ c.requires.room t.0 c.leave-2.ensures in
    rw (c.pass-2-1.given.1 (sym (e.pass ∙ c.enter-turn.ensures.pass))) (ap (λ k. k.low) gone.1, ap (λ k. k.high) gone.1)

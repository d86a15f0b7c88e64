use Rattle.std.proofs.Common.{rules, ap, ◌∙◌, None}
use Rattle.version_room.proofs.Calls.{carries, ends_as, has_left}
use Rattle.version_room.proofs.Lawfully.{left_lawful, left_numbers}
use Rattle.version_room.proofs.room.Room.put_back.Goals as goal

pub exchange-nothing-requires : goal.exchange-nothing-requires
exchange-nothing-requires g c = let since = c.requires.state.since in (search rules, (None, carries g.S.Listed.meaning _ _ (ap (λ me. me.1) since.now_is)))

pub fetch_add-requires : goal.fetch_add-requires
fetch_add-requires g c = (search rules, search rules, ends_as _ _ _ _ _ _ _ g.met.S.Listed.stays_lapsed c.requires.state c.exchange-nothing.ensures.3)

pub returns-clause-left : goal.returns-clause-left
returns-clause-left g c = let e = c.fetch_add.ensures in let x = c.exchange-nothing.ensures in has_left g.S.Listed.meaning _ _ _ _ x.3 e.2 (e.0 ∙ x.0, e.1 ∙ x.1)

pub invariant_of-pass-clause-lawful : goal.invariant_of-pass-clause-lawful
invariant_of-pass-clause-lawful g c =
    let e = c.fetch_add.ensures in
    let x = c.exchange-nothing.ensures in
    left_lawful g.S.Listed.meaning _ _ _ c.show_lawful.ensures c.requires.state (has_left g.S.Listed.meaning _ _ _ _ x.3 e.2 (e.0 ∙ x.0, e.1 ∙ x.1))

pub invariant_of-pass-clause-numbers : goal.invariant_of-pass-clause-numbers
invariant_of-pass-clause-numbers g c =
    let e = c.fetch_add.ensures in
    let x = c.exchange-nothing.ensures in
    left_numbers g.S.Listed.meaning _ _ _ c.requires.state (has_left g.S.Listed.meaning _ _ _ _ x.3 e.2 (e.0 ∙ x.0, e.1 ∙ x.1)) c.args.pass.now.numbers

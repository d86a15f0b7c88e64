use Rattle.std.proofs.Common.{◌++◌, ◌∷◌, [], sym, ap, ◌∙◌, subst}
use Rattle.version_room.specs.Closing.{HaveAllClients, all_known}
use Rattle.version_room.specs.Seats.{known}
use Rattle.version_room.proofs.ClosingLemmas.{all_in_order}
use Rattle.version_room.proofs.tests.close_both.Goals as goal

pub close-requires-clause-clients : goal.close-requires-clause-clients
close-requires-clause-clients c =
    let q = c.requires.clients in
    let items = c.in-Ok.ensures.items ∙ ap (λ l. l ++ c.args.q ∷ []) c.requires.memory.0 in
    subst (λ l. HaveAllClients (known c.args.p.seat) (all_known l)) (sym items) (all_in_order (known c.args.p.seat) (known c.args.q.seat ∷ []) q.0.1 q.0.0 (q.1.0, q.1.1, tt))

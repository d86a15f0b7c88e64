use Rattle.std.proofs.Common.{◌∙◌, refl, sym, ap}
use Rattle.std.specs.List.{list_any}
use Rattle.hist_journal.specs.Folds.{kind_weight}
use Rattle.shelf.specs.DeathPlan.{DeathPlanSeen}
use Rattle.shelf.specs.Deaths.{strikes, turn_step}
use Rattle.shelf.proofs.DyingLemmas.{none_used}
use Rattle.shelf.proofs.KeptLemmas.{kept_kinds, untouched}
use Rattle.shelf.proofs.LedgerLemmas.{has_node-ids}
use Rattle.shelf.proofs.shelf.Shelf.begin.Goals as goal

pub die-requires-clause-node : goal.die-requires-clause-node
die-requires-clause-node g c = sym (has_node-ids c.args.call.node c.args.self.now.ledger.nodes) ∙ c.requires.node

pub invariant_of-self : goal.invariant_of-self
unfolding kind_weight
invariant_of-self g c =
    let s = c.args.self.now in
    let planned = ap (λ (plan : DeathPlanSeen). plan.planned) c.strike.ensures.left in
    record { low_limit = s.low_limit; kept = rw planned (kept_kinds _ _ _ _ _ _ _ _ _ _ s.ledger c.die.new.self _ _ _ _ _ c.die.ensures.entry (untouched _ _ (g.P.F.Folder.tally s.folder)) refl (λ told. c.requires.lawful told c.in_default.ensures.lives) refl s.kept) }

pub returns : goal.returns
returns g c =
    let none = sym c.strike.ensures.struck ∙ c.if-strike.false in
    let spared = none_used c.args.call c.turn_step-step.result c.args.self.now.deaths c.strike.new.self none c.strike.ensures.left in
    let step = ap (λ ready. turn_step ready c.args.step) (sym c.is_ready.ensures) ∙ sym c.turn_step-step.ensures in
    record {
      lives = c.in_default.ensures.lives;
      unplanned = ap (λ step. list_any (strikes c.args.call step) c.args.self.now.deaths.left) step ∙ none;
      same = rw spared refl;
    }

use Rattle.std.proofs.Common.{sym, ap, is_some}
use Rattle.prefs_model.proofs.Rising.{IsSortedList-without_key}
use Rattle.prefs_model.proofs.Search.{without_key_at, without_key_gap, value_at_place, value_in_gap}
use Rattle.prefs_model.proofs.sorted_vec.SortedVec.remove.Goals as goal

-- the item with the key goes
pub invariant_of-self : goal.invariant_of-self
invariant_of-self g c =
    let at = rw (← c.self.view_is) at c.in-Ok.ensures.found in
    rw (c.remove.ensures.items, ← without_key_at g.T.Keyed.key_of c.self.inside.items.items c.args.key.now c.in-Ok.place c.self.invariant.rising at)
    (IsSortedList-without_key g.T.Keyed.key_of g.T.Keyed.is_valid c.self.inside.items.items c.args.key.now c.self.invariant)

pub returns-in-Ok-clause-items : goal.returns-in-Ok-clause-items
returns-in-Ok-clause-items g c =
    let at = rw (← c.self.view_is) at c.in-Ok.ensures.found in
    rw (c.remove.ensures.items, ← c.self.view_is) (sym (without_key_at g.T.Keyed.key_of c.self.inside.items.items c.args.key.now c.in-Ok.place c.self.invariant.rising at))

pub returns-in-Ok-clause-removed : goal.returns-in-Ok-clause-removed
returns-in-Ok-clause-removed g c = sym (ap is_some (value_at_place g.T.Keyed.key_of (λ item. item) c.args.self.now c.args.key.now c.in-Ok.place c.remove.result c.in-Ok.ensures.found))

-- no item has the key
pub returns-in-Err-clause-items : goal.returns-in-Err-clause-items
returns-in-Err-clause-items g c = sym (without_key_gap g.T.Keyed.key_of c.args.self.now c.args.key.now c.in-Err.field-0 c.in-Err.ensures.absent)

pub returns-in-Err-clause-removed : goal.returns-in-Err-clause-removed
returns-in-Err-clause-removed g c = sym (ap is_some (value_in_gap g.T.Keyed.key_of (λ item. item) c.args.self.now c.args.key.now c.in-Err.field-0 c.in-Err.ensures.absent))

use Rattle.std.proofs.Common.{sym, ap, Some}
use Rattle.prefs_model.proofs.Search.{value_at_place, value_in_gap}
use Rattle.prefs_model.proofs.sorted_vec.SortedVec.get.Goals as goal

-- the item that was read has the key
pub returns-in-Ok : goal.returns-in-Ok
returns-in-Ok g c =
    let found = value_at_place g.T.Keyed.key_of (λ item. item) c.args.self.now c.args.key.now c.in-Ok.place c.index.result.now c.in-Ok.ensures.found in
    rw found (ap Some (rw c.self.view_is at c.index.ensures))

-- no item has the key
pub returns-in-Err : goal.returns-in-Err
returns-in-Err g c = sym (value_in_gap g.T.Keyed.key_of (λ item. item) c.args.self.now c.args.key.now c.in-Err.field-0 c.in-Err.ensures.absent)

use Rattle.std.proofs.Common.{sym, ap, not, is_some, arith}
use Rattle.prefs_model.proofs.Rising.{IsSortedList-with_item}
use Rattle.prefs_model.proofs.Search.{with_item_at, with_item_gap, value_at_place, value_in_gap}
use Rattle.prefs_model.proofs.sorted_vec.SortedVec.insert.Goals as goal

-- the key was there, and the new item is written over its item
pub invariant_of-self : goal.invariant_of-self
invariant_of-self g c =
    let at = rw (c.sort_key.ensures, ← c.self.view_is) at c.in-Ok.ensures.found in
    rw (← with_item_at g.T.Keyed.key_of c.self.inside.items.items c.args.item c.in-Ok.place at)
    (IsSortedList-with_item g.T.Keyed.key_of g.T.Keyed.is_valid c.self.inside.items.items c.args.item c.self.invariant c.know_valid.ensures)

pub returns-in-Ok-clause-ok : goal.returns-in-Ok-clause-ok
returns-in-Ok-clause-ok g c =
    let at = rw (c.sort_key.ensures, ← c.self.view_is) at c.in-Ok.ensures.found in
    rw (← c.self.view_is) (sym (with_item_at g.T.Keyed.key_of c.self.inside.items.items c.args.item c.in-Ok.place at))

pub returns-in-Ok-clause-is_new : goal.returns-in-Ok-clause-is_new
returns-in-Ok-clause-is_new g c =
    let at = rw c.sort_key.ensures at c.in-Ok.ensures.found in
    sym (ap (λ found. not (is_some found)) (value_at_place g.T.Keyed.key_of (λ item. item) c.args.self.now (g.T.Keyed.key_of c.args.item) c.in-Ok.place c.args.item at))

-- the item is added in the gap
pub invariant_of-self-in-Err : goal.invariant_of-self-in-Err
invariant_of-self-in-Err g c =
    let gap = rw (c.sort_key.ensures, ← c.self.view_is) at c.in-Err.ensures.absent in
    rw (c.in_ok-insert-in-Err.ensures.items, ← with_item_gap g.T.Keyed.key_of c.self.inside.items.items c.args.item c.in-Err.place gap)
    (IsSortedList-with_item g.T.Keyed.key_of g.T.Keyed.is_valid c.self.inside.items.items c.args.item c.self.invariant c.know_valid.ensures)

pub returns-in_ok-insert-in-Err-clause-ok : goal.returns-in_ok-insert-in-Err-clause-ok
returns-in_ok-insert-in-Err-clause-ok g c =
    let gap = rw (c.sort_key.ensures, ← c.self.view_is) at c.in-Err.ensures.absent in
    rw (c.in_ok-insert-in-Err.ensures.items, ← c.self.view_is) (sym (with_item_gap g.T.Keyed.key_of c.self.inside.items.items c.args.item c.in-Err.place gap))

pub returns-in_ok-insert-in-Err-clause-is_new : goal.returns-in_ok-insert-in-Err-clause-is_new
returns-in_ok-insert-in-Err-clause-is_new g c =
    let gap = rw c.sort_key.ensures at c.in-Err.ensures.absent in
    sym (ap (λ found. not (is_some found)) (value_in_gap g.T.Keyed.key_of (λ item. item) c.args.self.now (g.T.Keyed.key_of c.args.item) c.in-Err.place gap))

-- memory fails only for a key that was not there
pub returns-in_err-insert-in-Err-clause-overwrite_succeeds :
    goal.returns-in_err-insert-in-Err-clause-overwrite_succeeds
returns-in_err-insert-in-Err-clause-overwrite_succeeds g c found =
    let gap = rw c.sort_key.ensures at c.in-Err.ensures.absent in
    let none = value_in_gap g.T.Keyed.key_of (λ item. item) c.args.self.now (g.T.Keyed.key_of c.args.item) c.in-Err.place gap in
    grind (arith, none)

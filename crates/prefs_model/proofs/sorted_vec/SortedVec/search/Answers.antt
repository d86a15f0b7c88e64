use Rattle.std.proofs.Common.{rules}
use Rattle.std.proofs.lemmas.Fn.{always_returns_same}
use Rattle.prefs_model.specs.Rising.{key_cmp}
use Rattle.prefs_model.proofs.Search.{searched}
use Rattle.prefs_model.proofs.sorted_vec.SortedVec.search.Goals as goal

-- the closure compares an item's key with the wanted one
pub returns : goal.returns
returns g c =
    let facts = c.binary_search_by.ensures in
    let by_key = facts.position (λ item. key_cmp (g.T.Keyed.key_of item) c.args.key.now) (always_returns_same _ _ _ (λ a r f' called. search rules)) in
    rw (← c.self.view_is, ← c.deref.ensures.value) (searched g.T.Keyed.key_of c.deref.result.now (rw c.deref.ensures.value c.self.invariant.rising) c.args.key.now _ facts.bound by_key)

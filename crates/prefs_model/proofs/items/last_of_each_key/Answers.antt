use Rattle.std.proofs.Common.{◌∙◌, rules}
use Rattle.std.proofs.lemmas.Cmp.{nat_list_cmp_total}
use Rattle.std.proofs.lemmas.Fn.{always_returns_same, dedup_same}
use Rattle.std.proofs.lemmas.List.Sorted.{ranks_by}
use Rattle.std.proofs.lemmas.Map.Text.{is_eq-slice_cmp}
use Rattle.prefs_model.proofs.Latest.{has_lesser, has_same, IsRising-dedup, value_under-dedup, value_under-stable}
use Rattle.prefs_model.proofs.items.last_of_each_key.Goals as goal

-- the sort brings equal keys together, the last entry first, and that one stays
pub returns : goal.returns
returns g c =
    let key_of = g.T.Keyed.key_of in
    let sorting = c.in_ok-sort_by.ensures in
    let sorted = sorting.sorted (has_lesser key_of) (ranks_by nat_list_cmp_total key_of) (always_returns_same _ _ _ (λ a r f' called. search rules)) in
    let stable = sorting.stable (has_lesser key_of) (ranks_by nat_list_cmp_total key_of) (always_returns_same _ _ _ (λ a r f' called. search rules)) in
    let in_order = c.sort_by.new.self.items in
    let kept = dedup_same _ (has_same key_of) _ (λ x y b f' x' y' called. search (rules, is_eq-slice_cmp)) in_order c.dedup_by.new.self.items c.dedup_by.ensures.filtered in
    record {
      rising = rw kept (IsRising-dedup key_of in_order sorted);
      last = λ key. rw (kept, ← c.reverse.ensures.items) (value_under-dedup key_of in_order key ∙ value_under-stable key_of c.reverse.new.self.items in_order stable key);
    }

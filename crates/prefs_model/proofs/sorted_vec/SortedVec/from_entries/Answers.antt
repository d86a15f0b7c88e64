use Rattle.std.proofs.Common.{reverse}
use Rattle.std.proofs.lemmas.List.Sorted.{All-permutation, IsPermutation-reverse}
use Rattle.prefs_model.proofs.Latest.{All-found}
use Rattle.prefs_model.proofs.sorted_vec.SortedVec.from_entries.Goals as goal

-- each item that is kept was an entry
pub invariant_of-result : goal.invariant_of-result
invariant_of-result g c =
    let came = c.into_vec.result.items in
    let all = rw (← c.into_vec.ensures.items) at c.into_vec.ensures.valid in
    let turned = All-permutation g.T.Keyed.is_valid came (reverse came) (IsPermutation-reverse came) all in
    record {
      rising = c.in_ok-items.ensures.rising;
      valid = All-found g.T.Keyed.key_of g.T.Keyed.is_valid (reverse came) c.in_ok-items.items.items c.in_ok-items.ensures.rising c.in_ok-items.ensures.last turned;
    }

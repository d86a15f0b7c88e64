use Rattle.std.proofs.Common.{rules}
use Rattle.std.proofs.lemmas.List.Sorted.{IsNonDecreasingBy-from_sort, answers_always}
use Rattle.folder_disk.specs.Due.{rank}
use Rattle.folder_disk.proofs.OrderLemmas.{sorted_in_order}
use Rattle.folder_disk.proofs.fault_plan.put_in_order.Goals as goal

pub returns-clause-rises : goal.returns-clause-rises
returns-clause-rises c = IsNonDecreasingBy-from_sort rank _ (c.sort_unstable_by_key.ensures.sorted rank (answers_always _ _ _ (λ f a r g h. search rules)))

pub returns-clause-same : goal.returns-clause-same
returns-clause-same c = sorted_in_order _ _ c.sort_unstable_by_key.ensures.permutation (returns-clause-rises c)

use Rattle.std.proofs.Common.{rules, ◌∙◌}
use Rattle.std.proofs.lemmas.List.Sorted.{answers_always}
use Rattle.folder_disk.specs.Due.{rank}
use Rattle.folder_disk.proofs.SearchLemmas.{planned_here, planned_nowhere}
use Rattle.folder_disk.proofs.fault_plan.is_next_planned.Goals as goal

pub returns-in-Ok-clause-planned : goal.returns-in-Ok-clause-planned
returns-in-Ok-clause-planned c =
    let found = c.in-Ok.ensures.position rank (answers_always _ _ _ (λ f a r g h. search rules)) in
    let found_next = rw c.next_rank.ensures at found in
    c.is_next.ensures.value ∙ planned_here _ _ _ _ _ _ c.count_of-before.ensures c.in-Ok.ensures.bound (found_next _)

pub returns-in-Err-clause-planned : goal.returns-in-Err-clause-planned
returns-in-Err-clause-planned c =
    let missed = c.in-Err.ensures.position rank (answers_always _ _ _ (λ f a r g h. search rules)) in
    planned_nowhere _ _ _ _ _ c.count_of-before.ensures c.requires (rw c.next_rank.ensures at missed)

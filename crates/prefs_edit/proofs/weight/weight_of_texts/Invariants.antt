use Rattle.std.proofs.Common.{◌≡◌, ◌-◌, ◌^◌, min, length, take, sum_by}
use Rattle.prefs_edit.proofs.weight.weight_of_texts.Given as goal

abbrev pub invariant-loop-text : goal.invariant-loop-text
invariant-loop-text l = l.weight ≡ min (sum_by length (take l.text-index l.texts)) (2 ^ 64 - 1)

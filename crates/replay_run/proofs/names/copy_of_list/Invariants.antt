use Rattle.std.proofs.Common.{◌≡◌, take}
use Rattle.replay_run.proofs.names.copy_of_list.Given as goal

abbrev pub invariant-loop-name : goal.invariant-loop-name
invariant-loop-name l = l.copy.items ≡ take l.name-index l.names

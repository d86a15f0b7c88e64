use Rattle.std.proofs.Common.{◌≡◌, take}
use Rattle.prefs_model.proofs.items.equal.Given as goal

-- so far they are the same
abbrev pub invariant-loop-place : goal.invariant-loop-place
invariant-loop-place g l = take l.place l.a ≡ take l.place l.b

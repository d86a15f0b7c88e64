-- The first items are written, each but the first behind a separator.
use Rattle.std.proofs.Common.{◌≡◌, ◌++◌, string_bytes, take}
use Rattle.std.specs.List.{flat_map}
use Rattle.prefs_text.proofs.joined.push_joined.Given as goal

abbrev pub invariant-loop-item : goal.invariant-loop-item
invariant-loop-item g l = string_bytes l.out ≡ string_bytes l.initial.out ++ flat_map (λ item. l.separator ++ g.T.Printed.text item) (take l.item-index l.others)

use Rattle.std.proofs.Common.{◌≡◌, ◌++◌, take}
use Rattle.prefs_proto.specs.ValueText.{set_text}
use Rattle.prefs_proto.proofs.set.put_texts.Given as goal

abbrev pub invariant-loop-text : goal.invariant-loop-text
invariant-loop-text l = l.out.items ≡ l.initial.out.items ++ set_text (take l.text-index l.texts)

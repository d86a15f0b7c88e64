use Rattle.std.proofs.Common.{◌≡◌, take}
use Rattle.prefs_proto.specs.FieldText.{count_of}
use Rattle.prefs_proto.specs.ValueText.{set_text}
use Rattle.prefs_proto.proofs.set.texts_len.Given as goal

abbrev pub invariant-loop-text : goal.invariant-loop-text
invariant-loop-text l = l.len ≡ count_of (set_text (take l.text-index l.texts))

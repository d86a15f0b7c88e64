use Rattle.std.proofs.Common.{◌∙◌}
use Rattle.prefs_proto.specs.Encoded.{entry_text, pair_text}
use Rattle.prefs_proto.proofs.Counts.{count-field}
use Rattle.prefs_proto.proofs.pair.pair_len.Goals as goal

pub returns : goal.returns
unfolding pair_text
returns c = c.field_len.ensures ∙ count-field 0x0a (entry_text c.args.pair.now) c.entry_len.result c.entry_len.ensures

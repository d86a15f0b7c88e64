use Rattle.std.proofs.Common.{◌∙◌, ap, is_some}
use Rattle.prefs_model.specs.Texts.{itself}
use Rattle.prefs_model.proofs.Latest.{has_key-reverse}
use Rattle.prefs_model.proofs.Sets.{is_set_of}
use Rattle.prefs_model.proofs.text_set.TextSet.from_entries.Goals as goal

-- the set has the texts of the turned list, which are the same
pub returns : goal.returns
returns c =
    is_set_of c.in_ok-texts.texts c.args.entries c.as_slice.ensures.sorted (λ text. ap is_some (c.in_ok-texts.ensures text) ∙ has_key-reverse itself c.args.entries text)

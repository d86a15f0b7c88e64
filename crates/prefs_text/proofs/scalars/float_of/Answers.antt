use Rattle.std.proofs.Common.{◌∙◌, ap, sym}
use Rattle.std.proofs.lemmas.Nat.{be_bytes_4}
use Rattle.hex.specs.Hex.{encode_lower}
use Rattle.prefs_text.proofs.scalars.float_of.Goals as goal

pub returns-then-decode_lower-clause-some : goal.returns-then-decode_lower-clause-some
returns-then-decode_lower-clause-some c =
    let same = be_bytes_4 c.decode_lower.new.bytes c.from_be_bytes.result c.decode_lower.auto.bytes c.decode_lower.ensures.bytes c.from_be_bytes.ensures in
    c.if-decode_lower.ensures.yes ∙ ap encode_lower (sym same)

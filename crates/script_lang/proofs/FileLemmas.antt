-- How long a word is that spells bytes.
use Rattle.std.proofs.Common.{◌≡◌, ◌*◌, ◌/◌, ◌∙◌, ℕ, List, length, ap, arith}
use Rattle.hex.specs.Hex.{lower_digits}
use Rattle.hex.proofs.HexLemmas.{length-encode_with}
use Rattle.script_lang.specs.Rows.{SpellsBytes}

spelled_length : (word bytes : List ℕ) → SpellsBytes word bytes → length word ≡ 2 * length bytes
spelled_length word bytes spelled = ap length spelled.digits ∙ length-encode_with lower_digits bytes

pub spelled_half : (word bytes : List ℕ) → SpellsBytes word bytes → length bytes ≡ length word / 2
spelled_half word bytes spelled = let twice : length word ≡ 2 * length bytes = spelled_length word bytes spelled in omega arith

-- Bytes and their hexadecimal text.
use Rattle.std.proofs.Common.{◌≡◌, ◌∙◌, ◌<◌, ℕ, zero, suc, List, length, Ok, ap, sym, arith}
use Rattle.std.specs.Int.{Width, byte_at, bytes_high_first, byte_len, to_be_bytes}
use Rattle.hex.specs.Hex.{encode_lower, IsBytes, decode_of, decode_sized}
use Rattle.hex.proofs.HexLemmas.{decode_of-encode_lower, decode_sized-encode_lower}

-- a word that is the text of bytes is decoded to them
pub decodes_to : (word bytes : List ℕ) (n : ℕ) → length bytes ≡ n → IsBytes bytes → word ≡ encode_lower bytes → decode_sized word n ≡ Ok bytes
decodes_to word bytes n len are_bytes is = ap (λ text. decode_sized text n) is ∙ decode_sized-encode_lower bytes n len are_bytes

-- bytes have one text each
pub encode_lower_injective : (a b : List ℕ) → IsBytes a → IsBytes b → encode_lower a ≡ encode_lower b → a ≡ b
encode_lower_injective a b are also e =
    let same : Ok a ≡ Ok b = sym (decode_of-encode_lower a are) ∙ ap decode_of e ∙ decode_of-encode_lower b also in
    cc

byte_at-lt : (place n : ℕ) → byte_at place n < 256
byte_at-lt zero n = omega arith
byte_at-lt (suc place) n = omega arith

IsBytes-high_first : (count n : ℕ) → IsBytes (bytes_high_first count n)
IsBytes-high_first zero n place = omega arith
IsBytes-high_first (suc count) n zero = byte_at-lt count n
IsBytes-high_first (suc count) n (suc place) = IsBytes-high_first count n place

pub IsBytes-to_be_bytes : (w : Width) (n : ℕ) → IsBytes (to_be_bytes w n)
IsBytes-to_be_bytes w n = IsBytes-high_first (byte_len w) n

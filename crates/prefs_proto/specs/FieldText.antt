-- Fields that say how long they are (Protocol Buffers, "Encoding", section "Length-Delimited Records").
use Rattle.std.specs.Prelude.{ℕ, ◌-◌, ◌^◌, List, ◌∷◌, ◌++◌, length, min}
use Rattle.wire_codec.specs.Text.{varint_text}

-- the tag, how many bytes there are, and these
unfoldable pub field : ℕ → List ℕ → List ℕ
field tag bytes = tag ∷ varint_text (length bytes) ++ bytes

-- how many bytes there are, as far as 64 bits count
abbrev pub count_of : List ℕ → ℕ
count_of bytes = min (length bytes) (2 ^ 64 - 1)

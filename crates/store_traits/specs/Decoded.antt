use Rattle.store_traits.specs.declared.decoded.Decoded.{Decoded}
use Rattle.store_traits.specs.declared.decoded.Decoded.TheVariants.{Good, Corrupt}

-- one fact of a value that was decoded, another where there is none
abbrev pub MatchDecoded : {V : Type 0} → Decoded V → (V → Type 0) → Type 0 → Type 0
MatchDecoded (Good v) P Q = P v
MatchDecoded Corrupt P Q = Q

-- Prefixes of pieces that are written one after the other.
use Rattle.std.proofs.Common.{◌≡◌, ◌∙◌, ℕ, List, [], ◌++◌, refl, sym, ap, append_assoc, append-nil}
use Rattle.byte_io.specs.Sink.{GainsPrefix}

-- the sink gained a prefix of the piece, and this rest is left to write
pub record Wrote (piece rest old new : List ℕ) : Type 0 where
  pub prefix : List ℕ
  pub parts : piece ≡ prefix ++ rest
  pub gained : new ≡ old ++ prefix

pub prefix_of_wrote : (piece rest old new : List ℕ) → Wrote piece rest old new → GainsPrefix piece old new
prefix_of_wrote piece rest old new wrote = record { prefix = wrote.prefix; rest = rest; parts = wrote.parts; gained = wrote.gained }

-- nothing is gained of a piece
pub none_gained : (piece old : List ℕ) → GainsPrefix piece old old
none_gained piece old = record { prefix = []; rest = piece; parts = refl; gained = sym (append-nil old) }

-- a prefix of the first piece is one of both
pub prefix_of_first : (first second old new : List ℕ) → GainsPrefix first old new → GainsPrefix (first ++ second) old new
prefix_of_first first second old new gains = record {
  prefix = gains.prefix;
  rest = gains.rest ++ second;
  parts = ap (λ (p : List ℕ). p ++ second) gains.parts ∙ append_assoc gains.prefix gains.rest second;
  gained = gains.gained;
}

-- a prefix of the second piece behind the whole first one
pub prefix_of_second : (first second old middle new : List ℕ) → middle ≡ old ++ first → GainsPrefix second middle new → GainsPrefix (first ++ second) old new
prefix_of_second first second old middle new whole gains = record {
  prefix = first ++ gains.prefix;
  rest = gains.rest;
  parts = ap (λ (p : List ℕ). first ++ p) gains.parts ∙ sym (append_assoc first gains.prefix gains.rest);
  gained = gains.gained ∙ ap (λ (m : List ℕ). m ++ gains.prefix) whole ∙ append_assoc old first gains.prefix;
}

-- What a store works by: what its transforms, values and files mean.
use Rattle.std.specs.Prelude.{ℕ, List, length, min, ◌-◌, ◌^◌}
use Rattle.store_traits.specs.declared.applied.Applied.{Applied}
use Rattle.hist_journal.specs.declared.seen.EntrySeen.{EntrySeen}
use Rattle.hist_journal.specs.Folds.{weight_of}
use Rattle.shelf.specs.Meanings.{Meanings}

-- what transforms, values and files mean
pub record Rules (V T : Type 0) : Type 1 where
  pub meanings : Meanings V T
  -- the text of a value
  pub encoded : V → List ℕ
  -- which values bytes read as, and what no file stands for
  pub reads : List ℕ → V → Type 0
  pub absent : V
  -- what a transform weighs
  pub weight : T → ℕ

-- what a history weighs; it stays at the end of its range
abbrev pub weight_at : {V T : Type 0} → Rules V T → List (EntrySeen V T) → ℕ
weight_at r list = min (weight_of r.weight (λ v. length (r.encoded v)) list) (2 ^ 64 - 1)

-- the rules of what transforms make and weigh, and of a codec
abbrev pub rules_of : {V T : Type 0} → (T → V → Applied V) → (T → ℕ) → (V → List ℕ) → (List ℕ → V → Type 0) → V → Rules V T
rules_of after weight encoded reads absent = record { meanings = record { after = after }; encoded = encoded; reads = reads; absent = absent; weight = weight }

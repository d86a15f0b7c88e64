-- What holds of each element of a list, with those that stand before it.
use Rattle.std.specs.Prelude.{◌≡◌, List, ◌∷◌, ◌++◌}

abbrev pub Each : {X : Type 0} → (List X → X → Type 0) → List X → Type 0
Each {X} Holds list = (before : List X) (x : X) (behind : List X) → list ≡ before ++ x ∷ behind → Holds before x

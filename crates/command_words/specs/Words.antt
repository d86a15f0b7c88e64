-- The words that are given to a command.
use Rattle.std.specs.Prelude.{ℕ, ◌≡◌, ◌≢◌, ◌⊎◌, List, [], ◌∷◌, ◌++◌, All, codes, slice_index}

-- the word does not begin with `-`
abbrev pub IsNoOption : List ℕ → Type 0
IsNoOption word = slice_index word 0 ≢ 45

-- the words before and behind the first `--`, or all of them and none; no word before it begins with `-`
pub record IsParted (words before after : List (List ℕ)) : Type 0 where
  pub no_options : All IsNoOption before
  pub parts : (words ≡ before ++ codes "--" ∷ after) ⊎ ((words ≡ before) × (after ≡ []))

-- the words once the first `--` is taken away
pub record Given (words given : List (List ℕ)) : Type 0 where
  pub before : List (List ℕ)
  pub after : List (List ℕ)
  pub parted : IsParted words before after
  pub whole : given ≡ before ++ after

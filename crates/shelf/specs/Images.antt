-- What a machine stop may leave as main after a history.
use Rattle.std.specs.Prelude.{◌≡◌, ℕ, Bool, true, false, List, [], ◌∷◌, ◌++◌, Option, if◌then◌else◌}
use Rattle.std.specs.List.{list_any}
use Rattle.hist_journal.specs.declared.seen.EntrySeen.{EntrySeen}
use Rattle.hist_journal.specs.declared.seen.KindSeen.{KindSeen}
use Rattle.hist_journal.specs.declared.seen.KindSeen.TheVariants.{Synced}
use Rattle.hist_journal.specs.Folds.{main_of}
use Rattle.hist_journal.specs.Kinds.{is_change}
use Rattle.shelf.specs.declared.store.Store.{Store}
use Rattle.shelf.specs.Meanings.{Meanings}

module _ {V T : Type 0} where
  abbrev pub is_synced : KindSeen V T → Bool
  is_synced Synced = true
  is_synced other = false

  abbrev pub has_synced : List (EntrySeen V T) → Bool
  has_synced list = list_any (λ e. is_synced e.kind) list

  -- the prefix up to the last Synced; the empty one where there is none
  unfoldable pub kept_front : List (EntrySeen V T) → List (EntrySeen V T)
  kept_front [] = []
  kept_front (e ∷ es) = if has_synced (e ∷ es) then e ∷ kept_front es else []

  -- the entries behind it
  unfoldable pub unkept : List (EntrySeen V T) → List (EntrySeen V T)
  unkept [] = []
  unkept (e ∷ es) = if has_synced (e ∷ es) then unkept es else e ∷ es

-- `encoded` is how a value is written
module _ {V T M : Type 0} (m : Meanings V T) (encoded : V → List ℕ) (s : Store V M) where
  -- main after a history of this store
  abbrev pub main_at : List (EntrySeen V T) → Option (List ℕ)
  main_at list = main_of m.after encoded s.base s.main list

  -- main after each value change of the rest, of a history that begins with what is before
  unfoldable pub changed_mains : List (EntrySeen V T) → List (EntrySeen V T) → List (Option (List ℕ))
  changed_mains before [] = []
  changed_mains before (e ∷ rest) = if is_change e.kind then main_at (before ++ e ∷ []) ∷ changed_mains (before ++ e ∷ []) rest else changed_mains (before ++ e ∷ []) rest

  -- main up to the last Synced, and then main up to each value change behind it
  unfoldable pub images : List (EntrySeen V T) → List (Option (List ℕ))
  images list = main_at (kept_front list) ∷ changed_mains (kept_front list) (unkept list)

  -- main after a prefix of the list that has all its Synced entries
  pub record IsMainSinceSynced (list : List (EntrySeen V T)) (image : Option (List ℕ)) : Type 0 where
    pub front : List (EntrySeen V T)
    pub back : List (EntrySeen V T)
    pub is : list ≡ front ++ back
    pub synced : has_synced back ≡ false
    pub main : image ≡ main_at front

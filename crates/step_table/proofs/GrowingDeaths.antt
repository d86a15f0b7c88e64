-- Whether a node has died, once its history is longer.
use Rattle.std.proofs.Common.{◌≡◌, ◌∙◌, ◌≤◌, ◌||◌, ℕ, zero, suc, Bool, false, List, [], ◌∷◌, ◌++◌, Option, Some, None, drop, length, unwrap_or, refl, sym, ap}
use Rattle.std.specs.List.{list_any}
use Rattle.std.proofs.lemmas.Bool.{or_parts}
use Rattle.std.proofs.lemmas.List.{drop-append-le}
use Rattle.std.proofs.lemmas.List.Folds.{list_any-append}
use Rattle.store_traits.specs.declared.ids.NodeId.{NodeId}
use Rattle.hist_journal.specs.declared.seen.EntrySeen.{EntrySeen}
use Rattle.hist_journal.specs.Nodes.{death_mark, is_dead}
use Rattle.hist_journal.proofs.NodeLemmas.{is_dead-push}
use Rattle.shelf.specs.Deaths.{died_since, has_died}
use Rattle.shelf.specs.Meanwhile.{NoDeathOf}
use Rattle.shelf.proofs.Bools.{none_in_both}
use Rattle.shelf.proofs.DeathLemmas.{dies, spared_lives}
use Rattle.shelf.proofs.MeanwhileLemmas.{carried, spared_parts}

module _ {X : Type 0} (p : X → Bool) where
  none_dropped : (n : ℕ) (list : List X) → list_any p list ≡ false → list_any p (drop n list) ≡ false
  none_dropped zero list none = none
  none_dropped (suc n) [] none = refl
  none_dropped (suc n) (x ∷ xs) none = none_dropped n xs (or_parts (p x) (list_any p xs) none).1

  -- behind so many elements none passes a test in a longer list, if none of the others does
  none_behind : (n : ℕ) (list more : List X) → list_any p (drop n list) ≡ false → list_any p more ≡ false → list_any p (drop n (list ++ more)) ≡ false
  none_behind zero list more first others = none_in_both p list more first others
  none_behind (suc n) [] more first others = none_dropped (suc n) more others
  none_behind (suc n) (x ∷ xs) more first others = none_behind n xs more first others

module _ {V T : Type 0} (node : NodeId) where
  -- a node that has not died since has no Death among the entries that came since
  pub none_since : (n : ℕ) (list more : List (EntrySeen V T)) → died_since node (Some n) (list ++ more) ≡ false → n ≤ length list → NoDeathOf node more
  none_since n list more alive within =
      let split : (list_any (dies node) (drop n list) || list_any (dies node) more) ≡ false = sym (list_any-append (dies node) (drop n list) more) ∙ (ap (list_any (dies node)) (sym (drop-append-le n list more within)) ∙ alive) in
      (or_parts (list_any (dies node) (drop n list)) (list_any (dies node) more) split).1

  -- a node that lives does so until it dies
  stays_alive : (list more : List (EntrySeen V T)) → NoDeathOf node more → is_dead node list ≡ false → is_dead node (list ++ more) ≡ false
  stays_alive =
      carried (λ (xs : List (EntrySeen V T)). is_dead node xs ≡ false) (NoDeathOf node)
      (λ xs e behind fit. let parts = spared_parts node e behind fit in (λ was. is_dead-push node xs e ∙ (ap (unwrap_or (death_mark node e.kind)) was ∙ spared_lives node e.kind parts.0), parts.1))

  still_not_died : (since : Option ℕ) (list more : List (EntrySeen V T)) → NoDeathOf node more → died_since node since list ≡ false → died_since node since (list ++ more) ≡ false
  still_not_died None list more spared alive = refl
  still_not_died (Some n) list more spared alive = none_behind (dies node) n list more alive spared

  -- and one that has not died has not until then
  pub still_lives : (since : Option ℕ) (list more : List (EntrySeen V T)) → NoDeathOf node more → has_died node since list ≡ false → has_died node since (list ++ more) ≡ false
  still_lives since list more spared alive =
      let parts = or_parts (is_dead node list) (died_since node since list) alive in
      rw (stays_alive list more spared parts.0, still_not_died since list more spared parts.1) refl

-- Dead and ready nodes after one more entry.
use Rattle.std.proofs.Common.{◌≡◌, ◌∙◌, Bool, false, List, [], ◌∷◌, ◌++◌, Option, Some, None, unwrap_or, refl, sym, ap}
use Rattle.std.specs.Option.{option_or}
use Rattle.store_traits.specs.declared.ids.NodeId.{NodeId}
use Rattle.hist_journal.specs.declared.seen.EntrySeen.{EntrySeen}
use Rattle.hist_journal.specs.declared.seen.KindSeen.{KindSeen}
use Rattle.hist_journal.specs.Nodes.{last_mark, death_mark, is_dead, ready_mark, is_ready}

option_or-none : {X : Type 0} (a : Option X) → option_or a None ≡ a
option_or-none None = refl
option_or-none (Some x) = refl

option_or_assoc : {X : Type 0} (a b c : Option X) → option_or (option_or a b) c ≡ option_or a (option_or b c)
option_or_assoc None b c = refl
option_or_assoc (Some x) b c = refl

-- the last of two marks, or a default
last_or : {X : Type 0} (a b : Option X) (x : X) → unwrap_or (option_or a b) x ≡ unwrap_or a (unwrap_or b x)
last_or None b x = refl
last_or (Some y) b x = refl

module _ {V T : Type 0} where
  pub last_mark-append : (mark : KindSeen V T → Option Bool) (xs ys : List (EntrySeen V T)) → last_mark mark (xs ++ ys) ≡ option_or (last_mark mark ys) (last_mark mark xs)
  unfolding last_mark
  last_mark-append mark [] ys = sym (option_or-none (last_mark mark ys))
  last_mark-append mark (x ∷ xs) ys = ap (λ m. option_or m (mark x.kind)) (last_mark-append mark xs ys) ∙ option_or_assoc (last_mark mark ys) (last_mark mark xs) (mark x.kind)

  marked-push : (mark : KindSeen V T → Option Bool) (list : List (EntrySeen V T)) (e : EntrySeen V T)
      → unwrap_or (last_mark mark (list ++ e ∷ [])) false ≡ unwrap_or (mark e.kind) (unwrap_or (last_mark mark list) false)
  unfolding last_mark
  marked-push mark list e = ap (λ m. unwrap_or m false) (last_mark-append mark list (e ∷ [])) ∙ last_or (mark e.kind) (last_mark mark list) false

  pub is_dead-push : (node : NodeId) (list : List (EntrySeen V T)) (e : EntrySeen V T) → is_dead node (list ++ e ∷ []) ≡ unwrap_or (death_mark node e.kind) (is_dead node list)
  unfolding is_dead
  is_dead-push node list e = marked-push (death_mark node) list e

  pub is_ready-push : (node : NodeId) (list : List (EntrySeen V T)) (e : EntrySeen V T) → is_ready node (list ++ e ∷ []) ≡ unwrap_or (ready_mark node e.kind) (is_ready node list)
  unfolding is_ready
  is_ready-push node list e = marked-push (ready_mark node) list e

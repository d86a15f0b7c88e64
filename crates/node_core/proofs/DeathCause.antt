-- A call that a Death ended: what the history shows of it.
use Rattle.std.proofs.Common.{◌≡◌, ◌+◌, ℕ, Bool, true, false, List, [], ◌∷◌, ◌++◌, Option, Some, None, length, refl, ap, arith, if◌then◌else◌}
use Rattle.std.specs.Option.{option_map, option_or}
use Rattle.std.proofs.lemmas.Bool.{eq-eqb}
use Rattle.store_traits.specs.declared.ids.CallId.{CallId}
use Rattle.store_traits.specs.declared.ids.NodeId.{NodeId}
use Rattle.hist_journal.specs.declared.seen.EntrySeen.{EntrySeen}
use Rattle.hist_journal.specs.declared.seen.KindSeen.TheVariants.{Death}
use Rattle.hist_journal.specs.Kinds.{is_death_of}
use Rattle.shelf.specs.Causes.{IsDead}
use Rattle.shelf.specs.Deaths.{last_death}
use Rattle.shelf.specs.Meanwhile.{NoDeathOf}
use Rattle.shelf.specs.Places.{StandsAt}
use Rattle.node_core.specs.Silence.{IsSilent}

module _ {V T : Type 0} where
  -- a Death of this node
  abbrev pub dies : NodeId → EntrySeen V T → Bool
  dies node e = is_death_of node e.kind

  -- the last Death stands at its place
  pub record IsLast (node : NodeId) (place : ℕ) (list : List (EntrySeen V T)) : Type 0 where
    pub death : StandsAt (dies node) place list
    pub last : NoDeathOf node death.behind

  no_later_death : (node : NodeId) (list : List (EntrySeen V T)) → last_death node list ≡ None → NoDeathOf node list
  unfolding last_death
  no_later_death node [] none = refl
  no_later_death node (e ∷ es) none = by_rest (no_later_death node es) (last_death node es) refl (is_death_of node e.kind) refl none
    where
      by_rest : (last_death node es ≡ None → NoDeathOf node es) → (later : Option ℕ) → last_death node es ≡ later → (b : Bool) → is_death_of node e.kind ≡ b → option_or (option_map (λ at. at + 1) later) (if b then Some 1 else None) ≡ None → NoDeathOf node (e ∷ es)
      by_rest rest (Some at) later b dead is = absurd (cc)
      by_rest rest None later true dead is = absurd (cc)
      by_rest rest None later false lives is = rw lives (rest later)

  pub last_death_stands : (node : NodeId) (list : List (EntrySeen V T)) (place : ℕ) → last_death node list ≡ Some place → IsLast node place list
  unfolding last_death
  last_death_stands node [] place is = absurd (cc)
  last_death_stands node (e ∷ es) place is = by_rest (last_death_stands node es) (last_death node es) refl (is_death_of node e.kind) refl is
    where
      by_rest : ((at : ℕ) → last_death node es ≡ Some at → IsLast node at es) → (later : Option ℕ) → last_death node es ≡ later → (b : Bool) → is_death_of node e.kind ≡ b → option_or (option_map (λ at. at + 1) later) (if b then Some 1 else None) ≡ Some place → IsLast node place (e ∷ es)
      by_rest rest (Some at) later b dead found =
          let it : IsLast node at es = rest at later in
          let counted : at + 1 ≡ place = cc in
          record {
            death =
                record {
                  before = e ∷ it.death.before;
                  entry = it.death.entry;
                  behind = it.death.behind;
                  is = ap (λ xs. e ∷ xs) it.death.is;
                  counted = omega (arith, counted, it.death.counted);
                  passed = it.death.passed;
                };
            last = it.last;
          }
      by_rest rest None later true dead found =
          let counted : 1 ≡ place = cc in
          record { death = record { before = []; entry = e; behind = es; is = refl; counted = omega (arith, counted); passed = dead }; last = no_later_death node es later }
      by_rest rest None later false lives found = absurd (cc)

  -- a silent call is dead by the last Death of its node
  pub dead_before : (call : CallId) (list : List (EntrySeen V T)) (place : ℕ) → IsSilent call list → last_death call.node list ≡ Some place → IsDead call place list
  dead_before call list place silent is = let it = last_death_stands call.node list place is in record { death = it.death; over = silent place it.death it.last }

  -- a Death at the end is the last one
  last_death_now : (node : NodeId) (list : List (EntrySeen V T)) (e : EntrySeen V T) → is_death_of node e.kind ≡ true → last_death node (list ++ e ∷ []) ≡ Some (length list + 1)
  unfolding last_death
  last_death_now node [] e dead = rw dead refl
  last_death_now node (x ∷ xs) e dead = rw (last_death_now node xs e dead) (ap Some (omega arith))

  -- so it is where its node dies now
  pub dead_now : (call : CallId) (list : List (EntrySeen V T)) → last_death call.node (list ++ record { who = call; kind = Death call.node } ∷ []) ≡ Some (length list + 1)
  dead_now call list = last_death_now call.node list (record { who = call; kind = Death call.node }) (eq-eqb call.node.0 call.node.0 refl)

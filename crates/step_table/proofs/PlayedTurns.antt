-- A turn on the small store is shown to follow the table by computing it.
use Rattle.std.proofs.Common.{◌≡◌, ◌≤◌, ℕ, ◌-◌, ◌^◌, ◌==◌, nat_lt, nat_le, Bool, true, false, ◌&&◌, List, [], ◌∷◌, Option, Some, None, refl, arith}
use Rattle.std.proofs.lemmas.Bool.Decides.{nat_tests}
use Rattle.std.proofs.lemmas.Bool.{eqb-true, eqb-false, and_parts}
use Rattle.store_traits.specs.declared.applied.Applied.{Applied}
use Rattle.store_traits.specs.declared.applied.Applied.TheVariants.{Changed, Refused}
use Rattle.hist_journal.specs.declared.seen.BaseSeen.TheVariants.{Held}
use Rattle.shelf.specs.declared.examples.ExampleEdit.{ExampleEdit}
use Rattle.shelf.specs.declared.store.Store.{Store}
use Rattle.shelf.specs.Base.{ReadsAs}
use Rattle.shelf.specs.Deaths.{last_death}
use Rattle.shelf.specs.ExampleStore.{after, reads}
use Rattle.shelf.proofs.Bools.{never}
use Rattle.step_table.specs.Calls.{At, Ask, Call, Initialise, Purpose, Read, Reading, Serve, ServeUnlocked, Update, is_gone}
use Rattle.step_table.specs.Effects.{Ceases, Effect, does, gave_by}
use Rattle.step_table.specs.ExampleTurns.{rules}
use Rattle.step_table.specs.Turn.{AllowedBy, Turn, dies_now, dying, has_died_by}
use Rattle.step_table.specs.World.{World, Turned}
use Rattle.step_table.proofs.Chosen.{IsSame, IsSameFor, Luck, Meets, chosen}
use Rattle.step_table.proofs.ChosenRows.{chosen_row, is_served, less_than}
use Rattle.step_table.proofs.Choosing.{Reads}
use Rattle.step_table.proofs.EffectsMade.{begun, comes_by, is_as_due, is_due, turn_to, turned_by}

-- the number that main reads as
abbrev number_in : Option (List ℕ) → ℕ
number_in None = 0
number_in (Some []) = 0
number_in (Some (n ∷ more)) = n

abbrev is_number : Option (List ℕ) → Bool
is_number None = true
is_number (Some []) = false
is_number (Some (n ∷ [])) = true
is_number (Some (n ∷ m ∷ more)) = false

reads_so : (limit : ℕ) (main : Option (List ℕ)) → is_number main ≡ true → 1 ≤ limit → ReadsAs reads 0 limit main (Held (number_in main))
reads_so limit None is fits = refl
reads_so limit (Some []) is fits = never is
reads_so limit (Some (n ∷ [])) is fits = (fits, refl)
reads_so limit (Some (n ∷ m ∷ more)) is fits = never is

-- whether the transform makes the same number
abbrev is_same : ℕ → Applied ℕ → Bool
is_same old (Changed new) = new == old
is_same old (Refused code) = false

abbrev same_at : ℕ → At ℕ ExampleEdit → Bool
same_at old (Reading Serve (Update edit)) = is_same old (after edit old)
same_at old other = false

same_by : (old new : ℕ) (same : Bool) → (new == old) ≡ same → IsSame (Changed new) old same
same_by old new true is = eqb-true new old is
same_by old new false is = eqb-false new old is

same_so : (old : ℕ) (made : Applied ℕ) → IsSame made old (is_same old made)
same_so old (Changed new) = same_by old new (new == old) refl
same_so old (Refused code) = refl

same_for : (old : ℕ) (purpose : Purpose) (ask : Ask ExampleEdit) → IsSameFor rules (Held old) purpose ask (same_at old (Reading purpose ask))
same_for old Initialise ask = refl
same_for old Serve (Update edit) = same_so old (after edit old)
same_for old Serve Read = refl
same_for old ServeUnlocked ask = refl

-- the place of a node's last death
abbrev place_in : Option ℕ → ℕ
place_in None = 0
place_in (Some place) = place

abbrev is_place : Option ℕ → Bool
is_place None = false
is_place (Some place) = true

place_so : (last : Option ℕ) → is_place last ≡ true → last ≡ Some (place_in last)
place_so None is = never is
place_so (Some place) is = refl

module _ (s : Store ℕ (Unit {0})) (none : s.migrations ≡ []) where
  module _ (w : World ℕ ExampleEdit) (c : Call ℕ ExampleEdit) where
    -- what the turn meets, and the effect of its row; the folder fails where that is due
    abbrev luck_at : At ℕ ExampleEdit → Bool → Luck ℕ
    luck_at at fails = record { fails = fails; base = Held (number_in w.folder.main); same = same_at (number_in w.folder.main) at }

    abbrev row_effect : Bool → Effect ℕ ExampleEdit
    row_effect fails = chosen rules s.limits w c.id (luck_at c.at fails) c.at

    -- what died before, or is to die, goes first
    abbrev effect_by : (died dies : Bool) → Effect ℕ ExampleEdit
    effect_by true dies = does (Ceases (place_in (last_death c.id.node w.history)))
    effect_by false true = dying (turn_to w c w)
    effect_by false false = row_effect (is_due w c (row_effect false).folder)

    -- whether the table allows that
    abbrev is_met : Bool
    is_met = (is_number w.folder.main && nat_le 1 s.limits.file) && (nat_lt s.limits.file (2 ^ 64 - 1) && is_served c.at)

    abbrev is_allowed : (gone died dies : Bool) → Bool
    is_allowed true died dies = false
    is_allowed false true dies = is_place (last_death c.id.node w.history)
    is_allowed false false true = true
    is_allowed false false false = is_met

    -- what passes these tests is allowed
    meets_so : (fails : Bool) (at : At ℕ ExampleEdit) → is_number w.folder.main ≡ true → 1 ≤ s.limits.file
        → Meets rules s.limits w c.id (luck_at at fails) (Reads rules s.limits w c.id) at
    meets_so fails (Reading purpose ask) is fits = λ well. (λ told. reads_so s.limits.file w.folder.main is fits, same_for (number_in w.folder.main) purpose ask)
    meets_so fails other is fits = tt

    allowed_so : (gone died dies : Bool) (t : Turned ℕ ExampleEdit) → t.world ≡ w → t.call ≡ c → is_allowed gone died dies ≡ true
        → AllowedBy rules s gone died dies t (effect_by died dies)
    allowed_so true died dies t world call is = never is
    allowed_so false true dies t world call is =
        rw (world, call) (record { place = place_in (last_death c.id.node w.history); last = place_so (last_death c.id.node w.history) is; is = refl })
    allowed_so false false true t world call is = rw (world, call) refl
    allowed_so false false false t world call is =
        let parts = and_parts (is_number w.folder.main && nat_le 1 s.limits.file) (nat_lt s.limits.file (2 ^ 64 - 1) && is_served c.at) is in
        let first = and_parts (is_number w.folder.main) (nat_le 1 s.limits.file) parts.0 in
        let second = and_parts (nat_lt s.limits.file (2 ^ 64 - 1)) (is_served c.at) parts.1 in
        let limit : nat_le 1 s.limits.file ≡ true = first.1 in
        let fails : Bool = is_due w c (row_effect false).folder in
        rw (world, call) (chosen_row rules s w c.id (luck_at c.at fails) (less_than second.0) none (λ same. cc) c.at second.1 (meets_so fails c.at first.0 (grind (arith, nat_tests, limit))))

  -- the turn of this call: its effect, where that leads, and whether it follows the table
  module _ (w : World ℕ ExampleEdit) (call : Call ℕ ExampleEdit) where
    abbrev has_died : Bool
    has_died = has_died_by (turn_to w (begun w call) w)

    abbrev dies : Bool
    dies = dies_now (turn_to w (begun w call) w)

    abbrev pub effect : Effect ℕ ExampleEdit
    effect = effect_by w (begun w call) has_died dies

    abbrev pub turned : Turned ℕ ExampleEdit
    turned = record (turned_by w (begun w call) effect) { call = call }

    abbrev pub may_turn : Bool
    may_turn = is_allowed w (begun w call) (is_gone call.at) has_died dies && is_as_due w (begun w call) effect.folder

    pub turn_so : may_turn ≡ true → Turn rules s turned (gave_by effect.next)
    turn_so is =
        let parts = and_parts (is_allowed w (begun w call) (is_gone call.at) has_died dies) (is_as_due w (begun w call) effect.folder) is in
        record {
          effect = effect;
          allowed = allowed_so w (begun w call) (is_gone call.at) has_died dies (turned_by w (begun w call) effect) refl refl parts.0;
          comes = comes_by w (begun w call) effect.folder effect parts.1;
        }

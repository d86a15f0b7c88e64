-- Two entries of a lawful history.
use Rattle.std.proofs.Common.{◌≡◌, ◌∙◌, ◌⊎◌, inl, inr, ⊎_elim, ℕ, ◌<◌, ◌≤◌, ◌-◌, ◌^◌, ◌==◌, nat_lt, nat_le, Bool, true, false, ◌&&◌, List, [], ◌∷◌, ◌++◌, refl, sym, ap, arith, append_assoc}
use Rattle.std.specs.List.{list_any}
use Rattle.std.proofs.lemmas.Bool.{eq-eqb, or_parts, or_cases, or_right}
use Rattle.std.proofs.lemmas.Bool.Decides.{nat_tests}
use Rattle.store_traits.specs.declared.ids.CallId.{CallId}
use Rattle.hist_journal.specs.declared.device.Device.{Device}
use Rattle.hist_journal.specs.declared.device.Device.TheVariants.{Folder, Legacy}
use Rattle.hist_journal.specs.declared.seen.EntrySeen.{EntrySeen}
use Rattle.hist_journal.specs.declared.seen.KindSeen.{KindSeen}
use Rattle.hist_journal.specs.declared.seen.KindSeen.TheVariants.{Raise, Fault}
use Rattle.hist_journal.specs.Kinds.{is_call, is_raise, is_change}
use Rattle.shelf.specs.declared.store.Store.{Store}
use Rattle.shelf.specs.CallOrder.{is_ended_update}
use Rattle.shelf.specs.Entries.{some_entry, is_any, is_fault_or_death, is_own, is_update, is_update_end}
use Rattle.shelf.specs.FaultCounts.{IsNewCount, RaisesCount, is_device, has_reached}
use Rattle.shelf.specs.Legal.{Fits, Legal}
use Rattle.shelf.specs.Meanings.{Meanings}
use Rattle.shelf.specs.OpenRaise.{EndsInRaise, has_open_raise, is_open_raise}
use Rattle.shelf.proofs.Bools.{never}
use Rattle.shelf.proofs.RaiseLemmas.{raise_of_open}

-- what no element passes, this one does not
none_here : {X : Type 0} (p : X → Bool) (front rest : List X) (x : X) → list_any p (front ++ x ∷ rest) ≡ false → p x ≡ false
none_here p [] rest x none = (or_parts (p x) (list_any p rest) none).0
none_here p (y ∷ front) rest x none = none_here p front rest x (or_parts (p y) (list_any p (front ++ x ∷ rest)) none).1

some_here : {X : Type 0} (p : X → Bool) (front rest : List X) (x : X) → p x ≡ true → list_any p (front ++ x ∷ rest) ≡ true
some_here p [] rest x passes = rw passes refl
some_here p (y ∷ front) rest x passes = or_right (p y) (list_any p (front ++ x ∷ rest)) (some_here p front rest x passes)

second_fails : (x y : Bool) → (x && y) ≡ false → x ≡ true → y ≡ false
second_fails true y is passes = is
second_fails false y is passes = never passes

first_fails : (x y : Bool) → (x && y) ≡ false → y ≡ true → x ≡ false
first_fails true y is passes = never (sym is ∙ passes)
first_fails false y is passes = refl

not_below : (a b : ℕ) → nat_lt a b ≡ false → b ≤ a
not_below a b is = grind (arith, nat_tests, is)

not_up_to : (a b : ℕ) → nat_le a b ≡ false → b < a
not_up_to a b is = grind (arith, nat_tests, is)

itself : (device : Device) → is_device device device ≡ true
itself Folder = refl
itself Legacy = refl

module _ {V T : Type 0} where
  none_stands : (stands : EntrySeen V T → List (EntrySeen V T) → Bool) (front rest : List (EntrySeen V T)) (x : EntrySeen V T)
      → some_entry stands (front ++ x ∷ rest) ≡ false → stands x rest ≡ false
  none_stands stands [] rest x none = (or_parts (stands x rest) (some_entry stands rest) none).0
  none_stands stands (y ∷ front) rest x none = none_stands stands front rest x (or_parts (stands y (front ++ x ∷ rest)) (some_entry stands (front ++ x ∷ rest)) none).1

  raise_kind : (kind : KindSeen V T) → is_raise kind ≡ true → kind ≡ Raise
  raise_kind Raise is = refl
  raise_kind other is = never is

  abbrev entered : CallId → KindSeen V T → EntrySeen V T
  entered who kind = record { who = who; kind = kind }

  a_raise : (call : CallId) (e : EntrySeen V T) → call ≡ e.who → is_raise e.kind ≡ true → e ≡ record { who = call; kind = Raise }
  a_raise call e who raises =
      let kind : e.kind ≡ Raise = raise_kind e.kind raises in
      let same : entered e.who e.kind ≡ entered call Raise = rw (kind, ← who) refl in
      same

  pub ends_in_raise : (call : CallId) (list : List (EntrySeen V T)) → has_open_raise call list ≡ true → EndsInRaise call list
  unfolding has_open_raise
  ends_in_raise call [] is = never is
  ends_in_raise call (e ∷ es) is =
      elim (or_cases (is_open_raise call e es) (some_entry (is_open_raise call) es) is) [
        | inl here ↦ (
            let parts = raise_of_open call e es here in
            let raise : e ≡ record { who = call; kind = Raise } = a_raise call e parts.0 parts.1 in
            record { before = []; behind = es; is = ap (λ x. x ∷ es) raise; unspent = parts.2 }
            )
        | inr later ↦ (
            let found : EndsInRaise call es = ends_in_raise call es later in
            record { before = e ∷ found.before; behind = found.behind; is = ap (λ xs. e ∷ xs) found.is; unspent = found.unspent }
            )
      ]

module _ {V T M : Type 0} (m : Meanings V T) (s : Store V M) where
  -- the later of two entries fits what stands before it
  later_fits : (front middle back : List (EntrySeen V T)) (f e : EntrySeen V T) → Legal m s (front ++ f ∷ (middle ++ e ∷ back)) → Fits m s (front ++ f ∷ middle) e
  later_fits front middle back f e legal = legal.each (front ++ f ∷ middle) e back (sym (append_assoc front (f ∷ middle) (e ∷ back)))

  module _ (front middle back : List (EntrySeen V T)) (f e : EntrySeen V T) (legal : Legal m s (front ++ f ∷ (middle ++ e ∷ back))) where
    pub numbers_never_fall : f.who.client.0 ≡ e.who.client.0 → f.who.number ≤ e.who.number
    numbers_never_fall same =
        let not_later : ((e.who.client.0 == f.who.client.0) && nat_lt e.who.number f.who.number) ≡ false =
        none_here _ front middle f (later_fits front middle back f e legal).order.numbers
        in
        not_below e.who.number f.who.number (second_fails (e.who.client.0 == f.who.client.0) (nat_lt e.who.number f.who.number) not_later (eq-eqb e.who.client.0 f.who.client.0 (sym same)))

    pub calls_end : is_fault_or_death f.kind ≡ true → is_call e.who f.who ≡ false
    calls_end ended =
        first_fails (is_call e.who f.who) (is_fault_or_death f.kind) (none_here (is_own is_fault_or_death e.who) front middle f (later_fits front middle back f e legal).order.goes_on) ended

    pub updates_end_once : is_own is_update e.who f ≡ true → (is_update_end e.kind ≡ true) × (list_any (is_own is_any e.who) middle ≡ false)
    updates_end_once own =
        let ends = (later_fits front middle back f e legal).order.update (some_here (is_own is_update e.who) front middle f own) in
        (ends.ends, second_fails (is_own is_update e.who f) (list_any (is_own is_any e.who) middle) (none_stands (is_ended_update e.who) front middle f ends.first) own)

    pub counts_rise : (device : Device) (earlier later : ℕ) → f.kind ≡ Fault device earlier → e.kind ≡ Fault device later → (earlier < later) ⊎ (later ≡ 2 ^ 64 - 1)
    counts_rise device earlier later first second =
        let new_count : RaisesCount s (front ++ f ∷ middle) (Fault device later) = rw second at (later_fits front middle back f e legal).counts in
        ⊎_elim
        (λ (new : IsNewCount s (front ++ f ∷ middle) device later).
        let unreached : has_reached device later f.kind ≡ false = none_here (λ (x : EntrySeen V T). has_reached device later x.kind) front middle f new.earlier in
        let at_fault : (is_device device device && nat_le later earlier) ≡ false = rw first at unreached in
        inl (not_up_to later earlier (second_fails (is_device device device) (nat_le later earlier) at_fault (itself device))))
        (λ at_end. inr at_end)
        new_count

  pub changes_are_raised : (before back : List (EntrySeen V T)) (e : EntrySeen V T) → Legal m s (before ++ e ∷ back) → is_change e.kind ≡ true → EndsInRaise e.who before
  changes_are_raised before back e legal change = ends_in_raise e.who before ((legal.each before e back refl).raised change)

-- Who waits, and what want of memory leaves.
use Rattle.std.proofs.Common.{◌≡◌, ◌⊎◌, inl, inr, Bool, true, false, IsTrue, refl, sym, ap, ◌∙◌}
use Rattle.store_traits.specs.declared.ids.CallId.{CallId}
use Rattle.store_traits.specs.declared.update_error.UpdateError.TheVariants.{NoMemory}
use Rattle.file_lock.specs.Owner.{IsAnother}
use Rattle.hist_journal.specs.Nodes.{is_ready}
use Rattle.shelf.specs.declared.store.Store.{Store}
use Rattle.shelf.specs.Rules.{Rules}
use Rattle.shelf.proofs.Bools.{never}
use Rattle.step_table.specs.Calls.{At, First, Reply, Failed, is_first, is_gone, is_locking}
use Rattle.step_table.specs.Effects.{Effect, Next, Waits, Ends, Comes, asking, does, errs, gave_by}
use Rattle.step_table.specs.Requests.{ReadMain}
use Rattle.step_table.specs.Rows.{Row, waits, full, lacks_room, takes_first, takes, goes_without, read_lacks_memory, lacks_memory, migrating_lacks_memory, lacks_room_to_restart}
use Rattle.step_table.specs.Turn.{AllowedBy, Turn, has_died_by, dies_now}
use Rattle.step_table.specs.World.{World, Turned, begin, is_ready_now}
use Rattle.step_table.specs.declared.progress.Progress.{Progress}
use Rattle.step_table.specs.declared.progress.Progress.TheVariants.{Blocked, Ended}

module _ {V T : Type 0} where
  abbrev is_waiting : Next V T → Bool
  is_waiting Waits = true
  is_waiting other = false

  blocked_waits : (next : Next V T) → Blocked ≡ gave_by next → is_waiting next ≡ true
  blocked_waits Waits is = refl
  blocked_waits other is = cc

  -- memory lacked
  abbrev pub is_short : Next V T → Bool
  is_short (Ends (Failed NoMemory)) = true
  is_short other = false

  pub ended_short : (next : Next V T) → Ended (Failed NoMemory) ≡ gave_by next → is_short next ≡ true
  ended_short (Ends reply) is =
      let same : Failed NoMemory ≡ reply = (let both : ◌≡◌ {A = Progress (Reply V)} (Ended (Failed NoMemory)) (Ended reply) = is in cc) in rw (sym same) refl
  ended_short other is = cc

  -- an effect of which the world sees nothing but the lock, with a read of main or without
  abbrev IsQuiet : Effect V T → Type 0
  IsQuiet e = (e ≡ errs NoMemory) ⊎ (e ≡ asking ReadMain (errs NoMemory))

module _ {V T M : Type 0} (r : Rules V T) (s : Store V M) where
  module _ (w : World V T) (call : CallId) where
    -- whether the call has to own the lock in this turn
    abbrev locks : At V T → Bool
    locks at = is_locking (is_ready call.node w.history) at

    row_waits : {at : At V T} {e : Effect V T} → Row r s w call at e → is_waiting e.next ≡ true → (locks at ≡ true) × IsAnother w.owner call × (e ≡ does Waits)
    row_waits (waits another must) is = (must, another, refl)
    row_waits other is = never is

    row_has_to_wait : {at : At V T} {e : Effect V T} → Row r s w call at e → locks at ≡ true → IsAnother w.owner call → gave_by e.next ≡ Blocked
    row_has_to_wait (waits another must) locks owned = refl
    row_has_to_wait (full free must bound) locks owned = absurd (free owned)
    row_has_to_wait (lacks_room may) locks owned = absurd ((may locks).free owned)
    row_has_to_wait (takes_first may unready) locks owned = absurd (may.free owned)
    row_has_to_wait (takes may ready) locks owned = absurd (may.free owned)
    row_has_to_wait (goes_without another need_not) locks owned = never (sym need_not ∙ locks)
    row_has_to_wait other locks owned = never locks

    row_short : {at : At V T} {e : Effect V T} → Row r s w call at e → is_short e.next ≡ true → IsQuiet e
    row_short (lacks_room may) is = inl refl
    row_short read_lacks_memory is = inl refl
    row_short lacks_memory is = inr refl
    row_short migrating_lacks_memory is = inl refl
    row_short (lacks_room_to_restart dead) is = inl refl
    row_short other is = never is

  waits_by : (gone died dies : Bool) (t : Turned V T) (e : Effect V T) → AllowedBy r s gone died dies t e → is_waiting e.next ≡ true
      → (died ≡ false) × (dies ≡ false) × (is_locking (is_ready_now t) t.call.at ≡ true) × IsAnother t.world.owner t.call.id × (e ≡ does Waits)
  waits_by true died dies t e it is = absurd it
  waits_by false true dies t e it is = never (rw it.is at is)
  waits_by false false true t e it is = never (rw it at is)
  waits_by false false false t e it is = let facts = row_waits t.world t.call.id it is in (refl, refl, facts.0, facts.1, facts.2)

  waits_so : (t : Turned V T) (e : Effect V T) → e ≡ does Waits → Comes t e Blocked → t.world_after ≡ t.world
  waits_so t e is comes = rw is at comes.world

  -- what waits is not ended by a death and needs the lock, another owns the lock, and the world is as it was
  pub turn_waits : (t : Turned V T) → Turn r s t Blocked
      → (has_died_by (begin t) ≡ false) × (dies_now (begin t) ≡ false) × (is_locking (is_ready_now t) t.call.at ≡ true) × IsAnother t.world.owner t.call.id × (t.world_after ≡ t.world)
  turn_waits t turn =
      let facts = waits_by (is_gone t.call.at) (has_died_by (begin t)) (dies_now (begin t)) (begin t) turn.effect turn.allowed (blocked_waits turn.effect.next turn.comes.given) in
      (facts.0, facts.1, facts.2, facts.3, waits_so (begin t) turn.effect facts.4 turn.comes)

  pub first_goes_on : (at : At V T) → is_first at ≡ true → is_gone at ≡ false
  first_goes_on (First ask) first = refl
  first_goes_on other first = never first

  pub locking_goes_on : (ready : Bool) (at : At V T) → is_locking ready at ≡ true → is_gone at ≡ false
  locking_goes_on ready (First ask) locks = refl
  locking_goes_on ready other locks = never locks

  -- where no death ends it, a turn that needs the lock waits if another owns it
  pub turn_has_to_wait : (t : Turned V T) (gave : Progress (Reply V)) → Turn r s t gave → has_died_by (begin t) ≡ false → dies_now (begin t) ≡ false
      → is_locking (is_ready_now t) t.call.at ≡ true → IsAnother t.world.owner t.call.id → gave ≡ Blocked
  turn_has_to_wait t gave turn lives goes_on locks another =
      let begins : is_gone t.call.at ≡ false = locking_goes_on (is_ready_now t) t.call.at locks in
      let row : Row r s t.world t.call.id t.call.at turn.effect = rw (begins, lives, goes_on) at turn.allowed in
      turn.comes.given ∙ row_has_to_wait t.world t.call.id row locks another

  short_by : (gone died dies : Bool) (t : Turned V T) (e : Effect V T) → AllowedBy r s gone died dies t e → is_short e.next ≡ true → IsQuiet e
  short_by true died dies t e it is = absurd it
  short_by false true dies t e it is = never (rw it.is at is)
  short_by false false true t e it is = never (rw it at is)
  short_by false false false t e it is = row_short t.world t.call.id it is

  quiet_so : (t : Turned V T) (e : Effect V T) (gave : Progress (Reply V)) → IsQuiet e → Comes t e gave
      → (IsTrue t.world.told → t.world_after.folder ≡ t.world.folder) × (t.world_after.history ≡ t.world.history)
  quiet_so t e gave quiet comes =
      elim quiet [
        | inl is ↦ let world = (rw is at comes.world) in (λ told. ap (λ (w : World V T). w.folder) world, ap (λ (w : World V T). w.history) world)
        | inr is ↦ let world = (rw is at comes.world) in let used = (rw is at comes.used) in (used.folder, ap (λ (w : World V T). w.history) world)
      ]

  pub no_memory_untouched : (t : Turned V T) → Turn r s t (Ended (Failed NoMemory))
      → (IsTrue t.world.told → t.world_after.folder ≡ t.world.folder) × (t.world_after.history ≡ t.world.history)
  no_memory_untouched t turn =
      quiet_so (begin t) turn.effect (Ended (Failed NoMemory))
      (short_by (is_gone t.call.at) (has_died_by (begin t)) (dies_now (begin t)) (begin t) turn.effect turn.allowed (ended_short turn.effect.next turn.comes.given)) turn.comes

-- A turn takes the lock from nobody: it takes it only where it is free.
use Rattle.std.proofs.Common.{◌≡◌, ◌==◌, Bool, true, false, Some, refl, ap, sym, ◌∙◌, arith, if◌then◌else◌}
use Rattle.std.proofs.lemmas.Bool.Decides.{nat_tests}
use Rattle.store_traits.specs.declared.ids.CallId.{CallId}
use Rattle.file_lock.specs.Owner.{IsAnother, freed_node}
use Rattle.hist_journal.specs.Kinds.{is_call}
use Rattle.shelf.specs.declared.store.Store.{Store}
use Rattle.shelf.specs.Rules.{Rules}
use Rattle.shelf.proofs.Bools.{never}
use Rattle.step_table.specs.Calls.{At, Reply, is_gone}
use Rattle.step_table.specs.Effects.{Effect, Next, Waits, Goes, Ends, Ceases, Stays, Takes, Frees, owner_by}
use Rattle.step_table.specs.Laws.{LeavesLock}
use Rattle.step_table.specs.Rows.{Row, IsFree, takes_first, takes}
use Rattle.step_table.specs.Turn.{AllowedBy, Turn, has_died_by, dies_now}
use Rattle.step_table.specs.World.{World, Turned, begin}
use Rattle.step_table.specs.declared.progress.Progress.{Progress}
use Rattle.step_table.proofs.Applying.{turn_owner}
use Rattle.shelf.proofs.SameCalls.{itself}
use Rattle.step_table.proofs.LockLemmas.{another_keeps}

module _ {V T : Type 0} where
  abbrev is_taking : Next V T → Bool
  is_taking (Goes Takes at) = true
  is_taking other = false

  -- whoever else owned the lock owns it where the call has not taken it
  by_stays : (next : Next V T) (call other : CallId) → is_taking next ≡ false → is_call call other ≡ false → owner_by next call (Some other) ≡ Some other
  by_stays Waits call other stays unlike = refl
  by_stays (Goes Stays at) call other stays unlike = refl
  by_stays (Goes Takes at) call other stays unlike = never (sym stays)
  by_stays (Goes Frees at) call other stays unlike = another_keeps (is_call call other) other unlike
  by_stays (Ends reply) call other stays unlike = another_keeps (is_call call other) other unlike
  by_stays (Ceases place) call other stays unlike = refl

  after_stays : (dies : Bool) (next : Next V T) (call other : CallId) → is_taking next ≡ false → is_call call other ≡ false
      → (dies ≡ true → (other.node.0 == call.node.0) ≡ false)
      → (if dies then freed_node call.node (Some other) else owner_by next call (Some other)) ≡ Some other
  after_stays true next call other stays unlike apart = another_keeps (other.node.0 == call.node.0) other (apart refl)
  after_stays false next call other stays unlike apart = by_stays next call other stays unlike

-- calls of other nodes are other calls
unlike_node : (call other : CallId) → (other.node.0 == call.node.0) ≡ false → is_call call other ≡ false
unlike_node call other apart = grind (arith, nat_tests, apart)

module _ {V T M : Type 0} (r : Rules V T) (s : Store V M) where
  row_takes : (w : World V T) (call : CallId) {at : At V T} {e : Effect V T} → Row r s w call at e → is_taking e.next ≡ true → IsFree r s w call
  row_takes w call (takes_first may unready) is = may.free
  row_takes w call (takes may ready) is = may.free
  row_takes w call other is = never is

  takes_free : (gone died dies : Bool) (t : Turned V T) (e : Effect V T) → AllowedBy r s gone died dies t e → is_taking e.next ≡ true
      → IsAnother t.world.owner t.call.id → ⊥
  takes_free true died dies t e it is = absurd it
  takes_free false true dies t e it is = never (rw it.is at is)
  takes_free false false true t e it is = never (rw it at is)
  takes_free false false false t e it is = row_takes t.world t.call.id it is

  module _ (t : Turned V T) (gave : Progress (Reply V)) (turn : Turn r s t gave) where
    -- what another call owns stays its own, unless the call's node dies and is the other's too
    pub owner_stays : (other : CallId) → t.world.owner ≡ Some other → is_call t.call.id other ≡ false
        → (turn.effect.dies ≡ true → (other.node.0 == t.call.id.node.0) ≡ false)
        → t.world_after.owner ≡ Some other
    owner_stays other owned unlike apart = by_taking (is_taking turn.effect.next) refl where
      by_taking : (taking : Bool) → is_taking turn.effect.next ≡ taking → t.world_after.owner ≡ Some other
      by_taking true is =
          absurd (takes_free (is_gone t.call.at) (has_died_by (begin t)) (dies_now (begin t)) (begin t) turn.effect turn.allowed is (rw owned (λ same. never (sym unlike ∙ (rw same (itself t.call.id))))))
      by_taking false is =
          ap (λ (w : World V T). w.owner) turn.comes.world ∙ (rw owned (after_stays turn.effect.dies turn.effect.next t.call.id other is unlike apart))

    pub turn_leaves_lock : LeavesLock t
    turn_leaves_lock =
        record {
          gives_none = turn_owner r s t gave turn;
          keeps = λ other owned apart. owner_stays other owned (unlike_node t.call.id other apart) (λ dies. apart);
        }

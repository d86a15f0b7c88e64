-- What a call knows once it may read main, with the lock or without, and what it reads is applied.
use Rattle.std.proofs.Common.{◌≡◌, ℕ, Option, Some, not, true, refl}
use Rattle.store_traits.specs.declared.ids.CallId.{CallId}
use Rattle.hist_journal.specs.declared.seen.BaseSeen.{BaseSeen}
use Rattle.hist_journal.specs.declared.seen.BaseSeen.TheVariants.{Held}
use Rattle.hist_journal.specs.declared.seen.KindSeen.TheVariants.{Edit}
use Rattle.hist_journal.specs.Folds.{applied_or, edited, value_after}
use Rattle.hist_journal.specs.Nodes.{is_ready}
use Rattle.shelf.specs.declared.store.Store.{Store}
use Rattle.shelf.specs.Changes.{ChangesValue}
use Rattle.shelf.specs.Legal.{value_at}
use Rattle.shelf.specs.Rules.{Rules}
use Rattle.step_table.specs.Calls.{Ask, Call, First, Purpose, Reading, initialises}
use Rattle.step_table.specs.Rows.{new_plan}
use Rattle.step_table.specs.World.{World, Turned}
use Rattle.node_core.specs.Knows.{IsDue, Knows}
use Rattle.node_core.specs.Phases.{is_locked}
use Rattle.node_core.proofs.KeepingOn.{standing}

module _ {V T M : Type 0} (r : Rules V T) (s : Store V M) where
  -- the call has begun
  abbrev pub Begun : Call V T → Type 0
  Begun c = (entries : ℕ) × (c.since ≡ Some entries)

  -- it may read main, and owns the lock if it is to
  pub knows_to_read : (t : Turned V T) (purpose : Purpose) {ask : Ask T} (owner : Option CallId) → Knows r s t.world (standing (First ask) t.call) → Begun t.call
      → (is_locked purpose ≡ true → (owner ≡ Some t.call.id) × (is_ready t.call.id.node t.world.history ≡ not (initialises purpose)))
      → t.world_after ≡ record t.world { owner = owner } → t.call_after ≡ standing (Reading purpose ask) t.call → Knows r s t.world_after t.call_after
  knows_to_read t purpose owner k begun locked world call =
      rw (world, call) (record {
        began = k.began;
        numbers = k.numbers;
        entries = k.entries;
        plan = tt;
        last = k.last;
        raised = k.raised;
        holds = λ holding. let facts = locked holding in record { begun = begun; owns = facts.0; ready = facts.1 };
        contents = λ told. tt;
      })

  -- what a change makes is the new value
  pub change_makes : (edit : T) {value : BaseSeen V} (c : ChangesValue r.meanings.after s.handler value edit) → value_after r.meanings.after value (Edit edit) ≡ Held c.new
  unfolding value_after edited applied_or
  change_makes edit c = rw (c.held, c.makes) refl

  -- so a plan of it is due
  pub due_new : (w : World V T) (call : CallId) (edit : T) (c : ChangesValue r.meanings.after s.handler (value_at r.meanings s w.history) edit)
      → IsDue r s w.history (new_plan r s w call edit c.new)
  due_new w call edit c = record { allowed = c; makes = change_makes edit c; text = refl }

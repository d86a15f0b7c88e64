-- A call still knows the world once it is at its next step: without a new entry, and behind one of its own.
use Rattle.std.proofs.Common.{◌≡◌, ◌∙◌, ◌↔◌, ◌≤◌, ◌==◌, ℕ, true, false, IsTrue, List, [], ◌∷◌, ◌++◌, Option, Some, None, IfSome, length, length-append, unwrap_or, refl, ap, arith, sym}
use Rattle.std.proofs.lemmas.Bool.{and_right}
use Rattle.store_traits.specs.declared.ids.CallId.{CallId}
use Rattle.folder_disk.specs.Contents.{Contents}
use Rattle.folder_disk.specs.Tally.{Tally}
use Rattle.hist_journal.specs.declared.seen.EntrySeen.{EntrySeen}
use Rattle.hist_journal.specs.declared.seen.KindSeen.{KindSeen}
use Rattle.hist_journal.specs.Kinds.{is_call, is_raise}
use Rattle.hist_journal.specs.Nodes.{ready_mark}
use Rattle.hist_journal.specs.Quiet.{pending}
use Rattle.hist_journal.proofs.NodeLemmas.{is_ready-push}
use Rattle.shelf.specs.declared.store.Store.{Store}
use Rattle.shelf.specs.CallOrder.{is_later}
use Rattle.shelf.specs.Entries.{is_own}
use Rattle.shelf.specs.Legal.{value_at}
use Rattle.shelf.specs.Rules.{Rules}
use Rattle.shelf.proofs.LastRaises.{ends_in_raise-push}
use Rattle.shelf.proofs.Bools.{not_later, one_more}
use Rattle.step_table.specs.Calls.{At, Call, Plan}
use Rattle.step_table.specs.World.{World, Turned, begin}
use Rattle.node_core.specs.Knows.{Knows, KnowsContents, IsDue}
use Rattle.node_core.specs.Own.{IsEarly, OwnEntries, is_late}
use Rattle.node_core.specs.Phases.{is_holding, is_initialising, is_raised}
use Rattle.node_core.specs.Plans.{PlanAt}

-- a call that has begun began no later than now
begun_by : (since : Option ℕ) (now : ℕ) → IfSome since (λ entries. entries ≤ now) → unwrap_or since now ≤ now
begun_by None now within = omega arith
begun_by (Some entries) now within = within

-- and that stays so
still_begun : (since : Option ℕ) (old now : ℕ) → old ≤ now → IfSome since (λ entries. entries ≤ old) → IfSome since (λ entries. entries ≤ now)
still_begun None old now grew within = tt
still_begun (Some entries) old now grew within = omega (arith, grew, within)

module _ {V T : Type 0} where
  -- the call at this step
  abbrev pub standing : At V T → Call V T → Call V T
  standing at call = record call { at = at }

  -- it is told of by nothing but an Inited and a Raise still
  pub is_early-push : (call : CallId) (list : List (EntrySeen V T)) (kind : KindSeen V T) → IsEarly call list → is_late kind ≡ false
      → IsEarly call (list ++ record { who = call; kind = kind } ∷ [])
  is_early-push call list kind early so = one_more (is_own is_late call) list (record { who = call; kind = kind }) early (and_right (is_call call call) (is_late kind) so)

module _ {V T M : Type 0} (r : Rules V T) (s : Store V M) where
  -- a plan is due as long as the value stays
  pub due_on : (old now : List (EntrySeen V T)) (plan : Plan V T) → value_at r.meanings s now ≡ value_at r.meanings s old → IsDue r s old plan → IsDue r s now plan
  due_on old now plan same d = record { allowed = rw same d.allowed; makes = rw same d.makes; text = d.text }

  -- a call that begins its turn knows what it knew
  pub knows_begun : (t : Turned V T) → Knows r s t.world t.call → Knows r s t.world (begin t).call
  knows_begun t k =
      record {
        began = begun_by t.call.since (length t.world.history) k.began;
        numbers = k.numbers;
        entries = k.entries;
        plan = k.plan;
        last = k.last;
        raised = k.raised;
        holds = λ holding. let held = k.holds holding in record { begun = (unwrap_or t.call.since (length t.world.history), refl); owns = held.owns; ready = held.ready };
        contents = k.contents;
      }

  module _ (t : Turned V T) {at next : At V T} (k : Knows r s t.world (standing at t.call)) (holding : is_holding at ≡ true) where
    -- a turn without an entry, after which the call still owns the lock
    pub knows_on : {folder : Contents} {tally : Tally} → t.world_after ≡ record t.world { folder = folder; tally = tally } → t.call_after ≡ standing next t.call
        → OwnEntries t.call.id next t.world.history → PlanAt next → is_raised next ≡ is_raised at → is_initialising next ≡ is_initialising at
        → (IsTrue t.world.told → KnowsContents r s next t.world_after.folder t.world.history) → Knows r s t.world_after t.call_after
    knows_on world call entries plan raised initialising contents =
        let held = k.holds holding in
        let same = ap (λ (w : World V T). w.history) world in
        let told = ap (λ (w : World V T). w.told) world in
        rw call (record {
          began = rw same k.began;
          numbers = rw same k.numbers;
          entries = rw same entries;
          plan = plan;
          last = rw same (raised ∙ k.last);
          raised = rw (same, raised) k.raised;
          holds = λ still. record { begun = held.begun; owns = ap (λ (w : World V T). w.owner) world ∙ held.owns; ready = rw (same, initialising) held.ready };
          contents = λ is. rw same (contents (rw told at is));
        })

    -- a turn with one entry of the call, which says nothing of its node where the call still owns the lock
    pub knows_behind : (kind : KindSeen V T) {folder : Contents} {tally : Tally} {owner : Option CallId} {version : ℕ}
        → t.world_after ≡ record t.world { folder = folder; tally = tally; owner = owner; version = version; history = t.world.history ++ record { who = t.call.id; kind = kind } ∷ [] }
        → t.call_after ≡ standing next t.call → OwnEntries t.call.id next t.world_after.history → PlanAt next → is_raised next ≡ is_raise kind → ((is_raised next ≡ true) ↔ (pending t.world_after.history ≡ Some t.call.id))
        → (is_holding next ≡ true → (owner ≡ t.world.owner) × (ready_mark t.call.id.node kind ≡ None) × (is_initialising next ≡ is_initialising at))
        → (IsTrue t.world.told → KnowsContents r s next t.world_after.folder t.world_after.history) → Knows r s t.world_after t.call_after
    knows_behind kind world call entries plan last raised stays contents =
        let e : EntrySeen V T = record { who = t.call.id; kind = kind } in
        let held = k.holds holding in
        let grew = ap (λ (w : World V T). w.history) world in
        let told = ap (λ (w : World V T). w.told) world in
        rw call (record {
          began = still_begun t.call.since (length t.world.history) (length t.world_after.history) (rw grew (omega (arith, length-append t.world.history (e ∷ [])))) k.began;
          numbers = rw grew (one_more (is_later t.call.id) t.world.history e k.numbers (not_later (t.call.id.client.0 == t.call.id.client.0) t.call.id.number));
          entries = entries;
          plan = plan;
          last = rw grew (last ∙ sym (ends_in_raise-push t.call.id false t.world.history kind));
          raised = raised;
          holds =
              λ still.
              let facts = stays still in
              record {
                begun = held.begun;
                owns = ap (λ (w : World V T). w.owner) world ∙ facts.0 ∙ held.owns;
                ready = rw (grew, facts.2) (is_ready-push t.call.id.node t.world.history e ∙ (rw facts.1 held.ready));
              };
          contents = λ is. contents (rw told at is);
        })

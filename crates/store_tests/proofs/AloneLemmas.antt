-- An update that nobody else is beside goes on to its end.
use Rattle.std.proofs.Common.{◌≡◌, ◌≢◌, ◌∙◌, ◌<◌, ◌||◌, inr, Bool, true, false, List, [], Option, Some, None, refl, sym, ap}
use Rattle.store_traits.specs.declared.codec.Codec as codec_trait
use Rattle.store_traits.specs.declared.ids.CallId.{CallId}
use Rattle.store_traits.specs.declared.transform.Transform as transform_trait
use Rattle.file_lock.specs.Owner.{IsAnother}
use Rattle.folder_disk.specs.declared.folder.Folder as folder_trait
use Rattle.hist_journal.specs.declared.seen.EntrySeen.{EntrySeen}
use Rattle.hist_journal.specs.Kinds.{is_call}
use Rattle.shelf.specs.declared.store.Store.{Store}
use Rattle.shelf.specs.AddsNode.{is_among}
use Rattle.shelf.specs.Rules.{Rules}
use Rattle.shelf.specs.ShelfSeen.{ShelfSeen}
use Rattle.shelf.proofs.Bools.{never}
use Rattle.shelf.proofs.SameCalls.{itself, same_call}
use Rattle.shelf.proofs.DeathLemmas.{has_died-now}
use Rattle.step_table.specs.declared.progress.Progress.{Progress}
use Rattle.step_table.specs.declared.progress.Progress.TheVariants.{Moved, Blocked, Ended}
use Rattle.step_table.specs.Calls.{At, First, Reply, Update}
use Rattle.step_table.specs.Laws.{OwnsAlive}
use Rattle.step_table.specs.Turn.{Turn, has_died_by}
use Rattle.step_table.specs.World.{Turned, begin}
use Rattle.step_table.proofs.Applying.{dead_turn_changes_nothing, ended_owns_nothing, turn_owner}
use Rattle.step_table.proofs.OwnersAlive.{owner_stays_alive}
use Rattle.step_table.proofs.Waiting.{turn_waits}
use Rattle.node_core.specs.Phases.{is_finishing}
use Rattle.node_core.specs.Ready.{rules_seen}
use Rattle.node_core.specs.Step.{StepsTo, TurnFrom}
use Rattle.node_core.specs.StepsLeft.{steps_left}
use Rattle.node_core.specs.Views.{turned}
use Rattle.node_core.specs.declared.origin.Origin.{Origin}
use Rattle.node_core.proofs.PlanLemmas.{writes_change}
use Rattle.node_core.proofs.ReadinessLemmas.{turn_finds}
use Rattle.node_core.proofs.StepsLemmas.{turn_steps}
use Rattle.store_tests.specs.Alone.{IsAlone, IsNew, TellsOf}
use Rattle.store_tests.proofs.GoingLemmas.{first_is_new, goes_further, new_goes_on, stays_new}

-- a call of which an earlier one of its client alone was told is new
pub next_is_new : {V T : Type 0} (call next : CallId) (list now : List (EntrySeen V T)) → call.number < next.number → list ≡ [] → TellsOf call list now → IsNew next now
next_is_new call next list now later none told = stays_new call next list now (inr later) (first_is_new next list none) told

module _ {V T M : Type 0} (r : Rules V T) (s : Store V M) (t : Turned V T) (gave : Progress (Reply V)) (turn : Turn r s t gave) (alone : (call : CallId) → t.world.owner ≡ Some call → call ≡ t.call.id) where
  -- nobody else owns the lock then
  pub stays_alone : (call : CallId) → t.world_after.owner ≡ Some call → call ≡ t.call.id
  stays_alone call owns = by_call (is_call call t.call.id) refl
    where
      by_call : (b : Bool) → is_call call t.call.id ≡ b → call ≡ t.call.id
      by_call true is = same_call call t.call.id is
      by_call false is =
          let unlike : call ≢ t.call.id = λ same. never (sym is ∙ (rw same (itself t.call.id))) in
          alone call (turn_owner r s t gave turn call owns unlike)

  -- it is never blocked
  pub never_waits : gave ≡ Blocked → ⊥
  never_waits is = let waiting : Turn r s t Blocked = rw is at turn in by_owner t.world.owner refl (turn_waits r s t waiting).3
    where
      by_owner : (owner : Option CallId) → t.world.owner ≡ owner → IsAnother owner t.call.id → ⊥
      by_owner None owned another = another
      by_owner (Some call) owned another = another (alone call owned)

  -- a call whose node had died owned nothing, and owns nothing behind it
  dead_owns_nothing : (died : Bool) → has_died_by (begin t) ≡ died → OwnsAlive t.world t.call → (reply : Reply V) → Turn r s t (Ended reply) → t.world_after.owner ≡ Some t.call.id → ⊥
  dead_owns_nothing true died lives reply ended owns =
      let same : t.world_after ≡ t.world = (dead_turn_changes_nothing r s t (Ended reply) ended died).world in
      never (sym (has_died-now t.call.id.node t.call.since t.world.history ∙ lives (rw same at owns)) ∙ died)
  dead_owns_nothing false alive lives reply ended owns = ended_owns_nothing r s t reply ended alive owns

  -- once it has its answer, nobody owns the lock
  pub frees : OwnsAlive t.world t.call → (reply : Reply V) → gave ≡ Ended reply → t.world_after.owner ≡ None
  frees lives reply is = by_owner t.world_after.owner refl
    where
      by_owner : (owner : Option CallId) → t.world_after.owner ≡ owner → t.world_after.owner ≡ None
      by_owner None owned = owned
      by_owner (Some call) owned =
          let ended : Turn r s t (Ended reply) = rw is at turn in
          absurd (dead_owns_nothing (has_died_by (begin t)) refl lives reply ended (owned ∙ ap (λ (c : CallId). Some c) (stays_alone call owned)))

-- where nobody owned the lock, nobody does once a call has its answer
pub free_at_its_end : {V T M : Type 0} (r : Rules V T) (s : Store V M) (t : Turned V T) (reply : Reply V) → Turn r s t (Ended reply) → t.world.owner ≡ None → t.world_after.owner ≡ None
free_at_its_end r s t reply ended free =
    let nobody : (call : CallId) → t.world.owner ≡ Some call → ⊥ = λ call owns. (let no : ◌≡◌ {A = Option CallId} None (Some call) = sym free ∙ owns in cc) in
    frees r s t (Ended reply) ended (λ call owns. absurd (nobody call owns)) (λ owns. absurd (nobody t.call.id owns)) reply refl

module _ {C F V T : Type 0} (c : codec_trait.Ghosts C V) (t : transform_trait.Ghosts T V) (f : folder_trait.Ghosts F) where
  -- a new update may begin where nobody owns the lock
  pub new_is_alone : (call : CallId) (edit : T) (s : ShelfSeen C F V T) → IsNew call s.list → s.owner ≡ None → is_among call.node s.store.nodes ≡ true → IsAlone c t f (record { call = call; since = None }) false (First (Update edit)) s
  new_is_alone call edit s is_new free node =
      record {
        goes = new_goes_on c t f call (Update edit) s is_new node;
        readiness = λ no. never no;
        owner = λ other owns. absurd (let no : ◌≡◌ {A = Option CallId} None (Some other) = sym free ∙ owns in cc);
        lives = λ owns. absurd (let no : ◌≡◌ {A = Option CallId} None (Some call) = sym free ∙ owns in cc);
      }

  module _ (origin origin_after : Origin) (initialised : Bool) (at at_after : At V T) (old new : ShelfSeen C F V T) (gave : Progress (Reply V))
      (steps : StepsTo c t f origin at old gave origin_after at_after new) (is : gave ≡ Moved) (before : IsAlone c t f origin initialised at old) where
    abbrev this : Turned V T
    this = turned f origin at old origin_after at_after new

    moved : TurnFrom c t f origin at old Moved origin_after at_after new
    moved = rw is at steps.turn

    -- it goes on alone
    pub goes_on_alone : IsAlone c t f origin_after (initialised || is_finishing at) at_after new
    goes_on_alone =
        record {
          goes = goes_further c t f origin origin_after at at_after old new gave steps is before.goes;
          readiness = λ now first. rw steps.call (turn_finds (rules_seen c t f old) old.store this moved first);
          owner = λ call owns. stays_alone (rules_seen c t f old) old.store this Moved moved before.owner call owns ∙ sym steps.call;
          lives =
              (let knows = before.goes.ready.knows in
              owner_stays_alive (rules_seen c t f old) old.store this Moved moved (writes_change at knows.plan) before.lives);
        }

    -- with fewer turns left
    pub has_fewer_left : steps_left new.store.limits.file (initialised || is_finishing at) at_after < steps_left old.store.limits.file initialised at
    has_fewer_left = rw steps.store (turn_steps (rules_seen c t f old) old.store initialised this moved before.goes.ready.knows before.readiness)

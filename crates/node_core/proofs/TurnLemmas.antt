-- A turn, put together of the rules of every turn and the row's own work.
use Rattle.std.proofs.Common.{◌≡◌, ◌∙◌, inl, ℕ, Bool, true, false, IfSome, IsTrue, length, Some, unwrap_or, refl, sym, ap}
use Rattle.std.specs.List.{list_any}
use Rattle.store_traits.specs.declared.codec.Codec as codec_trait
use Rattle.store_traits.specs.declared.transform.Transform as transform_trait
use Rattle.folder_disk.specs.declared.folder.Folder as folder_trait
use Rattle.hist_journal.specs.Folds.{edition_of}
use Rattle.hist_journal.specs.Journal.{JournalSeen}
use Rattle.shelf.specs.Deaths.{has_died, strikes, turn_step}
use Rattle.shelf.specs.Dying.{is_to_die}
use Rattle.shelf.specs.Rules.{Rules}
use Rattle.shelf.specs.ShelfSeen.{ShelfSeen}
use Rattle.shelf.proofs.Bools.{never}
use Rattle.shelf.proofs.DeathLemmas.{has_died-now}
use Rattle.value_cache.specs.Truth.{IsValueOf}
use Rattle.step_table.specs.Caching.{published_by}
use Rattle.step_table.specs.Calls as at
use Rattle.step_table.specs.Calls.{Ask, At, Call, Creating, Read, Reading, Reply, Serve, Update, Writing, is_gone, is_locking, step_at}
use Rattle.step_table.specs.Turn.{dies_now, has_died_by}
use Rattle.step_table.specs.World.{Turned, begin, is_ready_now}
use Rattle.step_table.specs.declared.progress.Progress.{Progress}
use Rattle.step_table.specs.declared.progress.Progress.TheVariants.{Moved, Blocked, Ended}
use Rattle.step_table.proofs.Applying.{ended_is_gone}
use Rattle.step_table.proofs.Waiting.{turn_has_to_wait}
use Rattle.node_core.specs.declared.init_call.InitCall.TheVariants as init
use Rattle.node_core.specs.declared.origin.Origin.{Origin}
use Rattle.node_core.specs.declared.update_call.State.{State}
use Rattle.node_core.specs.declared.update_call.State.TheVariants.{First, Initialise, Write, Gone}
use Rattle.node_core.specs.declared.write_call.WriteCall.TheVariants as write
use Rattle.node_core.specs.Knows.{Knows}
use Rattle.node_core.specs.Own.{IsFor}
use Rattle.node_core.specs.Phases.{is_holding}
use Rattle.node_core.specs.Reading.{ReadsTruly}
use Rattle.node_core.specs.Ready.{Equipped, Ready, rules_seen}
use Rattle.node_core.specs.Shown.{ShowsAnswer}
use Rattle.node_core.specs.Step.{MayStep, SparesRoom, StepsTo, TurnFrom}
use Rattle.node_core.specs.Steps.{Steps}
use Rattle.node_core.specs.Views.{call_seen, state_seen, turned, world_seen}
use Rattle.node_core.proofs.CauseOfAnswers.{turn_shows}
use Rattle.node_core.proofs.KeepingLemmas.{turn_keeps_knowledge, turn_stays}
use Rattle.node_core.proofs.KeepingOn.{knows_begun}
use Rattle.node_core.proofs.PublishedLemmas.{IsQuietBut, turn_publishes}
use Rattle.node_core.proofs.ReadyLemmas.{ready_now}

-- a call of this origin that begins its turn, among so many entries
abbrev pub begun : Origin → ℕ → Origin
begun origin entries = record { call = origin.call; since = Some (unwrap_or origin.since entries) }

-- so it is where the journal was asked for their number
pub begun_is : {V T : Type 0} (origin new : Origin) (entries : ℕ) (journal now : JournalSeen V T) → new ≡ begun origin entries → entries ≡ length journal.list → journal ≡ now → new ≡ begun origin (length now.list)
begun_is origin new entries journal now begins counted same = begins ∙ ap (begun origin) (counted ∙ ap (λ (journal : JournalSeen _ _). length journal.list) same)

-- the step that the shelf is told of, as the node is
pub step_is : {V T : Type 0} (ready : Bool) (at : At V T) → turn_step ready (step_at true at) ≡ step_at ready at
step_is true at = refl
step_is false (at.First (Update edit)) = refl
step_is false (at.First Read) = refl
step_is false (Reading Serve (Update edit)) = refl
step_is false (Reading Serve Read) = refl
step_is false (Writing Creating plan) = refl
step_is false other = refl

-- an update that owns nothing has to wait for the lock where another call owns it
pub update_locks : {P C T F V : Type 0} (ready : Bool) (state : State P C T F V) → is_gone (state_seen state) ≡ false → is_holding (state_seen state) ≡ false → is_locking ready (state_seen state) ≡ true
update_locks ready (First edit) running free = refl
update_locks ready (Initialise edit init.Read) running free = never (sym free)
update_locks ready (Initialise edit (init.Migrate value)) running free = never (sym free)
update_locks ready (Initialise edit init.Finish) running free = never (sym free)
update_locks ready (Write (write.Raise plan change)) running free = never (sym free)
update_locks ready (Write (write.Create plan change)) running free = never (sym free)
update_locks ready (Write (write.Append plan change)) running free = never (sym free)
update_locks ready (Write (write.SyncScratch plan change)) running free = never (sym free)
update_locks ready (Write (write.Rename plan change)) running free = never (sym free)
update_locks ready Gone running free = never (sym running)
update_locks ready other running free = never (sym free)

module _ {C F V T : Type 0} (c : codec_trait.Ghosts C V) (t : transform_trait.Ghosts T V) (f : folder_trait.Ghosts F) where
  -- a call that begins its turn is as ready as before
  pub ready_begun : (origin : Origin) (at : At V T) (s : ShelfSeen C F V T) → Ready c t f origin at s → Ready c t f (begun origin (length s.list)) at s
  ready_begun origin at s ready = record { knows = knows_begun (rules_seen c t f s) s.store (turned f origin at s origin at s) ready.knows; equipped = ready.equipped }

  -- where no death ends the call, the work of its row is its turn
  module _ (origin : Origin) (at at_after : At V T) (old new : ShelfSeen C F V T) (running : is_gone at ≡ false)
      (lives : has_died origin.call.node origin.since old.list ≡ false) (unplanned : is_to_die origin.call (step_at true at) old ≡ false) where
    abbrev living : Turned V T
    living = turned f origin at old (begun origin (length old.list)) at_after new

    pub lives_begun : has_died_by (begin living) ≡ false
    lives_begun = has_died-now origin.call.node origin.since old.list ∙ lives

    pub no_death : dies_now (begin living) ≡ false
    no_death = ap (λ step. list_any (strikes origin.call step) old.deaths) (sym (step_is (is_ready_now living) at)) ∙ unplanned

    pub turn_of : (gave : Progress (Reply V)) → Steps c t f (begun origin (length old.list)) at old gave at_after new → TurnFrom c t f origin at old gave (begun origin (length old.list)) at_after new
    turn_of gave did = record { effect = did.row.effect; allowed = rw (running, lives_begun, no_death) did.row.row; comes = did.row.comes }

  module _ (origin : Origin) (at at_after : At V T) (old new : ShelfSeen C F V T)
      (may : MayStep c t f origin at old) (truly : ReadsTruly (rules_seen c t f old) old.store (world_seen f old)) (was_quiet : IsQuietBut old.owner old.list) (running : is_gone at ≡ false) where
    abbrev this : Turned V T
    this = turned f origin at old (begun origin (length old.list)) at_after new

    abbrev rules : Rules V T
    rules = rules_seen c t f old

    abbrev StepsSo : Progress (Reply V) → Type 0
    StepsSo gave = StepsTo c t f origin at old gave (begun origin (length old.list)) at_after new

    -- all that a step gives, whatever the call asks for
    pub record StepGives (gave : Progress (Reply V)) : Type 0 where
      pub steps : StepsSo gave
      pub shown : (ask : Ask T) → IsFor origin.call ask at old.list → ShowsAnswer f.told (rules_seen c t f old) old.store (edition_of old.list) origin.call ask gave new.list
      pub current : IsTrue f.told → IfSome (published_by at gave (world_seen f new)) (IsValueOf t.after new.store.base new.list)

    -- a call whose node has not died is ready
    ready_alive : has_died_by (begin this) ≡ false → Ready c t f origin at old
    ready_alive lives = ready_now c t f origin at old may (sym (has_died-now origin.call.node origin.since old.list) ∙ lives)

    -- what a turn answers and publishes
    pub gives_of : (gave : Progress (Reply V)) → StepsSo gave → StepGives gave
    gives_of gave steps =
        let knows : has_died_by (begin this) ≡ false → Knows rules old.store (world_seen f old) (call_seen origin at) = λ lives. (ready_alive lives).knows in
        record {
          steps = steps;
          shown = λ ask so. turn_shows rules old.store ask this knows truly so gave steps.turn;
          current = λ told. rw steps.store (turn_publishes rules old.store this knows truly told refl was_quiet gave steps.turn);
        }

    -- a call that no death ends
    module _ (lives : has_died origin.call.node origin.since old.list ≡ false) (unplanned : is_to_die origin.call (step_at true at) old ≡ false) where
      -- the work of a call that began its turn
      abbrev Did : Progress (Reply V) → Type 0
      Did gave = Steps c t f (begun origin (length old.list)) at old gave at_after new

      this_turn : (gave : Progress (Reply V)) → Did gave → TurnFrom c t f origin at old gave (begun origin (length old.list)) at_after new
      this_turn gave did = turn_of origin at at_after old new running lives unplanned gave did

      ready_then : Ready c t f origin at old
      ready_then = ready_now c t f origin at old may lives

      -- a call that goes on has what its next step needs
      equipped : (gave : Progress (Reply V)) → Did gave → is_gone at_after ≡ false → Equipped c t f at_after new
      equipped Moved did running_on = did.equips
      equipped Blocked did running_on =
          let same : at_after ≡ at = ap (λ (call : Call V T). call.at) (turn_stays rules old.store this (this_turn Blocked did)).1 in
          rw (same, did.waits) ready_then.equipped
      equipped (Ended reply) did running_on = never (sym running_on ∙ ap is_gone (ended_is_gone rules old.store this reply (this_turn (Ended reply) did)))

      -- a turn that needs the lock leaves all as it was where another call owns that
      pub waits_spare : (gave : Progress (Reply V)) → Did gave → is_locking (is_ready_now this) at ≡ true → SparesRoom c t f origin old new
      waits_spare gave did locks =
          λ other owned unlike.
          let blocked = turn_has_to_wait rules old.store this gave (this_turn gave did) (lives_begun origin at at_after old new running lives unplanned) (no_death origin at at_after old new running lives unplanned) locks (rw owned unlike) in
          let same : new ≡ old = (let stays = did.waits in rw blocked at stays) in
          record { entries = ap (λ (s : ShelfSeen C F V T). s.room) same; folder = ap (λ (s : ShelfSeen C F V T). f.room s.folder) same }

      -- nothing is kept for another call where this one owns the lock
      spares : (holding : Bool) → is_holding at ≡ holding → (is_holding at ≡ false → SparesRoom c t f origin old new) → SparesRoom c t f origin old new
      spares false free stays = stays free
      spares true holding stays = λ other owned unlike. absurd (unlike (let same : Some other ≡ Some origin.call = sym owned ∙ (ready_then.knows.holds holding).owns in cc))

      -- a call that owns nothing has to leave what is kept for another
      pub step_gives : (gave : Progress (Reply V)) → Did gave → (is_holding at ≡ false → SparesRoom c t f origin old new) → StepGives gave
      step_gives gave did stays =
          let turn = this_turn gave did in
          gives_of gave (record {
            turn = turn;
            call = refl;
            ready = λ running_on. record { knows = rw (did.codec, did.store) (turn_keeps_knowledge rules old.store this gave turn ready_then.knows truly running_on); equipped = equipped gave did running_on };
            store = did.store;
            codec = did.codec;
            waits = did.waits;
            spares = λ other owned unlike. inl (spares (is_holding at) refl stays other owned unlike);
          })

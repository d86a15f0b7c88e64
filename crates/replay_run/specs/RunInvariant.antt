-- What holds between the steps of a run.
use Rattle.std.specs.Prelude.{◌≡◌, ◌⊎◌, ◌<◌, ◌+◌, ◌-◌, ◌^◌, ◌++◌, min, ℕ, Bool, true, false, List, All, Contains, Some, IfSome, slice_get, length, count_by, if◌then◌else◌, is_some}
use Rattle.std.specs.List.{list_any}
use Rattle.store_traits.specs.declared.ids.CallId.{CallId}
use Rattle.hist_journal.specs.declared.device.Device.TheVariants.{Folder, Legacy}
use Rattle.hist_journal.specs.declared.seen.KindSeen.TheVariants.{Cleared, Fault, Migrate, Replace}
use Rattle.hist_journal.specs.Folds.{edition_of, raises_of}
use Rattle.hist_journal.specs.Nodes.{is_dead}
use Rattle.hist_journal.specs.Quiet.{Quiet, pending}
use Rattle.prefs_text.specs.EntryText.{PrefEntry, PrefKind}
use Rattle.shelf.specs.declared.store.PlannedDeath.{PlannedDeath}
use Rattle.shelf.specs.declared.store.Store.{Store}
use Rattle.shelf.specs.Deaths.{has_died}
use Rattle.shelf.specs.Each.{Each}
use Rattle.shelf.specs.Entries.{is_death, is_own}
use Rattle.shelf.specs.Legal.{value_at}
use Rattle.shelf.specs.Places.{is_fault_of}
use Rattle.node_core.specs.Phases.{is_holding}
use Rattle.node_core.specs.Reading.{ReadsTruly}
use Rattle.script_lang.specs.GoodFailures.{IsPlanned}
use Rattle.value_cache.specs.Truth.{IsOfPrefix}
use Rattle.replay_run.specs.ClientInvariant.{ClientInvariant}
use Rattle.replay_run.specs.Failing.{FailsWithin}
use Rattle.replay_run.specs.RunState.{Client, RunState, call_at}
use Rattle.replay_run.specs.Settings.{PrefCall, PrefRules, PrefWorld, Value}

-- so many of its calls have begun
abbrev pub begun : Client → ℕ
begun client = length client.answered + (if is_some client.running then 1 else 0)

-- the entry is of a call that has begun
pub record IsOfCall (clients : List Client) (e : PrefEntry) : Type 0 where
  pub client : Client
  pub found : slice_get clients e.who.client.0 ≡ Some client
  pub place : ℕ
  pub who : e.who ≡ call_at client place
  pub begun : place < begun client

-- the owner of the lock is a call that runs, holds it, and has not died
pub record HasOwner (clients : List Client) (history : List PrefEntry) (owner : CallId) : Type 0 where
  pub place : ℕ
  pub client : Client
  pub call : PrefCall
  pub found : slice_get clients place ≡ Some client
  pub runs : client.running ≡ Some call
  pub own : owner ≡ call.id
  pub holds : is_holding call.at ≡ true
  pub lives : has_died call.id.node call.since history ≡ false

-- no step that is built adds these: they are of old settings and handlers
abbrev pub is_later_work : PrefKind → Bool
is_later_work (Migrate names value) = true
is_later_work (Cleared name) = true
is_later_work (Replace value) = true
is_later_work (Fault Legacy count) = true
is_later_work other = false

module _ (r : PrefRules) {M : Type 0} (s : Store Value M) where
  pub record RunInvariant (state : RunState) : Type 0 where
    pub clients : (place : ℕ) (client : Client) → slice_get state.clients place ≡ Some client → ClientInvariant r s place state.shared.world client
    pub entries : All (IsOfCall state.clients) state.shared.world.history
    pub owner : IfSome state.shared.world.owner (HasOwner state.clients state.shared.world.history)
    -- there are as many Faults as calls of the folder that failed, up to the count's end, and no more than were planned to
    pub faults : state.shared.world.tally.count ≡ min (s.folder.count + count_by (λ e. is_fault_of Folder e.kind) state.shared.world.history) (2 ^ 64 - 1)
    pub failing : FailsWithin s state.shared.world.tally
    -- a call whose node is dead adds nothing
    pub living : Each (λ before e. is_dead e.who.node before ≡ false) state.shared.world.history
    -- each Death was planned, with its step
    pub deaths : Each (λ before e. is_death e.kind ≡ true → IsPlanned s.deaths before e.who) state.shared.world.history
    pub left : All (Contains s.deaths) state.shared.world.deaths
    -- a death that is planned is left, unless its call died
    pub used : (death : PlannedDeath) → Contains s.deaths death → Contains state.shared.world.deaths death ⊎ (list_any (is_own is_death death.call) state.shared.world.history ≡ true)
    pub built : list_any (λ e. is_later_work e.kind) state.shared.world.history ≡ false
    -- no raise is open but that of the lock's owner, and the version word counts them
    pub quiet : (call : CallId) → pending state.shared.world.history ≡ Some call → state.shared.world.owner ≡ Some call
    pub version : state.shared.world.version ≡ raises_of state.shared.world.history
    -- each cache keeps nothing, or the version, the value and the edition of a quiet prefix of the history; each client's node has one
    pub cached : All (λ kept. IfSome kept (IsOfPrefix r.meanings.after s.base state.shared.world.history)) state.shared.caches
    pub homes : All (λ client. client.node.0 < length state.shared.caches) state.clients

  -- the folder tells what it holds, main reads as the value of the history, and a quiet prefix that has all its raises has its value and its edition
  pub record ReadsWell (w : PrefWorld) : Type 0 where
    pub told : w.told ≡ true
    pub reads : ReadsTruly r s w
    pub fresh : (front back : List PrefEntry) → w.history ≡ front ++ back → Quiet front → raises_of w.history ≡ raises_of front
        → (value_at r.meanings s w.history ≡ value_at r.meanings s front) × (edition_of w.history ≡ edition_of front)

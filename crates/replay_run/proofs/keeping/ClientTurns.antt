-- A turn of the call that a client is at, in a state where all was kept; and what it adds.
use Rattle.std.proofs.Common.{◌≡◌, ◌∙◌, ◌++◌, ℕ, false, List, Option, Some, slice_get, slice_set, sym, ap}
use Rattle.std.proofs.lemmas.Bool.{or_parts}
use Rattle.store_traits.specs.declared.ids.CallId.{CallId}
use Rattle.hist_journal.specs.Nodes.{is_dead}
use Rattle.prefs_text.specs.EntryText.{PrefEntry, PrefKind}
use Rattle.shelf.specs.declared.store.Store.{Store}
use Rattle.shelf.specs.Deaths.{died_since}
use Rattle.shelf.proofs.DeathLemmas.{has_died-now}
use Rattle.step_table.specs.Turn.{has_died_by}
use Rattle.step_table.specs.World.{Turned, begin}
use Rattle.step_table.proofs.Applying.{entries_of}
use Rattle.node_core.specs.Knows.{Knows}
use Rattle.script_lang.specs.declared.plan.run_line.Act.{Act}
use Rattle.replay_run.specs.ClientInvariant.{CallInvariant, ClientInvariant}
use Rattle.replay_run.specs.RunInvariant.{ReadsWell, RunInvariant}
use Rattle.replay_run.specs.RunState.{Client, RunState, act_now, call_now}
use Rattle.replay_run.specs.Settings.{Change, PrefCached, PrefCall, PrefRules, PrefWorld, Value}
use Rattle.replay_run.specs.Steps.{TakesTurn}
use Rattle.replay_run.proofs.keeping.BehindTurns.{IsSameClient, behind, behind_same}
use Rattle.replay_run.proofs.keeping.CallKept.{call_kept}
use Rattle.replay_run.proofs.keeping.OwnTurns.{adds_own, kinds_of, same_call_after}
use Rattle.replay_run.proofs.keeping.StepCases.{IsCalled}

pub record ClientTurn (r : PrefRules) {M : Type 0} (s : Store Value M) (state : RunState) : Type 0 where
  pub place : ℕ
  pub client : Client
  pub now : Client
  pub cached : Option PrefCached
  pub cached_after : Option PrefCached
  pub w_after : PrefWorld
  pub asked : Act
  pub called : IsCalled asked
  pub found : slice_get state.clients place ≡ Some client
  pub cache : slice_get state.shared.caches client.node.0 ≡ Some cached
  pub at_it : act_now client ≡ Some asked
  pub takes : TakesTurn r s (call_now client asked) client (record { world = state.shared.world; kept = cached }) now (record { world = w_after; kept = cached_after })
  pub keeps : RunInvariant r s state
  pub well : ReadsWell r s state.shared.world

module _ {r : PrefRules} {M : Type 0} {s : Store Value M} {state : RunState} (k : ClientTurn r s state) where
  abbrev pub call : PrefCall
  call = call_now k.client k.asked

  abbrev pub turned : Turned Value Change
  turned = record { world = state.shared.world; call = call; world_after = k.w_after; call_after = k.takes.call_after }

  abbrev pub clients_after : List Client
  clients_after = slice_set state.clients k.place k.now

  abbrev pub added : List PrefKind
  added = kinds_of turned k.takes.turn.effect

  abbrev pub more : List PrefEntry
  more = entries_of call.id added

  pub mine : ClientInvariant r s k.place state.shared.world k.client
  mine = k.keeps.clients k.place k.client k.found

  pub kept : CallInvariant r s k.client state.shared.world call
  kept = call_kept r s state k.place k.client k.found k.keeps k.asked k.called k.at_it

  -- a call that no death ends has seen none since it began
  pub not_since : has_died_by (begin turned) ≡ false → died_since call.id.node call.since state.shared.world.history ≡ false
  not_since lives =
      let has_not = sym (has_died-now call.id.node call.since state.shared.world.history) ∙ lives in
      (or_parts (is_dead call.id.node state.shared.world.history) (died_since call.id.node call.since state.shared.world.history) has_not).1

  -- so it knows what it knew
  pub knows : has_died_by (begin turned) ≡ false → Knows r s state.shared.world call
  knows lives = kept.knows (not_since lives)

  pub adds : k.w_after.history ≡ state.shared.world.history ++ more
  adds = adds_own r s turned k.takes.gave k.takes.turn

  pub same : IsSameClient k.client k.now
  same = behind_same k.takes.gave k.now (behind k.client k.takes.call_after k.takes.gave k.now k.takes.now)

  pub same_id : k.takes.call_after.id ≡ call.id
  same_id = same_call_after r s turned k.takes.gave k.takes.turn

  pub at_place : call.id.client.0 ≡ k.place
  at_place = ap (λ (id : CallId). id.client.0) kept.id ∙ mine.id

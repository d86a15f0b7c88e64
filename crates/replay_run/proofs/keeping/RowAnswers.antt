-- What the rows of the table that end a call leave of it.
use Rattle.std.proofs.Common.{◌≡◌, ◌∙◌, ◌+◌, ℕ, Bool, true, false, List, [], ◌∷◌, ◌++◌, length, Some, IfSome, option_map, unwrap_or, refl, sym, ap}
use Rattle.std.specs.List.{list_any}
use Rattle.std.proofs.lemmas.Bool.{and_right, eq-eqb}
use Rattle.store_traits.specs.declared.ids.CallId.{CallId}
use Rattle.store_traits.specs.declared.ids.NodeId.{NodeId}
use Rattle.store_traits.specs.declared.update_error.UpdateError.TheVariants as error
use Rattle.hist_journal.specs.declared.seen.KindSeen.TheVariants.{Restart}
use Rattle.hist_journal.specs.Kinds.{is_call}
use Rattle.prefs_text.specs.EntryText.{PrefEntry}
use Rattle.prefs_text.specs.declared.seen.AnswerSeen.{AnswerSeen}
use Rattle.shelf.specs.declared.store.Store.{Store}
use Rattle.shelf.specs.Entries.{is_own, is_update}
use Rattle.shelf.proofs.Bools.{never}
use Rattle.shelf.proofs.SameCalls.{itself}
use Rattle.step_table.specs.declared.progress.Progress.{Progress}
use Rattle.step_table.specs.declared.progress.Progress.TheVariants.{Ended}
use Rattle.step_table.specs.Calls.{At, Changed, Failed, Kept, Reply, Restarted, Restarting}
use Rattle.step_table.specs.Effects.{Effect, all_kinds, gave_by}
use Rattle.step_table.specs.Rows.{Row, acknowledges, finds_alive, finishes, lacks_room_to_restart, raises, renames, restarts, sync_fails}
use Rattle.step_table.proofs.Applying.{entries_of}
use Rattle.node_core.specs.Own.{IsEarly, OwnEntries}
use Rattle.node_core.specs.Plans.{PlanAt}
use Rattle.script_lang.specs.GoodCauses.{may_stand}
use Rattle.script_lang.specs.GoodUpdates.{IsOnlyRestart, is_restart}
use Rattle.replay_run.specs.Answering.{reply_told}
use Rattle.replay_run.specs.ClientInvariant.{IsRestartExplained, is_restarted}
use Rattle.replay_run.specs.Settings.{Change, PrefRules, PrefWorld, Value}
use Rattle.replay_run.proofs.keeping.OwnNone.{no_restart}
use Rattle.replay_run.proofs.lists.OptionLemmas.{one_of}

-- what goes on or is answered so may have left an Edit or a Same
abbrev pub stands : Progress (Reply Value) → Bool
stands (Ended reply) = unwrap_or (option_map may_stand (reply_told reply)) true
stands other = true

-- a node is brought back
abbrev pub brings : Progress (Reply Value) → Bool
brings (Ended (Restarted place)) = true
brings other = false

pub brings_none : (reply : Reply Value) (answer : AnswerSeen) → reply_told reply ≡ Some answer → is_restarted answer ≡ false → brings (Ended reply) ≡ false
brings_none (Restarted place) answer tells out = never (sym out ∙ ap is_restarted (sym (one_of _ answer tells)))
brings_none other answer tells out = refl

-- a death ended the call
abbrev pub is_dying : Progress (Reply Value) → Bool
is_dying (Ended (Failed (error.Died place))) = true
is_dying other = false

module _ (r : PrefRules) {M : Type 0} (s : Store Value M) (w : PrefWorld) (call : CallId) where
  pub row_lives : {at : At Value Change} {e : Effect Value Change} → Row r s w call at e → is_dying (gave_by e.next) ≡ false
  row_lives raises = refl
  row_lives other = refl

  -- a row that ends so adds nothing that is an update to a call that has changed nothing
  pub row_early : {at : At Value Change} {e : Effect Value Change} → Row r s w call at e → stands (gave_by e.next) ≡ false → OwnEntries call at w.history → IsEarly call w.history × (list_any (is_own is_update call) (entries_of call e.kinds) ≡ false)
  row_early finishes out own = never (sym out)
  row_early raises out own = never (sym out)
  row_early renames out own = never (sym out)
  row_early acknowledges out own = never (sym out)
  row_early sync_fails out own = never (sym out)
  row_early (restarts is_dead) out own = (own, rw (and_right (is_call call call) false refl) refl)
  row_early other out own = (own, refl)

  -- a row that brings no node back adds no Restart
  pub row_restarts : {at : At Value Change} {e : Effect Value Change} → Row r s w call at e → PlanAt at → brings (gave_by e.next) ≡ false → list_any (is_own is_restart call) (entries_of call e.kinds) ≡ false
  row_restarts finishes so out = rw (and_right (is_call call call) false refl) refl
  row_restarts raises so out = rw (and_right (is_call call call) false refl) refl
  row_restarts (renames {plan}) so out = rw (so.asked.is, and_right (is_call call call) false refl) refl
  row_restarts (acknowledges {ending = Changed place}) so out = rw (and_right (is_call call call) false refl) refl
  row_restarts (acknowledges {ending = Kept edit}) so out = rw (and_right (is_call call call) false refl) refl
  row_restarts (restarts is_dead) so out = never (sym out)
  row_restarts other so out = refl

  -- a restart is answered by what it did, or found
  abbrev pub RestartsSo : At Value Change → Progress (Reply Value) → List PrefEntry → Type 0
  RestartsSo (Restarting node) (Ended reply) list = IfSome (reply_told reply) (IsRestartExplained r s list call node)
  RestartsSo at gave list = Unit {0}

  abbrev back : NodeId → PrefEntry
  back node = record { who = call; kind = Restart node }

  only_back : (node : NodeId) → IsEarly call w.history → IsOnlyRestart call node (length w.history + 1) (w.history ++ back node ∷ [])
  only_back node early =
      record {
        restart = record { before = w.history; entry = back node; behind = []; is = refl; counted = refl; passed = rw (itself call, eq-eqb node.0 node.0 refl) refl };
        none_before = no_restart call w.history (Restarting node) early;
        none_behind = refl;
      }

  pub row_restarted : {at : At Value Change} {e : Effect Value Change} (count : ℕ) → Row r s w call at e → OwnEntries call at w.history → RestartsSo at (gave_by e.next) (w.history ++ entries_of call (all_kinds e.folder count e.kinds))
  row_restarted count (finds_alive alive) own = record { front = w.history; back = []; is = refl; alive = alive; earlier = refl }
  row_restarted count (lacks_room_to_restart is_dead) own = tt
  row_restarted count (restarts {node} is_dead) own = only_back node own
  row_restarted count other own = tt

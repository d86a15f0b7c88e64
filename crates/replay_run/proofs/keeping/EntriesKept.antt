-- The entries behind a turn: of calls that have begun, with the folder's failures, and nothing that is not built.
use Rattle.std.proofs.Common.{◌≡◌, ◌∙◌, ◌+◌, ◌-◌, ◌^◌, min, ℕ, false, ◌++◌, All, Some, cond, count_by, length, slice_get, slice_index_or, refl, sym, ap, subst, arith}
use Rattle.std.specs.List.{list_any}
use Rattle.std.proofs.lemmas.List.Elements.{All-append, All-map}
use Rattle.std.proofs.lemmas.List.Sums.{sum_by-append}
use Rattle.prefs_text.specs.EntryText.{PrefEntry, PrefKind}
use Rattle.shelf.specs.declared.store.Store.{Store}
use Rattle.shelf.proofs.Bools.{none_in_both}
use Rattle.step_table.specs.Effects.{left_by}
use Rattle.step_table.specs.Turn.{has_died_by}
use Rattle.step_table.specs.World.{begin}
use Rattle.node_core.specs.Plans.{PlanAt}
use Rattle.replay_run.specs.Failing.{FailsWithin}
use Rattle.replay_run.specs.RunInvariant.{IsOfCall}
use Rattle.replay_run.specs.RunState.{RunState}
use Rattle.replay_run.specs.Settings.{PrefRules, PrefWorld, Value}
use Rattle.replay_run.proofs.keeping.BehindTurns.{at_most_one}
use Rattle.replay_run.proofs.keeping.ClientTurns.{ClientTurn, added, adds, at_place, call, clients_after, kept, knows, more, same, turned}
use Rattle.replay_run.proofs.keeping.Deaths.{is_folder_fault}
use Rattle.replay_run.proofs.keeping.Failures.{fails_within_after, faults_counted}
use Rattle.replay_run.proofs.keeping.OwnTurns.{comes_later, turn_adds_built, turn_built}
use Rattle.replay_run.proofs.keeping.ReplacedClient.{entries_on}
use Rattle.replay_run.proofs.lists.SetLemmas.{set_found}

-- a count that ends at its bound counts on from there
counted_on : (before first more most : ℕ) → min (min (before + first) most + more) most ≡ min (before + (first + more)) most
counted_on before first more most = omega arith

module _ {r : PrefRules} {M : Type 0} {s : Store Value M} {state : RunState} (k : ClientTurn r s state) where
  abbrev w : PrefWorld
  w = state.shared.world

  plan : has_died_by (begin (turned k)) ≡ false → PlanAt (call k).at
  plan lives = (knows k lives).plan

  -- entries of the call are of the client
  own_entry : (kind : PrefKind) → IsOfCall (clients_after k) (record { who = (call k).id; kind = kind })
  own_entry kind =
      let same = same k in
      record {
        client = k.now;
        found = subst (λ p. slice_get (clients_after k) p ≡ Some k.now) (sym (at_place k)) (set_found state.clients k.place k.now k.client k.found);
        place = length k.client.answered;
        who = rw (same.id, same.node, same.earlier) (kept k).id;
        begun = let all = same.begun in omega (arith, all);
      }

  all_entries : All (IsOfCall (clients_after k)) (w.history ++ more k)
  all_entries =
      let same = same k in
      All-append (IsOfCall (clients_after k)) w.history (more k)
      (entries_on state.clients k.place k.client k.now k.found (λ nth. rw (same.id, same.node, same.earlier) refl) (let most = at_most_one k.client in let all = same.begun in omega (arith, most, all)) w.history k.keeps.entries)
      (All-map (IsOfCall (clients_after k)) (λ kind. record { who = (call k).id; kind = kind }) (added k) (λ n d within. own_entry (slice_index_or (added k) n d)))

  pub entries_kept : All (IsOfCall (clients_after k)) k.w_after.history
  entries_kept = rw (adds k) all_entries

  -- the folder's failures
  tally_after : k.w_after.tally ≡ left_by k.takes.turn.effect.folder w.tally k.w_after.tally
  tally_after = ap (λ (w : PrefWorld). w.tally) k.takes.turn.comes.world

  pub failing_kept : FailsWithin s k.w_after.tally
  failing_kept = fails_within_after s (begin (turned k)) k.takes.turn.effect k.well.told k.takes.turn.comes.used tally_after k.keeps.failing

  pub faults_kept : k.w_after.tally.count ≡ min (s.folder.count + count_by is_folder_fault k.w_after.history) (2 ^ 64 - 1)
  faults_kept =
      faults_counted s (begin (turned k)) k.takes.turn.effect k.well.told k.takes.turn.comes.used tally_after k.keeps.failing (turn_built r s (turned k) k.takes.gave k.takes.turn plan).faults
      ∙ rw (adds k, sum_by-append (λ (e : PrefEntry). cond (is_folder_fault e) 1 0) w.history (more k), k.keeps.faults) (counted_on s.folder.count (count_by is_folder_fault w.history) (count_by is_folder_fault (more k)) (2 ^ 64 - 1))

  pub built_kept : list_any comes_later k.w_after.history ≡ false
  built_kept = rw (adds k) (none_in_both comes_later w.history (more k) k.keeps.built (turn_adds_built r s (turned k) k.takes.gave k.takes.turn plan))

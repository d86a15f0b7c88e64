-- What a run has asked its clients for, and will: the lines of its script.
use Rattle.std.proofs.Common.{◌≡◌, ◌∙◌, ◌≢◌, inl, inr, ◌==◌, ℕ, true, false, List, [], ◌∷◌, ◌++◌, length, append_assoc, Some, slice_get, slice_set, refl, ap}
use Rattle.std.specs.List.{enumerate_from}
use Rattle.std.proofs.lemmas.Bool.{and_left, and_right, eq-eqb, ne_eqb}
use Rattle.std.proofs.lemmas.List.{length-map, length-set}
use Rattle.std.proofs.lemmas.List.FromFn.{length-enumerate_from}
use Rattle.store_traits.specs.declared.ids.NodeId.{NodeId}
use Rattle.folder_disk.specs.Tally.{Tally}
use Rattle.shelf.specs.declared.store.Store.{Store}
use Rattle.script_lang.specs.Asked.{is_call_act, is_call_line_of}
use Rattle.script_lang.specs.declared.plan.run_line.Act.{Act}
use Rattle.script_lang.specs.declared.plan.run_line.Act.TheVariants as act
use Rattle.script_lang.specs.declared.plan.run_line.RunLine.{RunLine}
use Rattle.replay_run.specs.Lines.{Follows, FollowsAll, acts_for, with_act}
use Rattle.replay_run.specs.Rounds.{Finishes}
use Rattle.replay_run.specs.RunState.{Client, NodeView, RunState}
use Rattle.replay_run.specs.Settings.{PrefRules, Value}
use Rattle.replay_run.specs.Start.{new_client, start_of}
use Rattle.replay_run.specs.Steps.{ClientSteps, StepsAt}
use Rattle.replay_run.proofs.keeping.RunKeeps.{rounds_keep, times_keep}
use Rattle.replay_run.proofs.keeping.SameClients.{still_that}
use Rattle.replay_run.proofs.keeping.StepsKeep.{new_from}
use Rattle.replay_run.proofs.lists.SetLemmas.{found_then}

module _ (homes : List NodeId) (all : List RunLine) where
  -- the client is at home there, has no earlier session, and is to be asked for its acts in those lines beside what it was asked for
  pub record IsUnderWay (left : List RunLine) (place : ℕ) (client : Client) : Type 0 where
    pub home : slice_get homes place ≡ Some client.node
    pub asked : client.asked ++ acts_for place left ≡ acts_for place all
    pub earlier : client.earlier ≡ 0

  -- and there is one for each home
  pub record AreUnderWay (left : List RunLine) (state : RunState) : Type 0 where
    pub each : (place : ℕ) (client : Client) → slice_get state.clients place ≡ Some client → IsUnderWay left place client
    pub many : length state.clients ≡ length homes

  -- one client is replaced
  replaced : (left rest : List RunLine) (place : ℕ) (old new : RunState) (after : Client) → new.clients ≡ slice_set old.clients place after → AreUnderWay left old → IsUnderWay rest place after
      → ((other : ℕ) (c : Client) → other ≢ place → IsUnderWay left other c → IsUnderWay rest other c) → AreUnderWay rest new
  replaced left rest place old new after now were here others =
      record {
        each = λ other c found.
            elim (found_then old.clients place other after c (rw now at found)) [
              | inl at ↦ rw (at.0, at.1) here
              | inr at ↦ others other c at.0 (were.each other c at.1)
            ];
        many = ap (λ cs. length cs) now ∙ (length-set old.clients place after ∙ were.many);
      }

  module _ {M : Type 0} (r : PrefRules) (s : Store Value M) where
    client_keeps : (left : List RunLine) (place : ℕ) (client : Client) (view : NodeView) (after : Client) (view_after : NodeView) → ClientSteps r s client view after view_after → IsUnderWay left place client → IsUnderWay left place after
    client_keeps left place client view after view_after it was =
        let same = still_that r s client view after view_after it in
        record { home = rw same.node was.home; asked = rw same.asked was.asked; earlier = same.earlier ∙ was.earlier }

    step_keeps : (left : List RunLine) (place : ℕ) (old new : RunState) → StepsAt r s place old new → AreUnderWay left old → AreUnderWay left new
    step_keeps left place old new it were =
        replaced left left place old new it.client_after it.now were
        (client_keeps left place it.client (record { world = old.shared.world; kept = it.kept }) it.client_after (record { world = new.shared.world; kept = it.kept_after }) it.steps (were.each place it.client it.was)) (λ other c apart it. it)

    module _ (line : RunLine) (left : List RunLine) where
      -- a line for others
      skipped : (place : ℕ) (client : Client) → is_call_line_of (record { 0 = place }) line ≡ false → IsUnderWay (line ∷ left) place client → IsUnderWay left place client
      skipped place client other it = record { home = it.home; asked = rw other at it.asked; earlier = it.earlier }

      follow_keeps : (a : Act) (old new : RunState) → line.act ≡ a → Follows r s line.client.0 a old new → AreUnderWay (line ∷ left) old → AreUnderWay left new
      follow_keeps (act.Go steps) old new is it were =
          let kept : AreUnderWay (line ∷ left) new = times_keep r s (AreUnderWay (line ∷ left)) (step_keeps (line ∷ left)) line.client.0 steps old new it were in
          record { each = λ place client found. skipped place client (and_right (place == line.client.0) (is_call_act line.act) (ap is_call_act is)) (kept.each place client found); many = kept.many }
      follow_keeps other old new is it were =
          let was : IsUnderWay (line ∷ left) line.client.0 it.client = were.each line.client.0 it.client it.was in
          let mine : is_call_line_of line.client line ≡ true = rw (eq-eqb line.client.0 line.client.0 refl, is) refl in
          replaced (line ∷ left) left line.client.0 old new (with_act other it.client) (ap (λ (state : RunState). state.clients) it.now) were
          (record { home = was.home; asked = append_assoc it.client.asked (other ∷ []) (acts_for line.client.0 left) ∙ rw (mine, is) at was.asked; earlier = was.earlier })
          (λ place client apart. skipped place client (and_left (place == line.client.0) (is_call_act line.act) (ne_eqb place line.client.0 apart)))

    lines_keep : (lines : List RunLine) (old new : RunState) → FollowsAll r s lines old new → AreUnderWay lines old → AreUnderWay [] new
    unfolding FollowsAll
    lines_keep [] old new it were = rw it were
    lines_keep (line ∷ lines) old new it were = lines_keep lines it.0 new it.2 (follow_keeps line lines line.act old it.0 refl it.1 were)

    started : (tally : Tally) → AreUnderWay all (start_of [] tally s homes)
    started tally =
        record {
          each = λ place client found. (let it = new_from [] 0 homes place client found in rw it.is (record { home = it.home; asked = refl; earlier = refl }));
          many = length-map (enumerate_from 0 homes) (λ placed. new_client [] placed.0 placed.1) ∙ length-enumerate_from 0 homes;
        }

    -- in the end all has been asked for
    pub run_keeps : (tally : Tally) (between end : RunState) → FollowsAll r s all (start_of [] tally s homes) between → Finishes r s between end → AreUnderWay [] end
    run_keeps tally between end follows ends = rounds_keep r s (AreUnderWay []) (step_keeps []) ends.rounds between end ends.rest (lines_keep all (start_of [] tally s homes) between follows (started tally))

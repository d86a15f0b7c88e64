-- What a run keeps of main: the history is lawful, main is what it comes to, and what a client writes may be main.
use Rattle.std.proofs.Common.{◌≡◌, ◌∙◌, ◌<◌, ◌^◌, inl, inr, ℕ, true, false, List, [], ◌∷◌, All, length, Option, Some, None, IfSome, refl, ap, arith, slice_get, unwrap_or}
use Rattle.std.proofs.lemmas.List.Elements.{All-append, All-cons, All-nil}
use Rattle.store_traits.specs.declared.ids.NodeId.{NodeId}
use Rattle.folder_disk.specs.Tally.{Tally}
use Rattle.hist_journal.specs.Folds as folds
use Rattle.hist_journal.specs.Folds.{edition_of}
use Rattle.prefs_edit.proofs.Maps.{IsMap-after_steps}
use Rattle.prefs_model.specs.Map.{IsMap}
use Rattle.prefs_proto.specs.Laws.OneReading.{reads_once}
use Rattle.prefs_proto.specs.Laws.Written.{written_reads}
use Rattle.shelf.specs.declared.store.Store.{Store}
use Rattle.shelf.specs.Base.{HasItsBase}
use Rattle.shelf.specs.Deaths.{died_since}
use Rattle.shelf.specs.Kept.{KeptMain}
use Rattle.shelf.proofs.LegalLemmas.{Legal-empty}
use Rattle.step_table.specs.Caching.{found}
use Rattle.step_table.specs.Calls.{Read, Reply, Update}
use Rattle.step_table.specs.Turn.{has_died_by}
use Rattle.step_table.specs.World.{begin}
use Rattle.step_table.specs.declared.progress.Progress.{Progress}
use Rattle.node_core.specs.Ready.{MayWrite, plan_at}
use Rattle.script_lang.specs.Asked.{Asked}
use Rattle.script_lang.specs.declared.plan.run_line.Act.{Act}
use Rattle.script_lang.specs.declared.plan.run_line.Act.TheVariants as act
use Rattle.replay_run.specs.Answering.{behind_look}
use Rattle.replay_run.specs.ClientInvariant.{CallInvariant, IsForAct}
use Rattle.replay_run.specs.Failing.{FailsWithin}
use Rattle.replay_run.specs.Lines.{Asks}
use Rattle.replay_run.specs.PrefsBasis.{prefs_basis}
use Rattle.replay_run.specs.RunInvariant.{ReadsWell, RunInvariant}
use Rattle.replay_run.specs.RunState.{Client, NodeView, RunState, act_now, call_now, new_call}
use Rattle.replay_run.specs.Settings.{PrefCached, PrefCall, PrefRules, PrefWorld, Value}
use Rattle.replay_run.specs.Start.{start_of}
use Rattle.replay_run.specs.Steps.{StepsAt, TakesTurn}
use Rattle.replay_run.specs.Typed.{AreSteps, IsTypedAct}
use Rattle.replay_run.proofs.keeping.BehindTurns.{Behind, behind, behind_same, blocked, ended, moved}
use Rattle.replay_run.proofs.keeping.CallKept.{asks_keep}
use Rattle.replay_run.proofs.keeping.ClientTurns.{ClientTurn, call, kept, knows, not_since, turned}
use Rattle.replay_run.proofs.keeping.OtherClients.{alive_before, between, knew}
use Rattle.replay_run.proofs.keeping.OwnEdits.{is_restarting}
use Rattle.replay_run.proofs.keeping.RestartTurns.{restart_ends}
use Rattle.replay_run.proofs.keeping.StepCases.{IsCalled, StepCase, looks, rests, step_case, turns}
use Rattle.replay_run.proofs.keeping.StepsKeep.{new_from, start_keeps, steps_keep, taken}
use Rattle.replay_run.proofs.kept.FaultsTold.{CountsFaults, counts_on, counts_rise}
use Rattle.replay_run.proofs.kept.MainKept.{turn_keeps_main}
use Rattle.replay_run.proofs.kept.PlansKept.{ReadsValues, gone_writes, plan_stays, reads_fresh, reads_well, turn_keeps_may}
use Rattle.replay_run.proofs.lists.SetLemmas.{found_then}
use Rattle.replay_run.proofs.lists.SetViews.{all_found}

-- maps of settings are values of their files
pub values_of_settings : {M : Type 0} (s : Store Value M) → s.limits.file < 2 ^ 63 → ReadsValues prefs_basis.rules IsMap AreSteps s
values_of_settings s low =
    record {
      limit = low;
      once = reads_once;
      back = written_reads;
      read = λ bytes v reads. reads.map;
      absent = record { rising = tt; keys = All-nil _; values = All-nil _ };
      made = λ edit v new steps is makes. IsMap-after_steps edit v new steps is makes;
    }

module _ (r : PrefRules) {M : Type 0} (s : Store Value M) where
  -- what the call writes may be main
  abbrev pub MayWriteNow : PrefWorld → PrefCall → Type 0
  MayWriteNow w call = IfSome (plan_at call.at) (λ plan. MayWrite r IsMap s w.history plan)

  -- as long as its node has not died
  abbrev pub MayWriteAlive : PrefWorld → PrefCall → Type 0
  MayWriteAlive w call = died_since call.id.node call.since w.history ≡ false → MayWriteNow w call

  -- a call that is to begin writes nothing
  first_writes : (w : PrefWorld) (client : Client) (asked : Act) → MayWriteNow w (new_call client asked)
  first_writes w client (act.Update edit) = tt
  first_writes w client other = tt

  -- its edits are edits, and what its call writes may be main
  pub record KeptClient (w : PrefWorld) (client : Client) : Type 0 where
    pub typed : All IsTypedAct client.asked
    pub writes : IfSome client.running (MayWriteAlive w)

  -- beside the run's own, the history is lawful, main is what it comes to, and the folder counts what Faults tell
  pub record KeptState (state : RunState) : Type 0 where
    pub run : RunInvariant r s state
    pub told : state.shared.world.told ≡ true
    pub main : KeptMain r IsMap s state.shared.world.folder state.shared.world.history
    pub counts : CountsFaults s state.shared.world.tally.count state.shared.world.history
    pub clients : (place : ℕ) (client : Client) → slice_get state.clients place ≡ Some client → KeptClient state.shared.world client

  -- a session whose base is what main reads as starts so
  pub start_keeps_main : HasItsBase r.reads r.absent s → (before : List Asked) (tally : Tally) (homes : List NodeId) → tally.count ≡ s.folder.count → FailsWithin s tally
      → All (λ home. home.0 < length s.nodes) homes → KeptState (start_of before tally s homes)
  unfolding edition_of folds.main_of
  start_keeps_main base before tally homes counted failing declared =
      record {
        run = start_keeps r s before tally homes counted failing declared;
        told = refl;
        main = record { legal = Legal-empty r.meanings s; main = refl; base = base; changed = λ some. absurd (some refl) };
        counts = record { first = rw counted omega arith; told = λ greater low. refl };
        clients = λ place client found. let new = new_from before 0 homes place client found in rw new.is (record { typed = All-nil IsTypedAct; writes = tt });
      }

  -- and stays so as its clients are asked for more
  pub asks_keep_main : (place : ℕ) (asked : Act) (old new : RunState) → Asks place asked old new → IsTypedAct asked → KeptState old → KeptState new
  asks_keep_main place asked old new it typed k =
      let mine = k.clients place it.client it.was in
      record {
        run = asks_keep r s place asked old new it k.run;
        told = rw it.now k.told;
        main = rw it.now k.main;
        counts = rw it.now k.counts;
        clients =
            rw it.now
            (λ other c is.
            elim (found_then old.clients place other _ c is) [
              | inl here ↦ rw here.1 (record { typed = All-append IsTypedAct it.client.asked (asked ∷ []) mine.typed (All-cons IsTypedAct asked [] typed (All-nil IsTypedAct)); writes = mine.writes })
              | inr there ↦ k.clients other c there.1
            ]);
      }

  module _ (values : ReadsValues r IsMap AreSteps s) where
    module _ (place : ℕ) (old new : RunState) (it : StepsAt r s place old new) (k : KeptState old) where
      abbrev w : PrefWorld
      w = old.shared.world

      abbrev w_after : PrefWorld
      w_after = new.shared.world

      abbrev view : NodeView
      view = record { world = w; kept = it.kept }

      abbrev view_after : NodeView
      view_after = record { world = w_after; kept = it.kept_after }

      well : ReadsWell r s w
      well = record { told = k.told; reads = reads_well r IsMap AreSteps s values w (λ told. k.main); fresh = reads_fresh r.meanings s w.history k.main.legal }

      run_after : RunInvariant r s new
      run_after = steps_keep r s place old new it well k.run

      mine : KeptClient w it.client
      mine = k.clients place it.client it.was

      -- what the step leaves
      record Left : Type 0 where
        told : w_after.told ≡ true
        main : KeptMain r IsMap s w_after.folder w_after.history
        counts : CountsFaults s w_after.tally.count w_after.history
        own : KeptClient w_after it.client_after
        others : (other : ℕ) (c : Client) → (other ≡ place → ⊥) → slice_get old.clients other ≡ Some c → KeptClient w_after c

      module _ (asked : Act) (called : IsCalled asked) (at_it : act_now it.client ≡ Some asked) (turn : TakesTurn r s (call_now it.client asked) it.client view it.client_after view_after) where
        abbrev takes : ClientTurn r s old
        takes = taken r s place old new it well k.run asked called at_it turn

        -- what the call writes may be main, as long as it lives
        may : has_died_by (begin (turned takes)) ≡ false → MayWriteNow w (call takes)
        may lives = by_running it.client.running mine.writes (not_since takes lives)
          where
            by_running : (running : Option PrefCall) → IfSome running (MayWriteAlive w) → died_since (unwrap_or running (new_call it.client asked)).id.node (unwrap_or running (new_call it.client asked)).since w.history ≡ false
                → MayWriteNow w (unwrap_or running (new_call it.client asked))
            by_running None writes alive = first_writes w it.client asked
            by_running (Some running) writes alive = writes alive

        may_by : (a : Act) → IsTypedAct a → IsForAct (call takes).id a (call takes).at w.history → MayWriteNow w_after turn.call_after
        may_by (act.Update edit) typed so = turn_keeps_may r IsMap AreSteps s values (turned takes) turn.gave turn.turn k.told k.main (Update edit) typed so may
        may_by act.Read typed so = turn_keeps_may r IsMap AreSteps s values (turned takes) turn.gave turn.turn k.told k.main Read typed so may
        may_by (act.Restart node) typed so = gone_writes (λ plan. MayWrite r IsMap s w_after.history plan) turn.call_after.at (restart_ends r s (turned takes) turn.gave turn.turn (ap is_restarting so))
        may_by other typed so = absurd so

        may_after : MayWriteNow w_after turn.call_after
        may_after = may_by (kept takes).asked (all_found IsTypedAct it.client.asked _ (kept takes).asked (kept takes).at_it mine.typed) (kept takes).is_for

        own_writes : (gave : Progress (Reply Value)) (c : Client) → Behind it.client turn.call_after gave c → IfSome c.running (MayWriteAlive w_after)
        own_writes gave c (ended tells) = tt
        own_writes gave c moved = λ alive. may_after
        own_writes gave c blocked = λ alive. may_after

        others_write : (other : ℕ) (c : Client) → (other ≡ place → ⊥) → slice_get old.clients other ≡ Some c → IfSome c.running (MayWriteAlive w_after)
        others_write other c apart found = by_running c.running (k.run.clients other c found).running (k.clients other c found).writes
          where
            by_running : (running : Option PrefCall) → IfSome running (CallInvariant r s c w) → IfSome running (MayWriteAlive w) → IfSome running (MayWriteAlive w_after)
            by_running None theirs writes = tt
            by_running (Some o) theirs writes =
                λ alive. plan_stays r IsMap s o w w_after (knew takes other c apart found o theirs alive) (between takes other c apart found o theirs alive) alive (writes (alive_before takes other c apart found o theirs alive))

        left_by_turn : Left
        left_by_turn =
            let gone = behind it.client turn.call_after turn.gave it.client_after turn.now in
            record {
              told = ap (λ (x : PrefWorld). x.told) turn.turn.comes.world ∙ k.told;
              main = turn_keeps_main r IsMap s (turned takes) turn.gave turn.turn (knows takes) may k.told (counts_rise r s (turned takes) k.counts) k.main;
              counts = counts_on r s (turned takes) k.counts turn.gave turn.turn (λ lives. (knows takes lives).plan);
              own = record { typed = rw (behind_same turn.gave it.client_after gone).asked mine.typed; writes = own_writes turn.gave it.client_after gone };
              others = λ other c apart found. record { typed = (k.clients other c found).typed; writes = others_write other c apart found };
            }

      -- a step that is no turn leaves the world
      left_by_other : view_after ≡ view → KeptClient w it.client_after → Left
      left_by_other same own =
          let world = ap (λ (v : NodeView). v.world) same in
          record { told = rw world k.told; main = rw world k.main; counts = rw world k.counts; own = rw world own; others = λ other c apart found. rw world (k.clients other c found) }

      -- a read writes nothing
      behind_its_look : (found : Option PrefCached) → KeptClient w (behind_look it.client found)
      behind_its_look None = record { typed = mine.typed; writes = λ alive. tt }
      behind_its_look (Some one) = record { typed = mine.typed; writes = tt }

      left : StepCase r s it.client view it.client_after view_after → Left
      left (rests none client same) = left_by_other same (rw client mine)
      left (turns asked called at_it turn) = left_by_turn asked called at_it turn
      left (looks at_it idle look) = left_by_other look.same (rw look.now (behind_its_look (found it.kept w.version)))

      -- what is kept of main stays from step to step
      pub steps_keep_main : KeptState new
      steps_keep_main =
          let it_left = left (step_case r s it.client view it.client_after view_after it.steps) in
          record {
            run = run_after;
            told = it_left.told;
            main = it_left.main;
            counts = it_left.counts;
            clients =
                λ other c is.
                elim (found_then old.clients place other it.client_after c (rw it.now at is)) [
                  | inl here ↦ rw here.1 it_left.own
                  | inr there ↦ it_left.others other c there.0 there.1
                ];
          }

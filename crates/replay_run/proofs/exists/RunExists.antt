-- Each script that keeps its rules has a run.
use Rattle.std.proofs.Common.{◌≡◌, ◌∙◌, ◌⊎◌, inl, inr, ◌<◌, ◌+◌, ◌-◌, ◌^◌, ℕ, suc, zero, List, All, [], ◌∷◌, length, flat_map, Some, None, slice_get, refl, sym, ap, subst, arith}
use Rattle.std.specs.List.{enumerate_from}
use Rattle.std.proofs.lemmas.List.{length-map}
use Rattle.std.proofs.lemmas.List.Elements.{All-append, All-cons, All-head, All-nil}
use Rattle.std.proofs.lemmas.List.FromFn.{length-enumerate_from}
use Rattle.std.proofs.lemmas.Option.{slice_get_cases}
use Rattle.hist_journal.specs.declared.seen.BaseSeen.{BaseSeen}
use Rattle.hist_journal.specs.declared.seen.BaseSeen.TheVariants.{Corrupt}
use Rattle.prefs_model.specs.Map.{IsMap}
use Rattle.shelf.specs.declared.store.Store.{Store}
use Rattle.shelf.specs.Base.{HasItsBase}
use Rattle.shelf.specs.Each.{Each}
use Rattle.shelf.proofs.EachLemmas.{each_walked}
use Rattle.script_lang.specs.declared.transcripts.file_seen.FileSeen.TheVariants.{Absent}
use Rattle.script_lang.specs.declared.plan.run_line.Act.{Act}
use Rattle.script_lang.specs.declared.plan.run_line.RunLine.{RunLine}
use Rattle.script_lang.specs.declared.plan.script.Script.{Script}
use Rattle.script_lang.specs.declared.plan.session_plan.SessionPlan.{SessionPlan}
use Rattle.script_lang.specs.declared.transcripts.transcript.Transcript.{Transcript}
use Rattle.script_lang.specs.Chronicle.{Chapter, chapter_of, first_beginning, store_of, tally_of}
use Rattle.script_lang.specs.Good.{file_seen}
use Rattle.script_lang.specs.Keeps.{Keeps, KeepsPlan}
use Rattle.script_lang.specs.TranscriptView.{SessionSeen}
use Rattle.script_lang.proofs.GoodChapters.{one_chapter}
use Rattle.replay_run.specs.Failing.{FailsWithin}
use Rattle.replay_run.specs.Lines.{Asks, FollowsAll}
use Rattle.replay_run.specs.PrefsBasis.{prefs_basis}
use Rattle.replay_run.specs.Rounds.{EndsBy, Finishes, IsOver, Round, StepsEach}
use Rattle.replay_run.specs.RunState.{Client, NodeView, RunState, act_now}
use Rattle.replay_run.specs.ScriptRun.{IsPlayed, Runs, lines_of}
use Rattle.replay_run.specs.Settings.{PrefRules, PrefStore, Value}
use Rattle.replay_run.specs.Start.{new_client, start_of, world_of}
use Rattle.replay_run.specs.Steps.{StepsAt}
use Rattle.replay_run.specs.Typed.{AreSteps, IsTyped, IsTypedAct}
use Rattle.replay_run.specs.WorkLeft.{RoundSoFar, work_left}
use Rattle.replay_run.proofs.exists.ChainExists.{CanFollow, lines_is, rounds_is}
use Rattle.replay_run.proofs.exists.ServedSteps.{RunsServed, now_asked, still_served}
use Rattle.replay_run.proofs.exists.StepExists.{client_steps}
use Rattle.replay_run.proofs.exists.TurnExists.{MustBe, base_is}
use Rattle.replay_run.proofs.keeping.Failures.{plan_fails_within}
use Rattle.replay_run.proofs.keeping.SameClients.{still_that}
use Rattle.replay_run.proofs.keeping.StepCases.{IsCalled}
use Rattle.replay_run.proofs.keeping.StepsKeep.{homes_declared, new_from}
use Rattle.replay_run.proofs.kept.PlansKept.{ReadsValues}
use Rattle.replay_run.proofs.kept.RunKept.{KeptState, asks_keep_main, start_keeps_main, steps_keep_main, values_of_settings}
use Rattle.replay_run.proofs.lists.SetLemmas.{found_then}
use Rattle.replay_run.proofs.lists.SetViews.{all_found}
use Rattle.replay_run.proofs.work.WorkLemmas.{round_begins, round_falls, round_goes_on}

-- a client is asked for calls alone, and what runs of them is at a step that the table serves
pub record IsServed (client : Client) : Type 0 where
  pub asks : All IsCalled client.asked
  pub runs : RunsServed client

module _ {M : Type 0} (r : PrefRules) (s : Store Value M) (values : ReadsValues r IsMap AreSteps s) (unmigrated : s.migrations ≡ []) (unreplaced : s.handler ≡ None) (low : s.limits.file < 2 ^ 64 - 1) where
  record Kept (state : RunState) : Type 0 where
    pub main : KeptState r s state
    pub clients : (place : ℕ) (client : Client) → slice_get state.clients place ≡ Some client → IsServed client

  step_is : (place : ℕ) (state : RunState) → place < length state.clients → Kept state → MustBe (StepsAt r s place state)
  step_is place state within kept none =
      elim (slice_get_cases state.clients place).1 [
        | inl found ↦ by_cache found.0 found.2
        | inr past ↦ (let less = past.0 in absurd (omega (arith, less, within)))
      ]
    where
      by_cache : (client : Client) → slice_get state.clients place ≡ Some client → ⊥
      by_cache client found =
          let served = kept.clients place client found in
          let home = all_found (λ (client : Client). client.node.0 < length state.shared.caches) state.clients place client found kept.main.run.homes in
          elim (slice_get_cases state.shared.caches client.node.0).1 [
            | inl cache ↦ client_steps r s unmigrated unreplaced low state kept.main.run.failing.count place client found cache.0 cache.2 (act_now client) refl
                (now_asked client (act_now client) refl served.asks) served.runs none
            | inr past ↦ (let less = past.0 in absurd (omega (arith, less, home)))
          ]

  step_keeps : (place : ℕ) (old new : RunState) → StepsAt r s place old new → Kept old → Kept new
  step_keeps place old new it kept =
      let was = kept.clients place it.client it.was in
      let view : NodeView = record { world = old.shared.world; kept = it.kept } in
      let view_after : NodeView = record { world = new.shared.world; kept = it.kept_after } in
      record {
        main = steps_keep_main r s values place old new it kept.main;
        clients =
            λ other c is.
            elim (found_then old.clients place other it.client_after c (rw it.now at is)) [
              | inl here ↦ rw here.1
                  (record {
                    asks = rw (still_that r s it.client view it.client_after view_after it.steps).asked was.asks;
                    runs = still_served r s it.client view it.client_after view_after was.runs it.steps;
                  })
              | inr there ↦ kept.clients other c there.1
            ];
      }

  asking_keeps : (place : ℕ) (asked : Act) (old new : RunState) → Asks place asked old new → IsCalled asked → IsTypedAct asked → Kept old → Kept new
  asking_keeps place asked old new it has typed kept =
      let was = kept.clients place it.client it.was in
      record {
        main = asks_keep_main r s place asked old new it typed kept.main;
        clients =
            λ other c is.
            elim (found_then old.clients place other _ c (rw it.now at is)) [
              | inl here ↦ rw here.1
                  (record { asks = All-append IsCalled it.client.asked (asked ∷ []) was.asks (All-cons IsCalled asked [] has (All-nil IsCalled)); runs = was.runs })
              | inr there ↦ kept.clients other c there.1
            ];
      }

  so_far : (place clients : ℕ) (start now new : RunState) → StepsEach r s place clients now new → Kept now → RoundSoFar s.limits.file start place now → RoundSoFar s.limits.file start (place + clients) new
  unfolding StepsEach
  so_far place zero start now new it kept far = rw it (let same : place + 0 ≡ place = omega arith in rw same far)
  so_far place (suc clients) start now new it kept far =
      let one = round_goes_on r s start place now it.0 it.1 kept.main.run far in
      let same : place + 1 + clients ≡ place + suc clients = omega arith in
      subst (λ n. RoundSoFar s.limits.file start n new) same (so_far (place + 1) clients start it.0 new it.2 (step_keeps place now it.0 it.1 kept) one)

  falls : (old new : RunState) → Kept old → Round r s old new → IsOver old ⊎ (work_left s.limits.file new < work_left s.limits.file old)
  falls old new kept round =
      let same : 0 + length old.clients ≡ length old.clients = omega arith in
      round_falls r s old new kept.main.run
      (subst (λ n. RoundSoFar s.limits.file old n new) same (so_far 0 (length old.clients) old old new round kept (round_begins r s old)))

  -- the end of a session
  pub record Ended (lines : List RunLine) (start end : RunState) : Type 0 where
    pub between : RunState
    pub follows : FollowsAll r s lines start between
    pub finishes : Finishes r s between end

  pub session_is : (lines : List RunLine) (start : RunState) → All (CanFollow (length start.clients)) lines → KeptState r s start → ((place : ℕ) (client : Client) → slice_get start.clients place ≡ Some client → IsServed client)
      → MustBe (Ended lines start)
  session_is lines start can kept served none =
      lines_is r s Kept step_is step_keeps asking_keeps lines start can (record { main = kept; clients = served })
      (λ between follows.
      rounds_is r s Kept step_is step_keeps asking_keeps (work_left s.limits.file) falls (work_left s.limits.file between) between (omega arith) follows.on.kept
      (λ end finishes. none end (record { between = between; follows = follows.goes; finishes = finishes.goes })))

module _ (script : Script) (kept : Keeps script) (typed : IsTyped script) where
  abbrev plan : SessionPlan
  plan = kept.built.plan

  -- what is told of the session, where main reads as this base and a run ends in this state
  abbrev told_of : BaseSeen Value → RunState → SessionSeen
  told_of base end = record { base = base; answers = flat_map lines_of end.clients; entries = end.shared.world.history; file = file_seen prefs_basis.file_limit end.shared.world.folder.main }

  abbrev nothing_yet : RunState
  nothing_yet = record { shared = record { world = world_of (tally_of 0 plan) (store_of prefs_basis script (first_beginning script) plan (record { base = Corrupt; answers = []; entries = []; file = Absent })); caches = [] }; clients = [] }

  abbrev chapter : SessionSeen → Chapter
  chapter told = chapter_of prefs_basis script (first_beginning script) [] plan told

  abbrev store : BaseSeen Value → PrefStore
  store base = (chapter (told_of base nothing_yet)).store

  abbrev start : BaseSeen Value → RunState
  start base = start_of [] (tally_of 0 plan) (store base) script.homes

  in_first : (P : SessionPlan → Type 0) → All P script.sessions → P plan
  in_first P all = All-head P plan [] (subst (λ sessions. All P sessions) kept.built.only all)

  many : (base : BaseSeen Value) → length (start base).clients ≡ length script.homes
  many base = length-map (enumerate_from 0 script.homes) (λ placed. new_client [] placed.0 placed.1) ∙ length-enumerate_from 0 script.homes

  can_follow : (base : BaseSeen Value) → All (CanFollow (length (start base).clients)) plan.lines
  can_follow base place d within =
      let run = (in_first (KeepsPlan script) kept.sessions.plans).runs place d within in
      let homes = many base in
      let one_each = kept.homes.one_each in
      let declared = run.declared in
      record { declared = omega (arith, declared, homes, one_each); built = kept.built.acts place d within; typed = in_first (λ p. All (λ (line : RunLine). IsTypedAct line.act) p.lines) typed place d within }

  module _ (base : BaseSeen Value) (reads : HasItsBase prefs_basis.rules.reads prefs_basis.rules.absent (store base)) where
    within : FailsWithin (store base) (tally_of 0 plan)
    within = plan_fails_within (store base) plan (omega arith) refl (in_first (KeepsPlan script) kept.sessions.plans).faults

    kept_start : KeptState prefs_basis.rules (store base) (start base)
    kept_start = start_keeps_main prefs_basis.rules (store base) reads [] (tally_of 0 plan) script.homes refl within (homes_declared script kept.homes.declared)

    ended_is : MustBe (Ended prefs_basis.rules (store base) (values_of_settings (store base) omega arith) refl (rw kept.built.unreplaced refl) (omega arith) plan.lines (start base))
    ended_is = session_is prefs_basis.rules (store base) (values_of_settings (store base) omega arith) refl (rw kept.built.unreplaced refl) (omega arith) plan.lines (start base) (can_follow base) kept_start
        (λ place client found. rw (new_from [] 0 script.homes place client found).is (record { asks = All-nil IsCalled; runs = tt }))

  -- it cannot be that there is no run
  pub run_is : MustBe (Runs prefs_basis script)
  run_is none =
      base_is prefs_basis.rules (store Corrupt) (start Corrupt).shared.world (first_beginning script).main
      (λ base reads.
      ended_is base reads
      (λ end it.
      let told = told_of base end in
      let transcript : Transcript = record { names = script.names; sessions = told ∷ [] } in
      let played : IsPlayed prefs_basis script [] (chapter told) =
      record {
        base = reads;
        between = it.between;
        follows = it.follows;
        end = end;
        ends = subst (λ stop. EndsBy prefs_basis.rules (store base) stop it.between end) (sym kept.built.unstopped) it.finishes;
        tells = record { answers = refl; entries = refl; file = refl };
      } in
      none transcript
      (record {
        names = refl;
        sessions = sym (ap (λ (xs : List SessionPlan). length xs) kept.built.only);
        played = subst (λ chapters. Each (IsPlayed prefs_basis script) chapters) (sym (one_chapter prefs_basis script plan told transcript refl kept.built.only kept.built.unstopped refl)) (each_walked (IsPlayed prefs_basis script) (chapter told ∷ []) (played, tt));
      })))

-- A session that was opened, followed its lines and was finished is the end of a run.
use Rattle.std.proofs.Common.{◌≡◌, ◌∙◌, [], ◌∷◌, get_or, length, All, IfOk, vec_len, refl, sym, ap, subst, arith, Result, Ok, Err}
use Rattle.std.proofs.Math.Logic.{∥∥₁_map}
use Rattle.std.proofs.lemmas.List.Elements.{All-head}
use Rattle.std.proofs.lemmas.List.{length-map}
use Rattle.std.proofs.lemmas.List.FromFn.{length-enumerate_from}
use Rattle.std.specs.List.{enumerate_from}
use Rattle.shelf.specs.Base.{HasItsBase}
use Rattle.shelf.proofs.EachLemmas.{each_walked}
use Rattle.script_lang.specs.declared.plan.run_line.Act.{Act}
use Rattle.script_lang.specs.declared.plan.run_line.Act.TheVariants as act
use Rattle.script_lang.specs.declared.plan.script.Script.{Script}
use Rattle.script_lang.specs.declared.plan.session_plan.SessionPlan.{SessionPlan}
use Rattle.script_lang.specs.declared.transcripts.file_seen.FileSeen.TheVariants.{Absent}
use Rattle.script_lang.specs.declared.transcripts.transcript.Transcript.{Transcript}
use Rattle.script_lang.specs.Chronicle.{Chapter, tally_of}
use Rattle.script_lang.specs.Keeps.{IsBuiltAct, Keeps, KeepsAct, KeepsPlan}
use Rattle.script_lang.specs.TranscriptView.{SessionSeen}
use Rattle.script_lang.proofs.GoodChapters.{one_chapter}
use Rattle.replay_run.specs.declared.running_session.RunningSession.{RunningSession}
use Rattle.replay_run.specs.EndInvariant.{EndInvariant}
use Rattle.replay_run.specs.Lines.{FollowsAll}
use Rattle.replay_run.specs.PrefsBasis.{prefs_basis}
use Rattle.replay_run.specs.Replays.{Replays}
use Rattle.replay_run.specs.Rounds.{EndsBy, Finishes}
use Rattle.replay_run.specs.RunState.{RunState}
use Rattle.replay_run.specs.ScriptRun.{IsPlayed, Tells}
use Rattle.replay_run.specs.SessionInvariant.{SessionInvariant}
use Rattle.replay_run.specs.SessionPlayed.{IsPlayedWell, first_chapter}
use Rattle.replay_run.specs.SessionSteps.{CanFollow, IsOpened, NamesNode}
use Rattle.replay_run.specs.SessionView.{client_seen, state_in, store_in}
use Rattle.replay_run.specs.Settings.{PrefStore}
use Rattle.replay_run.specs.ShelfOpens.{first_nodes}
use Rattle.replay_run.specs.Start.{new_client, start_of}
use Rattle.replay_run.proofs.session.OpeningLemmas.{among_first, nodes_numbered}
use Rattle.replay_run.proofs.truth.GoodRun.{good_session, one_plan, unstopped}

pub if_both : {X E : Type 0} {P Q R : X → Type 0} (r : Result X E) → IfOk r P → IfOk r Q → ((x : X) → P x → Q x → R x) → IfOk r R
if_both (Ok x) p q both = both x p q
if_both (Err e) p q both = tt

module _ (script : Script) (kept : Keeps script) (plan : SessionPlan) (planned : script.sessions ≡ plan ∷ []) where
  module _ (session : RunningSession) (opened : IsOpened script plan session) where
    -- the session has the nodes of the script
    nodes_are : (store_in session.shelf).nodes ≡ first_nodes (length script.names.nodes)
    nodes_are = ap (λ (s : PrefStore). s.nodes) (opened.store (record { base = (store_in session.shelf).base; answers = []; entries = []; file = Absent }) refl) ∙ nodes_numbered 0 script.names.nodes

    names_node : (a : Act) → KeepsAct script.names.nodes a → NamesNode (store_in session.shelf).nodes a
    names_node (act.Restart node) below = rw nodes_are (among_first (length script.names.nodes) node below)
    names_node other keeps = tt

    -- each line is of a client that the session has, and names its nodes
    pub lines_fit : All (CanFollow (vec_len session.clients) (store_in session.shelf).nodes) plan.lines
    lines_fit k d within =
        let keeps : KeepsPlan script plan = All-head (KeepsPlan script) plan [] (subst (λ plans. All (KeepsPlan script) plans) planned kept.sessions.plans) in
        let built : All (λ line. IsBuiltAct line.act) plan.lines = subst (λ (plan : SessionPlan). All (λ line. IsBuiltAct line.act) plan.lines) (one_plan script kept plan planned) kept.built.acts in
        let many : length (state_in session).clients ≡ length script.homes =
        ap (λ (state : RunState). length state.clients) opened.start ∙ (length-map (enumerate_from 0 script.homes) (λ placed. new_client [] placed.0 placed.1) ∙ length-enumerate_from 0 script.homes) in
        let run = keeps.runs k d within in
        record {
          declared =
              (let declared = run.declared in
              let each = kept.homes.one_each in
              let seen = length-map session.clients.items client_seen in
              let counted = session.clients.ok.0 in
              omega (arith, declared, each, many, seen, counted));
          asked = built k d within;
          named = names_node (get_or plan.lines k d).act run.act;
        }

  module _ (told : SessionSeen) where
    abbrev c : Chapter
    c = first_chapter prefs_basis script plan told

    module _ (start followed end : RunningSession) (opened : IsOpened script plan start) (follows : FollowsAll prefs_basis.rules (store_in start.shelf) plan.lines (state_in start) (state_in followed))
        (finishes : Finishes prefs_basis.rules (store_in followed.shelf) (state_in followed) (state_in end)) (keeps : SessionInvariant end) (first_store : store_in followed.shelf ≡ store_in start.shelf)
        (last_store : store_in end.shelf ≡ store_in followed.shelf) (tells : Tells prefs_basis told (state_in end)) (base : told.base ≡ (store_in end.shelf).base) where
      first : store_in start.shelf ≡ c.store
      first = opened.store told (base ∙ ap (λ (s : PrefStore). s.base) (last_store ∙ first_store))

      last : store_in end.shelf ≡ c.store
      last = last_store ∙ (first_store ∙ first)

      follows_here : FollowsAll prefs_basis.rules c.store plan.lines (start_of [] (tally_of c.store.folder.count plan) c.store script.homes) (state_in followed)
      follows_here =
          subst (λ s. FollowsAll prefs_basis.rules s plan.lines (start_of [] (tally_of s.folder.count plan) s script.homes) (state_in followed)) first
          (subst (λ state. FollowsAll prefs_basis.rules (store_in start.shelf) plan.lines state (state_in followed)) opened.start follows)

      ends_here : EndsBy prefs_basis.rules c.store plan.stop (state_in followed) (state_in end)
      ends_here =
          subst (λ stop. EndsBy prefs_basis.rules c.store stop (state_in followed) (state_in end)) (sym (unstopped script kept plan planned))
          (subst (λ s. Finishes prefs_basis.rules s (state_in followed) (state_in end)) (first_store ∙ first) finishes)

      -- what is told is the end of a run, in which the history is lawful
      pub played_well : ∥ IsPlayedWell prefs_basis script plan told ∥₁
      played_well =
          ∥∥₁_map end.shelf.kept
          (λ it.
          let main = it.main refl in
          record {
            played =
                record {
                  base = subst (λ (s : PrefStore). HasItsBase prefs_basis.rules.reads prefs_basis.rules.absent s) last main.base;
                  between = state_in followed;
                  follows = follows_here;
                  end = state_in end;
                  ends = ends_here;
                  tells = tells;
                };
            ends = subst (λ (s : PrefStore). EndInvariant prefs_basis.rules s (state_in end)) last (record { state = keeps.state; history = main.legal; main = main.main });
          })

    -- a transcript of such a session is that of a replay
    pub replays_well : (transcript : Transcript) → transcript.names ≡ script.names → transcript.sessions ≡ told ∷ [] → ∥ IsPlayedWell prefs_basis script plan told ∥₁ → ∥ Replays prefs_basis script transcript ∥₁
    replays_well transcript names tells well =
        ∥∥₁_map well
        (λ it.
        let chapter = one_chapter prefs_basis script plan told transcript names planned (unstopped script kept plan planned) tells in
        record {
          run = record { names = names; sessions = rw (planned, tells) refl; played = rw chapter (each_walked (IsPlayed prefs_basis script) (c ∷ []) (it.played, tt)) };
          good = good_session script kept plan planned prefs_basis told transcript names tells it;
        })

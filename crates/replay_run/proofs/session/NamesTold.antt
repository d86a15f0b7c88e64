-- Whoever is told of in a session has a name.
use Rattle.std.proofs.Common.{◌≡◌, ◌∙◌, ◌<◌, ℕ, Bool, true, false, List, [], ◌∷◌, ◌++◌, map, length, length-append, append_assoc, Option, Some, None, IfSome, refl, ap, arith}
use Rattle.std.proofs.Math.Bridge.{le_prop}
use Rattle.std.proofs.Math.Logic.{∥∥₁_elim, ∥∥₁_map}
use Rattle.std.proofs.lemmas.Bool.{eqb-true}
use Rattle.std.proofs.lemmas.Bool.Decides.{nat_tests}
use Rattle.std.proofs.lemmas.List.Elements.{All-cons, All-contains, All-nil}
use Rattle.std.proofs.lemmas.List.{length-map}
use Rattle.store_traits.specs.declared.ids.CallId.{CallId}
use Rattle.store_traits.specs.declared.ids.NodeId.{NodeId}
use Rattle.hist_journal.specs.declared.seen.KindSeen.TheVariants.{Inited, Death, Restart}
use Rattle.hist_journal.specs.Kinds.{is_death_of}
use Rattle.hist_journal.specs.Nodes.{is_dead}
use Rattle.prefs_text.specs.AnswerText.{AnswerHasNames}
use Rattle.prefs_text.specs.Callers.{HasCaller, actor_name}
use Rattle.prefs_text.specs.EntryText.{EntryHasNames, KindHasNames, PrefEntry, PrefKind}
use Rattle.shelf.specs.Legal.{Fits}
use Rattle.shelf.proofs.Bools.{never}
use Rattle.shelf.proofs.DeathLemmas.{dead_died}
use Rattle.script_lang.specs.declared.plan.script.Script.{Script}
use Rattle.script_lang.specs.declared.plan.session_plan.SessionPlan.{SessionPlan}
use Rattle.script_lang.specs.declared.transcripts.transcript.Transcript.{Transcript}
use Rattle.script_lang.specs.Asked.{home_of, is_actor}
use Rattle.script_lang.specs.Chronicle.{Chapter}
use Rattle.script_lang.specs.GoodAnswers.{IsHome}
use Rattle.script_lang.specs.Keeps.{Keeps}
use Rattle.script_lang.specs.TranscriptText.{HasNames, SessionHasNames}
use Rattle.script_lang.specs.TranscriptView.{SessionSeen}
use Rattle.script_lang.proofs.GoodChapters.{ChapterIsGood}
use Rattle.replay_run.specs.PrefsBasis.{prefs_basis}
use Rattle.replay_run.specs.SessionPlayed.{IsPlayedWell, first_chapter}
use Rattle.replay_run.proofs.lists.JoinedLemmas.{all_each}
use Rattle.replay_run.proofs.lists.TestLemmas.{some_passes}
use Rattle.replay_run.proofs.truth.GoodRun.{good_chapter}

-- what a bound needs may be known to be there alone
bounded : {X : Type 0} {m n : ℕ} → ∥ X ∥₁ → (X → m < n) → m < n
bounded it so = ∥∥₁_elim it le_prop so

module _ (script : Script) (kept : Keeps script) where
  -- whoever is at home has a node of the script
  node_named : (call : CallId) → IsHome script call → call.node.0 < length script.names.nodes
  node_named call it = rw it.home (by_actor (is_actor script call.client) refl)
    where
      by_actor : (b : Bool) → is_actor script call.client ≡ b → (home_of script call.client).0 < length script.names.nodes
      by_actor true is = rw is (let known = it.known in let both = length-append script.names.clients (map actor_name script.names.nodes) in let named = length-map script.names.nodes actor_name in grind (arith, nat_tests, is, known, both, named))
      by_actor false is = rw is (kept.homes.declared call.client.0 (record { 0 = 0 }) (let each = kept.homes.one_each in grind (arith, nat_tests, is, each)))

  module _ (plan : SessionPlan) (planned : script.sessions ≡ plan ∷ []) (told : SessionSeen) where
    abbrev c : Chapter
    c = first_chapter prefs_basis script plan told

    -- what is known of an entry of the session
    record IsFitting (before : List PrefEntry) (e : PrefEntry) : Type 0 where
      pub home : IsHome script e.who
      pub fits : Fits prefs_basis.rules.meanings c.store before e

    -- whoever dies in an entry is the node of its call
    death_named : (before : List PrefEntry) (who : CallId) (kind : PrefKind) (node : NodeId) → IsFitting before (record { who = who; kind = kind }) → is_death_of node kind ≡ true → node.0 < length script.names.nodes
    death_named before who (Death died) node it is = rw (eqb-true node.0 died.0 is, it.fits.lifetimes.named) (node_named who it.home)
    death_named before who other node it is = never is

    poster_named : (poster : Option CallId) → ∥ IfSome poster (λ call. IsHome script call) ∥₁ → IfSome poster (λ call. HasCaller script.names call.client)
    poster_named None it = tt
    poster_named (Some call) it = bounded it (λ home. home.known)

    module _ (well : ∥ IsPlayedWell prefs_basis script plan told ∥₁) where
      good : ∥ ChapterIsGood prefs_basis script c ∥₁
      good = ∥∥₁_map well (good_chapter script kept plan planned prefs_basis told)

      fitting : (before : List PrefEntry) (e : PrefEntry) (behind : List PrefEntry) → told.entries ≡ before ++ e ∷ behind → ∥ IsFitting before e ∥₁
      fitting before e behind is =
          ∥∥₁_map well
          (λ it.
          let good = good_chapter script kept plan planned prefs_basis told it in
          record {
            home = good.homes.entries before e behind is;
            fits = good.lawful.history.each before e behind is;
          })

      module _ (before : List PrefEntry) (e : PrefEntry) (behind : List PrefEntry) (is : told.entries ≡ before ++ e ∷ behind) where
        -- a node that is dead by then died in an entry before
        dead_named : (node : NodeId) → is_dead node before ≡ true → node.0 < length script.names.nodes
        dead_named node dead =
            let Named : PrefEntry → Type 0 = λ x. is_death_of node x.kind ≡ true → node.0 < length script.names.nodes in
            let one = some_passes (λ (x : PrefEntry). is_death_of node x.kind) before (dead_died node before dead) in
            All-contains Named before one.0
            (all_each Named [] before
            (λ front x rest at dies. bounded (fitting front x (rest ++ e ∷ behind) (is ∙ (ap (λ list. list ++ e ∷ behind) at ∙ append_assoc front (x ∷ rest) (e ∷ behind)))) (λ it. death_named front x.who x.kind node it dies)))
            one.1
            one.2

        kind_named : (kind : PrefKind) → ∥ IsFitting before (record { who = e.who; kind = kind }) ∥₁ → KindHasNames script.names kind
        kind_named (Inited node) it = bounded it (λ it. rw it.fits.readiness.named (node_named e.who it.home))
        kind_named (Death node) it = bounded it (λ it. rw it.fits.lifetimes.named (node_named e.who it.home))
        kind_named (Restart node) it = bounded it (λ it. dead_named node it.fits.lifetimes.named)
        kind_named other it = tt

      names_told : SessionHasNames script.names told
      names_told =
          record {
            answers =
                all_each (AnswerHasNames script.names) [] told.answers
                (λ before line behind is.
                record {
                  caller = bounded good (λ it. (it.homes.answers before line behind is).home.known);
                  poster = poster_named line.poster (∥∥₁_map good (λ it. (it.homes.answers before line behind is).poster_home));
                });
            entries =
                all_each (EntryHasNames script.names) [] told.entries
                (λ before e behind is. record { caller = bounded (fitting before e behind is) (λ it. it.home.known); node = kind_named before e behind is e.kind (fitting before e behind is) });
          }

      module _ (transcript : Transcript) (names : transcript.names ≡ script.names) (tells : transcript.sessions ≡ told ∷ []) where
        -- whoever its text names has a name
        pub names_well : HasNames transcript
        names_well = rw (names, tells) (All-cons (SessionHasNames script.names) told [] names_told (All-nil (SessionHasNames script.names)))

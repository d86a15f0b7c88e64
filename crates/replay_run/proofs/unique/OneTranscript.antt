-- A script comes to one transcript.
use Rattle.std.proofs.Common.{◌≡◌, ◌∙◌, ℕ, ◌++◌, List, [], ◌∷◌, flat_map, length, refl, sym, ap, subst}
use Rattle.prefs_model.specs.declared.pref_pair.PrefPair.{PrefPair}
use Rattle.shelf.specs.Each.{Each}
use Rattle.shelf.proofs.ReadingLemmas.{one_base}
use Rattle.script_lang.specs.declared.plan.run_line.RunLine.{RunLine}
use Rattle.script_lang.specs.declared.plan.script.Script.{Script}
use Rattle.script_lang.specs.declared.plan.session_plan.SessionPlan.{SessionPlan}
use Rattle.script_lang.specs.declared.transcripts.transcript.Transcript.{Transcript}
use Rattle.script_lang.specs.Asked.{Asked}
use Rattle.script_lang.specs.Chronicle.{Basis, Beginning, Chapter, chapter_of, chronicle, first_beginning, next_beginning, store_of, tally_of}
use Rattle.script_lang.specs.TranscriptView.{SessionSeen}
use Rattle.replay_run.specs.Lines.{FollowsAll}
use Rattle.replay_run.specs.Rounds.{EndsBy}
use Rattle.replay_run.specs.RunState.{RunState}
use Rattle.replay_run.specs.ScriptRun.{IsPlayed, Runs, Tells}
use Rattle.replay_run.specs.Settings.{PrefStore}
use Rattle.replay_run.specs.Start.{start_of}
use Rattle.replay_run.proofs.unique.OneRun.{ends_once, lines_once}

module _ (b : Basis) (script : Script) where
  -- where what holds of a chapter settles what is told of it, sessions are told in one way
  told_once : (Holds : List Chapter → Chapter → Type 0)
      → ((before : List Chapter) (start : Beginning) (lines : List RunLine) (plan : SessionPlan) (x y : SessionSeen) → Holds before (chapter_of b script start lines plan x) → Holds before (chapter_of b script start lines plan y) → x ≡ y)
      → (start : Beginning) (lines : List RunLine) (plans : List SessionPlan) (told also : List SessionSeen) → length told ≡ length plans → length also ≡ length plans
      → Each Holds (chronicle b script start lines plans told) → Each Holds (chronicle b script start lines plans also) → told ≡ also
  unfolding chronicle
  told_once Holds once start lines [] [] [] long too all others = refl
  told_once Holds once start lines [] (x ∷ told) also long too all others = absurd cc
  told_once Holds once start lines [] [] (y ∷ also) long too all others = absurd cc
  told_once Holds once start lines (plan ∷ plans) [] also long too all others = absurd cc
  told_once Holds once start lines (plan ∷ plans) (x ∷ told) [] long too all others = absurd cc
  told_once Holds once start lines (plan ∷ plans) (x ∷ told) (y ∷ also) long too all others =
      let c : Chapter = chapter_of b script start lines plan x in
      let same : x ≡ y = once [] start lines plan x y (all [] _ _ refl) (others [] _ _ refl) in
      let theirs : Each Holds (chronicle b script start lines (plan ∷ plans) (x ∷ also)) = subst (λ (z : SessionSeen). Each Holds (chronicle b script start lines (plan ∷ plans) (z ∷ also))) (sym same) others in
      let rest : told ≡ also =
      told_once (λ before. Holds (c ∷ before)) (λ before. once (c ∷ before)) (next_beginning b c) (lines ++ plan.lines) plans told also (cc) (cc)
      (λ before d behind is. all (c ∷ before) d behind (ap (λ (ds : List Chapter). c ∷ ds) is)) (λ before d behind is. theirs (c ∷ before) d behind (ap (λ (ds : List Chapter). c ∷ ds) is)) in
      rw (same, rest) refl

  module _ (read_once : (bytes : List ℕ) (x y : List PrefPair) → b.rules.reads bytes x → b.rules.reads bytes y → x ≡ y) where
    played_once : (before : List Chapter) (start : Beginning) (lines : List RunLine) (plan : SessionPlan) (x y : SessionSeen) → IsPlayed b script before (chapter_of b script start lines plan x) → IsPlayed b script before (chapter_of b script start lines plan y) → x ≡ y
    played_once before start lines plan x y one other =
        let base : x.base ≡ y.base = one_base b.rules.reads b.rules.absent b.file_limit read_once start.main x.base y.base one.base other.base in
        let store : store_of b script start plan y ≡ store_of b script start plan x = rw base refl in
        let earlier : List Asked = flat_map (λ c. c.asked) before in
        let follows = subst (λ (s : PrefStore). FollowsAll b.rules s plan.lines (start_of earlier (tally_of s.folder.count plan) s script.homes) other.between) store other.follows in
        let ends = subst (λ (s : PrefStore). EndsBy b.rules s plan.stop other.between other.end) store other.ends in
        let first = lines_once b.rules (store_of b script start plan x) read_once plan.lines _ one.between other.between refl one.follows follows in
        let end : one.end ≡ other.end = ends_once b.rules (store_of b script start plan x) read_once plan.stop one.between one.end other.end first.told one.ends (subst (λ (state : RunState). EndsBy b.rules (store_of b script start plan x) plan.stop state other.end) (sym first.same) ends) in
        let tells : Tells b x other.end = subst (λ (state : RunState). Tells b x state) end one.tells in
        let answers : x.answers ≡ y.answers = tells.answers ∙ sym other.tells.answers in
        let entries : x.entries ≡ y.entries = tells.entries ∙ sym other.tells.entries in
        let file : x.file ≡ y.file = tells.file ∙ sym other.tells.file in
        rw (base, answers, entries, file) refl

-- the transcript of a run of the script is one
pub runs_once : (b : Basis) → ((bytes : List ℕ) (x y : List PrefPair) → b.rules.reads bytes x → b.rules.reads bytes y → x ≡ y) → (script : Script) (one other : Transcript) → Runs b script one → Runs b script other → one ≡ other
runs_once b read_once script one other run also =
    let names : one.names ≡ other.names = run.names ∙ sym also.names in
    let sessions : one.sessions ≡ other.sessions =
    told_once b script (IsPlayed b script) (played_once b script read_once) (first_beginning script) [] script.sessions one.sessions other.sessions run.sessions also.sessions run.played also.played in
    rw (names, sessions) refl

-- What the rules ask of the only session of a script, which goes well to its end.
use Rattle.std.proofs.Common.{◌≡◌, ◌∙◌, inl, inr, ◌≤◌, ◌+◌, ◌-◌, ◌^◌, ◌||◌, min, ℕ, nat_lt, Bool, true, false, List, [], ◌∷◌, ◌++◌, cond, length, All, Contains, Option, Some, None, IfSome, MatchOption, count_by, is_some, if◌then◌else◌, refl, sym, ap, subst, arith}
use Rattle.std.specs.List.{filter, list_any}
use Rattle.std.proofs.lemmas.Bool.{ne_eqb}
use Rattle.std.proofs.lemmas.Bool.Decides.{nat_tests}
use Rattle.std.proofs.lemmas.List.Sums.{sum_by-cons}
use Rattle.std.proofs.lemmas.Option.{slice_get_cases}
use Rattle.store_traits.specs.declared.ids.CallId.{CallId}
use Rattle.store_traits.specs.declared.ids.NodeId.{NodeId}
use Rattle.store_traits.specs.declared.read_error.ReadError.{ReadError}
use Rattle.store_traits.specs.declared.update_error.UpdateError.{UpdateError}
use Rattle.store_traits.specs.declared.ids.ClientId.{ClientId}
use Rattle.folder_disk.specs.Planned.{left_to_strike}
use Rattle.folder_disk.proofs.OrderLemmas.{length_in_order}
use Rattle.hist_journal.specs.declared.seen.KindSeen.TheVariants.{Fault}
use Rattle.hist_journal.specs.declared.device.Device.TheVariants.{Folder, Legacy}
use Rattle.prefs_text.specs.EntryText.{PrefEntry, PrefKind}
use Rattle.prefs_text.specs.declared.seen.AnswerLineSeen.{AnswerLineSeen}
use Rattle.prefs_text.specs.declared.seen.AnswerSeen.{AnswerSeen}
use Rattle.prefs_text.specs.declared.seen.AnswerSeen.TheVariants as seen
use Rattle.shelf.specs.Entries.{is_death, is_own, is_update}
use Rattle.shelf.specs.Places.{is_fault_of}
use Rattle.shelf.specs.Base.{HasItsBase}
use Rattle.shelf.proofs.Bools.{never}
use Rattle.shelf.proofs.RaiseLemmas.{none_of_fewer}
use Rattle.shelf.proofs.SameCalls.{itself}
use Rattle.script_lang.specs.AnswerForms.{answers, is_cut, read_error, update_error}
use Rattle.script_lang.specs.Asked.{is_actor}
use Rattle.script_lang.specs.Chronicle.{Basis, Chapter}
use Rattle.script_lang.specs.GoodAnswers.{HasForm, IsAsked, IsHome, IsTold, is_answer_of}
use Rattle.script_lang.specs.GoodCauses.{HasCauseBy, HasCauseOfRead, HasRestartCause, HasUpdateCause, IsCaused, IsOwnEdit, is_posted, may_stand}
use Rattle.script_lang.specs.GoodPosts.{DoesJob, IsDoneBy}
use Rattle.script_lang.specs.GoodReads.{GivesValue, KeepsFlow}
use Rattle.script_lang.specs.GoodUpdates.{IsDone, has_restart}
use Rattle.script_lang.specs.Shown.{last_flow, shown_to}
use Rattle.script_lang.specs.declared.plan.run_line.Act.{Act}
use Rattle.script_lang.specs.declared.plan.run_line.Act.TheVariants as act
use Rattle.script_lang.specs.declared.plan.script.Script.{Script}
use Rattle.script_lang.specs.Good.{file_seen}
use Rattle.script_lang.specs.GoodFailures.{IsPlanned, Spares, faults_of}
use Rattle.script_lang.proofs.GoodChapters.{ChapterIsGood}
use Rattle.replay_run.specs.ClientInvariant.{CarriesAsked, CarriesOwn, IsExplained, IsReadExplained, IsRestartExplained, IsUpdateExplained, is_restarted}
use Rattle.replay_run.specs.RunInvariant.{IsOfCall, is_later_work}
use Rattle.replay_run.specs.RunState.{Client, call_at}
use Rattle.replay_run.specs.Settings.{Change}
use Rattle.replay_run.proofs.truth.Told.{EndsWell, IsTrueLine, answers_are, kept, none_stands, over, true_lines}
use Rattle.replay_run.proofs.lists.StandLemmas.{Stands, all_at, contains_at, found_stands, stands_joined}
use Rattle.replay_run.proofs.keeping.Deaths.{is_folder_fault}
use Rattle.replay_run.proofs.lists.JoinedLemmas.{all_each}
use Rattle.replay_run.proofs.truth.EachOnce.{each_once, filter_none}

-- a line without a poster is a client's
unposted : (P : Type 0) (Q : CallId → Type 0) (poster : Option CallId) → poster ≡ None → P → MatchOption poster P Q
unposted P Q poster none it = rw none it

module _ {E : Type 0} (P : E → Type 0) where
  some_error : (o : Option E) (b : Bool) → MatchOption o ⊥ P → (is_some o || b) ≡ true
  some_error None b it = absurd it
  some_error (Some err) b it = refl

  error_holds : (o : Option E) → MatchOption o ⊥ P → IfSome o P
  error_holds None it = tt
  error_holds (Some err) it = it

later_fails : (kind : PrefKind) → is_later_work kind ≡ false → is_fault_of Legacy kind ≡ false
later_fails (Fault Legacy count) none = never (sym none)
later_fails (Fault Folder count) none = refl
later_fails other none = refl

counted : {X : Type 0} (p : X → Bool) (xs : List X) → list_any p xs ≡ nat_lt 0 (count_by p xs)
counted p [] = refl
counted p (x ∷ xs) = rw (sum_by-cons (λ x. cond (p x) 1 0) x xs) (by_test (p x) (counted p xs))
  where
    by_test : (b : Bool) → list_any p xs ≡ nat_lt 0 (count_by p xs) → (b || list_any p xs) ≡ nat_lt 0 (cond b 1 0 + count_by p xs)
    by_test true rest = grind (arith, nat_tests)
    by_test false rest = rw rest (grind (arith, nat_tests))

module _ (b : Basis) (script : Script) (c : Chapter) (k : EndsWell b script c) where
  built : list_any (λ (e : PrefEntry). is_later_work e.kind) c.told.entries ≡ false
  built = rw k.tells.entries k.known.state.built

  module _ (before : List AnswerLineSeen) (line : AnswerLineSeen) (behind : List AnswerLineSeen) (is : c.told.answers ≡ before ++ line ∷ behind) where
    abbrev it : IsTrueLine b script c c.told.entries before line
    it = true_lines b script c k before line behind is

    abbrev shown : ℕ
    shown = shown_to line.call.client c.told.entries before

    abbrev UpdateCause : Change → UpdateError → Type 0
    UpdateCause edit err = HasUpdateCause b c before line err edit

    abbrev ReadCause : ReadError → Type 0
    ReadCause = HasCauseOfRead b c before line

    abbrev Caused : Act → AnswerSeen → Type 0
    Caused (act.Update edit) answer = IfSome (update_error answer) (UpdateCause edit)
    Caused act.Read answer = IfSome (read_error answer) ReadCause
    Caused (act.Restart node) answer = HasRestartCause b c line.call node answer
    Caused other answer = ⊥

    -- it has no Restart, unless it is answered by one
    abbrev BringsNobody : AnswerSeen → Type 0
    BringsNobody answer = is_restarted answer ≡ false → has_restart line.call c.told.entries ≡ false

    -- what the rules ask of an answer to a call for this
    record IsFine (asked : Act) (answer : AnswerSeen) : Type 0 where
      pub form : answers asked answer ≡ true
      pub uncut : is_cut answer ≡ false
      pub no_post : is_posted answer ≡ false
      pub done : IsDone c line answer
      pub gives : GivesValue b c answer
      pub flow : KeepsFlow c (last_flow line.call.client None before) answer
      pub caused : Caused asked answer

    fine_update : (edit : Change) → Contains c.asked (record { call = line.call; act = act.Update edit }) → (answer : AnswerSeen) → IsUpdateExplained b.rules c.store c.told.entries shown line.call edit answer → BringsNobody answer → IsFine (act.Update edit) answer
    fine_update edit asked (seen.Updated edition) told none =
        record {
          form = refl;
          uncut = refl;
          no_post = refl;
          done = (record { edit = edit; carried = unposted _ _ line.poster it.poster asked; updated = told }, none refl);
          gives = tt;
          flow = tt;
          caused = tt;
        }
    fine_update edit asked (seen.Read edition value) told none = absurd told
    fine_update edit asked (seen.Flow edition value) told none = absurd told
    fine_update edit asked (seen.Unchanged edition) told none = absurd told
    fine_update edit asked (seen.Restarted place) told none = absurd told
    fine_update edit asked seen.Posted told none = absurd told
    fine_update edit asked seen.Cut told none = absurd told
    fine_update edit asked other told none =
        record {
          form = some_error (UpdateCause edit) (update_error other) (is_cut other) told;
          uncut = refl;
          no_post = refl;
          done = none refl;
          gives = tt;
          flow = tt;
          caused = error_holds (UpdateCause edit) (update_error other) told;
        }

    fine_read : (answer : AnswerSeen) → IsReadExplained b.rules c.store c.told.entries shown line.call answer → BringsNobody answer → IsFine act.Read answer
    fine_read (seen.Read edition value) told none =
        record {
          form = refl;
          uncut = refl;
          no_post = refl;
          done = none refl;
          gives = told;
          flow = tt;
          caused = tt;
        }
    fine_read (seen.Updated edition) told none = absurd told
    fine_read (seen.Flow edition value) told none = absurd told
    fine_read (seen.Unchanged edition) told none = absurd told
    fine_read (seen.Restarted place) told none = absurd told
    fine_read seen.Posted told none = absurd told
    fine_read seen.Cut told none = absurd told
    fine_read other told none =
        record {
          form = some_error ReadCause (read_error other) (is_cut other) told;
          uncut = refl;
          no_post = refl;
          done = none refl;
          gives = tt;
          flow = tt;
          caused = error_holds ReadCause (read_error other) told;
        }

    fine_restart : (node : NodeId) → Contains c.asked (record { call = line.call; act = act.Restart node }) → (answer : AnswerSeen) → IsRestartExplained b.rules c.store c.told.entries line.call node answer → BringsNobody answer → IsFine (act.Restart node) answer
    fine_restart node asked (seen.Restarted place) told none =
        record {
          form = refl;
          uncut = refl;
          no_post = refl;
          done = record { node = node; asked = asked; only = told };
          gives = tt;
          flow = tt;
          caused = tt;
        }
    fine_restart node asked seen.NotDead told none =
        record {
          form = refl;
          uncut = refl;
          no_post = refl;
          done = none refl;
          gives = tt;
          flow = tt;
          caused = told;
        }
    fine_restart node asked (seen.Died place) told none =
        record {
          form = refl;
          uncut = refl;
          no_post = refl;
          done = none refl;
          gives = tt;
          flow = tt;
          caused = told;
        }
    fine_restart node asked other told none = absurd told

    fine : (asked : Act) → Contains c.asked (record { call = line.call; act = asked }) → (answer : AnswerSeen) → IsExplained b.rules c.store c.told.entries shown line.call asked answer → BringsNobody answer → IsFine asked answer
    fine (act.Update edit) asked answer told none = fine_update edit asked answer told none
    fine act.Read asked answer told none = fine_read answer told none
    fine (act.Restart node) asked answer told none = fine_restart node asked answer told none
    fine other asked answer told none = absurd told

    abbrev answer : IsFine it.act line.answer
    answer = fine it.act it.asked line.answer it.explained it.restarts

    has_cause : (asked : Act) → Caused asked line.answer → HasCauseBy b c before line asked
    has_cause (act.Update edit) is = is
    has_cause act.Read is = is
    has_cause (act.Restart node) is = is
    has_cause other is = absurd is

    is_told : IsTold script line
    is_told = record { home = it.home; poster = ap (λ o. is_some o) it.poster ∙ sym it.client; poster_home = unposted _ _ line.poster it.poster tt }

    formed : HasForm c line
    formed = unposted _ _ line.poster it.poster (record { act = it.act; asked = it.asked; fits = answer.form })

    caused : IsCaused b c before line
    caused = unposted _ _ line.poster it.poster (record { act = it.act; asked = it.asked; fits = has_cause it.act answer.caused })

    no_job : IfSome line.poster (DoesJob c before line)
    no_job = unposted _ _ line.poster it.poster tt

    not_posted : line.answer ≡ seen.Posted → IsDoneBy c line.call
    not_posted posted = never (sym answer.no_post ∙ ap is_posted posted)

  module _ (before : List PrefEntry) (e : PrefEntry) (behind : List PrefEntry) (is : c.told.entries ≡ before ++ e ∷ behind) where
    -- the answer of its call
    record IsAnswered : Type 0 where
      pub line : AnswerLineSeen
      pub at : Stands c.told.answers line
      pub own : line.call ≡ e.who

    by_call : IsOfCall k.end.clients e → IsAnswered
    by_call of =
        elim (slice_get_cases of.client.answered of.place).1 [
          | inl found ↦ (let stands = found_stands of.client.answered of.place found.0 found.2 in
              let joined = stands_joined (λ (client : Client). client.answered) k.end.clients e.who.client.0 of.client found.0 of.found stands.0 in
              record {
                line = found.0;
                at = record { before = joined.before; behind = joined.behind; is = answers_are b script c k ∙ joined.is };
                own = ((kept b script c k e.who.client.0 of.client of.found).answers stands.0.before found.0 stands.0.behind stands.0.is).call ∙ (ap (λ n. call_at of.client n) stands.1 ∙ sym of.who);
              })
          | inr past ↦ absurd (let none : ◌≡◌ {A = ℕ} (if is_some of.client.running then 1 else 0) 0 = rw ((over b script c k e.who.client.0 of.client of.found).0) refl in
              let fits = of.begun in omega (arith, past.0, fits, none))
        ]

    answered : IsAnswered
    answered = by_call (all_at (IsOfCall k.end.clients) before e behind (subst (λ list. All (IsOfCall k.end.clients) list) (sym k.tells.entries ∙ is) k.known.state.entries))

    abbrev line : AnswerLineSeen
    line = answered.line

    abbrev truth : IsTrueLine b script c c.told.entries answered.at.before line
    truth = it answered.at.before line answered.at.behind answered.at.is

    entry_home : IsHome script e.who
    entry_home = subst (λ call. IsHome script call) answered.own truth.home

    entry_asked : IsAsked c e.who (λ act. Unit {0})
    entry_asked = record { act = truth.act; asked = subst (λ call. Contains c.asked (record { call = call; act = truth.act })) answered.own truth.asked; fits = tt }

    entry_lives : is_death e.kind ≡ true → IsPlanned c.plan.deaths before e.who
    entry_lives dead = subst (λ planned. IsPlanned planned before e.who) k.deaths (k.known.state.deaths before e behind (sym k.tells.entries ∙ is) dead)

    module _ (update : is_update e.kind ≡ true) where
      mine : is_own is_update line.call e ≡ true
      mine = rw (answered.own, update, itself e.who) refl

      -- what is answered otherwise has no Edit and no Same
      may : (b : Bool) → may_stand line.answer ≡ b → b ≡ true
      may true says = refl
      may false says = never (sym (none_stands (is_own is_update line.call) c.told.entries before behind e (truth.none says) is) ∙ mine)

      own_by : (asked : Act) → Contains c.asked (record { call = line.call; act = asked }) → CarriesAsked asked e.kind → IsOwnEdit b c e
      own_by (act.Update edit) asked carried =
          record {
            line = line;
            edit = edit;
            answered = subst (λ list. Contains list line) (sym answered.at.is) (contains_at answered.at.before line answered.at.behind);
            own = answered.own;
            may = may (may_stand line.answer) refl;
            asked = unposted _ _ line.poster truth.poster asked;
            carried = carried;
          }
      own_by other asked carried = absurd carried

      own_edit : IsOwnEdit b c e
      own_edit =
          own_by truth.act truth.asked
          (all_at (λ e. is_own is_update line.call e ≡ true → CarriesAsked truth.act e.kind) before e behind (subst (λ list. CarriesOwn line.call truth.act list) is truth.carried) mine)

  -- the count of faults has not come to its end, and tells them all
  faults_planned : c.plan.fuse ≡ None → faults_of c ≤ length c.plan.folder_faults
  faults_planned unfused =
      let w = k.end.shared.world in
      let failing = k.known.state.failing in
      let folder = k.folder in
      let few = k.few in
      let most : c.store.folder.most ≡ Some (min (0 + length c.plan.folder_faults) (2 ^ 64 - 1)) = rw (folder, unfused, length_in_order c.plan.folder_faults) refl in
      let struck = subst (λ most. IfSome most (λ most. min (w.tally.count + left_to_strike w.tally.due.made w.tally.due.planned) (2 ^ 64 - 1) ≤ most)) most failing.struck in
      let counted : w.tally.count ≡ min (0 + count_by is_folder_fault w.history) (2 ^ 64 - 1) = k.known.state.faults ∙ rw folder refl in
      rw k.tells.entries (omega (arith, few, struck, counted))

  old_faults_none : count_by (λ (e : PrefEntry). is_fault_of Legacy e.kind) c.told.entries ≡ 0
  old_faults_none =
      let none = none_of_fewer (λ (e : PrefEntry). is_fault_of Legacy e.kind) (λ (e : PrefEntry). is_later_work e.kind) c.told.entries (λ e none. later_fails e.kind none) built in
      let counted = sym (counted (λ (e : PrefEntry). is_fault_of Legacy e.kind) c.told.entries) ∙ none in grind (arith, nat_tests, counted)

  pub chapter_good : HasItsBase b.rules.reads b.rules.absent c.store → ChapterIsGood b script c
  chapter_good base =
      record {
        homes = record { answers = is_told; entries = entry_home };
        lawful = record { base = base; history = rw k.tells.entries k.known.history };
        answers =
            record {
              each_once = each_once b script c k;
              in_order = λ before line behind is. (it before line behind is).in_order;
              formed = formed;
              own_entries = λ before e behind is. inr (entry_asked before e behind is);
              cut_by_stop = λ before line behind is cut. never (sym (answer before line behind is).uncut ∙ cut);
            };
        updates = λ before line behind is. (answer before line behind is).done;
        reads = λ before line behind is. (answer before line behind is).gives;
        fresh = λ before line behind is. record { late = (it before line behind is).late; flow = (answer before line behind is).flow };
        causes = record { errors = caused; edits = own_edit };
        jobs = record { jobs = no_job; all = λ unstopped. not_posted };
        plans =
            record {
              deaths = record { deaths = entry_lives; spared = λ before line behind is. subst (λ planned. Spares planned c.told.entries line.call line.answer) k.deaths (it before line behind is).spared };
              faults = record { folder = faults_planned; legacy = old_faults_none };
            };
        file = rw k.tells.entries (k.tells.file ∙ ap (file_seen b.file_limit) k.known.main);
      }

  -- no answer is an actor's
  pub none_of_actors : (actor : ClientId) → is_actor script actor ≡ true → filter (is_answer_of actor.0) c.told.answers ≡ []
  none_of_actors actor is =
      filter_none (is_answer_of actor.0) c.told.answers
      (all_each (λ line. is_answer_of actor.0 line ≡ false) [] c.told.answers
      (λ before line behind there.
      let client = (it before line behind there).client in
      ne_eqb actor.0 line.call.client.0 (λ same. never (sym client ∙ (ap (λ k. is_actor script (record { 0 = k })) (sym same) ∙ is)))))

-- The answers of a client stay true as the history grows.
use Rattle.std.proofs.Common.{◌≡◌, ◌∙◌, inl, inr, ◌≤◌, ◌+◌, ◌==◌, ◌&&◌, max, nat_le, ℕ, Bool, true, false, List, [], ◌∷◌, ◌++◌, take, drop, length, length-append, All, Option, Some, None, MatchOption, unwrap_or, append_assoc, slice_get, if◌then◌else◌, refl, sym, arith}
use Rattle.std.specs.List.{list_any}
use Rattle.std.proofs.Math.Nat.{max-le}
use Rattle.std.proofs.lemmas.Bool.Decides.{nat_tests}
use Rattle.std.proofs.lemmas.List.{take-append-drop, take-append-le}
use Rattle.std.proofs.lemmas.List.Elements.{All-head, All-tail}
use Rattle.std.proofs.lemmas.Option.{slice_get_cases, slice_get_within}
use Rattle.store_traits.specs.declared.ids.CallId.{CallId}
use Rattle.store_traits.specs.declared.ids.ClientId.{ClientId}
use Rattle.store_traits.specs.declared.read_error.ReadError.{ReadError}
use Rattle.store_traits.specs.declared.read_error.ReadError.TheVariants as read
use Rattle.store_traits.specs.declared.update_error.UpdateError.{UpdateError}
use Rattle.store_traits.specs.declared.update_error.UpdateError.TheVariants as error
use Rattle.hist_journal.specs.Folds.{edition_of}
use Rattle.hist_journal.proofs.ClearingLemmas.{longer}
use Rattle.hist_journal.proofs.FoldLemmas.{edition_of-append}
use Rattle.prefs_text.specs.EntryText.{PrefEntry}
use Rattle.prefs_text.specs.declared.seen.AnswerLineSeen.{AnswerLineSeen}
use Rattle.prefs_text.specs.declared.seen.AnswerSeen.{AnswerSeen}
use Rattle.prefs_text.specs.declared.seen.AnswerSeen.TheVariants as seen
use Rattle.shelf.specs.declared.store.Store.{Store}
use Rattle.shelf.specs.Causes.{HasCause, HasReadCause}
use Rattle.shelf.specs.Each.{Each}
use Rattle.shelf.specs.Entries.{is_update}
use Rattle.shelf.specs.Places.{is_up_to}
use Rattle.shelf.proofs.CauseLemmas.{HasCause-more, HasFront-more, HasReadCause-more, IsUpdated-more, none_up_to}
use Rattle.shelf.proofs.MeanwhileLemmas as meanwhile
use Rattle.script_lang.specs.AnswerForms.{read_error, update_error}
use Rattle.script_lang.specs.Shown.{edition_up_to, shown_by, shown_to}
use Rattle.script_lang.specs.GoodReads.{HasValue}
use Rattle.script_lang.specs.GoodUpdates.{is_restart}
use Rattle.script_lang.specs.declared.plan.run_line.Act.{Act}
use Rattle.script_lang.specs.declared.plan.run_line.Act.TheVariants as act
use Rattle.replay_run.specs.ClientInvariant.{IsExplained, IsTrueAnswer}
use Rattle.replay_run.specs.RunState.{Client, call_at}
use Rattle.replay_run.specs.Settings.{Change, PrefRules, Value}
use Rattle.replay_run.proofs.keeping.LaterLists.{alive_more, only_more, spares_more}
use Rattle.replay_run.proofs.keeping.OwnEdits.{carries_more}
use Rattle.replay_run.proofs.lists.JoinedLemmas.{all_each}
use Rattle.replay_run.proofs.lists.StandLemmas.{found_stands}

front_edition : (list front back : List PrefEntry) → list ≡ front ++ back → edition_of front ≤ edition_of list
front_edition list front back is = rw is (omega (arith, edition_of-append front back))

-- what stands up to a place shows no more than all of it, and the same once there is more behind it
up_to_within : (place : ℕ) (list : List PrefEntry) → unwrap_or (edition_up_to list place) 0 ≤ edition_of list
up_to_within place list = by_test (nat_le 1 place && nat_le place (length list))
  where
    by_test : (b : Bool) → unwrap_or (if b then Some (edition_of (take place list)) else None) 0 ≤ edition_of list
    by_test true = front_edition list (take place list) (drop place list) (sym (take-append-drop place list))
    by_test false = omega arith

up_to_more : (before behind : List PrefEntry) (e : PrefEntry) (place : ℕ) (list more : List PrefEntry) → list ≡ before ++ e ∷ behind → place ≡ length before + 1 → edition_up_to (list ++ more) place ≡ edition_up_to list place
up_to_more before behind e place list more is counted =
    let within : place ≤ length list = rw (is, length-append before (e ∷ behind)) (omega (arith, counted)) in
    let now : nat_le place (length list) ≡ true = grind (arith, nat_tests, within) in
    let later : nat_le place (length (list ++ more)) ≡ true = rw (length-append list more) (grind (arith, nat_tests, within)) in
    rw (now, later, take-append-le place list more within) refl

abbrev ShowsAtMost : List PrefEntry → ℕ → AnswerLineSeen → Type 0
ShowsAtMost list most line = unwrap_or (shown_by list line.answer) 0 ≤ most

shown_least : (client : ClientId) (list : List PrefEntry) (most : ℕ) (lines : List AnswerLineSeen) → All (ShowsAtMost list most) lines → shown_to client list lines ≤ most
unfolding shown_to
shown_least client list most [] all = omega arith
shown_least client list most (line ∷ lines) all = by_client (client.0 == line.call.client.0) (All-head (ShowsAtMost list most) line lines all) (shown_least client list most lines (All-tail (ShowsAtMost list most) line lines all))
  where
    by_client : (b : Bool) → ShowsAtMost list most line → shown_to client list lines ≤ most → (if b then max (unwrap_or (shown_by list line.answer) 0) (shown_to client list lines) else shown_to client list lines) ≤ most
    by_client true shows more = max-le shows more
    by_client false shows more = more

abbrev ShowsSame : List PrefEntry → List PrefEntry → AnswerLineSeen → Type 0
ShowsSame list now line = shown_by now line.answer ≡ shown_by list line.answer

shown_same : (client : ClientId) (list now : List PrefEntry) (lines : List AnswerLineSeen) → All (ShowsSame list now) lines → shown_to client now lines ≡ shown_to client list lines
unfolding shown_to
shown_same client list now [] all = refl
shown_same client list now (line ∷ lines) all = rw (All-head (ShowsSame list now) line lines all, shown_same client list now lines (All-tail (ShowsSame list now) line lines all)) refl

module _ (r : PrefRules) {M : Type 0} (s : Store Value M) where
  -- a cause serves where less was shown
  pub cause_of_less : (less shown : ℕ) (call : CallId) (edit : Change) (err : UpdateError) (list : List PrefEntry) → less ≤ shown → HasCause r s shown call edit err list → HasCause r s less call edit err list
  cause_of_less less shown call edit (error.ValueTooLong len) list within it =
      record { front = it.front; back = it.back; is = it.is; holds = record { fresh = omega (arith, within, it.holds.fresh); holds = it.holds.holds } }
  cause_of_less less shown call edit other list within it = it

  pub read_cause_of_less : (less shown : ℕ) (call : CallId) (err : ReadError) (list : List PrefEntry) → less ≤ shown → HasReadCause r s shown call err list → HasReadCause r s less call err list
  read_cause_of_less less shown call (read.ValueTooLong len) list within it =
      record { front = it.front; back = it.back; is = it.is; holds = record { fresh = omega (arith, within, it.holds.fresh); holds = it.holds.holds } }
  read_cause_of_less less shown call other list within it = it

  module _ (list : List PrefEntry) (shown : ℕ) (call : CallId) where
    -- no answer shows more than the history has
    explained_within : (asked : Act) (answer : AnswerSeen) → IsExplained r s list shown call asked answer → unwrap_or (shown_by list answer) 0 ≤ edition_of list
    explained_within (act.Update edit) (seen.Updated edition) it =
        let synced = it.synced in
        let front = synced.before ++ synced.first ∷ synced.between in
        let is : list ≡ front ++ synced.second ∷ synced.behind = synced.is ∙ sym (append_assoc synced.before (synced.first ∷ synced.between) (synced.second ∷ synced.behind)) in
        rw it.reached (front_edition list front (synced.second ∷ synced.behind) is)
    explained_within (act.Update edit) (seen.Refused code edition) it = rw it.holds.reached (front_edition list it.front it.back it.is)
    explained_within (act.Update edit) (seen.StorageFault place) it = up_to_within place list
    explained_within (act.Update edit) (seen.NotDurable place) it = up_to_within place list
    explained_within (act.Update edit) (seen.LegacyFault place) it = up_to_within place list
    explained_within (act.Update edit) (seen.Read edition value) it = absurd it
    explained_within (act.Update edit) (seen.Flow edition value) it = absurd it
    explained_within (act.Update edit) (seen.Unchanged edition) it = absurd it
    explained_within (act.Update edit) (seen.Restarted place) it = absurd it
    explained_within (act.Update edit) other it = omega arith
    explained_within act.Read (seen.Read edition value) it = rw (← it.holds.reached) (front_edition list it.front it.back it.is)
    explained_within act.Read (seen.StorageFault place) it = up_to_within place list
    explained_within act.Read (seen.NotDurable place) it = up_to_within place list
    explained_within act.Read (seen.LegacyFault place) it = up_to_within place list
    explained_within act.Read (seen.Updated edition) it = absurd it
    explained_within act.Read (seen.Refused code edition) it = absurd it
    explained_within act.Read (seen.Flow edition value) it = absurd it
    explained_within act.Read (seen.Unchanged edition) it = absurd it
    explained_within act.Read (seen.Restarted place) it = absurd it
    explained_within act.Read other it = omega arith
    explained_within (act.Restart node) (seen.Restarted place) it = up_to_within place list
    explained_within (act.Restart node) seen.NotDead it = omega arith
    explained_within (act.Restart node) (seen.Died place) it = omega arith
    explained_within (act.Restart node) other it = absurd it
    explained_within other answer it = absurd it

    module _ (more : List PrefEntry) where
      -- it shows the same once the history is longer
      shown_more : (asked : Act) (answer : AnswerSeen) → IsExplained r s list shown call asked answer → shown_by (list ++ more) answer ≡ shown_by list answer
      shown_more (act.Update edit) (seen.StorageFault place) it = let fault = it.fault in up_to_more fault.before fault.behind fault.entry place list more fault.is fault.counted
      shown_more (act.Update edit) (seen.NotDurable place) it =
          elim it [
            | inl changed ↦ (let failed = changed.failed in up_to_more failed.before (failed.between ++ failed.second ∷ failed.behind) failed.first place list more failed.is changed.counted)
            | inr same ↦ (let fault = same.fault in up_to_more fault.before fault.behind fault.entry place list more fault.is fault.counted)
          ]
      shown_more (act.Update edit) (seen.LegacyFault place) it = up_to_more it.before it.behind it.entry place list more it.is it.counted
      shown_more (act.Update edit) (seen.Restarted place) it = absurd it
      shown_more (act.Update edit) other it = refl
      shown_more act.Read (seen.StorageFault place) it = let fault = it.fault in up_to_more fault.before fault.behind fault.entry place list more fault.is fault.counted
      shown_more act.Read (seen.NotDurable place) it = let failed = it.failed in up_to_more failed.before (failed.between ++ failed.second ∷ failed.behind) failed.first place list more failed.is it.counted
      shown_more act.Read (seen.LegacyFault place) it = up_to_more it.before it.behind it.entry place list more it.is it.counted
      shown_more act.Read (seen.Restarted place) it = absurd it
      shown_more act.Read other it = refl
      shown_more (act.Restart node) (seen.Restarted place) it = let restart = it.restart in up_to_more restart.before restart.behind restart.entry place list more restart.is restart.counted
      shown_more (act.Restart node) seen.NotDead it = refl
      shown_more (act.Restart node) (seen.Died place) it = refl
      shown_more (act.Restart node) other it = absurd it
      shown_more other answer it = absurd it

      module _ (over : list_any (is_up_to call) more ≡ false) where
        error_more : (edit : Change) (err : Option UpdateError) → MatchOption err ⊥ (λ err. HasCause r s shown call edit err list) → MatchOption err ⊥ (λ err. HasCause r s shown call edit err (list ++ more))
        error_more edit None it = it
        error_more edit (Some err) it = HasCause-more r s call list more over shown edit err it

        read_error_more : (err : Option ReadError) → MatchOption err ⊥ (λ err. HasReadCause r s shown call err list) → MatchOption err ⊥ (λ err. HasReadCause r s shown call err (list ++ more))
        read_error_more None it = it
        read_error_more (Some err) it = HasReadCause-more r s call list more over shown err it

        explained_more : (asked : Act) (answer : AnswerSeen) → IsExplained r s list shown call asked answer → IsExplained r s (list ++ more) shown call asked answer
        explained_more (act.Update edit) (seen.Updated edition) it = IsUpdated-more call edit edition list more (none_up_to call more over) it
        explained_more (act.Update edit) other it = error_more edit (update_error other) it
        explained_more act.Read (seen.Read edition value) it = HasFront-more (HasValue r s edition value) list more it
        explained_more act.Read other it = read_error_more (read_error other) it
        explained_more (act.Restart node) (seen.Restarted place) it = only_more call node list more place (none_up_to call more over) it
        explained_more (act.Restart node) seen.NotDead it = alive_more call node list more over it
        explained_more (act.Restart node) (seen.Died place) it = HasReadCause-more r s call list more over shown (read.Died place) it
        explained_more (act.Restart node) other it = absurd it
        explained_more other answer it = absurd it

  module _ (client : Client) (list : List PrefEntry) where
    -- nothing was shown beyond the history
    pub shown_within : (answered : List AnswerLineSeen) → Each (IsTrueAnswer r s list client) answered → shown_to client.id list answered ≤ edition_of list
    shown_within answered each =
        shown_least client.id list (edition_of list) answered
        (all_each (ShowsAtMost list (edition_of list)) [] answered
        (λ front line behind is. let it = each front line behind is in explained_within list (shown_to client.id list front) line.call it.act line.answer it.explained))

    pub shown_stays : (more : List PrefEntry) (answered : List AnswerLineSeen) → Each (IsTrueAnswer r s list client) answered → shown_to client.id (list ++ more) answered ≡ shown_to client.id list answered
    shown_stays more answered each =
        shown_same client.id list (list ++ more) answered
        (all_each (ShowsSame list (list ++ more)) [] answered
        (λ front line behind is. let it = each front line behind is in shown_more list (shown_to client.id list front) line.call more it.act line.answer it.explained))

    -- each answers a call that was asked for
    pub answered_within : (answered : List AnswerLineSeen) → Each (IsTrueAnswer r s list client) answered → length answered ≤ length client.asked
    answered_within answered each =
        elim (slice_get_cases answered (length client.asked)).1 [
          | inl found ↦ (let place = found_stands answered (length client.asked) found.0 found.2 in
              let it = each place.0.before found.0 place.0.behind place.0.is in
              omega (arith, place.1, slice_get_within client.asked (length place.0.before) it.act it.asked))
          | inr past ↦ past.0
        ]

    true_more : (more : List PrefEntry) (before : List AnswerLineSeen) (line : AnswerLineSeen) → shown_to client.id (list ++ more) before ≡ shown_to client.id list before → list_any (is_up_to line.call) more ≡ false
        → IsTrueAnswer r s list client before line → IsTrueAnswer r s (list ++ more) client before line
    true_more more before line same over it =
        record {
          act = it.act;
          asked = it.asked;
          call = it.call;
          poster = it.poster;
          explained = rw same (explained_more list (shown_to client.id list before) line.call more over it.act line.answer it.explained);
          late = rw same it.late;
          none = λ out. meanwhile.own is_update line.call list more (none_up_to line.call more over) ∙ it.none out;
          carried = carries_more line.call it.act list more (none_up_to line.call more over) it.carried;
          restarts = λ out. meanwhile.own is_restart line.call list more (none_up_to line.call more over) ∙ it.restarts out;
          spared = spares_more s.deaths line.call list more (none_up_to line.call more over) line.answer it.spared;
        }

    -- the answers stay true where no entry more is of a call up to them
    pub answers_more : (more : List PrefEntry) (answered : List AnswerLineSeen) → Each (IsTrueAnswer r s list client) answered → ((place : ℕ) → place + 1 ≤ length answered → list_any (is_up_to (call_at client place)) more ≡ false)
        → Each (IsTrueAnswer r s (list ++ more) client) answered
    answers_more more answered each over before line behind is =
        let here = each before line behind is in
        let fits : length before + 1 ≤ length answered = rw (is, length-append before (line ∷ behind)) omega arith in
        true_more more before line (shown_stays more before (λ front x rest inner. each front x (rest ++ line ∷ behind) (is ∙ longer before front rest (line ∷ behind) x inner)))
        (rw here.call (over (length before) fits)) here

  -- the answers are those of the client, whatever runs, and where more calls are asked for
  pub answers_same : (client now : Client) (list : List PrefEntry) (answered : List AnswerLineSeen) → now.id ≡ client.id → now.node ≡ client.node → now.earlier ≡ client.earlier
      → ((place : ℕ) (asked : Act) → slice_get client.asked place ≡ Some asked → slice_get now.asked place ≡ Some asked) → Each (IsTrueAnswer r s list client) answered → Each (IsTrueAnswer r s list now) answered
  answers_same client now list answered same_id same_node same_earlier on each before line behind is =
      let here = each before line behind is in
      record {
        act = here.act;
        asked = on (length before) here.act here.asked;
        call = rw (same_id, same_node, same_earlier) here.call;
        poster = here.poster;
        explained = rw same_id here.explained;
        late = rw same_id here.late;
        none = here.none;
        carried = here.carried;
        restarts = here.restarts;
        spared = here.spared;
      }

-- What the lines of a transcript tell of the clients of its run, where all goes well in its only session.
use Rattle.std.proofs.Common.{◌≡◌, ◌∙◌, ◌≤◌, ◌<◌, ◌+◌, ◌==◌, ℕ, suc, nat_lt, Bool, false, List, [], ◌∷◌, ◌++◌, map, flat_map, length, length-append, append_assoc, append-nil, drop, drop_of_length-le, All, Contains, Some, None, IfSome, slice_get, refl, sym, ap, subst, arith}
use Rattle.std.specs.List.{list_any}
use Rattle.std.proofs.lemmas.Bool.{ne_eqb, or_parts}
use Rattle.std.proofs.lemmas.Bool.Decides.{nat_tests}
use Rattle.std.proofs.lemmas.List.Elements.{All-append, All-head, All-nil, All-tail, All-weaker}
use Rattle.std.proofs.lemmas.List.Folds.{list_any-append, list_any_none}
use Rattle.std.proofs.lemmas.Option.{get_or_from_slice_get, slice_get_within}
use Rattle.store_traits.specs.declared.ids.CallId.{CallId}
use Rattle.store_traits.specs.declared.ids.ClientId.{ClientId}
use Rattle.folder_disk.specs.Tally.{most_of}
use Rattle.hist_journal.proofs.ClearingLemmas.{longer}
use Rattle.prefs_text.specs.Callers.{actor_name}
use Rattle.prefs_text.specs.EntryText.{PrefEntry}
use Rattle.prefs_text.specs.declared.seen.AnswerLineSeen.{AnswerLineSeen}
use Rattle.shelf.specs.Each.{Each}
use Rattle.shelf.specs.Entries.{is_own, is_update}
use Rattle.shelf.proofs.Bools.{none_in_both}
use Rattle.shelf.proofs.EachLemmas.{Walked, each_walked}
use Rattle.script_lang.specs.Asked.{asked_by, home_of, is_actor}
use Rattle.script_lang.specs.Chronicle.{Basis, Chapter, due_of}
use Rattle.script_lang.specs.GoodAnswers.{IsHome}
use Rattle.script_lang.specs.GoodCauses.{may_stand}
use Rattle.script_lang.specs.GoodFailures.{Spares}
use Rattle.script_lang.specs.GoodUpdates.{has_restart}
use Rattle.script_lang.specs.Shown.{printed, shown_to}
use Rattle.script_lang.specs.declared.plan.run_line.Act.{Act}
use Rattle.script_lang.specs.declared.plan.script.Script.{Script}
use Rattle.replay_run.specs.ClientInvariant.{CarriesOwn, ClientInvariant, IsExplained, is_restarted}
use Rattle.replay_run.specs.EndInvariant.{EndInvariant}
use Rattle.replay_run.specs.Lines.{acts_for}
use Rattle.replay_run.specs.Rounds.{IsOver}
use Rattle.replay_run.specs.RunState.{Client, RunState, call_at}
use Rattle.replay_run.specs.ScriptRun.{Tells, lines_of}
use Rattle.replay_run.proofs.keeping.StepsKeep.{all_answered}
use Rattle.replay_run.proofs.lists.JoinedLemmas.{all_each}
use Rattle.replay_run.proofs.truth.AskedInOrder.{asked_for, own_call}
use Rattle.replay_run.proofs.truth.Underway.{AreUnderWay, IsUnderWay}

pub none_stands : {X : Type 0} (p : X → Bool) (list before behind : List X) (x : X) → list_any p list ≡ false → list ≡ before ++ x ∷ behind → p x ≡ false
none_stands p list before behind x none is =
    let all : list_any p (before ++ x ∷ behind) ≡ false = rw is at none in
    let parts = or_parts (list_any p before) (list_any p (x ∷ behind)) (sym (list_any-append p before (x ∷ behind)) ∙ all) in
    (or_parts (p x) (list_any p behind) parts.1).0

flat_same : {X Y : Type 0} (f g : X → List Y) (xs : List X) → ((place : ℕ) (x : X) → slice_get xs place ≡ Some x → f x ≡ g x) → flat_map f xs ≡ flat_map g xs
flat_same f g [] same = refl
flat_same f g (x ∷ xs) same = rw (same 0 x refl, flat_same f g xs (λ place y found. same (suc place) y found)) refl

-- what holds behind some elements of each of a list holds of these, where others stand before and behind
walked_on : {X : Type 0} (Holds : List X → X → Type 0) (front within rest more : List X) → ((before : List X) (x : X) (behind : List X) → within ++ rest ≡ before ++ x ∷ behind → Holds (front ++ before) x)
    → Walked Holds (front ++ (within ++ rest)) more → Walked Holds (front ++ within) (rest ++ more)
walked_on Holds front within [] more each walked = rw append-nil at walked
walked_on Holds front within (x ∷ rest) more each walked =
    let on = walked_on Holds front (within ++ x ∷ []) rest more (λ before y behind is. each before y behind (sym (append_assoc within (x ∷ []) rest) ∙ is)) (rw (append_assoc within (x ∷ []) rest) walked) in
    (each within x rest refl, rw (append_assoc front within (x ∷ [])) on)

-- what holds of the client whom a line answers
abbrev pub Of : (ℕ → Type 0) → AnswerLineSeen → Type 0
Of P line = P line.call.client.0

abbrev is_later : ℕ → AnswerLineSeen → Bool
is_later place line = nat_lt place line.call.client.0

pub told_by : (p : ℕ → Bool) (b : Bool) (P : ℕ → Type 0) → ((n : ℕ) → P n → p n ≡ b) → (lines : List AnswerLineSeen) → All (Of P) lines → All (Of (λ n. p n ≡ b)) lines
told_by p b P so lines all = All-weaker (Of P) (Of (λ n. p n ≡ b)) (λ line. so line.call.client.0) lines all

-- what others are shown is not shown to the client
others_show : (client : ClientId) (entries : List PrefEntry) (others own : List AnswerLineSeen) → All (Of (λ n. (client.0 == n) ≡ false)) others → shown_to client entries (others ++ own) ≡ shown_to client entries own
unfolding shown_to
others_show client entries [] own apart = refl
others_show client entries (line ∷ others) own apart =
    rw (All-head (Of (λ n. (client.0 == n) ≡ false)) line others apart) (others_show client entries others own (All-tail (Of (λ n. (client.0 == n) ≡ false)) line others apart))

module _ (b : Basis) (script : Script) (c : Chapter) where
  -- a line answers a call of a client, and tells the truth of the history
  pub record IsTrueLine (list : List PrefEntry) (before : List AnswerLineSeen) (line : AnswerLineSeen) : Type 0 where
    pub act : Act
    pub asked : Contains c.asked (record { call = line.call; act = act })
    pub home : IsHome script line.call
    pub client : is_actor script line.call.client ≡ false
    pub poster : line.poster ≡ None
    pub explained : IsExplained b.rules c.store list (shown_to line.call.client list before) line.call act line.answer
    pub late : IfSome (printed line.answer) (λ edition. shown_to line.call.client list before ≤ edition)
    pub none : may_stand line.answer ≡ false → list_any (is_own is_update line.call) list ≡ false
    pub carried : CarriesOwn line.call act list
    pub restarts : is_restarted line.answer ≡ false → has_restart line.call list ≡ false
    pub spared : Spares c.store.deaths list line.call line.answer
    pub in_order : list_any (is_later line.call.client.0) before ≡ false

-- the session went to its end, and all was kept
pub record EndsWell (b : Basis) (script : Script) (c : Chapter) : Type 0 where
  pub end : RunState
  pub known : EndInvariant b.rules c.store end
  pub over : IsOver end
  pub tells : Tells b c.told end
  pub underway : AreUnderWay script.homes c.plan.lines [] end
  pub deaths : c.store.deaths ≡ c.plan.deaths
  -- no call of the folder had failed before, and few are planned to
  pub folder : c.store.folder ≡ record { count = 0; most = most_of 0 (due_of c.plan) }
  pub few : length c.plan.folder_faults ≤ 100000
  pub asked : c.asked ≡ asked_by script [] c.plan.lines
  pub one_each : length script.homes ≡ length script.names.clients

module _ (b : Basis) (script : Script) (c : Chapter) (k : EndsWell b script c) where
  abbrev history : List PrefEntry
  history = k.end.shared.world.history

  module _ (place : ℕ) (client : Client) (found : slice_get k.end.clients place ≡ Some client) where
    abbrev pub kept : ClientInvariant b.rules c.store place k.end.shared.world client
    kept = k.known.state.clients place client found

    mine : IsUnderWay script.homes c.plan.lines [] place client
    mine = k.underway.each place client found

    -- each of its calls is answered
    pub over : (client.running ≡ None) × (length client.answered ≡ length client.asked)
    over = all_answered b.rules c.store k.end k.known.state k.over place client found

    lines_answer : lines_of client ≡ client.answered
    lines_answer =
        let rest : drop (length client.answered) client.asked ≡ [] = drop_of_length-le client.asked (let all = over.1 in omega (arith, all)) in
        rw rest (append-nil client.answered)

    named : place < length script.names.clients
    named = let within = slice_get_within script.homes place client.node mine.home in let each = k.one_each in omega (arith, within, each)

    pub no_actor : is_actor script (record { 0 = place }) ≡ false
    no_actor = let within = named in grind (arith, nat_tests, within)

    pub own_is : (n : ℕ) → call_at client n ≡ own_call script place n
    own_is n =
        let id : client.id ≡ record { 0 = place } = ap (λ k. record { 0 = k }) kept.id in
        let node : client.node ≡ home_of script (record { 0 = place }) = rw no_actor (sym (get_or_from_slice_get script.homes place client.node (record { 0 = 0 }) mine.home)) in
        let number : client.earlier + n + 1 ≡ n + 1 = rw mine.earlier (omega arith) in
        rw (id, number, node) refl

    pub home : (n : ℕ) → IsHome script (own_call script place n)
    home n = record { known = (let within = named in omega (arith, within, length-append script.names.clients (map actor_name script.names.nodes))); home = refl }

    pub acts : client.asked ≡ acts_for place c.plan.lines
    acts = sym (append-nil client.asked) ∙ mine.asked

    pub asks : (n : ℕ) (act : Act) → slice_get client.asked n ≡ Some act → Contains c.asked (record { call = own_call script place n; act = act })
    asks n act found = rw k.asked (asked_for script place c.plan.lines n act (rw acts at found))

    -- its answers are of its calls
    pub owned : (lines more : List AnswerLineSeen) → client.answered ≡ lines ++ more → All (Of (λ n. n ≡ place)) lines
    owned lines more is =
        all_each (Of (λ n. n ≡ place)) [] lines (λ front line behind inner. ap (λ (call : CallId). call.client.0) (kept.answers front line (behind ++ more) (is ∙ longer lines front behind more line inner)).call ∙ kept.id)

  pub answers_are : c.told.answers ≡ flat_map (λ client. client.answered) k.end.clients
  answers_are = k.tells.answers ∙ flat_same lines_of (λ client. client.answered) k.end.clients lines_answer

  module _ (place : ℕ) (client : Client) (found : slice_get k.end.clients place ≡ Some client) (others : List AnswerLineSeen) (earlier : All (Of (λ n. n < place)) others) where
    -- each of its answers, where those of earlier clients stand before
    true_line : (before : List AnswerLineSeen) (line : AnswerLineSeen) (behind : List AnswerLineSeen) → client.answered ≡ before ++ line ∷ behind → IsTrueLine b script c history (others ++ before) line
    true_line before line behind is =
        let known = kept place client found in
        let truth = known.answers before line behind is in
        let own = known.id in
        let call : line.call ≡ own_call script place (length before) = truth.call ∙ own_is place client found (length before) in
        let shown : shown_to line.call.client history (others ++ before) ≡ shown_to client.id history before =
        ap (λ (call : CallId). shown_to call.client history (others ++ before)) truth.call
        ∙ others_show client.id history others before (told_by (λ n. client.id.0 == n) false (λ n. n < place) (λ n less. ne_eqb client.id.0 n (λ same. omega (arith, same, less, own))) others earlier) in
        let mine : All (Of (λ n. n ≡ place)) before = owned place client found before (line ∷ behind) is in
        record {
          act = truth.act;
          asked = subst (λ call. Contains c.asked (record { call = call; act = truth.act })) (sym call) (asks place client found (length before) truth.act truth.asked);
          home = subst (λ call. IsHome script call) (sym call) (home place client found (length before));
          client = ap (λ (call : CallId). is_actor script call.client) call ∙ no_actor place client found;
          poster = truth.poster;
          explained = subst (λ shown. IsExplained b.rules c.store history shown line.call truth.act line.answer) (sym shown) truth.explained;
          late = subst (λ shown. IfSome (printed line.answer) (λ edition. shown ≤ edition)) (sym shown) truth.late;
          none = truth.none;
          carried = truth.carried;
          restarts = truth.restarts;
          spared = truth.spared;
          in_order =
              ap (λ (call : CallId). list_any (is_later call.client.0) (others ++ before)) call
              ∙ none_in_both (is_later place) others before (list_any_none (is_later place) others (told_by (nat_lt place) false (λ n. n < place) (λ n less. grind (arith, nat_tests, less)) others earlier))
              (list_any_none (is_later place) before (told_by (nat_lt place) false (λ n. n ≡ place) (λ n same. grind (arith, nat_tests, same)) before mine));
        }

  walked : (first : ℕ) (others : List AnswerLineSeen) (clients : List Client) → All (Of (λ n. n < first)) others → ((n : ℕ) (client : Client) → slice_get clients n ≡ Some client → slice_get k.end.clients (first + n) ≡ Some client)
      → Walked (IsTrueLine b script c history) others (flat_map (λ client. client.answered) clients)
  walked first others [] earlier found = tt
  walked first others (client ∷ clients) earlier found =
      let here : slice_get k.end.clients first ≡ Some client = (let same : first + 0 ≡ first = omega arith in rw same at (found 0 client refl)) in
      let on : All (Of (λ n. n < first + 1)) (others ++ client.answered) =
      All-append (Of (λ n. n < first + 1)) others client.answered (All-weaker (Of (λ n. n < first)) (Of (λ n. n < first + 1)) (λ line less. omega (arith, less)) others earlier)
      (All-weaker (Of (λ n. n ≡ first)) (Of (λ n. n < first + 1)) (λ line same. omega (arith, same)) client.answered (owned first client here client.answered [] (sym (append-nil client.answered)))) in
      let more = walked (first + 1) (others ++ client.answered) clients on (λ n d there. (let same : first + suc n ≡ first + 1 + n = omega arith in rw same at (found (suc n) d there))) in
      rw append-nil at (walked_on (IsTrueLine b script c history) others [] client.answered (flat_map (λ client. client.answered) clients) (true_line first client here others earlier) more)

  pub true_lines : Each (IsTrueLine b script c c.told.entries) c.told.answers
  true_lines =
      subst (λ list. Each (IsTrueLine b script c list) c.told.answers) (sym k.tells.entries)
      (subst (λ lines. Each (IsTrueLine b script c history) lines) (sym answers_are)
      (each_walked (IsTrueLine b script c history) (flat_map (λ client. client.answered) k.end.clients) (walked 0 [] k.end.clients (All-nil (Of (λ n. n < 0))) (λ n client found. (let same : 0 + n ≡ n = omega arith in rw same found)))))

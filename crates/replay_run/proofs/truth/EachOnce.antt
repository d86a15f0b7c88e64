-- Each call of a client is answered once, in the order of its lines.
use Rattle.std.proofs.Common.{◌≡◌, ◌∙◌, inl, inr, ◌<◌, ◌+◌, ◌==◌, ℕ, suc, zero, Bool, true, false, List, [], ◌∷◌, ◌++◌, map, flat_map, length, length-append, append_assoc, append-nil, All, Some, slice_get, refl, sym, ap, arith}
use Rattle.std.specs.List.{filter}
use Rattle.std.proofs.lemmas.Bool.{eq-eqb, ne_eqb}
use Rattle.std.proofs.lemmas.List.Elements.{All-head, All-tail, filter-append}
use Rattle.std.proofs.lemmas.Option.{slice_get_cases}
use Rattle.prefs_text.specs.declared.seen.AnswerLineSeen.{AnswerLineSeen}
use Rattle.script_lang.specs.Chronicle.{Basis, Chapter}
use Rattle.script_lang.specs.GoodAnswers.{is_answer_of, is_asked_of}
use Rattle.script_lang.specs.declared.plan.run_line.Act.{Act}
use Rattle.script_lang.specs.declared.plan.script.Script.{Script}
use Rattle.replay_run.specs.RunState.{Client}
use Rattle.replay_run.proofs.lists.JoinedLemmas.{all_flat}
use Rattle.replay_run.proofs.lists.OptionLemmas.{nothing, one_of}
use Rattle.replay_run.proofs.truth.AskedInOrder.{asked_from, asked_in_order, own_call}
use Rattle.replay_run.proofs.truth.Told.{EndsWell, acts, answers_are, kept, over, own_is, owned, told_by}

module _ {X : Type 0} (p : X → Bool) where
  filter_all : (xs : List X) → All (λ x. p x ≡ true) xs → filter p xs ≡ xs
  filter_all [] all = refl
  filter_all (x ∷ xs) all = rw (All-head (λ x. p x ≡ true) x xs all) (ap (λ rest. x ∷ rest) (filter_all xs (All-tail (λ x. p x ≡ true) x xs all)))

  pub filter_none : (xs : List X) → All (λ x. p x ≡ false) xs → filter p xs ≡ []
  filter_none [] all = refl
  filter_none (x ∷ xs) all = rw (All-head (λ x. p x ≡ false) x xs all) (filter_none xs (All-tail (λ x. p x ≡ false) x xs all))

  -- of several lists only that at one place has elements that pass, and has no others
  filter_flat : {Y : Type 0} (f : Y → List X) (ys : List Y) (place : ℕ) (y : Y) → slice_get ys place ≡ Some y → All (λ x. p x ≡ true) (f y)
      → ((other : ℕ) (z : Y) → (other ≡ place → ⊥) → slice_get ys other ≡ Some z → All (λ x. p x ≡ false) (f z)) → filter p (flat_map f ys) ≡ f y
  filter_flat f [] place y found mine others = nothing y found
  filter_flat f (z ∷ ys) zero y found mine others =
      let same : z ≡ y = one_of z y found in
      let none = filter_none (flat_map f ys) (all_flat (λ x. p x ≡ false) f ys (λ other z there. others (suc other) z (λ no. omega (arith, no)) there)) in
      filter-append p (f z) (flat_map f ys) ∙ rw (same, none, filter_all (f y) mine) (append-nil (f y))
  filter_flat f (z ∷ ys) (suc place) y found mine others =
      filter-append p (f z) (flat_map f ys)
      ∙ rw (filter_none (f z) (others 0 z (λ no. omega (arith, no)) refl)) (filter_flat f ys place y found mine (λ other z apart there. others (suc other) z (λ same. apart (omega (arith, same))) there))

module _ (script : Script) (place : ℕ) where
  -- answers to calls that are numbered in their order
  numbered : (before lines : List AnswerLineSeen) (acts : List Act) → length lines ≡ length acts
      → ((front : List AnswerLineSeen) (line : AnswerLineSeen) (behind : List AnswerLineSeen) → before ++ lines ≡ front ++ line ∷ behind → line.call ≡ own_call script place (length front))
      → map (λ line. line.call) lines ≡ map (λ asked. asked.call) (asked_from script place (length before) acts)
  numbered before [] [] many each = refl
  numbered before [] (a ∷ acts) many each = absurd (omega (arith, many))
  numbered before (line ∷ lines) [] many each = absurd (omega (arith, many))
  numbered before (line ∷ lines) (a ∷ acts) many each =
      let rest = numbered (before ++ line ∷ []) lines acts (omega (arith, many)) (λ front x behind is. each front x behind (sym (append_assoc before (line ∷ []) lines) ∙ is)) in
      let next : length (before ++ line ∷ []) ≡ length before + 1 = length-append before (line ∷ []) in
      rw (each before line lines refl) (ap (λ more. own_call script place (length before) ∷ more) (rw next at rest))

module _ (b : Basis) (script : Script) (c : Chapter) (k : EndsWell b script c) where
  module _ (place : ℕ) (client : Client) (found : slice_get k.end.clients place ≡ Some client) where
    lines_are : filter (is_answer_of place) c.told.answers ≡ client.answered
    lines_are =
        ap (λ lines. filter (is_answer_of place) lines) (answers_are b script c k)
        ∙ filter_flat (is_answer_of place) (λ (client : Client). client.answered) k.end.clients place client found
        (told_by (λ n. place == n) true (λ n. n ≡ place) (λ n own. eq-eqb place n (sym own)) client.answered (owned b script c k place client found client.answered [] (sym (append-nil client.answered))))
        (λ other d apart there.
        told_by (λ n. place == n) false (λ n. n ≡ other) (λ n own. ne_eqb place n (λ same. apart (sym own ∙ sym same))) d.answered (owned b script c k other d there d.answered [] (sym (append-nil d.answered))))

    once : map (λ line. line.call) (filter (is_answer_of place) c.told.answers) ≡ map (λ asked. asked.call) (filter (is_asked_of place) c.asked)
    once =
        ap (λ lines. map (λ (line : AnswerLineSeen). line.call) lines) lines_are
        ∙ (numbered script place [] client.answered client.asked (over b script c k place client found).1
        (λ front line behind is. ((kept b script c k place client found).answers front line behind is).call ∙ own_is b script c k place client found (length front))
        ∙ sym (ap (λ list. map (λ asked. asked.call) list) (ap (λ list. filter (is_asked_of place) list) k.asked ∙ (asked_in_order script place [] c.plan.lines ∙ ap (λ acts. asked_from script place 0 acts) (sym (acts b script c k place client found))))))

  -- G2: each call of a client has one answer, in the order of its lines
  pub each_once : (client : ℕ) → client < length script.names.clients → map (λ line. line.call) (filter (is_answer_of client) c.told.answers) ≡ map (λ asked. asked.call) (filter (is_asked_of client) c.asked)
  each_once place within =
      elim (slice_get_cases k.end.clients place).1 [
        | inl found ↦ once place found.0 found.2
        | inr past ↦ absurd (let many = k.underway.many in let each = k.one_each in omega (arith, past.0, many, each, within))
      ]

-- Where a client of each state has a step that keeps what is kept, lines can be followed, and rounds come to an end.
use Rattle.std.proofs.Common.{◌≡◌, ◌∙◌, ◌⊎◌, inl, inr, ◌≤◌, ◌<◌, ◌+◌, ℕ, suc, zero, Bool, true, false, List, All, [], ◌∷◌, length, slice_set, refl, sym, ap, subst, arith}
use Rattle.std.specs.List.{list_any}
use Rattle.std.proofs.lemmas.List.{length-set}
use Rattle.std.proofs.lemmas.List.Elements.{All-head, All-tail}
use Rattle.std.proofs.lemmas.Option.{slice_get_cases}
use Rattle.shelf.specs.declared.store.Store.{Store}
use Rattle.shelf.proofs.Bools.{never}
use Rattle.script_lang.specs.Keeps.{IsBuiltAct}
use Rattle.script_lang.specs.declared.plan.run_line.Act.{Act}
use Rattle.script_lang.specs.declared.plan.run_line.Act.TheVariants as act
use Rattle.script_lang.specs.declared.plan.run_line.RunLine.{RunLine}
use Rattle.replay_run.specs.Lines.{Asks, Follows, FollowsAll, StepsTimes, with_act}
use Rattle.replay_run.specs.Rounds.{Finishes, IsOver, Round, Rounds, StepsEach}
use Rattle.replay_run.specs.RunState.{RunState, is_busy}
use Rattle.replay_run.specs.Settings.{PrefRules, Value}
use Rattle.replay_run.specs.Steps.{StepsAt}
use Rattle.replay_run.specs.Typed.{IsTypedAct}
use Rattle.replay_run.proofs.exists.TurnExists.{MustBe}
use Rattle.replay_run.proofs.keeping.StepCases.{IsCalled}

-- a line that so many clients can follow
pub record CanFollow (clients : ℕ) (line : RunLine) : Type 0 where
  pub declared : line.client.0 < clients
  pub built : IsBuiltAct line.act
  pub typed : IsTypedAct line.act

module _ (r : PrefRules) {M : Type 0} (s : Store Value M) (Kept : RunState → Type 0)
    (step_is : (place : ℕ) (state : RunState) → place < length state.clients → Kept state → MustBe (StepsAt r s place state))
    (step_keeps : (place : ℕ) (old new : RunState) → StepsAt r s place old new → Kept old → Kept new)
    (asking_keeps : (place : ℕ) (asked : Act) (old new : RunState) → Asks place asked old new → IsCalled asked → IsTypedAct asked → Kept old → Kept new) where
  -- a state that keeps the same, with as many clients
  pub record IsOn (old new : RunState) : Type 0 where
    pub kept : Kept new
    pub many : length new.clients ≡ length old.clients

  pub record Comes (Goes : RunState → RunState → Type 0) (old new : RunState) : Type 0 where
    pub goes : Goes old new
    pub on : IsOn old new

  step_on : (place : ℕ) (old new : RunState) → StepsAt r s place old new → Kept old → IsOn old new
  step_on place old new it kept = record { kept = step_keeps place old new it kept; many = ap (λ cs. length cs) it.now ∙ length-set old.clients place it.client_after }

  times_is : (place steps : ℕ) (old : RunState) → place < length old.clients → Kept old → MustBe (Comes (StepsTimes r s place steps) old)
  unfolding StepsTimes
  times_is place zero old within kept none = none old (record { goes = refl; on = record { kept = kept; many = refl } })
  times_is place (suc steps) old within kept none =
      step_is place old within kept
      (λ mid goes.
      let on = step_on place old mid goes kept in
      times_is place steps mid (subst (λ n. place < n) (sym on.many) within) on.kept
      (λ new rest. none new (record { goes = (mid, goes, rest.goes); on = record { kept = rest.on.kept; many = rest.on.many ∙ on.many } })))

  each_is : (place clients : ℕ) (old : RunState) → place + clients ≤ length old.clients → Kept old → MustBe (Comes (StepsEach r s place clients) old)
  unfolding StepsEach
  each_is place zero old within kept none = none old (record { goes = refl; on = record { kept = kept; many = refl } })
  each_is place (suc clients) old within kept none =
      step_is place old (omega (arith, within)) kept
      (λ mid goes.
      let on = step_on place old mid goes kept in
      let many = on.many in
      each_is (place + 1) clients mid (omega (arith, within, many)) on.kept
      (λ new rest. none new (record { goes = (mid, goes, rest.goes); on = record { kept = rest.on.kept; many = rest.on.many ∙ on.many } })))

  asks_is : (place : ℕ) (asked : Act) (old : RunState) → place < length old.clients → IsCalled asked → IsTypedAct asked → Kept old → MustBe (Comes (Asks place asked) old)
  asks_is place asked old within has typed kept none =
      elim (slice_get_cases old.clients place).1 [
        | inl found ↦ (let now : RunState = record old { clients = slice_set old.clients place (with_act asked found.0) } in
            let asks : Asks place asked old now = record { client = found.0; was = found.2; now = refl } in
            none now
            (record { goes = asks; on = record { kept = asking_keeps place asked old now asks has typed kept; many = length-set old.clients place (with_act asked found.0) } }))
        | inr past ↦ (let less = past.0 in absurd (omega (arith, less, within)))
      ]

  line_is : (place : ℕ) (asked : Act) (old : RunState) → place < length old.clients → IsBuiltAct asked → IsTypedAct asked → Kept old → MustBe (Comes (Follows r s place asked) old)
  line_is place (act.Go steps) old within built typed kept = times_is place steps old within kept
  line_is place (act.Update edit) old within built typed kept = asks_is place (act.Update edit) old within built typed kept
  line_is place act.Read old within built typed kept = asks_is place act.Read old within built typed kept
  line_is place (act.Restart node) old within built typed kept = asks_is place (act.Restart node) old within built typed kept
  line_is place other old within built typed kept = absurd built

  pub lines_is : (lines : List RunLine) (old : RunState) → All (CanFollow (length old.clients)) lines → Kept old → MustBe (Comes (FollowsAll r s lines) old)
  unfolding FollowsAll
  lines_is [] old can kept none = none old (record { goes = refl; on = record { kept = kept; many = refl } })
  lines_is (line ∷ lines) old can kept none =
      let first = All-head (CanFollow (length old.clients)) line lines can in
      line_is line.client.0 line.act old first.declared first.built first.typed kept
      (λ mid goes.
      let still : All (CanFollow (length mid.clients)) lines = subst (λ n. All (CanFollow n) lines) (sym goes.on.many) (All-tail (CanFollow (length old.clients)) line lines can) in
      lines_is lines mid still goes.on.kept
      (λ new rest. none new (record { goes = (mid, goes.goes, rest.goes); on = record { kept = rest.on.kept; many = rest.on.many ∙ goes.on.many } })))

  -- a round leaves less to do, where anybody had something
  module _ (left : RunState → ℕ) (falls : (old new : RunState) → Kept old → Round r s old new → IsOver old ⊎ (left new < left old)) where
    over_now : (state : RunState) → IsOver state → Finishes r s state state
    unfolding Rounds
    over_now state over = record { rounds = 0; rest = refl; over = over }

    round_more : (old mid new : RunState) → Round r s old mid → Finishes r s mid new → Finishes r s old new
    unfolding Rounds
    round_more old mid new round it = record { rounds = suc it.rounds; rest = (mid, round, it.rest); over = it.over }

    some_round : (old : RunState) → Kept old → ((new : RunState) → Comes (Finishes r s) old new → ⊥) → ((mid : RunState) → Round r s old mid → IsOn old mid → left mid < left old → ⊥) → ⊥
    some_round old kept none deeper = by_over (list_any is_busy old.clients) refl
      where
        by_over : (busy : Bool) → list_any is_busy old.clients ≡ busy → ⊥
        by_over false over = none old (record { goes = over_now old over; on = record { kept = kept; many = refl } })
        by_over true busy =
            each_is 0 (length old.clients) old (omega arith) kept
            (λ mid round.
            elim (falls old mid kept round.goes) [
              | inl over ↦ never (sym over ∙ busy)
              | inr less ↦ deeper mid round.goes round.on less
            ])

    pub rounds_is : (most : ℕ) (old : RunState) → left old ≤ most → Kept old → MustBe (Comes (Finishes r s) old)
    rounds_is zero old within kept none = some_round old kept none (λ mid round on less. omega (arith, less, within))
    rounds_is (suc most) old within kept none =
        some_round old kept none
        (λ mid round on less.
        rounds_is most mid (omega (arith, less, within)) on.kept
        (λ new rest. none new (record { goes = round_more old mid new round rest.goes; on = record { kept = rest.on.kept; many = rest.on.many ∙ on.many } })))

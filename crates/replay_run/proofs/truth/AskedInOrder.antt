-- The calls that the lines of a script ask a client for, in their order.
use Rattle.std.proofs.Common.{◌≡◌, ◌∙◌, ◌+◌, ◌==◌, ℕ, suc, zero, Bool, true, false, List, [], ◌∷◌, ◌++◌, map, cond, Contains, Some, count_by, slice_get, if◌then◌else◌, refl, sym, ap, subst, arith}
use Rattle.std.specs.List.{enumerate_from, filter}
use Rattle.std.proofs.lemmas.Bool.{eqb-true}
use Rattle.std.proofs.lemmas.List.Elements.{All-contains, All-contains_itself, All-filter}
use Rattle.std.proofs.lemmas.List.Sums.{sum_by_push}
use Rattle.store_traits.specs.declared.ids.CallId.{CallId}
use Rattle.store_traits.specs.declared.ids.ClientId.{ClientId}
use Rattle.script_lang.specs.declared.plan.run_line.Act.{Act}
use Rattle.script_lang.specs.declared.plan.run_line.RunLine.{RunLine}
use Rattle.script_lang.specs.declared.plan.script.Script.{Script}
use Rattle.script_lang.specs.Asked.{Asked, asked_by, call_of, home_of, is_call_line, is_call_line_of}
use Rattle.script_lang.specs.GoodAnswers.{is_asked_of}
use Rattle.replay_run.specs.Lines.{acts_for}
use Rattle.replay_run.proofs.lists.OptionLemmas.{nothing, one_of}

module _ (script : Script) (client : ℕ) where
  abbrev who : ClientId
  who = record { 0 = client }

  -- its calls, numbered from 1
  abbrev pub own_call : ℕ → CallId
  own_call place = record { node = home_of script who; client = who; number = place + 1 }

  abbrev pub asked_from : ℕ → List Act → List Asked
  asked_from place acts = map (λ placed. record { call = own_call placed.0; act = placed.1 }) (enumerate_from place acts)

  module _ (before : List RunLine) (line : RunLine) (list : List Asked) (lines : List RunLine) where
    abbrev count : List RunLine → ℕ
    count = count_by (is_call_line_of who)

    one_more : (b : Bool) → is_call_line_of who line ≡ b → count (before ++ line ∷ []) ≡ count before + cond b 1 0
    one_more b is = sum_by_push (λ line. cond (is_call_line_of who line) 1 0) before line ∙ ap (λ b. count before + cond b 1 0) is

    module _ (rest : filter (is_asked_of client) list ≡ asked_from (count (before ++ line ∷ [])) (acts_for client lines)) where
      others : is_call_line_of who line ≡ false → filter (is_asked_of client) list ≡ asked_from (count before) (acts_for client lines)
      others not = let same : count (before ++ line ∷ []) ≡ count before = one_more false not ∙ omega arith in rw same at rest

      by_line : (mine call : Bool) → (client == line.client.0) ≡ mine → is_call_line line ≡ call
          → filter (is_asked_of client) (if is_call_line line then record { call = call_of script before line; act = line.act } ∷ list else list) ≡ asked_from (count before) (acts_for client (line ∷ lines))
      by_line true true mine call =
          let own : line.client ≡ who = ap (λ k. record { 0 = k }) (sym (eqb-true client line.client.0 mine)) in
          let same : call_of script before line ≡ own_call (count before) = ap (λ (id : ClientId). record { node = home_of script id; client = id; number = count_by (is_call_line_of id) before + 1 }) own in
          let both : is_call_line_of who line ≡ true = rw (mine, call) refl in
          let next : count (before ++ line ∷ []) ≡ count before + 1 = one_more true both in
          rw (call, mine, same) (ap (λ more. record { call = own_call (count before); act = line.act } ∷ more) (rw next at rest))
      by_line true false mine call = let not : is_call_line_of who line ≡ false = rw (mine, call) refl in rw (mine, call) (others not)
      by_line false true mine call = let not : is_call_line_of who line ≡ false = rw mine refl in rw (call, mine) (others not)
      by_line false false mine call = let not : is_call_line_of who line ≡ false = rw mine refl in rw (call, mine) (others not)

  pub asked_in_order : (before lines : List RunLine) → filter (is_asked_of client) (asked_by script before lines) ≡ asked_from (count_by (is_call_line_of who) before) (acts_for client lines)
  unfolding asked_by
  asked_in_order before [] = refl
  asked_in_order before (line ∷ lines) =
      by_line before line (asked_by script (before ++ line ∷ []) lines) lines (asked_in_order (before ++ line ∷ []) lines) (client == line.client.0) (is_call_line line) refl refl

  asked_at : (first number : ℕ) (acts : List Act) (place : ℕ) (act : Act) → number ≡ first + place → slice_get acts place ≡ Some act → Contains (asked_from first acts) (record { call = own_call number; act = act })
  asked_at first number [] place act is found = nothing act found
  asked_at first number (a ∷ acts) zero act is found =
      let same : a ≡ act = one_of a act found in
      let here : number ≡ first = omega (arith, is) in
      (0, omega arith, rw (same, here) refl)
  asked_at first number (a ∷ acts) (suc place) act is found =
      let rest = asked_at (first + 1) number acts place act (omega (arith, is)) found in
      (suc rest.0, (let within = rest.1 in omega (arith, within)), rest.2)

  -- a call that is among the client's acts is asked for
  pub asked_for : (lines : List RunLine) (place : ℕ) (act : Act) → slice_get (acts_for client lines) place ≡ Some act → Contains (asked_by script [] lines) (record { call = own_call place; act = act })
  asked_for lines place act found =
      let all : List Asked = asked_by script [] lines in
      All-contains (Contains all) (filter (is_asked_of client) all) (record { call = own_call place; act = act }) (All-filter (is_asked_of client) (Contains all) all (All-contains_itself all))
      (subst (λ list. Contains list (record { call = own_call place; act = act })) (sym (asked_in_order [] lines)) (asked_at 0 place (acts_for client lines) place act (omega arith) found))

-- The plans of sessions: one in which all goes well, and how sessions follow one another.
use Rattle.std.specs.Prelude.{ℕ, ◌≡◌, ◌+◌, ◌-◌, true, false, List, [], ◌∷◌, ◌++◌, length, replicate, map, None, is_some}
use Rattle.script_lang.specs.declared.plan.run_line.RunLine.{RunLine}
use Rattle.script_lang.specs.declared.plan.session_plan.SessionPlan.{SessionPlan}

-- nothing is planned to fail, and no stop ends the session
abbrev pub plain : List RunLine → SessionPlan
plain lines = record { folder_faults = []; fuse = None; deaths = []; lines = lines; stop = None }

-- how many lines of a script say what happens in the session, at the least
abbrev pub lines_in : SessionPlan → ℕ
lines_in plan = length plan.folder_faults + length plan.deaths + length plan.lines

-- each session but the last ends in a stop
abbrev pub StopBetween : List SessionPlan → Type 0
StopBetween plans = map (λ plan. is_some plan.stop) plans ≡ replicate (length plans - 1) true ++ false ∷ []

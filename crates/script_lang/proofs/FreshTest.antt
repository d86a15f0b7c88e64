-- The fifth rule is tested: no client is shown an older edition than before.
use Rattle.std.proofs.Common.{ℕ, ◌≤◌, List, Option, Some, None}
use Rattle.prefs_text.specs.declared.seen.AnswerLineSeen.{AnswerLineSeen}
use Rattle.prefs_text.specs.declared.seen.AnswerSeen.{AnswerSeen}
use Rattle.prefs_text.specs.declared.seen.AnswerSeen.TheVariants.{Flow, Unchanged}
use Rattle.shelf.specs.Decided.{Decided}
use Rattle.shelf.proofs.ListTests.{each}
use Rattle.shelf.proofs.Tests.{at_most, both, if_some, like, not_so, same_number, same_option, sure}
use Rattle.script_lang.specs.Chronicle.{Chapter}
use Rattle.script_lang.specs.GoodReads.{IsFresh, KeepsFlow, KeepsFresh}
use Rattle.script_lang.specs.Shown.{last_flow, printed, shown_to}

module _ (c : Chapter) where
  abbrev pub keeps_flow : (last : Option ℕ) (answer : AnswerSeen) → Decided (KeepsFlow c last answer)
  keeps_flow last (Flow edition map) = not_so (same_option same_number last (Some edition))
  keeps_flow last (Unchanged edition) = same_option same_number last (Some edition)
  keeps_flow last other = sure tt

  abbrev pub fresh : (before : List AnswerLineSeen) (line : AnswerLineSeen) → Decided (IsFresh c before line)
  fresh before line =
      like
      (λ it. record { late = it.0; flow = it.1 })
      (λ it. (it.late, it.flow))
      (both
      (if_some (λ edition. shown_to line.call.client c.told.entries before ≤ edition) (λ edition. at_most (shown_to line.call.client c.told.entries before) edition) (printed line.answer))
      (keeps_flow (last_flow line.call.client None before) line.answer))

  abbrev pub keeps_fresh : Decided (KeepsFresh c)
  keeps_fresh = each (IsFresh c) fresh c.told.answers

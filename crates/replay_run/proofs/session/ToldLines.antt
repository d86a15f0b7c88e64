-- Where nobody has anything to do, no line tells of a stop.
use Rattle.std.proofs.Common.{◌≡◌, false, List, [], ◌∷◌, append-nil, flat_map, length, map, drop_of_length-le, Option, Some, None, is_some, refl, sym}
use Rattle.std.specs.List.{list_any}
use Rattle.shelf.proofs.Bools.{never}
use Rattle.std.proofs.lemmas.Bool.{or_parts}
use Rattle.script_lang.specs.declared.plan.run_line.Act.{Act}
use Rattle.replay_run.specs.declared.client.Client as own
use Rattle.replay_run.specs.RunState.{Client, act_now, is_busy}
use Rattle.replay_run.specs.ScriptRun.{lines_of}
use Rattle.replay_run.specs.SessionView.{client_seen}
use Rattle.replay_run.proofs.lists.OptionLemmas.{none_past}

tells_answers : (client : Client) → is_busy client ≡ false → lines_of client ≡ client.answered
tells_answers client rests = by_act (act_now client) refl rests
  where
    by_act : (act : Option Act) → act_now client ≡ act → is_some act ≡ false → lines_of client ≡ client.answered
    by_act (Some act) is busy = never (sym busy)
    by_act None is busy = rw (drop_of_length-le client.asked (none_past client.asked (length client.answered) is)) (append-nil client.answered)

pub answers_told : (clients : List own.Client) → list_any is_busy (map client_seen clients) ≡ false → flat_map (λ client. (client_seen client).answered) clients ≡ flat_map lines_of (map client_seen clients)
answers_told [] over = refl
answers_told (client ∷ clients) over =
    let parts = or_parts (is_busy (client_seen client)) (list_any is_busy (map client_seen clients)) over in
    rw (tells_answers (client_seen client) parts.0, answers_told clients parts.1) refl

-- What clients are to do keeps what is asked of acts, and does so with more names.
use Rattle.std.proofs.Common.{ℕ, ◌≤◌, List, length, arith}
use Rattle.std.specs.Prelude.{All}
use Rattle.std.proofs.lemmas.List.Elements.{All-weaker}
use Rattle.std.proofs.lemmas.Option.{slice_get_within}
use Rattle.prefs_text.specs.declared.names.Names.{Names}
use Rattle.store_traits.specs.declared.ids.ClientId.{ClientId}
use Rattle.script_lang.specs.declared.parsing.draft.Draft.{Draft}
use Rattle.script_lang.specs.declared.plan.run_line.Act.{Act}
use Rattle.script_lang.specs.declared.plan.run_line.Act.TheVariants.{Go, Restart}
use Rattle.script_lang.specs.declared.plan.run_line.RunLine.{RunLine}
use Rattle.script_lang.specs.CallWords.{Called, to_update, to_read, to_restart, AreCallWords, AsksFor}
use Rattle.script_lang.specs.Keeps.{IsBuiltAct, KeepsAct, KeepsRun}
use Rattle.script_lang.specs.Rows.{Row}
use Rattle.script_lang.specs.Spelling.{SpellsAct, SpellsCall}

abbrev pub names_of : Draft → Names
names_of draft = record { nodes = draft.nodes; clients = draft.clients }

act_of_more_nodes : (few many : List (List ℕ)) → length few ≤ length many → (act : Act) → KeepsAct few act → KeepsAct many act
act_of_more_nodes few many more (Restart node) within = omega (arith, more, within)
act_of_more_nodes few many more other keeps = keeps

pub runs_of_more_names : (few many : Names) (lines : List RunLine) → length few.nodes ≤ length many.nodes → length few.clients ≤ length many.clients → All (KeepsRun few) lines → All (KeepsRun many) lines
runs_of_more_names few many lines nodes clients =
    All-weaker (KeepsRun few) (KeepsRun many) (λ line kept. record { declared = omega (arith, clients, kept.declared); act = act_of_more_nodes few.nodes many.nodes nodes line.act kept.act }) lines

-- what words call for is an act that is built, and keeps what is asked of acts
called_keeps : (nodes behind : List (List ℕ)) (act : Act) (called : Called) → AreCallWords behind called → AsksFor nodes called act → KeepsAct nodes act × IsBuiltAct act
called_keeps nodes behind act (to_update edit) are asks = rw asks (are.follow.is_edit, tt)
called_keeps nodes behind act to_read are asks = rw asks (tt, tt)
called_keeps nodes behind act (to_restart name) are asks = rw asks.is (slice_get_within nodes asks.node.0 name asks.declared, tt)

call_keeps : (draft : Draft) (row : Row) (client : ClientId) (act : Act) → SpellsCall draft row client act → KeepsRun (names_of draft) (record { client = client; act = act }) × IsBuiltAct act
call_keeps draft row client act spelled =
    let kept = called_keeps draft.nodes spelled.behind act spelled.follow.called spelled.follow.words spelled.follow.asks in
    (record { declared = slice_get_within draft.clients client.0 spelled.name spelled.declared; act = kept.0 }, kept.1)

pub act_keeps : (draft : Draft) (row : Row) (client : ClientId) (act : Act) → SpellsAct draft row client act → KeepsRun (names_of draft) (record { client = client; act = act }) × IsBuiltAct act
act_keeps draft row client (Go steps) spelled = (record { declared = slice_get_within draft.clients client.0 spelled.name spelled.declared; act = spelled.follow.is_number.high }, tt)
act_keeps draft row client other spelled = call_keeps draft row client other spelled

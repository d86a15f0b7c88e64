use Rattle.std.proofs.lemmas.Result.{err_from_is_err_and}
use Rattle.script_words.specs.Words.{texts_at}
use Rattle.script_lang.proofs.RunRows.{call_fault, call_unknown, call_said}
use Rattle.script_lang.proofs.parsing.run_rows.read_call.Goals as goal

pub returns-in_err-act : goal.returns-in_err-act
returns-in_err-act c =
    let p = err_from_is_err_and c.from_residual.result c.from_residual.ensures.1 in
    rw (p.1, p.2) (call_fault c.args.draft.now c.args.first.now (c.is_name.ensures.0 c.if-not-is_name.false) (texts_at c.args.behind.now) c.in_err-act.field-0.0 c.in_err-act.ensures)

pub returns-in_default : goal.returns-in_default
returns-in_default c =
    call_unknown c.args.draft.now c.args.first.now (c.is_name.ensures.0 c.if-not-is_name.false) (texts_at c.args.behind.now) c.in_ok-act.act c.in_ok-act.ensures c.in_default.ensures

pub returns : goal.returns
returns c =
    call_said c.args.draft.now c.args.first.now (c.is_name.ensures.0 c.if-not-is_name.false) (texts_at c.args.behind.now) c.in_ok-act.act c.in_ok-act.ensures (record { 0 = c.in-Some.client }) c.in-Some.ensures

use Rattle.script_lang.proofs.FaultRows.{fault_barred, fault_said}
use Rattle.script_lang.proofs.TestLemmas.{refuted}
use Rattle.script_lang.proofs.parsing.fault_rows.read_fault.Goals as goal

pub returns-then-bars_faults : goal.returns-then-bars_faults
returns-then-bars_faults c =
    fault_barred c.args.draft.now c.args.behind.now c.in-len2.len_at_least c.in-len2.len_below (record { call = c.in-Some.call; number = c.in-Some-number_of.number })
    c.in-Some.ensures.some c.in-Some-number_of.ensures.some (c.bars_faults.ensures.0 c.if-bars_faults.true)

pub returns : goal.returns
returns c =
    fault_said c.args.draft.now c.args.behind.now c.in-len2.len_at_least c.in-len2.len_below (record { call = c.in-Some.call; number = c.in-Some-number_of.number })
    c.in-Some.ensures.some c.in-Some-number_of.ensures.some (refuted _ _ c.bars_faults.ensures.1 c.if-bars_faults.false)

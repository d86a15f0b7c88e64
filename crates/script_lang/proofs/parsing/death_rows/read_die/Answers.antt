use Rattle.script_lang.proofs.DeathRows.{number_bad, client_unknown, die_barred, die_said, home_at, home_within}
use Rattle.script_lang.proofs.TestLemmas.{refuted}
use Rattle.script_lang.proofs.parsing.death_rows.read_die.Goals as goal

pub returns-in_default-number_of : goal.returns-in_default-number_of
returns-in_default-number_of c =
    number_bad c.args.draft.now c.args.behind.now c.in-len3.len_at_least c.in-Some.step c.in-Some.ensures.some.0 c.in-Some.ensures.some.1 c.in-len3.len_below c.in_default-number_of.ensures.none

pub returns-in_default-find : goal.returns-in_default-find
returns-in_default-find c =
    client_unknown c.args.draft.now c.args.behind.now c.in-len3.len_at_least c.in-Some.step c.in-Some.ensures.some.0 c.in-Some.ensures.some.1 c.in-len3.len_below
    c.in-Some-number_of.number c.in-Some-number_of.ensures.some c.in_default-find.ensures

pub returns-then-bars_faults : goal.returns-then-bars_faults
returns-then-bars_faults c =
    die_barred c.args.draft.now c.args.behind.now c.in-len3.len_at_least c.in-Some.step c.in-Some.ensures.some.0 c.in-Some.ensures.some.1 c.in-len3.len_below
    c.in-Some-number_of.number c.in-Some-number_of.ensures.some (record { 0 = c.in-Some-find.client }) c.in-Some-find.ensures (c.bars_faults.ensures.0 c.if-bars_faults.true)

pub bounds-as_slice-client : goal.bounds-as_slice-client
bounds-as_slice-client c = rw c.as_slice.ensures (home_within c.args.draft.now c.requires _ c.in-Some-find.client c.in-Some-find.ensures)

pub returns : goal.returns
returns c =
    die_said c.args.draft.now c.args.behind.now c.in-len3.len_at_least c.in-Some.step c.in-Some.ensures.some.0 c.in-Some.ensures.some.1 c.in-len3.len_below
    c.in-Some-number_of.number c.in-Some-number_of.ensures.some (record { 0 = c.in-Some-find.client }) c.in-Some-find.ensures
    (refuted _ _ c.bars_faults.ensures.1 c.if-bars_faults.false) _
    (home_at c.args.draft.now.homes c.as_slice.result.now c.in-Some-find.client _ c.as_slice.ensures
    (rw c.as_slice.ensures (home_within c.args.draft.now c.requires _ c.in-Some-find.client c.in-Some-find.ensures)))

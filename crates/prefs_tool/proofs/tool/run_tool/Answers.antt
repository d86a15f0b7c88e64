-- The words ask for one command, so what holds of it holds of any that they ask for.
use Rattle.std.proofs.Common.{◌≡◌, ◌≢◌, inl, refl, subst, sym}
use Rattle.store_traits.proofs.FaultLemmas.{counts_none}
use Rattle.byte_io.specs.Seen.{sink_seen, source_seen}
use Rattle.folder_disk.specs.Seen.{folder_seen}
use Rattle.command_words.specs.Command.{texts}
use Rattle.command_words.specs.declared.command.Command.TheVariants.{Replay}
use Rattle.prefs_tool.specs.Outcome.{ReadsNoScript}
use Rattle.prefs_tool.specs.declared.tool_error.ToolError.TheVariants.{WriteFault}
use Rattle.command_words.proofs.AsksOne.{asks_one}
use Rattle.prefs_tool.proofs.ChangeLemmas.{no_truth}
use Rattle.prefs_tool.proofs.ReplayLemmas.{none_read}
use Rattle.prefs_tool.proofs.ToolLemmas.{no_memory, none_done, well_done, write_failed, told_after}
use Rattle.prefs_tool.proofs.tool.run_tool.Goals as goal

-- ---- every command but `replay`

pub returns-in_default-clause-outcome : goal.returns-in_default-clause-outcome
returns-in_default-clause-outcome g c command asks other =
    none_done _ (sink_seen g.K.Sink c.args.sink.now) (no_memory command (folder_seen g.F.Folder c.args.folder.now) other)

pub returns-in_default-asked-clause-outcome : goal.returns-in_default-asked-clause-outcome
returns-in_default-asked-clause-outcome g c command asks other =
    let none = rw c.in_default-asked.is at c.in-Ok.ensures.none in absurd (none command asks)

pub returns-in_default-run_command-clause-outcome : goal.returns-in_default-run_command-clause-outcome
returns-in_default-run_command-clause-outcome g c command asks other =
    let found = rw c.in-Some.is at c.in-Ok.ensures.some in
    let same = asks_one (texts c.args.words.now) command c.in-Some.command asks found in
    let ends = c.in_default-run_command.ensures.ends (subst ReadsNoScript same other) in
    rw same (well_done _ (sink_seen g.K.Sink c.args.sink.now) (sink_seen g.K.Sink c.run_command.new.sink) ends)

pub returns-then-is_write_fault-clause-outcome : goal.returns-then-is_write_fault-clause-outcome
returns-then-is_write_fault-clause-outcome g c command asks other =
    let found = rw c.in-Some.is at c.in-Ok.ensures.some in
    let same = asks_one (texts c.args.words.now) command c.in-Some.command asks found in
    let is : c.in-Err.error ≡ WriteFault = c.is_write_fault.ensures.0 c.if-is_write_fault.true in
    let ends = rw is at c.in-Err.ensures.ends (subst ReadsNoScript same other) in
    rw same (write_failed _ (sink_seen g.K.Sink c.args.sink.now) (sink_seen g.K.Sink c.run_command.new.sink) ends)

pub returns-clause-outcome : goal.returns-clause-outcome
returns-clause-outcome g c command asks other =
    let found = rw c.in-Some.is at c.in-Ok.ensures.some in
    let same = asks_one (texts c.args.words.now) command c.in-Some.command asks found in
    let differs : c.in-Err.error ≢ WriteFault = λ is. no_truth c.is_write_fault.result c.if-is_write_fault.false (c.is_write_fault.ensures.1 is) in
    let ends = c.in-Err.ensures.ends (subst ReadsNoScript same other) in
    rw same (told_after _ g.K.Sink c.args.sink.now c.run_command.new.sink c.tell-2.new.sink c.tell-2.result c.in-Err.error differs ends c.tell-2.ensures)

-- ---- `replay`

pub returns-in_default-clause-replay : goal.returns-in_default-clause-replay
returns-in_default-clause-replay g c asks =
    let source = source_seen g.S.Source c.args.source.now in
    none_done _ (sink_seen g.K.Sink c.args.sink.now) (record { does = inl (refl, none_read source); faults = counts_none source.count })

pub returns-in_default-asked-clause-replay : goal.returns-in_default-asked-clause-replay
returns-in_default-asked-clause-replay g c asks =
    let none = rw c.in_default-asked.is at c.in-Ok.ensures.none in absurd (none Replay asks)

pub returns-in_default-run_command-clause-replay : goal.returns-in_default-run_command-clause-replay
returns-in_default-run_command-clause-replay g c asks =
    let found = rw c.in-Some.is at c.in-Ok.ensures.some in
    let same = asks_one (texts c.args.words.now) Replay c.in-Some.command asks found in
    well_done _ (sink_seen g.K.Sink c.args.sink.now) (sink_seen g.K.Sink c.run_command.new.sink) (c.in_default-run_command.ensures.replay (sym same))

pub returns-then-is_write_fault-clause-replay : goal.returns-then-is_write_fault-clause-replay
returns-then-is_write_fault-clause-replay g c asks =
    let found = rw c.in-Some.is at c.in-Ok.ensures.some in
    let same = asks_one (texts c.args.words.now) Replay c.in-Some.command asks found in
    let is : c.in-Err.error ≡ WriteFault = c.is_write_fault.ensures.0 c.if-is_write_fault.true in
    let ends = rw is at c.in-Err.ensures.replay (sym same) in
    write_failed _ (sink_seen g.K.Sink c.args.sink.now) (sink_seen g.K.Sink c.run_command.new.sink) ends

pub returns-clause-replay : goal.returns-clause-replay
returns-clause-replay g c asks =
    let found = rw c.in-Some.is at c.in-Ok.ensures.some in
    let same = asks_one (texts c.args.words.now) Replay c.in-Some.command asks found in
    let differs : c.in-Err.error ≢ WriteFault = λ is. no_truth c.is_write_fault.result c.if-is_write_fault.false (c.is_write_fault.ensures.1 is) in
    told_after _ g.K.Sink c.args.sink.now c.run_command.new.sink c.tell-2.new.sink c.tell-2.result c.in-Err.error differs (c.in-Err.ensures.replay (sym same)) c.tell-2.ensures

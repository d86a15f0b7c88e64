-- The steps of `set` and `remove` refuse no map, and all that they have to write is the line of an error.
use Rattle.byte_io.specs.Seen.{sink_seen}
use Rattle.command_words.specs.declared.command.Command.TheVariants.{Set, Remove}
use Rattle.folder_disk.specs.Seen.{folder_seen}
use Rattle.prefs_edit.specs.After.{after_steps}
use Rattle.prefs_edit.specs.Step.{after_step}
use Rattle.prefs_edit.specs.declared.edit_step.EditStep.TheVariants as step
use Rattle.prefs_tool.proofs.ToolLemmas.{change_ends}
use Rattle.prefs_tool.proofs.tool.run_command.Goals as goal

pub change-requires : goal.change-requires
unfolding after_steps after_step
change-requires g c pairs code same = cc

pub change-requires-in-Remove : goal.change-requires-in-Remove
unfolding after_steps after_step
change-requires-in-Remove g c pairs code same = cc

pub returns-in-Set-clause-ends : goal.returns-in-Set-clause-ends
returns-in-Set-clause-ends g c other =
    let seen = folder_seen g.F.Folder in
    rw c.in-Set.is
    (change_ends (Set c.in-Set.key c.in-Set.value) (step.Set c.in-Set.key c.in-Set.value) (seen c.args.folder.now) (seen c.change.new.folder) (λ answer text does. does)
    (sink_seen g.K.Sink c.args.sink.now) c.change.result c.change.ensures.outcome c.change.ensures.faults)

pub returns-in-Remove-clause-ends : goal.returns-in-Remove-clause-ends
returns-in-Remove-clause-ends g c other =
    let seen = folder_seen g.F.Folder in
    rw c.in-Remove.is
    (change_ends (Remove c.in-Remove.key) (step.Remove c.in-Remove.key) (seen c.args.folder.now) (seen c.change-in-Remove.new.folder) (λ answer text does. does)
    (sink_seen g.K.Sink c.args.sink.now) c.change-in-Remove.result c.change-in-Remove.ensures.outcome c.change-in-Remove.ensures.faults)

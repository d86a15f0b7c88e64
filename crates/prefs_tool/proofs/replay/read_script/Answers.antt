-- What the bytes are is no fault of the source that gave them.
use Rattle.byte_io.specs.Seen.{source_seen}
use Rattle.prefs_tool.proofs.ReplayLemmas.{bytes_are_no_fault, reads_script}
use Rattle.prefs_tool.proofs.replay.read_script.Goals as goal

pub returns-in-Ok : goal.returns-in-Ok
returns-in-Ok g c =
    let seen = source_seen g.S.Source in
    let read = c.in-Ok.ensures in
    let said = rw c.as_slice.ensures at c.script_of.ensures in
    record {
      script = reads_script c.in-Ok.bytes (seen c.args.source.now) (seen c.read_all.new.source) c.script_of.result read.read said;
      faults = bytes_are_no_fault c.in-Ok.bytes _ _ c.script_of.result said read.faults;
    }

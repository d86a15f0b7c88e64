-- Main was read once, and what it reads as is no fault of the folder.
use Rattle.std.proofs.Common.{false}
use Rattle.folder_disk.specs.declared.call.FolderCall.TheVariants.{ReadMain}
use Rattle.folder_disk.proofs.CallLemmas.{makes_one}
use Rattle.prefs_tool.proofs.ReadLemmas.{no_storage_of_bytes, reads_bytes}
use Rattle.prefs_tool.proofs.read.read_map.Goals as goal

pub returns-in-Ok-Bytes : goal.returns-in-Ok-Bytes
returns-in-Ok-Bytes g c =
    let tally = g.F.Folder.tally in
    let read = rw c.in-Ok-Bytes.field-0-is at c.in-Ok-Bytes.ensures.read in
    let text = rw c.as_slice.ensures at c.map_of.ensures in
    let sound = no_storage_of_bytes c.in-Ok-Bytes.bytes c.map_of.result text in
    record {
      read = reads_bytes g.F.Folder.told (g.F.Folder.contents c.args.folder.now).main c.in-Ok-Bytes.bytes c.map_of.result read text;
      only = λ told. rw sound (record {
        contents = c.in-Ok-Bytes.ensures.contents told;
        made = makes_one ReadMain false (tally c.args.folder.now) (tally c.read_main.new.self) (c.in-Ok-Bytes.ensures.tally.due told);
      });
      faults = rw sound c.in-Ok-Bytes.ensures.tally.counts;
    }

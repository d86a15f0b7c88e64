-- The text of the map becomes main.
use Rattle.std.proofs.Common.{◌≤◌, length, arith}
use Rattle.folder_disk.specs.Seen.{folder_seen}
use Rattle.prefs_proto.specs.Encoded.{encoded}
use Rattle.prefs_tool.specs.Reading.{file_limit}
use Rattle.prefs_tool.proofs.ReplaceLemmas.{stores_text}
use Rattle.prefs_tool.proofs.change.store.Goals as goal

pub returns-clause-outcome : goal.returns-clause-outcome
returns-clause-outcome g c =
    let seen = folder_seen g.F.Folder in
    let short : length (encoded c.args.map.now) ≤ file_limit = omega arith in
    stores_text c.args.map.now c.in_ok-text.text (seen c.args.folder.now) (seen c.replace_main.new.folder) c.replace_main.result c.in_ok-text.ensures short c.replace_main.ensures.outcome

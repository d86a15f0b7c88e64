-- There is room for what is left to add, and whoever the entries so far name has a name.
use Rattle.std.proofs.Common.{◌+◌, ◌≤◌}
use Rattle.std.specs.Prelude.{All}
use Rattle.prefs_text.specs.EntryText.{EntryHasNames}
use Rattle.ds_bench.proofs.transcripts.journal.Given as goal

abbrev pub invariant-loop-number : goal.invariant-loop-number
invariant-loop-number l = record {
  room : l.updates ≤ l.journal.room + l.number;
  named : All (EntryHasNames l.names) l.journal.list;
}

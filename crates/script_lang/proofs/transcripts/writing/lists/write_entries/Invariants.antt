-- The lines of the first entries are passed on.
use Rattle.std.proofs.Common.{◌≡◌, IsTrue, string_bytes, take}
use Rattle.std.specs.List.{enumerate_from, flat_map}
use Rattle.prefs_text.specs.EntryText.{entry_text}
use Rattle.script_lang.specs.Gathering.{PassesOn}
use Rattle.script_lang.specs.TranscriptText.{line}
use Rattle.script_lang.proofs.transcripts.writing.lists.write_entries.Given as goal

abbrev pub invariant-loop-index : goal.invariant-loop-index
invariant-loop-index g l = record {
  sound : g.K.Sink.count l.sink ≡ g.K.Sink.count l.initial.sink;
  passed : IsTrue g.K.Sink.told
      → PassesOn (flat_map (λ placed. line (entry_text l.names placed.0 placed.1)) (take l.index (enumerate_from 1 l.journal.list)))
      (g.K.Sink.held l.initial.sink) (string_bytes l.initial.gathered) (g.K.Sink.held l.sink) (string_bytes l.gathered);
}

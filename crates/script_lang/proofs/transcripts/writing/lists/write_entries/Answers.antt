-- Each entry's line is passed on behind those before it.
use Rattle.std.proofs.Common.{◌≡◌, ◌∙◌, ◌+◌, ◌-◌, ◌≤◌, ◌++◌, Some, slice_get, ℕ, List, length, take, string_bytes, ap, sym, subst, arith}
use Rattle.std.specs.List.{enumerate_from, flat_map}
use Rattle.std.proofs.lemmas.List.{take_all}
use Rattle.std.proofs.lemmas.List.FromFn.{length-enumerate_from}
use Rattle.std.proofs.lemmas.Result.{err_from_is_err_and}
use Rattle.hist_journal.specs.View.{entry_seen}
use Rattle.prefs_text.specs.declared.names.Names.{Names}
use Rattle.prefs_text.specs.EntryText.{PrefEntry, entry_text}
use Rattle.byte_io.specs.Sink.{GainsPrefix}
use Rattle.script_lang.specs.Gathering.{PassesOn}
use Rattle.script_lang.specs.TranscriptText.{entry_lines, line, lines_text}
use Rattle.script_lang.proofs.ListLemmas.{StandsAt, item_passed, item_stopped, lines_text-map, stands_got, stands_numbered}
use Rattle.script_lang.proofs.transcripts.writing.lists.write_entries.Goals as goal

abbrev text_of : Names → ℕ × PrefEntry → List ℕ
text_of names placed = line (entry_text names placed.0 placed.1)

texts_are : (names : Names) (entries : List PrefEntry) → flat_map (text_of names) (enumerate_from 1 entries) ≡ lines_text (entry_lines names entries)
texts_are names entries = sym (lines_text-map (λ (placed : ℕ × PrefEntry). entry_text names placed.0 placed.1) (enumerate_from 1 entries))

stands : (entries : List PrefEntry) (index : ℕ) (entry : PrefEntry) → (1 ≤ index + 1 → Some entry ≡ slice_get entries (index + 1 - 1)) → StandsAt (enumerate_from 1 entries) index (index + 1, entry)
stands entries index entry got = stands_numbered entries index entry (stands_got entries index (index + 1 - 1) entry (omega arith) (got (omega arith)))

pub returns-in_err-write_entry-clause-taken : goal.returns-in_err-write_entry-clause-taken
returns-in_err-write_entry-clause-taken g c told =
    let held = g.K.Sink.held in
    let names = c.args.names.now in
    let entries = c.args.journal.now.list in
    let index = c.loop-index.index in
    let entry = entry_seen c.in-Some.entry.now in
    let p = err_from_is_err_and c.from_residual.result c.from_residual.ensures.1 in
    rw p.1 (subst (λ (t : List ℕ). GainsPrefix (string_bytes c.args.gathered.now ++ t) (held c.args.sink.now) (held c.write_entry.new.sink)) (texts_are names entries)
    (item_stopped (text_of names) (enumerate_from 1 entries) index (index + 1, entry) (held c.args.sink.now) (string_bytes c.args.gathered.now)
    (held c.loop-index.sink) (string_bytes c.loop-index.gathered) (held c.write_entry.new.sink) (stands entries index entry c.in-Some.ensures.entry)
    (c.loop-index.invariant.passed told) (c.in_err-write_entry.ensures.taken told)))

pub loop-index-preserved : goal.loop-index-preserved
loop-index-preserved g c =
    let held = g.K.Sink.held in
    let names = c.args.names.now in
    let entries = c.args.journal.now.list in
    let index = c.loop-index.index in
    let entry = entry_seen c.in-Some.entry.now in
    record {
      sound = c.in_ok-write_entry.ensures.faults.kept ∙ c.loop-index.invariant.sound;
      passed = λ told. item_passed (text_of names) (enumerate_from 1 entries) index (index + 1, entry) (held c.args.sink.now) (string_bytes c.args.gathered.now)
          (held c.loop-index.sink) (string_bytes c.loop-index.gathered) (held c.write_entry.new.sink) (string_bytes c.write_entry.new.gathered)
          (stands entries index entry c.in-Some.ensures.entry) (c.loop-index.invariant.passed told) (c.in_ok-write_entry.ensures.taken told);
    }

pub returns-clause-taken : goal.returns-clause-taken
returns-clause-taken g c told =
    let held = g.K.Sink.held in
    let names = c.args.names.now in
    let numbered = enumerate_from 1 c.args.journal.now.list in
    let past : length numbered ≤ c.loop-index.index = omega (arith, length-enumerate_from 1 c.args.journal.now.list, c.len-index-end.ensures) in
    let all : flat_map (text_of names) (take c.loop-index.index numbered) ≡ lines_text (entry_lines names c.args.journal.now.list) =
    ap (flat_map (text_of names)) (take_all c.loop-index.index numbered past) ∙ texts_are names c.args.journal.now.list in
    subst (λ (t : List ℕ). PassesOn t (held c.args.sink.now) (string_bytes c.args.gathered.now) (held c.loop-index.sink) (string_bytes c.loop-index.gathered)) all
    (c.loop-index.invariant.passed told)

use Rattle.std.proofs.Common.{◌≡◌, ℕ, List, subst}
use Rattle.std.proofs.lemmas.Result.{err_from_is_err_and}
use Rattle.script_words.specs.Words.{AreWords, texts_at}
use Rattle.script_lang.specs.Rows.{IsSkipped}
use Rattle.script_lang.proofs.ReadLines.{fails_tests, reads_words, some_text}
use Rattle.script_lang.proofs.TestLemmas.{refuted}
use Rattle.script_lang.proofs.parsing.reading.read_line.Goals as goal

pub returns-in_err-text : goal.returns-in_err-text
returns-in_err-text c =
    let p = err_from_is_err_and c.from_residual.result c.from_residual.ensures.1 in
    rw (p.1, p.2) (fails_tests c.args.draft.now c.args.number c.args.line.now c.in_err-text.field-0.0 c.in_err-text.ensures)

pub read_words-requires : goal.read_words-requires
read_words-requires c = record { some = some_text _ c.in_ok-text.text.now (rw c.deref.ensures.value c.in_ok-words.ensures); homes = c.requires }

pub returns : goal.returns
returns c =
    let same : c.in_ok-text.text.now ≡ c.args.line.now = c.in_ok-text.ensures.0 in
    let NotSkipped : List ℕ → Type 0 = λ text. ¬ IsSkipped text in
    let of_line : AreWords (texts_at c.deref.result.now) c.args.line.now = rw (c.deref.ensures.value, ← same) c.in_ok-words.ensures in
    reads_words c.args.draft.now c.args.number c.args.line.now c.in_ok-text.ensures.1
    (subst NotSkipped same (refuted _ _ c.is_skipped.ensures.1 c.if-is_skipped.false)) (texts_at c.deref.result.now) of_line c.read_words.result c.read_words.ensures

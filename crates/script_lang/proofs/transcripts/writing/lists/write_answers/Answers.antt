-- Each answer's line is passed on behind those before it.
use Rattle.std.proofs.Common.{◌≡◌, ◌∙◌, ◌++◌, List, ℕ, map, take, string_bytes, ap, sym, subst, arith}
use Rattle.std.specs.List.{flat_map}
use Rattle.std.proofs.lemmas.List.{take_all}
use Rattle.std.proofs.lemmas.List.Folds.{flat_map-map}
use Rattle.std.proofs.lemmas.Result.{err_from_is_err_and}
use Rattle.prefs_text.specs.declared.answer_line.AnswerLine.{AnswerLine}
use Rattle.prefs_text.specs.declared.names.Names.{Names}
use Rattle.prefs_text.specs.AnswerText.{AnswerHasNames, answer_text}
use Rattle.prefs_text.specs.AnswerView.{line_seen}
use Rattle.byte_io.specs.Sink.{GainsPrefix}
use Rattle.script_lang.specs.Gathering.{PassesOn}
use Rattle.script_lang.specs.TranscriptText.{line, lines_text}
use Rattle.script_lang.proofs.ListLemmas.{holds_at, item_passed, item_stopped, lines_text-map}
use Rattle.script_lang.proofs.transcripts.writing.lists.write_answers.Goals as goal

abbrev text_of : Names → AnswerLine → List ℕ
text_of names answer = line (answer_text names (line_seen answer))

texts_are : (names : Names) (answers : List AnswerLine) → flat_map (text_of names) answers ≡ lines_text (map (answer_text names) (map line_seen answers))
texts_are names answers = sym (lines_text-map (answer_text names) (map line_seen answers) ∙ flat_map-map (λ seen. line (answer_text names seen)) line_seen answers)

pub write_answer-requires : goal.write_answer-requires
write_answer-requires g c =
    holds_at (AnswerHasNames c.args.names.now) line_seen c.args.answers.now c.loop-answer.answer-index c.answer-item.result
    (record { within = omega arith; is = c.answer-item.is }) c.requires

pub returns-in_err-write_answer-clause-taken : goal.returns-in_err-write_answer-clause-taken
returns-in_err-write_answer-clause-taken g c told =
    let held = g.K.Sink.held in
    let p = err_from_is_err_and c.from_residual.result c.from_residual.ensures.1 in
    rw p.1 (subst (λ (t : List ℕ). GainsPrefix (string_bytes c.args.gathered.now ++ t) (held c.args.sink.now) (held c.write_answer.new.sink)) (texts_are c.args.names.now c.args.answers.now)
    (item_stopped (text_of c.args.names.now) c.args.answers.now c.loop-answer.answer-index c.answer-item.result (held c.args.sink.now) (string_bytes c.args.gathered.now)
    (held c.loop-answer.sink) (string_bytes c.loop-answer.gathered) (held c.write_answer.new.sink) (record { within = omega arith; is = c.answer-item.is })
    (c.loop-answer.invariant.passed told) (c.in_err-write_answer.ensures.taken told)))

pub loop-answer-preserved : goal.loop-answer-preserved
loop-answer-preserved g c =
    let held = g.K.Sink.held in
    record {
      sound = c.in_ok-write_answer.ensures.faults.kept ∙ c.loop-answer.invariant.sound;
      passed = λ told. item_passed (text_of c.args.names.now) c.args.answers.now c.loop-answer.answer-index c.answer-item.result (held c.args.sink.now) (string_bytes c.args.gathered.now)
          (held c.loop-answer.sink) (string_bytes c.loop-answer.gathered) (held c.write_answer.new.sink) (string_bytes c.write_answer.new.gathered)
          (record { within = omega arith; is = c.answer-item.is }) (c.loop-answer.invariant.passed told) (c.in_ok-write_answer.ensures.taken told);
    }

pub returns-clause-taken : goal.returns-clause-taken
returns-clause-taken g c told =
    let held = g.K.Sink.held in
    let answers = c.args.answers.now in
    let all : flat_map (text_of c.args.names.now) (take c.loop-answer.answer-index answers) ≡ lines_text (map (answer_text c.args.names.now) (map line_seen answers)) =
    ap (flat_map (text_of c.args.names.now)) (take_all c.loop-answer.answer-index answers (omega arith)) ∙ texts_are c.args.names.now answers in
    subst (λ (t : List ℕ). PassesOn t (held c.args.sink.now) (string_bytes c.args.gathered.now) (held c.loop-answer.sink) (string_bytes c.loop-answer.gathered)) all
    (c.loop-answer.invariant.passed told)

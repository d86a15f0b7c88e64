use Rattle.std.proofs.Common.{ℕ, ◌-◌, ◌∷◌, ◌∙◌, List, length, take, drop, get_or, ap}
use Rattle.script_words.specs.Words.{texts_at}
use Rattle.script_lang.specs.Rows.{keyword, call}
use Rattle.script_lang.proofs.WordLemmas.{first_text, no_word}
use Rattle.script_lang.proofs.parsing.reading.read_words.Goals as goal

pub returns-in-Some : goal.returns-in-Some
returns-in-Some c =
    let words = c.args.words.now in
    let behind = texts_at (take (length words - 1) (drop 1 words)) in
    record {
      row = keyword c.in-Some.word behind;
      is = first_text words c.requires.some ∙ ap (λ (first : List ℕ). first ∷ behind) c.in-Some.ensures.some;
      reads = c.read_row.ensures;
    }

pub returns-in-None : goal.returns-in-None
returns-in-None c =
    let words = c.args.words.now in
    let behind = texts_at (take (length words - 1) (drop 1 words)) in
    record {
      row = call (get_or words 0 no_word).now behind;
      is = (first_text words c.requires.some, c.in-None.ensures.none);
      reads = c.read_call.ensures;
    }

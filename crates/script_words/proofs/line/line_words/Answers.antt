-- A space that ends a word cuts the line there; any other byte makes the word longer.
use Rattle.std.proofs.Common.{◌≡◌, ◌≢◌, ◌∙◌, ◌+◌, ◌<◌, ◌≤◌, ◌++◌, ◌∷◌, [], drop, get_or, length, true, refl, sym, ap, subst, rules}
use Rattle.std.specs.Prelude.{slice_range}
use Rattle.std.proofs.lemmas.List.{map-append}
use Rattle.script_words.specs.Place.{after, ends_at_space}
use Rattle.script_words.specs.Words.{AreWords, texts_at}
use Rattle.script_words.proofs.ReadSoFar.{named, read_all, read_more, read_none, read_space}
use Rattle.script_words.proofs.line.line_words.Goals as goal
use Rattle.script_words.proofs.line.line_words.Goals.{then-ends_at+in_ok-push, else-ends_at}

pub loop-at-init : goal.loop-at-init
loop-at-init c = named c.args.line.now 0 0 0 _ _ [] (texts_at c.new-words.result.items) refl refl (ap texts_at c.new-words.ensures.items) (read_none c.args.line.now c.utf8.line)

pub loop-at-preserved : goal.loop-at-preserved
loop-at-preserved c =
    let line = c.args.line.now in
    let here = c.loop-at.at in
    let place = c.loop-at.place in
    let words = texts_at c.loop-at.words.items in
    let some : here < length line = search rules in
    elim c.if-ends_at.branch [
      | then-ends_at+in_ok-push w ↦
          let space : get_or line here 0 ≡ 32 = search rules in
          let ends : ends_at_space place ≡ true = search rules in
          let pushed : texts_at w.push.new.self.items ≡ words ++ slice_range line c.loop-at.start here ∷ [] =
          ap texts_at w.in_ok-push.ensures.items ∙ map-append (λ word. word.now) c.loop-at.words.items (w.range.result ∷ []) ∙ ap (λ text. words ++ text ∷ []) w.range.ensures.value in
          named line (here + 1) c.if-ends_at.start (here + 1) _ _ (words ++ slice_range line c.loop-at.start here ∷ []) (texts_at c.if-ends_at.words.items) w.start-is w.place-is
          (ap (λ v. texts_at v.items) w.words-is ∙ pushed)
          (read_space line c.loop-at.start here place words c.utf8.line c.loop-at.invariant some space ends)
      | else-ends_at w ↦
          let passes : ends_at_space place ≡ true → get_or line here 0 ≢ 32 = search rules in
          let stepped : c.if-ends_at.place ≡ after place (get_or line here 0) =
          w.place-is ∙ w.after-place.ensures ∙ ap (λ text. after place (get_or text here 0)) c.as_bytes-byte-items.ensures.value in
          named line c.loop-at.start c.if-ends_at.start (here + 1) _ _ words (texts_at c.if-ends_at.words.items) w.start-is stepped (ap (λ v. texts_at v.items) w.words-is)
          (read_more line c.loop-at.start here place words (get_or line here 0) c.loop-at.invariant some refl passes)
    ]

pub returns : goal.returns
returns c =
    let line = c.args.line.now in
    let words = texts_at c.loop-at.words.items in
    let all : length line ≤ c.loop-at.at = search rules in
    let pushed : texts_at c.push-2.new.self.items ≡ words ++ drop c.loop-at.start line ∷ [] =
    ap texts_at c.in_ok-push-2.ensures.items ∙ map-append (λ word. word.now) c.loop-at.words.items (c.range_from.result ∷ []) ∙ ap (λ text. words ++ text ∷ []) c.range_from.ensures.value in
    subst (λ ws. AreWords ws line) (sym pushed) (read_all line c.loop-at.start c.loop-at.at c.loop-at.place words c.loop-at.invariant all)

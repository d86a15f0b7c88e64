-- The words of what is printed of an edit, and that they are the edit.
use Rattle.std.proofs.Common.{◌≡◌, ◌≢◌, ◌∙◌, inl, inr, ℕ, List, [], ◌∷◌, ◌++◌, All, false, codes, refl, sym, ap, subst, arith, append_assoc, append-nil}
use Rattle.std.specs.Prelude.{map}
use Rattle.std.specs.List.{AllZip, flat_map, join_by, join_with_byte}
use Rattle.std.proofs.lemmas.List.Elements.{All-nil, All-cons, All-head, All-tail, All-append, All-weaker}
use Rattle.std.proofs.lemmas.List.Splits.{slice_split_at, slice_split_none}
use Rattle.prefs_edit.specs.Edit.{IsEdit}
use Rattle.prefs_edit.specs.declared.edit_step.EditStep.{EditStep}
use Rattle.prefs_text.specs.EditText.{edit_text, step_text}
use Rattle.script_words.specs.EditWords.{SpellSteps}
use Rattle.script_words.specs.Parts.{is_semicolon, parts_of}
use Rattle.script_words.specs.ReadBack.{IsTyped, ReadsBack}
use Rattle.script_words.specs.StepWords.{AreStepWords}
use Rattle.script_words.specs.Words.{AreWords, IsWhole}
use Rattle.script_words.proofs.PrintedScalars.{IsPrinted}
use Rattle.script_words.proofs.PrintedSteps.{printed_step, step_joined, step_reads, words_of_step}

abbrev words_of_steps : List EditStep → List (List ℕ)
words_of_steps steps = join_by words_of_step (codes ";" ∷ []) steps

abbrev words_of : List EditStep → List (List ℕ)
words_of [] = codes "many" ∷ []
words_of (step ∷ []) = words_of_step step
words_of (first ∷ next ∷ rest) = codes "many" ∷ words_of_steps (first ∷ next ∷ rest)

-- ---- they are the text

join_two : (word : List ℕ) (words : List (List ℕ)) (next : List ℕ) (rest : List (List ℕ))
    → join_with_byte 32 ((word ∷ words) ++ next ∷ rest) ≡ join_with_byte 32 (word ∷ words) ++ 32 ∷ join_with_byte 32 (next ∷ rest)
join_two word [] next rest = refl
join_two word (other ∷ words) next rest =
    ap (λ text. word ++ 32 ∷ text) (join_two other words next rest) ∙ sym (append_assoc word (32 ∷ join_with_byte 32 (other ∷ words)) (32 ∷ join_with_byte 32 (next ∷ rest)))

steps_joined : (first : EditStep) (rest : List EditStep) → join_with_byte 32 (words_of_steps (first ∷ rest)) ≡ join_by step_text (codes " ; ") (first ∷ rest)
steps_joined first [] = ap (join_with_byte 32) (append-nil (words_of_step first)) ∙ step_joined first ∙ sym (append-nil (step_text first))
steps_joined first (next ∷ rest) =
    let further = steps_joined next rest in
    let cut = join_two _ _ (codes ";") (words_of_steps (next ∷ rest)) in
    cut ∙ ap (λ text. text ++ 32 ∷ 59 ∷ 32 ∷ join_with_byte 32 (words_of_steps (next ∷ rest))) (step_joined first) ∙ ap (λ text. step_text first ++ 32 ∷ 59 ∷ 32 ∷ text) further

joined : (first : EditStep) (rest : List EditStep) → join_with_byte 32 (words_of (first ∷ rest)) ≡ edit_text (first ∷ rest)
joined first [] = step_joined first
joined first (next ∷ rest) = ap (λ text. codes "many " ++ text) (steps_joined first (next ∷ rest))

-- ---- each is a word

whole_semicolon : IsWhole (codes ";")
whole_semicolon = record {
  front = [];
  rest = codes ";";
  parts = refl;
  begins = inr (refl, λ marked. elim marked [ inl e ↦ omega arith | inr e ↦ omega arith ]);
  spaceless = All-cons (λ byte. byte ≢ 32) 59 [] (λ e. omega (arith, e)) (All-nil (λ byte. byte ≢ 32));
}

whole_many : IsWhole (codes "many")
whole_many = record {
  front = [];
  rest = codes "many";
  parts = refl;
  begins = inr (refl, λ marked. elim marked [ inl e ↦ omega arith | inr e ↦ omega arith ]);
  spaceless = All-cons (λ byte. byte ≢ 32) 109 (97 ∷ 110 ∷ 121 ∷ []) (λ e. omega (arith, e)) (All-cons (λ byte. byte ≢ 32) 97 (110 ∷ 121 ∷ []) (λ e. omega (arith, e))
      (All-cons (λ byte. byte ≢ 32) 110 (121 ∷ []) (λ e. omega (arith, e)) (All-cons (λ byte. byte ≢ 32) 121 [] (λ e. omega (arith, e)) (All-nil (λ byte. byte ≢ 32)))));
}

printed : (step : EditStep) → IsTyped step → All IsPrinted (words_of_step step)
printed step typed = printed_step step typed.is_step typed.amount

whole_step : (step : EditStep) → IsTyped step → All IsWhole (words_of_step step)
whole_step step typed = All-weaker IsPrinted IsWhole (λ word p. p.whole) (words_of_step step) (printed step typed)

whole_others : (steps : List EditStep) → All IsTyped steps → All IsWhole (flat_map (λ step. (codes ";" ∷ []) ++ words_of_step step) steps)
whole_others [] typed = All-nil IsWhole
whole_others (step ∷ steps) typed =
    All-append IsWhole (codes ";" ∷ words_of_step step) (flat_map (λ step. (codes ";" ∷ []) ++ words_of_step step) steps)
    (All-cons IsWhole (codes ";") (words_of_step step) whole_semicolon (whole_step step (All-head IsTyped step steps typed)))
    (whole_others steps (All-tail IsTyped step steps typed))

whole_steps : (first : EditStep) (rest : List EditStep) → All IsTyped (first ∷ rest) → All IsWhole (words_of_steps (first ∷ rest))
whole_steps first rest typed =
    All-append IsWhole (words_of_step first) (flat_map (λ step. (codes ";" ∷ []) ++ words_of_step step) rest)
    (whole_step first (All-head IsTyped first rest typed)) (whole_others rest (All-tail IsTyped first rest typed))

are_words : (word : List ℕ) (words : List (List ℕ)) → All IsWhole (word ∷ words) → AreWords (word ∷ words) (join_with_byte 32 (word ∷ words))
are_words word [] whole = record { others = []; last = word; parts = refl; joined = refl; whole = All-nil IsWhole; ends = inl (All-head IsWhole word [] whole) }
are_words word (next ∷ words) whole =
    let rest = are_words next words (All-tail IsWhole word (next ∷ words) whole) in
    record {
      others = word ∷ rest.others;
      last = rest.last;
      parts = ap (λ ws. word ∷ ws) rest.parts;
      joined = refl;
      whole = All-cons IsWhole word rest.others (All-head IsWhole word (next ∷ words) whole) rest.whole;
      ends = rest.ends;
    }

are_words_of : (first : EditStep) (rest : List EditStep) → All IsTyped (first ∷ rest) → AreWords (words_of (first ∷ rest)) (join_with_byte 32 (words_of (first ∷ rest)))
are_words_of first [] typed = are_words _ _ (whole_step first (All-head IsTyped first [] typed))
are_words_of first (next ∷ rest) typed =
    are_words (codes "many") (words_of_steps (first ∷ next ∷ rest)) (All-cons IsWhole (codes "many") (words_of_steps (first ∷ next ∷ rest)) whole_many (whole_steps first (next ∷ rest) typed))

-- ---- and they are the edit

no_semicolons : (step : EditStep) → IsTyped step → All (λ word. is_semicolon word ≡ false) (words_of_step step)
no_semicolons step typed = All-weaker IsPrinted (λ word. is_semicolon word ≡ false) (λ word p. p.other) (words_of_step step) (printed step typed)

parts_are : (first : EditStep) (rest : List EditStep) → All IsTyped (first ∷ rest) → parts_of (words_of_steps (first ∷ rest)) ≡ map words_of_step (first ∷ rest)
parts_are first [] typed =
    ap parts_of (append-nil (words_of_step first)) ∙ slice_split_none is_semicolon (words_of_step first) (no_semicolons first (All-head IsTyped first [] typed))
parts_are first (next ∷ rest) typed =
    slice_split_at is_semicolon (words_of_step first) (codes ";") (words_of_steps (next ∷ rest)) (no_semicolons first (All-head IsTyped first (next ∷ rest) typed)) refl
    ∙ ap (λ parts. words_of_step first ∷ parts) (parts_are next rest (All-tail IsTyped first (next ∷ rest) typed))

each_reads : (steps : List EditStep) → All IsTyped steps → AllZip AreStepWords (map words_of_step steps) steps
each_reads [] typed = tt
each_reads (step ∷ steps) typed =
    let first : IsTyped step = All-head IsTyped step steps typed in
    (step_reads step first.is_step first.amount, each_reads steps (All-tail IsTyped step steps typed))

spelled : (first : EditStep) (rest : List EditStep) → All IsTyped (first ∷ rest) → SpellSteps (words_of (first ∷ rest)) (first ∷ rest)
spelled first [] typed =
    let alone : IsTyped first = All-head IsTyped first [] typed in
    inl (record { step = first; alone = refl; is_step = step_reads first alone.is_step alone.amount })
spelled first (next ∷ rest) typed = inr (record {
  behind = words_of_steps (first ∷ next ∷ rest);
  name = refl;
  follow = record {
    several = omega arith;
    each = subst (λ parts. AllZip AreStepWords parts (first ∷ next ∷ rest)) (sym (parts_are first (next ∷ rest) typed)) (each_reads (first ∷ next ∷ rest) typed);
  };
})

pub reads_back : (edit : List EditStep) → IsEdit edit → All IsTyped edit → ReadsBack edit
reads_back [] is typed = absurd (omega (arith, is.count.some))
reads_back (first ∷ rest) is typed = record {
  words = words_of (first ∷ rest);
  are_words = subst (AreWords (words_of (first ∷ rest))) (joined first rest) (are_words_of first rest typed);
  are_edit = record { spelled = spelled first rest typed; is_edit = is };
}

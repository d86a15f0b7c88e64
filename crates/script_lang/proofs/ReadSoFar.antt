-- What is known once some lines of a script are read.
use Rattle.std.proofs.Common.{ℕ, suc, ◌≡◌, ◌+◌, ◌<◌, ◌≤◌, ◌∙◌, List, [], ◌∷◌, ◌++◌, length, ap, sym, refl, subst, inl, inr, ⊎_elim, append_assoc, append-nil, length-append, arith}
use Rattle.script_lang.specs.declared.parsing.draft.Draft.{Draft}
use Rattle.script_lang.specs.declared.parsing.line.Line.{Line}
use Rattle.script_lang.specs.declared.plan.mode.Mode.{Mode}
use Rattle.script_lang.specs.declared.plan.script.Script.{Script}
use Rattle.script_lang.specs.declared.parsing.script_error.ScriptError.{ScriptError}
use Rattle.script_lang.specs.Draft.{draft_of}
use Rattle.script_lang.specs.Faults.{Breaks, IsLeast}
use Rattle.script_lang.specs.Growth.{draft_with}
use Rattle.script_lang.specs.Lines.{lines_of}
use Rattle.script_lang.specs.Meaning.{AllSay, IsRefusalOf, Means, Says, script_of}
use Rattle.script_lang.specs.Reading.{GoesOn, StopsAt}
use Rattle.script_lang.proofs.GrowthLemmas.{draft_grows, says_has_place}

pub length_said : (mode : Mode) (before : List Line) (lines : List (List ℕ)) (said : List Line) → AllSay mode before lines said → length said ≡ length lines
length_said mode before [] [] each = refl
length_said mode before [] (s ∷ said) each = absurd each
length_said mode before (line ∷ lines) [] each = absurd each
length_said mode before (line ∷ lines) (s ∷ said) each = ap (λ n. suc n) (length_said mode (before ++ s ∷ []) lines said each.1)

pub say_more : (mode : Mode) (before : List Line) (lines : List (List ℕ)) (said : List Line) (line : List ℕ) (s : Line) → AllSay mode before lines said
    → Says (draft_of mode (before ++ said)) (length (before ++ said) + 1) line s → AllSay mode before (lines ++ line ∷ []) (said ++ s ∷ [])
say_more mode before [] [] line s each says = let P : List Line → Type 0 = λ b. Says (draft_of mode b) (length b + 1) line s in (subst P (append-nil before) says, tt)
say_more mode before [] (t ∷ said) line s each says = absurd each
say_more mode before (first ∷ lines) [] line s each says = absurd each
say_more mode before (first ∷ lines) (t ∷ said) line s each says =
    let P : List Line → Type 0 = λ b. Says (draft_of mode b) (length b + 1) line s in
    (each.0, say_more mode (before ++ t ∷ []) lines said line s each.1 (subst P (sym (append_assoc before (t ∷ []) said)) says))

pub record ReadSoFar (mode : Mode) (bytes : List ℕ) (number : ℕ) (rest : List ℕ) (draft : Draft) : Type 0 where
  pub front : List (List ℕ)
  pub said : List Line
  pub lines : lines_of bytes ≡ front ++ lines_of rest
  pub each : AllSay mode [] front said
  pub drafted : draft ≡ draft_of mode said
  pub counted : number ≡ length front
  pub fits : number + length rest ≤ length bytes

pub nothing_read : (mode : Mode) (bytes : List ℕ) (draft : Draft) → draft ≡ draft_of mode [] → ReadSoFar mode bytes 0 bytes draft
nothing_read mode bytes draft drafted = record { front = []; said = []; lines = refl; each = tt; drafted = drafted; counted = refl; fits = omega arith }

module _ (mode : Mode) (bytes : List ℕ) (number : ℕ) (rest : List ℕ) (draft : Draft) (so_far : ReadSoFar mode bytes number rest draft) where
  says_here : (line : List ℕ) (s : Line) → Says draft (number + 1) line s → Says (draft_of mode so_far.said) (length so_far.said + 1) line s
  says_here line s says =
      let counted : number ≡ length so_far.said = so_far.counted ∙ sym (length_said mode [] so_far.front so_far.said so_far.each) in
      let P : Draft → Type 0 = λ d. Says d (length so_far.said + 1) line s in
      let N : ℕ → Type 0 = λ n. Says draft (n + 1) line s in
      subst P so_far.drafted (subst N counted says)

  pub read_more : (line behind : List ℕ) (new : Draft) → lines_of rest ≡ line ∷ lines_of behind → length behind < length rest → GoesOn draft (number + 1) line new → ReadSoFar mode bytes (number + 1) behind new
  read_more line behind new first shorter goes_on =
      let here = says_here line goes_on.said goes_on.says in
      let place = says_has_place (draft_of mode so_far.said) (length so_far.said + 1) line goes_on.said here in
      let counted = so_far.counted in
      let fits = so_far.fits in
      record {
        front = so_far.front ++ line ∷ [];
        said = so_far.said ++ goes_on.said ∷ [];
        lines = so_far.lines ∙ ap (λ (more : List (List ℕ)). so_far.front ++ more) first ∙ sym (append_assoc so_far.front (line ∷ []) (lines_of behind));
        each = say_more mode [] so_far.front so_far.said line goes_on.said so_far.each here;
        drafted = goes_on.grown ∙ ap (λ (d : Draft). draft_with d goes_on.said) so_far.drafted ∙ sym (draft_grows mode so_far.said goes_on.said place);
        counted = omega (arith, length-append so_far.front (line ∷ []));
        fits = omega arith;
      }

  pub all_read : rest ≡ [] → (script : Script) → script ≡ script_of draft → Means mode bytes script
  unfolding lines_of
  all_read empty script made = record {
    said = so_far.said;
    each = let P : List (List ℕ) → Type 0 = λ lines. AllSay mode [] lines so_far.said in
        subst P (sym (so_far.lines ∙ ap (λ (r : List ℕ). so_far.front ++ lines_of r) empty ∙ append-nil so_far.front)) so_far.each;
    made = made ∙ ap script_of so_far.drafted;
  }

  pub stopped : (line behind : List ℕ) (error : ScriptError) → lines_of rest ≡ line ∷ lines_of behind → StopsAt draft (number + 1) line error → IsRefusalOf mode bytes error
  stopped line behind error first stops =
      ⊎_elim (λ free. inl free)
      (λ least. inr (record {
        front = so_far.front;
        line = line;
        behind = lines_of behind;
        said = so_far.said;
        lines = so_far.lines ∙ ap (λ (more : List (List ℕ)). so_far.front ++ more) first;
        before = so_far.each;
        counted = stops.line_number ∙ ap (λ n. n + 1) so_far.counted;
        least =
            let P : Draft → Type 0 = λ d. IsLeast (Breaks d error.line line) error.fault in
            let N : ℕ → Type 0 = λ n. IsLeast (Breaks draft n line) error.fault in
            subst P so_far.drafted (subst N (sym stops.line_number) least);
      })) stops.why

use Rattle.std.proofs.Common.{◌≡◌, ◌∷◌, ◌∙◌, ◌++◌, List, ap, codes, false, string_bytes, subst, sym, true, ℕ}
use Rattle.std.proofs.lemmas.Result.{IfOk-weaker}
use Rattle.command_words.specs.Command.{texts}
use Rattle.command_words.specs.Line.{MayFollow, texts_at}
use Rattle.command_words.proofs.DashLemmas.{behind_first, first_and_rest}
use Rattle.command_words.proofs.LineLemmas.{none_by_line, none_by_name, none_by_parts, some_by_line}
use Rattle.command_words.proofs.words.asked.Goals as goal

pub returns-then-not-may_follow-clause-none : goal.returns-then-not-may_follow-clause-none
returns-then-not-may_follow-clause-none c =
    none_by_name _ _ _ (first_and_rest c.args.words.now _ c.in-len1-up.len_at_least c.name-item.is)
    (λ may.
    let bad : false ≡ true = sym c.if-not-may_follow.true ∙ c.may_follow.ensures.1 (subst (λ (n : List ℕ). MayFollow n (texts (behind_first c.args.words.now))) (sym c.as_str.ensures.value) may) in
    cc)

pub returns-in_default-parted-clause-none : goal.returns-in_default-parted-clause-none
returns-in_default-parted-clause-none c =
    none_by_parts _ _ _ (first_and_rest c.args.words.now _ c.in-len1-up.len_at_least c.name-item.is) c.in_default-parted.ensures.none

line_is : (c : goal.After-drop-line) → texts_at c.as_slice.result.now ≡ string_bytes c.name-item.result ∷ codes "--" ∷ (texts c.in-Some.before.now ++ texts c.in-Some.after.now)
line_is c =
    ap texts_at c.as_slice.ensures.value ∙ c.in_ok-line.ensures
    ∙ ap (λ (n : List ℕ). n ∷ codes "--" ∷ (texts c.in-Some.before.now ++ texts c.in-Some.after.now)) c.as_str-2.ensures.value

pub returns-clause-some : goal.returns-clause-some
returns-clause-some c =
    let may = subst (λ (n : List ℕ). MayFollow n (texts (behind_first c.args.words.now))) c.as_str.ensures.value (c.may_follow.ensures.0 c.if-not-may_follow.false) in
    let parts = first_and_rest c.args.words.now _ c.in-len1-up.len_at_least c.name-item.is in
    IfOk-weaker c.read.result _ _ (λ r h. some_by_line _ _ _ _ _ _ parts (line_is c) may c.in-Some.ensures.some r h) c.read.ensures.some

pub returns-clause-none : goal.returns-clause-none
returns-clause-none c =
    let parts = first_and_rest c.args.words.now _ c.in-len1-up.len_at_least c.name-item.is in
    IfOk-weaker c.read.result _ _ (λ r h. none_by_line _ _ _ _ _ _ parts (line_is c) c.in-Some.ensures.some r h) c.read.ensures.none

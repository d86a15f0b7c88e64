-- Words ask for one thing at most.
use Rattle.std.proofs.Common.{◌≡◌, ◌∙◌, ◌+◌, ℕ, List, [], ◌∷◌, length, get_or, refl, ap, sym, subst, arith}
use Rattle.prefs_model.specs.declared.pref_value.PrefValue.{PrefValue}
use Rattle.prefs_model.specs.declared.pref_value.PrefValue.TheVariants as value
use Rattle.prefs_text.specs.ValueKind.{kind_name}
use Rattle.prefs_text.specs.declared.value_kind.ValueKind.{ValueKind}
use Rattle.prefs_text.specs.declared.value_kind.ValueKind.TheVariants.{Text, Texts}
use Rattle.prefs_text.proofs.KindNames.{one_kind}
use Rattle.command_words.specs.Command.{Asks, Follow, IsSetRow, IsValueRow, name_of}
use Rattle.command_words.specs.Words.{Given}
use Rattle.command_words.specs.declared.command.Command.{Command}
use Rattle.command_words.specs.declared.command.Command.TheVariants.{Set, Get, Remove, Show, Replay}
use Rattle.command_words.proofs.DashLemmas.{given_one}
use Rattle.command_words.proofs.PlainWordLemmas.{plain_word_one}

value_row_one : (kind : ValueKind) (words : List (List ℕ)) (a b : PrefValue) → IsValueRow kind words a → IsValueRow kind words b → a ≡ b
value_row_one Text words a b one other =
    let same : one.0 ∷ [] ≡ other.0 ∷ [] = sym one.1 ∙ other.1 in
    let texts : one.0 ≡ other.0 = cc in
    one.2 ∙ ap value.Text texts ∙ sym other.2
value_row_one Texts words a b one other = one ∙ sym other
value_row_one kind words a b one other =
    let same : one.0 ∷ [] ≡ other.0 ∷ [] = sym one.1 ∙ other.1 in
    let word : other.0 ≡ one.0 = cc in
    plain_word_one kind one.0 a b one.2 (rw (← word) other.2)

set_row_one : (words : List (List ℕ)) (key other : List ℕ) (value given : PrefValue) → IsSetRow words key value → IsSetRow words other given
    → Set key value ≡ Set other given
set_row_one words key other value given one two =
    let same : key ∷ kind_name one.kind ∷ one.values ≡ other ∷ kind_name two.kind ∷ two.values = sym one.row ∙ two.row in
    let keys : key ≡ other = cc in
    let names : kind_name two.kind ≡ kind_name one.kind = cc in
    let kinds = one_kind two.kind one.kind names in
    let rest : two.values ≡ one.values = cc in
    let also : IsValueRow one.kind one.values given =
    subst (λ (l : List (List ℕ)). IsValueRow one.kind l given) rest (subst (λ (k : ValueKind). IsValueRow k two.values given) kinds two.value) in
    let values = value_row_one one.kind one.values value given one.value also in
    cc

key_row_one : (key other : List ℕ) (words : List (List ℕ)) → words ≡ key ∷ [] → words ≡ other ∷ [] → key ≡ other
key_row_one key other words one two =
    let same : key ∷ [] ≡ other ∷ [] = sym one ∙ two in
    cc

one_given : (behind one other : List (List ℕ)) → Given behind one → Given behind other → other ≡ one
one_given behind one other g h = h.whole ∙ given_one behind h.before h.after g.before g.after h.parted g.parted ∙ sym g.whole

follow_one : (behind : List (List ℕ)) (a b : Command) → name_of a ≡ name_of b → Follow behind a → Follow behind b → a ≡ b
follow_one behind (Set key value) (Set other given) names one two =
    set_row_one one.0 key other value given one.2 (subst (λ (l : List (List ℕ)). IsSetRow l other given) (one_given behind one.0 two.0 one.1 two.1) two.2)
follow_one behind (Get key) (Get other) names one two = ap Get (key_row_one key other one.0 one.2.row (sym (one_given behind one.0 two.0 one.1 two.1) ∙ two.2.row))
follow_one behind (Remove key) (Remove other) names one two = ap Remove (key_row_one key other one.0 one.2.row (sym (one_given behind one.0 two.0 one.1 two.1) ∙ two.2.row))
follow_one behind Show Show names one two = refl
follow_one behind Replay Replay names one two = refl
follow_one behind a b names one two =
    let differ = ap (λ (name : List ℕ). get_or name 0 0 + get_or name 2 0 + length name) names in
    absurd (omega arith)

pub asks_one : (words : List (List ℕ)) (a b : Command) → Asks words a → Asks words b → a ≡ b
asks_one words a b one other =
    let same : name_of a ∷ one.behind ≡ name_of b ∷ other.behind = sym one.name ∙ other.name in
    let names : name_of a ≡ name_of b = cc in
    let behind : other.behind ≡ one.behind = cc in
    follow_one one.behind a b names one.follow (subst (λ (l : List (List ℕ)). Follow l b) behind other.follow)

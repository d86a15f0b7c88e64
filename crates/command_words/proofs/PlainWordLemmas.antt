-- A bare word is one value of a kind at most.
use Rattle.std.proofs.Common.{◌≡◌, ◌++◌, ℕ, List, ap, codes, subst, sym}
use Rattle.prefs_model.specs.declared.pref_value.PrefValue.{PrefValue}
use Rattle.prefs_model.specs.declared.pref_value.PrefValue.TheVariants.{Text, Texts}
use Rattle.prefs_text.specs.Content.{IsContent}
use Rattle.prefs_text.specs.PlainWord.{IsPlainWord}
use Rattle.prefs_text.specs.Reading.{IsValueText}
use Rattle.prefs_text.specs.ValueKind.{kind_name, kind_of}
use Rattle.prefs_text.specs.declared.value_kind.ValueKind.{ValueKind}
use Rattle.prefs_text.proofs.OneValue.{one_value}

of_its_kind : (kind : ValueKind) (word : List ℕ) (value : PrefValue) → IsPlainWord kind word value → IsPlainWord (kind_of value) word value
of_its_kind kind word value plain = subst (λ (k : ValueKind). IsPlainWord k word value) (sym plain.of_kind) plain

plain_content : (kind : ValueKind) (word : List ℕ) (value : PrefValue) → IsPlainWord kind word value → IsContent word value
plain_content kind word (Text text) plain = absurd (of_its_kind kind word (Text text) plain).scalar
plain_content kind word (Texts texts) plain = absurd (of_its_kind kind word (Texts texts) plain).scalar
plain_content kind word value plain = of_its_kind kind word value plain

-- behind its kind's name the word is a text of the value
text_of : (kind : ValueKind) (word : List ℕ) (value : PrefValue) → IsPlainWord kind word value → IsValueText (kind_name kind ++ codes " " ++ word) value
text_of kind word value plain = record {
  content = word;
  words = ap (λ (k : ValueKind). kind_name k ++ codes " " ++ word) (sym plain.of_kind);
  reads = plain_content kind word value plain;
}

pub plain_word_one : (kind : ValueKind) (word : List ℕ) (a b : PrefValue) → IsPlainWord kind word a → IsPlainWord kind word b → a ≡ b
plain_word_one kind word a b one other = one_value (kind_name kind ++ codes " " ++ word) a b (text_of kind word a one) (text_of kind word b other)

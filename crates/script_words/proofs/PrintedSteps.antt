-- The words of what is printed of a step, and that they are the step.
use Rattle.std.proofs.Common.{◌≡◌, ℕ, ℤ, List, [], ◌∷◌, All, codes, refl, sym, subst, arith, append_assoc}
use Rattle.std.specs.Fmt.{signed_decimal}
use Rattle.std.specs.Int.{Width, w32, w64}
use Rattle.std.specs.Int.RustNames.{FitsSigned}
use Rattle.std.specs.List.{join_with_byte}
use Rattle.std.proofs.lemmas.List.Elements.{All-nil, All-cons}
use Rattle.json.specs.Print.{escape, quoted}
use Rattle.prefs_edit.specs.Laws.{IsStep}
use Rattle.prefs_edit.specs.declared.edit_step.EditStep.{EditStep}
use Rattle.prefs_edit.specs.declared.edit_step.EditStep.TheVariants.{Set, Remove, Clear, AddInt, AddLong, Toggle, InsertText, RemoveText, Require}
use Rattle.prefs_model.specs.Key.{IsKey}
use Rattle.prefs_model.specs.Value.{IsValue}
use Rattle.prefs_model.specs.declared.pref_value.PrefValue.{PrefValue}
use Rattle.prefs_text.specs.Content.{IsContent, IsQuoted}
use Rattle.prefs_text.specs.EditText.{step_text}
use Rattle.prefs_text.specs.ValueKind.{kind_name, kind_of}
use Rattle.prefs_text.specs.ValueText.{plain_text}
use Rattle.prefs_text.specs.declared.value_kind.ValueKind.{ValueKind}
use Rattle.prefs_text.specs.declared.value_kind.ValueKind.TheVariants.{Bool as Truth, Int, Long, Float, Double, Text, Texts}
use Rattle.prefs_text.proofs.Back.{reads_value_text}
use Rattle.prefs_text.proofs.JsonBack.{read-quoted}
use Rattle.prefs_text.proofs.KindNames.{one_cut}
use Rattle.script_words.specs.Keys.{IsKeyWord}
use Rattle.script_words.specs.ReadBack.{AmountFits}
use Rattle.script_words.specs.StepKind.{kind_of_step, step_word}
use Rattle.script_words.specs.StepWords.{AreKey, AreKeyAndAmount, AreKeyAndText, AreKeyAndValue, AreStepWords}
use Rattle.script_words.specs.declared.step_kind.StepKind.{StepKind}
use Rattle.script_words.specs.declared.step_kind.StepKind.TheVariants as kind
use Rattle.script_words.proofs.OneEdit.{int_fits}
use Rattle.script_words.proofs.PrintedScalars.{IsPrinted, printed_by_test, printed_plain, plain_signed, printed_quoted, printed_value}

-- the words behind the step's name
abbrev pub words_behind : EditStep → List (List ℕ)
words_behind (Set key value) = quoted key ∷ kind_name (kind_of value) ∷ plain_text value ∷ []
words_behind (Remove key) = quoted key ∷ []
words_behind Clear = []
words_behind (AddInt key amount) = quoted key ∷ signed_decimal amount ∷ []
words_behind (AddLong key amount) = quoted key ∷ signed_decimal amount ∷ []
words_behind (Toggle key) = quoted key ∷ []
words_behind (InsertText key text) = quoted key ∷ quoted text ∷ []
words_behind (RemoveText key text) = quoted key ∷ quoted text ∷ []
words_behind (Require key value) = quoted key ∷ kind_name (kind_of value) ∷ plain_text value ∷ []

abbrev pub words_of_step : EditStep → List (List ℕ)
words_of_step step = step_word (kind_of_step step) ∷ words_behind step

-- ---- they are one text

pub step_joined : (step : EditStep) → join_with_byte 32 (words_of_step step) ≡ step_text step
unfolding step_text
step_joined (Set key value) = simp append_assoc
step_joined (Remove key) = refl
step_joined Clear = refl
step_joined (AddInt key amount) = simp append_assoc
step_joined (AddLong key amount) = simp append_assoc
step_joined (Toggle key) = refl
step_joined (InsertText key text) = simp append_assoc
step_joined (RemoveText key text) = simp append_assoc
step_joined (Require key value) = simp append_assoc

-- ---- each is one word, and no semicolon

printed_name : (step : StepKind) → IsPrinted (step_word step)
printed_name kind.Set = printed_by_test (codes "set") refl
printed_name kind.Remove = printed_by_test (codes "remove") refl
printed_name kind.Clear = printed_by_test (codes "clear") refl
printed_name kind.AddInt = printed_by_test (codes "addint") refl
printed_name kind.AddLong = printed_by_test (codes "addlong") refl
printed_name kind.Toggle = printed_by_test (codes "toggle") refl
printed_name kind.InsertText = printed_by_test (codes "insert") refl
printed_name kind.RemoveText = printed_by_test (codes "erase") refl
printed_name kind.Require = printed_by_test (codes "require") refl

printed_kind : (name : ValueKind) → IsPrinted (kind_name name)
printed_kind Truth = printed_by_test (codes "bool") refl
printed_kind Int = printed_by_test (codes "int") refl
printed_kind Long = printed_by_test (codes "long") refl
printed_kind Float = printed_by_test (codes "float") refl
printed_kind Double = printed_by_test (codes "double") refl
printed_kind Text = printed_by_test (codes "text") refl
printed_kind Texts = printed_by_test (codes "texts") refl

one : (word : List ℕ) → IsPrinted word → All IsPrinted (word ∷ [])
one word printed = All-cons IsPrinted word [] printed (All-nil IsPrinted)

two : (word next : List ℕ) → IsPrinted word → IsPrinted next → All IsPrinted (word ∷ next ∷ [])
two word next printed also = All-cons IsPrinted word (next ∷ []) printed (one next also)

printed_pair : (key : List ℕ) (value : PrefValue) → IsValue value → All IsPrinted (quoted key ∷ kind_name (kind_of value) ∷ plain_text value ∷ [])
printed_pair key value valid =
    All-cons IsPrinted (quoted key) (kind_name (kind_of value) ∷ plain_text value ∷ []) (printed_quoted key)
    (two (kind_name (kind_of value)) (plain_text value) (printed_kind (kind_of value)) (printed_value value valid))

printed_number : (width : Width) (amount : ℤ) → ((z : ℤ) → FitsSigned width z → FitsSigned w64 z) → FitsSigned width amount → IsPrinted (signed_decimal amount)
printed_number width amount widens fits =
    let wide = widens amount fits in
    printed_plain (signed_decimal amount) (plain_signed amount (omega (arith, wide.sfits)))

printed_behind : (step : EditStep) → IsStep step → AmountFits step → All IsPrinted (words_behind step)
printed_behind (Set key value) is fits = printed_pair key value is.1
printed_behind (Remove key) is fits = one (quoted key) (printed_quoted key)
printed_behind Clear is fits = All-nil IsPrinted
printed_behind (AddInt key amount) is fits = two (quoted key) (signed_decimal amount) (printed_quoted key) (printed_number w32 amount int_fits fits)
printed_behind (AddLong key amount) is fits = two (quoted key) (signed_decimal amount) (printed_quoted key) (printed_number w64 amount (λ z wide. wide) fits)
printed_behind (Toggle key) is fits = one (quoted key) (printed_quoted key)
printed_behind (InsertText key text) is fits = two (quoted key) (quoted text) (printed_quoted key) (printed_quoted text)
printed_behind (RemoveText key text) is fits = two (quoted key) (quoted text) (printed_quoted key) (printed_quoted text)
printed_behind (Require key value) is fits = printed_pair key value is.1

pub printed_step : (step : EditStep) → IsStep step → AmountFits step → All IsPrinted (words_of_step step)
printed_step step is fits = All-cons IsPrinted (step_word (kind_of_step step)) (words_behind step) (printed_name (kind_of_step step)) (printed_behind step is fits)

-- ---- and they are the step

is_quoted : (text : List ℕ) → IsQuoted (quoted text) text
is_quoted text = record { marks = (escape text, refl); reads = read-quoted text }

is_key_word : (key : List ℕ) → IsKey key → IsKeyWord (quoted key) key
is_key_word key is = record { quoted = is_quoted key; within = is.within }

is_content : (value : PrefValue) → IsValue value → IsContent (plain_text value) value
is_content value valid =
    let reads = reads_value_text value valid in
    let cut = one_cut (kind_of value) (kind_of value) reads.content (plain_text value) (sym reads.words) in
    subst (λ content. IsContent content value) cut.1 reads.reads

are_pair : (key : List ℕ) (value : PrefValue) → IsKey key → IsValue value → AreKeyAndValue (quoted key ∷ kind_name (kind_of value) ∷ plain_text value ∷ []) key value
are_pair key value is valid = record { word = quoted key; content = plain_text value; row = refl; is_key = is_key_word key is; is_value = is_content value valid }

are_key : (key : List ℕ) → IsKey key → AreKey (quoted key ∷ []) key
are_key key is = record { word = quoted key; row = refl; is_key = is_key_word key is }

are_amount : (width : Width) (key : List ℕ) (amount : ℤ) → IsKey key → FitsSigned width amount → AreKeyAndAmount width (quoted key ∷ signed_decimal amount ∷ []) key amount
are_amount width key amount is fits = record { word = quoted key; row = refl; is_key = is_key_word key is; fits = fits }

are_text : (key text : List ℕ) → IsKey key → AreKeyAndText (quoted key ∷ quoted text ∷ []) key text
are_text key text is = record { word = quoted key; quoted = quoted text; row = refl; is_key = is_key_word key is; is_text = is_quoted text }

pub step_reads : (step : EditStep) → IsStep step → AmountFits step → AreStepWords (words_of_step step) step
step_reads (Set key value) is fits = record { behind = words_behind (Set key value); name = refl; follow = are_pair key value is.0 is.1 }
step_reads (Remove key) is fits = record { behind = words_behind (Remove key); name = refl; follow = are_key key is }
step_reads Clear is fits = record { behind = []; name = refl; follow = refl }
step_reads (AddInt key amount) is fits = record { behind = words_behind (AddInt key amount); name = refl; follow = are_amount w32 key amount is fits }
step_reads (AddLong key amount) is fits = record { behind = words_behind (AddLong key amount); name = refl; follow = are_amount w64 key amount is fits }
step_reads (Toggle key) is fits = record { behind = words_behind (Toggle key); name = refl; follow = are_key key is }
step_reads (InsertText key text) is fits = record { behind = words_behind (InsertText key text); name = refl; follow = are_text key text is.0 }
step_reads (RemoveText key text) is fits = record { behind = words_behind (RemoveText key text); name = refl; follow = are_text key text is.0 }
step_reads (Require key value) is fits = record { behind = words_behind (Require key value); name = refl; follow = are_pair key value is.0 is.1 }

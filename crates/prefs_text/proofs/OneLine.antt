-- No text breaks a line.
use Rattle.std.proofs.Common.{◌+◌, ◌/◌, ◌%◌, ◌==◌, ℕ, zero, suc, ℤ, pos, negsuc, List, [], ◌∷◌, ◌++◌, Bool, true, false, nat_lt, length, get_or, inl, inr, sym, refl, subst, decimal, arith}
use Rattle.std.specs.Prelude.{All, if◌then◌else◌, codes, map, slice_index}
use Rattle.std.specs.Fmt.{digits, digits_onto, digit_glyph, signed_decimal}
use Rattle.std.specs.Int.{w32, w64, to_be_bytes}
use Rattle.std.specs.List.{flat_map, join_by}
use Rattle.std.proofs.lemmas.Bool.{cases_lt}
use Rattle.std.proofs.lemmas.List.{get_or_past}
use Rattle.std.proofs.lemmas.List.Elements.{All-append, All-nil, All-cons, All-get_or, All-map}
use Rattle.hex.specs.Hex.{encode_with, encode_lower, lower_digits}
use Rattle.json.specs.Print.{quoted}
use Rattle.store_traits.specs.declared.ids.CallId.{CallId}
use Rattle.store_traits.specs.declared.ids.ClientId.{ClientId}
use Rattle.store_traits.specs.declared.ids.NodeId.{NodeId}
use Rattle.prefs_model.specs.declared.pref_pair.PrefPair.{PrefPair}
use Rattle.prefs_model.specs.declared.pref_value.PrefValue.{PrefValue}
use Rattle.prefs_model.specs.declared.pref_value.PrefValue.TheVariants.{Bool as Truth, Int, Long, Float, Double, Text, Texts}
use Rattle.prefs_edit.specs.declared.edit_step.EditStep.{EditStep}
use Rattle.prefs_edit.specs.declared.edit_step.EditStep.TheVariants.{Set, Remove, Clear, AddInt, AddLong, Toggle, InsertText, RemoveText, Require}
use Rattle.prefs_text.specs.declared.names.Names.{Names}
use Rattle.prefs_text.specs.declared.value_kind.ValueKind.{ValueKind}
use Rattle.prefs_text.specs.declared.value_kind.ValueKind.TheVariants as kind
use Rattle.prefs_text.specs.Callers.{NamesAreInLine, actor_name, callers, caller_name, node_name, call_text}
use Rattle.prefs_text.specs.Content.{IsInLine}
use Rattle.prefs_text.specs.EditText.{step_text, edit_text, word_and_key}
use Rattle.prefs_text.specs.MapText.{map_text, pair_text}
use Rattle.prefs_text.specs.ValueKind.{kind_name, kind_of}
use Rattle.prefs_text.specs.ValueText.{plain_text, value_text}
use Rattle.prefs_text.proofs.InLine.{in_line, All-from_test, line-flat_map, line-quoted, line-list_text}

-- ---- pieces

pub both : (first second : List ℕ) → All IsInLine first → All IsInLine second → All IsInLine (first ++ second)
both first second one two = All-append IsInLine first second one two

-- a space between
pub spaced : (first second : List ℕ) → All IsInLine first → All IsInLine second → All IsInLine (first ++ codes " " ++ second)
unfolding in_line
spaced first second one two = both (first ++ codes " ") second (both first (codes " ") one (All-from_test (codes " ") refl)) two

pub line-join_by : {X : Type 0} (text_of : X → List ℕ) (separator : List ℕ) → ((x : X) → All IsInLine (text_of x)) → All IsInLine separator → (xs : List X) → All IsInLine (join_by text_of separator xs)
line-join_by text_of separator each between [] = All-nil IsInLine
line-join_by text_of separator each between (x ∷ xs) =
    both (text_of x) (flat_map (λ y. separator ++ text_of y) xs) (each x)
    (line-flat_map (λ y. separator ++ text_of y) (λ y. both separator (text_of y) between (each y)) xs)

-- what is found in a list whose items are in line, or a default that is
found : {X : Type 0} (P : X → Type 0) (xs : List X) (place : ℕ) (default : X) → P default → All P xs → P (get_or xs place default)
found P xs place default itself all = elim (cases_lt place (length xs)) [
  | inl within ↦ All-get_or P xs place default within all
  | inr past ↦ subst P (sym (get_or_past xs place default past)) itself
]

-- ---- numbers

line-digit_glyph : (upper : Bool) (digit : ℕ) → IsInLine (digit_glyph upper digit)
line-digit_glyph upper digit =
    elim (nat_lt digit 10) as (λ small. IsInLine (if small then 48 + digit else (if upper then 55 + digit else 87 + digit))) [
      | true ↦ (omega arith, omega arith, omega arith)
      | false ↦ elim upper as (λ high. IsInLine (if high then 55 + digit else 87 + digit)) [
        | true ↦ (omega arith, omega arith, omega arith)
        | false ↦ (omega arith, omega arith, omega arith)
      ]
    ]

line-digits_onto : (count base : ℕ) (upper : Bool) (n : ℕ) (behind : List ℕ) → All IsInLine behind → All IsInLine (digits_onto count base upper n behind)
line-digits_onto zero base upper n behind others = others
line-digits_onto (suc count) base upper n behind others =
    let more = All-cons IsInLine (digit_glyph upper (n % base)) behind (line-digit_glyph upper (n % base)) others in
    elim (n / base == 0) as (λ last. All IsInLine (if last then digit_glyph upper (n % base) ∷ behind else digits_onto count base upper (n / base) (digit_glyph upper (n % base) ∷ behind))) [
      | true ↦ more
      | false ↦ line-digits_onto count base upper (n / base) (digit_glyph upper (n % base) ∷ behind) more
    ]

pub line-decimal : (n : ℕ) → All IsInLine (decimal n)
unfolding digits
line-decimal n = line-digits_onto 64 10 false n [] (All-nil IsInLine)

line-signed_decimal : (z : ℤ) → All IsInLine (signed_decimal z)
line-signed_decimal (pos n) = line-decimal n
line-signed_decimal (negsuc n) = All-cons IsInLine 45 (decimal (suc n)) (omega arith, omega arith, omega arith) (line-decimal (suc n))

line-encode_lower : (bytes : List ℕ) → All IsInLine (encode_lower bytes)
unfolding encode_with in_line
line-encode_lower [] = All-nil IsInLine
line-encode_lower (byte ∷ bytes) =
    let digit : (place : ℕ) → IsInLine (slice_index lower_digits place) = λ place. found IsInLine lower_digits place 0 (omega arith, omega arith, omega arith) (All-from_test lower_digits refl) in
    let high = slice_index lower_digits (byte / 16) in
    let low = slice_index lower_digits (byte % 16) in
    All-cons IsInLine high (low ∷ encode_lower bytes) (digit (byte / 16)) (All-cons IsInLine low (encode_lower bytes) (digit (byte % 16)) (line-encode_lower bytes))

-- ---- values and maps

line-kind_name : (kind : ValueKind) → All IsInLine (kind_name kind)
unfolding in_line
line-kind_name kind.Bool = All-from_test (codes "bool") refl
line-kind_name kind.Int = All-from_test (codes "int") refl
line-kind_name kind.Long = All-from_test (codes "long") refl
line-kind_name kind.Float = All-from_test (codes "float") refl
line-kind_name kind.Double = All-from_test (codes "double") refl
line-kind_name kind.Text = All-from_test (codes "text") refl
line-kind_name kind.Texts = All-from_test (codes "texts") refl

line-plain_text : (value : PrefValue) → All IsInLine (plain_text value)
unfolding in_line
line-plain_text (Truth true) = All-from_test (codes "true") refl
line-plain_text (Truth false) = All-from_test (codes "false") refl
line-plain_text (Int number) = line-signed_decimal number
line-plain_text (Long number) = line-signed_decimal number
line-plain_text (Float bits) = line-encode_lower (to_be_bytes w32 bits)
line-plain_text (Double bits) = line-encode_lower (to_be_bytes w64 bits)
line-plain_text (Text text) = line-quoted text
line-plain_text (Texts texts) = line-list_text texts

line-value_text : (value : PrefValue) → All IsInLine (value_text value)
line-value_text value = spaced (kind_name (kind_of value)) (plain_text value) (line-kind_name (kind_of value)) (line-plain_text value)

line-pair_text : (pair : PrefPair) → All IsInLine (pair_text pair)
line-pair_text pair = spaced (quoted pair.key) (value_text pair.value) (line-quoted pair.key) (line-value_text pair.value)

pub line-map_text : (map : List PrefPair) → All IsInLine (map_text map)
unfolding in_line
line-map_text map =
    let pairs = join_by pair_text (codes ", ") map in
    both (codes "{" ++ pairs) (codes "}")
    (both (codes "{") pairs (All-from_test (codes "{") refl) (line-join_by pair_text (codes ", ") line-pair_text (All-from_test (codes ", ") refl) map))
    (All-from_test (codes "}") refl)

-- ---- edits

line-word_and_key : (word key : List ℕ) → All IsInLine word → All IsInLine (word_and_key word key)
line-word_and_key word key plain = spaced word (quoted key) plain (line-quoted key)

line-step_text : (step : EditStep) → All IsInLine (step_text step)
unfolding step_text in_line
line-step_text (Set key value) = spaced (word_and_key (codes "set") key) (value_text value) (line-word_and_key (codes "set") key (All-from_test (codes "set") refl)) (line-value_text value)
line-step_text (Remove key) = line-word_and_key (codes "remove") key (All-from_test (codes "remove") refl)
line-step_text Clear = All-from_test (codes "clear") refl
line-step_text (AddInt key amount) = spaced (word_and_key (codes "addint") key) (signed_decimal amount) (line-word_and_key (codes "addint") key (All-from_test (codes "addint") refl)) (line-signed_decimal amount)
line-step_text (AddLong key amount) = spaced (word_and_key (codes "addlong") key) (signed_decimal amount) (line-word_and_key (codes "addlong") key (All-from_test (codes "addlong") refl)) (line-signed_decimal amount)
line-step_text (Toggle key) = line-word_and_key (codes "toggle") key (All-from_test (codes "toggle") refl)
line-step_text (InsertText key text) = spaced (word_and_key (codes "insert") key) (quoted text) (line-word_and_key (codes "insert") key (All-from_test (codes "insert") refl)) (line-quoted text)
line-step_text (RemoveText key text) = spaced (word_and_key (codes "erase") key) (quoted text) (line-word_and_key (codes "erase") key (All-from_test (codes "erase") refl)) (line-quoted text)
line-step_text (Require key value) = spaced (word_and_key (codes "require") key) (value_text value) (line-word_and_key (codes "require") key (All-from_test (codes "require") refl)) (line-value_text value)

line-many : (steps : List EditStep) → All IsInLine (codes "many " ++ join_by step_text (codes " ; ") steps)
unfolding in_line
line-many steps =
    both (codes "many ") (join_by step_text (codes " ; ") steps) (All-from_test (codes "many ") refl)
    (line-join_by step_text (codes " ; ") line-step_text (All-from_test (codes " ; ") refl) steps)

pub line-edit_text : (steps : List EditStep) → All IsInLine (edit_text steps)
line-edit_text [] = line-many []
line-edit_text (step ∷ []) = line-step_text step
line-edit_text (step ∷ next ∷ steps) = line-many (step ∷ next ∷ steps)

-- ---- callers

line-actor_name : (node : List ℕ) → All IsInLine node → All IsInLine (actor_name node)
unfolding in_line
line-actor_name node plain = both (codes "@") node (All-from_test (codes "@") refl) plain

line-actors : (nodes : List (List ℕ)) → All (All IsInLine) nodes → All (λ node. All IsInLine (actor_name node)) nodes
line-actors nodes plain place default within = line-actor_name (get_or nodes place default) (plain place default within)

line-caller_name : (names : Names) (client : ClientId) → NamesAreInLine names → All IsInLine (caller_name names client)
unfolding caller_name
line-caller_name names client plain =
    found (All IsInLine) (callers names) client.0 [] (All-nil IsInLine)
    (All-append (All IsInLine) names.clients (map actor_name names.nodes) plain.clients (All-map (All IsInLine) actor_name names.nodes (line-actors names.nodes plain.nodes)))

pub line-node_name : (names : Names) (node : NodeId) → NamesAreInLine names → All IsInLine (node_name names node)
line-node_name names node plain = found (All IsInLine) names.nodes node.0 [] (All-nil IsInLine) plain.nodes

pub line-call_text : (names : Names) (call : CallId) → NamesAreInLine names → All IsInLine (call_text names call)
line-call_text names call plain = spaced (caller_name names call.client) (decimal call.number) (line-caller_name names call.client plain) (line-decimal call.number)

-- Which JSON values are strings, and which lists of values are lists of strings.
use Rattle.std.proofs.Common.{◌≡◌, ℕ, zero, suc, ◌<◌, List, [], ◌∷◌, length, get_or, String, Global, refl, arith, rules}
use Rattle.std.specs.Prelude.{map}
use Rattle.serde_json.specs.Data.{string}
use Rattle.serde_json.specs.View.{view, items_view, items_of}
use Rattle.serde_json.specs.declared.value.Value.{Value, the_lemmas}
use Rattle.serde_json.specs.declared.value.Value.TheVariants.{String as StringValue}

-- only a string is seen as one
is_string : (value : Value) (text : List ℕ) → view value ≡ string text → (s : String Global) × (value ≡ StringValue s)
is_string (StringValue s) text e = (s, refl)
is_string _ text e = absurd (search (rules, the_lemmas, e))

-- with one item that is no string, the items are no list of texts
pub other_item : (items : List Value) (place : ℕ) (value : Value) (texts : List (List ℕ)) → place < length items → value ≡ get_or items place value → ((s : String Global) → value ≡ StringValue s → ⊥)
    → items_view items ≡ items_of (map string texts) → ⊥
other_item [] place value texts within at other e = absurd (omega arith)
other_item (first ∷ items) place value [] within at other e = absurd (cc e)
other_item (first ∷ items) zero value (text ∷ texts) within at other e =
    let same : view value ≡ string text = cc in
    let found = is_string value text same in
    other found.0 found.1
other_item (first ∷ items) (suc place) value (text ∷ texts) within at other e = other_item items place value texts (omega arith) at other cc

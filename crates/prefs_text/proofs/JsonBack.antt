-- What is printed of a JSON string, or of an array of them, reads back.
use Rattle.std.proofs.Common.{◌≡◌, ◌∙◌, ◌≤◌, ℕ, List, [], ◌∷◌, ◌++◌, true, Some, option_and_then, ap, sym, refl, arith, append_assoc, append-nil}
use Rattle.std.specs.Prelude.{map, codes}
use Rattle.std.specs.List.{flat_map}
use Rattle.json.specs.Lex.{tokens}
use Rattle.json.specs.Print.{quoted}
use Rattle.json.specs.Json.{value, if_last}
use Rattle.json.specs.Tree.{json_tokens, items_depth, HasNumbers, ItemsHaveNumbers}
use Rattle.json.specs.Tree as tree
use Rattle.json.proofs.Printed.Tokens.{tokens-print}
use Rattle.json.proofs.Printed.Trees.{ArePrintable-json_tokens, value-json_tokens}
use Rattle.serde_json.specs.Data.{Data, Items, string, array}
use Rattle.serde_json.specs.Read.{read, of_json, of_items, max_depth}
use Rattle.serde_json.specs.View.{items_of}
use Rattle.serde_json.specs.Written.{compact_text, items_text, outline, items_outline}
use Rattle.serde_json.proofs.Texts.{print-outline}
use Rattle.prefs_text.specs.ValueText.{list_text}

-- a value with no numbers, not too deep, whose outline is itself
record IsPlainData (d : Data) : Type 0 where
  numbers : HasNumbers (outline d)
  shallow : tree.depth (outline d) ≤ max_depth
  itself : of_json (outline d) ≡ Some d

read-compact_text : (d : Data) → IsPlainData d → read (compact_text d) ≡ Some d
read-compact_text d plain =
    let json = outline d in
    let printed : tokens (compact_text d) ≡ json_tokens json ++ [] =
    ap tokens (sym (print-outline d)) ∙ tokens-print (json_tokens json) (ArePrintable-json_tokens json plain.numbers) ∙ sym (append-nil (json_tokens json)) in
    ap (λ ts. option_and_then of_json (option_and_then (λ p. if_last p.0 p.1) (value max_depth ts))) printed
    ∙ ap (λ found. option_and_then of_json (option_and_then (λ p. if_last p.0 p.1) found)) (value-json_tokens json max_depth [] plain.shallow)
    ∙ plain.itself

pub read-quoted : (text : List ℕ) → read (quoted text) ≡ Some (string text)
read-quoted text = read-compact_text (string text) (record { numbers = tt; shallow = omega arith; itself = refl })

strings : List (List ℕ) → Items
strings texts = items_of (map string texts)

strings-numbers : (texts : List (List ℕ)) → ItemsHaveNumbers (items_outline (strings texts))
unfolding strings
strings-numbers [] = tt
strings-numbers (text ∷ texts) = (tt, strings-numbers texts)

strings-depth : (texts : List (List ℕ)) → items_depth (items_outline (strings texts)) ≡ 0
unfolding strings
strings-depth [] = refl
strings-depth (text ∷ texts) = omega (arith, strings-depth texts)

strings-themselves : (texts : List (List ℕ)) → of_items (items_outline (strings texts)) ≡ Some (strings texts)
unfolding strings
strings-themselves [] = refl
strings-themselves (text ∷ texts) = rw (strings-themselves texts) refl

-- the items but the first, with the closing bracket
others-items_text : (texts : List (List ℕ)) → flat_map (λ text. codes "," ++ quoted text) texts ++ codes "]" ≡ items_text true (strings texts)
unfolding strings
others-items_text [] = refl
others-items_text (text ∷ texts) = append_assoc (codes "," ++ quoted text) _ (codes "]") ∙ ap (λ rest. codes "," ++ (quoted text ++ rest)) (others-items_text texts)

list_text-compact : (texts : List (List ℕ)) → list_text texts ≡ compact_text (array (strings texts))
unfolding strings
list_text-compact [] = refl
list_text-compact (text ∷ texts) = ap (λ rest. 91 ∷ rest) (append_assoc (quoted text) _ (codes "]") ∙ ap (λ rest. quoted text ++ rest) (others-items_text texts))

pub read-list_text : (texts : List (List ℕ)) → read (list_text texts) ≡ Some (array (items_of (map string texts)))
unfolding strings
read-list_text texts =
    let plain : IsPlainData (array (strings texts)) = record { numbers = strings-numbers texts; shallow = omega (arith, strings-depth texts); itself = rw (strings-themselves texts) refl } in
    ap read (list_text-compact texts) ∙ read-compact_text (array (strings texts)) plain

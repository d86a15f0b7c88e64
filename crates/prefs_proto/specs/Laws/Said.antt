-- What the last entries say, of entries with their places and of those without.
use Rattle.std.proofs.Common.{◌≡◌, ℕ, List, [], ◌∷◌, ◌++◌, map, reverse, true, false, Some, refl, sym, ap, ◌∙◌, if◌then◌else◌}
use Rattle.std.specs.Ordering.{is_eq}
use Rattle.std.proofs.lemmas.List.{reverse-append}
use Rattle.prefs_model.specs.declared.pref_entry.PrefEntry.{PrefEntry}
use Rattle.prefs_model.specs.Entry.{first_with}
use Rattle.prefs_model.specs.Rising.{key_cmp, value_under}
use Rattle.prefs_proto.specs.Layout.{EntrySeen}
use Rattle.prefs_proto.specs.Entry.{key_of, value_of}
use Rattle.prefs_proto.specs.Reads.{last_value}
use Rattle.prefs_proto.specs.Found.{entry_said}

map-append : (xs ys : List EntrySeen) → map entry_said (xs ++ ys) ≡ map entry_said xs ++ map entry_said ys
map-append [] ys = refl
map-append (x ∷ xs) ys = ap (λ (rest : List PrefEntry). entry_said x ∷ rest) (map-append xs ys)

reverse-map : (xs : List EntrySeen) → reverse (map entry_said xs) ≡ map entry_said (reverse xs)
reverse-map [] = refl
reverse-map (x ∷ xs) =
    reverse-append (entry_said x ∷ []) (map entry_said xs) ∙ ap (λ (front : List PrefEntry). front ++ entry_said x ∷ []) (reverse-map xs)
    ∙ sym (map-append (reverse xs) (x ∷ [])) ∙ ap (map entry_said) (sym (reverse-append (x ∷ []) xs))

first_said : (xs : List EntrySeen) (name : List ℕ) → first_with (map entry_said xs) name ≡ value_under key_of value_of xs name
first_said [] name = refl
first_said (x ∷ xs) name =
    elim (is_eq (key_cmp name (key_of x))) as (λ b. (if b then Some (value_of x) else first_with (map entry_said xs) name) ≡ (if b then Some (value_of x) else value_under key_of value_of xs name)) [
      | true ↦ refl
      | false ↦ first_said xs name
    ]

pub said_last : (said : List PrefEntry) (entries : List EntrySeen) → said ≡ map entry_said entries → (name : List ℕ) → first_with (reverse said) name ≡ last_value entries name
said_last said entries is name =
    ap (λ (s : List PrefEntry). first_with (reverse s) name) is ∙ ap (λ (s : List PrefEntry). first_with s name) (reverse-map entries) ∙ first_said (reverse entries) name

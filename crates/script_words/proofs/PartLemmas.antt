-- Parts of words, seen as texts.
use Rattle.std.proofs.Common.{◌≡◌, ◌∙◌, ℕ, List, [], ◌∷◌, Bool, true, false, cond, refl, sym, ap}
use Rattle.std.specs.Borrow.{Bor}
use Rattle.std.specs.List.{onto_first, slice_split}
use Rattle.std.specs.Prelude.{map}
use Rattle.std.proofs.lemmas.Simd.{map-map}
use Rattle.script_words.specs.Parts.{is_semicolon, parts_at, parts_of}
use Rattle.script_words.specs.Words.{texts_at}

onto_first_seen : {X Y : Type 0} (view : X → Y) (x : X) (parts : List (List X)) → map (map view) (onto_first x parts) ≡ onto_first (view x) (map (map view) parts)
onto_first_seen view x [] = refl
onto_first_seen view x (part ∷ parts) = refl

cut_seen : {X Y : Type 0} (view : X → Y) (x : X) (cuts : Bool) (parts : List (List X)) (seen : List (List Y)) → map (map view) parts ≡ seen
    → map (map view) (cond cuts ([] ∷ parts) (onto_first x parts)) ≡ cond cuts ([] ∷ seen) (onto_first (view x) seen)
cut_seen view x true parts seen e = ap (λ others. [] ∷ others) e
cut_seen view x false parts seen e = onto_first_seen view x parts ∙ ap (onto_first (view x)) e

split_seen : {X Y : Type 0} (view : X → Y) (p : Y → Bool) (xs : List X) → map (map view) (slice_split (λ x. p (view x)) xs) ≡ slice_split p (map view xs)
split_seen view p [] = refl
split_seen view p (x ∷ xs) = cut_seen view x (p (view x)) (slice_split (λ x. p (view x)) xs) (slice_split p (map view xs)) (split_seen view p xs)

pub parts_seen : (words : List (Bor (List ℕ))) (parts : List (Bor (List (Bor (List ℕ)))))
    → map (λ (part : Bor (List (Bor (List ℕ)))). part.now) parts ≡ slice_split (λ (word : Bor (List ℕ)). is_semicolon word.now) words → parts_at parts ≡ parts_of (texts_at words)
parts_seen words parts e = sym (map-map texts_at (λ (part : Bor (List (Bor (List ℕ)))). part.now) parts) ∙ ap (map texts_at) e ∙ split_seen (λ (word : Bor (List ℕ)). word.now) is_semicolon words

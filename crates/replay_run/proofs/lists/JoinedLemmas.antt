-- What holds of the elements of lists that are joined.
use Rattle.std.proofs.Common.{◌≡◌, ◌∙◌, ℕ, suc, zero, List, [], ◌∷◌, ◌++◌, flat_map, length, All, Some, append_assoc, slice_get, refl, sym}
use Rattle.std.proofs.lemmas.List.Elements.{All-append, All-cons, All-nil}
use Rattle.replay_run.proofs.lists.OptionLemmas.{nothing}

pub all_flat : {X Y : Type 0} (P : Y → Type 0) (f : X → List Y) (xs : List X) → ((place : ℕ) (x : X) → slice_get xs place ≡ Some x → All P (f x)) → All P (flat_map f xs)
all_flat P f [] all = All-nil P
all_flat P f (x ∷ xs) all = All-append P (f x) (flat_map f xs) (all 0 x refl) (all_flat P f xs (λ place y found. all (suc place) y found))

pub all_each : {X : Type 0} (P : X → Type 0) (before list : List X) → ((front : List X) (x : X) (behind : List X) → before ++ list ≡ front ++ x ∷ behind → P x) → All P list
all_each P before [] each = All-nil P
all_each P before (x ∷ xs) each = All-cons P x xs (each before x xs refl) (all_each P (before ++ x ∷ []) xs (λ front y behind is. each front y behind (sym (append_assoc before (x ∷ []) xs) ∙ is)))

pub found_in_front : {X : Type 0} (earlier : List X) (x : X) (later : List X) (place : ℕ) (y : X) → slice_get earlier place ≡ Some y → slice_get (earlier ++ x ∷ later) place ≡ Some y
found_in_front [] x later place y found = nothing y found
found_in_front (z ∷ earlier) x later zero y found = found
found_in_front (z ∷ earlier) x later (suc place) y found = found_in_front earlier x later place y found

pub found_between : {X : Type 0} (earlier : List X) (x : X) (later : List X) → slice_get (earlier ++ x ∷ later) (length earlier) ≡ Some x
found_between [] x later = refl
found_between (z ∷ earlier) x later = found_between earlier x later

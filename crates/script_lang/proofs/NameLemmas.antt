-- What a look-up answers in a list with one name more.
use Rattle.std.proofs.Common.{◌≡◌, ◌≢◌, ℕ, zero, suc, Bool, true, false, cond, List, [], ◌∷◌, ◌++◌, Option, Some, None, length, ⊎_elim, ap, sym, refl, ◌∙◌, ◌<◌, get_or, arith}
use Rattle.std.specs.Prelude.{slice_get, Contains, is_some}
use Rattle.std.specs.Str.{bytes_eq}
use Rattle.std.proofs.lemmas.List.Elements.{Contains-push_cases}
use Rattle.std.proofs.lemmas.Slice.Eq.{bytes_eq-Decides}
use Rattle.std.proofs.lemmas.Bool.{false≢true}
use Rattle.std.proofs.lemmas.Option.{slice_get_within, get_or_from_slice_get, slice_get-get_or}
use Rattle.store_traits.specs.declared.ids.NodeId.{NodeId}
use Rattle.folder_disk.proofs.MainsLemmas.{get_last}
use Rattle.script_lang.specs.Finding.{Finds}

pub slice_get-push_before : {X : Type 0} (xs : List X) (y x : X) (i : ℕ) → slice_get xs i ≡ Some x → slice_get (xs ++ y ∷ []) i ≡ Some x
slice_get-push_before [] y x i e = cc
slice_get-push_before (z ∷ xs) y x zero e = e
slice_get-push_before (z ∷ xs) y x (suc i) e = slice_get-push_before xs y x i e

-- the last name is found, and so is each that was found before
found_more : (names : List (List ℕ)) (name other : List ℕ) (same : Bool) (old : Option ℕ) → same ≡ bytes_eq name other → Finds names other old → Finds (names ++ name ∷ []) other (cond same (Some (length names)) old)
found_more names name other true old test finds =
    let is : name ≡ other = (bytes_eq-Decides name other).0 (sym test) in
    rw (← is) (get_last names name)
found_more names name other false (Some place) test finds = slice_get-push_before names name other place finds
found_more names name other false None test finds =
    let differs : name ≢ other = λ is. false≢true (test ∙ (bytes_eq-Decides name other).1 is) in
    λ has. ⊎_elim finds differs (Contains-push_cases names name other has)

pub finds_more : (names : List (List ℕ)) (name other : List ℕ) (old new : Option ℕ) → new ≡ cond (bytes_eq name other) (Some (length names)) old → Finds names other old → Finds (names ++ name ∷ []) other new
finds_more names name other old new is finds = rw is (found_more names name other (bytes_eq name other) old refl finds)

pub Contains-from_slice_get : {X : Type 0} (xs : List X) (x : X) (place : ℕ) → slice_get xs place ≡ Some x → Contains xs x
Contains-from_slice_get xs x place e = (place, slice_get_within xs place x e, get_or_from_slice_get xs place x x e)

pub slice_get-from_Contains : {X : Type 0} (xs : List X) (x : X) → Contains xs x → (place : ℕ) × (slice_get xs place ≡ Some x)
slice_get-from_Contains xs x (place, within, is) = (place, slice_get-get_or xs place x within ∙ ap Some is)

-- a name is in the list exactly where a place is found
pub found_exactly : (names : List (List ℕ)) (name : List ℕ) (found : Option ℕ) → Finds names name found → (is_some found ≡ true → Contains names name) × (Contains names name → is_some found ≡ true)
found_exactly names name None finds = (λ h. absurd (false≢true h), λ has. absurd (finds has))
found_exactly names name (Some place) finds = (λ _. Contains-from_slice_get names name place finds, λ _. refl)

-- where as many others stand as names, one stands at the place of each name
pub beside_name : {X : Type 0} (names : List (List ℕ)) (others : List X) (name : List ℕ) (place : ℕ) → length others ≡ length names → slice_get names place ≡ Some name → (other : X) × (slice_get others place ≡ Some other)
beside_name names [] name place beside at = let within : place < length names = slice_get_within names place name at in absurd (omega arith)
beside_name names (x ∷ xs) name place beside at =
    let within : place < length names = slice_get_within names place name at in
    (get_or (x ∷ xs) place x, slice_get-get_or (x ∷ xs) place x (omega arith))

-- the same place is the same node
pub same_node : (a b : NodeId) → a.0 ≡ b.0 → a ≡ b
same_node a b e = ap (λ (n : ℕ). record { 0 = n }) e

-- What a rename makes of the mains of a folder in memory.
use Rattle.std.proofs.Common.{◌≡◌, ◌≤◌, ◌<◌, ◌+◌, ◌||◌, not, true, false, Bool, List, [], ◌∷◌, ◌++◌, ℕ, refl, arith, length, Some, ap, zero, suc}
use Rattle.std.specs.Prelude.{slice_get}
use Rattle.std.proofs.lemmas.List.{map-append}
use Rattle.folder_disk.specs.declared.main_read.MainRead.{MainRead}
use Rattle.folder_disk.specs.declared.main_read.MainRead.TheVariants.{Bytes}
use Rattle.folder_disk.specs.declared.mains.FirstMain.{FirstMain}
use Rattle.folder_disk.specs.declared.mains.FirstMain.TheVariants.{Now, Older, Aside}
use Rattle.folder_disk.specs.Contents.{Images}
use Rattle.folder_disk.specs.Mains.{kept_of, kept_by_move, first_of, first_bound, once_replaced, found_main}

pub get_last : {X : Type 0} (xs : List X) (x : X) → slice_get (xs ++ x ∷ []) (length xs) ≡ Some x
get_last [] x = refl
get_last (y ∷ xs) x = get_last xs x

pub get_before : {X : Type 0} (xs : List X) (x : X) (i : ℕ) → i < length xs → slice_get (xs ++ x ∷ []) i ≡ slice_get xs i
get_before [] x i h = absurd (omega arith)
get_before (y ∷ xs) x zero h = refl
get_before (y ∷ xs) x (suc i) h = get_before xs x i (omega arith)

pub first_once_replaced : (first : FirstMain) (old new : MainRead) (older : List MainRead) → first_bound first ≤ length older → first_of (once_replaced first (length older)) new (older ++ old ∷ []) ≡ first_of first old older
first_once_replaced Now old new older h = ap found_main (get_last older old)
first_once_replaced (Older i) old new older h = ap found_main (get_before older old i (omega arith))
first_once_replaced (Aside main) old new older h = refl

pub bound_once_replaced : (first : FirstMain) (count : ℕ) → first_bound first ≤ count → first_bound (once_replaced first count) ≤ count + 1
bound_once_replaced Now count h = omega arith
bound_once_replaced (Older i) count h = omega arith
bound_once_replaced (Aside main) count h = omega arith

pub kept_once_replaced : (is_wild is_synced : Bool) (older : List MainRead) (old : MainRead) (bytes : List ℕ) → kept_of (is_wild || not is_synced) (older ++ old ∷ []) (Bytes bytes) ≡ kept_by_move is_synced bytes (kept_of is_wild older old)
kept_once_replaced true true older old bytes = refl
kept_once_replaced true false older old bytes = refl
kept_once_replaced false true older old bytes = ap Images (rw map-append refl)
kept_once_replaced false false older old bytes = refl

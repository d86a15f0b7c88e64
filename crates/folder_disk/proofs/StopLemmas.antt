-- What a stop of the machine leaves of the mains of a folder in memory.
use Rattle.std.proofs.Common.{◌≡◌, ◌≤◌, ◌<◌, ◌+◌, ◌-◌, min, true, false, Bool, List, [], ◌∷◌, ◌++◌, ℕ, refl, sym, ap, arith, length, map, get_or, Option, None, zero, suc, ◌∙◌}
use Rattle.std.proofs.lemmas.List.Elements.{Contains-get_or}
use Rattle.folder_disk.specs.declared.main_read.MainRead.{MainRead}
use Rattle.folder_disk.specs.MainRead.{main_of}
use Rattle.folder_disk.specs.Mains.{kept_of}
use Rattle.folder_disk.specs.Stops.{IsTame, MayBeLeft, image, images_of}

abbrev images : List MainRead → MainRead → List (Option (List ℕ))
images older now = map main_of older ++ main_of now ∷ []

count_images : (older : List MainRead) (now : MainRead) → length (images older now) ≡ length older + 1
count_images [] now = refl
count_images (main ∷ older) now = let e = count_images older now in omega arith

at_older : (older : List MainRead) (now : MainRead) (i : ℕ) (main : MainRead) → i < length older → get_or (images older now) i None ≡ main_of (get_or older i main)
at_older [] now i main h = absurd (omega arith)
at_older (first ∷ older) now zero main h = refl
at_older (first ∷ older) now (suc i) main h = at_older older now i main (omega arith)

at_now : (older : List MainRead) (now : MainRead) → get_or (images older now) (length older) None ≡ main_of now
at_now [] now = refl
at_now (first ∷ older) now = at_now older now

pub length_images : (is_wild : Bool) (older : List MainRead) (now : MainRead) → IsTame (kept_of is_wild older now) → length (images_of (kept_of is_wild older now)) ≡ length older + 1
length_images true older now tame = absurd tame
length_images false older now tame = count_images older now

pub image_older : (i : ℕ) (is_wild : Bool) (older : List MainRead) (now main : MainRead) → IsTame (kept_of is_wild older now) → i < length older → main ≡ get_or older i main
    → image i (images_of (kept_of is_wild older now)) ≡ main_of main
image_older i true older now main tame within e = absurd tame
image_older i false older now main tame within e =
    let count = count_images older now in
    let here : min i (length (images older now) - 1) ≡ i = omega arith in
    rw here (at_older older now i main within ∙ sym (ap main_of e))

pub image_now : (i : ℕ) (is_wild : Bool) (older : List MainRead) (now : MainRead) → IsTame (kept_of is_wild older now) → length older ≤ i
    → image i (images_of (kept_of is_wild older now)) ≡ main_of now
image_now i true older now tame behind = absurd tame
image_now i false older now tame behind =
    let count = count_images older now in
    let here : min i (length (images older now) - 1) ≡ length older = omega arith in
    rw here (at_now older now)

pub image_is_left : (i : ℕ) (is_wild : Bool) (older : List MainRead) (now : MainRead) → IsTame (kept_of is_wild older now)
    → MayBeLeft (kept_of is_wild older now) (image i (images_of (kept_of is_wild older now)))
image_is_left i true older now tame = tt
image_is_left i false older now tame =
    let count = count_images older now in Contains-get_or (images older now) (min i (length (images older now) - 1)) None (omega arith)

-- The texts of a list's items, of which some are passed on already.
use Rattle.std.proofs.Common.{◌≡◌, ◌∙◌, ◌+◌, ◌<◌, ℕ, List, [], ◌∷◌, ◌++◌, Err, length, get_or, take, drop, sym, ap, subst, append-nil, arith}
use Rattle.std.specs.List.{flat_map, enumerate_from}
use Rattle.std.proofs.lemmas.Grind.{flat_map-append}
use Rattle.std.specs.Prelude.{All, Some, map, slice_get}
use Rattle.std.proofs.lemmas.Option.{slice_get_within, get_or_from_slice_get}
use Rattle.std.proofs.lemmas.List.{take_more, take-append-drop, get_or-map, length-map}
use Rattle.std.proofs.lemmas.List.Elements.{All-get_or}
use Rattle.std.proofs.lemmas.List.Folds.{flat_map-map}
use Rattle.std.proofs.lemmas.List.FromFn.{get_or-enumerate_from, length-enumerate_from}
use Rattle.byte_io.specs.Sink.{GainsPrefix}
use Rattle.script_lang.specs.Gathering.{PassesOn}
use Rattle.script_lang.specs.TranscriptText.{line, lines_text}
use Rattle.script_lang.proofs.GatheringLemmas.{passes_both, gathers_behind, stops_inside}

-- the item stands at this place
pub record StandsAt {X : Type 0} (items : List X) (place : ℕ) (item : X) : Type 0 where
  pub within : place < length items
  pub is : item ≡ get_or items place item

-- the text of one item more
texts_more : {X : Type 0} (text_of : X → List ℕ) (items : List X) (place : ℕ) (item : X) → StandsAt items place item
    → flat_map text_of (take (place + 1) items) ≡ flat_map text_of (take place items) ++ text_of item
texts_more text_of items place item stands =
    ap (flat_map text_of) (take_more items place item stands.within) ∙ flat_map-append text_of (take place items) (get_or items place item ∷ [])
    ∙ ap (λ (t : List ℕ). flat_map text_of (take place items) ++ t) (append-nil (text_of (get_or items place item)) ∙ ap text_of (sym stands.is))

pub item_passed : {X : Type 0} (text_of : X → List ℕ) (items : List X) (place : ℕ) (item : X) (held gathered middle_held middle_gathered new_held new_gathered : List ℕ)
    → StandsAt items place item → PassesOn (flat_map text_of (take place items)) held gathered middle_held middle_gathered
    → PassesOn (text_of item) middle_held middle_gathered new_held new_gathered
    → PassesOn (flat_map text_of (take (place + 1) items)) held gathered new_held new_gathered
item_passed text_of items place item held gathered middle_held middle_gathered new_held new_gathered stands so_far next =
    subst (λ (t : List ℕ). PassesOn t held gathered new_held new_gathered) (sym (texts_more text_of items place item stands))
    (passes_both (flat_map text_of (take place items)) (text_of item) held gathered middle_held middle_gathered new_held new_gathered so_far next)

pub item_stopped : {X : Type 0} (text_of : X → List ℕ) (items : List X) (place : ℕ) (item : X) (held gathered middle_held middle_gathered new_held : List ℕ)
    → StandsAt items place item → PassesOn (flat_map text_of (take place items)) held gathered middle_held middle_gathered
    → GainsPrefix (middle_gathered ++ text_of item) middle_held new_held
    → GainsPrefix (gathered ++ flat_map text_of items) held new_held
item_stopped text_of items place item held gathered middle_held middle_gathered new_held stands so_far stop =
    let first = flat_map text_of (take place items) in
    let others = flat_map text_of (drop (place + 1) items) in
    let up_to : GainsPrefix (gathered ++ (first ++ text_of item)) held new_held =
    gathers_behind {T = ℕ} {E = ℕ} first (text_of item) held gathered middle_held middle_gathered new_held [] (Err 0) so_far stop in
    let all : flat_map text_of items ≡ (first ++ text_of item) ++ others =
    ap (flat_map text_of) (sym (take-append-drop (place + 1) items)) ∙ flat_map-append text_of (take (place + 1) items) (drop (place + 1) items)
    ∙ ap (λ (t : List ℕ). t ++ others) (texts_more text_of items place item stands) in
    subst (λ (t : List ℕ). GainsPrefix (gathered ++ t) held new_held) (sym all) (stops_inside (first ++ text_of item) others held gathered new_held up_to)

-- a numbered item
pub stands_numbered : {X : Type 0} (items : List X) (place : ℕ) (item : X) → StandsAt items place item → StandsAt (enumerate_from 1 items) place (place + 1, item)
stands_numbered items place item stands = record {
  within = omega (arith, length-enumerate_from 1 items, stands.within);
  is =
      let at = get_or-enumerate_from 1 items place (place + 1, item) stands.within in
      let number : 1 + place ≡ place + 1 = omega arith in
      cc (at, number, stands.is);
}

-- what holds of each item that is seen holds of the item at a place
pub holds_at : {X Y : Type 0} (P : Y → Type 0) (seen : X → Y) (items : List X) (place : ℕ) (item : X) → StandsAt items place item → All P (map seen items) → P (seen item)
holds_at P seen items place item stands all =
    subst P (get_or-map seen items place item (seen item) stands.within ∙ ap seen (sym stands.is))
    (All-get_or P (map seen items) place (seen item) (omega (arith, stands.within, length-map items seen)) all)

-- the item that is seen stands at the same place
pub stands_seen : {X Y : Type 0} (seen : X → Y) (items : List X) (place : ℕ) (item : X) → StandsAt items place item → StandsAt (map seen items) place (seen item)
stands_seen seen items place item stands = record {
  within = omega (arith, stands.within, length-map items seen);
  is = sym (get_or-map seen items place item (seen item) stands.within ∙ ap seen (sym stands.is));
}

-- the lines of a list's items
pub lines_text-map : {X : Type 0} (text_of : X → List ℕ) (items : List X) → lines_text (map text_of items) ≡ flat_map (λ item. line (text_of item)) items
lines_text-map text_of items = flat_map-map line text_of items

-- what is found behind so many items stands at that place
pub stands_got : {X : Type 0} (items : List X) (place at : ℕ) (item : X) → at ≡ place → Some item ≡ slice_get items at → StandsAt items place item
stands_got items place at item same got =
    let found : slice_get items place ≡ Some item = sym (got ∙ ap (slice_get items) same) in
    record { within = slice_get_within items place item found; is = sym (get_or_from_slice_get items place item item found) }

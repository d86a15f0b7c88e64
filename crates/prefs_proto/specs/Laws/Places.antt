-- Least places, and what may not stand in joined lists.
use Rattle.std.proofs.Common.{◌≡◌, ℕ, Bool, List, [], ◌∷◌, ◌++◌, map, Option, None, Some, refl, sym, ap, ◌∙◌, arith, if◌then◌else◌}
use Rattle.std.specs.List.{flat_map}
use Rattle.std.proofs.lemmas.Grind.{flat_map-append}
use Rattle.std.specs.Str.{IsUtf8}
use Rattle.std.proofs.lemmas.Str.{is_utf8-from_IsUtf8}
use Rattle.prefs_proto.specs.Found.{one_text}
use Rattle.prefs_proto.specs.Layout.{TextSeen, MemberSeen, member, EntrySeen}
use Rattle.prefs_proto.specs.Reads.{least, least_place, is_no_text, is_too_long, bad_text, long_key, texts_of_member, texts_of_part}

least_assoc : (a b c : Option ℕ) → least (least a b) c ≡ least a (least b c)
least_assoc None b c = refl
least_assoc (Some x) None c = refl
least_assoc (Some x) (Some y) None = refl
least_assoc (Some x) (Some y) (Some z) = ap (λ (n : ℕ). Some n) (omega arith)

pub least_none : (a : Option ℕ) → least a None ≡ a
least_none None = refl
least_none (Some x) = refl

pub none_of_least : (a b : Option ℕ) → least a b ≡ None → (a ≡ None) × (b ≡ None)
none_of_least None b is = (refl, is)
none_of_least (Some x) None is = cc
none_of_least (Some x) (Some y) is = cc

least_place-append : {X : Type 0} (place_of : X → ℕ) (is_bad : X → Bool) (xs ys : List X) → least_place place_of is_bad (xs ++ ys) ≡ least (least_place place_of is_bad xs) (least_place place_of is_bad ys)
least_place-append place_of is_bad [] ys = refl
least_place-append place_of is_bad (x ∷ xs) ys =
    let here : Option ℕ = if is_bad x then Some (place_of x) else None in
    ap (least here) (least_place-append place_of is_bad xs ys) ∙ sym (least_assoc here (least_place place_of is_bad xs) (least_place place_of is_bad ys))

pub bad_text-append : (xs ys : List TextSeen) → bad_text (xs ++ ys) ≡ least (bad_text xs) (bad_text ys)
bad_text-append xs ys = least_place-append (λ (t : TextSeen). t.place) is_no_text xs ys

pub long_key-append : (xs ys : List EntrySeen) → long_key (xs ++ ys) ≡ least (long_key xs) (long_key ys)
long_key-append xs ys = least_place-append (λ (e : EntrySeen). e.place) is_too_long xs ys

pub bad_among-append : {X : Type 0} (texts_in : X → List TextSeen) (xs ys : List X) → bad_text (flat_map texts_in (xs ++ ys)) ≡ least (bad_text (flat_map texts_in xs)) (bad_text (flat_map texts_in ys))
bad_among-append texts_in xs ys = ap bad_text (flat_map-append texts_in xs ys) ∙ bad_text-append (flat_map texts_in xs) (flat_map texts_in ys)

pub bad_among-one : {X : Type 0} (texts_in : X → List TextSeen) (x : X) → bad_text (flat_map texts_in (x ∷ [])) ≡ bad_text (texts_in x)
bad_among-one texts_in x = bad_text-append (texts_in x) [] ∙ least_none (bad_text (texts_in x))

pub texts_of_members : (members : List MemberSeen) → flat_map texts_of_part (map member members) ≡ flat_map texts_of_member members
texts_of_members [] = refl
texts_of_members (m ∷ members) = ap (λ (t : List TextSeen). texts_of_member m ++ t) (texts_of_members members)

pub good_text : (place : ℕ) (bytes : List ℕ) → IsUtf8 bytes → bad_text (one_text place bytes) ≡ None
good_text place bytes is = rw (is_utf8-from_IsUtf8 bytes is) refl

-- What members leave of a value, one after the other.
use Rattle.std.proofs.Common.{◌≡◌, ℕ, List, [], ◌∷◌, ◌++◌, map, reverse, refl, sym, ap, ◌∙◌, append_assoc}
use Rattle.std.proofs.lemmas.List.{append-nil, reverse-append}
use Rattle.prefs_model.specs.declared.pref_value.PrefValue.{PrefValue}
use Rattle.prefs_model.specs.declared.pref_value.PrefValue.TheVariants.{Text}
use Rattle.prefs_proto.specs.declared.draft.Draft.{Draft}
use Rattle.prefs_proto.specs.declared.draft.Draft.TheVariants.{One, Run}
use Rattle.prefs_proto.specs.Layout.{TextSeen, MemberSeen, scalar, text, texts, PartSeen, key, member}
use Rattle.prefs_proto.specs.Entry.{bytes_of_text, run_of, value_back, last_key, members_of}
use Rattle.prefs_proto.specs.Found.{draft_back, run_in, settled, Drafts}

pub drafts_none : (draft : Draft) → Drafts [] draft draft
drafts_none draft earlier is = is ∙ ap (λ (m : List MemberSeen). draft_back (reverse m)) (sym (append-nil earlier))

pub drafts_then : (xs ys : List MemberSeen) (old mid new : Draft) → Drafts xs old mid → Drafts ys mid new → Drafts (xs ++ ys) old new
drafts_then xs ys old mid new p q earlier is = q (earlier ++ xs) (p earlier is) ∙ ap (λ (m : List MemberSeen). draft_back (reverse m)) (append_assoc earlier xs ys)

turned : (earlier : List MemberSeen) (m : MemberSeen) → draft_back (m ∷ reverse earlier) ≡ draft_back (reverse (earlier ++ m ∷ []))
turned earlier m = ap draft_back (sym (reverse-append earlier (m ∷ [])))

pub drafts_scalar : (v : PrefValue) (old : Draft) → Drafts (scalar v ∷ []) old (One v)
drafts_scalar v old earlier is = turned earlier (scalar v)

pub drafts_text : (place : ℕ) (bytes : List ℕ) (old : Draft) → Drafts (text (record { place = place; bytes = bytes }) ∷ []) old (One (Text bytes))
drafts_text place bytes old earlier is = turned earlier (text (record { place = place; bytes = bytes }))

run_in_back : (back : List MemberSeen) → run_in (draft_back back) ≡ run_of back
run_in_back [] = refl
run_in_back (scalar v ∷ back) = refl
run_in_back (text t ∷ back) = refl
run_in_back (texts all ∷ back) = refl

pub drafts_texts : (all : List TextSeen) (old new : Draft) → new ≡ Run (run_in old ++ map bytes_of_text all) → Drafts (texts all ∷ []) old new
drafts_texts all old new is earlier was =
    is ∙ ap (λ (d : Draft). Run (run_in d ++ map bytes_of_text all)) was ∙ ap (λ (r : List (List ℕ)). Run (r ++ map bytes_of_text all)) (run_in_back (reverse earlier)) ∙ turned earlier (texts all)

pub settled_back : (back : List MemberSeen) → settled (draft_back back) ≡ value_back back
settled_back [] = refl
settled_back (scalar v ∷ back) = refl
settled_back (text t ∷ back) = refl
settled_back (texts all ∷ back) = refl

-- ---- the parts of an entry

pub members_of-append : (xs ys : List PartSeen) → members_of (xs ++ ys) ≡ members_of xs ++ members_of ys
members_of-append [] ys = refl
members_of-append (key t ∷ xs) ys = members_of-append xs ys
members_of-append (member m ∷ xs) ys = ap (λ (ms : List MemberSeen). m ∷ ms) (members_of-append xs ys)

pub last_key-append : (last : List ℕ) (xs ys : List PartSeen) → last_key last (xs ++ ys) ≡ last_key (last_key last xs) ys
last_key-append last [] ys = refl
last_key-append last (key t ∷ xs) ys = last_key-append t.bytes xs ys
last_key-append last (member m ∷ xs) ys = last_key-append last xs ys

-- What an entry says: its key and its value.
use Rattle.std.specs.Prelude.{ℕ, List, [], ◌∷◌, ◌++◌, map, reverse, Option, None, Some}
use Rattle.prefs_model.specs.Texts.{set_of}
use Rattle.prefs_model.specs.declared.pref_value.PrefValue.{PrefValue}
use Rattle.prefs_model.specs.declared.pref_value.PrefValue.TheVariants.{Text, Texts}
use Rattle.prefs_proto.specs.Layout.{TextSeen, MemberSeen, scalar, text, texts, PartSeen, key, member, EntrySeen}

-- the last key, or this one where there is none
abbrev pub last_key : List ℕ → List PartSeen → List ℕ
last_key last [] = last
last_key last (key t ∷ parts) = last_key t.bytes parts
last_key last (member m ∷ parts) = last_key last parts

-- the members of all parts of the value
abbrev pub members_of : List PartSeen → List MemberSeen
members_of [] = []
members_of (key t ∷ parts) = members_of parts
members_of (member m ∷ parts) = m ∷ members_of parts

abbrev pub bytes_of_text : TextSeen → List ℕ
bytes_of_text t = t.bytes

-- of members, the last first: the texts of the string sets before the first other member
abbrev pub run_of : List MemberSeen → List (List ℕ)
run_of [] = []
run_of (scalar v ∷ earlier) = []
run_of (text t ∷ earlier) = []
run_of (texts all ∷ earlier) = run_of earlier ++ map bytes_of_text all

-- of members, the last first: the last one counts, and string sets next to it are joined with a string set
abbrev pub value_back : List MemberSeen → Option PrefValue
value_back [] = None
value_back (scalar v ∷ earlier) = Some v
value_back (text t ∷ earlier) = Some (Text t.bytes)
value_back (texts all ∷ earlier) = Some (Texts (set_of (run_of (texts all ∷ earlier))))

-- an entry without a key has the empty text as its key
abbrev pub key_of : EntrySeen → List ℕ
key_of e = last_key [] e.parts

-- the value, if it has a member
abbrev pub value_of : EntrySeen → Option PrefValue
value_of e = value_back (reverse (members_of e.parts))

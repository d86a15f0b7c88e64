-- Bytes are refused in one way at most.
use Rattle.std.proofs.Common.{◌≡◌, ◌≢◌, ◌⊎◌, inl, inr, ℕ, List, Option, None, Some, refl, sym, ap, subst, ◌∙◌}
use Rattle.std.specs.declared.cmp.Ordering.{Ordering}
use Rattle.std.specs.declared.cmp.Ordering.TheVariants.{Less, Equal, Greater}
use Rattle.std.specs.List.{flat_map}
use Rattle.wire_codec.specs.declared.wire_error.WireError.{WireError}
use Rattle.prefs_model.specs.Rising.{key_cmp}
use Rattle.prefs_model.proofs.Keys.{same_from_equal, less_from_greater}
use Rattle.prefs_proto.specs.declared.decode_error.DecodeError.{DecodeError}
use Rattle.prefs_proto.specs.declared.decode_error.DecodeError.TheVariants.{Wire, NotUtf8, KeyTooLong, ValueNotSet, NoMemory}
use Rattle.prefs_proto.specs.Layout.{EntrySeen, HasEntries, FileFault}
use Rattle.prefs_proto.specs.Reads.{texts_of_entry, bad_text, long_key, IsLeastUnset, Detail, IsRefusal}
use Rattle.prefs_proto.specs.Laws.OneReading.{entries_once}
use Rattle.prefs_proto.proofs.Faults.{entries_not_fault, file_fault_once}

-- What is wrong with entries whose bytes are fields; nothing is said of a fault of the wire format.
abbrev Wrong : List EntrySeen → DecodeError → Type 0
Wrong entries (Wire e) = ⊥
Wrong entries (NotUtf8 place) = bad_text (flat_map texts_of_entry entries) ≡ Some place
Wrong entries (ValueNotSet name) = (bad_text (flat_map texts_of_entry entries) ≡ None) × (long_key entries ≡ None) × IsLeastUnset entries name
Wrong entries (KeyTooLong place) = (bad_text (flat_map texts_of_entry entries) ≡ None) × (long_key entries ≡ Some place)
Wrong entries NoMemory = ⊥

none_not_some : {X : Type 0} (x : X) (o : Option X) → o ≡ None → o ≡ Some x → ⊥
none_not_some x o p q = cc

one_place : (o : Option ℕ) (a b : ℕ) → o ≡ Some a → o ≡ Some b → a ≡ b
one_place o a b p q = cc

least_by : (o : Ordering) (entries : List EntrySeen) (a b : List ℕ) → key_cmp a b ≡ o → IsLeastUnset entries a → IsLeastUnset entries b → a ≡ b
least_by Less entries a b is p q = absurd (q.least a p.unset is)
least_by Equal entries a b is p q = same_from_equal a b is
least_by Greater entries a b is p q = absurd (p.least b q.unset (less_from_greater a b is))

wrong_once : (entries : List EntrySeen) (d e : DecodeError) → Wrong entries d → Wrong entries e → d ≡ e
wrong_once entries (Wire w) e p q = absurd p
wrong_once entries NoMemory e p q = absurd p
wrong_once entries (NotUtf8 a) (Wire w) p q = absurd q
wrong_once entries (NotUtf8 a) (NotUtf8 b) p q = ap (λ (place : ℕ). NotUtf8 place) (one_place _ a b p q)
wrong_once entries (NotUtf8 a) (ValueNotSet n) p q = absurd (none_not_some a _ q.0 p)
wrong_once entries (NotUtf8 a) (KeyTooLong b) p q = absurd (none_not_some a _ q.0 p)
wrong_once entries (NotUtf8 a) NoMemory p q = absurd q
wrong_once entries (ValueNotSet m) (Wire w) p q = absurd q
wrong_once entries (ValueNotSet m) (NotUtf8 b) p q = absurd (none_not_some b _ p.0 q)
wrong_once entries (ValueNotSet m) (ValueNotSet n) p q = ap (λ (name : List ℕ). ValueNotSet name) (least_by (key_cmp m n) entries m n refl p.2 q.2)
wrong_once entries (ValueNotSet m) (KeyTooLong b) p q = absurd (none_not_some b _ p.1 q.1)
wrong_once entries (ValueNotSet m) NoMemory p q = absurd q
wrong_once entries (KeyTooLong a) (Wire w) p q = absurd q
wrong_once entries (KeyTooLong a) (NotUtf8 b) p q = absurd (none_not_some b _ p.0 q)
wrong_once entries (KeyTooLong a) (ValueNotSet n) p q = absurd (none_not_some a _ q.1 p.1)
wrong_once entries (KeyTooLong a) (KeyTooLong b) p q = ap (λ (place : ℕ). KeyTooLong place) (one_place _ a b p.1 q.1)
wrong_once entries (KeyTooLong a) NoMemory p q = absurd q

-- a fault of the wire format, or what is wrong with the entries
abbrev Refused : List ℕ → DecodeError → Type 0
Refused bytes e = ((w : WireError) × (e ≡ Wire w) × FileFault bytes w) ⊎ ((entries : List EntrySeen) × HasEntries bytes entries × Wrong entries e)

refused : (bytes : List ℕ) (e : DecodeError) → Detail bytes e → e ≢ NoMemory → Refused bytes e
refused bytes (Wire w) p not_memory = inl (w, refl, p)
refused bytes (NotUtf8 place) p not_memory = inr (p.entries, p.has_entries, p.is_least)
refused bytes (ValueNotSet name) p not_memory = inr (p.entries, p.has_entries, (p.all_utf8, p.keys_fit, p.values))
refused bytes (KeyTooLong place) p not_memory = inr (p.entries, p.has_entries, (p.all_utf8, p.is_least))
refused bytes NoMemory p not_memory = absurd (not_memory refl)

refused_once : (bytes : List ℕ) (d e : DecodeError) → Refused bytes d → Refused bytes e → d ≡ e
refused_once bytes d e (inl p) (inl q) = p.1 ∙ ap (λ (w : WireError). Wire w) (file_fault_once bytes p.0 q.0 p.2 q.2) ∙ sym q.1
refused_once bytes d e (inl p) (inr q) = absurd (entries_not_fault bytes q.0 p.0 q.1 p.2)
refused_once bytes d e (inr p) (inl q) = absurd (entries_not_fault bytes p.0 q.0 p.1 q.2)
refused_once bytes d e (inr p) (inr q) =
    let same = entries_once bytes p.0 q.0 p.1 q.1 in
    wrong_once q.0 d e (subst (λ (entries : List EntrySeen). Wrong entries d) same p.2) q.2

pub one_refusal : (bytes : List ℕ) (d e : DecodeError) → IsRefusal bytes d → IsRefusal bytes e → d ≡ e
one_refusal bytes d e p q = refused_once bytes d e (refused bytes d p.detail p.not_memory) (refused bytes e q.detail q.not_memory)

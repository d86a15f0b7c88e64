-- A file that reads has no fault, and another has one first fault.
use Rattle.std.proofs.Common.{◌≡◌, ℕ, List, [], map}
use Rattle.wire_codec.specs.declared.wire_error.WireError.{WireError}
use Rattle.wire_codec.specs.Fields.{FieldSeen}
use Rattle.prefs_proto.specs.Message.{bytes_of}
use Rattle.prefs_proto.specs.Layout.{TextSeen, SetGives, SetFaulty, IsStringSet, StringSetFault, MemberSeen, set_member, ValueGives, ValueFaulty, IsValueMessage, ValueFault, PartSeen, member, EntryGives, EntryFaulty, IsEntryMessage, EntryFault, EntrySeen, entry_at, MapGives, MapFaulty, HasEntries, FileFault}
use Rattle.prefs_proto.specs.Laws.OneReading.{plain_members, plain_parts}
use Rattle.prefs_proto.proofs.OneFault.{message_not_fault, message_fault_once, fault_in_once, nested_not_fault}

-- ---- a string set

set_apart : (f : FieldSeen) (xs : List TextSeen) (e : WireError) → SetGives f xs → SetFaulty f e → ⊥
set_apart f xs e gives faulty = faulty

set_not_fault : (at : ℕ) (bytes : List ℕ) (xs : List TextSeen) (e : WireError) → IsStringSet at bytes xs → StringSetFault at bytes e → ⊥
set_not_fault = message_not_fault SetFaulty SetGives set_apart

set_fault_once : (at : ℕ) (bytes : List ℕ) (d e : WireError) → StringSetFault at bytes d → StringSetFault at bytes e → d ≡ e
set_fault_once = message_fault_once SetFaulty SetGives set_apart (λ f d e p q. absurd p)

-- ---- a value

value_apart : (f : FieldSeen) (xs : List MemberSeen) (e : WireError) → ValueGives f xs → ValueFaulty f e → ⊥
value_apart f xs e gives faulty = nested_not_fault StringSetFault IsStringSet set_member (plain_members f) set_not_fault f.payload_place (bytes_of 6 f) xs e gives faulty

value_not_fault : (at : ℕ) (bytes : List ℕ) (xs : List MemberSeen) (e : WireError) → IsValueMessage at bytes xs → ValueFault at bytes e → ⊥
value_not_fault = message_not_fault ValueFaulty ValueGives value_apart

value_fault_once : (at : ℕ) (bytes : List ℕ) (d e : WireError) → ValueFault at bytes d → ValueFault at bytes e → d ≡ e
value_fault_once = message_fault_once ValueFaulty ValueGives value_apart (λ f d e p q. fault_in_once StringSetFault set_fault_once f.payload_place (bytes_of 6 f) d e p q)

-- ---- an entry

entry_apart : (f : FieldSeen) (xs : List PartSeen) (e : WireError) → EntryGives f xs → EntryFaulty f e → ⊥
entry_apart f xs e gives faulty = nested_not_fault ValueFault IsValueMessage (map member) (plain_parts f) value_not_fault f.payload_place (bytes_of 2 f) xs e gives faulty

entry_not_fault : (at : ℕ) (bytes : List ℕ) (xs : List PartSeen) (e : WireError) → IsEntryMessage at bytes xs → EntryFault at bytes e → ⊥
entry_not_fault = message_not_fault EntryFaulty EntryGives entry_apart

entry_fault_once : (at : ℕ) (bytes : List ℕ) (d e : WireError) → EntryFault at bytes d → EntryFault at bytes e → d ≡ e
entry_fault_once = message_fault_once EntryFaulty EntryGives entry_apart (λ f d e p q. fault_in_once ValueFault value_fault_once f.payload_place (bytes_of 2 f) d e p q)

-- ---- the file

file_apart : (f : FieldSeen) (xs : List EntrySeen) (e : WireError) → MapGives f xs → MapFaulty f e → ⊥
file_apart f xs e gives faulty = nested_not_fault EntryFault IsEntryMessage (entry_at f.place) [] entry_not_fault f.payload_place (bytes_of 1 f) xs e gives faulty

pub entries_not_fault : (bytes : List ℕ) (xs : List EntrySeen) (e : WireError) → HasEntries bytes xs → FileFault bytes e → ⊥
entries_not_fault bytes xs e p fault = message_not_fault MapFaulty MapGives file_apart 0 bytes xs e p fault

pub file_fault_once : (bytes : List ℕ) (d e : WireError) → FileFault bytes d → FileFault bytes e → d ≡ e
file_fault_once bytes d e p q = message_fault_once MapFaulty MapGives file_apart (λ f d e p q. fault_in_once EntryFault entry_fault_once f.payload_place (bytes_of 1 f) d e p q) 0 bytes d e p q

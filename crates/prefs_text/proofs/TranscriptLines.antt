-- No text of an entry or an answer breaks a line.
use Rattle.std.proofs.Common.{ℕ, List, ◌++◌, Option, None, Some, decimal, refl}
use Rattle.std.specs.Prelude.{All, codes}
use Rattle.json.specs.Print.{quoted}
use Rattle.prefs_model.specs.declared.pref_pair.PrefPair.{PrefPair}
use Rattle.hist_journal.specs.declared.device.Device.{Device}
use Rattle.hist_journal.specs.declared.device.Device.TheVariants.{Folder, Legacy}
use Rattle.hist_journal.specs.declared.seen.KindSeen.TheVariants.{Raise, Edit, Same, Replace, Migrate, Synced, Cleared, Inited, Fault, Death, Restart}
use Rattle.store_traits.specs.declared.ids.CallId.{CallId}
use Rattle.prefs_text.specs.declared.names.Names.{Names}
use Rattle.prefs_text.specs.declared.seen.AnswerSeen.{AnswerSeen}
use Rattle.prefs_text.specs.declared.seen.AnswerSeen.TheVariants as answer
use Rattle.prefs_text.specs.declared.seen.AnswerLineSeen.{AnswerLineSeen}
use Rattle.prefs_text.specs.AnswerText.{answer_text, asker_text, given_text, numbered, words_of}
use Rattle.prefs_text.specs.Callers.{NamesAreInLine, node_name, call_text}
use Rattle.prefs_text.specs.Content.{IsInLine}
use Rattle.prefs_text.specs.EditText.{edit_text}
use Rattle.prefs_text.specs.EntryText.{PrefEntry, PrefKind, device_name, entry_text, kind_text}
use Rattle.prefs_text.specs.MapText.{map_text}
use Rattle.prefs_text.specs.ValueText.{list_text}
use Rattle.prefs_text.proofs.InLine.{in_line, All-from_test, line-list_text, line-quoted}
use Rattle.prefs_text.proofs.OneLine.{both, spaced, line-call_text, line-decimal, line-edit_text, line-map_text, line-node_name}

line-device_name : (device : Device) → All IsInLine (device_name device)
unfolding in_line
line-device_name Folder = All-from_test (codes "folder") refl
line-device_name Legacy = All-from_test (codes "legacy") refl

line-kind_text : (names : Names) (kind : PrefKind) → NamesAreInLine names → All IsInLine (kind_text names kind)
unfolding kind_text in_line
line-kind_text names Raise plain = All-from_test (codes "raise") refl
line-kind_text names (Edit steps) plain = both (codes "edit ") (edit_text steps) (All-from_test (codes "edit ") refl) (line-edit_text steps)
line-kind_text names (Same steps) plain = both (codes "same ") (edit_text steps) (All-from_test (codes "same ") refl) (line-edit_text steps)
line-kind_text names (Replace map) plain = both (codes "replace ") (map_text map) (All-from_test (codes "replace ") refl) (line-map_text map)
line-kind_text names (Migrate sections map) plain =
    spaced (codes "migrate " ++ list_text sections) (map_text map) (both (codes "migrate ") (list_text sections) (All-from_test (codes "migrate ") refl) (line-list_text sections)) (line-map_text map)
line-kind_text names Synced plain = All-from_test (codes "synced") refl
line-kind_text names (Cleared section) plain = both (codes "cleared ") (quoted section) (All-from_test (codes "cleared ") refl) (line-quoted section)
line-kind_text names (Inited node) plain = both (codes "inited ") (node_name names node) (All-from_test (codes "inited ") refl) (line-node_name names node plain)
line-kind_text names (Fault device count) plain =
    spaced (codes "fault " ++ device_name device) (decimal count) (both (codes "fault ") (device_name device) (All-from_test (codes "fault ") refl) (line-device_name device)) (line-decimal count)
line-kind_text names (Death node) plain = both (codes "death ") (node_name names node) (All-from_test (codes "death ") refl) (line-node_name names node plain)
line-kind_text names (Restart node) plain = both (codes "restart ") (node_name names node) (All-from_test (codes "restart ") refl) (line-node_name names node plain)

pub line-entry_text : (names : Names) (at : ℕ) (entry : PrefEntry) → NamesAreInLine names → All IsInLine (entry_text names at entry)
unfolding entry_text in_line
line-entry_text names at entry plain =
    let place = codes "entry " ++ decimal at in
    let call = place ++ codes " " ++ call_text names entry.who in
    spaced call (kind_text names entry.kind)
    (spaced place (call_text names entry.who) (both (codes "entry ") (decimal at) (All-from_test (codes "entry ") refl) (line-decimal at)) (line-call_text names entry.who plain))
    (line-kind_text names entry.kind plain)

line-numbered : (word : List ℕ) (number : ℕ) → All IsInLine word → All IsInLine (numbered word number)
line-numbered word number plain = spaced word (decimal number) plain (line-decimal number)

line-given_text : (word : List ℕ) (edition : ℕ) (map : List PrefPair) → All IsInLine word → All IsInLine (given_text word edition map)
line-given_text word edition map plain = spaced (numbered word edition) (map_text map) (line-numbered word edition plain) (line-map_text map)

line-words_of : (told : AnswerSeen) → All IsInLine (words_of told)
unfolding words_of in_line
line-words_of (answer.Updated edition) = line-numbered (codes "updated") edition (All-from_test (codes "updated") refl)
line-words_of (answer.Read edition map) = line-given_text (codes "read") edition map (All-from_test (codes "read") refl)
line-words_of (answer.Flow edition map) = line-given_text (codes "flow") edition map (All-from_test (codes "flow") refl)
line-words_of (answer.Unchanged edition) = line-numbered (codes "unchanged") edition (All-from_test (codes "unchanged") refl)
line-words_of (answer.Refused code edition) = line-numbered (numbered (codes "refused") code) edition (line-numbered (codes "refused") code (All-from_test (codes "refused") refl))
line-words_of answer.Corrupt = All-from_test (codes "corrupt") refl
line-words_of (answer.FileTooLong len) = line-numbered (codes "filetoolong") len (All-from_test (codes "filetoolong") refl)
line-words_of (answer.ValueTooLong len) = line-numbered (codes "valuetoolong") len (All-from_test (codes "valuetoolong") refl)
line-words_of (answer.HistoryFull entries weight) = line-numbered (numbered (codes "historyfull") entries) weight (line-numbered (codes "historyfull") entries (All-from_test (codes "historyfull") refl))
line-words_of (answer.StorageFault at) = line-numbered (codes "storagefault") at (All-from_test (codes "storagefault") refl)
line-words_of (answer.NotDurable at) = line-numbered (codes "notdurable") at (All-from_test (codes "notdurable") refl)
line-words_of (answer.LegacyFault at) = line-numbered (codes "legacyfault") at (All-from_test (codes "legacyfault") refl)
line-words_of (answer.Died at) = line-numbered (codes "died") at (All-from_test (codes "died") refl)
line-words_of answer.Posted = All-from_test (codes "posted") refl
line-words_of answer.Full = All-from_test (codes "full") refl
line-words_of (answer.Restarted at) = line-numbered (codes "restarted") at (All-from_test (codes "restarted") refl)
line-words_of answer.NotDead = All-from_test (codes "notdead") refl
line-words_of answer.Cut = All-from_test (codes "cut") refl

line-asker_text : (names : Names) (call : CallId) (poster : Option CallId) → NamesAreInLine names → All IsInLine (asker_text names call poster)
unfolding in_line
line-asker_text names call None plain = line-call_text names call plain
line-asker_text names call (Some poster) plain =
    both (call_text names call ++ codes " for ") (call_text names poster)
    (both (call_text names call) (codes " for ") (line-call_text names call plain) (All-from_test (codes " for ") refl)) (line-call_text names poster plain)

pub line-answer_text : (names : Names) (line : AnswerLineSeen) → NamesAreInLine names → All IsInLine (answer_text names line)
unfolding answer_text
line-answer_text names line plain = spaced (asker_text names line.call line.poster) (words_of line.answer) (line-asker_text names line.call line.poster plain) (line-words_of line.answer)

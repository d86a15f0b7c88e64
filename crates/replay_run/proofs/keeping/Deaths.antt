-- Words on Deaths and Faults among entries.
use Rattle.std.proofs.Common.{Bool}
use Rattle.hist_journal.specs.declared.device.Device.TheVariants.{Folder}
use Rattle.prefs_text.specs.EntryText.{PrefEntry}
use Rattle.shelf.specs.Entries.{is_death}
use Rattle.shelf.specs.Places.{is_fault_of}

abbrev pub dies : PrefEntry → Bool
dies e = is_death e.kind

abbrev pub is_folder_fault : PrefEntry → Bool
is_folder_fault e = is_fault_of Folder e.kind

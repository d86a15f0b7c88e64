-- What a script is about: maps of settings and their edits, in files of the wire format.
use Rattle.std.specs.Prelude.{[]}
use Rattle.prefs_edit.specs.After.{after_steps}
use Rattle.prefs_edit.specs.Weight.{edit_weight}
use Rattle.prefs_proto.specs.Encoded.{encoded}
use Rattle.prefs_proto.specs.Reads.{Reads}
use Rattle.script_lang.specs.Chronicle.{Basis}
use Rattle.shelf.specs.Rules.{rules_of}

-- no file stands for the empty map; a file has 1,048,576 bytes at the most, and a history is full at 268,435,456
abbrev pub prefs_basis : Basis
prefs_basis = record { rules = rules_of after_steps edit_weight encoded Reads []; file_limit = 1048576; weight_limit = 268435456 }

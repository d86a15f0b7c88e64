-- What a table of names keeps.
use Rattle.std.specs.Prelude.{ℕ, List}
use Rattle.std.specs.HashMap.{get_by_text}
use Rattle.script_lang.specs.declared.parsing.name_table.NameTable.TheInside.{Inside}
use Rattle.script_lang.specs.Finding.{Finds}

-- each name is looked up by its bytes
abbrev pub FindsNames : Inside → Type 0
FindsNames table = (name : List ℕ) → Finds table.names.items name (get_by_text table.places name)

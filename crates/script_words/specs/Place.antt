-- Where in a word a byte stands.
use Rattle.std.specs.Prelude.{ℕ, ◌==◌, Bool, true, false, if◌then◌else◌}
use Rattle.script_words.specs.declared.place.Place.{Place}
use Rattle.script_words.specs.declared.place.Place.TheVariants.{Start, Outside, Quoted, Escaped, Listed, ListedQuoted, ListedEscaped}

-- whether a space ends the word here
abbrev pub ends_at_space : Place → Bool
ends_at_space Start = true
ends_at_space Outside = true
ends_at_space _ = false

-- the place behind this byte
abbrev pub after : Place → ℕ → Place
after Start byte = if byte == 34 then Quoted else (if byte == 91 then Listed else Outside)
after Outside byte = Outside
after Quoted byte = if byte == 34 then Outside else (if byte == 92 then Escaped else Quoted)
after Escaped byte = Quoted
after Listed byte = if byte == 93 then Outside else (if byte == 34 then ListedQuoted else Listed)
after ListedQuoted byte = if byte == 34 then Listed else (if byte == 92 then ListedEscaped else ListedQuoted)
after ListedEscaped byte = ListedQuoted

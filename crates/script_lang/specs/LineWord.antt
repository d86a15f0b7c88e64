-- The words that begin a line.
use Rattle.std.specs.Prelude.{ℕ, List, codes}
use Rattle.script_lang.specs.declared.parsing.line_word.LineWord.{LineWord}
use Rattle.script_lang.specs.declared.parsing.line_word.LineWord.TheVariants.{File, History, Handler, Legacy, Migrate, Node, Client, Fault, Fuse, Die, Go, Stop}

abbrev pub line_word : LineWord → List ℕ
line_word File = codes "file"
line_word History = codes "history"
line_word Handler = codes "handler"
line_word Legacy = codes "legacy"
line_word Migrate = codes "migrate"
line_word Node = codes "node"
line_word Client = codes "client"
line_word Fault = codes "fault"
line_word Fuse = codes "fuse"
line_word Die = codes "die"
line_word Go = codes "go"
line_word Stop = codes "stop"

-- no line that begins so is understood yet
abbrev pub IsUnbuilt : LineWord → Type 0
IsUnbuilt File = ⊥
IsUnbuilt History = ⊥
IsUnbuilt Node = ⊥
IsUnbuilt Client = ⊥
IsUnbuilt Fault = ⊥
IsUnbuilt Fuse = ⊥
IsUnbuilt Die = ⊥
IsUnbuilt Go = ⊥
IsUnbuilt _ = Unit {0}

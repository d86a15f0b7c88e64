-- What one line more makes of a draft.
use Rattle.std.specs.Prelude.{◌≡◌, ◌<◌, [], ◌∷◌, ◌++◌, ◌||◌, length, Some, None}
use Rattle.script_lang.specs.declared.parsing.draft.Draft.{Draft}
use Rattle.script_lang.specs.declared.parsing.line.Line.{Line}
use Rattle.script_lang.specs.declared.parsing.line.Line.TheVariants.{Nothing, File, History, Node, Client, Fault, Fuse, Die, Run}
use Rattle.script_lang.specs.Draft.{shorter}
use Rattle.script_lang.specs.Faults.{follows_node}

abbrev pub draft_with : Draft → Line → Draft
draft_with draft Nothing = draft
draft_with draft (File main) = record draft { file = Some main }
draft_with draft (History entries) = record draft { entries = Some entries }
draft_with draft (Node name) = record draft { nodes = draft.nodes ++ name ∷ [] }
draft_with draft (Client name home) = record draft { clients = draft.clients ++ name ∷ []; homes = draft.homes ++ home ∷ [] }
draft_with draft (Fault planned) = record draft { faults = draft.faults ++ planned ∷ []; is_closed = draft.is_closed || follows_node draft }
draft_with draft (Fuse left) = record draft { fuse = shorter draft.fuse left; is_closed = draft.is_closed || follows_node draft }
draft_with draft (Die death) = record draft { deaths = draft.deaths ++ death ∷ []; is_closed = draft.is_closed || follows_node draft }
draft_with draft (Run line) = record draft { lines = draft.lines ++ line ∷ []; is_closed = draft.is_closed || follows_node draft }

-- nothing is said twice, and there are not too many names
abbrev pub HasPlace : Draft → Line → Type 0
HasPlace draft (File main) = draft.file ≡ None
HasPlace draft (History entries) = draft.entries ≡ None
HasPlace draft (Node name) = length draft.nodes < 16
HasPlace draft (Client name home) = length draft.clients < 64
HasPlace draft _ = Unit {0}

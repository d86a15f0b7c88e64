-- The script that lines make.
use Rattle.std.specs.Prelude.{ℕ, ◌≡◌, min, Bool, true, false, ◌&&◌, ◌||◌, List, [], ◌∷◌, length, Option, Some, None, slice_get, fold}
use Rattle.std.specs.List.{filter_map}
use Rattle.folder_disk.specs.declared.call.Planned.{Planned}
use Rattle.folder_disk.specs.declared.main_read.MainRead.{MainRead}
use Rattle.store_traits.specs.declared.ids.NodeId.{NodeId}
use Rattle.shelf.specs.declared.store.PlannedDeath.{PlannedDeath}
use Rattle.script_lang.specs.declared.parsing.draft.Draft.{Draft}
use Rattle.script_lang.specs.declared.parsing.line.Line.{Line}
use Rattle.script_lang.specs.declared.parsing.line.Line.TheVariants.{File, History, Node, Client, Fault, Fuse, Die, Run}
use Rattle.script_lang.specs.declared.plan.mode.Mode.{Mode}
use Rattle.script_lang.specs.declared.plan.run_line.RunLine.{RunLine}

abbrev pub node_of : Line → Option (List ℕ)
node_of (Node name) = Some name
node_of _ = None

abbrev pub client_of : Line → Option (List ℕ)
client_of (Client name home) = Some name
client_of _ = None

abbrev pub home_of : Line → Option NodeId
home_of (Client name home) = Some home
home_of _ = None

abbrev pub file_of : Line → Option MainRead
file_of (File main) = Some main
file_of _ = None

abbrev pub entries_of : Line → Option ℕ
entries_of (History entries) = Some entries
entries_of _ = None

abbrev pub run_of : Line → Option RunLine
run_of (Run line) = Some line
run_of _ = None

abbrev pub fault_of : Line → Option Planned
fault_of (Fault planned) = Some planned
fault_of _ = None

abbrev pub fuse_of : Line → Option ℕ
fuse_of (Fuse left) = Some left
fuse_of _ = None

abbrev pub death_of : Line → Option PlannedDeath
death_of (Die death) = Some death
death_of _ = None

-- of several fuses the one that is used up first
abbrev pub shorter : Option ℕ → ℕ → Option ℕ
shorter None left = Some left
shorter (Some other) left = Some (min other left)

abbrev pub is_node : Line → Bool
is_node (Node name) = true
is_node _ = false

-- a line of another sort than those that declare: behind a node, no `node` and no `client` line stands behind it
abbrev pub is_plan : Line → Bool
is_plan (Fault planned) = true
is_plan (Fuse left) = true
is_plan (Die death) = true
is_plan (Run line) = true
is_plan _ = false

-- such a line stands among these; `noded` says whether a node stands before them
abbrev pub closes : (noded : Bool) → List Line → Bool
closes noded [] = false
closes noded (line ∷ lines) = (noded && is_plan line) || closes (noded || is_node line) lines

-- what the lines declare, each in their order; of the file and of the bound the first, and of the fuses the shortest
abbrev pub draft_of : Mode → List Line → Draft
draft_of mode lines = record {
  mode = mode;
  nodes = filter_map node_of lines;
  clients = filter_map client_of lines;
  homes = filter_map home_of lines;
  file = slice_get (filter_map file_of lines) 0;
  entries = slice_get (filter_map entries_of lines) 0;
  faults = filter_map fault_of lines;
  fuse = fold shorter None (filter_map fuse_of lines);
  deaths = filter_map death_of lines;
  lines = filter_map run_of lines;
  is_closed = closes false lines;
}

-- each client has a node
abbrev pub HasHomes : Draft → Type 0
HasHomes draft = length draft.homes ≡ length draft.clients

-- What lines say, and which bytes are a script.
use Rattle.std.specs.Prelude.{ℕ, ◌≡◌, ◌+◌, ◌⊎◌, List, [], ◌∷◌, ◌++◌, length, false, None, unwrap_or}
use Rattle.folder_disk.specs.declared.main_read.MainRead.TheVariants.{Absent}
use Rattle.script_lang.specs.declared.parsing.draft.Draft.{Draft}
use Rattle.script_lang.specs.declared.parsing.line.Line.{Line}
use Rattle.script_lang.specs.declared.plan.mode.Mode.{Mode}
use Rattle.script_lang.specs.declared.plan.script.Script.{Script}
use Rattle.script_lang.specs.declared.parsing.script_error.ScriptError.{ScriptError}
use Rattle.script_lang.specs.declared.parsing.script_error.ScriptFault.{ScriptFault}
use Rattle.script_lang.specs.declared.parsing.script_error.ScriptFault.TheVariants.{NoMemory}
use Rattle.script_lang.specs.Draft.{draft_of}
use Rattle.script_lang.specs.Faults.{Breaks, IsLeast}
use Rattle.script_lang.specs.Lines.{lines_of}
use Rattle.script_lang.specs.Spelling.{LineSpells}

-- the line with this number, behind lines that made the draft: it is spelled so, and breaks no rule
pub record Says (draft : Draft) (number : ℕ) (line : List ℕ) (said : Line) : Type 0 where
  pub spelled : LineSpells draft line said
  pub keeps_rules : (fault : ScriptFault) → ¬ Breaks draft number line fault

-- one by one, behind lines that said what stands before
abbrev pub AllSay : Mode → List Line → List (List ℕ) → List Line → Type 0
AllSay mode before [] [] = Unit {0}
AllSay mode before (line ∷ lines) (said ∷ more) = Says (draft_of mode before) (length before + 1) line said × AllSay mode (before ++ said ∷ []) lines more
AllSay mode before _ _ = ⊥

-- there is one session, which no stop ends
abbrev pub script_of : Draft → Script
script_of draft = record {
  names = record { nodes = draft.nodes; clients = draft.clients };
  homes = draft.homes;
  start = record { file = unwrap_or draft.file Absent; entries = unwrap_or draft.entries 100000; replace = false };
  sessions = record { folder_faults = draft.faults; fuse = draft.fuse; deaths = draft.deaths; lines = draft.lines; stop = None } ∷ [];
}

-- the bytes are this script
pub record Means (mode : Mode) (bytes : List ℕ) (script : Script) : Type 0 where
  pub said : List Line
  pub each : AllSay mode [] (lines_of bytes) said
  pub made : script ≡ script_of (draft_of mode said)

-- the line with this number is the first faulty one, and this the least of its faults
pub record Faulty (mode : Mode) (bytes : List ℕ) (number : ℕ) (fault : ScriptFault) : Type 0 where
  pub front : List (List ℕ)
  pub line : List ℕ
  pub behind : List (List ℕ)
  pub said : List Line
  pub lines : lines_of bytes ≡ front ++ line ∷ behind
  pub before : AllSay mode [] front said
  pub counted : number ≡ length front + 1
  pub least : IsLeast (Breaks (draft_of mode said) number line) fault

-- why the bytes are no script, or want of memory
abbrev pub IsRefusalOf : Mode → List ℕ → ScriptError → Type 0
IsRefusalOf mode bytes error = (error.fault ≡ NoMemory) ⊎ Faulty mode bytes error.line error.fault

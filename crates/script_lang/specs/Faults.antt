-- What a line can break, each rule by itself.
use Rattle.std.specs.Prelude.{ℕ, ◌≡◌, ◌<◌, ◌≤◌, ◌⊎◌, nat_lt, Bool, IsTrue, List, [], ◌∷◌, length, Contains, IsSome, slice_get}
use Rattle.std.specs.Option.{IsSomeAnd}
use Rattle.std.specs.Str.{IsUtf8}
use Rattle.folder_disk.specs.declared.call.Planned.{Planned}
use Rattle.folder_disk.specs.declared.main_read.MainRead.{MainRead}
use Rattle.store_traits.specs.declared.step.Step.{Step}
use Rattle.script_words.specs.Names.{IsName, reserved}
use Rattle.script_lang.specs.declared.parsing.draft.Draft.{Draft}
use Rattle.script_lang.specs.declared.parsing.line_word.LineWord.TheVariants.{File, History, Node, Client, Fault, Fuse, Die, Go}
use Rattle.script_lang.specs.declared.plan.mode.Mode.TheVariants.{Nodes}
use Rattle.script_lang.specs.declared.parsing.script_error.ScriptFault.{ScriptFault}
use Rattle.script_lang.specs.declared.parsing.script_error.ScriptFault.TheVariants as fault
use Rattle.script_lang.specs.CallWords.{AreNoCall, HasUnknownCall, RestartsUnknown}
use Rattle.script_lang.specs.DeathSteps.{IsStepWord}
use Rattle.script_lang.specs.LineWord.{IsUnbuilt}
use Rattle.script_lang.specs.Rows.{Row, keyword, call, HasRow, IsSkipped, IsFileRow, IsHistoryRow, IsNodeRow, IsClientRow, IsFolderCall, IsFaultRow, IsFuseRow, IsDieRow, IsGoRow}

abbrev pub HasUnknownWord : Row → Type 0
HasUnknownWord (keyword Fault []) = ⊥
HasUnknownWord (keyword Fault (word ∷ behind)) = ¬ IsFolderCall word
HasUnknownWord (keyword Die behind) = IsSomeAnd (slice_get behind 2) (λ word. ¬ IsStepWord word)
HasUnknownWord (keyword word behind) = IsUnbuilt word
HasUnknownWord (call first behind) = (¬ IsName first) ⊎ HasUnknownCall behind

-- the words are not those that such a line has
abbrev pub HasBadValue : Row → Type 0
HasBadValue (keyword File behind) = (main : MainRead) → ¬ IsFileRow behind main
HasBadValue (keyword History behind) = (entries : ℕ) → ¬ IsHistoryRow behind entries
HasBadValue (keyword Node behind) = (name : List ℕ) → ¬ IsNodeRow behind name
HasBadValue (keyword Client behind) = (name home : List ℕ) → ¬ IsClientRow behind name home
HasBadValue (keyword Fault behind) = (planned : Planned) → ¬ IsFaultRow behind planned
HasBadValue (keyword Fuse behind) = (left : ℕ) → ¬ IsFuseRow behind left
HasBadValue (keyword Die behind) = (client : List ℕ) (number : ℕ) (step : Step) → ¬ IsDieRow behind client number step
HasBadValue (keyword Go behind) = (client : List ℕ) (steps : ℕ) → ¬ IsGoRow behind client steps
HasBadValue (keyword _ behind) = ⊥
HasBadValue (call first behind) = AreNoCall behind

-- the word in the place of a node or a client, whatever its form, is the name of none
abbrev pub HasUnknownName : Draft → Row → Type 0
HasUnknownName draft (keyword Client behind) = IsSomeAnd (slice_get behind 2) (λ home. ¬ Contains draft.nodes home)
HasUnknownName draft (keyword Die behind) = IsSomeAnd (slice_get behind 0) (λ client. ¬ Contains draft.clients client)
HasUnknownName draft (keyword Go behind) = IsSomeAnd (slice_get behind 0) (λ client. ¬ Contains draft.clients client)
HasUnknownName draft (keyword _ behind) = ⊥
HasUnknownName draft (call first behind) = (¬ Contains draft.clients first) ⊎ RestartsUnknown draft.nodes behind

abbrev pub IsTaken : Draft → List ℕ → Type 0
IsTaken draft name = Contains reserved name ⊎ (Contains draft.nodes name ⊎ Contains draft.clients name)

abbrev pub TakesName : Draft → Row → Type 0
TakesName draft (keyword Node behind) = IsSomeAnd (slice_get behind 0) (IsTaken draft)
TakesName draft (keyword Client behind) = IsSomeAnd (slice_get behind 0) (IsTaken draft)
TakesName draft _ = ⊥

-- 16 nodes and 64 clients are the most
abbrev pub IsOneTooMany : Draft → Row → Type 0
IsOneTooMany draft (keyword Node behind) = 16 ≤ length draft.nodes
IsOneTooMany draft (keyword Client behind) = 64 ≤ length draft.clients
IsOneTooMany draft _ = ⊥

-- a node stands before the line
abbrev pub follows_node : Draft → Bool
follows_node draft = nat_lt 0 (length draft.nodes)

abbrev pub FollowsNode : Draft → Type 0
FollowsNode draft = 0 < length draft.nodes

-- a line of another sort than `node` and `client` stands behind a node
abbrev pub FollowsOther : Draft → Type 0
FollowsOther draft = IsTrue draft.is_closed

-- by `nodes` the file is there already
abbrev pub BarsFile : Draft → Type 0
BarsFile draft = (draft.mode ≡ Nodes) ⊎ (FollowsNode draft ⊎ IsSome draft.file)

abbrev pub BarsHistory : Draft → Type 0
BarsHistory draft = FollowsNode draft ⊎ IsSome draft.entries

-- `file` and `history` stand before the first node, each once at most, and `node` and `client` before the first line
-- of another sort that follows them. By `nodes` no call of the folder is planned to fail, and no node to die
abbrev pub StandsWrong : Draft → Row → Type 0
StandsWrong draft (keyword File behind) = BarsFile draft
StandsWrong draft (keyword History behind) = BarsHistory draft
StandsWrong draft (keyword Node behind) = FollowsOther draft
StandsWrong draft (keyword Client behind) = FollowsOther draft
StandsWrong draft (keyword Fault behind) = draft.mode ≡ Nodes
StandsWrong draft (keyword Fuse behind) = draft.mode ≡ Nodes
StandsWrong draft (keyword Die behind) = draft.mode ≡ Nodes
StandsWrong draft _ = ⊥

-- the faults that a line's words can have
abbrev pub RowBreaks : Draft → Row → ScriptFault → Type 0
RowBreaks draft row fault.UnknownWord = HasUnknownWord row
RowBreaks draft row fault.BadValue = HasBadValue row
RowBreaks draft row fault.UnknownName = HasUnknownName draft row
RowBreaks draft row fault.NameTaken = TakesName draft row
RowBreaks draft row fault.TooManyNames = IsOneTooMany draft row
RowBreaks draft row fault.WrongPlace = StandsWrong draft row
RowBreaks draft row _ = ⊥

-- the same of the line, unless it is skipped
pub record SomeRowBreaks (draft : Draft) (line : List ℕ) (broken : ScriptFault) : Type 0 where
  pub read : ¬ IsSkipped line
  pub row : Row
  pub of_line : HasRow line row
  pub breaks : RowBreaks draft row broken

-- the line with this number, behind lines that made the draft, breaks this rule
abbrev pub Breaks : Draft → ℕ → List ℕ → ScriptFault → Type 0
Breaks draft number line fault.NotUtf8 = ¬ IsUtf8 line
Breaks draft number line fault.LineTooLong = 4096 < length line
Breaks draft number line fault.TooManyLines = 100000 < number
Breaks draft number line broken = SomeRowBreaks draft line broken

abbrev pub fault_number : ScriptFault → ℕ
fault_number fault.NotUtf8 = 1
fault_number fault.LineTooLong = 2
fault_number fault.TooManyLines = 3
fault_number fault.UnknownWord = 4
fault_number fault.BadValue = 5
fault_number fault.UnknownName = 6
fault_number fault.NameTaken = 7
fault_number fault.TooManyNames = 8
fault_number fault.WrongPlace = 9
fault_number fault.NoMemory = 10

-- of the rules that are broken it is the one with the least number
pub record IsLeast (broken : ScriptFault → Type 0) (least : ScriptFault) : Type 0 where
  pub breaks : broken least
  pub before_others : (other : ScriptFault) → broken other → fault_number least ≤ fault_number other

-- How a command ends that writes a text last, or that reads main and has none to write.
use Rattle.std.proofs.Common.{◌≡◌, ◌++◌, inl, inr, ℕ, Bool, true, false, IsTrue, Result, Ok, Err, List, [], refl, sym, append-nil}
use Rattle.store_traits.specs.Faults.{Counts}
use Rattle.byte_io.specs.Seen.{SinkSeen}
use Rattle.byte_io.specs.Sink.{GainsPrefix}
use Rattle.folder_disk.specs.Seen.{FolderSeen}
use Rattle.prefs_model.specs.declared.pref_pair.PrefPair.{PrefPair}
use Rattle.prefs_tool.specs.Folder.{OnlyReads, is_storage}
use Rattle.prefs_tool.specs.Reading.{ReadsAs, StopsReading}
use Rattle.prefs_tool.specs.Writing.{Gains, GainsSome, WritesText}
use Rattle.prefs_tool.specs.Outcome.{Answers, Prints, shown}
use Rattle.prefs_tool.specs.Ending.{Ends, EndsWith, FindsLine}
use Rattle.command_words.specs.declared.command.Command.TheVariants.{Get, Show}
use Rattle.prefs_tool.specs.declared.tool_error.ToolError.{ToolError}
use Rattle.prefs_tool.specs.declared.tool_error.ToolError.TheVariants.{Storage, Corrupt, TooLong, WriteFault, NoMemory, NoKey}

-- nothing was written
pub none_gained : (sink : SinkSeen) → Gains [] sink sink
none_gained sink = record { sound = refl; gained = λ told. sym (append-nil sink.held) }

-- every prefix of the text can be answered where memory was wanting
abbrev pub AnswersPrefixes : (Result (Unit {0}) ToolError → List ℕ → Type 0) → List ℕ → Type 0
AnswersPrefixes answers text = (prefix rest : List ℕ) → text ≡ prefix ++ rest → answers (Err NoMemory) prefix

module _ (answers : Result (Unit {0}) ToolError → List ℕ → Type 0) (text : List ℕ) where
  -- what was written before memory was wanting
  prefix_of : (told : Bool) (held gained : List ℕ) → AnswersPrefixes answers text → (IsTrue told → GainsPrefix text held gained)
      → (prefix : List ℕ) × answers (Err NoMemory) prefix × (IsTrue told → gained ≡ held ++ prefix)
  prefix_of true held gained prefixes gains =
      let some = gains refl in (some.prefix, prefixes some.prefix some.rest some.parts, λ told. some.gained)
  prefix_of false held gained prefixes gains = ([], prefixes [] text refl, λ no. absurd cc)

  prefix_ends : (old new : SinkSeen) → AnswersPrefixes answers text → GainsSome text old new → (prefix : List ℕ) × answers (Err NoMemory) prefix × Gains prefix old new
  prefix_ends old new prefixes some =
      let found = prefix_of old.told old.held new.held prefixes some.gained in
      (found.0, found.1, record { sound = some.sound; gained = found.2 })

  pub text_ends : {T : Type 0} (old new : SinkSeen) (result : Result T ToolError)
      → answers (Ok tt) text → AnswersPrefixes answers text → WritesText text old result new → EndsWith answers old result new
  text_ends old new (Ok done) answered prefixes writes = (text, answered, writes)
  text_ends old new (Err WriteFault) answered prefixes writes = (text, answered, writes)
  text_ends old new (Err NoMemory) answered prefixes writes = prefix_ends old new prefixes writes
  text_ends old new (Err e) answered prefixes writes = absurd writes

-- ---- once main is read

module _ (folder folder_after : FolderSeen) (sink : SinkSeen) where
  module _ (sink_after : SinkSeen) (only : IsTrue folder.told → OnlyReads false folder folder_after) (faults : Counts false folder.tally.count folder_after.tally.count) where
    pub show_ends : {T : Type 0} (pairs : List PrefPair) (result : Result T ToolError) → (IsTrue folder.told → ReadsAs folder.contents.main pairs)
        → WritesText (shown pairs) sink result sink_after → Ends Show folder sink result folder_after sink_after
    show_ends pairs result reads writes =
        text_ends (λ answer text. Answers Show folder answer text folder_after) (shown pairs) sink sink_after result
        (record { does = (λ told. (pairs, reads told, refl), λ told. inl (only told)); faults = faults })
        (λ prefix rest parts. record { does = (λ told. inr (shown pairs, rest, (pairs, reads told, refl), parts), λ told. inl (only told)); faults = faults })
        writes

    pub get_ends : {T : Type 0} (key line : List ℕ) (result : Result T ToolError) → (IsTrue folder.told → Prints (Get key) folder.contents.main line)
        → WritesText line sink result sink_after → Ends (Get key) folder sink result folder_after sink_after
    get_ends key line result prints writes =
        text_ends (λ answer text. Answers (Get key) folder answer text folder_after) line sink sink_after result
        (record { does = (prints, λ told. inl (only told)); faults = faults })
        (λ prefix rest parts. record { does = (λ told. inr (line, rest, prints told, parts), λ told. inl (only told)); faults = faults })
        writes

  -- ---- where it was not read as a map

  module _ (T : Type 0) (e : ToolError) where
    abbrev OnlyFor : Type 0
    OnlyFor = IsTrue folder.told → OnlyReads (is_storage {T = T} (Err e)) folder folder_after

    abbrev CountsFor : Type 0
    CountsFor = Counts (is_storage {T = T} (Err e)) folder.tally.count folder_after.tally.count

  pub show_stops : (T : Type 0) (e : ToolError) → StopsReading folder.told folder.contents.main e → OnlyFor T e → CountsFor T e
      → Ends {T = T} Show folder sink (Err e) folder_after sink
  show_stops T Storage stops only faults = (record { does = ((refl, stops), λ told. inl (only told)); faults = faults }, none_gained sink)
  show_stops T Corrupt stops only faults = (record { does = ((refl, stops), λ told. inl (only told)); faults = faults }, none_gained sink)
  show_stops T (TooLong len) stops only faults = (record { does = ((refl, stops), λ told. inl (only told)); faults = faults }, none_gained sink)
  show_stops T NoMemory stops only faults = ([], record { does = (λ told. inl refl, λ told. inl (only told)); faults = faults }, none_gained sink)
  show_stops T e stops only faults = absurd stops

  get_stops : (T : Type 0) (key : List ℕ) (e : ToolError) → StopsReading folder.told folder.contents.main e → OnlyFor T e → CountsFor T e
      → Ends {T = T} (Get key) folder sink (Err e) folder_after sink
  get_stops T key Storage stops only faults = (record { does = ((refl, stops), λ told. inl (only told)); faults = faults }, none_gained sink)
  get_stops T key Corrupt stops only faults = (record { does = ((refl, stops), λ told. inl (only told)); faults = faults }, none_gained sink)
  get_stops T key (TooLong len) stops only faults = (record { does = ((refl, stops), λ told. inl (only told)); faults = faults }, none_gained sink)
  get_stops T key NoMemory stops only faults = ([], record { does = (λ told. inl refl, λ told. inl (only told)); faults = faults }, none_gained sink)
  get_stops T key e stops only faults = absurd stops

  -- and where there is no line for the key
  pub line_stops : (T : Type 0) (key : List ℕ) (e : ToolError) → FindsLine folder.told key folder.contents.main (Err e) → OnlyFor T e → CountsFor T e
      → Ends {T = T} (Get key) folder sink (Err e) folder_after sink
  line_stops T key NoKey lacks only faults = (record { does = ((refl, lacks), λ told. inl (only told)); faults = faults }, none_gained sink)
  line_stops T key e stops only faults = get_stops T key e stops only faults

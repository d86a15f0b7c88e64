-- Scripts with transcripts that tell the truth of them.
use Rattle.std.specs.Prelude.{◌≡◌, ℕ, pos, List, [], ◌∷◌, ◌++◌, codes, None, Some, false}
use Rattle.std.specs.List.{flat_map}
use Rattle.store_traits.specs.declared.ids.CallId.{CallId}
use Rattle.store_traits.specs.declared.step.Step.TheVariants.{U1, U8}
use Rattle.folder_disk.specs.declared.main_read.MainRead.{MainRead}
use Rattle.folder_disk.specs.declared.main_read.MainRead.TheVariants as main
use Rattle.hist_journal.specs.declared.seen.BaseSeen.TheVariants.{Held}
use Rattle.hist_journal.specs.declared.seen.KindSeen.TheVariants as kind
use Rattle.hist_journal.specs.declared.seen.KindSeen.TheVariants.{Raise, Edit, Same, Synced, Inited, Fault, Death}
use Rattle.hist_journal.specs.declared.device.Device.TheVariants.{Folder}
use Rattle.folder_disk.specs.declared.call.FolderCall.TheVariants.{SyncFolder}
use Rattle.prefs_model.specs.declared.pref_pair.PrefPair.{PrefPair}
use Rattle.prefs_model.specs.declared.pref_value.PrefValue.{PrefValue}
use Rattle.prefs_model.specs.declared.pref_value.PrefValue.TheVariants.{Int}
use Rattle.prefs_edit.specs.declared.edit_step.EditStep.{EditStep}
use Rattle.prefs_edit.specs.declared.edit_step.EditStep.TheVariants.{Set, AddInt}
use Rattle.prefs_edit.specs.After.{after_steps}
use Rattle.prefs_edit.specs.Weight.{edit_weight}
use Rattle.prefs_text.specs.declared.names.Names.{Names}
use Rattle.prefs_text.specs.declared.seen.AnswerLineSeen.{AnswerLineSeen}
use Rattle.prefs_text.specs.declared.seen.AnswerSeen.{AnswerSeen}
use Rattle.prefs_text.specs.declared.seen.AnswerSeen.TheVariants as answer
use Rattle.prefs_text.specs.declared.seen.AnswerSeen.TheVariants.{Updated, Unchanged, Refused, NotDurable, Died, Posted, Restarted}
use Rattle.prefs_text.specs.EntryText.{PrefEntry, PrefKind}
use Rattle.shelf.specs.Rules.{rules_of}
use Rattle.script_lang.specs.declared.transcripts.file_seen.FileSeen.TheVariants.{Bytes}
use Rattle.script_lang.specs.declared.plan.run_line.Act.TheVariants.{Update, Read, Flow, Post, Restart, Go}
use Rattle.script_lang.specs.declared.plan.run_line.RunLine.{RunLine}
use Rattle.script_lang.specs.declared.plan.script.Script.{Script}
use Rattle.script_lang.specs.declared.plan.session_plan.SessionPlan.{SessionPlan}
use Rattle.script_lang.specs.declared.transcripts.transcript.Transcript.{Transcript}
use Rattle.script_lang.specs.Chronicle.{Basis}
use Rattle.script_lang.specs.SessionPlans.{plain}
use Rattle.script_lang.specs.TranscriptView.{SessionSeen}

abbrev pub number_of : PrefValue → ℕ
number_of (Int (pos n)) = n
number_of other = 0

-- a file has, of each pair, the key and the number
abbrev pub encoded : List PrefPair → List ℕ
encoded map = flat_map (λ pair. pair.key ++ number_of pair.value ∷ []) map

abbrev pub basis : Basis
basis = record { rules = rules_of after_steps edit_weight encoded (λ bytes map. bytes ≡ encoded map) []; file_limit = 1048576; weight_limit = 268435456 }

abbrev pub holds : List ℕ → ℕ → List PrefPair
holds key n = record { key = key; value = Int (pos n) } ∷ []

abbrev pub add : List ℕ → List EditStep
add key = AddInt key (pos 1) ∷ []

abbrev pub set : List ℕ → ℕ → List EditStep
set key n = Set key (Int (pos n)) ∷ []

-- client a is on the first node, client b on the second
abbrev pub names : Names
names = record { nodes = codes "n1" ∷ codes "n2" ∷ []; clients = codes "a" ∷ codes "b" ∷ [] }

abbrev pub a : ℕ → CallId
a number = record { node = record { 0 = 0 }; client = record { 0 = 0 }; number = number }

abbrev pub b : ℕ → CallId
b number = record { node = record { 0 = 1 }; client = record { 0 = 1 }; number = number }

abbrev pub asks : CallId → List EditStep → RunLine
asks call edit = record { client = call.client; act = Update edit }

abbrev pub goes : CallId → ℕ → RunLine
goes call steps = record { client = call.client; act = Go steps }

-- a script of one session
abbrev pub script : MainRead → SessionPlan → Script
script file plan = record { names = names; homes = record { 0 = 0 } ∷ record { 0 = 1 } ∷ []; start = record { file = file; entries = 100000; replace = false }; sessions = plan ∷ [] }

abbrev pub answered : CallId → AnswerSeen → AnswerLineSeen
answered call answer = record { call = call; poster = None; answer = answer }

abbrev pub entry : CallId → PrefKind → PrefEntry
entry call kind = record { who = call; kind = kind }

-- the first update of a node
abbrev pub update : CallId → List EditStep → List PrefEntry
update call edit = entry call (Inited call.node) ∷ entry call Raise ∷ entry call (Edit edit) ∷ entry call Synced ∷ []

abbrev pub told : SessionSeen → Transcript
told session = record { names = names; sessions = session ∷ [] }

-- two nodes add 1, one after the other
abbrev pub two_nodes_plan : SessionPlan
two_nodes_plan = plain (asks (a 1) (add (codes "x")) ∷ asks (b 1) (add (codes "x")) ∷ goes (a 1) 5 ∷ goes (b 1) 1 ∷ [])

abbrev pub two_nodes : Script
two_nodes = script main.Absent two_nodes_plan

abbrev pub two_nodes_told : SessionSeen
two_nodes_told =
    record {
      base = Held [];
      answers = answered (a 1) (Updated 1) ∷ answered (b 1) (Updated 2) ∷ [];
      entries = update (a 1) (add (codes "x")) ++ update (b 1) (add (codes "x"));
      file = Bytes (encoded (holds (codes "x") 2));
    }

-- the first node dies behind its rename, the second sets the same number, and the machine stops
abbrev pub death_and_stop_plan : SessionPlan
death_and_stop_plan =
    record {
      folder_faults = [];
      fuse = None;
      deaths = record { call = a 1; step = U8 } ∷ [];
      lines = asks (a 1) (set (codes "k") 1) ∷ goes (a 1) 12 ∷ asks (b 1) (set (codes "k") 1) ∷ goes (b 1) 9 ∷ [];
      stop = Some 0;
    }

-- behind the stop the second node reads
abbrev pub read_plan : SessionPlan
read_plan = plain (record { client = (b 2).client; act = Read } ∷ [])

abbrev pub death_and_stop : Script
death_and_stop = record (script main.Absent death_and_stop_plan) { sessions = death_and_stop_plan ∷ read_plan ∷ [] }

abbrev pub death_told : SessionSeen
death_told =
    record {
      base = Held [];
      answers = answered (a 1) (Died 4) ∷ answered (b 1) (Updated 1) ∷ [];
      entries =
          entry (a 1) (Inited (a 1).node)
          ∷ entry (a 1) Raise
          ∷ entry (a 1) (Edit (set (codes "k") 1))
          ∷ entry (a 1) (Death (a 1).node)
          ∷ entry (b 1) (Inited (b 1).node)
          ∷ entry (b 1) (Same (set (codes "k") 1))
          ∷ entry (b 1) Synced
          ∷ [];
      file = Bytes (encoded (holds (codes "k") 1));
    }

abbrev pub read_told : SessionSeen
read_told =
    record {
      base = Held (holds (codes "k") 1);
      answers = answered (b 2) (answer.Read 0 (holds (codes "k") 1)) ∷ [];
      entries = entry (b 2) (Inited (b 2).node) ∷ [];
      file = Bytes (encoded (holds (codes "k") 1));
    }

abbrev pub death_and_stop_told : Transcript
death_and_stop_told = record { names = names; sessions = death_told ∷ read_told ∷ [] }

-- the actor of the first node, whose number is behind those of the two clients
abbrev pub actor : ℕ → CallId
actor number = record { node = record { 0 = 0 }; client = record { 0 = 2 }; number = number }

abbrev pub did : CallId → CallId → AnswerSeen → AnswerLineSeen
did call poster answer = record { call = call; poster = Some poster; answer = answer }

-- a client posts two edits to the actor of its node
abbrev pub two_posts_plan : SessionPlan
two_posts_plan = plain (record { client = (a 1).client; act = Post (add (codes "x")) } ∷ record { client = (a 2).client; act = Post (set (codes "x") 5) } ∷ [])

abbrev pub two_posts : Script
two_posts = script main.Absent two_posts_plan

abbrev pub two_posts_told : SessionSeen
two_posts_told =
    record {
      base = Held [];
      answers = answered (a 1) Posted ∷ answered (a 2) Posted ∷ did (actor 1) (a 1) (Updated 1) ∷ did (actor 2) (a 2) (Updated 2) ∷ [];
      entries = update (actor 1) (add (codes "x")) ++ entry (actor 2) Raise ∷ entry (actor 2) (Edit (set (codes "x") 5)) ∷ entry (actor 2) Synced ∷ [];
      file = Bytes (encoded (holds (codes "x") 5));
    }

-- the folder is not synced behind the rename, and the value stands
abbrev pub sync_failed_plan : SessionPlan
sync_failed_plan = record (plain (asks (a 1) (set (codes "k") 1) ∷ record { client = (a 2).client; act = Read } ∷ [])) { folder_faults = record { call = SyncFolder; number = 1 } ∷ [] }

abbrev pub sync_failed : Script
sync_failed = script main.Absent sync_failed_plan

abbrev pub sync_failed_told : SessionSeen
sync_failed_told =
    record {
      base = Held [];
      answers = answered (a 1) (NotDurable 3) ∷ answered (a 2) (answer.Read 1 (holds (codes "k") 1)) ∷ [];
      entries = entry (a 1) (Inited (a 1).node) ∷ entry (a 1) Raise ∷ entry (a 1) (Edit (set (codes "k") 1)) ∷ entry (a 1) (Fault Folder 1) ∷ [];
      file = Bytes (encoded (holds (codes "k") 1));
    }

-- a node dies before its first update, is brought back, and updates
abbrev pub restart_plan : SessionPlan
restart_plan =
    record (plain (asks (a 1) (set (codes "k") 1) ∷ record { client = (b 1).client; act = Restart (a 1).node } ∷ asks (a 2) (set (codes "k") 2) ∷ goes (a 1) 5 ∷ goes (b 1) 1 ∷ [])) {
      deaths = record { call = a 1; step = U1 } ∷ [];
    }

abbrev pub restart : Script
restart = script main.Absent restart_plan

abbrev pub restart_told : SessionSeen
restart_told =
    record {
      base = Held [];
      answers = answered (a 1) (Died 2) ∷ answered (a 2) (Updated 1) ∷ answered (b 1) (Restarted 3) ∷ [];
      entries =
          entry (a 1) (Inited (a 1).node)
          ∷ entry (a 1) (Death (a 1).node)
          ∷ entry (b 1) (kind.Restart (a 1).node)
          ∷ update (a 2) (set (codes "k") 2);
      file = Bytes (encoded (holds (codes "k") 2));
    }

-- a flow gives a value once
abbrev pub flows_plan : SessionPlan
flows_plan =
    plain
    (record { client = (a 1).client; act = Flow }
    ∷ record { client = (a 2).client; act = Flow }
    ∷ asks (a 3) (set (codes "k") 1)
    ∷ record { client = (a 4).client; act = Flow }
    ∷ [])

abbrev pub flows : Script
flows = script main.Absent flows_plan

abbrev pub flows_told : SessionSeen
flows_told =
    record {
      base = Held [];
      answers = answered (a 1) (answer.Flow 0 []) ∷ answered (a 2) (Unchanged 0) ∷ answered (a 3) (Updated 1) ∷ answered (a 4) (answer.Flow 1 (holds (codes "k") 1)) ∷ [];
      entries = entry (a 1) (Inited (a 1).node) ∷ entry (a 3) Raise ∷ entry (a 3) (Edit (set (codes "k") 1)) ∷ entry (a 3) Synced ∷ [];
      file = Bytes (encoded (holds (codes "k") 1));
    }

-- two nodes set two numbers
abbrev pub two_sets_plan : SessionPlan
two_sets_plan = plain (asks (a 1) (set (codes "x") 1) ∷ asks (b 1) (set (codes "x") 2) ∷ [])

abbrev pub two_sets : Script
two_sets = script main.Absent two_sets_plan

-- a client updates, and reads
abbrev pub update_then_read_plan : SessionPlan
update_then_read_plan = plain (asks (a 1) (add (codes "x")) ∷ record { client = (a 2).client; act = Read } ∷ [])

abbrev pub update_then_read : Script
update_then_read = script main.Absent update_then_read_plan

-- what is there already is set
abbrev pub equal_value_plan : SessionPlan
equal_value_plan = plain (asks (a 1) (set (codes "k") 1) ∷ [])

abbrev pub equal_value : Script
equal_value = script (main.Bytes (encoded (holds (codes "k") 1))) equal_value_plan

abbrev pub equal_value_told : SessionSeen
equal_value_told =
    record {
      base = Held (holds (codes "k") 1);
      answers = answered (a 1) (Updated 0) ∷ [];
      entries = entry (a 1) (Inited (a 1).node) ∷ entry (a 1) (Same (set (codes "k") 1)) ∷ entry (a 1) Synced ∷ [];
      file = Bytes (encoded (holds (codes "k") 1));
    }

-- the greatest number is set, and 1 more is refused
abbrev pub greatest_plan : SessionPlan
greatest_plan = plain (asks (a 1) (set (codes "n") 2147483647) ∷ asks (a 2) (add (codes "n")) ∷ [])

abbrev pub greatest : Script
greatest = script main.Absent greatest_plan

abbrev pub greatest_told : SessionSeen
greatest_told =
    record {
      base = Held [];
      answers = answered (a 1) (Updated 1) ∷ answered (a 2) (Refused 2 1) ∷ [];
      entries = update (a 1) (set (codes "n") 2147483647);
      file = Bytes (encoded (holds (codes "n") 2147483647));
    }

-- Transcripts that do not tell the truth: of each, one thing is wrong, and one of the nine rules is broken.
use Rattle.std.specs.Prelude.{[], ◌∷◌, ◌++◌, codes, None, Some}
use Rattle.store_traits.specs.declared.step.Step.TheVariants.{U1, U3, U4, U8}
use Rattle.folder_disk.specs.declared.call.FolderCall.TheVariants.{SyncFolder}
use Rattle.hist_journal.specs.declared.device.Device.TheVariants.{Folder}
use Rattle.hist_journal.specs.declared.seen.BaseSeen.TheVariants.{Held}
use Rattle.hist_journal.specs.declared.seen.KindSeen.TheVariants as kind
use Rattle.hist_journal.specs.declared.seen.KindSeen.TheVariants.{Raise, Edit, Synced, Fault, Inited, Death}
use Rattle.folder_disk.specs.declared.main_read.MainRead.TheVariants as main
use Rattle.prefs_text.specs.declared.seen.AnswerSeen.TheVariants as answer
use Rattle.prefs_text.specs.declared.seen.AnswerSeen.TheVariants.{Updated, Unchanged, Died, Posted, NotDead, Restarted, Cut}
use Rattle.script_lang.specs.declared.transcripts.file_seen.FileSeen.TheVariants.{Absent, Bytes, TooLong}
use Rattle.script_lang.specs.declared.plan.run_line.Act.TheVariants.{Restart}
use Rattle.script_lang.specs.declared.plan.script.Script.{Script}
use Rattle.script_lang.specs.declared.transcripts.transcript.Transcript.{Transcript}
use Rattle.script_lang.specs.Rules.{Breaks, Rule}
use Rattle.script_lang.specs.SessionPlans.{plain}
use Rattle.script_lang.specs.TranscriptView.{SessionSeen}
use Rattle.script_lang.specs.TruthExamples.{a, actor, add, answered, asks, b, basis, death_and_stop, death_and_stop_plan, death_told, did, encoded, entry, flows_told, holds, names, read_plan, read_told, restart_told, script, set, sync_failed_plan, told, two_nodes_plan, two_nodes_told, two_posts_told, update}

abbrev pub Untrue : Rule → Script → Transcript → Type 0
Untrue = Breaks basis

-- G1: sessions follow one another

-- the base is what main reads as in the end
abbrev pub base_from_the_end : SessionSeen
base_from_the_end = record two_nodes_told { base = Held (holds (codes "x") 2) }

-- the stop is said to have undone what was synced
abbrev pub stop_undid : Transcript
stop_undid = record { names = names; sessions = death_told ∷ record read_told { base = Held []; answers = answered (b 2) (answer.Read 0 []) ∷ []; file = Absent } ∷ [] }

-- the second session is not told
abbrev pub session_missing : Transcript
session_missing = told death_told

-- a stop ends the last session, too
abbrev pub stop_at_the_end : Script
stop_at_the_end = script main.Absent (record two_nodes_plan { stop = Some 0 })

-- no stop ends the first of two sessions
abbrev pub stop_missing : Script
stop_missing = record death_and_stop { sessions = record death_and_stop_plan { stop = None } ∷ read_plan ∷ [] }

-- a change stands without its Raise
abbrev pub raise_left_out : SessionSeen
raise_left_out =
    record two_nodes_told {
      entries = entry (a 1) (Inited (a 1).node) ∷ entry (a 1) (Edit (add (codes "x"))) ∷ entry (a 1) Synced ∷ update (b 1) (add (codes "x"));
    }

-- the folder fails behind the rename, and what the call added stands
abbrev pub add_unsynced : Script
add_unsynced = script main.Absent (record (plain (asks (a 1) (add (codes "x")) ∷ [])) { folder_faults = record { call = SyncFolder; number = 1 } ∷ [] })

-- the call does its update again behind that fault
abbrev pub done_again : SessionSeen
done_again =
    record {
      base = Held [];
      answers = answered (a 1) (Updated 2) ∷ [];
      entries = entry (a 1) (Inited (a 1).node) ∷ entry (a 1) Raise ∷ entry (a 1) (Edit (add (codes "x"))) ∷ entry (a 1) (Fault Folder 1) ∷ entry (a 1) Raise ∷ entry (a 1) (Edit (add (codes "x"))) ∷ entry (a 1) Synced ∷ [];
      file = Bytes (encoded (holds (codes "x") 2));
    }

-- G2: each call has one answer, in its place and of its form

-- the second answer is missing
abbrev pub answer_missing : SessionSeen
answer_missing = record two_nodes_told { answers = answered (a 1) (Updated 1) ∷ [] }

-- the answers stand in the order in which the calls ended
abbrev pub answers_out_of_order : SessionSeen
answers_out_of_order =
    record two_nodes_told {
      answers = answered (b 1) (Updated 1) ∷ answered (a 1) (Updated 2) ∷ [];
      entries = update (b 1) (add (codes "x")) ++ update (a 1) (add (codes "x"));
    }

-- nothing stopped the machine
abbrev pub cut_without_stop : SessionSeen
cut_without_stop = record two_nodes_told { answers = answered (a 1) (Updated 1) ∷ answered (b 1) Cut ∷ [] }

-- a call is answered twice
abbrev pub answered_twice : SessionSeen
answered_twice = record two_nodes_told { answers = answered (a 1) (Updated 1) ∷ answered (a 1) (Updated 1) ∷ answered (b 1) (Updated 2) ∷ [] }

-- an update is answered as a post is
abbrev pub posted_update : SessionSeen
posted_update = record two_nodes_told { answers = answered (a 1) Posted ∷ answered (b 1) (Updated 2) ∷ [] }

-- a call has an entry that no line asks for
abbrev pub call_unasked : SessionSeen
call_unasked = record two_nodes_told { entries = two_nodes_told.entries ++ entry (b 2) Raise ∷ [] }

-- G3: what is acknowledged stands in the history

-- the second edition is one too high
abbrev pub edition_too_high : SessionSeen
edition_too_high = record two_nodes_told { answers = answered (a 1) (Updated 1) ∷ answered (b 1) (Updated 3) ∷ [] }

-- the last Synced is left out
abbrev pub synced_left_out : SessionSeen
synced_left_out =
    record two_nodes_told {
      entries = update (a 1) (add (codes "x")) ++ entry (b 1) (Inited (b 1).node) ∷ entry (b 1) Raise ∷ entry (b 1) (Edit (add (codes "x"))) ∷ [];
    }

-- each carries the edit of the other
abbrev pub edits_exchanged : SessionSeen
edits_exchanged =
    record {
      base = Held [];
      answers = answered (a 1) (Updated 1) ∷ answered (b 1) (Updated 2) ∷ [];
      entries = update (a 1) (set (codes "x") 2) ++ update (b 1) (set (codes "x") 1);
      file = Bytes (encoded (holds (codes "x") 1));
    }

-- the restart is said to stand at another place
abbrev pub restarted_elsewhere : SessionSeen
restarted_elsewhere = record restart_told { answers = answered (a 1) (Died 2) ∷ answered (a 2) (Updated 1) ∷ answered (b 1) (Restarted 4) ∷ [] }

-- a Restart stands, and its call is said to have found the node alive
abbrev pub restart_denied : SessionSeen
restart_denied = record restart_told { answers = answered (a 1) (Died 2) ∷ answered (a 2) (Updated 1) ∷ answered (b 1) NotDead ∷ [] }

-- the second node dies, and a client is to bring back the first
abbrev pub restart_of_the_first : Script
restart_of_the_first =
    script main.Absent
    (record (plain (asks (b 1) (set (codes "k") 1) ∷ record { client = (a 1).client; act = Restart (a 1).node } ∷ [])) { deaths = record { call = b 1; step = U1 } ∷ [] })

-- it brings back the second
abbrev pub restarted_another : SessionSeen
restarted_another =
    record {
      base = Held [];
      answers = answered (a 1) (Restarted 3) ∷ answered (b 1) (Died 2) ∷ [];
      entries = entry (b 1) (Inited (b 1).node) ∷ entry (b 1) (Death (b 1).node) ∷ entry (a 1) (kind.Restart (b 1).node) ∷ [];
      file = Absent;
    }

-- G4: what is read is the value of its edition

-- a map is read that no edition has
abbrev pub map_of_no_edition : SessionSeen
map_of_no_edition =
    record {
      base = Held [];
      answers = answered (a 1) (Updated 1) ∷ answered (a 2) (answer.Read 1 (holds (codes "x") 7)) ∷ [];
      entries = update (a 1) (add (codes "x"));
      file = Bytes (encoded (holds (codes "x") 1));
    }

-- the map of the edition before is read
abbrev pub map_of_another_edition : SessionSeen
map_of_another_edition =
    record {
      base = Held [];
      answers = answered (a 1) (Updated 1) ∷ answered (a 2) (answer.Read 1 []) ∷ [];
      entries = update (a 1) (add (codes "x"));
      file = Bytes (encoded (holds (codes "x") 1));
    }

-- an edition is read that the history does not reach
abbrev pub edition_not_reached : SessionSeen
edition_not_reached =
    record {
      base = Held [];
      answers = answered (a 1) (Updated 1) ∷ answered (a 2) (answer.Read 2 (holds (codes "x") 1)) ∷ [];
      entries = update (a 1) (add (codes "x"));
      file = Bytes (encoded (holds (codes "x") 1));
    }

-- a flow gives a map that no edition has
abbrev pub flow_of_no_edition : SessionSeen
flow_of_no_edition =
    record flows_told { answers = answered (a 1) (answer.Flow 0 []) ∷ answered (a 2) (Unchanged 0) ∷ answered (a 3) (Updated 1) ∷ answered (a 4) (answer.Flow 1 (holds (codes "k") 2)) ∷ [] }

-- G5: no client is shown an older edition than before

-- it reads what was there before its own update
abbrev pub read_too_early : SessionSeen
read_too_early =
    record {
      base = Held [];
      answers = answered (a 1) (Updated 1) ∷ answered (a 2) (answer.Read 0 []) ∷ [];
      entries = update (a 1) (add (codes "x"));
      file = Bytes (encoded (holds (codes "x") 1));
    }

-- a flow gives a value twice
abbrev pub flow_twice : SessionSeen
flow_twice =
    record flows_told { answers = answered (a 1) (answer.Flow 0 []) ∷ answered (a 2) (answer.Flow 0 []) ∷ answered (a 3) (Updated 1) ∷ answered (a 4) (answer.Flow 1 (holds (codes "k") 1)) ∷ [] }

-- a flow is unchanged before it gave a value
abbrev pub unchanged_at_first : SessionSeen
unchanged_at_first =
    record flows_told { answers = answered (a 1) (Unchanged 0) ∷ answered (a 2) (answer.Flow 0 []) ∷ answered (a 3) (Updated 1) ∷ answered (a 4) (answer.Flow 1 (holds (codes "k") 1)) ∷ [] }

-- G7: actors do the posted jobs, each once and in order

-- the second job is dropped
abbrev pub job_dropped : SessionSeen
job_dropped =
    record two_posts_told {
      answers = answered (a 1) Posted ∷ answered (a 2) Posted ∷ did (actor 1) (a 1) (Updated 1) ∷ [];
      entries = update (actor 1) (add (codes "x"));
      file = Bytes (encoded (holds (codes "x") 1));
    }

-- the second job is done first
abbrev pub jobs_exchanged : SessionSeen
jobs_exchanged =
    record two_posts_told {
      answers = answered (a 1) Posted ∷ answered (a 2) Posted ∷ did (actor 1) (a 2) (Updated 1) ∷ did (actor 2) (a 1) (Updated 2) ∷ [];
      entries = update (actor 1) (set (codes "x") 5) ++ entry (actor 2) Raise ∷ entry (actor 2) (Edit (add (codes "x"))) ∷ entry (actor 2) Synced ∷ [];
      file = Bytes (encoded (holds (codes "x") 6));
    }

-- an actor numbers its calls from 2
abbrev pub actor_from_two : SessionSeen
actor_from_two =
    record two_posts_told {
      answers = answered (a 1) Posted ∷ answered (a 2) Posted ∷ did (actor 2) (a 1) (Updated 1) ∷ did (actor 3) (a 2) (Updated 2) ∷ [];
      entries = update (actor 2) (add (codes "x")) ++ entry (actor 3) Raise ∷ entry (actor 3) (Edit (set (codes "x") 5)) ∷ entry (actor 3) Synced ∷ [];
    }

-- G8: nodes die and devices fail only as planned

-- a node died, and no line plans it
abbrev pub death_unplanned : SessionSeen
death_unplanned =
    record two_nodes_told {
      answers = answered (a 1) (Died 2) ∷ answered (b 1) (Updated 1) ∷ [];
      entries = entry (a 1) (Inited (a 1).node) ∷ entry (a 1) (Death (a 1).node) ∷ update (b 1) (add (codes "x"));
      file = Bytes (encoded (holds (codes "x") 1));
    }

-- a death was planned for a call, and the call went well
abbrev pub death_left_out : Script
death_left_out = script main.Absent (record two_nodes_plan { deaths = record { call = a 1; step = U8 } ∷ [] })

-- the same at its first step
abbrev pub first_death_left_out : Script
first_death_left_out = script main.Absent (record two_nodes_plan { deaths = record { call = a 1; step = U1 } ∷ [] })

-- a death was planned for a step behind the raise, and the call that died had not raised
abbrev pub death_planned_writing : Script
death_planned_writing = script main.Absent (record two_nodes_plan { deaths = record { call = a 1; step = U4 } ∷ [] })

-- a death was planned for the step of the raise, and the call that died had raised
abbrev pub death_planned_raising : Script
death_planned_raising = script main.Absent (record two_nodes_plan { deaths = record { call = a 1; step = U3 } ∷ [] })

abbrev pub death_behind_raise : SessionSeen
death_behind_raise =
    record two_nodes_told {
      answers = answered (a 1) (Died 3) ∷ answered (b 1) (Updated 1) ∷ [];
      entries = entry (a 1) (Inited (a 1).node) ∷ entry (a 1) Raise ∷ entry (a 1) (Death (a 1).node) ∷ update (b 1) (add (codes "x"));
      file = Bytes (encoded (holds (codes "x") 1));
    }

-- no line lets the folder fail
abbrev pub fault_unplanned : Script
fault_unplanned = script main.Absent (record sync_failed_plan { folder_faults = [] })

-- G9: the file is what the history comes to

-- the file is that of the start
abbrev pub file_of_the_start : SessionSeen
file_of_the_start = record two_nodes_told { file = Absent }

-- the file has another number
abbrev pub another_file : SessionSeen
another_file = record two_nodes_told { file = Bytes (encoded (holds (codes "x") 3)) }

-- the file is said to be too long
abbrev pub file_said_too_long : SessionSeen
file_said_too_long = record two_nodes_told { file = TooLong 2 }

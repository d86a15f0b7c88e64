-- Transcripts with answers that have no cause: of each, the sixth rule is broken.
use Rattle.std.specs.Prelude.{[], ◌∷◌, ◌++◌, codes}
use Rattle.store_traits.specs.declared.step.Step.TheVariants.{U1}
use Rattle.folder_disk.specs.declared.main_read.MainRead.TheVariants as main
use Rattle.hist_journal.specs.declared.seen.BaseSeen.TheVariants.{Held}
use Rattle.hist_journal.specs.declared.seen.KindSeen.TheVariants.{Raise, Edit, Synced, Inited, Death}
use Rattle.prefs_text.specs.declared.seen.AnswerSeen.{AnswerSeen}
use Rattle.prefs_text.specs.declared.seen.AnswerSeen.TheVariants as answer
use Rattle.prefs_text.specs.declared.seen.AnswerSeen.TheVariants.{Updated, Refused, Corrupt, FileTooLong, ValueTooLong, HistoryFull, StorageFault, NotDurable, LegacyFault, Died, Posted, Full, NotDead}
use Rattle.script_lang.specs.declared.transcripts.file_seen.FileSeen.TheVariants.{Absent, Bytes}
use Rattle.script_lang.specs.declared.plan.run_line.Act.TheVariants.{Read, Restart}
use Rattle.script_lang.specs.declared.plan.script.Script.{Script}
use Rattle.script_lang.specs.SessionPlans.{plain}
use Rattle.script_lang.specs.TranscriptView.{SessionSeen}
use Rattle.script_lang.specs.TruthExamples.{a, actor, add, answered, asks, b, death_told, did, encoded, entry, greatest_told, holds, restart_plan, restart_told, script, set, sync_failed_told, two_nodes_told, two_posts_told, update}

-- the second of two updates is answered so, and its node did no more than begin
abbrev pub second_answered : AnswerSeen → SessionSeen
second_answered answer =
    record two_nodes_told {
      answers = answered (a 1) (Updated 1) ∷ answered (b 1) answer ∷ [];
      entries = update (a 1) (add (codes "x")) ++ entry (b 1) (Inited (b 1).node) ∷ [];
      file = Bytes (encoded (holds (codes "x") 1));
    }

-- a read behind an update of its client is answered so
abbrev pub read_answered : AnswerSeen → SessionSeen
read_answered answer =
    record {
      base = Held [];
      answers = answered (a 1) (Updated 1) ∷ answered (a 2) answer ∷ [];
      entries = update (a 1) (add (codes "x"));
      file = Bytes (encoded (holds (codes "x") 1));
    }

-- the folder is said to have failed, and no entry says so
abbrev pub fault_without_entry : SessionSeen
fault_without_entry = record two_nodes_told { answers = answered (a 1) (Updated 1) ∷ answered (b 1) (StorageFault 8) ∷ [] }

-- the transform does not refuse the value
abbrev pub unrefused : SessionSeen
unrefused = second_answered (Refused 2 1)

-- it refuses by another code
abbrev pub another_code : SessionSeen
another_code = record greatest_told { answers = answered (a 1) (Updated 1) ∷ answered (a 2) (Refused 1 1) ∷ [] }

-- it refuses the value of another edition
abbrev pub another_edition : SessionSeen
another_edition = record greatest_told { answers = answered (a 1) (Updated 1) ∷ answered (a 2) (Refused 2 0) ∷ [] }

-- the file is readable
abbrev pub corrupt : SessionSeen
corrupt = second_answered Corrupt

abbrev pub read_corrupt : SessionSeen
read_corrupt = read_answered Corrupt

-- the file is not too long
abbrev pub file_too_long : SessionSeen
file_too_long = second_answered (FileTooLong 2)

abbrev pub read_file_too_long : SessionSeen
read_file_too_long = read_answered (FileTooLong 2)

-- the value is not too long
abbrev pub value_too_long : SessionSeen
value_too_long = second_answered (ValueTooLong 2)

abbrev pub read_value_too_long : SessionSeen
read_value_too_long = read_answered (ValueTooLong 2)

-- the history has such numbers, and neither is a bound
abbrev pub history_full : SessionSeen
history_full = second_answered (HistoryFull 5 25)

abbrev pub read_history_full : SessionSeen
read_history_full = read_answered (HistoryFull 4 25)

-- the folder did not fail
abbrev pub storage_fault : SessionSeen
storage_fault = second_answered (StorageFault 4)

abbrev pub read_storage_fault : SessionSeen
read_storage_fault = read_answered (StorageFault 4)

-- the folder failed behind the Edit of the call
abbrev pub fault_behind_edit : SessionSeen
fault_behind_edit = record sync_failed_told { answers = answered (a 1) (StorageFault 4) ∷ answered (a 2) (answer.Read 1 (holds (codes "k") 1)) ∷ [] }

-- no change of the call is unsynced
abbrev pub not_durable : SessionSeen
not_durable = second_answered (NotDurable 3)

abbrev pub read_not_durable : SessionSeen
read_not_durable = read_answered (NotDurable 3)

-- another entry is uncertain
abbrev pub another_uncertain : SessionSeen
another_uncertain = record sync_failed_told { answers = answered (a 1) (NotDurable 2) ∷ answered (a 2) (answer.Read 1 (holds (codes "k") 1)) ∷ [] }

-- there are no old settings that fail
abbrev pub legacy_fault : SessionSeen
legacy_fault = second_answered (LegacyFault 4)

abbrev pub read_legacy_fault : SessionSeen
read_legacy_fault = read_answered (LegacyFault 4)

-- the node did not die
abbrev pub died : SessionSeen
died = second_answered (Died 4)

abbrev pub read_died : SessionSeen
read_died = read_answered (Died 4)

-- the node died at another place
abbrev pub died_elsewhere : SessionSeen
died_elsewhere = record restart_told { answers = answered (a 1) (Died 1) ∷ answered (a 2) (Updated 1) ∷ answered (b 1) (answer.Restarted 3) ∷ [] }

-- an update behind the restart is said to have died before it
abbrev pub former_life : SessionSeen
former_life = record restart_told { answers = answered (a 1) (Died 2) ∷ answered (a 2) (Died 2) ∷ answered (b 1) (answer.Restarted 3) ∷ [] }

-- a client reads behind that update
abbrev pub late_read : Script
late_read = script main.Absent (record restart_plan { lines = restart_plan.lines ++ record { client = (a 3).client; act = Read } ∷ [] })

-- the read is said to have died before the update
abbrev pub died_before_update : SessionSeen
died_before_update = record restart_told { answers = answered (a 1) (Died 2) ∷ answered (a 2) (Updated 1) ∷ answered (a 3) (Died 2) ∷ answered (b 1) (answer.Restarted 3) ∷ [] }

-- no 16 jobs can have waited
abbrev pub full : SessionSeen
full =
    record two_posts_told {
      answers = answered (a 1) Posted ∷ answered (a 2) Full ∷ did (actor 1) (a 1) (Updated 1) ∷ [];
      entries = update (actor 1) (add (codes "x"));
      file = Bytes (encoded (holds (codes "x") 1));
    }

-- nor at first
abbrev pub full_at_first : SessionSeen
full_at_first =
    record two_posts_told {
      answers = answered (a 1) Full ∷ answered (a 2) Posted ∷ did (actor 1) (a 2) (Updated 1) ∷ [];
      entries = update (actor 1) (set (codes "x") 5);
      file = Bytes (encoded (holds (codes "x") 5));
    }

-- a node dies, and a client of another updates before it brings the node back
abbrev pub late_restart : Script
late_restart =
    script main.Absent
    (record (plain (asks (a 1) (set (codes "k") 1) ∷ asks (b 1) (set (codes "k") 2) ∷ record { client = (b 2).client; act = Restart (a 1).node } ∷ [])) { deaths = record { call = a 1; step = U1 } ∷ [] })

-- the node is said to live, which it did before that update alone
abbrev pub restart_answered : AnswerSeen → SessionSeen
restart_answered answer =
    record {
      base = Held [];
      answers = answered (a 1) (Died 2) ∷ answered (b 1) (Updated 1) ∷ answered (b 2) answer ∷ [];
      entries = entry (a 1) (Inited (a 1).node) ∷ entry (a 1) (Death (a 1).node) ∷ update (b 1) (set (codes "k") 2);
      file = Bytes (encoded (holds (codes "k") 2));
    }

abbrev pub not_dead : SessionSeen
not_dead = restart_answered NotDead

-- the same behind a read
abbrev pub late_restart_read : Script
late_restart_read =
    script main.Absent
    (record (plain (asks (a 1) (set (codes "k") 1) ∷ record { client = (b 1).client; act = Read } ∷ record { client = (b 2).client; act = Restart (a 1).node } ∷ [])) { deaths = record { call = a 1; step = U1 } ∷ [] })

abbrev pub not_dead_read : SessionSeen
not_dead_read =
    record {
      base = Held [];
      answers = answered (a 1) (Died 2) ∷ answered (b 1) (answer.Read 0 []) ∷ answered (b 2) NotDead ∷ [];
      entries = entry (a 1) (Inited (a 1).node) ∷ entry (a 1) (Death (a 1).node) ∷ entry (b 1) (Inited (b 1).node) ∷ [];
      file = Absent;
    }

-- the caller is said to have died, which another did
abbrev pub restarter_died : SessionSeen
restarter_died = restart_answered (Died 2)

-- a call that died carries the edit of another
abbrev pub edit_of_another : SessionSeen
edit_of_another =
    record death_told {
      entries =
          entry (a 1) (Inited (a 1).node)
          ∷ entry (a 1) Raise
          ∷ entry (a 1) (Edit (set (codes "k") 2))
          ∷ entry (a 1) (Death (a 1).node)
          ∷ entry (b 1) (Inited (b 1).node)
          ∷ entry (b 1) Raise
          ∷ entry (b 1) (Edit (set (codes "k") 1))
          ∷ entry (b 1) Synced
          ∷ [];
      answers = answered (a 1) (Died 4) ∷ answered (b 1) (Updated 2) ∷ [];
    }

-- a call that only read has an Edit
abbrev pub edit_of_a_read : SessionSeen
edit_of_a_read =
    record (read_answered (answer.Read 1 (holds (codes "x") 1))) {
      entries = update (a 1) (add (codes "x")) ++ entry (a 2) Raise ∷ entry (a 2) (Edit (add (codes "x"))) ∷ entry (a 2) Synced ∷ [];
      file = Bytes (encoded (holds (codes "x") 2));
    }

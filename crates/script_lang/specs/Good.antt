-- When a transcript tells the truth of its script: nine rules, which know lists and folds alone.
use Rattle.std.specs.Prelude.{◌≡◌, ◌≤◌, ℕ, nat_le, false, List, [], length, Option, Some, None, if◌then◌else◌}
use Rattle.std.specs.List.{list_any}
use Rattle.hist_journal.specs.declared.device.Device.TheVariants.{Folder, Legacy}
use Rattle.shelf.specs.Entries.{is_death}
use Rattle.shelf.specs.Images.{main_at}
use Rattle.script_lang.specs.declared.transcripts.file_seen.FileSeen.{FileSeen}
use Rattle.script_lang.specs.declared.transcripts.file_seen.FileSeen.TheVariants.{Absent, Bytes, TooLong}
use Rattle.script_lang.specs.declared.plan.script.Script.{Script}
use Rattle.script_lang.specs.declared.transcripts.transcript.Transcript.{Transcript}
use Rattle.shelf.specs.FaultCounts.{count_after}
use Rattle.script_lang.specs.Chronicle.{Basis, Beginning, Chapter, IsChronicle, chronicle, first_beginning}
use Rattle.shelf.specs.Each.{Each}
use Rattle.script_lang.specs.GoodAnswers.{HasHomes, IsAnswered}
use Rattle.script_lang.specs.GoodCauses.{HasCauses}
use Rattle.script_lang.specs.GoodFailures.{DiesAsPlanned, FailsAsPlanned}
use Rattle.script_lang.specs.GoodPosts.{HasJobs}
use Rattle.script_lang.specs.GoodReads.{GivesValues, KeepsFresh}
use Rattle.script_lang.specs.GoodUpdates.{Acknowledges}

-- how often the devices had failed, in the end
pub record EndCounts : Type 0 where
  pub folder : ℕ
  pub legacy : ℕ

-- the script says how all begins and what fails; or a folder and old settings were handed in, and no death is planned
pub data Setting : Type 0 where
  Scripted : Setting
  Handed : (start : Beginning) → (end : EndCounts) → Setting

abbrev pub beginning : Setting → Script → Beginning
beginning Scripted script = first_beginning script
beginning (Handed start end) script = start

-- devices that were handed in failed no more often than they say, and no node died
pub record FailsAsCounted (end : EndCounts) (c : Chapter) : Type 0 where
  pub alive : list_any (λ e. is_death e.kind) c.told.entries ≡ false
  pub folder : count_after Folder c.store.folder.count c.told.entries ≤ end.folder
  pub legacy : count_after Legacy c.store.legacy.count c.told.entries ≤ end.legacy

abbrev pub Fails : Setting → Chapter → Type 0
Fails Scripted c = FailsAsPlanned c
Fails (Handed start end) c = FailsAsCounted end c

pub record KeepsPlans (setting : Setting) (c : Chapter) : Type 0 where
  pub deaths : DiesAsPlanned c
  pub faults : Fails setting c

-- main as it is told: where it is too long, its length alone
abbrev pub file_seen : ℕ → Option (List ℕ) → FileSeen
file_seen limit None = Absent
file_seen limit (Some bytes) = if nat_le (length bytes) limit then Bytes bytes else TooLong (length bytes)

module _ (b : Basis) where
  -- the file is main after the history
  abbrev pub TellsFile : Chapter → Type 0
  TellsFile c = c.told.file ≡ file_seen b.file_limit (main_at b.rules.meanings b.rules.encoded c.store c.told.entries)

  -- the nine rules over the sessions
  pub record KeepsRules (setting : Setting) (script : Script) (transcript : Transcript) (chapters : List Chapter) : Type 0 where
    -- G1: each session begins as the one before let it begin, and its history is lawful
    pub chronicle : IsChronicle b script transcript.sessions chapters
    -- G2: each call has one answer, of its form and in its place, and only calls have entries
    pub answers : IsAnswered script chapters
    -- G3: what is acknowledged stands in the history, synced
    pub updates : Each (λ before c. Acknowledges c) chapters
    -- G4: what is read is the value of its edition
    pub reads : Each (λ before c. GivesValues b c) chapters
    -- G5: no client is shown an older edition than before
    pub fresh : Each (λ before c. KeepsFresh c) chapters
    -- G6: each error has its cause, and each edit in the history its call
    pub causes : Each (λ before c. HasCauses b c) chapters
    -- G7: actors do the posted jobs, each once and in order
    pub jobs : HasJobs script chapters
    -- G8: nodes die and devices fail only as planned
    pub plans : Each (λ before c. KeepsPlans setting c) chapters
    -- G9: the file is what the history comes to
    pub file : Each (λ before c. TellsFile c) chapters

  abbrev pub chapters_of : Setting → Script → Transcript → List Chapter
  chapters_of setting script transcript = chronicle b script (beginning setting script) [] script.sessions transcript.sessions

  -- the transcript has the script's names and keeps the rules
  pub record IsGood (setting : Setting) (script : Script) (transcript : Transcript) : Type 0 where
    pub names : transcript.names ≡ script.names
    pub homes : Each (λ before c. HasHomes script c) (chapters_of setting script transcript)
    pub rules : KeepsRules setting script transcript (chapters_of setting script transcript)

  -- by a script that says it all
  abbrev pub Good : Script → Transcript → Type 0
  Good = IsGood Scripted

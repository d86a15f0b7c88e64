-- The sessions of a transcript, as they follow one another over stops of the machine.
use Rattle.std.specs.Prelude.{◌≡◌, ℕ, true, List, [], ◌∷◌, ◌++◌, length, map, Option, Some, None, unwrap_or, if◌then◌else◌}
use Rattle.std.specs.List.{enumerate_from}
use Rattle.store_traits.specs.declared.ids.NodeId.{NodeId}
use Rattle.folder_disk.specs.Due.{Due, in_order}
use Rattle.folder_disk.specs.FuseFolder.{with_fuse}
use Rattle.folder_disk.specs.MainRead.{main_of}
use Rattle.folder_disk.specs.Planned.{no_calls}
use Rattle.folder_disk.specs.Stops.{image}
use Rattle.folder_disk.specs.Tally.{Tally, most_of}
use Rattle.prefs_model.specs.declared.pref_pair.PrefPair.{PrefPair}
use Rattle.prefs_edit.specs.declared.edit_step.EditStep.{EditStep}
use Rattle.hist_journal.specs.declared.device.Device.TheVariants.{Folder, Legacy}
use Rattle.shelf.specs.declared.store.Store.{Store}
use Rattle.shelf.specs.Base.{HasItsBase}
use Rattle.shelf.specs.FaultCounts.{count_after}
use Rattle.shelf.specs.Images.{images}
use Rattle.shelf.specs.Legal.{Legal}
use Rattle.shelf.specs.Rules.{Rules}
use Rattle.script_lang.specs.declared.plan.run_line.RunLine.{RunLine}
use Rattle.script_lang.specs.declared.plan.script.Script.{Script}
use Rattle.script_lang.specs.declared.plan.session_plan.SessionPlan.{SessionPlan}
use Rattle.script_lang.specs.Asked.{Asked, asked_by}
use Rattle.shelf.specs.Each.{Each}
use Rattle.script_lang.specs.SessionPlans.{StopBetween}
use Rattle.script_lang.specs.TranscriptView.{SessionSeen}

-- what edits and files mean, how long a file may be, and how much a history may weigh
pub record Basis : Type 1 where
  pub rules : Rules (List PrefPair) (List EditStep)
  pub file_limit : ℕ
  pub weight_limit : ℕ

-- how a session begins: main, and how often each device had failed
pub record Beginning : Type 0 where
  pub main : Option (List ℕ)
  pub folder : ℕ
  pub legacy : ℕ

-- a session: what the script plans for it, what the transcript tells of it, its store, and the calls of its lines
pub record Chapter : Type 0 where
  pub plan : SessionPlan
  pub told : SessionSeen
  pub store : Store (List PrefPair) (Unit {0})
  pub asked : List Asked

-- the script's file, and no fault yet
abbrev pub first_beginning : Script → Beginning
first_beginning script = record { main = main_of script.start.file; folder = 0; legacy = 0 }

abbrev pub nodes_of : Script → List NodeId
nodes_of script = map (λ placed. record { 0 = placed.0 }) (enumerate_from 0 script.names.nodes)

-- what the plan has fail: calls of the folder by their number, and each behind a fuse
abbrev pub due_of : SessionPlan → Due
due_of plan = record { planned = in_order plan.folder_faults; made = no_calls; fuses = with_fuse plan.fuse [] }

-- where so many calls had failed before
abbrev pub tally_of : ℕ → SessionPlan → Tally
tally_of count plan = record { count = count; most = most_of count (due_of plan); due = due_of plan }

module _ (b : Basis) where
  -- old settings and migrations join, once scripts have them
  abbrev pub store_of : Script → Beginning → SessionPlan → SessionSeen → Store (List PrefPair) (Unit {0})
  store_of script start plan told =
      record {
        base = told.base;
        nodes = nodes_of script;
        handler = if script.start.replace then Some [] else None;
        migrations = [];
        limits = record { file = b.file_limit; history = record { entries = script.start.entries; weight = b.weight_limit } };
        deaths = plan.deaths;
        main = start.main;
        sections = [];
        folder = record { count = start.folder; most = most_of start.folder (due_of plan) };
        legacy = record { count = start.legacy; most = None };
        alone = true;
      }

  -- after a stop main is an image of the history, and devices go on counting
  abbrev pub next_beginning : Chapter → Beginning
  next_beginning c =
      record {
        main = image (unwrap_or c.plan.stop 0) (images b.rules.meanings b.rules.encoded c.store c.told.entries);
        folder = count_after Folder c.store.folder.count c.told.entries;
        legacy = count_after Legacy c.store.legacy.count c.told.entries;
      }

  abbrev pub chapter_of : Script → Beginning → List RunLine → SessionPlan → SessionSeen → Chapter
  chapter_of script start before plan told = record { plan = plan; told = told; store = store_of script start plan told; asked = asked_by script before plan.lines }

  -- each session of the script with what is told of it, where those lines stand before
  unfoldable pub chronicle : Script → Beginning → List RunLine → List SessionPlan → List SessionSeen → List Chapter
  chronicle script start before [] told = []
  chronicle script start before (plan ∷ plans) [] = []
  chronicle script start before (plan ∷ plans) (told ∷ rest) =
      let c : Chapter = chapter_of script start before plan told in
      c ∷ chronicle script (next_beginning c) (before ++ plan.lines) plans rest

  -- main reads as the base that is told, and the history is lawful
  pub record IsLawful (c : Chapter) : Type 0 where
    pub base : HasItsBase b.rules.reads b.rules.absent c.store
    pub history : Legal b.rules.meanings c.store c.told.entries

  pub record IsChronicle (script : Script) (told : List SessionSeen) (chapters : List Chapter) : Type 0 where
    -- a session is told for each of the script
    pub sessions : length told ≡ length script.sessions
    pub stops : StopBetween script.sessions
    pub lawful : Each (λ before c. IsLawful c) chapters

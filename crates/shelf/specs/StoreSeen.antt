-- The store of a shelf, read off what the shelf has.
use Rattle.std.specs.Prelude.{ℕ, Bool, false, List, [], None, if◌then◌else◌}
use Rattle.folder_disk.specs.Contents.{Contents}
use Rattle.folder_disk.specs.Tally.{Tally}
use Rattle.hist_journal.specs.Journal.{JournalSeen}
use Rattle.shelf.specs.declared.node_table.NodeState.{NodeState}
use Rattle.shelf.specs.declared.store.PlannedDeath.{PlannedDeath}
use Rattle.shelf.specs.declared.store.Store.{Store}
use Rattle.shelf.specs.NodeStates.{ids}

-- a folder that is not told says nothing of main at the start; nothing takes the place of an unreadable file, and there are no old settings yet
abbrev pub store_with : {V T : Type 0} → Bool → Contents → Tally → ℕ → ℕ → List PlannedDeath → JournalSeen V T → List NodeState → Store V (Unit {0})
store_with told folder tally limit first_faults planned journal nodes =
    record {
      base = journal.base;
      nodes = ids nodes;
      handler = None;
      migrations = [];
      limits = record { file = limit; history = journal.bounds };
      deaths = planned;
      main = if told then folder.first else None;
      sections = [];
      folder = record { count = first_faults; most = tally.most };
      legacy = record { count = 0; most = None };
      alone = if told then folder.alone else false;
    }

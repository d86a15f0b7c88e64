-- The shelf of a script's first session, to which the nodes are added one by one.
use Rattle.std.specs.Prelude.{◌≡◌, ℕ, List, [], map}
use Rattle.std.specs.List.{range_with_len}
use Rattle.store_traits.specs.declared.codec.Codec as codec_trait
use Rattle.store_traits.specs.declared.ids.NodeId.{NodeId}
use Rattle.store_traits.specs.declared.transform.Transform as transform_trait
use Rattle.folder_disk.specs.declared.folder.Folder as folder_trait
use Rattle.folder_disk.specs.Tally.{most_of}
use Rattle.prefs_proto.specs.declared.prefs_codec.PrefsCodec.{PrefsCodec}
use Rattle.shelf.specs.declared.shelf.Shelf.{Shelf}
use Rattle.shelf.specs.Base.{HasItsBase}
use Rattle.shelf.specs.ShelfSeen.{ShelfSeen}
use Rattle.script_lang.specs.declared.plan.script.Script.{Script}
use Rattle.script_lang.specs.declared.plan.session_plan.SessionPlan.{SessionPlan}
use Rattle.script_lang.specs.Chronicle.{Basis, due_of, nodes_of, tally_of}
use Rattle.replay_run.specs.declared.prefs_parts.PrefsParts.{PrefsParts}
use Rattle.replay_run.specs.SessionSteps.{IsStoreOf}
use Rattle.replay_run.specs.SessionView.{store_in, world_in}
use Rattle.replay_run.specs.Settings.{Change, ScriptFolder, Value}
use Rattle.replay_run.specs.Start.{world_of}

-- the nodes with the first so many numbers
abbrev pub first_nodes : ℕ → List NodeId
first_nodes count = map (λ number. record { 0 = number }) (range_with_len 0 count)

-- the same, but for its nodes
abbrev pub with_nodes : {C F V T : Type 0} → ShelfSeen C F V T → List NodeId → ShelfSeen C F V T
with_nodes s nodes = record s { store = record s.store { nodes = nodes } }

module _ {c : codec_trait.Ghosts PrefsCodec Value} {t : transform_trait.Ghosts Change Value} {f : folder_trait.Ghosts ScriptFolder} where
  -- nothing has happened yet, the folder is to fail by this plan, and only the nodes are missing
  pub record ShelfOpens (b : Basis) (script : Script) (plan : SessionPlan) (shelf : Shelf (PrefsParts ScriptFolder) PrefsCodec Change ScriptFolder Value c t f) : Type 0 where
    pub starts : world_in shelf ≡ world_of (tally_of (store_in shelf).folder.count plan) (store_in shelf)
    pub base : HasItsBase b.rules.reads b.rules.absent (store_in shelf)
    pub count : (store_in shelf).folder.count ≡ 0
    pub most : (store_in shelf).folder.most ≡ most_of 0 (due_of plan)
    pub nodes : (store_in shelf).nodes ≡ []
    pub store : IsStoreOf b script plan (record (store_in shelf) { nodes = nodes_of script })

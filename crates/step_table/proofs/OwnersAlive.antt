-- Whoever owns the lock has not died since it began: a turn adds no Death but one that is planned, and that frees what the node's calls own.
use Rattle.std.proofs.Common.{◌≡◌, ◌≢◌, ℕ, Bool, true, false, List, [], ◌∷◌, Option, Some, refl, ap, sym, ◌∙◌}
use Rattle.std.specs.List.{list_any}
use Rattle.std.proofs.lemmas.Bool.{or_parts}
use Rattle.store_traits.specs.declared.ids.CallId.{CallId}
use Rattle.store_traits.specs.declared.ids.NodeId.{NodeId}
use Rattle.hist_journal.specs.declared.device.Device.TheVariants.{Folder}
use Rattle.hist_journal.specs.declared.seen.EntrySeen.{EntrySeen}
use Rattle.hist_journal.specs.declared.seen.KindSeen.{KindSeen}
use Rattle.hist_journal.specs.declared.seen.KindSeen.TheVariants.{Death, Fault}
use Rattle.hist_journal.specs.Kinds.{is_change, is_death_of}
use Rattle.shelf.specs.declared.store.Store.{Store}
use Rattle.shelf.specs.Deaths.{has_died}
use Rattle.shelf.specs.Endings.{synced_kinds}
use Rattle.shelf.specs.Rules.{Rules}
use Rattle.shelf.specs.Entries.{with_entries}
use Rattle.shelf.specs.Meanwhile.{NoDeathOf}
use Rattle.shelf.proofs.Bools.{never, one_more}
use Rattle.shelf.proofs.DeathLemmas.{has_died-now}
use Rattle.step_table.specs.Calls.{At, Call, Changed, Ending, Kept, Reply, is_gone}
use Rattle.step_table.specs.Effects.{Effect, Faulted, FolderUse, Served, Unused, all_kinds, world_by}
use Rattle.step_table.specs.Laws.{OwnsAlive, WritesAChange}
use Rattle.step_table.specs.Rows.{Row, acknowledges, kept_edit, renames}
use Rattle.step_table.specs.Turn.{AllowedBy, Turn, dies_now, has_died_by}
use Rattle.step_table.specs.World.{Turned, World, begin}
use Rattle.step_table.specs.declared.progress.Progress.{Progress}
use Rattle.step_table.proofs.Applying.{all_added, dead_turn_changes_nothing, entries_of, turn_owner}
use Rattle.step_table.proofs.LockLemmas.{freed_node_apart}
use Rattle.step_table.proofs.GrowingDeaths.{still_lives}

module _ {V T : Type 0} (node : NodeId) where
  change_spares : (kind : KindSeen V T) → is_change kind ≡ true → is_death_of node kind ≡ false
  change_spares (Death died) is = never is
  change_spares other is = refl

  pub all_spare : (used : FolderUse) (count : ℕ) (kinds : List (KindSeen V T)) → list_any (is_death_of node) kinds ≡ false → list_any (is_death_of node) (all_kinds used count kinds) ≡ false
  all_spare Unused count kinds none = none
  all_spare (Served request) count kinds none = none
  all_spare (Faulted request) count kinds none = one_more (is_death_of node) kinds (Fault Folder count) none refl

module _ {V T : Type 0} (node : NodeId) where
  -- entries of these kinds are no Death of the node
  none_of : (call : CallId) (kinds : List (KindSeen V T)) → list_any (is_death_of node) kinds ≡ false → NoDeathOf node (entries_of call kinds)
  none_of call [] none = refl
  none_of call (kind ∷ kinds) none = let parts = or_parts (is_death_of node kind) (list_any (is_death_of node) kinds) none in rw parts.0 (none_of call kinds parts.1)

  stays_alive : (since : Option ℕ) (call : CallId) (kinds : List (KindSeen V T)) (list : List (EntrySeen V T)) → has_died node since list ≡ false → list_any (is_death_of node) kinds ≡ false
      → has_died node since (with_entries call kinds list) ≡ false
  stays_alive since call kinds list lives none = rw (all_added call kinds list) (still_lives node since list (entries_of call kinds) (none_of call kinds none) lives)

synced_spares : (V : Type 0) {T : Type 0} (node : NodeId) (ending : Ending T) → list_any (is_death_of {V = V} node) (synced_kinds (kept_edit ending)) ≡ false
synced_spares V node (Changed place) = refl
synced_spares V node (Kept edit) = refl

module _ {V T M : Type 0} (r : Rules V T) (s : Store V M) where
  pub row_spares : (w : World V T) (call : CallId) (node : NodeId) {at : At V T} {e : Effect V T} → Row r s w call at e → WritesAChange at → list_any (is_death_of node) e.kinds ≡ false
  row_spares w call node (renames {plan = plan}) changes = rw (change_spares node plan.change changes) refl
  row_spares w call node (acknowledges {ending = ending}) changes = synced_spares V node ending
  row_spares w call node other changes = refl

  -- no Death of whoever owns the lock behind the turn
  owner_spared : (gone died dies : Bool) (t : Turned V T) (e : Effect V T) → AllowedBy r s gone died dies t e → WritesAChange t.call.at → (owner : CallId) → (world_by t e).owner ≡ Some owner
      → list_any (is_death_of owner.node) e.kinds ≡ false
  owner_spared true died dies t e it changes owner owns = absurd it
  owner_spared false true dies t e it changes owner owns = rw it.is refl
  owner_spared false false true t e it changes owner owns = rw (it, freed_node_apart t.call.id.node owner t.world.owner (rw it at owns)) refl
  owner_spared false false false t e it changes owner owns = row_spares t.world t.call.id owner.node it changes

  module _ (t : Turned V T) (gave : Progress (Reply V)) (turn : Turn r s t gave) (changes : WritesAChange t.call.at) where
    owner_lives : (owner : CallId) (since : Option ℕ) → t.world_after.owner ≡ Some owner → has_died owner.node since t.world.history ≡ false → has_died owner.node since t.world_after.history ≡ false
    owner_lives owner since owns lives =
        let e : Effect V T = turn.effect in
        let now : (world_by (begin t) e).owner ≡ Some owner = sym (ap (λ (w : World V T). w.owner) turn.comes.world) ∙ owns in
        let spared = owner_spared (is_gone t.call.at) (has_died_by (begin t)) (dies_now (begin t)) (begin t) e turn.allowed changes owner now in
        let kinds = all_kinds e.folder t.world_after.tally.count e.kinds in
        let history = ap (λ (w : World V T). w.history) turn.comes.world in
        rw history (stays_alive owner.node since t.call.id kinds t.world.history lives (all_spare owner.node e.folder t.world_after.tally.count e.kinds spared))

    pub others_live : (other : Call V T) → other.id ≢ t.call.id → OwnsAlive t.world other → OwnsAlive t.world_after other
    others_live other unlike were owns = owner_lives other.id other.since owns (were (turn_owner r s t gave turn other.id owns unlike))

    own_lives : (died : Bool) → has_died_by (begin t) ≡ died → OwnsAlive t.world t.call → t.world_after.owner ≡ Some t.call.id
        → has_died t.call.id.node (begin t).call.since t.world_after.history ≡ false
    own_lives true died were owns =
        let same : t.world_after ≡ t.world = (dead_turn_changes_nothing r s t gave turn died).world in
        let lives = were (rw same at owns) in
        never (sym (has_died-now t.call.id.node t.call.since t.world.history ∙ lives) ∙ died)
    own_lives false lives were owns = owner_lives t.call.id (begin t).call.since owns lives

    pub owner_stays_alive : OwnsAlive t.world t.call → OwnsAlive t.world_after t.call_after
    owner_stays_alive were = rw turn.comes.call (λ owns. own_lives (has_died_by (begin t)) refl were owns)

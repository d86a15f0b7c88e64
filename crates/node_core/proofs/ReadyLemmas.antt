-- What a call has at its turn, from what it had after its last one.
use Rattle.std.proofs.Common.{◌≡◌, ◌∙◌, inl, inr, Bool, true, false, refl, sym, ap, arith}
use Rattle.std.proofs.lemmas.Bool.{or_parts}
use Rattle.store_traits.specs.declared.codec.Codec as codec_trait
use Rattle.store_traits.specs.declared.transform.Transform as transform_trait
use Rattle.folder_disk.specs.declared.folder.Folder as folder_trait
use Rattle.hist_journal.specs.Nodes.{is_dead}
use Rattle.shelf.specs.Deaths.{died_since, has_died}
use Rattle.shelf.specs.Legal.{value_at}
use Rattle.shelf.specs.Meanwhile.{NoDeathOf}
use Rattle.shelf.specs.ShelfSeen.{ShelfSeen}
use Rattle.shelf.specs.WritingSteps.{is_writing}
use Rattle.shelf.proofs.Bools.{never}
use Rattle.shelf.proofs.MeanwhileLemmas as meanwhile
use Rattle.shelf.proofs.DeathLemmas.{died_since-front}
use Rattle.step_table.specs.Calls.{At, Update, Read, First, Serve, ServeUnlocked, Reading, Creating, Writing, Restarting, Gone, step_at}
use Rattle.node_core.specs.declared.origin.Origin.{Origin}
use Rattle.node_core.specs.Between.{Undisturbed}
use Rattle.node_core.specs.Phases.{is_holding, is_raised}
use Rattle.node_core.specs.Ready.{Equipped, Ready, rules_seen}
use Rattle.node_core.specs.Step.{KeepsRoom, MayStep}
use Rattle.node_core.specs.Views.{call_seen, world_seen}
use Rattle.node_core.proofs.BetweenLemmas.{between_keeps_knowledge, owner_kept}

-- a step is a writing one whether or not the node is initialised
pub writes_either : {V T : Type 0} (ready : Bool) (at : At V T) → is_writing (step_at ready at) ≡ is_raised at
writes_either true (First (Update edit)) = refl
writes_either false (First (Update edit)) = refl
writes_either true (First Read) = refl
writes_either false (First Read) = refl
writes_either ready (Reading Serve (Update edit)) = refl
writes_either ready (Reading Serve Read) = refl
writes_either ready (Writing Creating plan) = refl
writes_either ready other = refl

module _ {C F V T : Type 0} (c : codec_trait.Ghosts C V) (t : transform_trait.Ghosts T V) (f : folder_trait.Ghosts F) where
  -- whoever holds nothing needs nothing
  pub free_equipped : (at : At V T) (s : ShelfSeen C F V T) → is_holding at ≡ false → Equipped c t f at s
  free_equipped (First ask) s free = record { entries = omega arith; room = tt; may = λ told. tt }
  free_equipped (Reading ServeUnlocked ask) s free = record { entries = omega arith; room = tt; may = λ told. tt }
  free_equipped (Restarting node) s free = record { entries = omega arith; room = tt; may = λ told. tt }
  free_equipped Gone s free = record { entries = omega arith; room = tt; may = λ told. tt }
  free_equipped other s free = never (sym free)

  -- its node has not died since it began, so it was ready after its last turn
  module _ (origin : Origin) (at : At V T) (now : ShelfSeen C F V T) (may : MayStep c t f origin at now) (alive : died_since origin.call.node origin.since now.list ≡ false) where
    ready_then : Ready c t f origin at may.last
    ready_then = may.ready (died_since-front origin.call.node origin.since may.last.list may.between.more (ap (died_since origin.call.node origin.since) (sym may.between.grew) ∙ alive))

    -- what others left to a call that owns the lock
    undisturbed : is_holding at ≡ true → NoDeathOf origin.call.node may.between.more × Undisturbed (world_seen f may.last) (world_seen f now) may.between.more
    undisturbed = owner_kept (rules_seen c t f may.last) may.last.store (call_seen origin at) (world_seen f may.last) (world_seen f now) ready_then.knows may.between alive

    kept_room : is_holding at ≡ true → KeepsRoom c t f may.last now
    kept_room holding = elim (may.kept holding) [ inl kept ↦ kept | inr died ↦ never (sym (undisturbed holding).0 ∙ died) ]

    equipped_now : (holding : Bool) → is_holding at ≡ holding → Equipped c t f at now
    equipped_now false free = free_equipped at now free
    equipped_now true holding =
        let equipped = ready_then.equipped in
        let room = kept_room holding in
        let value : value_at (rules_seen c t f may.last).meanings may.last.store now.list ≡ value_at (rules_seen c t f may.last).meanings may.last.store may.last.list =
        rw may.between.grew (meanwhile.value t.after may.last.store.base may.last.list may.between.more (undisturbed holding).1.outer) in
        record { entries = rw room.entries equipped.entries; room = rw room.folder equipped.room; may = λ told. rw (may.codec, may.store, value) (equipped.may told) }

    -- and it still is
    pub still_ready : Ready c t f origin at now
    still_ready =
        record {
          knows =
              rw (may.codec, may.store)
              (between_keeps_knowledge (rules_seen c t f may.last) may.last.store (call_seen origin at) (world_seen f may.last) (world_seen f now) ready_then.knows may.between alive);
          equipped = equipped_now (is_holding at) refl;
        }

  -- so it is ready for its turn
  pub ready_now : (origin : Origin) (at : At V T) (now : ShelfSeen C F V T) → MayStep c t f origin at now → has_died origin.call.node origin.since now.list ≡ false → Ready c t f origin at now
  ready_now origin at now may lives = still_ready origin at now may (or_parts (is_dead origin.call.node now.list) (died_since origin.call.node origin.since now.list) lives).1

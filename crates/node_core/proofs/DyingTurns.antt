-- The turn of a call that a death ends: its node has died before, or dies now.
use Rattle.std.proofs.Common.{◌≡◌, ◌∙◌, ◌⊎◌, inl, inr, ℕ, Bool, true, false, [], ◌∷◌, Option, Some, None, length, refl, sym, ap}
use Rattle.std.specs.List.{list_any}
use Rattle.std.proofs.Math.Seq.{drop-append_seam}
use Rattle.store_traits.specs.declared.codec.Codec as codec_trait
use Rattle.store_traits.specs.declared.ids.CallId.{CallId}
use Rattle.store_traits.specs.declared.step.Step.{Step}
use Rattle.store_traits.specs.declared.transform.Transform as transform_trait
use Rattle.store_traits.specs.declared.update_error.UpdateError.TheVariants.{Died}
use Rattle.folder_disk.specs.declared.folder.Folder as folder_trait
use Rattle.hist_journal.specs.declared.seen.KindSeen.TheVariants.{Death}
use Rattle.hist_journal.specs.Folds.{raises_of}
use Rattle.hist_journal.specs.Kinds.{is_node}
use Rattle.shelf.specs.Deaths.{died_since, has_died, strikes, used_up}
use Rattle.shelf.specs.Dying.{BeginRow, DiedBefore, DiesNow, Kills, step_now}
use Rattle.shelf.specs.ShelfSeen.{ShelfSeen}
use Rattle.shelf.specs.ShelfTurns.{May}
use Rattle.shelf.proofs.Bools.{never}
use Rattle.shelf.proofs.MeanwhileLemmas.{lives}
use Rattle.shelf.proofs.DeathLemmas.{has_died-now}
use Rattle.step_table.specs.Caching.{published_by}
use Rattle.step_table.specs.Calls.{At, Failed, Gone, Reading, Reply, Serve, Read, Writing, Renaming, is_gone, step_at}
use Rattle.step_table.specs.Effects.{Ceases, does}
use Rattle.step_table.specs.Turn.{dying, has_died_by}
use Rattle.step_table.specs.World.{Turned, World, begin, is_ready_now}
use Rattle.step_table.specs.declared.progress.Progress.{Progress}
use Rattle.step_table.specs.declared.progress.Progress.TheVariants.{Ended}
use Rattle.step_table.proofs.Applying.{raises_added}
use Rattle.node_core.specs.declared.origin.Origin.{Origin}
use Rattle.node_core.specs.Step.{KeepsRoom, MayStep, SparesLiving, StepsTo, TurnFrom}
use Rattle.node_core.specs.Views.{turned, world_seen}
use Rattle.node_core.proofs.DyingFits.{death_fits}
use Rattle.node_core.proofs.ReadyLemmas.{ready_now}
use Rattle.node_core.proofs.RoomLemmas.{same_spares}
use Rattle.node_core.proofs.TurnLemmas.{begun, step_is}

-- a call that a death ends publishes nothing
pub dead_publishes : {V T : Type 0} (at : At V T) (place : ℕ) (w : World V T) → published_by at (Ended (Failed (Died place))) w ≡ None
dead_publishes (Reading Serve Read) place w = refl
dead_publishes (Writing Renaming plan) place w = refl
dead_publishes other place w = refl

module _ {C F V T : Type 0} (call : CallId) (step : Step) (old new : ShelfSeen C F V T) where
  -- a death raises nothing
  kills_raises : Kills call step old new → raises_of new.list ≡ raises_of old.list
  kills_raises it = ap raises_of it.list ∙ raises_added call (Death call.node ∷ []) old.list

  pub dead_raises : (since : Option ℕ) (place : ℕ) → BeginRow call step since (Some place) old new → raises_of new.list ≡ raises_of old.list
  dead_raises since place row = elim row [ inl it ↦ ap (λ (s : ShelfSeen C F V T). raises_of s.list) it.same | inr it ↦ kills_raises it.kills ]

-- the node of a call that may step may die, where it has not
pub may_die : {C F V T : Type 0} (c : codec_trait.Ghosts C V) (t : transform_trait.Ghosts T V) (f : folder_trait.Ghosts F) (origin : Origin) (at : At V T) (old : ShelfSeen C F V T)
    → MayStep c t f origin at old → has_died origin.call.node origin.since old.list ≡ false → May t.after origin.call (Death origin.call.node ∷ []) old
may_die c t f origin at old may alive =
    let k = (ready_now c t f origin at old may alive).knows in (death_fits origin.call old.list _ _ at k.entries (lives origin.call.node origin.since old.list alive) k.numbers, tt)

module _ {C F V T : Type 0} (c : codec_trait.Ghosts C V) (t : transform_trait.Ghosts T V) (f : folder_trait.Ghosts F) (origin : Origin) (at : At V T) (old new : ShelfSeen C F V T) (running : is_gone at ≡ false) where
  -- the step that the shelf is told of
  abbrev step : Step
  step = step_at true at

  abbrev this : Turned V T
  this = turned f origin at old (begun origin (length old.list)) Gone new

  told : step_now origin.call step old ≡ step_at (is_ready_now this) at
  told = step_is (is_ready_now this) at

  -- the call ends so
  abbrev ended : ℕ → Progress (Reply V)
  ended place = Ended (Failed (Died place))

  abbrev StepsSo : ℕ → Type 0
  StepsSo place = StepsTo c t f origin at old (ended place) (begun origin (length old.list)) Gone new

  abbrev TurnsSo : ℕ → Type 0
  TurnsSo place = TurnFrom c t f origin at old (ended place) (begun origin (length old.list)) Gone new

  -- its node has died before, and nothing changes
  before_turn : (place : ℕ) → DiedBefore origin.call step origin.since place old new → TurnsSo place
  before_turn place it =
      let died : has_died_by (begin this) ≡ true = has_died-now origin.call.node origin.since old.list ∙ it.died in
      record {
        effect = does (Ceases place);
        allowed = rw (running, died) (record { place = place; last = it.last; is = refl });
        comes = record { given = refl; used = tt; world = ap (world_seen f) it.same; call = refl };
      }

  -- its node dies now
  now_turn : (place : ℕ) → DiesNow origin.call step origin.since place old new → TurnsSo place
  now_turn place it =
      let lives : has_died_by (begin this) ≡ false = has_died-now origin.call.node origin.since old.list ∙ it.lives in
      let planned : list_any (strikes origin.call (step_at (is_ready_now this) at)) old.deaths ≡ true = ap (λ now. list_any (strikes origin.call now) old.deaths) (sym told) ∙ it.planned in
      let left : new.deaths ≡ used_up origin.call (step_at (is_ready_now this) at) old.deaths = it.kills.deaths ∙ ap (λ now. used_up origin.call now old.deaths) told in
      record {
        effect = dying (begin this);
        allowed = rw (running, lives, planned) refl;
        comes = record { given = ap ended it.counted; used = tt; world = rw (it.kills.folder, kills_raises origin.call step old new it.kills, left, it.kills.owner, it.kills.list) refl; call = refl };
      }

  -- what is kept for another call that owns the lock stays, unless its node dies
  kills_spares : Kills origin.call step old new → SparesLiving c t f origin old new
  kills_spares it other owned unlike = by_node (is_node other.node origin.call.node) refl
    where
      by_node : (b : Bool) → is_node other.node origin.call.node ≡ b → KeepsRoom c t f old new ⊎ (died_since other.node (Some (length old.list)) new.list ≡ true)
      by_node true same = inr (rw (it.list, drop-append_seam old.list (record { who = origin.call; kind = Death origin.call.node } ∷ []), same) refl)
      by_node false apart = inl (record { entries = it.room ∙ rw (owned, apart) refl; folder = ap f.room it.folder })

  steps_by : (place : ℕ) → TurnsSo place → new.store ≡ old.store → new.codec ≡ old.codec → SparesLiving c t f origin old new → StepsSo place
  steps_by place turn store codec spares = record { turn = turn; call = refl; ready = λ running_on. never (sym running_on); store = store; codec = codec; waits = tt; spares = spares }

  -- so the step is the table's
  pub dead_steps : (place : ℕ) → BeginRow origin.call step origin.since (Some place) old new → StepsSo place
  dead_steps place row = elim row [
    | inl it ↦ steps_by place (before_turn place it) (ap (λ (s : ShelfSeen C F V T). s.store) it.same) (ap (λ (s : ShelfSeen C F V T). s.codec) it.same) (λ other owned unlike. inl (same_spares c t f origin it.same other owned unlike))
    | inr it ↦ steps_by place (now_turn place it) it.kills.store it.kills.codec (kills_spares it.kills)
  ]

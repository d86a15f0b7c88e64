-- The turn in which a call takes the lock, if it is free.
use Rattle.std.proofs.Common.{◌≡◌, ◌∙◌, ℕ, Bool, true, false, List, [], refl, ap, arith, subst, if◌then◌else◌}
use Rattle.std.proofs.Math.Logic.{∥∥₁_elim}
use Rattle.std.proofs.Math.Nat.{ℕ_set}
use Rattle.store_traits.specs.declared.codec.Codec as codec_trait
use Rattle.store_traits.specs.declared.ids.CallId.{CallId}
use Rattle.store_traits.specs.declared.transform.Transform as transform_trait
use Rattle.store_traits.specs.declared.update_error.UpdateError.{UpdateError}
use Rattle.store_traits.specs.declared.update_error.UpdateError.TheVariants as error
use Rattle.file_lock.specs.Owner.{IsAnother}
use Rattle.folder_disk.specs.declared.folder.Folder as folder_trait
use Rattle.hist_journal.specs.declared.seen.EntrySeen.{EntrySeen}
use Rattle.hist_journal.specs.Nodes.{is_ready}
use Rattle.shelf.specs.declared.answers.Want.{Want}
use Rattle.shelf.specs.declared.answers.Want.TheVariants as want
use Rattle.shelf.specs.declared.shelf.Shelf.{Shelf}
use Rattle.shelf.specs.DeathPlan.{DeathPlanSeen}
use Rattle.shelf.specs.Ledger.{LedgerSeen, ledger_seen}
use Rattle.shelf.specs.Takes.{HasNone, HasSpace, TakesLock, needs_lock}
use Rattle.shelf.specs.ShelfSeen.{ShelfSeen, shelf_seen}
use Rattle.shelf.specs.ShelfTurns.{Frees}
use Rattle.shelf.specs.Rules.{weight_at}
use Rattle.step_table.specs.declared.progress.Progress.TheVariants.{Moved, Blocked, Ended}
use Rattle.step_table.specs.Calls.{Ask, Failed, First, Gone, Initialise, Reading, Serve, ServeUnlocked, want_of}
use Rattle.step_table.specs.Effects.{Waits, does, errs}
use Rattle.step_table.specs.Rows.{MayTake, full, goes_without, lacks_room, takes, takes_first, waits}
use Rattle.node_core.specs.declared.origin.Origin.{Origin}
use Rattle.node_core.specs.Ready.{rules_seen}
use Rattle.node_core.specs.Steps.{Steps}
use Rattle.node_core.specs.Views.{world_seen}
use Rattle.node_core.proofs.RowLemmas.{Line, ends, goes_on}

module _ {V T : Type 0} where
  -- the call has to own the lock
  abbrev must_own : Ask T → CallId → List (EntrySeen V T) → Bool
  must_own ask call list = needs_lock (want_of ask) (is_ready call.node list)

-- only a read goes on without the lock
pub is_read : (wanted : Want) (ready : Bool) → needs_lock wanted ready ≡ false → wanted ≡ want.Read
is_read want.Update ready none = cc
is_read want.Read ready none = refl

module _ {P C T F V : Type 0} {c : codec_trait.Ghosts C V} {t : transform_trait.Ghosts T V} {f : folder_trait.Ghosts F} where
  -- the weight that a shelf keeps is that of its history
  weighs : (s : Shelf P C T F V c t f) → s.ledger.journal.weight ≡ weight_at (rules_seen c t f (shelf_seen s)) s.ledger.journal.list
  weighs s = ∥∥₁_elim s.kept (ℕ_set _ _) (λ kept. kept.weight_now)

  -- where the lock is free, and the history open if it must be
  may_take : (ask : Ask T) (call : CallId) (s : Shelf P C T F V c t f) → (IsAnother s.ledger.lock call → ⊥) → (must_own ask call s.ledger.journal.list ≡ true → HasSpace call (want_of ask) (ledger_seen s.ledger))
      → MayTake (rules_seen c t f (shelf_seen s)) (shelf_seen s).store (world_seen f (shelf_seen s)) call ask
  may_take ask call s free space = record { free = free; bounds = λ needs. let space = space needs in record { entries = space.entries; weight = rw (weighs s) at space.weight } }

  module _ (origin : Origin) (ask : Ask T) (old new : Shelf P C T F V c t f) (deaths : new.deaths ≡ old.deaths) (codec : new.codec ≡ old.codec) (folder : new.folder ≡ old.folder) (store : (shelf_seen new).store ≡ (shelf_seen old).store) where
    -- the lock is taken, with room for what the holding can add
    pub takes_lock : (ready : Bool) → TakesLock origin.call (want_of ask) ready (ledger_seen old.ledger) (ledger_seen new.ledger)
        → Steps c t f origin (First ask) (shelf_seen old) Moved (Reading (if ready then Serve else Initialise) ask) (shelf_seen new)
    takes_lock true it =
        goes_on c t f origin (First ask) (shelf_seen old) (shelf_seen new) (takes (may_take ask origin.call old it.free it.space) it.readiness)
        (record { list = it.after.list; owner = it.after.owner; room = it.after.room; deaths = ap (λ (plan : DeathPlanSeen). plan.left) deaths; codec = codec; store = store }) folder (record { entries = omega (arith, it.after.room); room = tt; may = λ told. tt })
    takes_lock false it =
        goes_on c t f origin (First ask) (shelf_seen old) (shelf_seen new) (takes_first (may_take ask origin.call old it.free it.space) it.readiness)
        (record { list = it.after.list; owner = it.after.owner; room = it.after.room; deaths = ap (λ (plan : DeathPlanSeen). plan.left) deaths; codec = codec; store = store }) folder (record { entries = omega (arith, it.after.room); room = tt; may = λ told. tt })

  module _ (old new : Shelf P C T F V c t f) (deaths : new.deaths ≡ old.deaths) (codec : new.codec ≡ old.codec) (folder : new.folder ≡ old.folder) (store : (shelf_seen new).store ≡ (shelf_seen old).store) where
    -- a ledger that stayed leaves the shelf as it was, where its folder did
    pub stays : ledger_seen new.ledger ≡ ledger_seen old.ledger → shelf_seen new ≡ shelf_seen old
    stays same = rw (store, ap (λ (plan : DeathPlanSeen). plan.left) deaths, codec, folder, ap (λ (l : LedgerSeen V T). l.list) same, ap (λ (l : LedgerSeen V T). l.owner) same, ap (λ (l : LedgerSeen V T). l.room) same) refl

  -- the lock is not taken, and the call, which may own it, ends
  module _ (origin : Origin) (ask : Ask T) (old : Shelf P C T F V c t f) (mid new : ShelfSeen C F V T) (same : mid ≡ shelf_seen old) (frees : Frees origin.call [] mid new) (folder : new.folder ≡ mid.folder) where
    refused : (why : UpdateError) → Line c t f origin (First ask) (shelf_seen old) (errs why) → Steps c t f origin (First ask) (shelf_seen old) (Ended (Failed why)) Gone new
    refused why line =
        ends c t f origin (First ask) (shelf_seen old) new line (subst (λ (s : ShelfSeen C F V T). Frees origin.call [] s new) same frees) (folder ∙ ap (λ (s : ShelfSeen C F V T). s.folder) same)

    pub is_full : (entries weight : ℕ) → (IsAnother old.ledger.lock origin.call → ⊥) → must_own ask origin.call old.ledger.journal.list ≡ true → HasNone origin.call (want_of ask) entries weight (ledger_seen old.ledger)
        → Steps c t f origin (First ask) (shelf_seen old) (Ended (Failed (error.HistoryFull entries weight))) Gone new
    is_full entries weight free needs none =
        refused (error.HistoryFull entries weight) (full free needs (record { entries_then = none.entries_now; weight_then = none.weight_now ∙ weighs old; bound = none.bound }))

    pub has_no_memory : (must_own ask origin.call old.ledger.journal.list ≡ true → (IsAnother old.ledger.lock origin.call → ⊥) × HasSpace origin.call (want_of ask) (ledger_seen old.ledger))
        → Steps c t f origin (First ask) (shelf_seen old) (Ended (Failed error.NoMemory)) Gone new
    has_no_memory could = refused error.NoMemory (lacks_room (λ needs. let could = could needs in may_take ask origin.call old could.0 (λ again. could.1)))

-- the lock is another's, and the shelf stays: the call goes on without it, or waits
module _ {C F V T : Type 0} (c : codec_trait.Ghosts C V) (t : transform_trait.Ghosts T V) (f : folder_trait.Ghosts F) (origin : Origin) (ask : Ask T) (old new : ShelfSeen C F V T) (another : IsAnother old.owner origin.call) (same : new ≡ old) where
  pub unlocked : must_own ask origin.call old.list ≡ false → Steps c t f origin (First ask) old Moved (Reading ServeUnlocked ask) new
  unlocked none =
      goes_on c t f origin (First ask) old new (goes_without another none) (record {
        list = ap (λ (s : ShelfSeen C F V T). s.list) same;
        owner = ap (λ (s : ShelfSeen C F V T). s.owner) same;
        room = refl;
        deaths = ap (λ (s : ShelfSeen C F V T). s.deaths) same;
        codec = ap (λ (s : ShelfSeen C F V T). s.codec) same;
        store = ap (λ (s : ShelfSeen C F V T). s.store) same;
      }) (ap (λ (s : ShelfSeen C F V T). s.folder) same) (record { entries = omega arith; room = tt; may = λ told. tt })

  pub blocks : must_own ask origin.call old.list ≡ true → Steps c t f origin (First ask) old Blocked (First ask) new
  blocks needs =
      record {
        row = record { effect = does Waits; row = waits another needs; comes = record { given = refl; used = tt; world = ap (world_seen f) same; call = refl } };
        equips = tt;
        store = ap (λ (s : ShelfSeen C F V T). s.store) same;
        codec = ap (λ (s : ShelfSeen C F V T). s.codec) same;
        waits = same;
      }

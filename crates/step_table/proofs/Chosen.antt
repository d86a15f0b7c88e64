-- The table as a function: the effect of a step, where memory lasts, given what world and call do not settle.
use Rattle.std.proofs.Common.{◌≡◌, ◌≢◌, ◌-◌, ◌^◌, ◌&&◌, ℕ, min, nat_lt, Bool, true, false, not, [], ◌∷◌, length, Option, Some, None, if◌then◌else◌}
use Rattle.store_traits.specs.declared.applied.Applied.{Applied}
use Rattle.store_traits.specs.declared.applied.Applied.TheVariants as applied
use Rattle.store_traits.specs.declared.ids.CallId.{CallId}
use Rattle.store_traits.specs.declared.ids.NodeId.{NodeId}
use Rattle.store_traits.specs.declared.update_error.UpdateError.TheVariants as error
use Rattle.hist_journal.specs.declared.seen.BaseSeen.{BaseSeen}
use Rattle.hist_journal.specs.declared.seen.BaseSeen.TheVariants.{Held, Corrupt, TooLong}
use Rattle.hist_journal.specs.declared.seen.KindSeen.TheVariants.{Raise, Edit, Inited, Restart}
use Rattle.hist_journal.specs.Folds.{edition_of}
use Rattle.hist_journal.specs.Kinds.{is_call}
use Rattle.hist_journal.specs.Nodes.{is_dead, is_ready}
use Rattle.scratch_rename.specs.Filling.{next_piece}
use Rattle.shelf.specs.declared.store.Limits.{Limits}
use Rattle.shelf.specs.Endings.{synced_kinds}
use Rattle.shelf.specs.Rules.{Rules, weight_at}
use Rattle.shelf.specs.Takes.{needs_lock}
use Rattle.step_table.specs.Calls.{Ask, Update, Read, At, First, Reading, Migrating, Finishing, Raising, Writing, SyncingFolder, Gone, Gave, Changed, Kept, Plan, Purpose, Initialise, Serve, ServeUnlocked, Stage, Creating, Appending, SyncingScratch, Renaming, Restarting, Restarted, NotDead, Updated, want_of}
use Rattle.step_table.specs.Effects.{Effect, FolderUse, Faulted, Ends, Goes, Takes, Frees, Waits, does, goes, errs, asking, adding, fails}
use Rattle.step_table.specs.Requests.{ReadMain, Create, Append, SyncScratch, Rename, SyncFolder}
use Rattle.step_table.specs.Rows.{filling, kept_edit, piece_written, request_of, told_place}
use Rattle.step_table.specs.World.{World, next_place}

-- what a turn meets: whether its call of the folder fails, what main reads as, and whether the edit makes the same value of it
pub record Luck (V : Type 0) : Type 0 where
  pub fails : Bool
  pub base : BaseSeen V
  pub same : Bool

abbrev pub is_other : Option CallId → CallId → Bool
is_other None call = false
is_other (Some owner) call = not (is_call owner call)

abbrev pub is_faulted : FolderUse → Bool
is_faulted (Faulted request) = true
is_faulted other = false

module _ {V : Type 0} where
  abbrev pub IsSame : Applied V → V → Bool → Type 0
  IsSame (applied.Refused code) value same = same ≡ false
  IsSame (applied.Changed new) value true = new ≡ value
  IsSame (applied.Changed new) value false = new ≢ value

  abbrev pub IsSameFor : {T : Type 0} → Rules V T → BaseSeen V → Purpose → Ask T → Bool → Type 0
  IsSameFor r (Held value) Serve (Update edit) same = IsSame (r.meanings.after edit value) value same
  IsSameFor r (Held value) Serve Read same = same ≡ false
  IsSameFor r (Held value) Initialise ask same = same ≡ false
  IsSameFor r (Held value) ServeUnlocked ask same = same ≡ false
  IsSameFor r Corrupt purpose ask same = same ≡ false
  IsSameFor r (TooLong len) purpose ask same = same ≡ false

-- of a store, the limits alone
module _ {V T : Type 0} (r : Rules V T) (limits : Limits) (w : World V T) (call : CallId) (luck : Luck V) where
  -- a step that asks the folder for something
  abbrev pub device : (well ill : Effect V T) → Effect V T
  device well ill = if luck.fails then ill else well

  abbrev pub is_open : Bool
  is_open = nat_lt (length w.history) limits.history.entries && nat_lt (weight_at r w.history) limits.history.weight

  abbrev pub has_to_lock : Ask T → Bool
  has_to_lock ask = needs_lock (want_of ask) (is_ready call.node w.history)

  abbrev pub enter : Ask T → Effect V T
  enter ask = if is_ready call.node w.history then does (Goes Takes (Reading Serve ask)) else does (Goes Takes (Reading Initialise ask))

  -- where the lock is free
  abbrev pub take : Ask T → Effect V T
  take ask = if has_to_lock ask then (if is_open then enter ask else errs (error.HistoryFull (length w.history) (weight_at r w.history))) else enter ask

  -- where another call owns it
  abbrev pub meet : Ask T → Effect V T
  meet ask = if has_to_lock ask then does Waits else goes (Reading ServeUnlocked ask)

  abbrev pub length_of : V → ℕ
  length_of value = min (length (r.encoded value)) (2 ^ 64 - 1)

  -- nothing of the plan is written yet
  abbrev pub unwritten : T → V → Plan V T
  unwritten edit new = record { change = Edit edit; value = new; text = record { written = []; rest = r.encoded new } }

  abbrev pub apply : T → V → Applied V → Effect V T
  apply edit value (applied.Refused code) = errs (error.Refused code (edition_of w.history))
  apply edit value (applied.Changed new) =
      if luck.same then goes (SyncingFolder (Kept edit))
      else if nat_lt limits.file (length_of new) then errs (error.ValueTooLong (length_of new))
      else goes (Raising (unwritten edit new))

  abbrev pub give : V → Effect V T
  give value = does (Ends (Gave (edition_of w.history) value))

  -- what becomes of main; no update is served without the lock
  abbrev pub use_base : BaseSeen V → Purpose → Ask T → Effect V T
  use_base (Held value) Initialise ask = goes (Migrating ask value)
  use_base (Held value) Serve (Update edit) = apply edit value (r.meanings.after edit value)
  use_base (Held value) Serve Read = give value
  use_base (Held value) ServeUnlocked Read = give value
  use_base (Held value) ServeUnlocked (Update edit) = does Waits
  use_base Corrupt purpose ask = errs error.Corrupt
  use_base (TooLong len) purpose ask = errs (error.FileTooLong len)

  abbrev pub write : Stage → Plan V T → Effect V T
  write Creating plan = asking Create (goes (filling plan))
  write Appending plan = asking (Append (next_piece plan.text)) (goes (filling (piece_written plan)))
  write SyncingScratch plan = asking SyncScratch (goes (Writing Renaming plan))
  write Renaming plan = asking Rename (adding (plan.change ∷ []) (goes (SyncingFolder (Changed (next_place w)))))

  abbrev pub restart : NodeId → Effect V T
  restart node = if is_dead node w.history then adding (Restart node ∷ []) (does (Ends (Restarted (next_place w)))) else does (Ends NotDead)

  abbrev pub chosen : At V T → Effect V T
  chosen (First ask) = if is_other w.owner call then meet ask else take ask
  chosen (Reading purpose ask) = device (asking ReadMain (use_base luck.base purpose ask)) (fails ReadMain (error.StorageFault (next_place w)))
  chosen (Migrating ask value) = goes (Finishing ask)
  chosen (Finishing ask) = adding (Inited call.node ∷ []) (does (Goes Frees (First ask)))
  chosen (Raising plan) = adding (Raise ∷ []) (goes (Writing Creating plan))
  chosen (Writing stage plan) = device (write stage plan) (fails (request_of stage plan) (error.StorageFault (next_place w)))
  chosen (SyncingFolder ending) =
      device (asking SyncFolder (adding (synced_kinds (kept_edit ending)) (does (Ends (Updated (edition_of w.history))))))
      (fails SyncFolder (error.NotDurable (told_place (next_place w) ending)))
  chosen (Restarting node) = restart node
  chosen Gone = does Waits

  -- what may be met there, where main reads so
  abbrev pub Meets : (Reads : BaseSeen V → Type 0) → At V T → Type 0
  Meets Reads (Reading purpose ask) = luck.fails ≡ false → Reads luck.base × IsSameFor r luck.base purpose ask luck.same
  Meets Reads other = Unit {0}

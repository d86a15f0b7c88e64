-- The step table: each line is an effect that a step allows.
use Rattle.std.specs.Prelude.{◌≡◌, ◌≢◌, ◌<◌, ◌≤◌, ℕ, Bool, true, false, [], ◌∷◌, length, Option, Some, None, IsTrue, if◌then◌else◌, ◌==◌}
use Rattle.store_traits.specs.declared.applied.Applied.TheVariants as applied
use Rattle.store_traits.specs.declared.ids.CallId.{CallId}
use Rattle.store_traits.specs.declared.ids.NodeId.{NodeId}
use Rattle.store_traits.specs.declared.update_error.UpdateError.TheVariants as error
use Rattle.file_lock.specs.Owner.{IsAnother}
use Rattle.hist_journal.specs.declared.seen.BaseSeen.{BaseSeen}
use Rattle.hist_journal.specs.declared.seen.BaseSeen.TheVariants.{Held, Corrupt, TooLong}
use Rattle.hist_journal.specs.declared.seen.KindSeen.TheVariants.{Raise, Edit, Inited, Restart}
use Rattle.hist_journal.specs.Folds.{edition_of}
use Rattle.hist_journal.specs.Nodes.{is_dead, is_ready}
use Rattle.scratch_rename.specs.Filling.{next_piece, filled_more}
use Rattle.shelf.specs.declared.store.Store.{Store}
use Rattle.shelf.specs.Base.{ReadsAs}
use Rattle.shelf.specs.Endings.{synced_kinds}
use Rattle.shelf.specs.PastBounds.{IsFull, IsPastLimit}
use Rattle.shelf.specs.Rules.{Rules, weight_at}
use Rattle.shelf.specs.Takes.{needs_lock}
use Rattle.step_table.specs.Calls.{Ask, Update, Read, At, First, Reading, Migrating, Finishing, Raising, Writing, SyncingFolder, Ending, Changed, Kept, Plan, Purpose, Initialise, Serve, ServeUnlocked, Stage, Creating, Appending, SyncingScratch, Renaming, Restarting, Updated, Gave, NotDead, Restarted, initialises, want_of}
use Rattle.step_table.specs.Effects.{Effect, Ends, Goes, Takes, Frees, Waits, does, goes, errs, asking, adding, fails}
use Rattle.step_table.specs.Requests.{Request, ReadMain, Create, Append, SyncScratch, Rename, SyncFolder}
use Rattle.step_table.specs.World.{World, next_place}

-- the transform that kept the value, which is told by a Same
abbrev pub kept_edit : {T : Type 0} → Ending T → Option T
kept_edit (Changed place) = None
kept_edit (Kept edit) = Some edit

-- the place of the value change, or of the Fault itself where there is none
abbrev pub told_place : {T : Type 0} → (fault : ℕ) → Ending T → ℕ
told_place fault (Changed place) = place
told_place fault (Kept edit) = fault

module _ {V T : Type 0} where
  abbrev pub piece_written : Plan V T → Plan V T
  piece_written plan = record plan { text = filled_more plan.text }

  -- U5 while bytes are left, then U6
  abbrev pub filling : Plan V T → At V T
  filling plan = Writing (if length plan.text.rest == 0 then SyncingScratch else Appending) plan

  -- what a write asks of the folder
  abbrev pub request_of : Stage → Plan V T → Request
  request_of Creating plan = Create
  request_of Appending plan = Append (next_piece plan.text)
  request_of SyncingScratch plan = SyncScratch
  request_of Renaming plan = Rename

module _ {V T M : Type 0} (r : Rules V T) (s : Store V M) (w : World V T) (call : CallId) where
  abbrev pub IsFree : Type 0
  IsFree = IsAnother w.owner call → ⊥

  -- neither the entries nor the weight have reached their bound
  pub record IsOpen : Type 0 where
    pub entries : length w.history < s.limits.history.entries
    pub weight : weight_at r w.history < s.limits.history.weight

  -- the call has to own the lock
  abbrev pub must_lock : Ask T → Bool
  must_lock ask = needs_lock (want_of ask) (is_ready call.node w.history)

  -- the lock is free; and the history open, which a read of a node that is initialised does not ask
  pub record MayTake (ask : Ask T) : Type 0 where
    pub free : IsFree
    pub bounds : must_lock ask ≡ true → IsOpen

  -- main reads so, where the folder tells what it holds
  abbrev pub MainReads : BaseSeen V → Type 0
  MainReads base = IsTrue w.told → ReadsAs r.reads r.absent s.limits.file w.folder.main base

  -- a plan of which nothing is written yet
  abbrev pub new_plan : T → V → Plan V T
  new_plan edit value = record { change = Edit edit; value = value; text = record { written = []; rest = r.encoded value } }

  -- the transform makes another value of the one that main reads as
  pub record Makes (edit : T) (new : V) : Type 0 where
    pub old : V
    pub read : MainReads (Held old)
    pub makes : r.meanings.after edit old ≡ applied.Changed new
    pub differs : new ≢ old

  pub data Row : At V T → Effect V T → Type 0 where
    -- I1, U1, V2: the lock is taken
    waits : {ask : Ask T} → IsAnother w.owner call → must_lock ask ≡ true → Row (First ask) (does Waits)
    full : {ask : Ask T} {entries weight : ℕ} → IsFree → must_lock ask ≡ true → IsFull r s entries weight w.history → Row (First ask) (errs (error.HistoryFull entries weight))
    lacks_room : {ask : Ask T} → (must_lock ask ≡ true → MayTake ask) → Row (First ask) (errs error.NoMemory)
    takes_first : {ask : Ask T} → MayTake ask → is_ready call.node w.history ≡ false → Row (First ask) (does (Goes Takes (Reading Initialise ask)))
    takes : {ask : Ask T} → MayTake ask → is_ready call.node w.history ≡ true → Row (First ask) (does (Goes Takes (Reading Serve ask)))
    -- V2, where another call owns the lock
    goes_without : {ask : Ask T} → IsAnother w.owner call → must_lock ask ≡ false → Row (First ask) (goes (Reading ServeUnlocked ask))
    -- I2, U2, V3: main is read
    read_fails : {purpose : Purpose} {ask : Ask T} → Row (Reading purpose ask) (fails ReadMain (error.StorageFault (next_place w)))
    read_lacks_memory : {purpose : Purpose} {ask : Ask T} → Row (Reading purpose ask) (errs error.NoMemory)
    lacks_memory : {purpose : Purpose} {ask : Ask T} → Row (Reading purpose ask) (asking ReadMain (errs error.NoMemory))
    too_long : {purpose : Purpose} {ask : Ask T} {len : ℕ} → MainReads (TooLong len) → Row (Reading purpose ask) (asking ReadMain (errs (error.FileTooLong len)))
    -- nothing takes the place of an unreadable file
    unreadable : {purpose : Purpose} {ask : Ask T} → MainReads Corrupt → s.handler ≡ None → Row (Reading purpose ask) (asking ReadMain (errs error.Corrupt))
    -- I2: the value goes to the migrations
    loads : {ask : Ask T} {value : V} → MainReads (Held value) → Row (Reading Initialise ask) (asking ReadMain (goes (Migrating ask value)))
    -- I3, without migrations
    migrates : {ask : Ask T} {value : V} → s.migrations ≡ [] → Row (Migrating ask value) (goes (Finishing ask))
    migrating_lacks_memory : {ask : Ask T} {value : V} → Row (Migrating ask value) (errs error.NoMemory)
    -- I6: the node is initialised, and the lock is free
    finishes : {ask : Ask T} → Row (Finishing ask) (adding (Inited call.node ∷ []) (does (Goes Frees (First ask))))
    -- U2: the edit is applied to the value
    refuses : {edit : T} {value : V} {code : ℕ} → MainReads (Held value) → r.meanings.after edit value ≡ applied.Refused code
        → Row (Reading Serve (Update edit)) (asking ReadMain (errs (error.Refused code (edition_of w.history))))
    keeps : {edit : T} {value : V} → MainReads (Held value) → r.meanings.after edit value ≡ applied.Changed value
        → Row (Reading Serve (Update edit)) (asking ReadMain (goes (SyncingFolder (Kept edit))))
    past_limit : {edit : T} {new : V} {len : ℕ} → Makes edit new → IsPastLimit r s new len
        → Row (Reading Serve (Update edit)) (asking ReadMain (errs (error.ValueTooLong len)))
    changes : {edit : T} {new : V} → Makes edit new → length (r.encoded new) ≤ s.limits.file
        → Row (Reading Serve (Update edit)) (asking ReadMain (goes (Raising (new_plan edit new))))
    -- V3: the value is given, with the lock or without
    gives : {purpose : Purpose} {value : V} → initialises purpose ≡ false → MainReads (Held value)
        → Row (Reading purpose Read) (asking ReadMain (does (Ends (Gave (edition_of w.history) value))))
    -- U3: the version word and the history are raised together
    raises : {plan : Plan V T} → Row (Raising plan) (adding (Raise ∷ []) (goes (Writing Creating plan)))
    -- U4 to U7: the change is written to the scratch file, synced and renamed over main
    creates : {plan : Plan V T} → Row (Writing Creating plan) (asking Create (goes (filling plan)))
    appends : {plan : Plan V T} → Row (Writing Appending plan) (asking (Append (next_piece plan.text)) (goes (filling (piece_written plan))))
    syncs_scratch : {plan : Plan V T} → Row (Writing SyncingScratch plan) (asking SyncScratch (goes (Writing Renaming plan)))
    renames : {plan : Plan V T} → Row (Writing Renaming plan) (asking Rename (adding (plan.change ∷ []) (goes (SyncingFolder (Changed (next_place w))))))
    write_fails : {stage : Stage} {plan : Plan V T} → Row (Writing stage plan) (fails (request_of stage plan) (error.StorageFault (next_place w)))
    -- U8: the folder is synced
    acknowledges : {ending : Ending T} → Row (SyncingFolder ending) (asking SyncFolder (adding (synced_kinds (kept_edit ending)) (does (Ends (Updated (edition_of w.history))))))
    sync_fails : {ending : Ending T} → Row (SyncingFolder ending) (fails SyncFolder (error.NotDurable (told_place (next_place w) ending)))
    -- R1: a dead node lives again, not initialised
    finds_alive : {node : NodeId} → is_dead node w.history ≡ false → Row (Restarting node) (does (Ends NotDead))
    lacks_room_to_restart : {node : NodeId} → is_dead node w.history ≡ true → Row (Restarting node) (errs error.NoMemory)
    restarts : {node : NodeId} → is_dead node w.history ≡ true → Row (Restarting node) (adding (Restart node ∷ []) (does (Ends (Restarted (next_place w)))))

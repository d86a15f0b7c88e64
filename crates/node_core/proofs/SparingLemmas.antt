-- What a turn does to other calls: it adds entries of its own call alone, and disturbs nothing of whoever owns the lock.
use Rattle.std.proofs.Common.{◌≡◌, ◌≢◌, ◌∙◌, ◌⊎◌, inl, inr, ◌==◌, Bool, true, false, ℕ, List, ◌++◌, IsTrue, Some, refl, sym, ap, arith}
use Rattle.std.specs.List.{list_any}
use Rattle.std.proofs.lemmas.Bool.{eq-eqb}
use Rattle.std.proofs.lemmas.Bool.Decides.{nat_tests}
use Rattle.store_traits.specs.declared.ids.CallId.{CallId}
use Rattle.file_lock.specs.Owner.{IsAnother}
use Rattle.folder_disk.specs.Contents.{Contents}
use Rattle.hist_journal.specs.declared.seen.EntrySeen.{EntrySeen}
use Rattle.hist_journal.specs.declared.seen.KindSeen.{KindSeen}
use Rattle.hist_journal.specs.Kinds.{is_call, is_node}
use Rattle.shelf.specs.declared.store.Store.{Store}
use Rattle.shelf.specs.CallOrder.{is_later}
use Rattle.shelf.specs.Entries.{is_any, is_own}
use Rattle.shelf.specs.Meanwhile.{are_outer}
use Rattle.shelf.specs.Rules.{Rules}
use Rattle.shelf.proofs.Bools.{never}
use Rattle.step_table.specs.Calls.{At, Call, Reply, is_gone}
use Rattle.step_table.specs.Effects.{Ceases, Comes, Effect, Ends, Faulted, FolderUse, Frees, Goes, Next, Served, Stays, Takes, Unused, Uses, Waits, all_kinds, left_by, owner_by}
use Rattle.step_table.specs.Requests.{ReadMain}
use Rattle.step_table.specs.Rows.{Row, waits, full, lacks_room, takes_first, takes, goes_without, read_fails, read_lacks_memory, lacks_memory, too_long, unreadable, gives, finds_alive, lacks_room_to_restart, restarts}
use Rattle.step_table.specs.Turn.{AllowedBy, Turn, dying, has_died_by, dies_now}
use Rattle.step_table.specs.World.{World, Turned, begin}
use Rattle.step_table.specs.declared.progress.Progress.{Progress}
use Rattle.step_table.proofs.Applying.{all_added, entries_of, none_passes, turn_adds}
use Rattle.step_table.proofs.LockLemmas.{another_keeps}
use Rattle.node_core.specs.Between.{Between, Died as HasDied, Undisturbed}
use Rattle.node_core.specs.Knows.{Knows}
use Rattle.node_core.specs.Phases.{is_holding}

-- calls of two clients are two
pub unlike : (other call : CallId) → (other.client.0 == call.client.0) ≡ false → other ≢ call
unlike other call apart same = never (sym apart ∙ eq-eqb other.client.0 call.client.0 (ap (λ (c : CallId). c.client.0) same))

not_call : (other call : CallId) → (other.client.0 == call.client.0) ≡ false → (is_call other call ≡ false) × (is_call call other ≡ false)
not_call other call apart = (grind (arith, nat_tests, apart), grind (arith, nat_tests, apart))

-- nothing is asked of the folder but main
abbrev is_reading : FolderUse → Bool
is_reading Unused = true
is_reading (Served ReadMain) = true
is_reading (Faulted ReadMain) = true
is_reading other = false

module _ {V T : Type 0} where
  -- entries of one call were added: no test sees them that sees no entry of that call
  pub record OwnMore (call : CallId) (list now : List (EntrySeen V T)) : Type 0 where
    pub more : List (EntrySeen V T)
    pub added : now ≡ list ++ more
    pub unseen : (p : EntrySeen V T → Bool) → ((kind : KindSeen V T) → p (record { who = call; kind = kind }) ≡ false) → list_any p more ≡ false

  -- the lock is neither taken nor freed by a call that goes on
  abbrev leaves_lock : Next V T → Bool
  leaves_lock (Goes Takes at) = false
  leaves_lock (Goes Frees at) = false
  leaves_lock other = true

  -- the entries that an effect adds, where the folder has this count of faults behind it
  abbrev told_by : CallId → ℕ → Effect V T → List (EntrySeen V T)
  told_by call count e = entries_of call (all_kinds e.folder count e.kinds)

  -- main is read at most, and nothing is told of but a Fault of that, or a Restart
  record IsBystander (call : CallId) (e : Effect V T) : Type 0 where
    reads : is_reading e.folder ≡ true
    lock : leaves_lock e.next ≡ true
    outer : (count : ℕ) → are_outer (told_by call count e) ≡ true
    lives : e.dies ≡ false

  -- what a call may do that owns nothing, while another owns the lock
  data Yields (t : Turned V T) : Effect V T → Type 0 where
    stands_by : {e : Effect V T} → IsBystander t.call.id e → Yields t e
    dies : Yields t (dying t)

module _ {V T M : Type 0} (r : Rules V T) (s : Store V M) where
  -- a turn adds entries of its own call alone
  pub turn_adds_own : (t : Turned V T) (gave : Progress (Reply V)) → Turn r s t gave → OwnMore t.call.id t.world.history t.world_after.history
  turn_adds_own t gave it =
      let own = turn_adds r s t gave it in
      record { more = entries_of t.call.id own.kinds; added = own.added ∙ all_added t.call.id own.kinds t.world.history; unseen = none_passes t.call.id own.kinds }

  row_yields : (t : Turned V T) {at : At V T} {e : Effect V T} → Row r s t.world t.call.id at e → is_holding at ≡ false → IsAnother t.world.owner t.call.id → Yields t e
  row_yields t (waits another must) free owned = stands_by (record { reads = refl; lock = refl; outer = λ count. refl; lives = refl })
  row_yields t (full is_free must bound) free owned = absurd (is_free owned)
  row_yields t (lacks_room may) free owned = stands_by (record { reads = refl; lock = refl; outer = λ count. refl; lives = refl })
  row_yields t (takes_first may unready) free owned = absurd (may.free owned)
  row_yields t (takes may ready) free owned = absurd (may.free owned)
  row_yields t (goes_without another need_not) free owned = stands_by (record { reads = refl; lock = refl; outer = λ count. refl; lives = refl })
  row_yields t read_fails free owned = stands_by (record { reads = refl; lock = refl; outer = λ count. refl; lives = refl })
  row_yields t read_lacks_memory free owned = stands_by (record { reads = refl; lock = refl; outer = λ count. refl; lives = refl })
  row_yields t lacks_memory free owned = stands_by (record { reads = refl; lock = refl; outer = λ count. refl; lives = refl })
  row_yields t (too_long read) free owned = stands_by (record { reads = refl; lock = refl; outer = λ count. refl; lives = refl })
  row_yields t (unreadable read unreplaced) free owned = stands_by (record { reads = refl; lock = refl; outer = λ count. refl; lives = refl })
  row_yields t (gives plain read) free owned = stands_by (record { reads = refl; lock = refl; outer = λ count. refl; lives = refl })
  row_yields t (finds_alive alive) free owned = stands_by (record { reads = refl; lock = refl; outer = λ count. refl; lives = refl })
  row_yields t (lacks_room_to_restart dead) free owned = stands_by (record { reads = refl; lock = refl; outer = λ count. refl; lives = refl })
  row_yields t (restarts dead) free owned = stands_by (record { reads = refl; lock = refl; outer = λ count. refl; lives = refl })
  row_yields t other free owned = never (sym free)

  yields_by : (gone died dies : Bool) (t : Turned V T) (e : Effect V T) → AllowedBy r s gone died dies t e → (died ≡ false → is_holding t.call.at ≡ false) → IsAnother t.world.owner t.call.id → Yields t e
  yields_by true is_dead strikes t e it free owned = absurd it
  yields_by false true strikes t e it free owned = rw it.is (stands_by (record { reads = refl; lock = refl; outer = λ count. refl; lives = refl }))
  yields_by false false true t e it free owned = rw it dies
  yields_by false false false t e it free owned = row_yields t it (free refl) owned

  -- where another call owns the lock, this one does not
  owns_nothing : (t : Turned V T) → Knows r s t.world t.call → (other : CallId) → t.world.owner ≡ Some other → other ≢ t.call.id → is_holding t.call.at ≡ false
  owns_nothing t knows other owned differs = by_own (is_holding t.call.at) refl where
    by_own : (holds : Bool) → is_holding t.call.at ≡ holds → holds ≡ false
    by_own true holds = absurd (differs (let same : Some other ≡ Some t.call.id = sym owned ∙ (knows.holds holds).owns in cc))
    by_own false free = refl

  module _ (other : Call V T) (t : Turned V T) (gave : Progress (Reply V)) (apart : (other.id.client.0 == t.call.id.client.0) ≡ false) where
    abbrev added_by : Effect V T → List (EntrySeen V T)
    added_by e = told_by t.call.id t.world_after.tally.count e

    -- where main is read at most, the scratch file stays, and nothing but a Fault is told of
    scratch_stays : (used : FolderUse) (e : Effect V T) → is_reading used ≡ true → Uses t e used → t.world_after.folder ≡ left_by used t.world.folder t.world_after.folder
        → IsTrue t.world.told → t.world_after.folder.scratch ≡ t.world.folder.scratch
    scratch_stays Unused e reads uses left told = ap (λ (c : Contents). c.scratch) left
    scratch_stays (Served ReadMain) e reads uses left told = ap (λ (c : Contents). c.scratch) (uses.folder told)
    scratch_stays (Faulted ReadMain) e reads uses left told = ap (λ (c : Contents). c.scratch) (uses.folder told)
    scratch_stays used e reads uses left told = never reads

    owner_stays : (next : Next V T) → leaves_lock next ≡ true → owner_by next t.call.id (Some other.id) ≡ Some other.id
    owner_stays Waits leaves = refl
    owner_stays (Goes Stays at) leaves = refl
    owner_stays (Ceases place) leaves = refl
    owner_stays (Ends reply) leaves = another_keeps (is_call t.call.id other.id) other.id (not_call other.id t.call.id apart).1
    owner_stays next leaves = never leaves

    undisturbed : (e : Effect V T) → IsBystander t.call.id e → Comes t e gave → t.world.owner ≡ Some other.id → Undisturbed t.world t.world_after (added_by e)
    undisturbed e by comes owns =
        record {
          owner = ap (λ (w : World V T). w.owner) comes.world ∙ rw (by.lives, owns) (owner_stays e.next by.lock);
          scratch = scratch_stays e.folder e by.reads comes.used (ap (λ (w : World V T). w.folder) comes.world);
          outer = by.outer t.world_after.tally.count;
        }

    -- what such an effect leaves of the lock's owner
    spared : (e : Effect V T) → Yields t e → Comes t e gave → t.world.owner ≡ Some other.id → Undisturbed t.world t.world_after (added_by e) ⊎ HasDied other (added_by e)
    spared e (stands_by by) comes owns = inl (undisturbed e by comes owns)
    spared e dies comes owns = by_node (is_node other.id.node t.call.id.node) refl
      where
        by_node : (b : Bool) → is_node other.id.node t.call.id.node ≡ b → Undisturbed t.world t.world_after (added_by (dying t)) ⊎ HasDied other (added_by (dying t))
        by_node true same = inr (rw same refl)
        by_node false different = inl (record {
          owner = ap (λ (w : World V T). w.owner) comes.world ∙ rw owns (another_keeps (is_node other.id.node t.call.id.node) other.id different);
          scratch = λ told. ap (λ (w : World V T). w.folder.scratch) comes.world;
          outer = refl;
        })

  -- a turn leaves a call of another client what it knows, also where the turn's own call is dead and knows nothing
  pub turn_spares : (t : Turned V T) (gave : Progress (Reply V)) → Turn r s t gave → (has_died_by (begin t) ≡ false → Knows r s t.world t.call) → (other : Call V T) → (other.id.client.0 == t.call.id.client.0) ≡ false → Knows r s t.world other
      → Between other t.world t.world_after
  turn_spares t gave it knows other apart knows_other =
      let e = it.effect in
      let kinds = all_kinds e.folder t.world_after.tally.count e.kinds in
      record {
        more = entries_of t.call.id kinds;
        grew = ap (λ (w : World V T). w.history) it.comes.world ∙ all_added t.call.id kinds t.world.history;
        others = none_passes t.call.id kinds (is_own is_any other.id) (λ kind. rw (not_call other.id t.call.id apart).0 refl);
        numbers = none_passes t.call.id kinds (is_later other.id) (λ kind. rw apart refl);
        told = ap (λ (w : World V T). w.told) it.comes.world;
        held = λ holds.
            let owns = (knows_other.holds holds).owns in
            let differs = unlike other.id t.call.id apart in
            spared other (begin t) gave apart e (yields_by (is_gone t.call.at) (has_died_by (begin t)) (dies_now (begin t)) (begin t) e it.allowed (λ lives. owns_nothing t (knows lives) other.id owns differs) (rw owns differs)) it.comes owns;
      }

-- What a turn publishes is of the history behind it, which is quiet: no raise is open there but that of the lock's owner.
use Rattle.std.proofs.Common.{◌≡◌, ◌∙◌, ◌↔◌, ◌&&◌, ℕ, Bool, true, false, IsTrue, List, [], ◌∷◌, ◌++◌, Option, Some, None, IfSome, refl, sym, ap, subst, if◌then◌else◌}
use Rattle.std.specs.List.{list_any}
use Rattle.std.proofs.lemmas.Bool.{or_parts, or_right}
use Rattle.store_traits.specs.declared.ids.CallId.{CallId}
use Rattle.file_lock.specs.Owner.{freed_node}
use Rattle.hist_journal.specs.declared.device.Device.TheVariants.{Folder}
use Rattle.hist_journal.specs.declared.seen.BaseSeen.TheVariants.{Held}
use Rattle.hist_journal.specs.declared.seen.EntrySeen.{EntrySeen}
use Rattle.hist_journal.specs.declared.seen.KindSeen.{KindSeen}
use Rattle.hist_journal.specs.declared.seen.KindSeen.TheVariants.{Death, Fault, Raise}
use Rattle.hist_journal.specs.Folds.{edition_of, raises_of}
use Rattle.hist_journal.specs.Kinds.{is_call, is_node, is_raise}
use Rattle.hist_journal.specs.Quiet.{pending}
use Rattle.hist_journal.proofs.FoldLemmas.{value_of-push}
use Rattle.hist_journal.proofs.QuietLemmas.{Quiet-ended}
use Rattle.shelf.specs.declared.store.Store.{Store}
use Rattle.shelf.specs.Endings.{synced_kinds}
use Rattle.shelf.specs.Entries.{with_entries}
use Rattle.shelf.specs.Ledger.{freed}
use Rattle.shelf.specs.Legal.{value_at}
use Rattle.shelf.specs.Rules.{Rules}
use Rattle.shelf.proofs.Bools.{never}
use Rattle.shelf.proofs.LedgerLemmas.{fault_ends, freed_other, quiet_ended, quiet_other, quiet_own}
use Rattle.shelf.proofs.SameCalls.{itself}
use Rattle.value_cache.specs.Cached.{Cached}
use Rattle.value_cache.specs.Truth.{IsValueOf}
use Rattle.step_table.specs.Caching.{published_by}
use Rattle.step_table.specs.Calls.{At, Changed, Ending, Gave, Kept, Plan, Read, Reading, Renaming, Reply, Serve, Writing, is_gone}
use Rattle.step_table.specs.Effects.{Comes, Effect, all_kinds, owner_by}
use Rattle.step_table.specs.Rows.{Row, kept_edit, waits, takes_first, takes, goes_without, loads, migrates, keeps, changes, raises, creates, appends, syncs_scratch, renames, write_fails, acknowledges}
use Rattle.step_table.specs.Turn.{AllowedBy, Turn, has_died_by, dies_now}
use Rattle.step_table.specs.World.{World, Turned, begin}
use Rattle.step_table.specs.declared.progress.Progress.{Progress}
use Rattle.step_table.specs.declared.progress.Progress.TheVariants.{Moved, Ended}
use Rattle.step_table.proofs.Applying.{version_counts}
use Rattle.step_table.proofs.LockLemmas.{another_keeps, none_not_some}
use Rattle.step_table.proofs.Publishing.{turn_gives}
use Rattle.node_core.specs.Knows.{Knows}
use Rattle.node_core.specs.Phases.{is_holding, is_raised}
use Rattle.node_core.specs.Plans.{PlanAt}
use Rattle.node_core.specs.Reading.{ReadsTruly}
use Rattle.node_core.proofs.MovingLemmas.{gave_lives, moved_lives, moved_row, moves}

-- no raise is open but that of the lock's owner
abbrev pub IsQuietBut : {V T : Type 0} → Option CallId → List (EntrySeen V T) → Type 0
IsQuietBut owner list = (c : CallId) → pending list ≡ Some c → owner ≡ Some c

-- where none is open, none is
none_open : (open_now : Option CallId) {was : Option CallId} → was ≡ open_now → ((c : CallId) → was ≡ Some c → ⊥) → was ≡ None
none_open None is none = is
none_open (Some c) is none = absurd (none c is)

module _ {V T : Type 0} where
  -- of these kinds none is a Raise
  abbrev has_no_raise : List (KindSeen V T) → Type 0
  has_no_raise kinds = list_any is_raise kinds ≡ false

  -- what is open behind entries of which none is a Raise was open before
  was_open : (call : CallId) (kinds : List (KindSeen V T)) (list : List (EntrySeen V T)) (c : CallId) → has_no_raise kinds → pending (with_entries call kinds list) ≡ Some c → pending list ≡ Some c
  was_open call [] list c none is = is
  was_open call (kind ∷ kinds) list c none is =
      let e : EntrySeen V T = record { who = call; kind = kind } in
      let parts = or_parts (is_raise kind) (list_any is_raise kinds) none in
      quiet_other list (list ++ e ∷ []) e refl (pending list) (λ call was. was) parts.0 c (was_open call kinds (list ++ e ∷ []) c parts.1 is)

  module _ (call : CallId) (owner : Option CallId) (list : List (EntrySeen V T)) (quiet : IsQuietBut owner list) (unraised : pending list ≡ Some call → ⊥) where
    -- so it stays where the call ends, whose raise is not open
    ended_quiet : (kinds : List (KindSeen V T)) → has_no_raise kinds → IsQuietBut (freed call owner) (with_entries call kinds list)
    ended_quiet kinds none c is =
        let was = was_open call kinds list c none is in
        let owns = quiet c was in
        freed_other call owner (λ own. unraised (was ∙ (sym owns ∙ own))) ∙ owns

    -- nor can it take the lock while another's raise is open
    taken_quiet : ((c : CallId) → owner ≡ Some c → (c ≡ call → ⊥) → ⊥) → IsQuietBut (Some call) list
    taken_quiet free c is = absurd (free c (quiet c is) (λ own. unraised (is ∙ ap Some own)))

  module _ (call : CallId) (owner : Option CallId) (list : List (EntrySeen V T)) (quiet : IsQuietBut owner list) where
    abbrev death : EntrySeen V T
    death = record { who = call; kind = Death call.node }

    -- where the node of the call dies, a raise of another node stays
    dying_quiet : IsQuietBut (freed_node call.node owner) (list ++ death ∷ [])
    dying_quiet c is = by_node (is_node c.node call.node) refl (quiet_other list (list ++ death ∷ []) death refl (pending list) (λ call was. was) refl c is)
      where
        by_node : (b : Bool) → is_node c.node call.node ≡ b → pending list ≡ Some c → freed_node call.node owner ≡ Some c
        by_node true same was = absurd (none_not_some c (sym (Quiet-ended list death c was (or_right (is_call c call && false) (is_node c.node call.node) same)) ∙ is))
        by_node false apart was = rw (quiet c was) (another_keeps (is_node c.node call.node) c apart)

module _ {V T M : Type 0} (r : Rules V T) (s : Store V M) where
  module _ (w : World V T) (call : CallId) (count : ℕ) (quiet : IsQuietBut w.owner w.history) where
    -- the lock and the history behind this effect
    abbrev IsQuietBehind : Effect V T → Type 0
    IsQuietBehind e = IsQuietBut (if e.dies then freed_node call.node w.owner else owner_by e.next call w.owner) (with_entries call (all_kinds e.folder count e.kinds) w.history)

    acknowledged_quiet : (ending : Ending T) → (pending w.history ≡ Some call → ⊥) → IsQuietBut (freed call w.owner) (with_entries call (synced_kinds (kept_edit ending)) w.history)
    acknowledged_quiet (Changed place) unraised = ended_quiet call w.owner w.history quiet unraised (synced_kinds None) refl
    acknowledged_quiet (Kept edit) unraised = ended_quiet call w.owner w.history quiet unraised (synced_kinds (Some edit)) refl

    row_quiet : {at : At V T} {e : Effect V T} → Row r s w call at e → PlanAt at → ((is_raised at ≡ true) ↔ (pending w.history ≡ Some call)) → (is_holding at ≡ true → w.owner ≡ Some call) → IsQuietBehind e
    row_quiet (waits another must) plan raised owns = quiet
    row_quiet (takes_first may unready) plan raised owns = taken_quiet call w.owner w.history quiet (λ is. never (raised.1 is)) (λ c own other. may.free (rw own other))
    row_quiet (takes may ready) plan raised owns = taken_quiet call w.owner w.history quiet (λ is. never (raised.1 is)) (λ c own other. may.free (rw own other))
    row_quiet (goes_without another need_not) plan raised owns = quiet
    row_quiet (loads read) plan raised owns = quiet
    row_quiet (migrates none) plan raised owns = quiet
    row_quiet (keeps read kept) plan raised owns = quiet
    row_quiet (changes makes fits) plan raised owns = quiet
    row_quiet raises plan raised owns = quiet_own w.history _ (record { who = call; kind = Raise }) refl w.owner quiet (owns refl)
    row_quiet creates plan raised owns = quiet
    row_quiet appends plan raised owns = quiet
    row_quiet syncs_scratch plan raised owns = quiet
    row_quiet (renames {plan = planned}) plan raised owns = quiet_other w.history _ (record { who = call; kind = planned.change }) refl w.owner quiet (ap is_raise plan.asked.is)
    row_quiet write_fails plan raised owns =
        λ c is.
        absurd (none_not_some c (quiet_ended w.history _ (record { who = call; kind = Fault Folder count }) refl w.owner quiet (owns refl) refl (fault_ends V T call count) c is))
    row_quiet (acknowledges {ending}) plan raised owns = acknowledged_quiet ending (λ is. never (raised.1 is))
    row_quiet {e = e} other plan raised owns = ended_quiet call w.owner w.history quiet (λ is. never (raised.1 is)) (all_kinds e.folder count e.kinds) refl

  module _ (t : Turned V T) (gave : Progress (Reply V)) (turn : Turn r s t gave) (knows : has_died_by (begin t) ≡ false → Knows r s t.world t.call) (quiet : IsQuietBut t.world.owner t.world.history) where
    quiet_by : (gone died dies : Bool) (e : Effect V T) → AllowedBy r s gone died dies (begin t) e → (died ≡ false → Knows r s t.world t.call) → Comes (begin t) e gave → IsQuietBut t.world_after.owner t.world_after.history
    quiet_by true died dies e it k comes = absurd it
    quiet_by false true dies e it k comes =
        let ceased = (rw it.is at comes) in
        rw (ap (λ (w : World V T). w.owner) ceased.world, ap (λ (w : World V T). w.history) ceased.world) quiet
    quiet_by false false true e it k comes =
        let dead = (rw it at comes) in
        rw (ap (λ (w : World V T). w.owner) dead.world, ap (λ (w : World V T). w.history) dead.world) (dying_quiet t.call.id t.world.owner t.world.history quiet)
    quiet_by false false false e it k comes =
        let k = k refl in
        rw (ap (λ (w : World V T). w.owner) comes.world, ap (λ (w : World V T). w.history) comes.world)
        (row_quiet t.world t.call.id t.world_after.tally.count quiet it k.plan k.raised (λ holding. (k.holds holding).owns))

    -- behind a turn no raise is open but that of the lock's owner: a dead call changes nothing
    pub turn_quiet : IsQuietBut t.world_after.owner t.world_after.history
    turn_quiet = quiet_by (is_gone t.call.at) (has_died_by (begin t)) (dies_now (begin t)) turn.effect turn.allowed knows turn.comes

  module _ (t : Turned V T) (knows : has_died_by (begin t) ≡ false → Knows r s t.world t.call) (reads : ReadsTruly r s t.world) (told : IsTrue t.world.told) (version : t.world.version ≡ raises_of t.world.history) (quiet : IsQuietBut t.world.owner t.world.history) where
    abbrev IsOfNow : Option (Cached V) → Type 0
    IsOfNow published = IfSome published (IsValueOf r.meanings.after s.base t.world_after.history)

    -- the call renames this plan, and its change is the next entry
    abbrev Renames : At V T → Type 0
    Renames (Writing Renaming plan) = t.world_after.history ≡ t.world.history ++ record { who = t.call.id; kind = plan.change } ∷ []
    Renames other = Unit {0}

    row_renames : {at : At V T} {e : Effect V T} → Row r s t.world t.call.id at e → moves e.next ≡ true → Comes (begin t) e Moved → Renames at
    row_renames renames is comes = ap (λ (w : World V T). w.history) comes.world
    row_renames write_fails is comes = never is
    row_renames other is comes = tt

    -- the value that is renamed over main is that of its change
    renamed_is : (plan : Plan V T) → t.call.at ≡ Writing Renaming plan → Turn r s t Moved → IsOfNow (published_by (Writing Renaming plan) Moved t.world_after)
    renamed_is plan is turn =
        let k = knows (moved_lives r s t turn) in
        let row = moved_row r s t turn in
        let grew : Renames (Writing Renaming plan) = subst Renames is (row_renames row.0 row.1 turn.comes) in
        let asked = (let plans = k.plan in (rw is at plans).asked) in
        let due = (let contents = k.contents told in (rw is at contents).due) in
        let e : EntrySeen V T = record { who = t.call.id; kind = plan.change } in
        rw asked.is
        (record {
          quiet = ap pending grew ∙ Quiet-ended t.world.history e t.call.id (k.raised.0 (rw is refl)) (rw (asked.is, itself t.call.id) refl);
          version = version_counts r s t Moved turn version;
          edition = refl;
          value = ap (value_at r.meanings s) grew ∙ (value_of-push r.meanings.after s.base t.world.history e ∙ due.makes);
        })

    -- what is read under the lock is the value of the history
    read_is : t.call.at ≡ Reading Serve Read → (edition : ℕ) (value : V) → Turn r s t (Ended (Gave edition value)) → IsOfNow (published_by (Reading Serve Read) (Ended (Gave edition value)) t.world_after)
    read_is is edition value turn =
        let k = knows (gave_lives r s t edition value turn) in
        let given = turn_gives r s edition value t turn in
        let owns = (k.holds (rw is refl)).owns in
        record {
          quiet = ap pending given.history ∙ none_open (pending t.world.history) refl (λ c open_now. let own = quiet c open_now in never (sym (ap is_raised is) ∙ k.raised.1 (open_now ∙ (sym own ∙ owns))));
          version = version_counts r s t (Ended (Gave edition value)) turn version;
          edition = given.edition ∙ ap edition_of (sym given.history);
          value = ap (value_at r.meanings s) given.history ∙ reads told (Held value) (given.main told);
        }

    published_is : (at : At V T) → t.call.at ≡ at → (gave : Progress (Reply V)) → Turn r s t gave → IsOfNow (published_by at gave t.world_after)
    published_is (Reading Serve Read) is (Ended (Gave edition value)) turn = read_is is edition value turn
    published_is (Writing Renaming plan) is Moved turn = renamed_is plan is turn
    published_is at is gave turn = tt

    -- what a turn publishes is of the history behind it, and a dead call publishes nothing
    pub turn_publishes : (gave : Progress (Reply V)) → Turn r s t gave → IsOfNow (published_by t.call.at gave t.world_after)
    turn_publishes gave turn = published_is t.call.at refl gave turn

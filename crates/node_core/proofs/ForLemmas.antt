-- A call is at work for what it was made for: its turns and those of others leave it so.
use Rattle.std.proofs.Common.{◌≡◌, ◌∙◌, ◌+◌, ◌==◌, ℕ, Bool, true, false, List, [], ◌∷◌, ◌++◌, length, refl, sym, ap, if◌then◌else◌}
use Rattle.store_traits.specs.declared.ids.CallId.{CallId}
use Rattle.hist_journal.specs.declared.seen.EntrySeen.{EntrySeen}
use Rattle.hist_journal.specs.declared.seen.KindSeen.TheVariants.{Edit}
use Rattle.shelf.specs.declared.store.Store.{Store}
use Rattle.shelf.specs.Entries.{with_entries}
use Rattle.shelf.specs.Meanwhile.{NoneOf}
use Rattle.shelf.specs.Rules.{Rules}
use Rattle.step_table.specs.Calls.{Ask, Update, Read, At, Call, Writing, Appending, SyncingScratch, SyncingFolder, Changed, Plan, Reply, is_gone}
use Rattle.step_table.specs.Effects.{Effect, all_kinds, at_by}
use Rattle.step_table.specs.Rows.{Row, filling, piece_written, waits, takes_first, takes, goes_without, loads, migrates, finishes, keeps, changes, raises, creates, appends, syncs_scratch, renames}
use Rattle.step_table.specs.Turn.{AllowedBy, Turn, has_died_by, dies_now}
use Rattle.step_table.specs.World.{World, Turned, begin}
use Rattle.step_table.specs.declared.progress.Progress.{Progress}
use Rattle.node_core.specs.declared.init_call.InitCall.TheVariants as init
use Rattle.node_core.specs.declared.read_call.ReadState.{ReadState}
use Rattle.node_core.specs.declared.read_call.ReadState.TheVariants.{Initialise, Gone}
use Rattle.node_core.specs.Knows.{Knows}
use Rattle.node_core.specs.Own.{IsEarly, IsFor, OwnEntries, WritesFor}
use Rattle.node_core.specs.Views.{read_seen}
use Rattle.node_core.proofs.BetweenLemmas.{has_changed-more}

module _ {T : Type 0} where
  -- what an update asks for is its edit
  pub asked_is : (asked edit : T) → Update asked ≡ Update edit → asked ≡ edit
  asked_is asked edit same = cc

  -- which no read asks for
  pub no_read : (asked : T) → Update asked ≡ Read → ⊥
  no_read asked same = cc

-- a read is at work for a read
pub read_is_for : {P C T F V : Type 0} (call : CallId) (state : ReadState P C T F V) (list : List (EntrySeen V T)) → IsFor call Read (read_seen state) list
read_is_for call (Initialise init.Read) list = refl
read_is_for call (Initialise (init.Migrate value)) list = refl
read_is_for call (Initialise init.Finish) list = refl
read_is_for call (Gone kept) list = tt
read_is_for call other list = refl

module _ {V T : Type 0} (call : CallId) where
  -- a plan of an edit is for whoever asked for that
  writes_asked : (ask : Ask T) (asked : T) (plan : Plan V T) → plan.change ≡ Edit asked → Update asked ≡ ask → WritesFor ask plan
  writes_asked (Update edit) asked plan writes so = rw writes (ap Edit (asked_is asked edit so))
  writes_asked Read asked plan writes so = no_read asked so

  writes_same : (ask : Ask T) (plan now : Plan V T) → now.change ≡ plan.change → WritesFor ask plan → WritesFor ask now
  writes_same (Update edit) plan now same so = same ∙ so
  writes_same Read plan now same so = so

  -- and so is its change
  renamed_is_for : (ask : Ask T) (plan : Plan V T) (list : List (EntrySeen V T)) → IsEarly call list → WritesFor ask plan
      → IsFor {V = V} call ask (SyncingFolder (Changed (length list + 1))) (list ++ record { who = call; kind = plan.change } ∷ [])
  renamed_is_for (Update edit) plan list early so =
      (record { before = list; edit = edit; behind = []; is = ap (λ kind. list ++ record { who = call; kind = kind } ∷ []) so; early = early; last = refl; counted = refl }, refl)
  renamed_is_for Read plan list early so = absurd so

  module _ (ask : Ask T) where
    filling_is_for : (plan : Plan V T) (list : List (EntrySeen V T)) → WritesFor ask plan → IsFor call ask (filling plan) list
    filling_is_for plan list so = by_rest (length plan.text.rest == 0) where
      by_rest : (b : Bool) → IsFor call ask (Writing (if b then SyncingScratch else Appending) plan) list
      by_rest true = so
      by_rest false = so

    -- a call is at work for what it was made for still once others add entries
    pub still_for : (at : At V T) (list more : List (EntrySeen V T)) → NoneOf call more → IsFor call ask at list → IsFor call ask at (list ++ more)
    still_for (SyncingFolder (Changed place)) list more others so = (has_changed-more call place list more others so.0, so.1)
    still_for other list more others so = so

module _ {V T M : Type 0} (r : Rules V T) (s : Store V M) (ask : Ask T) where
  module _ (w : World V T) (call : CallId) (count : ℕ) where
    row_is_for : {at : At V T} {e : Effect V T} → Row r s w call at e → OwnEntries call at w.history → IsFor call ask at w.history
        → IsFor call ask (at_by e.next at) (with_entries call (all_kinds e.folder count e.kinds) w.history)
    row_is_for (waits another must) entries so = so
    row_is_for (takes_first may unready) entries so = so
    row_is_for (takes may ready) entries so = so
    row_is_for (goes_without another need_not) entries so = so
    row_is_for (loads read) entries so = so
    row_is_for (migrates none) entries so = so
    row_is_for finishes entries so = so
    row_is_for (keeps read kept) entries so = sym so
    row_is_for (changes {edit = asked} made fits) entries so = writes_asked call ask asked _ refl so
    row_is_for raises entries so = so
    row_is_for (creates {plan}) entries so = filling_is_for call ask plan w.history so
    row_is_for (appends {plan}) entries so = filling_is_for call ask (piece_written plan) w.history (writes_same call ask plan (piece_written plan) refl so)
    row_is_for syncs_scratch entries so = so
    row_is_for (renames {plan}) entries so = renamed_is_for call ask plan w.history entries so
    row_is_for other entries so = tt

  for_by : (gone died dies : Bool) (t : Turned V T) (count : ℕ) (e : Effect V T) → AllowedBy r s gone died dies t e → OwnEntries t.call.id t.call.at t.world.history → IsFor t.call.id ask t.call.at t.world.history
      → IsFor t.call.id ask (at_by e.next t.call.at) (with_entries t.call.id (all_kinds e.folder count e.kinds) t.world.history)
  for_by true died dies t count e it entries so = absurd it
  for_by false true dies t count e it entries so = rw it.is tt
  for_by false false true t count e it entries so = rw it tt
  for_by false false false t count e it entries so = row_is_for t.world t.call.id count it entries so

  -- a turn leaves its call at work for what it was made for
  pub turn_is_for : (t : Turned V T) (gave : Progress (Reply V)) → Turn r s t gave → Knows r s t.world t.call → IsFor t.call.id ask t.call.at t.world.history → IsFor t.call.id ask t.call_after.at t.world_after.history
  turn_is_for t gave it k so =
      rw (ap (λ (c : Call V T). c.at) it.comes.call, ap (λ (w : World V T). w.history) it.comes.world)
      (for_by (is_gone t.call.at) (has_died_by (begin t)) (dies_now (begin t)) (begin t) t.world_after.tally.count it.effect it.allowed k.entries so)

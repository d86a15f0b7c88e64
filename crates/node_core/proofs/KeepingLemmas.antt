-- A turn that leaves its call going keeps what the call knows: one clause for each line of the table that goes on.
use Rattle.std.proofs.Common.{◌≡◌, ◌∙◌, true, false, [], ◌∷◌, ◌++◌, Option, Some, None, length, unwrap_or, refl, sym, ap}
use Rattle.store_traits.specs.declared.ids.CallId.{CallId}
use Rattle.folder_disk.specs.Contents.{Synced, Unsynced, scratch_bytes}
use Rattle.hist_journal.specs.declared.seen.BaseSeen.TheVariants.{Held}
use Rattle.hist_journal.specs.declared.seen.EntrySeen.{EntrySeen}
use Rattle.hist_journal.specs.declared.seen.KindSeen.TheVariants.{Inited, Raise}
use Rattle.hist_journal.specs.Kinds.{is_raise}
use Rattle.hist_journal.specs.Quiet.{ends, pending}
use Rattle.hist_journal.proofs.FoldLemmas.{value_of-other}
use Rattle.hist_journal.proofs.QuietLemmas.{pending-push}
use Rattle.scratch_rename.specs.Filling.{next_piece}
use Rattle.shelf.specs.declared.store.Store.{Store}
use Rattle.shelf.specs.Legal.{value_at}
use Rattle.shelf.specs.Rules.{Rules}
use Rattle.shelf.proofs.Bools.{never}
use Rattle.shelf.proofs.LedgerLemmas.{quiet_ended, quiet_other}
use Rattle.shelf.proofs.SameCalls.{itself}
use Rattle.step_table.specs.Calls.{At, Call, Initialise, Serve, ServeUnlocked, Gone, Reply, is_gone}
use Rattle.step_table.specs.Effects.{Comes, Effect, Next, Waits, at_by, gave_by}
use Rattle.step_table.specs.Rows.{Row, piece_written, takes_first, takes, goes_without, loads, migrates, finishes, keeps, changes, raises, creates, appends, syncs_scratch, renames}
use Rattle.step_table.specs.Turn.{Turn}
use Rattle.step_table.specs.World.{World, Turned, begin}
use Rattle.step_table.specs.declared.progress.Progress.{Progress}
use Rattle.step_table.specs.declared.progress.Progress.TheVariants.{Moved, Blocked, Ended}
use Rattle.step_table.proofs.Applying.{ended_is_gone}
use Rattle.step_table.proofs.Waiting.{turn_waits}
use Rattle.node_core.specs.Knows.{Knows}
use Rattle.node_core.specs.Reading.{ReadsTruly}
use Rattle.node_core.proofs.KeepingOn.{due_on, is_early-push, knows_begun, knows_behind, knows_on, standing}
use Rattle.node_core.proofs.KeepingReads.{Begun, due_new, knows_to_read}
use Rattle.node_core.proofs.KeepingWrites.{due_written, plan_fills, text_fills}
use Rattle.node_core.proofs.MovingLemmas.{moves, moved_row}

module _ {V T M : Type 0} (r : Rules V T) (s : Store V M) where
  row_keeps : (t : Turned V T) {at : At V T} {e : Effect V T} → Row r s t.world t.call.id at e → moves e.next ≡ true → Comes t e Moved
      → Knows r s t.world (standing at t.call) → ReadsTruly r s t.world → Begun r s t.call → Knows r s t.world_after t.call_after
  row_keeps t (takes_first may unready) is comes k reads begun = knows_to_read r s t Initialise (Some t.call.id) k begun (λ locked. (refl, unready)) comes.world comes.call
  row_keeps t (takes may ready) is comes k reads begun = knows_to_read r s t Serve (Some t.call.id) k begun (λ locked. (refl, ready)) comes.world comes.call
  row_keeps t (goes_without another need_not) is comes k reads begun = knows_to_read r s t ServeUnlocked t.world.owner k begun never comes.world comes.call
  row_keeps t (loads read) is comes k reads begun = knows_on r s t k refl comes.world comes.call k.entries tt refl refl (λ told. reads told _ (read told))
  row_keeps t (migrates {value = value} none) is comes k reads begun =
      knows_on r s t k refl comes.world comes.call k.entries tt refl refl (λ told. record { value = value; held = k.contents told })
  row_keeps t finishes is comes k reads begun =
      let e : EntrySeen V T = record { who = t.call.id; kind = Inited t.call.id.node } in
      let grew = ap (λ (w : World V T). w.history) comes.world in
      knows_behind r s t k refl e.kind comes.world comes.call (rw grew (is_early-push t.call.id t.world.history e.kind k.entries refl)) tt refl
      (never, λ raised. k.raised.1 (quiet_other t.world.history t.world_after.history e grew (pending t.world.history) (λ call is. is) refl t.call.id raised)) never (λ told. tt)
  row_keeps t (keeps {value = value} read same) is comes k reads begun =
      knows_on r s t k refl comes.world comes.call k.entries tt refl refl (λ told. record { old = value; held = reads told (Held value) (read told); makes = same })
  row_keeps t (changes {edit = edit} {new = new} makes fits) is comes k reads begun =
      knows_on r s t k refl comes.world comes.call k.entries (record { asked = record { edit = edit; is = refl }; nothing = refl }) refl refl
      (λ told. due_new r s t.world t.call.id edit (record {
        old = makes.old;
        new = new;
        held = reads told (Held makes.old) (makes.read told);
        makes = makes.makes;
        differs = makes.differs;
      }))
  row_keeps t (raises {plan = plan}) is comes k reads begun =
      let e : EntrySeen V T = record { who = t.call.id; kind = Raise } in
      let grew = ap (λ (w : World V T). w.history) comes.world in
      knows_behind r s t k refl Raise comes.world comes.call (rw grew (is_early-push t.call.id t.world.history Raise k.entries refl)) k.plan refl
      (λ raised. ap pending grew ∙ pending-push t.world.history e, λ raised. refl) (λ holding. (refl, refl, refl))
      (λ told. due_on r s t.world.history t.world_after.history plan
      (ap (value_at r.meanings s) grew ∙ value_of-other r.meanings.after s.base t.world.history e refl) (k.contents told))
  row_keeps t (creates {plan = plan}) is comes k reads begun =
      knows_on r s t k refl comes.world comes.call k.entries (plan_fills plan k.plan.asked) refl refl
      (λ told. text_fills r s plan t.world_after.folder t.world.history (record {
        due = k.contents told;
        scratch = (comes.used.folder told).scratch ∙ ap Unsynced (sym k.plan.nothing);
      }))
  row_keeps t (appends {plan = plan}) is comes k reads begun =
      knows_on r s t k refl comes.world comes.call k.entries (plan_fills (piece_written plan) (record { edit = k.plan.asked.edit; is = k.plan.asked.is })) refl refl
      (λ told. let known = k.contents told in text_fills r s (piece_written plan) t.world_after.folder t.world.history (record {
        due = due_written r s t.world.history plan known.due;
        scratch = (comes.used.folder told).scratch ∙ ap (λ old. Unsynced (scratch_bytes old ++ next_piece plan.text)) known.scratch;
      }))
  row_keeps t syncs_scratch is comes k reads begun =
      knows_on r s t k refl comes.world comes.call k.entries k.plan refl refl
      (λ told. let known = k.contents told in record { due = known.due; scratch = (comes.used.folder told).scratch ∙ ap (λ old. Synced (scratch_bytes old)) known.scratch })
  row_keeps t (renames {plan = plan}) is comes k reads begun =
      let e : EntrySeen V T = record { who = t.call.id; kind = plan.change } in
      let grew = ap (λ (w : World V T). w.history) comes.world in
      let asked = k.plan.asked in
      let is_edit = grew ∙ ap (λ kind. t.world.history ++ record { who = t.call.id; kind = kind } ∷ []) asked.is in
      let own_ends : ends t.call.id e ≡ true = rw (asked.is, itself t.call.id) refl in
      let ended = quiet_ended t.world.history t.world_after.history e grew (pending t.world.history) (λ call is. is) (k.raised.0 refl) (ap is_raise asked.is) own_ends t.call.id in
      knows_behind r s t k refl plan.change comes.world comes.call
      (record { before = t.world.history; edit = asked.edit; behind = []; is = is_edit; early = k.entries; last = refl; counted = refl }) tt (sym (ap is_raise asked.is))
      (never, λ raised. absurd (let no : ◌≡◌ {A = Option CallId} None (Some t.call.id) = ended raised in cc))
      (λ holding. (refl, rw asked.is refl, refl)) (λ told. tt)
  row_keeps t other is comes k reads begun = never is

  -- a turn that waits leaves the world as it was, and its call as it began
  still_at : (next : Next V T) (at : At V T) → Blocked ≡ gave_by next → at_by next at ≡ at
  still_at Waits at is = refl
  still_at other at is = cc

  pub turn_stays : (t : Turned V T) → Turn r s t Blocked → (t.world_after ≡ t.world) × (t.call_after ≡ (begin t).call)
  turn_stays t turn = ((turn_waits r s t turn).4, turn.comes.call ∙ ap (λ at. standing at (begin t).call) (still_at turn.effect.next t.call.at turn.comes.given))

  -- a call that is answered has ended
  pub answered_is_gone : (t : Turned V T) (reply : Reply V) → Turn r s t (Ended reply) → t.call_after ≡ standing Gone (begin t).call
  answered_is_gone t reply turn =
      turn.comes.call ∙ ap (λ (at : At V T). standing at (begin t).call) (sym (ap (λ (c : Call V T). c.at) turn.comes.call) ∙ ended_is_gone r s t reply turn)

  -- a turn that leaves its call going keeps what the call knows
  pub turn_keeps_knowledge : (t : Turned V T) (gave : Progress (Reply V)) → Turn r s t gave → Knows r s t.world t.call → ReadsTruly r s t.world
      → is_gone t.call_after.at ≡ false → Knows r s t.world_after t.call_after
  turn_keeps_knowledge t Moved turn k reads goes =
      let row = moved_row r s t turn in
      row_keeps (begin t) row.0 row.1 turn.comes (knows_begun r s t k) reads (unwrap_or t.call.since (length t.world.history), refl)
  turn_keeps_knowledge t Blocked turn k reads goes = let same = turn_stays t turn in rw (same.0, same.1) (knows_begun r s t k)
  turn_keeps_knowledge t (Ended reply) turn k reads goes = never (sym goes ∙ ap (λ (c : Call V T). is_gone c.at) (answered_is_gone t reply turn))

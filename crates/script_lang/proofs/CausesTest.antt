-- The sixth rule is tested: each error has its cause, and each edit in the history its call.
use Rattle.std.proofs.Common.{◌≡◌, ◌⊎◌, true, false, List, count_by, Option, Some, None}
use Rattle.std.specs.List.{list_any}
use Rattle.std.specs.Option.{MatchOption}
use Rattle.store_traits.specs.declared.ids.CallId.{CallId}
use Rattle.store_traits.specs.declared.ids.NodeId.{NodeId}
use Rattle.store_traits.specs.declared.read_error.ReadError.{ReadError}
use Rattle.store_traits.specs.declared.update_error.UpdateError.{UpdateError}
use Rattle.hist_journal.specs.Nodes.{is_dead}
use Rattle.prefs_edit.specs.declared.edit_step.EditStep.{EditStep}
use Rattle.prefs_text.specs.EntryText.{PrefEntry}
use Rattle.prefs_text.specs.declared.seen.AnswerLineSeen.{AnswerLineSeen}
use Rattle.prefs_text.specs.declared.seen.AnswerSeen.{AnswerSeen}
use Rattle.prefs_text.specs.declared.seen.AnswerSeen.TheVariants.{Died, Full, NotDead}
use Rattle.shelf.specs.Acknowledged.{Carries}
use Rattle.shelf.specs.Decided.{Decided}
use Rattle.shelf.specs.Entries.{is_update}
use Rattle.shelf.proofs.CauseTests.{dead, read_cause, update_cause}
use Rattle.shelf.proofs.ListTests.{each, found, split}
use Rattle.shelf.proofs.Tests.{at_most, both, either, if_so, if_some, like, no, none, one_call, sure, yes}
use Rattle.script_lang.specs.declared.plan.run_line.Act.{Act}
use Rattle.script_lang.specs.declared.plan.run_line.Act.TheVariants as act
use Rattle.script_lang.specs.AnswerForms.{read_error, update_error}
use Rattle.script_lang.specs.Chronicle.{Basis, Chapter}
use Rattle.script_lang.specs.GoodAnswers.{IsAsked}
use Rattle.script_lang.specs.GoodCauses.{HasActorCause, HasCauseBy, HasCauseOfRead, HasCauses, HasPostedCause, HasRestartCause, HasUpdateCause, IsAlive, IsCaused, IsFullThen, IsOwnEdit, is_earlier, is_posted_to, may_stand, shown_before}
use Rattle.script_lang.proofs.CallTests.{Carried, asked, carried, post_asked}
use Rattle.script_lang.proofs.EditTests.{one_map}
use Rattle.script_lang.proofs.UpdatesTest.{carries}

abbrev pub alive : (call : CallId) (node : NodeId) (list : List PrefEntry) → Decided (IsAlive call node list)
alive call node list =
    like
    (λ it. record { front = it.front; back = it.back; is = it.is; alive = it.holds.0; earlier = it.holds.1 })
    (λ it. record { front = it.front; back = it.back; is = it.is; holds = (it.alive, it.earlier) })
    (split
    (λ front back. (is_dead node front ≡ false) × (list_any (is_earlier call) back ≡ false))
    (λ front back. both (no (is_dead node front)) (no (list_any (is_earlier call) back)))
    list)

module _ (b : Basis) (c : Chapter) where
  module _ (before : List AnswerLineSeen) (line : AnswerLineSeen) where
    abbrev pub cause_of_update : (err : UpdateError) (edit : List EditStep) → Decided (HasUpdateCause b c before line err edit)
    cause_of_update err edit = update_cause one_map b.rules c.store (shown_before b c before line) line.call edit err c.told.entries

    abbrev pub cause_of_read : (err : ReadError) → Decided (HasCauseOfRead b c before line err)
    cause_of_read err = read_cause one_map b.rules c.store (shown_before b c before line) line.call err c.told.entries

    abbrev pub full_then : (answer : AnswerSeen) → Decided (IsFullThen b c line answer)
    full_then Full = at_most 16 (count_by (is_posted_to line.call.node) c.told.answers)
    full_then other = sure tt

    abbrev pub restart_cause : (node : NodeId) (answer : AnswerSeen) → Decided (HasRestartCause b c line.call node answer)
    restart_cause node NotDead = alive line.call node c.told.entries
    restart_cause node (Died at) = dead line.call at c.told.entries
    restart_cause node other = sure tt

    abbrev pub cause_by : (a : Act) → Decided (HasCauseBy b c before line a)
    cause_by (act.Update edit) = if_some (λ err. HasUpdateCause b c before line err edit) (λ err. cause_of_update err edit) (update_error line.answer)
    cause_by act.Read = if_some (HasCauseOfRead b c before line) cause_of_read (read_error line.answer)
    cause_by act.Flow = if_some (HasCauseOfRead b c before line) cause_of_read (read_error line.answer)
    cause_by (act.Post edit) = full_then line.answer
    cause_by (act.Restart node) = restart_cause node line.answer
    cause_by (act.Go steps) = sure tt

    abbrev pub without_edit : (err : Option ReadError) → Decided (MatchOption err ⊥ (HasCauseOfRead b c before line))
    without_edit None = none (λ it. it)
    without_edit (Some err) = cause_of_read err

    module _ (poster : CallId) where
      abbrev pub posted_cause : (err : UpdateError) → Decided (HasPostedCause b c before line poster err)
      posted_cause err =
          like
          (λ it. record { edit = it.edit; carried = it.asked; cause = it.fits })
          (λ it. record { edit = it.edit; asked = it.carried; fits = it.cause })
          (post_asked c poster (λ edit. HasUpdateCause b c before line err edit) (cause_of_update err))

      abbrev pub actor_cause : Decided (HasActorCause b c before line poster)
      actor_cause =
          if_some
          (λ err. HasPostedCause b c before line poster err ⊎ MatchOption (read_error line.answer) ⊥ (HasCauseOfRead b c before line))
          (λ err. either (posted_cause err) (without_edit (read_error line.answer)))
          (update_error line.answer)

    abbrev pub caused_by : (poster : Option CallId) → Decided (MatchOption poster (IsAsked c line.call (HasCauseBy b c before line)) (HasActorCause b c before line))
    caused_by None = asked c line.call (HasCauseBy b c before line) cause_by
    caused_by (Some poster) = actor_cause poster

  module _ (e : PrefEntry) where
    -- the answered call may have such an entry, and carries its edit
    abbrev pub IsIts : AnswerLineSeen → Type 0
    IsIts line = (line.call ≡ e.who) × ((may_stand line.answer ≡ true) × Carried c line.call line.poster (λ edit. Carries edit e.kind))

    abbrev pub own_edit : Decided (IsOwnEdit b c e)
    own_edit =
        like
        (λ it. let own = it.holds.1.1 in record { line = it.item; edit = own.edit; answered = it.among; own = it.holds.0; may = it.holds.1.0; asked = own.carried; carried = own.fits })
        (λ it. record { item = it.line; among = it.answered; holds = (it.own, (it.may, record { edit = it.edit; carried = it.asked; fits = it.carried })) })
        (found IsIts (λ line. both (one_call line.call e.who) (both (yes (may_stand line.answer)) (carried c line.call line.poster (λ edit. Carries edit e.kind) (λ edit. carries edit e.kind)))) c.told.answers)

  abbrev pub has_causes : Decided (HasCauses b c)
  has_causes =
      like
      (λ it. record { errors = it.0; edits = it.1 })
      (λ it. (it.errors, it.edits))
      (both
      (each (IsCaused b c) (λ before line. caused_by before line line.poster) c.told.answers)
      (each (λ before e. is_update e.kind ≡ true → IsOwnEdit b c e) (λ before e. if_so (yes (is_update e.kind)) (own_edit e)) c.told.entries))

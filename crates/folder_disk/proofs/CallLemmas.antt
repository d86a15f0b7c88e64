-- Calls of a folder that are made one after the other.
use Rattle.std.proofs.Common.{◌≡◌, ◌∙◌, Bool, true, false, cond, List, [], ◌∷◌, ◌++◌, refl, sym, ap}
use Rattle.folder_disk.specs.declared.call.FolderCall.{FolderCall}
use Rattle.folder_disk.specs.Calls.{Makes, any_fails, due_after}
use Rattle.folder_disk.specs.Due.{Due, fails, taken_in}
use Rattle.folder_disk.specs.Tally.{AsDue, Tally}

-- no call
pub makes_none : (due : Due) → Makes [] false due due
makes_none due = record { failed = refl; due = refl }

-- one call
whether : (b : Bool) → cond b true false ≡ b
whether true = refl
whether false = refl

either_way : (b : Bool) (due : Due) → cond b due due ≡ due
either_way true due = refl
either_way false due = refl

pub makes_one : (call : FolderCall) (has_failed : Bool) (old new : Tally) → AsDue call has_failed old new → Makes (call ∷ []) has_failed old.due new.due
makes_one call has_failed old new as_due = record {
  failed = as_due.failed ∙ sym (whether (fails call old.due));
  due = as_due.due ∙ sym (either_way (fails call old.due) (taken_in call old.due));
}

-- calls behind others that went well
fails_behind : (calls more : List FolderCall) (due : Due) → false ≡ any_fails calls due → any_fails (calls ++ more) due ≡ any_fails more (due_after calls due)
fails_behind [] more due sound = refl
fails_behind (call ∷ calls) more due sound =
    let next = taken_in call due in
    elim (fails call due) as (λ b. false ≡ cond b true (any_fails calls next) → cond b true (any_fails (calls ++ more) next) ≡ any_fails more (cond b next (due_after calls next))) [
      | true ↦ λ none. cc
      | false ↦ λ none. fails_behind calls more next none
    ] sound

due_behind : (calls more : List FolderCall) (due : Due) → false ≡ any_fails calls due → due_after (calls ++ more) due ≡ due_after more (due_after calls due)
due_behind [] more due sound = refl
due_behind (call ∷ calls) more due sound =
    let next = taken_in call due in
    elim (fails call due) as (λ b. false ≡ cond b true (any_fails calls next) → cond b next (due_after (calls ++ more) next) ≡ due_after more (cond b next (due_after calls next))) [
      | true ↦ λ none. cc
      | false ↦ λ none. due_behind calls more next none
    ] sound

pub makes_more : (calls more : List FolderCall) (has_failed : Bool) (old middle new : Due) → Makes calls false old middle → Makes more has_failed middle new
    → Makes (calls ++ more) has_failed old new
makes_more calls more has_failed old middle new first second = record {
  failed = second.failed ∙ ap (any_fails more) first.due ∙ sym (fails_behind calls more old first.failed);
  due = second.due ∙ ap (due_after more) first.due ∙ sym (due_behind calls more old first.failed);
}

-- calls that stopped at one that failed, whatever was to follow
fails_before : (calls more : List FolderCall) (due : Due) → true ≡ any_fails calls due → true ≡ any_fails (calls ++ more) due
fails_before [] more due fault = absurd cc
fails_before (call ∷ calls) more due fault =
    let next = taken_in call due in
    elim (fails call due) as (λ b. true ≡ cond b true (any_fails calls next) → true ≡ cond b true (any_fails (calls ++ more) next)) [
      | true ↦ λ here. refl
      | false ↦ λ later. fails_before calls more next later
    ] fault

due_before : (calls more : List FolderCall) (due : Due) → true ≡ any_fails calls due → due_after calls due ≡ due_after (calls ++ more) due
due_before [] more due fault = absurd cc
due_before (call ∷ calls) more due fault =
    let next = taken_in call due in
    elim (fails call due) as (λ b. true ≡ cond b true (any_fails calls next) → cond b next (due_after calls next) ≡ cond b next (due_after (calls ++ more) next)) [
      | true ↦ λ here. refl
      | false ↦ λ later. due_before calls more next later
    ] fault

pub makes_part : (calls more : List FolderCall) (old new : Due) → Makes calls true old new → Makes (calls ++ more) true old new
makes_part calls more old new made = record {
  failed = fails_before calls more old made.failed;
  due = made.due ∙ due_before calls more old made.failed;
}

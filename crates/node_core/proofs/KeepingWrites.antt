-- What a call knows as it writes its plan to the scratch file.
use Rattle.std.proofs.Common.{◌≡◌, ◌∙◌, ◌==◌, Bool, true, false, List, ◌++◌, length, take, drop, append_assoc, refl, ap, arith, if◌then◌else◌}
use Rattle.std.proofs.lemmas.Bool.Decides.{nat_tests}
use Rattle.std.proofs.lemmas.List.{nil_from_length, take-append-drop}
use Rattle.folder_disk.specs.Contents.{Contents}
use Rattle.hist_journal.specs.declared.seen.EntrySeen.{EntrySeen}
use Rattle.shelf.specs.declared.store.Store.{Store}
use Rattle.shelf.specs.Rules.{Rules}
use Rattle.step_table.specs.Calls.{Appending, SyncingScratch, Plan}
use Rattle.step_table.specs.Rows.{filling, piece_written}
use Rattle.node_core.specs.Knows.{IsDue, IsInScratch, KnowsContents, KnowsText}
use Rattle.node_core.specs.Plans.{HasEdit, PlanAt, PlanBy}

module _ {V T : Type 0} where
  -- what is in the scratch file is to be synced, or there is more to append
  pub plan_fills : (plan : Plan V T) → HasEdit plan → PlanAt (filling plan)
  plan_fills plan asked = by_rest (length plan.text.rest == 0) refl
    where
      by_rest : (b : Bool) → (length plan.text.rest == 0) ≡ b → PlanBy (if b then SyncingScratch else Appending) plan
      by_rest true nothing = record { asked = asked; nothing_left = nil_from_length plan.text.rest (grind (arith, nat_tests, nothing)) }
      by_rest false some = record { asked = asked; left = grind (arith, nat_tests, some) }

module _ {V T M : Type 0} (r : Rules V T) (s : Store V M) where
  pub text_fills : (plan : Plan V T) (folder : Contents) (list : List (EntrySeen V T)) → IsInScratch r s folder list plan → KnowsContents r s (filling plan) folder list
  text_fills plan folder list known = by_rest (length plan.text.rest == 0)
    where
      by_rest : (b : Bool) → KnowsText r s (if b then SyncingScratch else Appending) plan folder list
      by_rest true = known
      by_rest false = known

  -- a plan is due still once its next piece is written
  pub due_written : (list : List (EntrySeen V T)) (plan : Plan V T) → IsDue r s list plan → IsDue r s list (piece_written plan)
  due_written list plan d =
      record {
        allowed = d.allowed;
        makes = d.makes;
        text =
            append_assoc plan.text.written (take 4096 plan.text.rest) (drop 4096 plan.text.rest)
            ∙ (ap (λ rest. plan.text.written ++ rest) (take-append-drop 4096 plan.text.rest) ∙ d.text);
      }

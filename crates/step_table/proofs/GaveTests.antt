-- What the turns of the worked runs give, by a test.
use Rattle.std.proofs.Common.{◌≡◌, ℕ, ◌==◌, Bool, true, false, ◌&&◌, refl, ap}
use Rattle.std.proofs.lemmas.Bool.{and_parts, eqb-true}
use Rattle.store_traits.specs.declared.update_error.UpdateError.{UpdateError}
use Rattle.store_traits.specs.declared.update_error.UpdateError.TheVariants.{Died, HistoryFull, NotDurable, StorageFault}
use Rattle.shelf.proofs.Bools.{never}
use Rattle.step_table.specs.Calls.{Failed, Gave, Reply, Restarted, Updated}
use Rattle.step_table.specs.declared.progress.Progress.{Progress}
use Rattle.step_table.specs.declared.progress.Progress.TheVariants.{Moved, Blocked, Ended}

abbrev is_error : UpdateError → UpdateError → Bool
is_error (Died place) (Died other) = place == other
is_error (StorageFault place) (StorageFault other) = place == other
is_error (NotDurable place) (NotDurable other) = place == other
is_error (HistoryFull entries weight) (HistoryFull entries_too weight_too) = entries == entries_too && weight == weight_too
is_error error other = false

abbrev is_reply : Reply ℕ → Reply ℕ → Bool
is_reply (Updated edition) (Updated other) = edition == other
is_reply (Gave edition value) (Gave other new) = edition == other && value == new
is_reply (Failed error) (Failed other) = is_error error other
is_reply (Restarted place) (Restarted other) = place == other
is_reply reply other = false

abbrev pub is_gave : Progress (Reply ℕ) → Progress (Reply ℕ) → Bool
is_gave Moved Moved = true
is_gave Blocked Blocked = true
is_gave (Ended reply) (Ended other) = is_reply reply other
is_gave gave other = false

-- of two numbers
both_so : {A : Type 0} (make : ℕ → ℕ → A) (a b x y : ℕ) → (a == b && x == y) ≡ true → make a x ≡ make b y
both_so make a b x y is = let parts = and_parts (a == b) (x == y) is in rw (eqb-true a b parts.0, eqb-true x y parts.1) refl

error_so : (error other : UpdateError) → is_error error other ≡ true → error ≡ other
error_so (Died place) (Died other) is = ap Died (eqb-true place other is)
error_so (StorageFault place) (StorageFault other) is = ap StorageFault (eqb-true place other is)
error_so (NotDurable place) (NotDurable other) is = ap NotDurable (eqb-true place other is)
error_so (HistoryFull entries weight) (HistoryFull entries_too weight_too) is = both_so HistoryFull entries entries_too weight weight_too is
error_so error other is = never is

reply_so : (reply other : Reply ℕ) → is_reply reply other ≡ true → reply ≡ other
reply_so (Updated edition) (Updated other) is = ap Updated (eqb-true edition other is)
reply_so (Gave edition value) (Gave other new) is = both_so Gave edition other value new is
reply_so (Failed error) (Failed other) is = ap Failed (error_so error other is)
reply_so (Restarted place) (Restarted other) is = ap Restarted (eqb-true place other is)
reply_so reply other is = never is

pub gave_so : (gave other : Progress (Reply ℕ)) → is_gave gave other ≡ true → gave ≡ other
gave_so Moved Moved is = refl
gave_so Blocked Blocked is = refl
gave_so (Ended reply) (Ended other) is = ap Ended (reply_so reply other is)
gave_so gave other is = never is

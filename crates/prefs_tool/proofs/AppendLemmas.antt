-- The loop that appends a text piece by piece.
use Rattle.std.proofs.Common.{◌≡◌, ◌∙◌, ◌≤◌, ◌<◌, ◌+◌, ◌-◌, ◌/◌, ◌++◌, ◌∷◌, [], ℕ, suc, Bool, true, false, List, take, drop, length, replicate, sym, ap, subst, arith, append_assoc}
use Rattle.std.proofs.lemmas.List.{take-append-drop, length-take, length-drop}
use Rattle.folder_disk.specs.declared.call.FolderCall.{FolderCall}
use Rattle.folder_disk.specs.declared.call.FolderCall.TheVariants.{Append}
use Rattle.folder_disk.specs.Calls.{Makes}
use Rattle.folder_disk.specs.Contents.{Contents, Unsynced, ChangesScratch}
use Rattle.folder_disk.specs.Due.{Due}
use Rattle.folder_disk.specs.Room.{Room, Uses}
use Rattle.folder_disk.specs.Tally.{AsDue, Tally}
use Rattle.folder_disk.proofs.CallLemmas.{makes_more, makes_none, makes_one, makes_part}
use Rattle.scratch_rename.specs.Filling.{Filling, next_piece, filled_more}
use Rattle.prefs_tool.specs.Folder.{SparesMain, append_calls}
use Rattle.prefs_tool.proofs.FolderLemmas.{spares_both, spares_changed}

-- the scratch file has what the plan says is written
pub record Appending (plan : Filling) (old new : Contents) : Type 0 where
  pub spared : SparesMain old new
  pub scratch : new.scratch ≡ Unsynced plan.written

-- there is room for the rest, and for the rename that there was room for
pub record RoomForRest (plan : Filling) (old new : Room) : Type 0 where
  pub bytes : length plan.rest ≤ new.bytes
  pub renames : old.renames ≤ new.renames

-- whatever comes of the calls that are left comes of all
pub record AppendsOf (all left : ℕ) (old new : Due) : Type 0 where
  pub ends : (has_failed : Bool) (last : Due) → Makes (append_calls left) has_failed new last → Makes (append_calls all) has_failed old last

-- one piece more leaves the bytes of the plan as they are
pub same_bytes : (plan next : Filling) → next ≡ filled_more plan → next.written ++ next.rest ≡ plan.written ++ plan.rest
same_bytes plan next e =
    rw e (append_assoc plan.written (take 4096 plan.rest) (drop 4096 plan.rest) ∙ ap (λ bytes. plan.written ++ bytes) (take-append-drop 4096 plan.rest))

pub piece_le_rest : (plan : Filling) → length (next_piece plan) ≤ length plan.rest
piece_le_rest plan = omega (arith, length-take 4096 plan.rest)

-- and a rest that is shorter
pub less_rest : (plan next : Filling) → next ≡ filled_more plan → 0 < length plan.rest → length next.rest < length plan.rest
less_rest plan next e more = rw e (omega (arith, length-drop 4096 plan.rest))

-- and the room for it
pub room_less : (plan next : Filling) (first before now : Room) → next ≡ filled_more plan → RoomForRest plan first before → Uses 0 (length (next_piece plan)) 0 before now
    → RoomForRest next first now
room_less plan next first before now e room uses = rw e (record {
  bytes = omega (arith, room.bytes, uses.bytes_left, length-take 4096 plan.rest, length-drop 4096 plan.rest);
  renames = omega (arith, room.renames, uses.renames_left);
})

-- and the scratch file that the plan says
pub appended : (plan next : Filling) (first before now : Contents) → next ≡ filled_more plan → Appending plan first before
    → ChangesScratch (Unsynced (plan.written ++ next_piece plan)) before now → Appending next first now
appended plan next first before now e so_far changes = rw e (record {
  spared = spares_both first before now so_far.spared (spares_changed _ before now changes);
  scratch = changes.scratch;
})

-- ---- the calls

pub all_left : (count : ℕ) (due : Due) → AppendsOf count count due due
all_left count due = record { ends = λ has_failed last made. made }

pieces_left : (n : ℕ) → 0 < n → (n + 4095) / 4096 ≡ suc ((n - 4096 + 4095) / 4096)
pieces_left n more = omega arith

-- where there is a piece left, one call is made for it
one_of : (n : ℕ) → 0 < n → append_calls n ≡ Append ∷ append_calls (n - 4096)
one_of n more = ap (λ (count : ℕ). replicate count Append) (pieces_left n more)

left_after : (plan next : Filling) → next ≡ filled_more plan → length next.rest ≡ length plan.rest - 4096
left_after plan next e = rw e (length-drop 4096 plan.rest)

pub one_appended : (all : ℕ) (plan next : Filling) (first : Due) (before now : Tally) → next ≡ filled_more plan → 0 < length plan.rest
    → AppendsOf all (length plan.rest) first before.due → AsDue Append false before now → AppendsOf all (length next.rest) first now.due
one_appended all plan next first before now e more so_far as_due = record {
  ends = λ has_failed last made.
      let rest = append_calls (length plan.rest - 4096) in
      let later = subst (λ (n : ℕ). Makes (append_calls n) has_failed now.due last) (left_after plan next e) made in
      let both : Makes (Append ∷ rest) has_failed before.due last = makes_more (Append ∷ []) rest has_failed before.due now.due last (makes_one Append false before now as_due) later in
      so_far.ends has_failed last (subst (λ (calls : List FolderCall). Makes calls has_failed before.due last) (sym (one_of (length plan.rest) more)) both);
}

-- the call of a piece failed
pub append_failed : (all : ℕ) (plan : Filling) (first : Due) (before now : Tally) → 0 < length plan.rest
    → AppendsOf all (length plan.rest) first before.due → AsDue Append true before now → Makes (append_calls all) true first now.due
append_failed all plan first before now more so_far as_due =
    let rest = append_calls (length plan.rest - 4096) in
    let part : Makes (Append ∷ rest) true before.due now.due = makes_part (Append ∷ []) rest before.due now.due (makes_one Append true before now as_due) in
    so_far.ends true now.due (subst (λ (calls : List FolderCall). Makes calls true before.due now.due) (sym (one_of (length plan.rest) more)) part)

-- nothing is left
pub all_appended : (all left : ℕ) (first now : Due) → left ≡ 0 → AppendsOf all left first now → Makes (append_calls all) false first now
all_appended all left first now none so_far =
    so_far.ends false now (subst (λ (n : ℕ). Makes (append_calls n) false now now) (sym none) (makes_none now))

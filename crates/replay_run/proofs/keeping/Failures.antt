-- Failed calls of the folder stay within what the store says: where a session starts, and with each turn of a call.
use Rattle.std.proofs.Common.{◌≡◌, ◌∙◌, ◌≤◌, ◌<◌, ◌+◌, ◌-◌, ◌^◌, ◌==◌, ◌&&◌, min, ℕ, Bool, true, false, List, [], ◌∷◌, length, cond, count_by, All, Option, Some, None, IfSome, IsTrue, if◌then◌else◌, refl, sym, ap, subst, arith}
use Rattle.std.proofs.lemmas.Bool.{and_parts, eqb-true}
use Rattle.std.proofs.lemmas.List.{map-append}
use Rattle.std.proofs.lemmas.List.Elements.{All-head, All-tail, All-weaker}
use Rattle.std.proofs.lemmas.List.Sums.{sum_by-append}
use Rattle.std.proofs.lemmas.Option.{IfSome_then}
use Rattle.store_traits.specs.Faults.{one_more}
use Rattle.folder_disk.specs.declared.call.CallCounts.{CallCounts}
use Rattle.folder_disk.specs.declared.call.FolderCall.{FolderCall}
use Rattle.folder_disk.specs.declared.call.Planned.{Planned}
use Rattle.folder_disk.specs.Due.{burned, count_of, counted, in_order, is_blown, is_planned, kind_of}
use Rattle.folder_disk.specs.FuseFolder.{with_fuse}
use Rattle.folder_disk.specs.Planned.{left_to_strike, no_calls}
use Rattle.folder_disk.specs.Tally.{AsDue, Tally, most_of, most_with}
use Rattle.folder_disk.proofs.OrderLemmas.{All-in_order}
use Rattle.folder_disk.proofs.PlanLemmas.{left_at_most, left_when_passed, left_when_struck}
use Rattle.hist_journal.specs.declared.device.Device.TheVariants.{Folder}
use Rattle.hist_journal.specs.declared.seen.KindSeen.TheVariants.{Fault}
use Rattle.prefs_text.specs.EntryText.{PrefEntry, PrefKind}
use Rattle.shelf.specs.declared.store.Store.{Store}
use Rattle.shelf.proofs.Bools.{never}
use Rattle.step_table.specs.Effects.{Effect, FolderUse, Unused, Served, Faulted, Uses, all_kinds, left_by}
use Rattle.step_table.specs.Requests.{call_of}
use Rattle.step_table.specs.World.{Turned}
use Rattle.step_table.proofs.Applying.{entries_of}
use Rattle.script_lang.specs.Chronicle.{due_of, tally_of}
use Rattle.script_lang.specs.Keeps.{KeepsFault}
use Rattle.script_lang.specs.declared.plan.session_plan.SessionPlan.{SessionPlan}
use Rattle.replay_run.specs.Failing.{FailsWithin}
use Rattle.replay_run.specs.Settings.{Change, Value}
use Rattle.replay_run.proofs.keeping.Deaths.{is_folder_fault}
use Rattle.replay_run.proofs.keeping.OwnTurns.{kinds_of}

abbrev IsNumber : Planned → Type 0
IsNumber p = p.number < 2 ^ 64

-- the number of a call that is planned to fail is one that a folder counts
number_fits : (call : FolderCall) (made : CallCounts) (planned : List Planned) → is_planned call made planned ≡ true → All IsNumber planned → count_of made call + 1 < 2 ^ 64
number_fits call made [] struck all = never struck
number_fits call made (p ∷ planned) struck all =
    by_first ((kind_of p.call == kind_of call) && (p.number == count_of made call + 1)) refl (λ rest. number_fits call made planned rest (All-tail IsNumber p planned all))
  where
    by_first : (b : Bool) → ((kind_of p.call == kind_of call) && (p.number == count_of made call + 1)) ≡ b → (is_planned call made planned ≡ true → count_of made call + 1 < 2 ^ 64) → count_of made call + 1 < 2 ^ 64
    by_first true is later =
        let same = eqb-true p.number (count_of made call + 1) (and_parts (kind_of p.call == kind_of call) (p.number == count_of made call + 1) is).1 in
        let fits = All-head IsNumber p planned all in omega (arith, same, fits)
    by_first false is later = later (rw is at struck)

counted_fits : (call other : FolderCall) (made : CallCounts) → count_of made other ≤ 2 ^ 64 - 1 → count_of (counted call made) other ≤ 2 ^ 64 - 1
counted_fits call other made fits = grind arith

none_made : (call : FolderCall) → count_of no_calls call ≤ 2 ^ 64 - 1
none_made call = grind arith

-- a call that fails is one that was planned to, so that one less is left
left_after : (call : FolderCall) (has_failed : Bool) (made : CallCounts) (planned : List Planned) (count most : ℕ) → has_failed ≡ is_planned call made planned → All IsNumber planned → count_of made call ≤ 2 ^ 64 - 1
    → min (count + left_to_strike made planned) (2 ^ 64 - 1) ≤ most → min ((if has_failed then one_more count else count) + left_to_strike (counted call made) planned) (2 ^ 64 - 1) ≤ most
left_after call true made planned count most failed numbers fits was = let less = left_when_struck call made planned (sym failed) (number_fits call made planned (sym failed) numbers) in omega (arith, less, was)
left_after call false made planned count most failed numbers fits was = let less = left_when_passed call made planned fits in omega (arith, less, was)

-- a call takes no fuse away
same_most : (most : ℕ) (fuses : List ℕ) → most_with most (burned fuses) ≡ most_with most fuses
same_most most [] = refl
same_most most (left ∷ fuses) = by_left (left == 0)
  where
    by_left : (b : Bool) → most_with most (if b then left ∷ fuses else (left - 1) ∷ burned fuses) ≡ most_with most (left ∷ fuses)
    by_left true = refl
    by_left false = refl

module _ {M : Type 0} (s : Store Value M) where
  module _ (call : FolderCall) (has_failed : Bool) (old new : Tally) (as_due : AsDue call has_failed old new) (fits : new.count ≤ 2 ^ 64 - 1) (within : FailsWithin s old) where
    abbrev IsStruck : Tally → Type 0
    IsStruck tally = IfSome s.folder.most (λ most. min (tally.count + left_to_strike tally.due.made tally.due.planned) (2 ^ 64 - 1) ≤ most)

    -- behind a fuse any number may fail
    struck_by : (fuses : List ℕ) → old.due.fuses ≡ fuses → IsStruck new
    struck_by [] none =
        let due = as_due.due in
        let failed = as_due.failed in
        rw (as_due.count, due, none)
        (IfSome_then s.folder.most within.struck (λ most was. left_after call has_failed old.due.made old.due.planned old.count most (rw none at failed) within.numbers (within.made call) was))
    struck_by (left ∷ fuses) some =
        let due = within.due in
        let none : None ≡ s.folder.most = rw some at due in subst (λ most. IfSome most (λ most. min (new.count + left_to_strike new.due.made new.due.planned) (2 ^ 64 - 1) ≤ most)) none tt

    made_by : (blown : Bool) (other : FolderCall) → count_of (if blown then old.due.made else counted call old.due.made) other ≤ 2 ^ 64 - 1
    made_by true other = within.made other
    made_by false other = counted_fits call other old.due.made (within.made other)

    call_within : FailsWithin s new
    call_within =
        record {
          due = rw as_due.due (same_most (min (s.folder.count + length old.due.planned) (2 ^ 64 - 1)) old.due.fuses ∙ within.due);
          struck = struck_by old.due.fuses refl;
          numbers = rw as_due.due within.numbers;
          made = λ other. rw as_due.due (made_by (is_blown old.due.fuses) other);
          count = fits;
        }

  module _ (t : Turned Value Change) (e : Effect Value Change) (told : IsTrue t.world.told) (uses : Uses t e e.folder) (same : t.world_after.tally ≡ left_by e.folder t.world.tally t.world_after.tally) (within : FailsWithin s t.world.tally) where
    within_by : (used : FolderUse) → Uses t e used → t.world_after.tally ≡ left_by used t.world.tally t.world_after.tally → FailsWithin s t.world_after.tally
    within_by Unused it same = rw same within
    within_by (Served request) it same = call_within (call_of request) false t.world.tally t.world_after.tally (it.tally.due told) it.tally.fits within
    within_by (Faulted request) it same = call_within (call_of request) true t.world.tally t.world_after.tally (it.tally.due told) it.tally.fits within

    pub fails_within_after : FailsWithin s t.world_after.tally
    fails_within_after = within_by e.folder uses same

    module _ (none : count_by is_folder_fault (entries_of t.call.id e.kinds) ≡ 0) where
      abbrev IsCounted : FolderUse → Type 0
      IsCounted used = t.world_after.tally.count ≡ min (t.world.tally.count + count_by is_folder_fault (entries_of t.call.id (all_kinds used t.world_after.tally.count e.kinds))) (2 ^ 64 - 1)

      counted_by : (used : FolderUse) → Uses t e used → t.world_after.tally ≡ left_by used t.world.tally t.world_after.tally → IsCounted used
      counted_by Unused it same = let fits = within.count in ap (λ (x : Tally). x.count) same ∙ rw none omega (arith, fits)
      counted_by (Served request) it same = let fits = within.count in (it.tally.due told).count ∙ rw none omega (arith, fits)
      counted_by (Faulted request) it same =
          let entry : PrefKind → PrefEntry = λ kind. record { who = t.call.id; kind = kind } in
          let fault : PrefKind = Fault Folder t.world_after.tally.count in
          (it.tally.due told).count ∙ rw (map-append entry e.kinds (fault ∷ []), sum_by-append (λ (e : PrefEntry). cond (is_folder_fault e) 1 0) (entries_of t.call.id e.kinds) (entry fault ∷ []), none) refl

      -- the count rises with each Fault that the turn adds
      pub faults_counted : t.world_after.tally.count ≡ min (t.world.tally.count + count_by is_folder_fault (entries_of t.call.id (kinds_of t e))) (2 ^ 64 - 1)
      faults_counted = counted_by e.folder uses same

  -- what is planned of a session is within what its store says
  pub plan_fails_within : (plan : SessionPlan) → s.folder.count ≤ 2 ^ 64 - 1 → s.folder.most ≡ most_of s.folder.count (due_of plan) → All KeepsFault plan.folder_faults → FailsWithin s (tally_of s.folder.count plan)
  plan_fails_within plan fits most kept =
      record {
        due = sym most;
        struck = rw most (by_fuse plan.fuse);
        numbers = All-in_order IsNumber plan.folder_faults (All-weaker KeepsFault IsNumber (λ p kept. let few = kept.few in omega (arith, few)) plan.folder_faults kept);
        made = none_made;
        count = fits;
      }
    where
      by_fuse : (fuse : Option ℕ) → IfSome (most_with (min (s.folder.count + length (in_order plan.folder_faults)) (2 ^ 64 - 1)) (with_fuse fuse [])) (λ most. min (s.folder.count + left_to_strike no_calls (in_order plan.folder_faults)) (2 ^ 64 - 1) ≤ most)
      by_fuse None = let left = left_at_most no_calls (in_order plan.folder_faults) in omega (arith, left)
      by_fuse (Some left) = tt

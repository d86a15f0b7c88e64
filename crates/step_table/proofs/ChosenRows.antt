-- What the function chooses is a line of the table.
use Rattle.std.proofs.Common.{◌≡◌, ◌≢◌, ◌<◌, ◌≤◌, ◌⊎◌, inl, inr, ◌-◌, ◌^◌, ◌&&◌, ℕ, min, nat_lt, Bool, true, false, length, Option, Some, None, [], refl, sym, ap, ◌∙◌, arith, if◌then◌else◌}
use Rattle.std.proofs.lemmas.Bool.{and_parts}
use Rattle.std.proofs.lemmas.Bool.Decides.{nat_tests}
use Rattle.store_traits.specs.declared.applied.Applied.{Applied}
use Rattle.store_traits.specs.declared.applied.Applied.TheVariants as applied
use Rattle.store_traits.specs.declared.ids.CallId.{CallId}
use Rattle.file_lock.specs.Owner.{IsAnother}
use Rattle.hist_journal.specs.declared.seen.BaseSeen.{BaseSeen}
use Rattle.hist_journal.specs.declared.seen.BaseSeen.TheVariants.{Held, Corrupt, TooLong}
use Rattle.hist_journal.specs.Nodes.{is_dead, is_ready}
use Rattle.shelf.specs.declared.store.Store.{Store}
use Rattle.shelf.specs.Rules.{Rules, weight_at}
use Rattle.shelf.proofs.Bools.{never}
use Rattle.shelf.proofs.SameCalls.{itself}
use Rattle.step_table.specs.Calls.{Ask, Update, Read, At, First, Reading, Migrating, Finishing, Raising, Writing, SyncingFolder, Restarting, Gone, Plan, Purpose, Initialise, Serve, ServeUnlocked, Stage, Creating, Appending, SyncingScratch, Renaming}
use Rattle.step_table.specs.Effects.{Effect, asking}
use Rattle.step_table.specs.Requests.{ReadMain}
use Rattle.step_table.specs.Rows.{Row, IsFree, IsOpen, MayTake, Makes, waits, full, takes_first, takes, goes_without, gives, read_fails, too_long, unreadable, loads, migrates, finishes, refuses, keeps, past_limit, changes, raises, creates, appends, syncs_scratch, renames, write_fails, acknowledges, sync_fails, finds_alive, restarts}
use Rattle.step_table.specs.World.{World}
use Rattle.step_table.proofs.Chosen.{Luck, Meets, IsSame, IsSameFor, apply, chosen, enter, has_to_lock, is_open, is_other, length_of, meet, take, use_base, write}
use Rattle.step_table.proofs.Choosing.{Reads, other_is}

-- what tests say
pub less_than : {a b : ℕ} → nat_lt a b ≡ true → a < b
less_than {a} {b} is = grind (arith, nat_tests, is)

at_most : {a b : ℕ} → nat_lt a b ≡ false → b ≤ a
at_most {a} {b} is = grind (arith, nat_tests, is)

full_by : (entries most weight heaviest : ℕ) (below : Bool) → nat_lt entries most ≡ below → (below && nat_lt weight heaviest) ≡ false
    → (most ≤ entries) ⊎ (heaviest ≤ weight)
full_by entries most weight heaviest true is closed = inr (at_most closed)
full_by entries most weight heaviest false is closed = inl (at_most is)

-- another call owns the lock, or none does
another_by : (owner : Option CallId) (call : CallId) → is_other owner call ≡ true → IsAnother owner call
another_by None call is = never is
another_by (Some owner) call is = λ equal. never (rw (equal, itself call) at is)

free_by : (owner : Option CallId) (call : CallId) → is_other owner call ≡ false → IsAnother owner call → ⊥
free_by owner call is another = never (sym is ∙ other_is owner call another)

module _ {V T : Type 0} where
  -- the step has a line whatever is met; no update comes to be served without the lock
  abbrev pub is_served : At V T → Bool
  is_served (Reading ServeUnlocked (Update edit)) = false
  is_served Gone = false
  is_served other = true

  -- what holds of either choice holds of the one that is made
  pub split : (P : Effect V T → Type 0) (b : Bool) (x y : Effect V T) → (b ≡ true → P x) → (b ≡ false → P y) → P (if b then x else y)
  split P true x y so unlike = so refl
  split P false x y so unlike = unlike refl

module _ {V T M : Type 0} (r : Rules V T) (s : Store V M) (w : World V T) (call : CallId) (luck : Luck V) where
  abbrev Is : At V T → Effect V T → Type 0
  Is at e = Row r s w call at e

  abbrev IsRead : Purpose → Ask T → Effect V T → Type 0
  IsRead purpose ask e = Row r s w call (Reading purpose ask) (asking ReadMain e)

  -- the lines of each step
  opens : is_open r s.limits w call luck ≡ true → IsOpen r s w call
  opens is =
      let parts = and_parts (nat_lt (length w.history) s.limits.history.entries) (nat_lt (weight_at r w.history) s.limits.history.weight) is in
      record { entries = less_than parts.0; weight = less_than parts.1 }

  enters : (ask : Ask T) → MayTake r s w call ask → Is (First ask) (enter r s.limits w call luck ask)
  enters ask may = split (Is (First ask)) (is_ready call.node w.history) _ _ (λ ready. takes may ready) (λ unready. takes_first may unready)

  taken : (ask : Ask T) → IsFree r s w call → Is (First ask) (take r s.limits w call luck ask)
  taken ask free =
      split (Is (First ask)) (has_to_lock r s.limits w call luck ask) _ _
      (λ must. split (Is (First ask)) (is_open r s.limits w call luck) _ _
      (λ is. enters ask (record { free = free; bounds = λ locks. opens is }))
      (λ closed. full free must (record { entries_then = refl; weight_then = refl; bound = full_by (length w.history) s.limits.history.entries (weight_at r w.history) s.limits.history.weight _ refl closed })))
      (λ need_not. enters ask (record { free = free; bounds = λ locks. never (sym need_not ∙ locks) }))

  met : (ask : Ask T) → IsAnother w.owner call → Is (First ask) (meet r s.limits w call luck ask)
  met ask another = split (Is (First ask)) (has_to_lock r s.limits w call luck ask) _ _ (λ must. waits another must) (λ need_not. goes_without another need_not)

  writes : (stage : Stage) (plan : Plan V T) → Is (Writing stage plan) (write r s.limits w call luck stage plan)
  writes Creating plan = creates
  writes Appending plan = appends
  writes SyncingScratch plan = syncs_scratch
  writes Renaming plan = renames

  -- a text that passes no limit has its own length
  module _ (low : s.limits.file < 2 ^ 64 - 1) where
    own_length : (length limit : ℕ) → limit < 2 ^ 64 - 1 → min length (2 ^ 64 - 1) ≤ limit → length ≤ limit
    own_length length limit below most = omega (arith, below, most)

    applies : (edit : T) (value : V) (made : Applied V) → Reads r s.limits w call (Held value) → r.meanings.after edit value ≡ made → IsSame made value luck.same
        → IsRead Serve (Update edit) (apply r s.limits w call luck edit value made)
    applies edit value (applied.Refused code) reads makes same = refuses reads makes
    applies edit value (applied.Changed new) reads makes same =
        split (IsRead Serve (Update edit)) luck.same _ _
        (λ is. let equal : new ≡ value = rw is at same in keeps reads (makes ∙ ap applied.Changed equal))
        (λ is. (let differs : new ≢ value = rw is at same in
        let to : Makes r s w call edit new = record { old = value; read = reads; makes = makes; differs = differs } in
        split (IsRead Serve (Update edit)) (nat_lt s.limits.file (length_of r s.limits w call luck new)) _ _
        (λ past. past_limit to (record { is = refl; past = less_than past })) (λ fits. changes to (own_length (length (r.encoded new)) s.limits.file low (at_most fits)))))

    module _ (none : s.migrations ≡ []) (handled : luck.base ≡ Corrupt → s.handler ≡ None) where
      base_reads : (base : BaseSeen V) (purpose : Purpose) (ask : Ask T) → luck.base ≡ base → is_served {V = V} (Reading purpose ask) ≡ true
          → Reads r s.limits w call base → IsSameFor r base purpose ask luck.same
          → IsRead purpose ask (use_base r s.limits w call luck base purpose ask)
      base_reads (Held value) Initialise ask is served reads same = loads reads
      base_reads (Held value) Serve (Update edit) is served reads same = applies edit value (r.meanings.after edit value) reads refl same
      base_reads (Held value) Serve Read is served reads same = gives refl reads
      base_reads (Held value) ServeUnlocked Read is served reads same = gives refl reads
      base_reads (Held value) ServeUnlocked (Update edit) is served reads same = never served
      base_reads Corrupt purpose ask is served reads same = unreadable reads (handled is)
      base_reads (TooLong len) purpose ask is served reads same = too_long reads

      pub chosen_row : (at : At V T) → is_served at ≡ true → Meets r s.limits w call luck (Reads r s.limits w call) at
          → Row r s w call at (chosen r s.limits w call luck at)
      chosen_row (First ask) served meets =
          split (Is (First ask)) (is_other w.owner call) _ _ (λ is. met ask (another_by w.owner call is)) (λ is. taken ask (free_by w.owner call is))
      chosen_row (Reading purpose ask) served meets =
          split (Is (Reading purpose ask)) luck.fails _ _ (λ is. read_fails) (λ well. let met = meets well in base_reads luck.base purpose ask refl served met.0 met.1)
      chosen_row (Migrating ask value) served meets = migrates none
      chosen_row (Finishing ask) served meets = finishes
      chosen_row (Raising plan) served meets = raises
      chosen_row (Writing stage plan) served meets = split (Is (Writing stage plan)) luck.fails _ _ (λ is. write_fails) (λ well. writes stage plan)
      chosen_row (SyncingFolder ending) served meets = split (Is (SyncingFolder ending)) luck.fails _ _ (λ is. sync_fails) (λ well. acknowledges)
      chosen_row (Restarting node) served meets = split (Is (Restarting node)) (is_dead node w.history) _ _ (λ dead. restarts dead) (λ alive. finds_alive alive)
      chosen_row other served meets = never served

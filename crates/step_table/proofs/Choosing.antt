-- Each line of the table is what the function chooses, and given what is met it chooses one effect.
use Rattle.std.proofs.Common.{◌≡◌, ◌≢◌, ◌<◌, ◌≤◌, ◌⊎◌, inl, inr, ◌&&◌, ℕ, nat_lt, Bool, true, false, not, List, length, Option, Some, None, IsTrue, refl, sym, ap, ◌∙◌, arith, if◌then◌else◌}
use Rattle.std.proofs.lemmas.Bool.Decides.{nat_tests}
use Rattle.store_traits.specs.declared.applied.Applied.{Applied}
use Rattle.store_traits.specs.declared.applied.Applied.TheVariants as applied
use Rattle.store_traits.specs.declared.ids.CallId.{CallId}
use Rattle.file_lock.specs.Owner.{IsAnother}
use Rattle.hist_journal.specs.declared.seen.BaseSeen.{BaseSeen}
use Rattle.hist_journal.specs.declared.seen.BaseSeen.TheVariants.{Held, Corrupt, TooLong}
use Rattle.hist_journal.specs.Kinds.{is_call}
use Rattle.shelf.specs.declared.store.Limits.{Limits}
use Rattle.shelf.specs.declared.store.Store.{Store}
use Rattle.shelf.specs.Base.{ReadsAs}
use Rattle.shelf.specs.Rules.{Rules, weight_at}
use Rattle.shelf.proofs.ReadingLemmas.{one_base}
use Rattle.shelf.proofs.Bools.{never}
use Rattle.shelf.proofs.SameCalls.{itself, same_call}
use Rattle.step_table.specs.Calls.{Ask, Update, Read, At, First, Reading, Migrating, Finishing, Raising, Writing, SyncingFolder, Restarting, Gone, Purpose, Initialise, Serve, ServeUnlocked, initialises}
use Rattle.step_table.specs.Effects.{Effect, asking}
use Rattle.step_table.specs.Requests.{ReadMain}
use Rattle.step_table.specs.Rows.{Row, IsFree, IsOpen, MayTake, waits, full, takes_first, takes, goes_without, gives, read_fails, too_long, unreadable, loads, migrates, finishes, refuses, keeps, past_limit, changes, raises, creates, appends, syncs_scratch, renames, write_fails, acknowledges, sync_fails, finds_alive, restarts}
use Rattle.step_table.specs.World.{World}
use Rattle.step_table.proofs.Chosen.{Luck, Meets, IsSame, IsSameFor, chosen, enter, give, has_to_lock, is_faulted, is_open, is_other, length_of, take, use_base}
use Rattle.step_table.proofs.Waiting.{is_short}

-- what the premises of the lines make of the tests of the function
unlike_by : (same : Bool) (owner call : CallId) → is_call owner call ≡ same → owner ≢ call → not same ≡ true
unlike_by true owner call is unlike = absurd (unlike (same_call owner call is))
unlike_by false owner call is unlike = refl

pub other_is : (owner : Option CallId) (call : CallId) → IsAnother owner call → is_other owner call ≡ true
other_is None call another = absurd another
other_is (Some owner) call another = unlike_by (is_call owner call) owner call refl another

free_by : (same : Bool) (owner call : CallId) → is_call owner call ≡ same → (owner ≢ call → ⊥) → not same ≡ false
free_by true owner call is free = refl
free_by false owner call is free = absurd (free (λ equal. never (sym is ∙ (rw equal (itself call)))))

none_other : (owner : Option CallId) (call : CallId) → (IsAnother owner call → ⊥) → is_other owner call ≡ false
none_other None call free = refl
none_other (Some owner) call free = free_by (is_call owner call) owner call refl free

is_less : {a b : ℕ} → a < b → nat_lt a b ≡ true
is_less {a} {b} less = grind (arith, nat_tests, less)

is_no_less : {a b : ℕ} → b ≤ a → nat_lt a b ≡ false
is_no_less {a} {b} most = grind (arith, nat_tests, most)

no_second : (first : Bool) → (first && false) ≡ false
no_second true = refl
no_second false = refl

-- the same is met for one base
module _ {V T : Type 0} (r : Rules V T) where
  same_once : (made : Applied V) (value : V) (a b : Bool) → IsSame made value a → IsSame made value b → a ≡ b
  same_once (applied.Refused code) value a b x y = x ∙ sym y
  same_once (applied.Changed new) value true true x y = refl
  same_once (applied.Changed new) value true false x y = absurd (y x)
  same_once (applied.Changed new) value false true x y = absurd (x y)
  same_once (applied.Changed new) value false false x y = refl

  same_for : (base : BaseSeen V) (purpose : Purpose) (ask : Ask T) (a b : Bool) → IsSameFor r base purpose ask a → IsSameFor r base purpose ask b → a ≡ b
  same_for (Held value) Serve (Update edit) a b x y = same_once (r.meanings.after edit value) value a b x y
  same_for (Held value) Serve Read a b x y = x ∙ sym y
  same_for (Held value) Initialise ask a b x y = x ∙ sym y
  same_for (Held value) ServeUnlocked ask a b x y = x ∙ sym y
  same_for Corrupt purpose ask a b x y = x ∙ sym y
  same_for (TooLong len) purpose ask a b x y = x ∙ sym y

  -- two choices by the same test
  either_is : (a b : Bool) (x y z : Effect V T) → a ≡ b → (b ≡ false → y ≡ z) → (if a then x else y) ≡ (if b then x else z)
  either_is a true x y z is same = rw is refl
  either_is a false x y z is same = rw is (same refl)

  module _ (limits : Limits) (w : World V T) (call : CallId) where
    -- main reads so, under these limits
    abbrev pub Reads : BaseSeen V → Type 0
    Reads base = IsTrue w.told → ReadsAs r.reads r.absent limits.file w.folder.main base

    module _ (read_once : (bytes : List ℕ) (a b : V) → r.reads bytes a → r.reads bytes b → a ≡ b) (told : IsTrue w.told) (l m : Luck V) where
      one_read : (purpose : Purpose) (ask : Ask T) → Reads l.base × IsSameFor r l.base purpose ask l.same → Reads m.base × IsSameFor r m.base purpose ask m.same
          → use_base r limits w call l l.base purpose ask ≡ use_base r limits w call m m.base purpose ask
      one_read purpose ask x y =
          let base : l.base ≡ m.base = one_base r.reads r.absent limits.file read_once w.folder.main l.base m.base (x.0 told) (y.0 told) in
          let same : l.same ≡ m.same = same_for m.base purpose ask l.same m.same (rw base at x.1) y.1 in
          rw (base, same) refl

      -- beside main, whether the folder fails is all that is met
      one_chosen : (at : At V T) → Meets r limits w call l Reads at → Meets r limits w call m Reads at → l.fails ≡ m.fails
          → chosen r limits w call l at ≡ chosen r limits w call m at
      one_chosen (First ask) x y fails = refl
      one_chosen (Reading purpose ask) x y fails =
          either_is l.fails m.fails _ _ _ fails (λ well. ap (λ (e : Effect V T). asking ReadMain e) (one_read purpose ask (x (fails ∙ well)) (y well)))
      one_chosen (Migrating ask value) x y fails = refl
      one_chosen (Finishing ask) x y fails = refl
      one_chosen (Raising plan) x y fails = refl
      one_chosen (Writing stage plan) x y fails = rw fails refl
      one_chosen (SyncingFolder ending) x y fails = rw fails refl
      one_chosen (Restarting node) x y fails = refl
      one_chosen Gone x y fails = refl

-- what makes the function choose this effect, under these limits
pub record IsChosen {V T : Type 0} (r : Rules V T) (limits : Limits) (w : World V T) (call : CallId) (at : At V T) (e : Effect V T) : Type 0 where
  pub luck : Luck V
  pub meets : Meets r limits w call luck (Reads r limits w call) at
  pub is : e ≡ chosen r limits w call luck at
  pub failed : luck.fails ≡ is_faulted e.folder

module _ {V T M : Type 0} (r : Rules V T) (s : Store V M) (w : World V T) (call : CallId) where
  abbrev at_hand : Bool → Luck V
  at_hand fails = record { fails = fails; base = Corrupt; same = false }

  abbrev reading : BaseSeen V → Bool → Luck V
  reading base same = record { fails = false; base = base; same = same }

  opens : IsOpen r s w call → is_open r s.limits w call (at_hand false) ≡ true
  opens bounds = rw (is_less bounds.entries, is_less bounds.weight) refl

  closes : (s.limits.history.entries ≤ length w.history) ⊎ (s.limits.history.weight ≤ weight_at r w.history) → is_open r s.limits w call (at_hand false) ≡ false
  closes (inl most) = rw (is_no_less most) refl
  closes (inr most) = rw (is_no_less most) (no_second (nat_lt (length w.history) s.limits.history.entries))

  chose : {at : At V T} {e : Effect V T} (luck : Luck V) → Meets r s.limits w call luck (Reads r s.limits w call) at → e ≡ chosen r s.limits w call luck at
      → luck.fails ≡ is_faulted e.folder
      → IsChosen r s.limits w call at e
  chose luck meets is failed = record { luck = luck; meets = meets; is = is; failed = failed }

  free_is : IsFree r s w call → is_other w.owner call ≡ false
  free_is free = none_other w.owner call free

  takes_by : (ask : Ask T) (must : Bool) → has_to_lock r s.limits w call (at_hand false) ask ≡ must → (must ≡ true → IsOpen r s w call)
      → take r s.limits w call (at_hand false) ask ≡ enter r s.limits w call (at_hand false) ask
  takes_by ask true is bounds = rw (is, opens (bounds refl)) refl
  takes_by ask false is bounds = rw is refl

  takes_so : (ask : Ask T) → MayTake r s w call ask → chosen r s.limits w call (at_hand false) (First ask) ≡ enter r s.limits w call (at_hand false) ask
  takes_so ask may = rw (free_is may.free) (takes_by ask _ refl may.bounds)

  -- the value is given for whatever main is read for but to initialise
  gives_so : (purpose : Purpose) (value : V) → initialises purpose ≡ false → Reads r s.limits w call (Held value)
      → IsChosen r s.limits w call (Reading purpose Read) (asking ReadMain (give r s.limits w call (at_hand false) value))
  gives_so Initialise value is reads = never (sym is)
  gives_so Serve value is reads = chose (reading (Held value) false) (λ well. (reads, refl)) refl refl
  gives_so ServeUnlocked value is reads = chose (reading (Held value) false) (λ well. (reads, refl)) refl refl

  -- one clause a line; those of which memory lacks fall away
  row_chosen : {at : At V T} {e : Effect V T} → Row r s w call at e → is_short e.next ≡ false → IsChosen r s.limits w call at e
  row_chosen (waits another must) short = chose (at_hand false) tt (rw (other_is w.owner call another, must) refl) refl
  row_chosen (full free must bound) short =
      chose (at_hand false) tt (rw (bound.entries_then, bound.weight_then, free_is free, must, closes (rw (bound.entries_then, bound.weight_then) at bound.bound)) refl) refl
  row_chosen (takes_first {ask = ask} may unready) short = chose (at_hand false) tt (rw (takes_so ask may, unready) refl) refl
  row_chosen (takes {ask = ask} may ready) short = chose (at_hand false) tt (rw (takes_so ask may, ready) refl) refl
  row_chosen (goes_without another need_not) short = chose (at_hand false) tt (rw (other_is w.owner call another, need_not) refl) refl
  row_chosen read_fails short = chose (at_hand true) (λ well. never (sym well)) refl refl
  row_chosen (too_long {len = len} reads) short = chose (reading (TooLong len) false) (λ well. (reads, refl)) refl refl
  row_chosen (unreadable reads none) short = chose (reading Corrupt false) (λ well. (reads, refl)) refl refl
  row_chosen (loads {value = value} reads) short = chose (reading (Held value) false) (λ well. (reads, refl)) refl refl
  row_chosen (migrates none) short = chose (at_hand false) tt refl refl
  row_chosen finishes short = chose (at_hand false) tt refl refl
  row_chosen (refuses {value = value} reads makes) short = chose (reading (Held value) false) (λ well. (reads, rw makes refl)) (rw makes refl) refl
  row_chosen (keeps {value = value} reads makes) short = chose (reading (Held value) true) (λ well. (reads, rw makes refl)) (rw makes refl) refl
  row_chosen (past_limit {new = new} to past) short =
      let long : s.limits.file < length_of r s.limits w call (at_hand false) new = rw past.is at past.past in
      chose (reading (Held to.old) false) (λ well. (to.read, rw to.makes to.differs)) (rw (past.is, to.makes, is_less long) refl) refl
  row_chosen (changes {new = new} to fits) short =
      let low : length_of r s.limits w call (at_hand false) new ≤ s.limits.file = omega (arith, fits) in
      chose (reading (Held to.old) false) (λ well. (to.read, rw to.makes to.differs)) (rw (to.makes, is_no_less low) refl) refl
  row_chosen (gives {purpose = purpose} {value = value} is reads) short = gives_so purpose value is reads
  row_chosen raises short = chose (at_hand false) tt refl refl
  row_chosen creates short = chose (at_hand false) tt refl refl
  row_chosen appends short = chose (at_hand false) tt refl refl
  row_chosen syncs_scratch short = chose (at_hand false) tt refl refl
  row_chosen renames short = chose (at_hand false) tt refl refl
  row_chosen write_fails short = chose (at_hand true) tt refl refl
  row_chosen acknowledges short = chose (at_hand false) tt refl refl
  row_chosen sync_fails short = chose (at_hand true) tt refl refl
  row_chosen (finds_alive alive) short = chose (at_hand false) tt (rw alive refl) refl
  row_chosen (restarts dead) short = chose (at_hand false) tt (rw dead refl) refl
  row_chosen other short = never (sym short)

-- by the rules of a store, a told folder leaves one effect, unless memory lacks
module _ {V T M : Type 0} (r : Rules V T) (s : Store V M) (read_once : (bytes : List ℕ) (a b : V) → r.reads bytes a → r.reads bytes b → a ≡ b) (w : World V T) (told : IsTrue w.told) (call : CallId) where
  pub one_effect : {at : At V T} (e f : Effect V T) → Row r s w call at e → Row r s w call at f → is_short e.next ≡ false → is_short f.next ≡ false
      → is_faulted e.folder ≡ is_faulted f.folder → e ≡ f
  one_effect {at = at} e f x y long lasts failed =
      let a = row_chosen r s w call x long in
      let b = row_chosen r s w call y lasts in
      a.is ∙ one_chosen r s.limits w call read_once told a.luck b.luck at a.meets b.meets (a.failed ∙ failed ∙ sym b.failed) ∙ sym b.is

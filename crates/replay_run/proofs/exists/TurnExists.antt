-- Whatever a call is at, it has a turn: a death of its node ends it, one that is planned strikes, and else its call of the folder fails where that is due, and leaves all that the folder holds.
use Rattle.std.proofs.Common.{◌≡◌, ◌∙◌, ◌<◌, ◌≤◌, ◌-◌, ◌^◌, ℕ, nat_le, nat_lt, Bool, true, false, List, [], length, Option, Some, None, option_map, unwrap_or, refl, sym, arith, if◌then◌else◌}
use Rattle.std.proofs.lemmas.Bool.Decides.{nat_tests}
use Rattle.store_traits.specs.declared.applied.Applied.{Applied}
use Rattle.store_traits.specs.declared.applied.Applied.TheVariants as applied
use Rattle.store_traits.specs.declared.ids.CallId.{CallId}
use Rattle.store_traits.specs.declared.update_error.UpdateError.TheVariants.{NoMemory, ValueTooLong}
use Rattle.folder_disk.specs.Due as plan
use Rattle.hist_journal.specs.declared.seen.BaseSeen.{BaseSeen}
use Rattle.hist_journal.specs.declared.seen.BaseSeen.TheVariants.{Held, Corrupt, TooLong}
use Rattle.hist_journal.specs.Nodes.{is_dead, is_ready}
use Rattle.shelf.specs.declared.store.Store.{Store}
use Rattle.shelf.specs.Base.{ReadsAs}
use Rattle.shelf.specs.Rules.{Rules}
use Rattle.shelf.proofs.Bools.{never}
use Rattle.step_table.specs.Calls.{Ask, Update, Read, At, Call, First, Reading, Migrating, Finishing, Raising, Writing, SyncingFolder, Kept, Failed, Restarting, Gone, Purpose, Initialise, Serve, ServeUnlocked, Stage, Creating, Appending, SyncingScratch, Renaming, is_gone}
use Rattle.step_table.specs.Effects.{Ceases, Effect, Ends, Faulted, FolderUse, Next, Served, SparesFolder, Unused, does, errs, gave_by, goes}
use Rattle.step_table.specs.Requests.{Create, ReadMain, Rename, Request, SyncFolder, SyncScratch, call_of}
use Rattle.step_table.specs.Rows.{request_of}
use Rattle.step_table.specs.Turn.{AllowedBy, Turn, dies_now, dying, has_died_by}
use Rattle.step_table.specs.World.{World, Turned}
use Rattle.step_table.proofs.Chosen.{IsSame, IsSameFor, Luck, Meets, apply, chosen, enter, has_to_lock, is_open, is_other, length_of, meet, take, unwritten, use_base, write}
use Rattle.step_table.proofs.ChosenRows.{chosen_row, is_served, split}
use Rattle.step_table.proofs.Choosing.{Reads}
use Rattle.step_table.proofs.DeathTurns.{dead_turn, dying_turn}
use Rattle.step_table.proofs.EffectsMade.{begun, comes_by, is_as_due, now_by, turn_to, turned_by}
use Rattle.step_table.proofs.OneTurn.{asked_at}

-- it cannot be that none is there
abbrev pub MustBe : {X : Type 0} → (X → Type 0) → Type 0
MustBe {X} Is = ((x : X) → Is x → ⊥) → ⊥

module _ {V T : Type 0} where
  -- a call that ends so has an answer in a transcript
  abbrev pub is_answer : Next V T → Bool
  is_answer (Ends (Failed NoMemory)) = false
  is_answer other = true

module _ {V T M : Type 0} (r : Rules V T) (s : Store V M) (w : World V T) where
  pub base_is : (main : Option (List ℕ)) → MustBe (ReadsAs r.reads r.absent s.limits.file main)
  base_is None none = none (Held r.absent) refl
  base_is (Some bytes) none = by_length (nat_le (length bytes) s.limits.file) refl
    where
      by_length : (b : Bool) → nat_le (length bytes) s.limits.file ≡ b → ⊥
      by_length true is =
          let fits : length bytes ≤ s.limits.file = grind (arith, nat_tests, is) in
          none Corrupt (fits, λ value reads. none (Held value) (fits, reads))
      by_length false is = let past : s.limits.file < length bytes = grind (arith, nat_tests, is) in none (TooLong (length bytes)) (past, refl)

  same_is : (made : Applied V) (value : V) → MustBe (IsSame made value)
  same_is (applied.Refused code) value none = none false refl
  same_is (applied.Changed new) value none = none false (λ same. none true same)

  same_for_is : (base : BaseSeen V) (purpose : Purpose) (ask : Ask T) → MustBe (IsSameFor r base purpose ask)
  same_for_is (Held value) Serve (Update edit) none = same_is (r.meanings.after edit value) value none
  same_for_is (Held value) Serve Read none = none false refl
  same_for_is (Held value) Initialise ask none = none false refl
  same_for_is (Held value) ServeUnlocked ask none = none false refl
  same_for_is Corrupt purpose ask none = none false refl
  same_for_is (TooLong len) purpose ask none = none false refl

  -- whether the call of the folder that such a step makes is due to fail
  abbrev is_due_at : At V T → Bool
  is_due_at at = unwrap_or (option_map (λ request. plan.fails (call_of request) w.tally.due) (asked_at at)) false

  module _ (call : CallId) where
    -- what such a turn meets
    record Met (at : At V T) (luck : Luck V) : Type 0 where
      pub due : luck.fails ≡ is_due_at at
      pub meets : Meets r s.limits w call luck (Reads r s.limits w call) at

    met_is : (at : At V T) → MustBe (Met at)
    met_is (Reading purpose ask) none =
        base_is w.folder.main
        (λ base reads.
        same_for_is base purpose ask
        (λ same is. none (record { fails = is_due_at (Reading purpose ask); base = base; same = same }) (record { due = refl; meets = λ well. (λ told. reads, is) })))
    met_is other none = none (record { fails = is_due_at other; base = Corrupt; same = false }) (record { due = refl; meets = tt })

  -- the call as its turn begins, and what it meets
  module _ (call : Call V T) (few : w.tally.count ≤ 2 ^ 64 - 1) (luck : Luck V) where
    -- the effect answers, and its call of the folder goes as is due
    abbrev IsFine : Effect V T → Type 0
    IsFine e = (is_answer e.next ≡ true) × (is_as_due w call e.folder ≡ true)

    goes_well : (request : Request) → plan.fails (call_of request) w.tally.due ≡ false → is_as_due w call (Served request) ≡ true
    goes_well request well = rw well grind (arith, nat_tests, few)

    fails_so : (request : Request) → plan.fails (call_of request) w.tally.due ≡ true → is_as_due w call (Faulted request) ≡ true
    fails_so request ill = rw ill grind (arith, nat_tests, few)

    applies : (edit : T) (value : V) (made : Applied V) → is_answer (apply r s.limits w call.id luck edit value made).next ≡ true
    applies edit value (applied.Refused code) = refl
    applies edit value (applied.Changed new) = by_tests luck.same (nat_lt s.limits.file (length_of r s.limits w call.id luck new))
      where
        by_tests : (same past : Bool)
            → is_answer {V = V} {T = T} (if same then goes (SyncingFolder (Kept edit)) else if past then errs (ValueTooLong (length_of r s.limits w call.id luck new)) else goes (Raising (unwritten r s.limits w call.id luck edit new))).next ≡ true
        by_tests true past = refl
        by_tests false true = refl
        by_tests false false = refl

    base_answers : (base : BaseSeen V) (purpose : Purpose) (ask : Ask T) → is_answer (use_base r s.limits w call.id luck base purpose ask).next ≡ true
    base_answers (Held value) Initialise ask = refl
    base_answers (Held value) Serve (Update edit) = applies edit value (r.meanings.after edit value)
    base_answers (Held value) Serve Read = refl
    base_answers (Held value) ServeUnlocked (Update edit) = refl
    base_answers (Held value) ServeUnlocked Read = refl
    base_answers Corrupt purpose ask = refl
    base_answers (TooLong len) purpose ask = refl

    writes : (stage : Stage) (p : _) → plan.fails (call_of (request_of stage p)) w.tally.due ≡ false → IsFine (write r s.limits w call.id luck stage p)
    writes Creating p well = (refl, goes_well Create well)
    writes Appending p well = (refl, goes_well (request_of Appending p) well)
    writes SyncingScratch p well = (refl, goes_well SyncScratch well)
    writes Renaming p well = (refl, goes_well Rename well)

    enters : (ask : Ask T) → IsFine (enter r s.limits w call.id luck ask)
    enters ask = split IsFine (is_ready call.id.node w.history) _ _ (λ ready. (refl, refl)) (λ unready. (refl, refl))

    takes : (ask : Ask T) → IsFine (take r s.limits w call.id luck ask)
    takes ask = split IsFine (has_to_lock r s.limits w call.id luck ask) _ _ (λ must. split IsFine (is_open r s.limits w call.id luck) _ _ (λ opens. enters ask) (λ closed. (refl, refl))) (λ need_not. enters ask)

    meets : (ask : Ask T) → IsFine (meet r s.limits w call.id luck ask)
    meets ask = split IsFine (has_to_lock r s.limits w call.id luck ask) _ _ (λ must. (refl, refl)) (λ need_not. (refl, refl))

    fine : (at : At V T) → luck.fails ≡ is_due_at at → IsFine (chosen r s.limits w call.id luck at)
    fine (First ask) due = split IsFine (is_other w.owner call.id) _ _ (λ another. meets ask) (λ free. takes ask)
    fine (Reading purpose ask) due = split IsFine luck.fails _ _ (λ ill. (refl, fails_so ReadMain (sym due ∙ ill))) (λ well. (base_answers luck.base purpose ask, goes_well ReadMain (sym due ∙ well)))
    fine (Migrating ask value) due = (refl, refl)
    fine (Finishing ask) due = (refl, refl)
    fine (Raising p) due = (refl, refl)
    fine (Writing stage p) due = split IsFine luck.fails _ _ (λ ill. (refl, fails_so (request_of stage p) (sym due ∙ ill))) (λ well. writes stage p (sym due ∙ well))
    fine (SyncingFolder ending) due = split IsFine luck.fails _ _ (λ ill. (refl, fails_so SyncFolder (sym due ∙ ill))) (λ well. (refl, goes_well SyncFolder (sym due ∙ well)))
    fine (Restarting node) due = split IsFine (is_dead node w.history) _ _ (λ dead. (refl, refl)) (λ alive. (refl, refl))
    fine Gone due = (refl, refl)

  -- a call that fails leaves all that the folder holds
  spares_by : (call : Call V T) (e : Effect V T) (used : FolderUse) → SparesFolder used w (now_by w call (record e { folder = used }))
  spares_by call e Unused = tt
  spares_by call e (Served request) = tt
  spares_by call e (Faulted request) = refl

  module _ (none : s.migrations ≡ []) (unreplaced : s.handler ≡ None) (low : s.limits.file < 2 ^ 64 - 1) (call : Call V T) (served : is_served call.at ≡ true) (few : w.tally.count ≤ 2 ^ 64 - 1) where
    -- an effect that the call's turn may have
    pub record Turns (e : Effect V T) : Type 0 where
      pub turn : Turn r s (record (turned_by w (begun w call) e) { call = call }) (gave_by e.next)
      pub same : turn.effect ≡ e
      pub answers : is_answer e.next ≡ true
      pub spares : SparesFolder e.folder w (now_by w (begun w call) e)

    goes_on : (at : At V T) → is_served at ≡ true → is_gone at ≡ false
    goes_on Gone is = never is
    goes_on other is = refl

    allowed : (gone died dies : Bool) (t : Turned V T) (e : Effect V T) → gone ≡ false → died ≡ false → dies ≡ false → AllowedBy r s false false false t e → AllowedBy r s gone died dies t e
    allowed gone died dies t e first second third it = rw (first, second, third) it

    lasts : is_gone call.at ≡ false
    lasts = goes_on call.at served

    -- the turn of a call whose node died, of one that dies now, and of one that lives
    turn_by : (died dies : Bool) → has_died_by (turn_to w (begun w call) w) ≡ died → dies_now (turn_to w (begun w call) w) ≡ dies → MustBe Turns
    turn_by true dies died is nothing = let it = dead_turn r s w call lasts died in nothing (does (Ceases it.0)) (record { turn = it.2.turn; same = it.2.same; answers = refl; spares = tt })
    turn_by false true lives strikes nothing =
        let it = dying_turn r s w call lasts lives strikes in nothing (dying (turn_to w (begun w call) w)) (record { turn = it.turn; same = it.same; answers = refl; spares = tt })
    turn_by false false lives spared nothing =
        met_is call.id call.at
        (λ luck met.
        let e : Effect V T = chosen r s.limits w call.id luck call.at in
        let fits = fine (begun w call) few luck call.at met.due in
        nothing e
        (record {
          turn =
              record {
                effect = e;
                allowed = allowed (is_gone call.at) (has_died_by (turn_to w (begun w call) w)) (dies_now (turn_to w (begun w call) w)) (turned_by w (begun w call) e) e lasts lives spared
                    (chosen_row r s w call.id luck low none (λ is. unreplaced) call.at served met.meets);
                comes = comes_by w (begun w call) e.folder e fits.1;
              };
          same = refl;
          answers = fits.0;
          spares = spares_by (begun w call) e e.folder;
        }))

    pub turn_is : MustBe Turns
    turn_is = turn_by (has_died_by (turn_to w (begun w call) w)) (dies_now (turn_to w (begun w call) w)) refl refl

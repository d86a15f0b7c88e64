-- Behind a turn the plan of its call may still be main.
use Rattle.std.proofs.Common.{◌≡◌, ◌∙◌, ◌<◌, ◌^◌, ◌++◌, ℕ, Bool, true, false, List, length, Option, Some, None, IfSome, IsTrue, refl, sym, ap, subst}
use Rattle.std.proofs.lemmas.Option.{IfSome_then}
use Rattle.store_traits.specs.declared.applied.Applied.TheVariants as applied
use Rattle.hist_journal.specs.declared.seen.BaseSeen.TheVariants.{Held}
use Rattle.hist_journal.specs.declared.seen.EntrySeen.{EntrySeen}
use Rattle.hist_journal.specs.declared.seen.KindSeen.TheVariants.{Raise}
use Rattle.hist_journal.specs.Folds.{edition_of, raises_of}
use Rattle.hist_journal.specs.Quiet.{Quiet}
use Rattle.hist_journal.proofs.FoldLemmas.{value_of-other}
use Rattle.shelf.specs.declared.store.Store.{Store}
use Rattle.shelf.specs.Base.{ReadsAs}
use Rattle.shelf.specs.Deaths.{died_since}
use Rattle.shelf.specs.Entries.{with_entries}
use Rattle.shelf.specs.Kept.{KeptMain}
use Rattle.shelf.specs.Legal.{Legal, value_at}
use Rattle.shelf.specs.Meanings.{Meanings}
use Rattle.shelf.specs.Rules.{Rules}
use Rattle.shelf.proofs.Bools.{never}
use Rattle.shelf.proofs.FreshLemmas.{quiet_is_fresh}
use Rattle.shelf.proofs.MeanwhileLemmas as meanwhile
use Rattle.shelf.proofs.ReadingLemmas.{value_is}
use Rattle.step_table.specs.Calls.{Ask, At, Call, First, Gone, Plan, Read, Reading, Reply, Restarting, Update, is_gone}
use Rattle.step_table.specs.Effects.{Effect, all_kinds, at_by}
use Rattle.step_table.specs.Rows.{Row, appends, changes, creates, raises, syncs_scratch}
use Rattle.step_table.specs.Turn.{AllowedBy, Turn, dies_now, has_died_by}
use Rattle.step_table.specs.World.{Turned, World, begin}
use Rattle.step_table.specs.declared.progress.Progress.{Progress}
use Rattle.node_core.specs.Between.{Between}
use Rattle.node_core.specs.Knows.{Knows}
use Rattle.node_core.specs.Own.{IsFor}
use Rattle.node_core.specs.Phases.{is_holding}
use Rattle.node_core.specs.Reading.{ReadsTruly}
use Rattle.node_core.specs.Ready.{MayWrite, plan_at}
use Rattle.node_core.proofs.BetweenLemmas.{owner_kept}
use Rattle.node_core.proofs.KeepingReads.{change_makes}

-- what such a call asks for is such a transform, or a read
abbrev pub IsTypedAsk : {T : Type 0} → (T → Type 0) → Ask T → Type 0
IsTypedAsk E (Update edit) = E edit
IsTypedAsk E Read = Unit {0}

-- a quiet prefix of a lawful history that has all its raises has its value and its edition
pub reads_fresh : {V T M : Type 0} (m : Meanings V T) (s : Store V M) (list : List (EntrySeen V T)) → Legal m s list → (front back : List (EntrySeen V T)) → list ≡ front ++ back → Quiet front → raises_of list ≡ raises_of front
    → (value_at m s list ≡ value_at m s front) × (edition_of list ≡ edition_of front)
reads_fresh m s list legal front back is quiet same =
    let fresh = quiet_is_fresh m s front back (subst (Legal m s) is legal) quiet (ap raises_of (sym is) ∙ same) in
    (ap (value_at m s) is ∙ fresh.value, ap edition_of is ∙ fresh.edition)

module _ {V T M : Type 0} (r : Rules V T) (I : V → Type 0) (E : T → Type 0) (s : Store V M) where
  -- what files read as and such transforms make are values, a file reads as one at most, and the text of a value as that
  pub record ReadsValues : Type 0 where
    pub limit : s.limits.file < 2 ^ 63
    pub once : (bytes : List ℕ) (v w : V) → r.reads bytes v → r.reads bytes w → v ≡ w
    pub back : (v : V) → I v → length (r.encoded v) < 2 ^ 64 → r.reads (r.encoded v) v
    pub read : (bytes : List ℕ) (v : V) → r.reads bytes v → I v
    pub absent : I r.absent
    pub made : (edit : T) (v new : V) → E edit → I v → r.meanings.after edit v ≡ applied.Changed new → I new

  module _ (values : ReadsValues) where
    -- main reads as the value of the history
    pub reads_well : (w : World V T) → (IsTrue w.told → KeptMain r I s w.folder w.history) → ReadsTruly r s w
    reads_well w kept told base reads = value_is r I s values.limit values.once values.back w.folder w.history base (kept told) reads

    main_value : (main : Option (List ℕ)) (v : V) → ReadsAs r.reads r.absent s.limits.file main (Held v) → I v
    main_value None v is = let same : v ≡ r.absent = cc in rw same values.absent
    main_value (Some bytes) v is = values.read bytes v is.1

    module _ (asked : Ask T) (is_typed : IsTypedAsk E asked) (t : Turned V T) (told : IsTrue t.world.told) (reads : ReadsTruly r s t.world) where
      -- behind this effect the plan may be main
      abbrev MayBy : At V T → Effect V T → Type 0
      MayBy at e = IfSome (plan_at (at_by e.next at)) (λ plan. MayWrite r I s (with_entries t.call.id (all_kinds e.folder t.world_after.tally.count e.kinds) t.world.history) plan)

      row_keeps_may : {at : At V T} {e : Effect V T} → Row r s t.world t.call.id at e → IsFor t.call.id asked at t.world.history → IfSome (plan_at at) (λ plan. MayWrite r I s t.world.history plan) → MayBy at e
      row_keeps_may (changes {edit = edit} {new = new} makes fits) so may =
          let gives = change_makes r s edit (record { old = makes.old; new = new; held = reads told (Held makes.old) (makes.read told); makes = makes.makes; differs = makes.differs }) in
          λ v is.
          let mine : E edit = subst (IsTypedAsk E) (sym so) is_typed in
          let same : v ≡ new = (let both : Held v ≡ Held new = sym is ∙ gives in cc) in
          rw same (record { known = values.made edit makes.old new mine (main_value t.world.folder.main makes.old (makes.read told)) makes.makes; fits = fits })
      row_keeps_may raises so may = λ v is. may v (rw (value_of-other r.meanings.after s.base t.world.history (record { who = t.call.id; kind = Raise }) refl) at is)
      row_keeps_may creates so may = may
      row_keeps_may appends so may = may
      row_keeps_may syncs_scratch so may = may
      row_keeps_may other so may = tt

      may_by : (gone died dies : Bool) (e : Effect V T) → AllowedBy r s gone died dies t e → IsFor t.call.id asked t.call.at t.world.history → (died ≡ false → IfSome (plan_at t.call.at) (λ plan. MayWrite r I s t.world.history plan)) → MayBy t.call.at e
      may_by true died dies e it so may = absurd it
      may_by false true dies e it so may = rw it.is tt
      may_by false false true e it so may = rw it tt
      may_by false false false e it so may = row_keeps_may it so (may refl)

    pub turn_keeps_may : (t : Turned V T) (gave : Progress (Reply V)) → Turn r s t gave → IsTrue t.world.told → KeptMain r I s t.world.folder t.world.history
        → (asked : Ask T) → IsTypedAsk E asked → IsFor t.call.id asked t.call.at t.world.history → (has_died_by (begin t) ≡ false → IfSome (plan_at t.call.at) (λ plan. MayWrite r I s t.world.history plan)) → IfSome (plan_at t.call_after.at) (λ plan. MayWrite r I s t.world_after.history plan)
    turn_keeps_may t gave turn told kept asked is_typed so may =
        rw (turn.comes.call, ap (λ (w : World V T). w.history) turn.comes.world)
        (may_by asked is_typed (begin t) told (reads_well t.world (λ told. kept)) (is_gone t.call.at) (has_died_by (begin t)) (dies_now (begin t)) turn.effect turn.allowed so may)

-- a call that has ended writes nothing
pub gone_writes : {V T : Type 0} (P : Plan V T → Type 0) (at : At V T) → is_gone at ≡ true → IfSome (plan_at at) P
gone_writes P Gone gone = tt
gone_writes P other gone = never gone

-- nor does one that holds nothing
free_writes : {V T : Type 0} (P : Plan V T → Type 0) (at : At V T) → is_holding at ≡ false → IfSome (plan_at at) P
free_writes P (First ask) free = tt
free_writes P (Reading purpose ask) free = tt
free_writes P (Restarting node) free = tt
free_writes P Gone free = tt
free_writes P other free = never (sym free)

module _ {V T M : Type 0} (r : Rules V T) (I : V → Type 0) (s : Store V M) (c : Call V T) (last now : World V T) (knows : Knows r s last c) (between : Between c last now) (alive : died_since c.id.node c.since now.history ≡ false) where
  -- what others do leaves the plan of a call as it is
  pub plan_stays : IfSome (plan_at c.at) (λ plan. MayWrite r I s last.history plan) → IfSome (plan_at c.at) (λ plan. MayWrite r I s now.history plan)
  plan_stays may = by_lock (is_holding c.at) refl
    where
      by_lock : (holding : Bool) → is_holding c.at ≡ holding → IfSome (plan_at c.at) (λ plan. MayWrite r I s now.history plan)
      by_lock false free = free_writes (λ plan. MayWrite r I s now.history plan) c.at free
      by_lock true holds =
          let value : value_at r.meanings s now.history ≡ value_at r.meanings s last.history =
          rw between.grew (meanwhile.value r.meanings.after s.base last.history between.more (owner_kept r s c last now knows between alive holds).1.outer) in
          IfSome_then (plan_at c.at) may (λ plan it. rw value it)

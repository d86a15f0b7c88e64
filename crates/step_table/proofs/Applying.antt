-- What holds of every effect that is applied, whatever the rows say.
use Rattle.std.proofs.Common.{◌≡◌, ◌≢◌, ℕ, ◌+◌, Bool, true, false, List, [], ◌∷◌, ◌++◌, Option, Some, refl, ap, sym, ◌∙◌, arith, map, append_assoc, append-nil, if◌then◌else◌}
use Rattle.std.specs.List.{list_any}
use Rattle.store_traits.specs.declared.ids.CallId.{CallId}
use Rattle.store_traits.specs.declared.update_error.UpdateError.TheVariants.{Died}
use Rattle.file_lock.specs.Owner.{freed_node}
use Rattle.hist_journal.specs.declared.seen.EntrySeen.{EntrySeen}
use Rattle.hist_journal.specs.declared.seen.KindSeen.{KindSeen}
use Rattle.hist_journal.specs.Folds.{raises_of}
use Rattle.hist_journal.specs.Kinds.{is_raise}
use Rattle.hist_journal.specs.declared.device.Device.TheVariants.{Folder}
use Rattle.hist_journal.specs.declared.seen.KindSeen.TheVariants.{Fault}
use Rattle.hist_journal.proofs.FoldLemmas.{raises_of-push}
use Rattle.shelf.specs.declared.store.Store.{Store}
use Rattle.shelf.specs.Deaths.{last_death}
use Rattle.shelf.specs.Entries.{with_entries}
use Rattle.shelf.specs.Rules.{Rules}
use Rattle.shelf.proofs.Bools.{never}
use Rattle.step_table.specs.Calls.{At, Call, Failed, Gone, Reply, is_gone}
use Rattle.step_table.specs.Effects.{Ceases, Comes, Effect, FolderUse, Unused, Served, Faulted, Next, Waits, Goes, Ends, Stays, Takes, Frees, all_kinds, at_by, gave_by, owner_by, raised_by, world_by}
use Rattle.step_table.specs.Laws.{AddsOwn}
use Rattle.step_table.specs.Rows.{Row, waits}
use Rattle.step_table.specs.Turn.{AllowedBy, EndsDead, Turn, dies_now, has_died_by}
use Rattle.step_table.specs.World.{World, Turned, begin}
use Rattle.step_table.specs.declared.progress.Progress.{Progress}
use Rattle.step_table.specs.declared.progress.Progress.TheVariants.{Ended}
use Rattle.step_table.proofs.LockLemmas.{freed_was, freed_node_was, not_freed, node_freed, same_some}

raised_one : (raise : Bool) (version : ℕ) → version + (if raise then 1 else 0) ≡ (if raise then version + 1 else version)
raised_one true version = refl
raised_one false version = omega arith

-- the entries that a turn adds
module _ {V T : Type 0} where
  abbrev pub entries_of : CallId → List (KindSeen V T) → List (EntrySeen V T)
  entries_of call kinds = map (λ kind. record { who = call; kind = kind }) kinds

  pub all_added : (call : CallId) (kinds : List (KindSeen V T)) (list : List (EntrySeen V T)) → with_entries call kinds list ≡ list ++ entries_of call kinds
  all_added call [] list = rw append-nil refl
  all_added call (kind ∷ kinds) list =
      all_added call kinds (list ++ record { who = call; kind = kind } ∷ []) ∙ append_assoc list (record { who = call; kind = kind } ∷ []) (entries_of call kinds)

  -- a test that passes no entry of the call passes none of these
  pub none_passes : (call : CallId) (kinds : List (KindSeen V T)) (p : EntrySeen V T → Bool)
      → ((kind : KindSeen V T) → p (record { who = call; kind = kind }) ≡ false) → list_any p (entries_of call kinds) ≡ false
  none_passes call [] p none = refl
  none_passes call (kind ∷ kinds) p none = rw (none kind) (none_passes call kinds p none)

  -- the version counts the raises, and a Fault is none
  pub raises_added : (call : CallId) (kinds : List (KindSeen V T)) (list : List (EntrySeen V T))
      → raises_of (with_entries call kinds list) ≡ raised_by kinds (raises_of list)
  raises_added call [] list = refl
  raises_added call (kind ∷ kinds) list =
      raises_added call kinds (list ++ record { who = call; kind = kind } ∷ [])
      ∙ ap (raised_by kinds) (raises_of-push list (record { who = call; kind = kind }) ∙ raised_one (is_raise kind) (raises_of list))

  fault_raises : (count version : ℕ) (kinds : List (KindSeen V T)) → raised_by (kinds ++ Fault Folder count ∷ []) version ≡ raised_by kinds version
  fault_raises count version [] = refl
  fault_raises count version (kind ∷ kinds) = fault_raises count (if is_raise kind then version + 1 else version) kinds

  all_raises : (used : FolderUse) (count version : ℕ) (kinds : List (KindSeen V T)) → raised_by (all_kinds used count kinds) version ≡ raised_by kinds version
  all_raises Unused count version kinds = refl
  all_raises (Served request) count version kinds = refl
  all_raises (Faulted request) count version kinds = fault_raises count version kinds

-- the lock
module _ {V T : Type 0} where
  by_was : (next : Next V T) (call other : CallId) (owner : Option CallId) → owner_by next call owner ≡ Some other → other ≢ call → owner ≡ Some other
  by_was Waits call other owner is unlike = is
  by_was (Goes Stays at) call other owner is unlike = is
  by_was (Goes Takes at) call other owner is unlike = absurd (unlike (sym (same_some call other is)))
  by_was (Goes Frees at) call other owner is unlike = freed_was call other owner is
  by_was (Ends reply) call other owner is unlike = freed_was call other owner is
  by_was (Ceases place) call other owner is unlike = is

  after_was : (dies : Bool) (next : Next V T) (call other : CallId) (owner : Option CallId)
      → (if dies then freed_node call.node owner else owner_by next call owner) ≡ Some other → other ≢ call → owner ≡ Some other
  after_was true next call other owner is unlike = freed_node_was call.node other owner is
  after_was false next call other owner is unlike = by_was next call other owner is unlike

  -- the call's node had died before
  abbrev is_ceasing : Next V T → Bool
  is_ceasing (Ceases place) = true
  is_ceasing other = false

  ends_free : (dies : Bool) (next : Next V T) (reply : Reply V) (call : CallId) (owner : Option CallId) → Ended reply ≡ gave_by next → is_ceasing next ≡ false
      → (if dies then freed_node call.node owner else owner_by next call owner) ≡ Some call → ⊥
  ends_free true next reply call owner ends lives owns = node_freed call owner owns
  ends_free false Waits reply call owner ends lives owns = cc
  ends_free false (Goes move at) reply call owner ends lives owns = cc
  ends_free false (Ends given) reply call owner ends lives owns = not_freed call owner owns
  ends_free false (Ceases place) reply call owner ends lives owns = never (sym lives)

  ends_gone : (next : Next V T) (reply : Reply V) (at : At V T) → Ended reply ≡ gave_by next → at_by next at ≡ Gone
  ends_gone Waits reply at ends = cc
  ends_gone (Goes move to) reply at ends = cc
  ends_gone (Ends given) reply at ends = refl
  ends_gone (Ceases place) reply at ends = refl

module _ {V T M : Type 0} (r : Rules V T) (s : Store V M) (t : Turned V T) (gave : Progress (Reply V)) (turn : Turn r s t gave) where
  -- what the effect makes of the world
  abbrev pub made : World V T
  made = world_by (begin t) turn.effect

  pub turn_adds : AddsOwn t
  turn_adds =
      record { kinds = all_kinds turn.effect.folder t.world_after.tally.count turn.effect.kinds; added = ap (λ (w : World V T). w.history) turn.comes.world }

  owner_is : t.world_after.owner ≡ made.owner
  owner_is = ap (λ (w : World V T). w.owner) turn.comes.world

  pub turn_owner : (other : CallId) → t.world_after.owner ≡ Some other → other ≢ t.call.id → t.world.owner ≡ Some other
  turn_owner other owns unlike = after_was turn.effect.dies turn.effect.next t.call.id other t.world.owner (sym owner_is ∙ owns) unlike

  pub version_counts : t.world.version ≡ raises_of t.world.history → t.world_after.version ≡ raises_of t.world_after.history
  version_counts before =
      let used = turn.effect.folder in
      let kinds = turn.effect.kinds in
      let count = t.world_after.tally.count in
      let version : t.world_after.version ≡ raised_by kinds t.world.version = ap (λ (w : World V T). w.version) turn.comes.world in
      let history : raises_of t.world_after.history ≡ raises_of made.history = ap (λ (w : World V T). raises_of w.history) turn.comes.world in
      version
      ∙ ap (raised_by kinds) before
      ∙ sym (all_raises used count (raises_of t.world.history) kinds)
      ∙ sym (raises_added t.call.id (all_kinds used count kinds) t.world.history)
      ∙ sym history

-- a call whose node lives does not cease; one line is named, so that each is computed by itself
module _ {V T M : Type 0} (r : Rules V T) (s : Store V M) where
  row_goes_on : (w : World V T) (call : CallId) {at : At V T} {e : Effect V T} → Row r s w call at e → is_ceasing e.next ≡ false
  row_goes_on w call (waits another must) = refl
  row_goes_on w call other = refl

  living_go_on : (gone dies : Bool) (t : Turned V T) (e : Effect V T) → AllowedBy r s gone false dies t e → is_ceasing e.next ≡ false
  living_go_on true dies t e it = absurd it
  living_go_on false true t e it = rw it refl
  living_go_on false false t e it = row_goes_on t.world t.call.id it

module _ {V T M : Type 0} (r : Rules V T) (s : Store V M) (t : Turned V T) (reply : Reply V) (turn : Turn r s t (Ended reply)) where
  pub ended_is_gone : t.call_after.at ≡ Gone
  ended_is_gone = ap (λ (c : Call V T). c.at) turn.comes.call ∙ ends_gone turn.effect.next reply t.call.at turn.comes.given

  pub ended_owns_nothing : has_died_by (begin t) ≡ false → t.world_after.owner ≡ Some t.call.id → ⊥
  ended_owns_nothing lives owns =
      let goes_on : is_ceasing turn.effect.next ≡ false = living_go_on r s (is_gone t.call.at) (dies_now (begin t)) (begin t) turn.effect (rw lives at turn.allowed) in
      ends_free turn.effect.dies turn.effect.next reply t.call.id t.world.owner turn.comes.given goes_on (sym (owner_is r s t (Ended reply) turn) ∙ owns)

-- a call whose node had died is told where that stands, and nothing else changes
pub record Ceased {V T : Type 0} (t : Turned V T) (gave : Progress (Reply V)) : Type 0 where
  pub place : ℕ
  pub last : last_death t.call.id.node t.world.history ≡ Some place
  pub given : gave ≡ Ended (Failed (Died place))
  pub world : t.world_after ≡ t.world
  pub gone : t.call_after.at ≡ Gone

module _ {V T M : Type 0} (r : Rules V T) (s : Store V M) where
  dead_end : (gone dies : Bool) (t : Turned V T) (e : Effect V T) → AllowedBy r s gone true dies t e → EndsDead t e
  dead_end true dies t e it = absurd it
  dead_end false dies t e it = it

  ceased : (t : Turned V T) (gave : Progress (Reply V)) (e : Effect V T) → EndsDead (begin t) e → Comes (begin t) e gave → Ceased t gave
  ceased t gave e dead comes =
      let so = rw dead.is at comes in
      record { place = dead.place; last = dead.last; given = so.given; world = so.world; gone = ap (λ (c : Call V T). c.at) so.call }

  pub dead_turn_changes_nothing : (t : Turned V T) (gave : Progress (Reply V)) → Turn r s t gave → has_died_by (begin t) ≡ true → Ceased t gave
  dead_turn_changes_nothing t gave turn died =
      ceased t gave turn.effect (dead_end (is_gone t.call.at) (dies_now (begin t)) (begin t) turn.effect (rw died at turn.allowed)) turn.comes

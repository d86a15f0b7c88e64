-- A call goes on from turn to turn, and another one is new behind it.
use Rattle.std.proofs.Common.{◌≡◌, ◌∙◌, ◌⊎◌, inl, inr, ◌==◌, ◌&&◌, ◌<◌, nat_lt, true, false, List, [], ◌++◌, None, append_assoc, append-nil, refl, sym, ap, arith}
use Rattle.std.specs.List.{list_any}
use Rattle.std.proofs.lemmas.Bool.Decides.{nat_tests}
use Rattle.std.proofs.lemmas.List.Folds.{list_any-append}
use Rattle.store_traits.specs.declared.codec.Codec as codec_trait
use Rattle.store_traits.specs.declared.ids.CallId.{CallId}
use Rattle.store_traits.specs.declared.transform.Transform as transform_trait
use Rattle.folder_disk.specs.declared.folder.Folder as folder_trait
use Rattle.hist_journal.specs.declared.seen.EntrySeen.{EntrySeen}
use Rattle.hist_journal.specs.Kinds.{is_call}
use Rattle.shelf.specs.declared.store.Store.{Store}
use Rattle.shelf.specs.AddsNode.{is_among}
use Rattle.shelf.specs.CallOrder.{is_later}
use Rattle.shelf.specs.Entries.{is_any, is_own}
use Rattle.shelf.specs.Rules.{Rules}
use Rattle.shelf.specs.ShelfSeen.{ShelfSeen}
use Rattle.step_table.specs.declared.progress.Progress.{Progress}
use Rattle.step_table.specs.declared.progress.Progress.TheVariants.{Moved}
use Rattle.step_table.specs.Calls.{Ask, At, First, Reply}
use Rattle.step_table.specs.Turn.{Turn}
use Rattle.step_table.specs.World.{Turned}
use Rattle.node_core.specs.declared.origin.Origin.{Origin}
use Rattle.node_core.specs.Ready.{rules_seen}
use Rattle.node_core.specs.Step.{MayStep, StepsTo, TurnFrom}
use Rattle.node_core.specs.Views.{turned}
use Rattle.node_core.proofs.MovingLemmas.{moved_runs}
use Rattle.node_core.proofs.NewCalls.{new_is_ready}
use Rattle.node_core.proofs.SparingLemmas.{turn_adds_own}
use Rattle.node_core.specs.Ready.{Ready}
use Rattle.store_tests.specs.Alone.{GoesOn, IsNew, TellsOf}

-- the next call is of another client, or a later one of the same
abbrev pub Apart : CallId → CallId → Type 0
Apart call next = ((next.client.0 == call.client.0) ≡ false) ⊎ (call.number < next.number)

not_own : (call next : CallId) → Apart call next → (is_call next call && true) ≡ false
not_own call next (inl other) = grind (arith, nat_tests, other)
not_own call next (inr later) = grind (arith, nat_tests, later)

not_later : (call next : CallId) → Apart call next → ((next.client.0 == call.client.0) && nat_lt next.number call.number) ≡ false
not_later call next (inl other) = rw other refl
not_later call next (inr later) = grind (arith, nat_tests, later)

module _ {V T : Type 0} where
  -- nothing was told yet
  pub tells_nothing : (call : CallId) (list : List (EntrySeen V T)) → TellsOf call list list
  tells_nothing call list = record { more = []; added = sym (append-nil list); unseen = λ sees none. refl }

  -- where nothing has happened every call is new
  pub first_is_new : (call : CallId) (list : List (EntrySeen V T)) → list ≡ [] → IsNew call list
  first_is_new call list none = record { none = rw none refl; numbers = rw none refl }

  -- a new call is so still where a call apart from it was told of
  pub stays_new : (call next : CallId) (list now : List (EntrySeen V T)) → Apart call next → IsNew next list → TellsOf call list now → IsNew next now
  stays_new call next list now apart new told =
      record {
        none = rw told.added (list_any-append (is_own is_any next) list told.more ∙ rw (new.none, told.unseen (is_own is_any next) (λ kind. not_own call next apart)) refl);
        numbers = rw told.added (list_any-append (is_later next) list told.more ∙ rw (new.numbers, told.unseen (is_later next) (λ kind. not_later call next apart)) refl);
      }

-- the node of a call is one of a store that stays
pub still_among : {V M : Type 0} (call now : CallId) (s new : Store V M) → now ≡ call → new ≡ s → is_among call.node s.nodes ≡ true → is_among now.node new.nodes ≡ true
still_among call now s new same store node = rw (same, store) node

module _ {V T M : Type 0} (r : Rules V T) (s : Store V M) (t : Turned V T) (gave : Progress (Reply V)) (turn : Turn r s t gave) where
  -- nothing but of this call is told
  pub tells_more : (call : CallId) (list : List (EntrySeen V T)) → t.call.id ≡ call → TellsOf call list t.world.history → TellsOf call list t.world_after.history
  tells_more call list same told =
      let own = turn_adds_own r s t gave turn in
      record {
        more = told.more ++ own.more;
        added = own.added ∙ (ap (λ (xs : List (EntrySeen V T)). xs ++ own.more) told.added ∙ append_assoc list told.more own.more);
        unseen = λ sees none.
            (let later : list_any sees own.more ≡ false = own.unseen sees (rw same none) in
            list_any-append sees told.more own.more ∙ rw (told.unseen sees none, later) refl);
      }

module _ {C F V T : Type 0} (c : codec_trait.Ghosts C V) (t : transform_trait.Ghosts T V) (f : folder_trait.Ghosts F) where
  -- a new call may begin, whoever owns the lock
  pub new_goes_on : (call : CallId) (ask : Ask T) (s : ShelfSeen C F V T) → IsNew call s.list → is_among call.node s.store.nodes ≡ true → GoesOn c t f (record { call = call; since = None }) (First ask) s
  new_goes_on call ask s is_new node = record { runs = refl; node = node; ready = new_is_ready c t f call ask s is_new.none is_new.numbers }

  -- nothing happened since its last turn
  pub may_step : (origin : Origin) (at : At V T) (s : ShelfSeen C F V T) → Ready c t f origin at s → MayStep c t f origin at s
  may_step origin at s ready =
      record {
        last = s;
        ready = λ lives. ready;
        between =
            record { more = []; grew = sym (append-nil s.list); others = refl; numbers = refl; told = refl; held = λ holds. inl (record { owner = refl; scratch = λ told. refl; outer = refl }) };
        codec = refl;
        store = refl;
        kept = λ holds. inl (record { entries = refl; folder = refl });
      }

  -- a call that moved goes on
  pub goes_further : (origin origin_after : Origin) (at at_after : At V T) (old new : ShelfSeen C F V T) (gave : Progress (Reply V))
      → StepsTo c t f origin at old gave origin_after at_after new → gave ≡ Moved → GoesOn c t f origin at old → GoesOn c t f origin_after at_after new
  goes_further origin origin_after at at_after old new gave steps is before =
      let moved : TurnFrom c t f origin at old Moved origin_after at_after new = rw is at steps.turn in
      let runs = moved_runs (rules_seen c t f old) old.store (turned f origin at old origin_after at_after new) moved in
      record { runs = runs; node = still_among origin.call origin_after.call old.store new.store steps.call steps.store before.node; ready = steps.ready runs }

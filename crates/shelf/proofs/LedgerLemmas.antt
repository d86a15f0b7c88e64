-- A ledger with one more entry.
use Rattle.std.proofs.Common.{◌≡◌, ◌∙◌, ◌+◌, ◌≤◌, ◌⊎◌, inl, inr, ⊎_elim, ℕ, ◌==◌, Bool, true, false, ◌&&◌, ◌||◌, List, [], ◌∷◌, ◌++◌, Option, Some, None, unwrap_or, cond, length, length-append, refl, sym, ap, arith}
use Rattle.std.proofs.lemmas.Bool.{false_from_ne_true, or_parts}
use Rattle.store_traits.specs.declared.ids.CallId.{CallId}
use Rattle.store_traits.specs.declared.ids.NodeId.{NodeId}
use Rattle.file_lock.specs.Owner.{freed_node}
use Rattle.hist_journal.specs.declared.device.Device.TheVariants.{Folder}
use Rattle.hist_journal.specs.declared.seen.EntrySeen.{EntrySeen}
use Rattle.hist_journal.specs.declared.seen.KindSeen.{KindSeen}
use Rattle.hist_journal.specs.declared.seen.KindSeen.TheVariants.{Inited, Fault, Death, Restart}
use Rattle.hist_journal.specs.Folds.{edition_of, raises_of}
use Rattle.hist_journal.specs.Kinds.{is_call, is_change, is_death_of, is_fault, is_node, is_raise}
use Rattle.hist_journal.specs.Nodes.{death_mark, is_dead, is_ready, last_mark, mark_if, ready_mark}
use Rattle.hist_journal.specs.Quiet.{ends, pending, still_pending}
use Rattle.hist_journal.proofs.FoldLemmas.{edition_of-push, edition_of-le, edition_of-other, raises_of-le, raises_of-raise}
use Rattle.hist_journal.proofs.NodeLemmas.{is_dead-push, is_ready-push}
use Rattle.hist_journal.proofs.QuietLemmas.{pending-push}
use Rattle.shelf.specs.declared.node_table.NodeState.{NodeState}
use Rattle.shelf.specs.Deaths.{last_death}
use Rattle.shelf.specs.Ledger.{freed, freed_node_room, freed_room, is_inner}
use Rattle.shelf.specs.NodeStates.{death_place, has_dead, has_node, has_ready, ids}
use Rattle.shelf.specs.AddsNode.{is_among}
use Rattle.shelf.proofs.Bools.{never}
use Rattle.shelf.proofs.DeathLemmas.{is_dead-same, last_death-push, last_death-same}
use Rattle.shelf.proofs.PendingLemmas.{still_open}
use Rattle.shelf.proofs.SameCalls.{itself, same_call}

-- whoever owns the lock owns nothing once it is freed
pub freed_own : (call : CallId) (owner : Option CallId) → owner ≡ Some call → freed call owner ≡ None
freed_own call owner is = rw (is, itself call) refl

pub freed_room_own : (call : CallId) (owner : Option CallId) (room : ℕ) → owner ≡ Some call → freed_room call owner room ≡ 0
freed_room_own call owner room is = rw (is, itself call) refl

-- another owner stays
pub freed_other : (call : CallId) (owner : Option CallId) → (owner ≡ Some call → ⊥) → freed call owner ≡ owner
freed_other call None other = refl
freed_other call (Some owner) other = rw (false_from_ne_true (is_call call owner) (λ is. other (ap Some (sym (same_call call owner is))))) refl

pub freed_room_other : (call : CallId) (owner : Option CallId) (room : ℕ) → (owner ≡ Some call → ⊥) → freed_room call owner room ≡ room
freed_room_other call None room other = refl
freed_room_other call (Some owner) room other = rw (false_from_ne_true (is_call call owner) (λ is. other (ap Some (sym (same_call call owner is))))) refl

-- the room of the owner does not grow where a node dies
pub freed_node_room-le : (node : NodeId) (owner : Option CallId) (room : ℕ) → freed_node_room node owner room ≤ room
freed_node_room-le node None room = omega arith
freed_node_room-le node (Some owner) room = by_node (owner.node.0 == node.0)
  where
    by_node : (b : Bool) → cond b 0 room ≤ room
    by_node true = omega arith
    by_node false = omega arith

-- a mark of the node itself
marked : (b mark was : Bool) → unwrap_or (mark_if b mark) was ≡ cond b mark was
marked true mark was = refl
marked false mark was = refl

-- the lock of another node's call stays, where a node dies
freed_node_other : (node : NodeId) (call : CallId) → is_node call.node node ≡ false → freed_node node (Some call) ≡ Some call
freed_node_other node call apart = ap (λ b. cond b None (Some call)) apart

module _ {V T : Type 0} (list new : List (EntrySeen V T)) (e : EntrySeen V T) (is : new ≡ list ++ e ∷ []) where
  pub editions : (changes : ℕ) → changes ≡ cond (is_change e.kind) 1 0 → edition_of new ≡ edition_of list + changes
  editions changes so = rw is (edition_of-push list e) ∙ ap (λ n. edition_of list + n) (sym so)

  pub editions_fit : (edition changes : ℕ) → edition ≡ edition_of list → changes ≡ cond (is_change e.kind) 1 0 → edition + changes ≤ length new
  editions_fit edition changes same so = omega (arith, edition_of-le new, editions changes so)

  pub raises_fit : is_raise e.kind ≡ true → raises_of list + 1 ≤ length new
  raises_fit raises = omega (arith, raises_of-le new, ap raises_of is ∙ raises_of-raise list e raises)

  pub other_edition : is_change e.kind ≡ false → edition_of new ≡ edition_of list
  other_edition other = ap edition_of is ∙ edition_of-other list e other

  -- the open raise is that of the new entry, or the one that was open
  goes_on : (call : CallId) → pending new ≡ Some call → ((is_raise e.kind ≡ true) × (e.who ≡ call)) ⊎ ((pending list ≡ Some call) × (ends call e ≡ false))
  goes_on call open_now = by_kind (is_raise e.kind) refl (sym (ap pending is ∙ pending-push list e) ∙ open_now)
    where
      by_kind : (b : Bool) → is_raise e.kind ≡ b → cond b (Some e.who) (still_pending (λ (c : CallId). ends c e) (pending list)) ≡ Some call → ((is_raise e.kind ≡ true) × (e.who ≡ call)) ⊎ ((pending list ≡ Some call) × (ends call e ≡ false))
      by_kind true raises so = inl (raises, cc)
      by_kind false raises so = inr (still_open (λ (c : CallId). ends c e) (pending list) call so)

  module _ (owner : Option CallId) (quiet : (call : CallId) → pending list ≡ Some call → owner ≡ Some call) where
    -- an entry of the owner
    pub quiet_own : owner ≡ Some e.who → (call : CallId) → pending new ≡ Some call → owner ≡ Some call
    quiet_own own call open_now = ⊎_elim (λ raised. own ∙ ap Some raised.1) (λ was. quiet call was.0) (goes_on call open_now)

    -- an entry that is no Raise
    pub quiet_other : is_raise e.kind ≡ false → (call : CallId) → pending new ≡ Some call → owner ≡ Some call
    quiet_other other call open_now = ⊎_elim (λ raised. never (sym other ∙ raised.0)) (λ was. quiet call was.0) (goes_on call open_now)

    -- an entry that ends the owner's raise, and frees the lock
    pub quiet_ended : owner ≡ Some e.who → is_raise e.kind ≡ false → ends e.who e ≡ true → (call : CallId) → pending new ≡ Some call → None ≡ Some call
    quiet_ended own other ended call open_now =
        ⊎_elim
        (λ raised. never (sym other ∙ raised.0))
        (λ was. let same : e.who ≡ call = (let so : Some e.who ≡ Some call = sym own ∙ quiet call was.0 in cc) in never (sym was.1 ∙ (ap (λ (c : CallId). ends c e) (sym same) ∙ ended)))
        (goes_on call open_now)

    -- an entry that is no Raise, behind which the owner frees the lock while no raise of its is open
    pub quiet_freed : owner ≡ Some e.who → is_raise e.kind ≡ false → (pending list ≡ Some e.who → ⊥) → (call : CallId) → pending new ≡ Some call → None ≡ Some call
    quiet_freed own other ended call open_now =
        ⊎_elim
        (λ raised. never (sym other ∙ raised.0))
        (λ was. let so : Some call ≡ Some e.who = sym (quiet call was.0) ∙ own in absurd (ended (was.0 ∙ so)))
        (goes_on call open_now)

  -- an entry that makes no node ready or dead
  pub ready_other : (nodes : List NodeState) → ((node : NodeId) → has_ready node nodes ≡ is_ready node list) → ((node : NodeId) → ready_mark node e.kind ≡ None) → (node : NodeId) → has_ready node nodes ≡ is_ready node new
  ready_other nodes ready unmarked node = ready node ∙ sym (ap (is_ready node) is ∙ (is_ready-push node list e ∙ ap (λ mark. unwrap_or mark (is_ready node list)) (unmarked node)))

  pub dead_other : (nodes : List NodeState) → ((node : NodeId) → has_dead node nodes ≡ is_dead node list) → ((node : NodeId) → death_mark node e.kind ≡ None) → (node : NodeId) → has_dead node nodes ≡ is_dead node new
  dead_other nodes dead unmarked node = dead node ∙ sym (ap (is_dead node) is ∙ is_dead-same node list e (unmarked node))

  pub last_other : (nodes : List NodeState) → ((node : NodeId) → death_place node nodes ≡ last_death node list) → ((node : NodeId) → is_death_of node e.kind ≡ false) → (node : NodeId) → death_place node nodes ≡ last_death node new
  last_other nodes last spares node = last node ∙ sym (ap (last_death node) is ∙ last_death-same node list e (spares node))

  -- what becomes of a mark, where the entry marks one node
  marked_now : (mark : NodeId → KindSeen V T → Option Bool) (own : NodeId) (to was now : Bool) (node : NodeId) → mark node e.kind ≡ mark_if (is_node node own) to → now ≡ unwrap_or (mark node e.kind) was → now ≡ cond (is_node node own) to was
  marked_now mark own to was now node marks so = so ∙ (ap (λ m. unwrap_or m was) marks ∙ marked (is_node node own) to was)

  module _ (own : NodeId) (nodes after : List NodeState) where
    -- the entry makes the node ready, or not
    pub ready_marked : (to : Bool) → ((node : NodeId) → ready_mark node e.kind ≡ mark_if (is_node node own) to) → ((node : NodeId) → has_ready node nodes ≡ is_ready node list)
        → ((node : NodeId) → has_ready node after ≡ cond (is_node node own) to (has_ready node nodes)) → (node : NodeId) → has_ready node after ≡ is_ready node new
    ready_marked to marks ready makes node =
        makes node
        ∙ (ap (λ b. cond (is_node node own) to b) (ready node)
        ∙ sym (marked_now ready_mark own to (is_ready node list) (is_ready node new) node (marks node) (ap (is_ready node) is ∙ is_ready-push node list e)))

    -- or dead, or alive
    pub dead_marked : (to : Bool) → ((node : NodeId) → death_mark node e.kind ≡ mark_if (is_node node own) to) → ((node : NodeId) → has_dead node nodes ≡ is_dead node list)
        → ((node : NodeId) → has_dead node after ≡ cond (is_node node own) to (has_dead node nodes)) → (node : NodeId) → has_dead node after ≡ is_dead node new
    dead_marked to marks dead makes node =
        makes node
        ∙ (ap (λ b. cond (is_node node own) to b) (dead node)
        ∙ sym (marked_now death_mark own to (is_dead node list) (is_dead node new) node (marks node) (ap (is_dead node) is ∙ is_dead-push node list e)))

    -- the node dies by the entry
    pub last_killed : e.kind ≡ Death own → ((node : NodeId) → death_place node nodes ≡ last_death node list)
        → ((node : NodeId) → death_place node after ≡ cond (is_node node own) (Some (length new)) (death_place node nodes)) → (node : NodeId) → death_place node after ≡ last_death node new
    last_killed kind last makes node =
        let len : length new ≡ length list + 1 = ap length is ∙ length-append list (e ∷ []) in
        let now : last_death node new ≡ cond (is_node node own) (Some (length list + 1)) (last_death node list) =
        ap (last_death node) is ∙ (last_death-push node list e ∙ ap (λ k. cond (is_death_of node k) (Some (length list + 1)) (last_death node list)) kind) in
        makes node ∙ (ap (λ n. cond (is_node node own) (Some n) (death_place node nodes)) len ∙ (ap (λ o. cond (is_node node own) (Some (length list + 1)) o) (last node) ∙ sym now))

  -- the node of the entry dies, and its calls own nothing
  pub quiet_killed : (owner : Option CallId) (node : NodeId) → e.kind ≡ Death node → ((call : CallId) → pending list ≡ Some call → owner ≡ Some call) → (call : CallId) → pending new ≡ Some call → freed_node node owner ≡ Some call
  quiet_killed owner node kind quiet call open_now =
      ⊎_elim
      (λ raised. never (sym (ap is_raise kind) ∙ raised.0))
      (λ was.
      let apart = (or_parts (is_call call e.who && (is_change e.kind || is_fault e.kind)) (is_death_of call.node e.kind) was.1).1 in
      ap (freed_node node) (quiet call was.0) ∙ freed_node_other node call (sym (ap (is_death_of call.node) kind) ∙ apart))
      (goes_on call open_now)

  -- the pending call stays, where the entry is no Raise and ends nothing
  pub pending_other : is_raise e.kind ≡ false → ((call : CallId) → ends call e ≡ false) → pending new ≡ pending list
  pending_other other ends_nothing = ap pending is ∙ (pending-push list e ∙ (ap (λ b. cond b (Some e.who) (still_pending (λ (c : CallId). ends c e) (pending list))) other ∙ stays (pending list)))
    where
      stays : (was : Option CallId) → still_pending (λ (c : CallId). ends c e) was ≡ was
      stays None = refl
      stays (Some call) = ap (λ b. cond b None (Some call)) (ends_nothing call)

module _ {V T : Type 0} where
  pub inner_marks_nothing : (kind : KindSeen V T) → is_inner kind ≡ true → (node : NodeId) → ready_mark node kind ≡ None
  inner_marks_nothing (Inited made) is node = never is
  inner_marks_nothing (Death died) is node = never is
  inner_marks_nothing other is node = refl

  pub inner_kills_nothing : (kind : KindSeen V T) → is_inner kind ≡ true → (node : NodeId) → death_mark node kind ≡ None
  inner_kills_nothing (Death died) is node = never is
  inner_kills_nothing (Restart alive) is node = never is
  inner_kills_nothing other is node = refl

-- a Fault ends the raise of its call
pub fault_ends : (V T : Type 0) (call : CallId) (count : ℕ) → ends {V = V} {T = T} call (record { who = call; kind = Fault Folder count }) ≡ true
fault_ends V T call count = rw (itself call) refl

-- a Restart ends no raise
pub restart_ends_nothing : (V T : Type 0) (call who : CallId) (node : NodeId) → ends {V = V} {T = T} call (record { who = who; kind = Restart node }) ≡ false
restart_ends_nothing V T call who node = none_of (is_call call who)
  where
    none_of : (b : Bool) → ((b && (false || false)) || false) ≡ false
    none_of true = refl
    none_of false = refl

-- a node among those that a table has
pub has_node-ids : (node : NodeId) (states : List NodeState) → is_among node (ids states) ≡ has_node node states
has_node-ids node [] = refl
has_node-ids node (state ∷ states) = ap (λ b. is_node state.id node || b) (has_node-ids node states)

pub ids-push : (states : List NodeState) (state : NodeState) → ids (states ++ state ∷ []) ≡ ids states ++ state.id ∷ []
ids-push [] state = refl
ids-push (x ∷ xs) state = ap (λ rest. x.id ∷ rest) (ids-push xs state)

-- a ledger in which nothing has happened
module _ {V T : Type 0} (list : List (EntrySeen V T)) (is : list ≡ []) where
  pub no_editions : 0 ≡ edition_of list
  unfolding edition_of
  no_editions = rw is refl

  pub no_raise : {X : Type 0} (call : CallId) → pending list ≡ Some call → X
  unfolding pending
  no_raise call open_now = absurd (let no : None ≡ Some call = sym (ap pending is) ∙ open_now in cc)

  module _ (node : NodeId) (nodes : List NodeState) (none : nodes ≡ []) where
    pub none_ready : has_ready node nodes ≡ is_ready node list
    unfolding is_ready last_mark
    none_ready = rw (is, none) refl

    pub none_dead_yet : has_dead node nodes ≡ is_dead node list
    unfolding is_dead last_mark
    none_dead_yet = rw (is, none) refl

    pub none_died_yet : death_place node nodes ≡ last_death node list
    unfolding last_death
    none_died_yet = rw (is, none) refl

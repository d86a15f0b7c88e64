-- Who owns the lock once it is freed.
use Rattle.std.proofs.Common.{◌≡◌, ◌==◌, Bool, true, false, Option, Some, None, refl, sym, if◌then◌else◌}
use Rattle.std.proofs.lemmas.Bool.{eq-eqb}
use Rattle.store_traits.specs.declared.ids.CallId.{CallId}
use Rattle.store_traits.specs.declared.ids.NodeId.{NodeId}
use Rattle.file_lock.specs.Owner.{freed_node}
use Rattle.hist_journal.specs.Kinds.{is_call}
use Rattle.shelf.specs.Ledger.{freed}
use Rattle.shelf.proofs.Bools.{never}
use Rattle.shelf.proofs.SameCalls.{itself}

pub none_not_some : {A : Type 0} (a : A) → ◌≡◌ {A = Option A} None (Some a) → ⊥
none_not_some a same = cc

pub same_some : {A : Type 0} (a b : A) → Some a ≡ Some b → a ≡ b
same_some a b same = cc

-- whoever owns it then owned it before
was_by : (free : Bool) (owner other : CallId) → (if free then None else Some owner) ≡ Some other → Some owner ≡ Some other
was_by true owner other is = absurd (none_not_some other is)
was_by false owner other is = is

pub freed_was : (call other : CallId) (owner : Option CallId) → freed call owner ≡ Some other → owner ≡ Some other
freed_was call other None is = is
freed_was call other (Some owner) is = was_by (is_call call owner) owner other is

pub freed_node_was : (node : NodeId) (other : CallId) (owner : Option CallId) → freed_node node owner ≡ Some other → owner ≡ Some other
freed_node_was node other None is = is
freed_node_was node other (Some owner) is = was_by (owner.node.0 == node.0) owner other is

-- the call that is freed owns nothing
none_by : (own : Bool) (call owner : CallId) → (owner ≡ call → own ≡ true) → (if own then None else Some owner) ≡ Some call → ⊥
none_by true call owner is same = none_not_some call same
none_by false call owner is same = never (is (same_some owner call same))

pub not_freed : (call : CallId) (owner : Option CallId) → freed call owner ≡ Some call → ⊥
not_freed call None same = none_not_some call same
not_freed call (Some owner) same = none_by (is_call call owner) call owner (λ equal. rw equal (itself call)) same

pub node_freed : (call : CallId) (owner : Option CallId) → freed_node call.node owner ≡ Some call → ⊥
node_freed call None same = none_not_some call same
node_freed call (Some owner) same = none_by (owner.node.0 == call.node.0) call owner (λ equal. rw equal (eq-eqb call.node.0 call.node.0 refl)) same

-- whoever still owns it is of another node
apart_by : (own : Bool) (node : NodeId) (owner other : CallId) → (owner.node.0 == node.0) ≡ own → (if own then None else Some owner) ≡ Some other → (other.node.0 == node.0) ≡ false
apart_by true node owner other is left = absurd (none_not_some other left)
apart_by false node owner other is left = rw (sym (same_some owner other left)) is

pub freed_node_apart : (node : NodeId) (other : CallId) (owner : Option CallId) → freed_node node owner ≡ Some other → (other.node.0 == node.0) ≡ false
freed_node_apart node other None left = absurd (none_not_some other left)
freed_node_apart node other (Some owner) left = apart_by (owner.node.0 == node.0) node owner other refl left

-- another call keeps it
pub another_keeps : (free : Bool) (owner : CallId) → free ≡ false → (if free then None else Some owner) ≡ Some owner
another_keeps free owner is = rw is refl

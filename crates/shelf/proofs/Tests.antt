-- Statements with their tests, and how they are put together.
use Rattle.std.proofs.Common.{◌≡◌, ◌<◌, ◌≤◌, ◌⊎◌, ℕ, ◌==◌, nat_le, nat_lt, Bool, true, false, not, ◌&&◌, ◌||◌, List, Option, Some, None, refl, sym, ap, arith}
use Rattle.std.specs.Prelude.{IfSome}
use Rattle.std.specs.Bool.{Decides}
use Rattle.std.specs.Cmp.Lexicographic.{pointwise}
use Rattle.std.proofs.lemmas.Bool.Decides.{Decides-and, Decides-eqb, Decides-like, Decides-ltb, Decides-not, Decides-or, nat_tests, not_from_Decides}
use Rattle.std.proofs.lemmas.Slice.Eq.{slice_eq-Decides}
use Rattle.store_traits.specs.declared.ids.CallId.{CallId}
use Rattle.store_traits.specs.declared.ids.ClientId.{ClientId}
use Rattle.store_traits.specs.declared.ids.NodeId.{NodeId}
use Rattle.hist_journal.specs.Kinds.{is_call, is_node}
use Rattle.shelf.specs.Decided.{Decided}
use Rattle.shelf.proofs.Bools.{never}
use Rattle.shelf.proofs.SameCalls.{same_call, same_node}

-- what a test that was computed says
pub holds : {P : Type 0} (d : Decided P) → d.test ≡ true → P
holds d is = d.law.0 is

pub fails : {P : Type 0} (d : Decided P) → d.test ≡ false → P → ⊥
fails d is = not_from_Decides d.test d.law is

pub no_law : (b : Bool) → Decides (not b) (b ≡ false)
no_law true = (λ is. never is, λ is. never (sym is))
no_law false = (λ is. refl, λ is. refl)

pub if_so_law : {P Q : Type 0} (a b : Bool) → Decides a P → Decides b Q → Decides (not a || b) (P → Q)
if_so_law true b p q = (λ is it. q.0 is, λ all. q.1 (all (p.0 refl)))
if_so_law false b p q = (λ is it. never (p.1 it), λ all. refl)

pub none_law : {P : Type 0} → (P → ⊥) → Decides false P
none_law none = (λ is. never is, λ p. absurd (none p))

pub at_most_law : (a b : ℕ) → Decides (nat_le a b) (a ≤ b)
at_most_law a b = (λ is. grind (arith, nat_tests, is), λ is. grind (arith, nat_tests, is))

-- equations and orders that are tested at once
abbrev pub yes : (b : Bool) → Decided (b ≡ true)
yes b = record { test = b; law = (λ is. is, λ is. is) }

abbrev pub no : (b : Bool) → Decided (b ≡ false)
no b = record { test = not b; law = no_law b }

abbrev pub same_number : (a b : ℕ) → Decided (a ≡ b)
same_number a b = record { test = a == b; law = Decides-eqb a b }

abbrev pub less : (a b : ℕ) → Decided (a < b)
less a b = record { test = nat_lt a b; law = Decides-ltb a b }

abbrev pub at_most : (a b : ℕ) → Decided (a ≤ b)
at_most a b = record { test = nat_le a b; law = at_most_law a b }

abbrev pub same_bool : (a b : Bool) → Decided (a ≡ b)
same_bool true b = record { test = b; law = (λ is. sym is, λ is. sym is) }
same_bool false b = record { test = not b; law = (λ is. sym ((no_law b).0 is), λ is. (no_law b).1 (sym is)) }

pub node_law : (a b : NodeId) → Decides (is_node a b) (a ≡ b)
node_law a b = (same_node a b, λ is. rw is (grind arith))

abbrev pub one_node : (a b : NodeId) → Decided (a ≡ b)
one_node a b = record { test = is_node a b; law = node_law a b }

pub client_law : (a b : ClientId) → Decides (a.0 == b.0) (a ≡ b)
client_law a b = (λ is. let same : a.0 ≡ b.0 = (Decides-eqb a.0 b.0).0 is in ap (λ (n : ℕ). let client : ClientId = record { 0 = n } in client) same, λ is. (Decides-eqb a.0 b.0).1 (ap (λ (client : ClientId). client.0) is))

abbrev pub one_client : (a b : ClientId) → Decided (a ≡ b)
one_client a b = record { test = a.0 == b.0; law = client_law a b }

pub call_law : (a b : CallId) → Decides (is_call a b) (a ≡ b)
call_law a b = (same_call a b, λ is. rw is (grind arith))

abbrev pub one_call : (a b : CallId) → Decided (a ≡ b)
one_call a b = record { test = is_call a b; law = call_law a b }

module _ {P : Type 0} where
  abbrev pub sure : P → Decided P
  sure p = record { test = true; law = (λ is. p, λ p. refl) }

  abbrev pub none : (P → ⊥) → Decided P
  none not_so = record { test = false; law = none_law not_so }

  abbrev pub not_so : Decided P → Decided (P → ⊥)
  not_so p = record { test = not p.test; law = Decides-not p.test p.law }

module _ {P Q : Type 0} where
  abbrev pub both : Decided P → Decided Q → Decided (P × Q)
  both p q = record { test = p.test && q.test; law = Decides-and p.test q.test p.law q.law }

  abbrev pub either : Decided P → Decided Q → Decided (P ⊎ Q)
  either p q = record { test = p.test || q.test; law = Decides-or p.test q.test p.law q.law }

  abbrev pub if_so : Decided P → Decided Q → Decided (P → Q)
  if_so p q = record { test = not p.test || q.test; law = if_so_law p.test q.test p.law q.law }

  -- the same in other words
  abbrev pub like : (P → Q) → (Q → P) → Decided P → Decided Q
  like so of p = record { test = p.test; law = Decides-like p.test so of p.law }

module _ {X : Type 0} where
  abbrev pub if_some : (P : X → Type 0) → ((x : X) → Decided (P x)) → (o : Option X) → Decided (IfSome o P)
  if_some P one None = sure tt
  if_some P one (Some x) = one x

  pub not_some : (a : X) → ◌≡◌ {A = Option X} None (Some a) → ⊥
  not_some a is = cc

  pub inside : (a b : X) → ◌≡◌ {A = Option X} (Some a) (Some b) → a ≡ b
  inside a b is = cc

  abbrev pub is_none : (o : Option X) → Decided (o ≡ None)
  is_none None = sure refl
  is_none (Some x) = none (λ is. not_some x (sym is))

  module _ (same : (a b : X) → Decided (a ≡ b)) where
    abbrev pub same_list : (a b : List X) → Decided (a ≡ b)
    same_list a b = record { test = pointwise (λ x y. (same x y).test) a b; law = slice_eq-Decides (λ x y. (same x y).law) a b (pointwise (λ x y. (same x y).test) a b) refl }

    abbrev pub same_option : (a b : Option X) → Decided (a ≡ b)
    same_option None None = sure refl
    same_option (Some a) (Some b) = like (λ is. ap Some is) (inside a b) (same a b)
    same_option None (Some b) = none (not_some b)
    same_option (Some a) None = none (λ is. not_some a (sym is))

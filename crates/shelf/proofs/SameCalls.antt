-- Nodes and calls that are the same by their numbers.
use Rattle.std.proofs.Common.{◌≡◌, ℕ, true, refl, arith}
use Rattle.std.proofs.lemmas.Bool.{eqb-true}
use Rattle.std.proofs.lemmas.Bool.Decides.{nat_tests}
use Rattle.store_traits.specs.declared.ids.CallId.{CallId}
use Rattle.store_traits.specs.declared.ids.NodeId.{NodeId}
use Rattle.hist_journal.specs.Kinds.{is_call, is_node}

pub itself : (call : CallId) → is_call call call ≡ true
itself call = grind (arith, nat_tests)

abbrev numbered : ℕ → NodeId
numbered n = record { 0 = n }

pub same_node : (a b : NodeId) → is_node a b ≡ true → a ≡ b
same_node a b is = let number : a.0 ≡ b.0 = eqb-true a.0 b.0 is in let same : numbered a.0 ≡ numbered b.0 = rw number refl in same

abbrev named : ℕ → ℕ → ℕ → CallId
named node client number = record { node = record { 0 = node }; client = record { 0 = client }; number = number }

pub same_call : (a b : CallId) → is_call a b ≡ true → a ≡ b
same_call a b is =
    let node : a.node.0 ≡ b.node.0 = grind (arith, nat_tests, is) in
    let client : a.client.0 ≡ b.client.0 = grind (arith, nat_tests, is) in
    let number : a.number ≡ b.number = grind (arith, nat_tests, is) in
    let same : named a.node.0 a.client.0 a.number ≡ named b.node.0 b.client.0 b.number = rw (node, client, number) refl in
    same

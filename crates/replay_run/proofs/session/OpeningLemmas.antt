-- A session's start: its nodes and its clients.
use Rattle.std.proofs.Common.{◌≡◌, ◌∙◌, ◌+◌, ◌<◌, ◌≤◌, ◌==◌, ◌++◌, ℕ, suc, nat_lt, Bool, true, false, All, List, [], ◌∷◌, map, length, None, refl, get_or, take, vec_len, sym, ap, subst, arith}
use Rattle.std.specs.List.{enumerate_from, range_with_len}
use Rattle.std.proofs.lemmas.Bool.Decides.{nat_tests}
use Rattle.std.proofs.lemmas.List.{get_or-map, length-map, length-take-le, map_push, take_more}
use Rattle.std.proofs.lemmas.List.Elements.{All-map, All-push}
use Rattle.std.proofs.lemmas.List.Folds.{list_any_at, list_any_none}
use Rattle.std.proofs.lemmas.List.FromFn.{get_or-enumerate_from, get_or-map-range_with_len, length-enumerate_from, length-map-range_with_len}
use Rattle.store_traits.specs.declared.ids.NodeId.{NodeId}
use Rattle.shelf.specs.AddsNode.{is_among}
use Rattle.shelf.proofs.Bools.{never}
use Rattle.replay_run.specs.declared.client.Client as own
use Rattle.replay_run.specs.NewClients.{AreNew}
use Rattle.replay_run.specs.RunState.{Client}
use Rattle.replay_run.specs.SessionView.{client_seen}
use Rattle.replay_run.specs.ShelfOpens.{first_nodes}
use Rattle.replay_run.specs.Start.{new_client, new_clients}

abbrev numbered : ℕ → NodeId
numbered number = record { 0 = number }

abbrev placed_client : ℕ × NodeId → Client
placed_client placed = new_client [] placed.0 placed.1

node_at : (count place : ℕ) (d : NodeId) → place < count → get_or (first_nodes count) place d ≡ numbered place
node_at count place d below = get_or-map-range_with_len numbered 0 count place place d below (omega arith)

-- a node with a greater number is not among the first ones
pub not_among : (count : ℕ) (node : NodeId) → count ≤ node.0 → is_among node (first_nodes count) ≡ false
not_among count node behind =
    list_any_none (λ known. known.0 == node.0) (first_nodes count)
    (λ place d within.
    let below : place < count = omega (arith, within, length-map-range_with_len numbered 0 count) in
    let apart : (place == node.0) ≡ false = grind (arith, nat_tests, below, behind) in
    ap (λ (known : NodeId). known.0 == node.0) (node_at count place d below) ∙ apart)

-- and each with a smaller one is
pub among_first : (count : ℕ) (node : NodeId) → node.0 < count → is_among node (first_nodes count) ≡ true
among_first count node below =
    let same : (node.0 == node.0) ≡ true = grind (arith, nat_tests) in
    list_any_at (λ known. known.0 == node.0) (first_nodes count) node.0 node (omega (arith, below, length-map-range_with_len numbered 0 count))
    (ap (λ (known : NodeId). known.0 == node.0) (node_at count node.0 node below) ∙ same)

-- so a node that is among them has such a number
pub number_among : (count : ℕ) (node : NodeId) → is_among node (first_nodes count) ≡ true → node.0 < count
number_among count node is = by_test (nat_lt node.0 count) refl
  where
    by_test : (b : Bool) → nat_lt node.0 count ≡ b → node.0 < count
    by_test true below = grind (arith, nat_tests, below)
    by_test false past = never (sym (not_among count node (grind (arith, nat_tests, past))) ∙ is)

-- places of a list, as nodes
pub nodes_numbered : {X : Type 0} (first : ℕ) (xs : List X) → ◌≡◌ {A = List NodeId} (map (λ placed. numbered placed.0) (enumerate_from first xs)) (map numbered (range_with_len first (length xs)))
nodes_numbered first [] = refl
nodes_numbered first (x ∷ xs) = ap (λ (rest : List NodeId). numbered first ∷ rest) (nodes_numbered (first + 1) xs)

-- new clients are at home on their nodes
pub homes_are : (P : NodeId → Type 0) (clients : List own.Client) (homes : List NodeId) → map client_seen clients ≡ new_clients [] homes → All P homes → All (λ (client : own.Client). P client.node) clients
homes_are P clients homes seen all place d within =
    let At : Client → Type 0 = λ client. P client.node in
    let new : All At (new_clients [] homes) =
    All-map At placed_client (enumerate_from 0 homes)
    (λ place d within.
    let there : place < length homes = omega (arith, within, length-enumerate_from 0 homes) in
    subst P (sym (ap (λ (placed : ℕ × NodeId). placed.1) (get_or-enumerate_from 0 homes place d there))) (all place d.1 there)) in
    subst At (get_or-map client_seen clients place d (client_seen d) within) (subst (All At) (sym seen) new place (client_seen d) (omega (arith, within, length-map clients client_seen)))

numbered_more : {X : Type 0} (first : ℕ) (xs : List X) (x : X) → enumerate_from first (xs ++ x ∷ []) ≡ enumerate_from first xs ++ (first + length xs, x) ∷ []
numbered_more first [] x = let same : first ≡ first + 0 = omega arith in ap (λ n. (n, x) ∷ []) same
numbered_more first (y ∷ ys) x =
    let same : first + 1 + length ys ≡ first + suc (length ys) = omega arith in
    ap (λ rest. (first, y) ∷ rest) (numbered_more (first + 1) ys x) ∙ ap (λ n. (first, y) ∷ (enumerate_from (first + 1) ys ++ (n, x) ∷ [])) same

-- one more new client joins those of the nodes before
pub one_more : (homes : List NodeId) (place : ℕ) (d : NodeId) → place < length homes → (clients : List own.Client) (client : own.Client)
    → client ≡ record { id = record { 0 = place }; node = get_or homes place d; asked = client.asked; running = None; answered = client.answered } → client.asked.items ≡ [] → client.answered.items ≡ []
    → AreNew (take place homes) clients → AreNew (take (place + 1) homes) (clients ++ client ∷ [])
one_more homes place d within clients client is unasked unanswered new =
    let home : NodeId = get_or homes place d in
    let before : List NodeId = take place homes in
    let so_far : 0 + length before ≡ place = omega (arith, within, length-take-le place homes) in
    let none : length client.asked.items ≡ 0 = ap length unasked in
    let seen : client_seen client ≡ new_client [] place home = rw (ap (λ (c : own.Client). c.id) is, ap (λ (c : own.Client). c.node) is, ap (λ (c : own.Client). c.running) is, unasked, unanswered) refl in
    let all : new_clients [] (take (place + 1) homes) ≡ new_clients [] before ++ new_client [] place home ∷ [] =
    ap (new_clients []) (take_more homes place d within)
    ∙ (ap (map placed_client) (numbered_more 0 before home)
    ∙ (map_push placed_client (enumerate_from 0 before) (0 + length before, home) ∙ ap (λ n. new_clients [] before ++ new_client [] n home ∷ []) so_far)) in
    record {
      seen = map_push client_seen clients client ∙ (ap (λ list. list ++ client_seen client ∷ []) new.seen ∙ (ap (λ c. new_clients [] before ++ c ∷ []) seen ∙ sym all));
      rest = All-push (λ (client : own.Client). client.running ≡ None) clients client new.rest (ap (λ (c : own.Client). c.running) is);
      unasked = All-push (λ (client : own.Client). vec_len client.asked ≤ 0) clients client new.unasked (omega (arith, client.asked.ok.0, none));
    }

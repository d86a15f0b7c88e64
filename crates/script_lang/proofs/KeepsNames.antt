-- One name more keeps what is asked of names, and of what stands beside them.
use Rattle.std.proofs.Common.{ℕ, zero, suc, ◌≡◌, ◌+◌, ◌<◌, ◌⊎◌, ◌∙◌, List, [], ◌∷◌, ◌++◌, Some, length, ap, sym, refl, subst, inl, inr, ⊎_elim, arith, length-append}
use Rattle.std.specs.Prelude.{All, Contains, slice_get}
use Rattle.std.proofs.lemmas.List.Elements.{All-push, All-weaker, Contains-push_cases}
use Rattle.store_traits.specs.declared.ids.NodeId.{NodeId}
use Rattle.shelf.specs.declared.store.PlannedDeath.{PlannedDeath}
use Rattle.script_words.specs.Names.{IsName, reserved}
use Rattle.script_lang.specs.Keeps.{CanName, KeepsDeath, KeepsHomes, KeepsNames, StandOnce}
use Rattle.script_lang.proofs.NameLemmas.{Contains-from_slice_get, slice_get-push_before}

-- at each place of a longer list stands what stood there, or the last
pub slice_get-push_cases : {X : Type 0} (xs : List X) (y x : X) (i : ℕ) → slice_get (xs ++ y ∷ []) i ≡ Some x → (slice_get xs i ≡ Some x) ⊎ ((i ≡ length xs) × (y ≡ x))
slice_get-push_cases [] y x zero e = inr (refl, cc)
slice_get-push_cases [] y x (suc i) e = cc
slice_get-push_cases (z ∷ xs) y x zero e = inl e
slice_get-push_cases (z ∷ xs) y x (suc i) e =
    ⊎_elim (λ before. inl before) (λ last. let place : i ≡ length xs = last.0 in inr (ap (λ n. suc n) place, last.1)) (slice_get-push_cases xs y x i e)

once_more : (names : List (List ℕ)) (new : List ℕ) → StandOnce names → ¬ Contains names new → StandOnce (names ++ new ∷ [])
once_more names new once fresh i j name at_i at_j =
    ⊎_elim
    (λ i_before. ⊎_elim (λ j_before. once i j name i_before j_before)
    (λ j_last. absurd (fresh (let P : List ℕ → Type 0 = λ n. Contains names n in subst P (sym j_last.1) (Contains-from_slice_get names name i i_before)))) (slice_get-push_cases names new name j at_j))
    (λ i_last. ⊎_elim (λ j_before. absurd (fresh (let P : List ℕ → Type 0 = λ n. Contains names n in subst P (sym i_last.1) (Contains-from_slice_get names name j j_before))))
    (λ j_last. i_last.0 ∙ sym j_last.0) (slice_get-push_cases names new name j at_j))
    (slice_get-push_cases names new name i at_i)

pub node_keeps : (nodes clients : List (List ℕ)) (name : List ℕ) → KeepsNames nodes clients → length nodes < 16 → IsName name → ¬ (Contains reserved name ⊎ (Contains nodes name ⊎ Contains clients name)) → KeepsNames (nodes ++ name ∷ []) clients
node_keeps nodes clients name keeps few is_name fresh =
    record {
      nodes_named = All-push CanName nodes name keeps.nodes_named (record { formed = is_name; free = λ has. fresh (inl has) });
      clients_named = keeps.clients_named;
      nodes_once = once_more nodes name keeps.nodes_once (λ has. fresh (inr (inl has)));
      clients_once = keeps.clients_once;
      apart = λ other has of_client. ⊎_elim (λ before. keeps.apart other before of_client)
          (λ same. let P : List ℕ → Type 0 = λ n. Contains clients n in fresh (inr (inr (subst P (sym same) of_client)))) (Contains-push_cases nodes name other has);
      few_nodes = omega (arith, length-append nodes (name ∷ []));
      few_clients = keeps.few_clients;
    }

pub client_keeps : (nodes clients : List (List ℕ)) (name : List ℕ) → KeepsNames nodes clients → length clients < 64 → IsName name → ¬ (Contains reserved name ⊎ (Contains nodes name ⊎ Contains clients name)) → KeepsNames nodes (clients ++ name ∷ [])
client_keeps nodes clients name keeps few is_name fresh =
    record {
      nodes_named = keeps.nodes_named;
      clients_named = All-push CanName clients name keeps.clients_named (record { formed = is_name; free = λ has. fresh (inl has) });
      nodes_once = keeps.nodes_once;
      clients_once = once_more clients name keeps.clients_once (λ has. fresh (inr (inr has)));
      apart = λ other of_node has. ⊎_elim (λ before. keeps.apart other of_node before)
          (λ same. let P : List ℕ → Type 0 = λ n. Contains nodes n in fresh (inr (inl (subst P (sym same) of_node)))) (Contains-push_cases clients name other has);
      few_nodes = keeps.few_nodes;
      few_clients = omega (arith, length-append clients (name ∷ []));
    }

-- more nodes, and one client more with its home
pub homes_of_more_nodes : (nodes clients : List (List ℕ)) (homes : List NodeId) (name : List ℕ) → KeepsHomes nodes clients homes → KeepsHomes (nodes ++ name ∷ []) clients homes
homes_of_more_nodes nodes clients homes name keeps = record {
  one_each = keeps.one_each;
  declared = All-weaker (λ (home : NodeId). home.0 < length nodes) (λ (home : NodeId). home.0 < length (nodes ++ name ∷ [])) (λ home within. omega (arith, length-append nodes (name ∷ []), within)) homes keeps.declared;
}

pub one_home_more : (nodes clients : List (List ℕ)) (homes : List NodeId) (name : List ℕ) (home : NodeId) → KeepsHomes nodes clients homes → home.0 < length nodes → KeepsHomes nodes (clients ++ name ∷ []) (homes ++ home ∷ [])
one_home_more nodes clients homes name home keeps within =
    let same : length homes ≡ length clients = keeps.one_each in
    record {
      one_each = length-append homes (home ∷ []) ∙ ap (λ n. n + 1) same ∙ sym (length-append clients (name ∷ []));
      declared = All-push (λ (h : NodeId). h.0 < length nodes) homes home keeps.declared within;
    }

pub deaths_of_more_homes : (homes : List NodeId) (home : NodeId) (deaths : List PlannedDeath) → All (KeepsDeath homes) deaths → All (KeepsDeath (homes ++ home ∷ [])) deaths
deaths_of_more_homes homes home deaths =
    All-weaker (KeepsDeath homes) (KeepsDeath (homes ++ home ∷ []))
    (λ death kept. record { home = slice_get-push_before homes home death.call.node death.call.client.0 kept.home; first = kept.first; few = kept.few; step = kept.step }) deaths

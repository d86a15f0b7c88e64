-- What holds of the clients once one of them is another.
use Rattle.std.proofs.Common.{◌≡◌, ◌∙◌, ◌≤◌, ◌<◌, ◌==◌, ℕ, Bool, true, false, List, All, Some, slice_get, slice_set, refl, sym, ap, arith}
use Rattle.std.proofs.lemmas.Bool.{eq-eqb, eqb-true}
use Rattle.std.proofs.lemmas.List.Elements.{All-weaker}
use Rattle.store_traits.specs.declared.ids.CallId.{CallId}
use Rattle.prefs_text.specs.EntryText.{PrefEntry}
use Rattle.shelf.specs.Deaths.{has_died}
use Rattle.shelf.proofs.Bools.{never}
use Rattle.replay_run.specs.RunInvariant.{HasOwner, IsOfCall, begun}
use Rattle.replay_run.specs.RunState.{Client, call_at}
use Rattle.replay_run.proofs.lists.OptionLemmas.{one_of_it}
use Rattle.replay_run.proofs.lists.SetLemmas.{others_found, set_found}
use Rattle.replay_run.proofs.lists.SetViews.{all_found, all_set}

module _ (clients : List Client) (place : ℕ) (client now : Client) (found : slice_get clients place ≡ Some client) where
  abbrev pub replaced : List Client
  replaced = slice_set clients place now

  module _ (calls : (nth : ℕ) → call_at now nth ≡ call_at client nth) (more : begun client ≤ begun now) where
    -- an entry of a call that had begun is of one that has
    entry_on : (e : PrefEntry) → IsOfCall clients e → IsOfCall replaced e
    entry_on e of = by_place (e.who.client.0 == place) refl
      where
        by_place : (b : Bool) → (e.who.client.0 == place) ≡ b → IsOfCall replaced e
        by_place true is =
            let here : e.who.client.0 ≡ place = eqb-true e.who.client.0 place is in
            let same : of.client ≡ client = one_of_it (slice_get clients place) of.client client (rw (← here) of.found) found in
            let before : of.place < begun client = rw same at of.begun in
            record { client = now; found = rw here (set_found clients place now client found); place = of.place; who = of.who ∙ rw (same, calls of.place) refl; begun = omega (arith, before, more) }
        by_place false is =
            let apart : e.who.client.0 ≡ place → ⊥ = λ same. never (sym is ∙ eq-eqb e.who.client.0 place same) in
            record { client = of.client; found = others_found clients place e.who.client.0 now apart ∙ of.found; place = of.place; who = of.who; begun = of.begun }

    pub entries_on : (list : List PrefEntry) → All (IsOfCall clients) list → All (IsOfCall replaced) list
    entries_on list all = All-weaker (IsOfCall clients) (IsOfCall replaced) entry_on list all

  -- each client's node has its cache still
  pub homes_on : now.node ≡ client.node → (caches : ℕ) → All (λ client. client.node.0 < caches) clients → All (λ client. client.node.0 < caches) replaced
  homes_on same caches all =
      let here = all_found (λ client. client.node.0 < caches) clients place client found all in
      all_set (λ client. client.node.0 < caches) clients place now (rw same here) (λ other c apart is. all_found (λ client. client.node.0 < caches) clients other c is all)

  -- an owner at another place is one still, where its node has not died since
  pub owner_apart : (list list_after : List PrefEntry) (owner : CallId) → (it : HasOwner clients list owner) → (it.place ≡ place → ⊥) → has_died it.call.id.node it.call.since list_after ≡ false → HasOwner replaced list_after owner
  owner_apart list list_after owner it apart lives =
      record { place = it.place; client = it.client; call = it.call; found = others_found clients place it.place now apart ∙ it.found; runs = it.runs; own = it.own; holds = it.holds; lives = lives }

  -- and each is where the client has the same call
  pub owner_stays : now.running ≡ client.running → (list : List PrefEntry) (owner : CallId) → HasOwner clients list owner → HasOwner replaced list owner
  owner_stays same list owner it = by_place (it.place == place) refl
    where
      by_place : (b : Bool) → (it.place == place) ≡ b → HasOwner replaced list owner
      by_place true is =
          let here : it.place ≡ place = eqb-true it.place place is in
          let is_client : client ≡ it.client = one_of_it (slice_get clients place) client it.client found (rw (← here) it.found) in
          record { place = place; client = now; call = it.call; found = set_found clients place now client found; runs = same ∙ (ap (λ (c : Client). c.running) is_client ∙ it.runs); own = it.own; holds = it.holds; lives = it.lives }
      by_place false is = owner_apart list list owner it (λ same. never (sym is ∙ eq-eqb it.place place same)) it.lives

-- A call that goes on: what may be its next entry.
use Rattle.std.proofs.Common.{◌≡◌, ◌∙◌, Bool, true, false, ◌||◌, ◌&&◌, ◌==◌, not, List, [], ◌∷◌, ◌++◌, None, unwrap_or, refl, sym, ap}
use Rattle.std.specs.List.{list_any}
use Rattle.std.proofs.lemmas.Bool.{and_right}
use Rattle.store_traits.specs.declared.ids.CallId.{CallId}
use Rattle.hist_journal.specs.declared.device.Device.TheVariants.{Folder}
use Rattle.hist_journal.specs.declared.seen.BaseSeen.TheVariants.{Held}
use Rattle.hist_journal.specs.declared.seen.EntrySeen.{EntrySeen}
use Rattle.hist_journal.specs.declared.seen.KindSeen.{KindSeen}
use Rattle.hist_journal.specs.declared.seen.KindSeen.TheVariants.{Raise, Edit, Same, Synced, Inited, Fault}
use Rattle.hist_journal.specs.Nodes.{death_mark, is_dead, is_ready, last_mark}
use Rattle.hist_journal.proofs.NodeLemmas.{is_dead-push}
use Rattle.shelf.specs.declared.store.Store.{Store}
use Rattle.shelf.specs.CallOrder.{KeepsOrder, is_ended_update, is_later}
use Rattle.shelf.specs.Changes.{ChangesValue, KeepsValue}
use Rattle.shelf.specs.Entries.{some_entry, is_any, is_fault_or_death, is_own, is_update}
use Rattle.shelf.specs.Legal.{Fits, value_at}
use Rattle.shelf.specs.Meanings.{Meanings}
use Rattle.shelf.specs.OpenRaise.{has_open_raise}
use Rattle.shelf.specs.ShelfTurns.{FaultFits}
use Rattle.shelf.proofs.Bools.{never, not_later, one_more}
use Rattle.shelf.proofs.LateCallLemmas.{EndsOn, late_synced_fits, late_fault}
use Rattle.shelf.proofs.PendingLemmas.{has_open_raise-push}
use Rattle.shelf.proofs.SameCalls.{itself}

module _ {V T : Type 0} (call : CallId) where
  -- its node lives, no later call of its client has an entry, and neither a Fault, a Death nor an update of it stands
  pub record GoesOn (list : List (EntrySeen V T)) : Type 0 where
    pub lives : is_dead call.node list ≡ false
    pub numbers : list_any (is_later call) list ≡ false
    pub unended : list_any (is_own is_fault_or_death call) list ≡ false
    pub unchanged : list_any (is_own is_update call) list ≡ false

  -- the call is about to change the value, or not yet
  abbrev pub is_early : KindSeen V T → Bool
  is_early Raise = true
  is_early (Inited node) = true
  is_early other = false

  early_ends_nothing : (kind : KindSeen V T) → is_early kind ≡ true → is_fault_or_death kind ≡ false
  early_ends_nothing Raise early = refl
  early_ends_nothing (Inited node) early = refl
  early_ends_nothing other early = never early

  early_updates_nothing : (kind : KindSeen V T) → is_early kind ≡ true → is_update kind ≡ false
  early_updates_nothing Raise early = refl
  early_updates_nothing (Inited node) early = refl
  early_updates_nothing other early = never early

  early_kills_nothing : (kind : KindSeen V T) → is_early kind ≡ true → death_mark call.node kind ≡ None
  early_kills_nothing Raise early = refl
  early_kills_nothing (Inited node) early = refl
  early_kills_nothing other early = never early

  -- it still goes on behind a Raise or an Inited
  pub GoesOn-push : (list : List (EntrySeen V T)) (kind : KindSeen V T) → is_early kind ≡ true → GoesOn list → GoesOn (list ++ record { who = call; kind = kind } ∷ [])
  GoesOn-push list kind early g =
      let e : EntrySeen V T = record { who = call; kind = kind } in
      record {
        lives = is_dead-push call.node list e ∙ (ap (λ mark. unwrap_or mark (is_dead call.node list)) (early_kills_nothing kind early) ∙ g.lives);
        numbers = one_more (is_later call) list e g.numbers (not_later (call.client.0 == call.client.0) call.number);
        unended = one_more (is_own is_fault_or_death call) list e g.unended (and_right _ _ (early_ends_nothing kind early));
        unchanged = one_more (is_own is_update call) list e g.unchanged (and_right _ _ (early_updates_nothing kind early));
      }

  -- a call of which nothing is told yet
  pub GoesOn-empty : GoesOn []
  unfolding is_dead last_mark
  GoesOn-empty = record { lives = refl; numbers = refl; unended = refl; unchanged = refl }

  ordered : (list : List (EntrySeen V T)) (kind : KindSeen V T) → GoesOn list → KeepsOrder list (record { who = call; kind = kind })
  ordered list kind g = record { numbers = g.numbers; goes_on = g.unended; update = λ has. never (sym g.unchanged ∙ has) }

  -- the update has nothing of its call behind it
  pub none_ended : (list : List (EntrySeen V T)) → list_any (is_own is_update call) list ≡ false → some_entry (is_ended_update call) list ≡ false
  none_ended [] none = refl
  none_ended (e ∷ es) none = by_head (is_own is_update call e) (list_any (is_own is_any call) es) (list_any (is_own is_update call) es) (some_entry (is_ended_update call) es) none (none_ended es)
    where
      by_head : (update behind updates ended : Bool) → (update || updates) ≡ false → (updates ≡ false → ended ≡ false) → ((update && behind) || ended) ≡ false
      by_head true behind updates ended none rest = absurd cc
      by_head false behind updates ended none rest = rest none

  pub none_ended-push : (list : List (EntrySeen V T)) (last : EntrySeen V T) → list_any (is_own is_update call) list ≡ false → some_entry (is_ended_update call) (list ++ last ∷ []) ≡ false
  none_ended-push [] last none = by_last (is_own is_update call last)
    where
      by_last : (update : Bool) → ((update && false) || false) ≡ false
      by_last true = refl
      by_last false = refl
  none_ended-push (e ∷ es) last none =
      by_head (is_own is_update call e) (list_any (is_own is_any call) (es ++ last ∷ [])) (list_any (is_own is_update call) es) (some_entry (is_ended_update call) (es ++ last ∷ [])) none (none_ended-push es last)
    where
      by_head : (update behind updates ended : Bool) → (update || updates) ≡ false → (updates ≡ false → ended ≡ false) → ((update && behind) || ended) ≡ false
      by_head true behind updates ended none rest = absurd cc
      by_head false behind updates ended none rest = rest none

  update_ends_nothing : (kind : KindSeen V T) → is_update kind ≡ true → is_fault_or_death kind ≡ false
  update_ends_nothing (Edit t) update = refl
  update_ends_nothing (Same t) update = refl
  update_ends_nothing other update = never update

  update_kills_nothing : (kind : KindSeen V T) → is_update kind ≡ true → death_mark call.node kind ≡ None
  update_kills_nothing (Edit t) update = refl
  update_kills_nothing (Same t) update = refl
  update_kills_nothing other update = never update

  -- behind its update the call ends
  pub ends_on_update : (list : List (EntrySeen V T)) (kind : KindSeen V T) → GoesOn list → is_update kind ≡ true → EndsOn call (list ++ record { who = call; kind = kind } ∷ [])
  ends_on_update list kind g update =
      let e : EntrySeen V T = record { who = call; kind = kind } in
      record {
        lives = is_dead-push call.node list e ∙ (ap (λ mark. unwrap_or mark (is_dead call.node list)) (update_kills_nothing kind update) ∙ g.lives);
        numbers = one_more (is_later call) list e g.numbers (not_later (call.client.0 == call.client.0) call.number);
        unended = one_more (is_own is_fault_or_death call) list e g.unended (and_right _ _ (update_ends_nothing kind update));
        first = none_ended-push list e g.unchanged;
      }

  module _ {M : Type 0} (m : Meanings V T) (s : Store V M) (list : List (EntrySeen V T)) (g : GoesOn list) where
    pub raise_fits : Fits m s list (record { who = call; kind = Raise })
    raise_fits = record { value = tt; raised = never; lifetimes = record { lives = g.lives; named = tt }; order = ordered list Raise g; readiness = tt; settings = tt; counts = tt }

    pub fault_fits : FaultFits m s call list
    fault_fits =
        λ count rose.
        record { value = tt; raised = never; lifetimes = record { lives = g.lives; named = tt }; order = ordered list (Fault Folder count) g; readiness = tt; settings = tt; counts = rose }

    pub inited_fits : (v : V) → value_at m s list ≡ Held v → is_ready call.node list ≡ false → Fits m s list (record { who = call; kind = Inited call.node })
    inited_fits v held unready =
        record {
          value = tt;
          raised = never;
          lifetimes = record { lives = g.lives; named = tt };
          order = ordered list (Inited call.node) g;
          readiness = record { named = refl; unready = unready; readable = v; held = held };
          settings = tt;
          counts = tt;
        }

    pub edit_fits : (t : T) → has_open_raise call list ≡ true → is_ready call.node list ≡ true → ChangesValue m.after s.handler (value_at m s list) t → Fits m s list (record { who = call; kind = Edit t })
    edit_fits t opened ready changes =
        record { value = changes; raised = λ change. opened; lifetimes = record { lives = g.lives; named = tt }; order = ordered list (Edit t) g; readiness = ready; settings = tt; counts = tt }

    pub same_fits : (t : T) → is_ready call.node list ≡ true → KeepsValue m.after s.handler (value_at m s list) t → Fits m s list (record { who = call; kind = Same t })
    same_fits t ready keeps =
        record { value = keeps; raised = never; lifetimes = record { lives = g.lives; named = tt }; order = ordered list (Same t) g; readiness = ready; settings = tt; counts = tt }

    -- what ends an update whose entry is the last one
    module _ (kind : KindSeen V T) (update : is_update kind ≡ true) where
      pub synced_fits : Fits m s (list ++ record { who = call; kind = kind } ∷ []) (record { who = call; kind = Synced })
      synced_fits = late_synced_fits call m s (list ++ record { who = call; kind = kind } ∷ []) (ends_on_update list kind g update)

      pub late_fault_fits : FaultFits m s call (list ++ record { who = call; kind = kind } ∷ [])
      late_fault_fits = late_fault call m s (list ++ record { who = call; kind = kind } ∷ []) (ends_on_update list kind g update)

  -- a Raise is open behind itself
  pub raise_opens : (list : List (EntrySeen V T)) → has_open_raise call (list ++ record { who = call; kind = Raise } ∷ []) ≡ true
  raise_opens list = has_open_raise-push call list (record { who = call; kind = Raise }) ∙ rw (itself call) (either (has_open_raise call list && not true))
    where
      either : (b : Bool) → (b || true) ≡ true
      either true = refl
      either false = refl

-- A client whose node is dead has told of nothing behind the death.
use Rattle.std.proofs.Common.{◌≡◌, ◌∙◌, ◌||◌, Bool, true, false, List, [], ◌∷◌, ◌++◌, All, None, append_assoc, refl, sym, ap, subst}
use Rattle.std.specs.List.{list_any}
use Rattle.std.proofs.lemmas.Bool.{or_parts}
use Rattle.std.proofs.lemmas.List.Folds.{list_any-append, list_any_none}
use Rattle.store_traits.specs.declared.ids.CallId.{CallId}
use Rattle.hist_journal.specs.Kinds.{is_death_of}
use Rattle.hist_journal.specs.Nodes.{is_dead}
use Rattle.prefs_text.specs.EntryText.{PrefEntry}
use Rattle.shelf.specs.Deaths.{has_died}
use Rattle.shelf.specs.Each.{Each}
use Rattle.shelf.specs.Meanwhile.{NoDeathOf}
use Rattle.shelf.specs.Places.{is_up_to}
use Rattle.shelf.proofs.Bools.{never}
use Rattle.node_core.specs.Silence.{IsSilent}
use Rattle.step_table.proofs.GrowingDeaths.{still_lives}
use Rattle.replay_run.proofs.lists.JoinedLemmas.{all_each}
use Rattle.replay_run.proofs.lists.StandLemmas.{all_at}

first_so : (b : Bool) → (b || false) ≡ true → b ≡ true
first_so true is = refl
first_so false is = is

module _ (call : CallId) (list : List PrefEntry) (living : Each (λ before e. is_dead e.who.node before ≡ false) list) (home : All (λ e. is_up_to call e ≡ true → e.who.node ≡ call.node) list) where
  module _ (dead : is_dead call.node list ≡ true) (front back : List PrefEntry) (is : list ≡ front ++ back) (last : NoDeathOf call.node back) where
    -- in front of those behind the last Death the node was dead
    was_dead : is_dead call.node front ≡ false → ⊥
    was_dead lives =
        let still = still_lives call.node None front back last (rw lives refl) in
        let parts = or_parts (is_dead call.node (front ++ back)) false still in
        never (sym parts.0 ∙ (ap (is_dead call.node) (sym is) ∙ dead))

  not_ours : is_dead call.node list ≡ true → (front : List PrefEntry) (e : PrefEntry) (behind : List PrefEntry) → list ≡ front ++ e ∷ behind → NoDeathOf call.node (e ∷ behind) → is_up_to call e ≡ false
  not_ours dead front e behind is last = by_test (is_up_to call e) refl
    where
      by_test : (b : Bool) → is_up_to call e ≡ b → b ≡ false
      by_test false other = refl
      by_test true ours =
          let node : e.who.node ≡ call.node = all_at (λ e. is_up_to call e ≡ true → e.who.node ≡ call.node) front e behind (subst (λ list. All (λ e. is_up_to call e ≡ true → e.who.node ≡ call.node) list) is home) ours in
          absurd (was_dead dead front (e ∷ behind) is last (subst (λ node. is_dead node front ≡ false) node (living front e behind is)))

  dead_silent : is_dead call.node list ≡ true → IsSilent call list
  dead_silent dead place death last =
      list_any_none (is_up_to call) death.behind
      (all_each (λ e. is_up_to call e ≡ false) [] death.behind
      (λ front e behind is.
      let whole = death.is ∙ (ap (λ xs. death.before ++ death.entry ∷ xs) is ∙ sym (append_assoc death.before (death.entry ∷ front) (e ∷ behind))) in
      let ours : PrefEntry → Bool = λ e. is_death_of call.node e.kind in
      let parts = or_parts (list_any ours front) (list_any ours (e ∷ behind)) (sym (list_any-append ours front (e ∷ behind)) ∙ (ap (list_any ours) (sym is) ∙ last)) in
      not_ours dead (death.before ++ death.entry ∷ front) e behind whole parts.1))

  -- so a call that is to begin is silent
  pub new_silent : has_died call.node None list ≡ true → IsSilent call list
  new_silent died = dead_silent (first_so (is_dead call.node list) died)

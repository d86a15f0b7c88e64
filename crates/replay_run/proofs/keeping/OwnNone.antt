-- Of which kinds a call has no entry, by its next step.
use Rattle.std.proofs.Common.{◌≡◌, Bool, false, List, ◌∷◌, refl, sym}
use Rattle.std.specs.List.{list_any}
use Rattle.std.proofs.lemmas.Bool.{and_right}
use Rattle.store_traits.specs.declared.ids.CallId.{CallId}
use Rattle.hist_journal.specs.declared.seen.KindSeen.TheVariants.{Edit, Inited, Raise}
use Rattle.hist_journal.specs.Kinds.{is_call}
use Rattle.prefs_text.specs.EntryText.{PrefEntry, PrefKind}
use Rattle.shelf.specs.Entries.{is_death, is_own}
use Rattle.shelf.proofs.Bools.{never, none_in_both}
use Rattle.shelf.proofs.CauseLemmas.{no_kind}
use Rattle.step_table.specs.Calls.{At, Changed, SyncingFolder}
use Rattle.node_core.specs.Own.{IsEarly, OwnEntries, is_late}
use Rattle.node_core.proofs.EarlyLemmas.{none_late}
use Rattle.script_lang.specs.GoodFailures.{is_edit}
use Rattle.script_lang.specs.GoodUpdates.{is_restart}
use Rattle.replay_run.specs.Settings.{Change, Value}

death_is_late : (kind : PrefKind) → is_late kind ≡ false → is_death kind ≡ false
death_is_late Raise early = refl
death_is_late (Inited node) early = refl
death_is_late other early = never (sym early)

restart_is_late : (kind : PrefKind) → is_late kind ≡ false → is_restart kind ≡ false
restart_is_late Raise early = refl
restart_is_late (Inited node) early = refl
restart_is_late other early = never (sym early)

edit_is_late : (kind : PrefKind) → is_late kind ≡ false → is_edit kind ≡ false
edit_is_late Raise early = refl
edit_is_late (Inited node) early = refl
edit_is_late other early = never (sym early)

module _ (call : CallId) (list : List PrefEntry) where
  module _ (is_kind : PrefKind → Bool) (late : (kind : PrefKind) → is_late kind ≡ false → is_kind kind ≡ false) (no_edit : (edit : Change) → is_kind (Edit edit) ≡ false) where
    none_of : (at : At Value Change) → OwnEntries call at list → list_any (is_own is_kind call) list ≡ false
    none_of (SyncingFolder (Changed place)) it =
        let e : PrefEntry = record { who = call; kind = Edit it.edit } in
        rw it.is
        (none_in_both (is_own is_kind call) it.before (e ∷ it.behind) (none_late call it.before is_kind late it.early)
        (rw (and_right (is_call call call) (is_kind (Edit it.edit)) (no_edit it.edit), no_kind call is_kind it.behind it.last) refl))
    none_of other early = none_late call list is_kind late early

  -- a call that goes on told of no Death
  pub no_death : (at : At Value Change) → OwnEntries call at list → list_any (is_own is_death call) list ≡ false
  no_death = none_of is_death death_is_late (λ edit. refl)

  -- and brought no node back
  pub no_restart : (at : At Value Change) → OwnEntries call at list → list_any (is_own is_restart call) list ≡ false
  no_restart = none_of is_restart restart_is_late (λ edit. refl)

  pub no_edit : IsEarly call list → list_any (is_own is_edit call) list ≡ false
  no_edit early = none_late call list is_edit edit_is_late early

-- Each Edit and each Same of a call carries the edit that it was asked for.
use Rattle.std.proofs.Common.{◌≡◌, ◌∙◌, ℕ, Bool, true, false, List, [], ◌∷◌, ◌++◌, All, refl, sym, ap, subst}
use Rattle.std.specs.List.{list_any}
use Rattle.std.proofs.lemmas.Bool.{and_parts, or_parts}
use Rattle.std.proofs.lemmas.List.Elements.{All-append, All-cons, All-map, All-nil, All-weaker}
use Rattle.store_traits.specs.declared.ids.CallId.{CallId}
use Rattle.hist_journal.specs.declared.seen.KindSeen.TheVariants.{Same, Synced}
use Rattle.hist_journal.specs.Kinds.{is_call}
use Rattle.prefs_text.specs.EntryText.{PrefEntry, PrefKind}
use Rattle.shelf.specs.declared.store.Store.{Store}
use Rattle.shelf.specs.Entries.{is_any, is_own, is_update}
use Rattle.shelf.specs.Meanwhile.{NoneOf}
use Rattle.shelf.proofs.Bools.{never, own_first}
use Rattle.shelf.proofs.RaiseLemmas.{none_of_fewer}
use Rattle.step_table.specs.Calls.{At, Changed, Kept, Plan, Read, Reply, Restarting, SyncingFolder, Update}
use Rattle.step_table.specs.Effects.{Effect, FolderUse, Faulted, all_kinds}
use Rattle.step_table.specs.Rows.{Row, acknowledges, finds_alive, finishes, lacks_room_to_restart, raises, renames, restarts}
use Rattle.step_table.specs.Turn.{Turn}
use Rattle.step_table.specs.World.{Turned}
use Rattle.step_table.specs.declared.progress.Progress.{Progress}
use Rattle.step_table.proofs.Applying.{entries_of}
use Rattle.node_core.specs.Own.{HasChanged, IsFor, OwnEntries, WritesFor}
use Rattle.node_core.proofs.FailedCalls.{no_update}
use Rattle.script_lang.specs.declared.plan.run_line.Act.{Act}
use Rattle.script_lang.specs.declared.plan.run_line.Act.TheVariants as act
use Rattle.replay_run.specs.ClientInvariant.{CarriesAsked, CarriesOwn, IsForAct}
use Rattle.replay_run.specs.Settings.{Change, PrefAsk, PrefRules, PrefWorld, Value}
use Rattle.replay_run.proofs.keeping.OwnTurns.{adds_own, kinds_of}
use Rattle.replay_run.proofs.keeping.TurnCases.{TurnCase, dead, struck, turn_case, works}

module _ (call : CallId) (asked : Act) where
  abbrev Carries : PrefEntry → Type 0
  Carries e = is_own is_update call e ≡ true → CarriesAsked asked e.kind

  -- where it has none
  pub none_carry : (list : List PrefEntry) → list_any (is_own is_update call) list ≡ false → CarriesOwn call asked list
  none_carry [] none = All-nil Carries
  none_carry (e ∷ list) none =
      let parts = or_parts (is_own is_update call e) (list_any (is_own is_update call) list) none in
      All-cons Carries e list (λ mine. never (sym parts.0 ∙ mine)) (none_carry list parts.1)

  others_carry : (list : List PrefEntry) → NoneOf call list → CarriesOwn call asked list
  others_carry list none = none_carry list (none_of_fewer (is_own is_update call) (is_own is_any call) list (λ e. own_first (is_call call e.who) (is_update e.kind)) none)

  -- entries of other calls are none of its own
  pub carries_more : (list more : List PrefEntry) → NoneOf call more → CarriesOwn call asked list → CarriesOwn call asked (list ++ more)
  carries_more list more others carried = All-append Carries list more carried (others_carry more others)

  -- new entries of these kinds
  abbrev KindCarries : PrefKind → Type 0
  KindCarries kind = is_update kind ≡ true → CarriesAsked asked kind

  kinds_carry : (kinds : List PrefKind) → All KindCarries kinds → CarriesOwn call asked (entries_of call kinds)
  kinds_carry kinds all =
      let entry : PrefKind → PrefEntry = λ kind. record { who = call; kind = kind } in
      All-map Carries entry kinds (All-weaker KindCarries (λ kind. Carries (entry kind)) (λ kind carries mine. carries (and_parts (is_call call call) (is_update kind) mine).1) kinds all)

  one_carries : (kind : PrefKind) → KindCarries kind → All KindCarries (kind ∷ [])
  one_carries kind carries = All-cons KindCarries kind [] carries (All-nil KindCarries)

  with_fault_carry : (used : FolderUse) (count : ℕ) (kinds : List PrefKind) → All KindCarries kinds → All KindCarries (all_kinds used count kinds)
  with_fault_carry (Faulted request) count kinds all = All-append KindCarries kinds _ all (one_carries _ never)
  with_fault_carry other count kinds all = all

-- what a line asks for so
abbrev pub act_for : PrefAsk → Act
act_for (Update edit) = act.Update edit
act_for Read = act.Read

module _ (call : CallId) (ask : PrefAsk) where
  abbrev asked : Act
  asked = act_for ask

  changed_carries : (place : ℕ) (list : List PrefEntry) (changed : HasChanged call place list) → ask ≡ Update changed.edit → CarriesOwn call asked list
  changed_carries place list changed so =
      rw changed.is
      (All-append (Carries call asked) changed.before _ (none_carry call asked changed.before (no_update call changed.before changed.early))
      (All-cons (Carries call asked) _ changed.behind (λ mine. rw so refl) (others_carry call asked changed.behind changed.last)))

  -- so do those of a call that is at work for what it was asked
  own_carries : (at : At Value Change) (list : List PrefEntry) → OwnEntries call at list → IsFor call ask at list → CarriesOwn call asked list
  own_carries (SyncingFolder (Changed place)) list own so = changed_carries place list so.0 so.1
  own_carries other list own so = none_carry call asked list (no_update call list own)

  plan_carries : (ask : PrefAsk) (plan : Plan Value Change) → WritesFor ask plan → KindCarries call (act_for ask) plan.change
  plan_carries (Update edit) plan so = rw so (λ is. refl)
  plan_carries Read plan so = absurd so

  module _ (r : PrefRules) {M : Type 0} (s : Store Value M) (w : PrefWorld) where
    -- and those of its next row
    row_carries : {at : At Value Change} {e : Effect Value Change} → Row r s w call at e → IsFor call ask at w.history → All (KindCarries call asked) e.kinds
    row_carries finishes so = one_carries call asked _ never
    row_carries raises so = one_carries call asked _ never
    row_carries (renames {plan}) so = one_carries call asked plan.change (plan_carries ask plan so)
    row_carries (acknowledges {ending = Changed place}) so = one_carries call asked _ never
    row_carries (acknowledges {ending = Kept edit}) so = All-cons (KindCarries call asked) (Same edit) (Synced ∷ []) (λ is. rw so refl) (one_carries call asked Synced never)
    row_carries (restarts is_dead) so = one_carries call asked _ never
    row_carries other so = All-nil (KindCarries call asked)

-- it is to bring a node back
abbrev pub is_restarting : At Value Change → Bool
is_restarting (Restarting node) = true
is_restarting other = false

module _ (call : CallId) where
  -- and those of one that is at work for what a line asks for; a restart carries none
  entries_carry : (a : Act) (at : At Value Change) (list : List PrefEntry) → OwnEntries call at list → IsForAct call a at list → CarriesOwn call a list
  entries_carry (act.Update edit) at list own so = own_carries call (Update edit) at list own so
  entries_carry act.Read at list own so = own_carries call Read at list own so
  entries_carry (act.Restart node) at list own so = none_carry call (act.Restart node) list (no_update call list (rw so at own))
  entries_carry other at list own so = absurd so

  module _ (r : PrefRules) {M : Type 0} (s : Store Value M) (w : PrefWorld) where
    restart_carries : (a : Act) {at : At Value Change} {e : Effect Value Change} → Row r s w call at e → is_restarting at ≡ true → All (KindCarries call a) e.kinds
    restart_carries a (restarts is_dead) is = one_carries call a _ never
    restart_carries a (finds_alive lives) is = All-nil (KindCarries call a)
    restart_carries a (lacks_room_to_restart is_dead) is = All-nil (KindCarries call a)
    restart_carries a other is = never is

    kinds_by : (a : Act) (at : At Value Change) (e : Effect Value Change) → Row r s w call at e → IsForAct call a at w.history → All (KindCarries call a) e.kinds
    kinds_by (act.Update edit) at e row so = row_carries call (Update edit) r s w row so
    kinds_by act.Read at e row so = row_carries call Read r s w row so
    kinds_by (act.Restart node) at e row so = restart_carries (act.Restart node) row (ap is_restarting so)
    kinds_by other at e row so = absurd so

module _ (r : PrefRules) {M : Type 0} (s : Store Value M) (a : Act) (t : Turned Value Change) (gave : Progress (Reply Value)) (turn : Turn r s t gave) where
  effect_carries : TurnCase r s t gave turn → IsForAct t.call.id a t.call.at t.world.history → All (KindCarries t.call.id a) turn.effect.kinds
  effect_carries (dead died it) so = rw it.is (All-nil (KindCarries t.call.id a))
  effect_carries (struck lives planned is) so = rw is (one_carries t.call.id a _ never)
  effect_carries (works it) so = kinds_by t.call.id r s t.world a t.call.at turn.effect it.row so

  -- so do they behind a turn, whatever that is
  pub turn_carries : OwnEntries t.call.id t.call.at t.world.history → IsForAct t.call.id a t.call.at t.world.history → CarriesOwn t.call.id a t.world_after.history
  turn_carries own so =
      subst (CarriesOwn t.call.id a) (sym (adds_own r s t gave turn))
      (All-append (Carries t.call.id a) t.world.history _ (entries_carry t.call.id a t.call.at t.world.history own so)
      (kinds_carry t.call.id a (kinds_of t turn.effect)
      (with_fault_carry t.call.id a turn.effect.folder t.world_after.tally.count turn.effect.kinds (effect_carries (turn_case r s t gave turn) so))))

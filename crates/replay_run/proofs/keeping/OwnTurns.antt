-- What a turn of a call adds, whatever ends it.
use Rattle.std.proofs.Common.{◌≡◌, ◌∙◌, ℕ, Bool, false, List, [], ◌∷◌, ◌++◌, Some, IfSome, count_by, refl, sym, ap, subst}
use Rattle.std.specs.List.{list_any}
use Rattle.std.proofs.lemmas.List.{map-append}
use Rattle.store_traits.specs.declared.ids.CallId.{CallId}
use Rattle.hist_journal.specs.declared.device.Device.TheVariants.{Folder}
use Rattle.hist_journal.specs.declared.seen.KindSeen.TheVariants.{Fault}
use Rattle.hist_journal.specs.Folds.{edition_of}
use Rattle.prefs_text.specs.EntryText.{PrefEntry, PrefKind}
use Rattle.prefs_text.specs.declared.seen.AnswerSeen.{AnswerSeen}
use Rattle.shelf.specs.declared.store.Store.{Store}
use Rattle.shelf.proofs.Bools.{one_more}
use Rattle.step_table.specs.declared.progress.Progress.{Progress}
use Rattle.step_table.specs.declared.progress.Progress.TheVariants.{Ended}
use Rattle.step_table.specs.Calls.{At, Changed, Kept, Reply}
use Rattle.step_table.specs.Effects.{Effect, FolderUse, Faulted, all_kinds, gave_by}
use Rattle.step_table.specs.Rows.{Row, acknowledges, gives, refuses, renames}
use Rattle.step_table.specs.Turn.{RowOf, Turn, has_died_by}
use Rattle.step_table.specs.World.{Turned, begin}
use Rattle.step_table.proofs.Applying.{all_added, entries_of}
use Rattle.node_core.specs.Plans.{PlanAt}
use Rattle.script_lang.specs.Shown.{printed}
use Rattle.replay_run.specs.Answering.{reply_told}
use Rattle.replay_run.specs.RunInvariant.{is_later_work}
use Rattle.replay_run.specs.Settings.{Change, PrefCall, PrefRules, PrefWorld, Value}
use Rattle.replay_run.proofs.keeping.Deaths.{dies, is_folder_fault}
use Rattle.replay_run.proofs.keeping.TurnCases.{TurnCase, dead, struck, turn_case, works}

abbrev pub comes_later : PrefEntry → Bool
comes_later e = is_later_work e.kind

-- the kinds of the entries that a turn of this effect adds, with the Fault of a folder that failed
abbrev pub kinds_of : Turned Value Change → Effect Value Change → List PrefKind
kinds_of t e = all_kinds e.folder t.world_after.tally.count e.kinds

-- an effect adds no Fault but that of its folder, and nothing that is not built
pub record IsBuiltEffect (call : CallId) (e : Effect Value Change) : Type 0 where
  pub faults : count_by is_folder_fault (entries_of call e.kinds) ≡ 0
  pub built : list_any comes_later (entries_of call e.kinds) ≡ false

-- a row strikes nobody dead, and adds no Death
pub record IsPlainEffect (call : CallId) (e : Effect Value Change) : Type 0 where
  pub spares : e.dies ≡ false
  pub alive : list_any dies (entries_of call e.kinds) ≡ false
  pub built : IsBuiltEffect call e

-- what a turn leaves that does its row, and adds entries of these kinds
pub record OwnTurn (t : Turned Value Change) (kinds : List PrefKind) : Type 0 where
  pub adds : t.world_after.history ≡ t.world.history ++ entries_of t.call.id kinds
  pub alive : list_any dies (entries_of t.call.id kinds) ≡ false
  pub deaths : t.world_after.deaths ≡ t.world.deaths

-- a test that passes no Fault of the folder passes none of these with it
pub none_with_fault : (p : PrefEntry → Bool) (call : CallId) (used : FolderUse) (count : ℕ) (kinds : List PrefKind) → p (record { who = call; kind = Fault Folder count }) ≡ false → list_any p (entries_of call kinds) ≡ false
    → list_any p (entries_of call (all_kinds used count kinds)) ≡ false
none_with_fault p call (Faulted request) count kinds fault none =
    let entry : PrefKind → PrefEntry = λ kind. record { who = call; kind = kind } in
    rw (map-append entry kinds (Fault Folder count ∷ [])) (one_more p (entries_of call kinds) (entry (Fault Folder count)) none fault)
none_with_fault p call other count kinds fault none = none

-- what an answer prints is the edition of now
abbrev EndsNow : PrefWorld → Progress (Reply Value) → Type 0
EndsNow w (Ended reply) = IfSome (reply_told reply) (λ answer. IfSome (printed answer) (λ edition. edition ≡ edition_of w.history))
EndsNow w other = Unit {0}

module _ (r : PrefRules) {M : Type 0} (s : Store Value M) where
  module _ (w : PrefWorld) (call : CallId) where
    pub row_plain : {at : At Value Change} {e : Effect Value Change} → Row r s w call at e → PlanAt at → IsPlainEffect call e
    row_plain renames so = rw so.asked.is (record { spares = refl; alive = refl; built = record { faults = refl; built = refl } })
    row_plain (acknowledges {ending = Changed place}) so = record { spares = refl; alive = refl; built = record { faults = refl; built = refl } }
    row_plain (acknowledges {ending = Kept edit}) so = record { spares = refl; alive = refl; built = record { faults = refl; built = refl } }
    row_plain other so = record { spares = refl; alive = refl; built = record { faults = refl; built = refl } }

    row_prints : {at : At Value Change} {e : Effect Value Change} → Row r s w call at e → EndsNow w (gave_by e.next)
    row_prints (refuses read refused) = refl
    row_prints acknowledges = refl
    row_prints (gives plain read) = refl
    row_prints other = tt

  module _ (t : Turned Value Change) (gave : Progress (Reply Value)) (turn : Turn r s t gave) where
    -- it adds the entries of its effect, and the Fault of a folder that failed
    pub adds_own : t.world_after.history ≡ t.world.history ++ entries_of t.call.id (kinds_of t turn.effect)
    adds_own = ap (λ (w : PrefWorld). w.history) turn.comes.world ∙ all_added t.call.id (kinds_of t turn.effect) t.world.history

    pub same_call_after : t.call_after.id ≡ t.call.id
    same_call_after = ap (λ (c : PrefCall). c.id) turn.comes.call

    module _ (plan : has_died_by (begin t) ≡ false → PlanAt t.call.at) where
      built_by : TurnCase r s t gave turn → IsBuiltEffect t.call.id turn.effect
      built_by (dead died it) = rw it.is (record { faults = refl; built = refl })
      built_by (struck lives planned is) = rw is (record { faults = refl; built = refl })
      built_by (works it) = (row_plain t.world t.call.id it.row (plan it.lives)).built

      pub turn_built : IsBuiltEffect t.call.id turn.effect
      turn_built = built_by (turn_case r s t gave turn)

      pub turn_adds_built : list_any comes_later (entries_of t.call.id (kinds_of t turn.effect)) ≡ false
      turn_adds_built = let it = turn_built in none_with_fault comes_later t.call.id turn.effect.folder t.world_after.tally.count turn.effect.kinds refl it.built

    -- of a turn that does its row
    module _ (row : RowOf r s t turn.effect) (plan : PlanAt t.call.at) where
      pub own_turn : OwnTurn t (kinds_of t turn.effect)
      own_turn =
          let plain = row_plain t.world t.call.id row plan in
          record {
            adds = adds_own;
            alive = none_with_fault dies t.call.id turn.effect.folder t.world_after.tally.count turn.effect.kinds refl plain.alive;
            deaths = ap (λ (w : PrefWorld). w.deaths) turn.comes.world ∙ rw plain.spares refl;
          }

  -- of one that ends its call
  module _ (t : Turned Value Change) (reply : Reply Value) (turn : Turn r s t (Ended reply)) (row : RowOf r s t turn.effect) where
    pub prints_now : (answer : AnswerSeen) → reply_told reply ≡ Some answer → IfSome (printed answer) (λ edition. edition ≡ edition_of t.world.history)
    prints_now answer tells =
        let now : EndsNow t.world (Ended reply) = subst (λ gave. EndsNow t.world gave) (sym turn.comes.given) (row_prints t.world t.call.id row) in
        rw tells at now

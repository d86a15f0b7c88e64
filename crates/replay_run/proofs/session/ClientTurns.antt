-- What a client comes to by a turn of its call, or by a look.
use Rattle.std.proofs.Common.{◌≡◌, ◌∙◌, ◌⊎◌, ◌≤◌, ◌<◌, ◌+◌, ℕ, false, IfSome, OnOk, IsTrue, inl, inr, [], append-nil, length, map, Option, Some, None, option_map, slice_get, unwrap_or, vec_len, refl, sym, ap, subst, Result, Ok, Err, arith}
use Rattle.std.specs.List.{list_any}
use Rattle.std.proofs.lemmas.List.{length-map}
use Rattle.std.proofs.lemmas.Option.{slice_get-map, slice_get_within}
use Rattle.store_traits.specs.declared.codec.Codec as codec_trait
use Rattle.store_traits.specs.declared.given.Given.{Given}
use Rattle.store_traits.specs.declared.ids.CallId.{CallId}
use Rattle.store_traits.specs.declared.ids.NodeId.{NodeId}
use Rattle.store_traits.specs.declared.transform.Transform as transform_trait
use Rattle.folder_disk.specs.declared.folder.Folder as folder_trait
use Rattle.prefs_proto.specs.declared.prefs_codec.PrefsCodec.{PrefsCodec}
use Rattle.prefs_text.specs.AnswerView.{line_seen}
use Rattle.prefs_text.specs.declared.seen.AnswerSeen.TheVariants as seen
use Rattle.shelf.specs.declared.shelf.Shelf.{Shelf}
use Rattle.shelf.specs.declared.store.Store.{Store}
use Rattle.shelf.specs.CallOrder.{is_later}
use Rattle.shelf.specs.ShelfSeen.{shelf_seen}
use Rattle.step_table.specs.Caching.{found, published_by}
use Rattle.step_table.specs.Calls.{First, Gave, Gone, Reply, Restarting, Update, is_gone}
use Rattle.step_table.specs.Effects.{Effect, FolderUse, SparesFolder, Unused, Served, Faulted, Uses}
use Rattle.step_table.specs.Turn.{Turn}
use Rattle.step_table.specs.World.{Turned, begin}
use Rattle.step_table.specs.declared.progress.Progress.{Progress}
use Rattle.step_table.specs.declared.progress.Progress.TheVariants.{Moved, Blocked, Ended}
use Rattle.node_core.specs.Between.{Between}
use Rattle.node_core.specs.Looking.{LooksAt}
use Rattle.node_core.specs.Ready.{Equipped}
use Rattle.node_core.specs.Step.{StepsTo}
use Rattle.node_core.proofs.KeepingLemmas.{turn_stays}
use Rattle.node_core.proofs.MovingLemmas.{moved_runs}
use Rattle.script_lang.specs.declared.plan.run_line.Act.{Act}
use Rattle.script_lang.specs.declared.plan.run_line.Act.TheVariants as act
use Rattle.replay_run.specs.declared.client.Client as own
use Rattle.replay_run.specs.declared.prefs_parts.PrefsParts.{PrefsParts}
use Rattle.replay_run.specs.declared.running.Reply as own_reply
use Rattle.replay_run.specs.declared.running.Running.{Running}
use Rattle.replay_run.specs.declared.task.Task.{Task}
use Rattle.replay_run.specs.declared.task.Task.TheVariants as task
use Rattle.replay_run.specs.Answering.{behind_look, behind_turn, client_answered}
use Rattle.replay_run.specs.ClientInvariant.{CallInvariant}
use Rattle.replay_run.specs.ClientSteps.{IsAnswered, MayGo, MayRestart, MayTurn, Restarts, Spares, next_call}
use Rattle.replay_run.specs.RunningSteps.{CallMayStep, CallSteps, replied_so}
use Rattle.replay_run.specs.RunState.{Client, NodeView, act_now, call_now, new_call}
use Rattle.replay_run.specs.SessionView.{EquippedIn, IsEquipped, IsNamed, client_seen, rules_in, running_seen, store_in, task_seen, world_in}
use Rattle.replay_run.specs.Settings.{Change, PrefAsk, PrefCached, PrefCall, PrefRules, PrefWorld, ScriptFolder, Value}
use Rattle.replay_run.specs.Steps.{ClientSteps, ReadSteps, StepsBy, TakesTurn, kept_behind}
use Rattle.replay_run.proofs.keeping.BehindTurns.{client_on}
use Rattle.replay_run.proofs.keeping.CallKept.{call_same}
use Rattle.replay_run.proofs.keeping.StepCases.{IsCalled}
use Rattle.replay_run.proofs.lists.OptionLemmas.{nothing, one_of}
use Rattle.replay_run.proofs.lists.SetViews.{all_found}

-- what it is at is the task behind those that are answered
pub act_seen : (client : own.Client) → act_now (client_seen client) ≡ option_map task_seen (slice_get client.asked.items (vec_len client.answered))
act_seen client =
    ap (λ n. slice_get (client_seen client).asked n) (length-map client.answered.items line_seen ∙ sym client.answered.ok.0) ∙ slice_get-map task_seen client.asked.items (vec_len client.answered)

-- clients are asked for calls alone
task_called : (t : Task) → IsCalled (task_seen t)
task_called (task.Update edit) = tt
task_called task.Read = tt
task_called (task.Restart node) = tt

called_by : (found : Option Task) (asked : Act) → option_map task_seen found ≡ Some asked → IsCalled asked
called_by None asked is = nothing asked is
called_by (Some t) asked is = subst IsCalled (one_of (task_seen t) asked is) (task_called t)

-- what the client is at is one of them
pub act_called : (client : own.Client) (asked : Act) → act_now (client_seen client) ≡ Some asked → IsCalled asked
act_called client asked is = called_by (slice_get client.asked.items (vec_len client.answered)) asked (sym (act_seen client) ∙ is)

-- two facts of a result that is Ok, together
pub both_ok : {A E P Q R : Type 0} (r : Result A E) → OnOk r P → OnOk r Q → (P → Q → R) → OnOk r R
both_ok (Ok a) p q then = then p q
both_ok (Err e) p q then = tt

-- the client's next call has the number behind its answers
pub next_is : (client : own.Client) → ◌≡◌ {A = CallId} (record { node = client.node; client = client.id; number = vec_len client.answered + 1 }) (next_call client)
next_is client =
    let many : vec_len client.answered + 1 ≡ 0 + length (map line_seen client.answered.items) + 1 = let seen = length-map client.answered.items line_seen in let counted = client.answered.ok.0 in omega (arith, seen, counted) in
    ap (λ (n : ℕ). record { node = client.node; client = client.id; number = n }) many

-- a call that has not ended goes on
abbrev pub goes : Progress (Reply Value) → Type 0
goes (Ended reply) = ⊥
goes other = Unit {0}

pub not_ended : (gave : Progress own_reply.Reply) → ((gave ≡ Moved) ⊎ (gave ≡ Blocked)) → goes (replied_so gave)
not_ended Moved so = tt
not_ended Blocked so = tt
not_ended (Ended reply) so =
    elim so [
      | inl moved ↦ (let no : ◌≡◌ {A = Progress own_reply.Reply} (Ended reply) Moved = moved in cc)
      | inr blocked ↦ (let no : ◌≡◌ {A = Progress own_reply.Reply} (Ended reply) Blocked = blocked in cc)
    ]

module _ (r : PrefRules) {M : Type 0} (s : Store Value M) (t : Turned Value Change) where
  still_on : (gave : Progress (Reply Value)) → Turn r s t gave → is_gone t.call.at ≡ false → goes gave → is_gone t.call_after.at ≡ false
  still_on Moved turn running so = moved_runs r s t turn
  still_on Blocked turn running so = ap (λ (c : PrefCall). is_gone c.at) (turn_stays r s t turn).1 ∙ running
  still_on (Ended answer) turn running so = absurd so

pub goes_on : (client : Client) (call : PrefCall) (gave : Progress (Reply Value)) → goes gave → behind_turn client call gave ≡ Some (client_on client call)
goes_on client call Moved so = refl
goes_on client call Blocked so = refl
goes_on client call (Ended answer) so = absurd so

-- behind a turn or a look it does not matter which call the client had, so it may put that aside first
module _ (client : own.Client) (aside : Option Running) where
  abbrev pub at_rest : Client
  at_rest = client_seen (record client { running = aside })

  turn_same : (call : PrefCall) (gave : Progress (Reply Value)) → behind_turn at_rest call gave ≡ behind_turn (client_seen client) call gave
  turn_same call Moved = refl
  turn_same call Blocked = refl
  turn_same call (Ended answer) = refl

  look_same : (seen : Option PrefCached) → behind_look at_rest seen ≡ behind_look (client_seen client) seen
  look_same None = refl
  look_same (Some kept) = refl

-- there are fewer answers than calls
pub fewer_answers : (client : own.Client) (task : Task) (most : ℕ) → slice_get client.asked.items (vec_len client.answered) ≡ Some task → vec_len client.asked ≤ most → vec_len client.answered < most
fewer_answers client task most found few = let within = slice_get_within client.asked.items (vec_len client.answered) task found in omega (arith, within, few, client.asked.ok.0)

-- what a look found is told
pub look_found : (client after : own.Client) (seen : Option PrefCached) (given : Given Value) → LooksAt seen (Ok (Some given)) → IsAnswered client (Gave given.edition given.value.value) after → client_seen after ≡ behind_look (client_seen client) seen
look_found client after None given it answered = absurd it
look_found client after (Some kept) given it answered =
    let id = next_call client in
    let told : client_seen after ≡ client_answered (client_seen client) id (seen.Read given.edition given.value.value) =
    sym (one_of (client_answered (client_seen client) id (seen.Read given.edition given.value.value)) (client_seen after) (answered (new_call (client_seen client) act.Read) refl)) in
    told ∙ (ap (λ edition. client_answered (client_seen client) id (seen.Read edition given.value.value)) it.edition ∙ ap (λ value. client_answered (client_seen client) id (seen.Read kept.edition value)) it.value)

module _ (w w_after : PrefWorld) (call : PrefCall) where
  -- nothing was between
  pub none_between : w_after ≡ w → Between call w w_after
  none_between same =
      subst (λ now. Between call w now) (sym same)
      (record { more = []; grew = sym (append-nil w.history); others = refl; numbers = refl; told = refl; held = λ holds. inl (record { owner = refl; scratch = λ told. refl; outer = refl }) })

-- a folder that spares what it holds is as it was where its call failed
module _ (t : Turned Value Change) (e : Effect Value Change) (told : IsTrue t.world.told) (spares : IsTrue t.world.spares) where
  spares_by : (used : FolderUse) → Uses t e used → SparesFolder used t.world t.world_after
  spares_by Unused it = tt
  spares_by (Served request) it = tt
  spares_by (Faulted request) it = it.spared told spares

module _ {c : codec_trait.Ghosts PrefsCodec Value} {t : transform_trait.Ghosts Change Value} {f : folder_trait.Ghosts ScriptFolder} where
  -- a client is equipped as its call is
  pub on_equipped : (shelf : Shelf (PrefsParts ScriptFolder) PrefsCodec Change ScriptFolder Value c t f) (client : own.Client) (call : Running) → client.running ≡ Some call → IsEquipped shelf call → EquippedIn shelf client
  on_equipped shelf client call runs it = subst (λ running. IfSome running (IsEquipped shelf)) (sym runs) it

  -- a call that has taken no lock needs no room
  first_equipped : (shelf : Shelf (PrefsParts ScriptFolder) PrefsCodec Change ScriptFolder Value c t f) (ask : PrefAsk) → Equipped c t f (First ask) (shelf_seen shelf)
  first_equipped shelf ask = record { entries = omega arith; room = tt; may = λ told. tt }

  module _ (shelf : Shelf (PrefsParts ScriptFolder) PrefsCodec Change ScriptFolder Value c t f) (client : own.Client) (may : MayGo client shelf) (t' : Task) (found : slice_get client.asked.items (vec_len client.answered) ≡ Some t') where
    pub asked : act_now (client_seen client) ≡ Some (task_seen t')
    asked = act_seen client ∙ ap (option_map task_seen) found

    -- the call that runs
    pub running_its : (call : Running) → client.running ≡ Some call → CallInvariant (rules_in shelf) (store_in shelf) (client_seen client) (world_in shelf) (running_seen call)
    running_its call runs =
        subst (λ o. CallInvariant (rules_in shelf) (store_in shelf) (client_seen client) (world_in shelf) (unwrap_or o (new_call (client_seen client) (task_seen t')))) (ap (option_map running_seen) runs) (may.call (task_seen t') asked)

    -- the call that it is at may take its turn, once it is put aside
    module _ (aside : Option Running) (none : aside ≡ None) where
      may_turn : (call : Running) → running_seen call ≡ call_now (client_seen client) (task_seen t') → IsEquipped shelf call → MayTurn (record client { running = aside }) call shelf
      may_turn call is equipped =
          record {
            idle = none;
            node = may.node;
            its =
                call_same (rules_in shelf) (store_in shelf) (client_seen client) (at_rest client aside) (world_in shelf) (running_seen call) refl (λ asked at_it. at_it)
                (subst (CallInvariant (rules_in shelf) (store_in shelf) (client_seen client) (world_in shelf)) (sym is) (may.call (task_seen t') asked));
            equipped = equipped;
          }

      -- the one that runs
      pub running_may : (call : Running) → client.running ≡ Some call → MayTurn (record client { running = aside }) call shelf
      running_may call runs = may_turn call (rw runs refl) (subst (λ running. IfSome running (IsEquipped shelf)) runs may.equipped)

      -- or a new one
      pub new_may : (edit : Change) (call : Running) → task_seen t' ≡ act.Update edit → client.running ≡ None → running_seen call ≡ new_call (client_seen client) (act.Update edit) → MayTurn (record client { running = aside }) call shelf
      new_may edit call updates idle is = may_turn call (rw (idle, updates) is) (rw is (λ alive. first_equipped shelf (Update edit)))

      -- or one that brings a node back
      pub restart_may : (node : NodeId) → t' ≡ task.Restart node → client.running ≡ None → MayRestart (record client { running = aside }) node shelf
      restart_may node restarts idle =
          let named = all_found (IsNamed (store_in shelf).nodes) client.asked.items (vec_len client.answered) t' found may.named in
          let its = may.call (task_seen t') asked in
          record {
            idle = none;
            node = may.node;
            named = subst (IsNamed (store_in shelf).nodes) restarts named;
            untold = may.untold idle;
            numbers = numbers_of (task_seen t') (client_seen client).running (ap (option_map running_seen) idle) its;
          }
        where
          numbers_of : (a : Act) (running : Option PrefCall) → running ≡ None → CallInvariant (rules_in shelf) (store_in shelf) (client_seen client) (world_in shelf) (unwrap_or running (new_call (client_seen client) a)) → list_any (is_later (next_call client)) (shelf_seen shelf).list ≡ false
          numbers_of a None none its = (its.knows refl).numbers
          numbers_of a (Some call) none its = nothing call (sym none)

  -- the turn is the client's step
  module _ (shelf : Shelf (PrefsParts ScriptFolder) PrefsCodec Change ScriptFolder Value c t f) (client client_after : own.Client) (aside : Option Running) (view view_after : NodeView) (call : PrefCall)
      (turn : TakesTurn (rules_in shelf) (store_in shelf) call (at_rest client aside) view (client_seen client_after) view_after) where
    taken : TakesTurn (rules_in shelf) (store_in shelf) call (client_seen client) view (client_seen client_after) view_after
    taken = record { call_after = turn.call_after; gave = turn.gave; turn = turn.turn; spares = turn.spares; now = sym (turn_same client aside turn.call_after turn.gave) ∙ turn.now; kept = turn.kept }

    abbrev By : Option Act → Type 0
    By o = StepsBy (rules_in shelf) (store_in shelf) o (client_seen client) view (client_seen client_after) view_after

    taken_as : (other : PrefCall) → other ≡ call → TakesTurn (rules_in shelf) (store_in shelf) other (client_seen client) view (client_seen client_after) view_after
    taken_as other is = subst (λ c. TakesTurn (rules_in shelf) (store_in shelf) c (client_seen client) view (client_seen client_after) view_after) (sym is) taken

    -- of the call that runs
    pub running_steps : (t' : Task) → act_now (client_seen client) ≡ Some (task_seen t') → (client_seen client).running ≡ Some call → ClientSteps (rules_in shelf) (store_in shelf) (client_seen client) view (client_seen client_after) view_after
    running_steps t' is runs = subst By (sym is) (by_task t')
      where
        now : (a : Act) → call_now (client_seen client) a ≡ call
        now a = ap (λ o. unwrap_or o (new_call (client_seen client) a)) runs

        by_task : (t' : Task) → By (Some (task_seen t'))
        by_task (task.Update edit) = taken_as (call_now (client_seen client) (act.Update edit.now)) (now (act.Update edit.now))
        by_task task.Read = subst (λ o. ReadSteps (rules_in shelf) (store_in shelf) o (client_seen client) view (client_seen client_after) view_after) (sym runs) taken
        by_task (task.Restart node) = taken_as (call_now (client_seen client) (act.Restart node)) (now (act.Restart node))

    module _ (idle : client.running ≡ None) where
      begins : (a : Act) → call ≡ new_call (client_seen client) a → call_now (client_seen client) a ≡ call
      begins a new = ap (λ o. unwrap_or o (new_call (client_seen client) a)) (ap (option_map running_seen) idle) ∙ sym new

      -- of one that begins
      pub update_steps : (edit : Change) → act_now (client_seen client) ≡ Some (act.Update edit) → call ≡ new_call (client_seen client) (act.Update edit) → ClientSteps (rules_in shelf) (store_in shelf) (client_seen client) view (client_seen client_after) view_after
      update_steps edit is new = subst By (sym is) (taken_as (call_now (client_seen client) (act.Update edit)) (begins (act.Update edit) new))

      pub restart_steps : (node : NodeId) → act_now (client_seen client) ≡ Some (act.Restart node) → call ≡ new_call (client_seen client) (act.Restart node) → ClientSteps (rules_in shelf) (store_in shelf) (client_seen client) view (client_seen client_after) view_after
      restart_steps node is new = subst By (sym is) (taken_as (call_now (client_seen client) (act.Restart node)) (begins (act.Restart node) new))

  -- a look is a step, where the version word has the number of raises
  pub look_steps : (shelf : Shelf (PrefsParts ScriptFolder) PrefsCodec Change ScriptFolder Value c t f) (client client_after : own.Client) (aside : Option Running) (kept : Option PrefCached) (version : ℕ) → act_now (client_seen client) ≡ Some act.Read → client.running ≡ None → version ≡ (world_in shelf).version
      → client_seen client_after ≡ behind_look (at_rest client aside) (found kept version)
      → ClientSteps (rules_in shelf) (store_in shelf) (client_seen client) (record { world = world_in shelf; kept = kept }) (client_seen client_after) (record { world = world_in shelf; kept = kept })
  look_steps shelf client client_after aside kept version is idle same now =
      let view : NodeView = record { world = world_in shelf; kept = kept } in
      subst (λ o. StepsBy (rules_in shelf) (store_in shelf) o (client_seen client) view (client_seen client_after) view) (sym is)
      (subst (λ o. ReadSteps (rules_in shelf) (store_in shelf) o (client_seen client) view (client_seen client_after) view) (sym (ap (option_map running_seen) idle))
      (record { now = now ∙ (look_same client aside (found kept version) ∙ ap (λ n. behind_look (client_seen client) (found kept n)) same); same = refl }))

  -- a restart is a turn of the client's next call
  module _ (old new : Shelf (PrefsParts ScriptFolder) PrefsCodec Change ScriptFolder Value c t f) (client now : own.Client) (node : NodeId) (reply : Reply Value) (call : CallId) (is : call ≡ record { node = client.node; client = client.id; number = vec_len client.answered + 1 })
      (steps : StepsTo c t f (record { call = call; since = None }) (Restarting node) (shelf_seen old) (Ended reply) (record { call = call; since = Some (length (shelf_seen old).list) }) Gone (shelf_seen new)) where
    own_steps : StepsTo c t f (record { call = next_call client; since = None }) (Restarting node) (shelf_seen old) (Ended reply) (record { call = next_call client; since = Some (length (shelf_seen old).list) }) Gone (shelf_seen new)
    own_steps =
        subst (λ (id : CallId). StepsTo c t f (record { call = id; since = None }) (Restarting node) (shelf_seen old) (Ended reply) (record { call = id; since = Some (length (shelf_seen old).list) }) Gone (shelf_seen new)) (is ∙ next_is client) steps

    pub restarts : IsTrue f.told → IsTrue f.spares → IsAnswered client reply now → (kept : Option PrefCached) → Restarts node client old kept now new
    restarts told spares answered kept =
        let call_after : PrefCall = record { id = next_call client; at = Gone; since = Some (length (shelf_seen old).list) } in
        let turned : Turned Value Change = record { world = world_in old; call = new_call (client_seen client) (act.Restart node); world_after = world_in new; call_after = call_after } in
        record {
          call_after = call_after;
          gave = Ended reply;
          turn = own_steps.turn;
          spares = spares_by (begin turned) own_steps.turn.effect told spares own_steps.turn.effect.folder own_steps.turn.comes.used;
          now = answered call_after refl;
          kept = refl;
        }

    pub restart_spares : Spares client old new
    restart_spares other owned apart = own_steps.spares other owned (λ same. apart (length (client_seen client).answered) same)

  module _ (old : Shelf (PrefsParts ScriptFolder) PrefsCodec Change ScriptFolder Value c t f) (client : own.Client) (call : Running) (may : MayTurn client call old) where
    -- the shelf is as its last turn may have left it
    pub may_step : CallMayStep call old
    may_step =
        record {
          last = shelf_seen old;
          ready = λ lived. record { knows = may.its.knows lived; equipped = may.equipped lived };
          between = none_between (world_in old) (world_in old) (running_seen call) refl;
          codec = refl;
          store = refl;
          kept = λ holds. inl (record { entries = refl; folder = refl });
        }

    module _ (new : Shelf (PrefsParts ScriptFolder) PrefsCodec Change ScriptFolder Value c t f) (after : Running) (gave : Progress (Reply Value)) (steps : CallSteps call old gave after new) where
      -- the turn of the client, once it is told of
      pub takes : IsTrue f.told → IsTrue f.spares → (now : own.Client) (kept kept_after : Option PrefCached) → behind_turn (client_seen client) (running_seen after) gave ≡ Some (client_seen now) → kept_after ≡ kept_behind kept (published_by (running_seen call).at gave (world_in new))
          → TakesTurn (rules_in old) (store_in old) (running_seen call) (client_seen client) (record { world = world_in old; kept = kept }) (client_seen now) (record { world = world_in new; kept = kept_after })
      takes told spares now kept kept_after is published =
          let turned : Turned Value Change = record { world = world_in old; call = running_seen call; world_after = world_in new; call_after = running_seen after } in
          record {
            call_after = running_seen after;
            gave = gave;
            turn = steps.turn;
            spares = spares_by (begin turned) steps.turn.effect told spares steps.turn.effect.folder steps.turn.comes.used;
            now = is;
            kept = published;
          }

      pub spares_now : Spares client old new
      spares_now other owned apart = steps.spares other owned (λ same. apart (length (client_seen client).answered) (same ∙ may.its.id))

      -- a call that goes on has what it needs
      pub equips : goes gave → IsEquipped new after
      equips so alive =
          (steps.ready (still_on (rules_in old) (store_in old) (record { world = world_in old; call = running_seen call; world_after = world_in new; call_after = running_seen after }) gave steps.turn may.its.goes_on so)).equipped

-- A client's step in a session.
use Rattle.std.proofs.Common.{◌≡◌, ◌∙◌, ◌⊎◌, ◌==◌, ◌<◌, ◌++◌, inl, inr, ℕ, true, false, List, [], append-nil, length, map, All, IfSome, Option, Some, None, option_map, slice_get, slice_index_or, slice_set, vec_len, refl, sym, ap, subst}
use Rattle.std.proofs.Math.Logic.{∥∥₁_elim}
use Rattle.std.proofs.Math.Nat.{ℕ_set}
use Rattle.std.proofs.Math.Seq.{drop-append_seam}
use Rattle.std.specs.List.{list_any}
use Rattle.std.proofs.lemmas.Bool.{ne_eqb}
use Rattle.std.proofs.lemmas.List.{length-map, length-set}
use Rattle.std.proofs.lemmas.Option.{slice_get-map, slice_get_read}
use Rattle.store_traits.specs.declared.codec.Codec as codec_trait
use Rattle.store_traits.specs.declared.ids.CallId.{CallId}
use Rattle.store_traits.specs.declared.ids.ClientId.{ClientId}
use Rattle.store_traits.specs.declared.ids.NodeId.{NodeId}
use Rattle.store_traits.specs.declared.transform.Transform as transform_trait
use Rattle.folder_disk.specs.declared.folder.Folder as folder_trait
use Rattle.hist_journal.specs.Folds.{edition_of, raises_of}
use Rattle.hist_journal.specs.Kinds.{is_death_of}
use Rattle.prefs_model.specs.declared.pref_map.PrefMap.{the_code}
use Rattle.prefs_model.specs.Map.{IsMap}
use Rattle.prefs_proto.specs.declared.prefs_codec.PrefsCodec.{PrefsCodec}
use Rattle.prefs_proto.specs.Laws.OneReading.{reads_once}
use Rattle.prefs_proto.specs.Laws.Written.{written_reads}
use Rattle.prefs_text.specs.EntryText.{PrefEntry}
use Rattle.prefs_text.specs.declared.seen.AnswerSeen.{AnswerSeen}
use Rattle.prefs_text.specs.declared.seen.AnswerSeen.TheVariants as seen
use Rattle.shelf.specs.declared.shelf.Shelf.{Shelf}
use Rattle.shelf.specs.AddsNode.{is_among}
use Rattle.shelf.specs.Deaths.{died_since}
use Rattle.shelf.specs.Entries.{is_any}
use Rattle.shelf.specs.Legal.{Legal, value_at}
use Rattle.shelf.specs.ShelfSeen.{shelf_seen}
use Rattle.shelf.proofs.BaseSets.{base_set}
use Rattle.shelf.proofs.ReadingLemmas.{value_is}
use Rattle.shelf.proofs.DeathLemmas.{died_since-front}
use Rattle.value_cache.specs.declared.cache.Cache.{Cache}
use Rattle.value_cache.specs.Cached.{kept_seen}
use Rattle.node_core.specs.Between.{Between, Died}
use Rattle.node_core.specs.Knows.{Knows}
use Rattle.node_core.specs.Phases.{is_holding}
use Rattle.node_core.specs.Ready.{Equipped}
use Rattle.node_core.specs.Step.{KeepsRoom}
use Rattle.node_core.proofs.ReadyLemmas.{still_ready}
use Rattle.node_core.proofs.SparingLemmas.{turn_adds_own, turn_spares}
use Rattle.replay_run.specs.declared.client.Client as own
use Rattle.replay_run.specs.declared.prefs_parts.PrefsParts.{PrefsParts}
use Rattle.replay_run.specs.declared.running.Running.{Running}
use Rattle.replay_run.specs.declared.running_session.RunningSession.{RunningSession}
use Rattle.replay_run.specs.declared.task.Task.{Task}
use Rattle.replay_run.specs.declared.task.Task.TheVariants as task
use Rattle.replay_run.specs.ClientInvariant.{CallInvariant, ClientInvariant}
use Rattle.replay_run.specs.ClientSteps.{MayGo, Spares}
use Rattle.replay_run.specs.RunInvariant.{ReadsWell, RunInvariant}
use Rattle.replay_run.specs.RunningSteps.{origin_of}
use Rattle.replay_run.specs.RunState.{Client, NodeView, call_now}
use Rattle.replay_run.specs.SessionInvariant.{SessionInvariant}
use Rattle.replay_run.specs.SessionView.{EquippedIn, IsEquipped, IsNamed, client_seen, rules_in, running_seen, state_in, store_in, task_seen, view_in, world_in}
use Rattle.replay_run.specs.Settings.{Change, PrefCached, PrefCall, PrefRules, PrefStore, ScriptFolder, Value}
use Rattle.replay_run.specs.Steps.{ClientSteps, StepsAt, answer_given, brought_back, emptied, restarted_by}
use Rattle.replay_run.proofs.keeping.CallKept.{call_kept, none_own}
use Rattle.replay_run.proofs.keeping.StepCases.{StepCase, looks, rests, step_case, turns}
use Rattle.replay_run.proofs.keeping.StepsKeep.{steps_keep}
use Rattle.replay_run.proofs.kept.PlansKept.{reads_fresh}
use Rattle.replay_run.proofs.lists.SetViews.{all_found, all_set, map_set}
use Rattle.replay_run.proofs.session.ClientTurns.{act_called, act_seen, none_between}
use Rattle.replay_run.proofs.work.DeathsLeft.{alive_since}

-- main reads as the value of the history, and a quiet prefix that has all its raises has its value and its edition
reads_well : (session : RunningSession) → ReadsWell (rules_in session.shelf) (store_in session.shelf) (world_in session.shelf)
reads_well session =
    let r = rules_in session.shelf in
    let s = store_in session.shelf in
    let list = (shelf_seen session.shelf).list in
    record {
      told = refl;
      reads =
          λ told base reads.
          ∥∥₁_elim session.shelf.kept (base_set the_code (value_at r.meanings s list) base)
          (λ kept. value_is r IsMap s session.shelf.low_limit reads_once written_reads (world_in session.shelf).folder list base (kept.main told) reads);
      fresh =
          λ front back is quiet same.
          let known = λ (legal : Legal r.meanings s list). reads_fresh r.meanings s list legal front back is quiet same in (
            ∥∥₁_elim session.shelf.kept (base_set the_code (value_at r.meanings s list) (value_at r.meanings s front)) (λ kept. (known (kept.main refl).legal).0),
            ∥∥₁_elim session.shelf.kept (ℕ_set (edition_of list) (edition_of front)) (λ kept. (known (kept.main refl).legal).1),
          );
    }

length_emptied : (back : Option NodeId) (caches : List (Option PrefCached)) → length (emptied back caches) ≡ length caches
length_emptied None caches = refl
length_emptied (Some node) caches = length-set caches node.0 None

-- a node that died since the history was so long died in what was added
died_among : (node : NodeId) (list more : List PrefEntry) → died_since node (Some (length list)) (list ++ more) ≡ true → list_any (λ (e : PrefEntry). is_death_of node e.kind) more ≡ true
died_among node list more died = rw (drop-append_seam list more) at died

module _ {c : codec_trait.Ghosts PrefsCodec Value} {t : transform_trait.Ghosts Change Value} {f : folder_trait.Ghosts ScriptFolder} (old new : Shelf (PrefsParts ScriptFolder) PrefsCodec Change ScriptFolder Value c t f) (codec : new.codec ≡ old.codec) (store : store_in new ≡ store_in old) where
  -- what a call may find of the room that was kept for it, if its node lives
  abbrev RoomStays : Running → List PrefEntry → Type 0
  RoomStays call more = is_holding (running_seen call).at ≡ true → KeepsRoom c t f (shelf_seen old) (shelf_seen new) ⊎ Died (running_seen call) more

  -- a call that others left what it has is equipped as before, where its node lives
  equipped_on : (call : Running) → Knows (rules_in old) (store_in old) (world_in old) (running_seen call) → (between : Between (running_seen call) (world_in old) (world_in new)) → RoomStays call between.more → Equipped c t f (running_seen call).at (shelf_seen old)
      → IsEquipped new call
  equipped_on call knows between spared was alive =
      let seen = running_seen call in
      (still_ready c t f (origin_of seen) seen.at (shelf_seen new)
      (record { last = shelf_seen old; ready = λ lived. record { knows = knows; equipped = was }; between = between; codec = codec; store = store; kept = spared })
      alive).equipped

pub seen_at : (session : RunningSession) (place : ℕ) (x : own.Client) → slice_get session.clients.items place ≡ Some x → slice_get (state_in session).clients place ≡ Some (client_seen x)
seen_at session place x is = slice_get-map client_seen session.clients.items place ∙ ap (option_map client_seen) is

-- a client of the session may go
pub may_go : (session : RunningSession) (place : ℕ) (client : own.Client) → slice_get session.clients.items place ≡ Some client → SessionInvariant session → MayGo client session.shelf
may_go session place client found keeps =
    record {
      node = all_found (λ (x : own.Client). is_among x.node (store_in session.shelf).nodes ≡ true) session.clients.items place client found keeps.nodes;
      call = λ asked at_it. call_kept (rules_in session.shelf) (store_in session.shelf) (state_in session) place (client_seen client) (seen_at session place client found) keeps.state asked (act_called client asked at_it) at_it;
      untold = λ idle.
          none_own (state_in session).clients place (client_seen client) (seen_at session place client found) (keeps.state.clients place (client_seen client) (seen_at session place client found)).id (ap (option_map running_seen) idle) is_any
          (shelf_seen session.shelf).list keeps.state.entries;
      named = all_found (λ (x : own.Client). All (IsNamed (store_in session.shelf).nodes) x.asked.items) session.clients.items place client found keeps.named;
      equipped = all_found (λ x. EquippedIn session.shelf x) session.clients.items place client found keeps.equipped;
    }

-- a node that a step brings back has a cache
module _ (session : RunningSession) (place : ℕ) (client : own.Client) (found : slice_get session.clients.items place ≡ Some client) (keeps : SessionInvariant session) where
  abbrev HasPlace : Option NodeId → Type 0
  HasPlace back = IfSome back (λ node. node.0 < vec_len session.caches)

  back_by : (task : Option Task) (answer : Option AnswerSeen) → IfSome task (IsNamed (store_in session.shelf).nodes) → HasPlace (restarted_by (option_map task_seen task) answer)
  back_by (Some (task.Restart node)) (Some (seen.Restarted at)) named = keeps.places node named
  back_by other answer named = tt

  now_named : (task : Option Task) → slice_get client.asked.items (vec_len client.answered) ≡ task → IfSome task (IsNamed (store_in session.shelf).nodes)
  now_named None is = tt
  now_named (Some t) is =
      all_found (IsNamed (store_in session.shelf).nodes) client.asked.items (vec_len client.answered) t is (all_found (λ (x : own.Client). All (IsNamed (store_in session.shelf).nodes) x.asked.items) session.clients.items place client found keeps.named)

  pub back_has_cache : (after : own.Client) (back : Option NodeId) → back ≡ brought_back (client_seen client) (client_seen after) → HasPlace back
  back_has_cache after back is =
      let answer = answer_given (client_seen client) (client_seen after) in
      let task = slice_get client.asked.items (vec_len client.answered) in
      subst HasPlace (ap (λ asked. restarted_by asked answer) (sym (act_seen client)) ∙ sym is) (back_by task answer (now_named task refl))

-- its node has a cache
module _ (session : RunningSession) (place : ℕ) (client : own.Client) (found : slice_get session.clients.items place ≡ Some client) (keeps : SessionInvariant session) where
  pub at_home : client.node.0 < length (state_in session).shared.caches
  at_home = all_found (λ (x : Client). x.node.0 < length (state_in session).shared.caches) (state_in session).clients place (client_seen client) (seen_at session place client found) keeps.state.homes

  pub has_cache : (node : NodeId) → node ≡ client.node → node.0 < vec_len session.caches
  has_cache node is = subst (λ (node : NodeId). node.0 < vec_len session.caches) (sym is) (subst (λ n. client.node.0 < n) (length-map session.caches.items kept_seen ∙ sym session.caches.ok.0) at_home)

  pub finds_cache : (node : NodeId) (cache : Cache Value) → node ≡ client.node → cache ≡ slice_index_or session.caches.items node.0 cache → slice_get session.caches.items client.node.0 ≡ Some cache
  finds_cache node cache is value =
      subst (λ (node : NodeId). slice_get session.caches.items node.0 ≡ Some cache) is
      (slice_get_read session.caches.items (vec_len session.caches) node.0 cache session.caches.ok.0 (has_cache node is) value)

-- one client is another now
module _ (old new : RunningSession) (place : ℕ) (client after : own.Client) (found : slice_get old.clients.items place ≡ Some client) (now : new.clients.items ≡ slice_set old.clients.items place after) where
  pub clients_now : (state_in new).clients ≡ slice_set (state_in old).clients place (client_seen after)
  clients_now = ap (map client_seen) now ∙ map_set client_seen client_seen old.clients.items place after (λ j y apart is. refl)

  -- it did a step, which brought this node back, if any
  module _ (back : Option NodeId) (brought : back ≡ brought_back (client_seen client) (client_seen after)) (cache cache_after : Cache Value) (home : slice_get old.caches.items client.node.0 ≡ Some cache)
      (caches : map kept_seen new.caches.items ≡ emptied back (map kept_seen (slice_set old.caches.items client.node.0 cache_after))) (keeps : SessionInvariant old)
      (steps : ClientSteps (rules_in old.shelf) (store_in old.shelf) (client_seen client) (view_in old.shelf cache) (client_seen after) (view_in new.shelf cache_after)) where
    pub steps_at : StepsAt (rules_in old.shelf) (store_in old.shelf) place (state_in old) (state_in new)
    steps_at =
        record {
          client = client_seen client;
          client_after = client_seen after;
          kept = kept_seen cache;
          kept_after = kept_seen cache_after;
          was = seen_at old place client found;
          cache = slice_get-map kept_seen old.caches.items client.node.0 ∙ ap (option_map kept_seen) home;
          steps = steps;
          caches =
              caches
              ∙ (ap (emptied back) (map_set kept_seen kept_seen old.caches.items client.node.0 cache_after (λ j y apart is. refl))
              ∙ ap (λ (node : Option NodeId). emptied node (slice_set (map kept_seen old.caches.items) client.node.0 (kept_seen cache_after))) brought);
          now = clients_now;
        }

    -- there are as many caches
    many : vec_len new.caches ≡ vec_len old.caches
    many =
        new.caches.ok.0
        ∙ (sym (length-map new.caches.items kept_seen)
        ∙ (ap length caches
        ∙ (length_emptied back (map kept_seen (slice_set old.caches.items client.node.0 cache_after))
        ∙ (length-map (slice_set old.caches.items client.node.0 cache_after) kept_seen ∙ (length-set old.caches.items client.node.0 cache_after ∙ sym old.caches.ok.0)))))

    module _ (spares : Spares client old.shelf new.shelf) (node : after.node ≡ client.node) (same : after.asked ≡ client.asked) (equipped : EquippedIn new.shelf after) (codec : new.shelf.codec ≡ old.shelf.codec) (store : store_in new.shelf ≡ store_in old.shelf) where
      abbrev r : PrefRules
      r = rules_in old.shelf

      abbrev s : PrefStore
      s = store_in old.shelf

      -- a call of another client
      module _ (other : ℕ) (x : own.Client) (away : other ≡ place → ⊥) (is : slice_get old.clients.items other ≡ Some x) (call : Running) (runs : x.running ≡ Some call) where
        theirs : ClientInvariant r s other (world_in old.shelf) (client_seen x)
        theirs = keeps.state.clients other (client_seen x) (seen_at old other x is)

        kept : CallInvariant r s (client_seen x) (world_in old.shelf) (running_seen call)
        kept = subst (λ o. IfSome (option_map running_seen o) (CallInvariant r s (client_seen x) (world_in old.shelf))) runs theirs.running

        apart : x.id ≡ client.id → ⊥
        apart same = away (sym theirs.id ∙ (ap (λ (i : ClientId). i.0) same ∙ (keeps.state.clients place (client_seen client) (seen_at old place client found)).id))

        unlike : (x.id.0 == client.id.0) ≡ false
        unlike = ne_eqb x.id.0 client.id.0 (λ same. apart (ap (λ n. record { 0 = n }) same))

        abbrev WentOn : Type 0
        WentOn = StepCase r s (client_seen client) (view_in old.shelf cache) (client_seen after) (view_in new.shelf cache_after)

        grows : WentOn → (more : List PrefEntry) × ((shelf_seen new.shelf).list ≡ (shelf_seen old.shelf).list ++ more)
        grows (rests none same view) = ([], ap (λ (v : NodeView). v.world.history) view ∙ sym (append-nil (shelf_seen old.shelf).list))
        grows (looks at_it idle look) = ([], ap (λ (v : NodeView). v.world.history) look.same ∙ sym (append-nil (shelf_seen old.shelf).list))
        grows (turns asked called at_it turn) =
            let own = turn_adds_own r s (record { world = world_in old.shelf; call = call_now (client_seen client) asked; world_after = world_in new.shelf; call_after = turn.call_after }) turn.gave turn.turn in (own.more, own.added)

        module _ (knows : Knows r s (world_in old.shelf) (running_seen call)) where
          between : WentOn → Between (running_seen call) (world_in old.shelf) (world_in new.shelf)
          between (rests none same view) = none_between (world_in old.shelf) (world_in new.shelf) (running_seen call) (ap (λ (v : NodeView). v.world) view)
          between (looks at_it idle look) = none_between (world_in old.shelf) (world_in new.shelf) (running_seen call) (ap (λ (v : NodeView). v.world) look.same)
          between (turns asked called at_it turn) =
              let mine = call_kept r s (state_in old) place (client_seen client) (seen_at old place client found) keeps.state asked called at_it in
              let its : PrefCall = call_now (client_seen client) asked in
              let ids : ((running_seen call).id.client.0 == its.id.client.0) ≡ false = rw (kept.id, mine.id) unlike in
              turn_spares r s (record { world = world_in old.shelf; call = its; world_after = world_in new.shelf; call_after = turn.call_after }) turn.gave turn.turn
              (λ lives. mine.knows (alive_since its.id.node its.since (shelf_seen old.shelf).list lives)) (running_seen call) ids knows

          spared : (more : List PrefEntry) → (shelf_seen new.shelf).list ≡ (shelf_seen old.shelf).list ++ more → RoomStays old.shelf new.shelf codec store call more
          spared more grew holds =
              elim (spares (running_seen call).id (knows.holds holds).owns (λ nth same. apart (ap (λ (i : CallId). i.client) (sym kept.id ∙ same)))) [
                | inl room ↦ inl room
                | inr died ↦ inr (died_among (running_seen call).id.node (shelf_seen old.shelf).list more (rw grew at died))
              ]

        still_equipped : WentOn → IsEquipped old.shelf call → IsEquipped new.shelf call
        still_equipped step was alive =
            let grew = grows step in
            let lived = died_since-front (running_seen call).id.node (running_seen call).since (shelf_seen old.shelf).list grew.0 (rw grew.1 at alive) in
            let knows = kept.knows lived in
            let it = between knows step in
            equipped_on old.shelf new.shelf codec store call knows it (spared knows it.more it.grew) (was lived) alive

      others_equipped : (other : ℕ) (x : own.Client) → (other ≡ place → ⊥) → slice_get old.clients.items other ≡ Some x → EquippedIn new.shelf x
      others_equipped other x away is = by_running x.running refl (all_found (λ x. EquippedIn old.shelf x) old.clients.items other x is keeps.equipped)
        where
          by_running : (running : Option Running) → x.running ≡ running → IfSome running (IsEquipped old.shelf) → IfSome running (IsEquipped new.shelf)
          by_running None idle was = tt
          by_running (Some call) runs was = still_equipped other x away is call runs (step_case r s (client_seen client) (view_in old.shelf cache) (client_seen after) (view_in new.shelf cache_after) steps) was

      -- what holds of each client and does not change in a step
      each_on : (P : own.Client → Type 0) → (P client → P after) → All P old.clients.items → All P new.clients.items
      each_on P on all = subst (λ list. All P list) (sym now) (all_set P old.clients.items place after (on (all_found P old.clients.items place client found all)) (λ other x away is. all_found P old.clients.items other x is all))

      pub session_keeps : new.word ≡ raises_of (shelf_seen new.shelf).list → SessionInvariant new
      session_keeps number =
          let at_home : PrefStore → own.Client → Type 0 = λ s x. is_among x.node s.nodes ≡ true in
          let named : PrefStore → own.Client → Type 0 = λ s x. All (IsNamed s.nodes) x.asked.items in
          record {
            state = subst (λ (s : PrefStore). RunInvariant (rules_in new.shelf) s (state_in new)) (sym store) (steps_keep r s place (state_in old) (state_in new) steps_at (reads_well old) keeps.state);
            number = number;
            nodes = subst (λ (s : PrefStore). All (at_home s) new.clients.items) (sym store) (each_on (at_home s) (λ was. ap (λ node. is_among node s.nodes) node ∙ was) keeps.nodes);
            places = λ node among. subst (λ n. node.0 < n) (sym many) (keeps.places node (ap (λ (s : PrefStore). is_among node s.nodes) (sym store) ∙ among));
            named = subst (λ (s : PrefStore). All (named s) new.clients.items) (sym store) (each_on (named s) (λ was. subst (λ asked. All (IsNamed s.nodes) asked.items) (sym same) was) keeps.named);
            equipped = subst (λ list. All (λ x. EquippedIn new.shelf x) list) (sym now) (all_set (λ x. EquippedIn new.shelf x) old.clients.items place after equipped others_equipped);
          }

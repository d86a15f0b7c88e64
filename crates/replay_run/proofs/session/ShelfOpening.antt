-- The shelf of a script's first session, and the session that begins with it.
use Rattle.std.proofs.Common.{◌≡◌, ◌∙◌, ◌≤◌, ◌<◌, ℕ, true, false, All, List, [], ◌∷◌, length, map, Option, None, vec_len, refl, sym, ap, subst, arith}
use Rattle.std.proofs.lemmas.List.{length-map}
use Rattle.std.proofs.lemmas.List.Elements.{All-head, All-weaker}
use Rattle.std.proofs.lemmas.List.FromFn.{length-map-range_with_len}
use Rattle.store_traits.specs.declared.ids.NodeId.{NodeId}
use Rattle.folder_disk.specs.Contents.{Contents, Gone, Images, Starts}
use Rattle.folder_disk.specs.MainRead.{main_of}
use Rattle.folder_disk.specs.MemFolder.{fresh_contents}
use Rattle.folder_disk.specs.Tally.{StartsTally, Tally, most_of}
use Rattle.hist_journal.specs.declared.seen.BaseSeen.{BaseSeen}
use Rattle.hist_journal.specs.Folds.{raises_of}
use Rattle.prefs_edit.specs.contracts.edit.EditTransform.TheImpl as edit
use Rattle.prefs_proto.specs.contracts.prefs_codec.PrefsCodecCodec.TheImpl as codec
use Rattle.prefs_proto.specs.declared.prefs_codec.PrefsCodec.{PrefsCodec}
use Rattle.prefs_proto.specs.Reads.{Reads}
use Rattle.shelf.specs.declared.shelf.Shelf.{Shelf}
use Rattle.shelf.specs.AddsNode.{is_among}
use Rattle.shelf.specs.Base.{HasItsBase, ReadsAs}
use Rattle.shelf.specs.DeathPlan.{DeathPlanSeen}
use Rattle.shelf.specs.Opening.{Opens}
use Rattle.shelf.specs.ShelfSeen.{ShelfSeen, shelf_seen}
use Rattle.node_core.specs.Views.{world_seen}
use Rattle.value_cache.specs.Cached.{kept_seen}
use Rattle.script_lang.specs.declared.plan.script.Script.{Script}
use Rattle.script_lang.specs.declared.plan.session_plan.SessionPlan.{SessionPlan}
use Rattle.script_lang.specs.Chronicle.{due_of, nodes_of, tally_of}
use Rattle.script_lang.specs.Keeps.{Keeps, KeepsPlan}
use Rattle.replay_run.specs.declared.client.Client as own
use Rattle.replay_run.specs.declared.prefs_parts.PrefsParts.{PrefsParts}
use Rattle.replay_run.specs.declared.running_session.RunningSession.{RunningSession}
use Rattle.replay_run.specs.NewClients.{AreNew}
use Rattle.replay_run.specs.PrefsBasis.{prefs_basis}
use Rattle.replay_run.specs.RunInvariant.{RunInvariant}
use Rattle.replay_run.specs.RunState.{RunState}
use Rattle.replay_run.specs.SessionInvariant.{SessionInvariant}
use Rattle.replay_run.specs.SessionSteps.{IsOpened, IsStoreOf}
use Rattle.replay_run.specs.SessionView.{EquippedIn, IsNamed, rules_in, state_in, store_in, world_in}
use Rattle.replay_run.specs.Settings.{Change, PrefStore, ScriptFolder, Value}
use Rattle.replay_run.specs.ShelfOpens.{ShelfOpens, first_nodes, with_nodes}
use Rattle.replay_run.specs.Start.{start_of, world_of}
use Rattle.replay_run.proofs.keeping.Failures.{plan_fails_within}
use Rattle.replay_run.proofs.keeping.StepsKeep.{start_keeps}
use Rattle.replay_run.proofs.session.ScriptGhosts.{ghosts}
use Rattle.replay_run.proofs.session.OpeningLemmas.{among_first, homes_are, nodes_numbered, number_among}

abbrev contents_of : ScriptFolder → Contents
contents_of = ghosts.contents

abbrev tally_in : ScriptFolder → Tally
tally_in = ghosts.tally

abbrev SettingsShelf : Type 0
SettingsShelf = Shelf (PrefsParts ScriptFolder) PrefsCodec Change ScriptFolder Value codec.ghosts edit.ghosts ghosts

abbrev Seen : Type 0
Seen = ShelfSeen PrefsCodec ScriptFolder Value Change

no_raise : raises_of {V = Value} {T = Change} [] ≡ 0
unfolding raises_of
no_raise = refl

-- the shelf is that of a new folder, which has the script's file and fails by the plan, and of the plan's deaths
module _ (script : Script) (plan : SessionPlan) (unreplaced : script.start.replace ≡ false) (shelf : SettingsShelf) (first : ScriptFolder) (base : BaseSeen Value) (dying : DeathPlanSeen) (planned : dying.planned ≡ plan.deaths) (left : dying.left ≡ plan.deaths)
    (opens : Opens true (contents_of first) (tally_in first) 1048576 (record { entries = script.start.entries; weight = 268435456 }) dying base (shelf_seen shelf)) (starts : Starts (contents_of first) (contents_of shelf.folder))
    (tallies : StartsTally true (tally_in first) (tally_in shelf.folder)) (contents : contents_of first ≡ fresh_contents (main_of script.start.file)) (tally : tally_in first ≡ tally_of 0 plan)
    (reads : ReadsAs Reads [] 1048576 (contents_of first).main base) where
  abbrev s : PrefStore
  s = store_in shelf

  main_is : s.main ≡ main_of script.start.file
  main_is = opens.main refl ∙ ap (λ (c : Contents). c.main) contents

  count_is : s.folder.count ≡ 0
  count_is = opens.count ∙ ap (λ (t : Tally). t.count) tally

  -- what bounds the count is told as the folder begins
  most_is : s.folder.most ≡ most_of 0 (due_of plan)
  most_is = tallies.most refl ∙ ap (λ (t : Tally). most_of t.count t.due) tally

  -- all deaths of the plan are left
  deaths_are : s.deaths ≡ plan.deaths
  deaths_are = opens.planned ∙ planned

  -- a stop could leave nothing but main
  kept_alone : (contents_of first).kept ≡ Images ((contents_of first).main ∷ [])
  kept_alone = ap (λ (c : Contents). c.kept) contents ∙ ap (λ (main : Option (List ℕ)). Images (main ∷ [])) (sym (ap (λ (c : Contents). c.main) contents))

  -- main stands alone there, as it did in the new folder; the tally is that folder's
  world_starts : world_in shelf ≡ world_of (tally_of s.folder.count plan) s
  world_starts =
      let now : Contents = contents_of shelf.folder in
      let main : now.main ≡ s.main = starts.main ∙ sym (opens.main refl) in
      let scratch : now.scratch ≡ Gone = starts.scratch ∙ ap (λ (c : Contents). c.scratch) contents in
      let kept : now.kept ≡ Images (s.main ∷ []) = starts.kept ∙ (kept_alone ∙ ap (λ (main : Option (List ℕ)). Images (main ∷ [])) (sym (opens.main refl))) in
      let first_main : now.first ≡ s.main = starts.first ∙ sym (opens.main refl) in
      let alone : now.alone ≡ true = starts.alone.1 kept_alone in
      let count : (tally_in shelf.folder).count ≡ s.folder.count = tallies.count ∙ sym opens.count in
      let due : (tally_in shelf.folder).due ≡ due_of plan = tallies.due refl ∙ ap (λ (t : Tally). t.due) tally in
      let most : (tally_in shelf.folder).most ≡ most_of s.folder.count (due_of plan) =
      tallies.most refl ∙ (ap (λ (t : Tally). most_of t.count t.due) tally ∙ ap (λ (n : ℕ). most_of n (due_of plan)) (sym count_is)) in
      let deaths : (shelf_seen shelf).deaths ≡ s.deaths = opens.left ∙ (left ∙ sym deaths_are) in
      rw (main, scratch, kept, first_main, alone, count, most, due, deaths, opens.owner, opens.list, no_raise) refl

  based : HasItsBase Reads [] s
  based = rw (opens.file, opens.main refl, opens.base_now) reads

  stores : IsStoreOf prefs_basis script plan (record s { nodes = nodes_of script })
  stores told same =
      let alone : s.alone ≡ true = (opens.alone refl).1 kept_alone in
      rw (same, unreplaced, opens.file, opens.history, deaths_are, main_is, count_is, most_is, alone) refl

  pub shelf_opens : ShelfOpens prefs_basis script plan shelf
  shelf_opens = record { starts = world_starts; base = based; count = count_is; most = most_is; nodes = opens.nodes; store = stores }

-- the nodes are added, and there are new clients
module _ (script : Script) (plan : SessionPlan) (session : RunningSession) (first : SettingsShelf) (count : ℕ) (keeps : Keeps script) (planned : script.sessions ≡ plan ∷ []) (opens : ShelfOpens prefs_basis script plan first)
    (added : shelf_seen session.shelf ≡ with_nodes (shelf_seen first) (first_nodes count)) (counted : count ≡ length script.names.nodes) (new : AreNew script.homes session.clients.items)
    (empty : map kept_seen session.caches.items ≡ map (λ node. None) (first_nodes count)) (unused : session.word ≡ 0) where
  abbrev store : PrefStore
  store = store_in session.shelf

  seen : shelf_seen session.shelf ≡ with_nodes (shelf_seen first) (nodes_of script)
  seen = added ∙ ap (λ (nodes : List NodeId). with_nodes (shelf_seen first) nodes) (ap first_nodes counted ∙ sym (nodes_numbered 0 script.names.nodes))

  starts_now : state_in session ≡ start_of [] (tally_of store.folder.count plan) store script.homes
  starts_now =
      let caches : map kept_seen session.caches.items ≡ map (λ node. None) store.nodes = empty ∙ ap (λ (s : Seen). map (λ node. None) s.store.nodes) (sym added) in
      let world : world_in session.shelf ≡ world_of (tally_of store.folder.count plan) store =
      subst (λ (s : Seen). world_seen ghosts s ≡ world_of (tally_of s.store.folder.count plan) s.store) (sym seen) opens.starts in
      rw (world, caches, new.seen) refl

  at_home : All (λ (home : NodeId). is_among home store.nodes ≡ true) script.homes
  at_home =
      All-weaker (λ (home : NodeId). home.0 < length script.names.nodes) (λ (home : NodeId). is_among home store.nodes ≡ true)
      (λ home below. ap (λ (s : Seen). is_among home s.store.nodes) added ∙ among_first count home (omega (arith, below, counted))) script.homes keeps.homes.declared

  -- there is one for each number of a node
  numbers_at_home : All (λ (home : NodeId). home.0 < length store.nodes) script.homes
  numbers_at_home =
      let many : length store.nodes ≡ length script.names.nodes = ap (λ (s : Seen). length s.store.nodes) added ∙ (length-map-range_with_len (λ number. record { 0 = number }) 0 count ∙ counted) in
      subst (λ n. All (λ (home : NodeId). home.0 < n) script.homes) (sym many) keeps.homes.declared

  many_caches : vec_len session.caches ≡ count
  many_caches =
      session.caches.ok.0
      ∙ (sym (length-map session.caches.items kept_seen) ∙ (ap length empty ∙ (length-map (first_nodes count) (λ node. None) ∙ length-map-range_with_len (λ number. record { 0 = number }) 0 count)))

  none_failed : store.folder.count ≡ 0
  none_failed = ap (λ (s : Seen). s.store.folder.count) seen ∙ opens.count

  -- the plan bounds what fails
  most_now : store.folder.most ≡ most_of store.folder.count (due_of plan)
  most_now = ap (λ (s : Seen). s.store.folder.most) seen ∙ (opens.most ∙ ap (λ (n : ℕ). most_of n (due_of plan)) (sym none_failed))

  session_keeps : SessionInvariant session
  session_keeps =
      let kept : KeepsPlan script plan = All-head (KeepsPlan script) plan [] (subst (λ plans. All (KeepsPlan script) plans) planned keeps.sessions.plans) in
      record {
        state =
            subst (RunInvariant (rules_in session.shelf) store) (sym starts_now)
            (start_keeps (rules_in session.shelf) store [] (tally_of store.folder.count plan) script.homes refl (plan_fails_within store plan (rw none_failed omega arith) most_now kept.faults) numbers_at_home);
        number = unused ∙ sym (ap (λ (state : RunState). state.shared.world.version) starts_now);
        nodes = homes_are (λ (home : NodeId). is_among home store.nodes ≡ true) session.clients.items script.homes new.seen at_home;
        places = λ node among. subst (λ n. node.0 < n) (sym many_caches) (number_among count node (subst (λ (s : Seen). is_among node s.store.nodes ≡ true) added among));
        named =
            All-weaker (λ (client : own.Client). vec_len client.asked ≤ 0) (λ (client : own.Client). All (IsNamed store.nodes) client.asked.items)
            (λ client none k d within. absurd (omega (arith, none, within, client.asked.ok.0))) session.clients.items new.unasked;
        equipped =
            All-weaker (λ (client : own.Client). client.running ≡ None) (λ (client : own.Client). EquippedIn session.shelf client)
            (λ client none. rw none tt) session.clients.items new.rest;
      }

  pub is_opened : IsOpened script plan session
  is_opened = record { start = starts_now; store = subst (λ (s : Seen). IsStoreOf prefs_basis script plan s.store) (sym seen) opens.store; keeps = session_keeps }

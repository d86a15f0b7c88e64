-- A turn keeps the history lawful, and main what the history comes to.
use Rattle.std.proofs.Common.{◌≡◌, ◌∙◌, Bool, true, false, List, [], ◌∷◌, ◌++◌, Some, IfSome, IsTrue, refl, ap, sym, subst}
use Rattle.std.specs.List.{list_any}
use Rattle.std.proofs.lemmas.Bool.{or_parts}
use Rattle.store_traits.specs.declared.ids.CallId.{CallId}
use Rattle.folder_disk.specs.Contents.{Contents, scratch_bytes}
use Rattle.hist_journal.specs.declared.seen.EntrySeen.{EntrySeen}
use Rattle.hist_journal.specs.declared.seen.KindSeen.{KindSeen}
use Rattle.hist_journal.specs.Kinds.{is_change}
use Rattle.hist_journal.specs.Nodes.{is_dead}
use Rattle.shelf.specs.declared.store.Store.{Store}
use Rattle.shelf.specs.Deaths.{died_since}
use Rattle.shelf.specs.Entries.{with_entries}
use Rattle.shelf.specs.Kept.{KeptMain}
use Rattle.shelf.specs.Rules.{Rules}
use Rattle.shelf.specs.ShelfTurns.{FitInTurn}
use Rattle.shelf.proofs.Bools.{never}
use Rattle.shelf.proofs.KeptLemmas.{main_change, main_other, main_still}
use Rattle.step_table.specs.Calls.{At, Changed, Kept, Reply, is_gone}
use Rattle.step_table.specs.Effects.{Comes, Effect, FolderUse, Unused, Served, Faulted, Uses, all_kinds, left_by}
use Rattle.step_table.specs.Requests.{Leaves, ReadMain, Rename, Request, SyncFolder}
use Rattle.step_table.specs.Rows.{Row, acknowledges, renames}
use Rattle.step_table.specs.Turn.{AllowedBy, Turn, dies_now, has_died_by}
use Rattle.step_table.specs.World.{Turned, World, begin}
use Rattle.step_table.specs.declared.progress.Progress.{Progress}
use Rattle.node_core.specs.Knows.{IsDue, Knows}
use Rattle.node_core.specs.Ready.{MayWrite, plan_at}
use Rattle.node_core.proofs.DyingFits.{death_fits}
use Rattle.node_core.proofs.KeepingOn.{knows_begun, standing}
use Rattle.node_core.proofs.RenameLemmas.{writes_due}
use Rattle.replay_run.proofs.kept.RowFits.{FaultsRise, row_fits}

abbrev is_rename : Request → Bool
is_rename Rename = true
is_rename other = false

-- the folder's main may change
abbrev is_renaming : FolderUse → Bool
is_renaming (Served request) = is_rename request
is_renaming other = false

served_stays : (request : Request) (old new : Contents) → is_rename request ≡ false → Leaves request false old new → new.main ≡ old.main
served_stays ReadMain old new not is = ap (λ (c : Contents). c.main) is
served_stays SyncFolder old new not is = ap (λ (c : Contents). c.main) is
served_stays Rename old new not is = never (sym not)
served_stays other old new not is = is.main

faulted_stays : (request : Request) (old new : Contents) → Leaves request true old new → new.main ≡ old.main
faulted_stays ReadMain old new is = ap (λ (c : Contents). c.main) is
faulted_stays SyncFolder old new is = ap (λ (c : Contents). c.main) is
faulted_stays Rename old new is = ap (λ (c : Contents). c.main) is
faulted_stays other old new is = is.main

used_stays : {V T : Type 0} (t : Turned V T) (e : Effect V T) (used : FolderUse) → IsTrue t.world.told → Uses t e used → is_renaming used ≡ false
    → t.world_after.folder ≡ left_by used t.world.folder t.world_after.folder → t.world_after.folder.main ≡ t.world.folder.main
used_stays t e Unused told uses not left = ap (λ (c : Contents). c.main) left
used_stays t e (Served request) told uses not left = served_stays request t.world.folder t.world_after.folder not (uses.folder told)
used_stays t e (Faulted request) told uses not left = faulted_stays request t.world.folder t.world_after.folder (uses.folder told)

module _ {V T M : Type 0} (r : Rules V T) (I : V → Type 0) (s : Store V M) where
  main_kinds : (call : CallId) (kinds : List (KindSeen V T)) (c : Contents) (list : List (EntrySeen V T)) → list_any is_change kinds ≡ false → FitInTurn r.meanings s call kinds list
      → KeptMain r I s c list → KeptMain r I s c (with_entries call kinds list)
  main_kinds call [] c list none fits k = k
  main_kinds call (kind ∷ kinds) c list none fits k =
      let e : EntrySeen V T = record { who = call; kind = kind } in
      let parts = or_parts (is_change kind) (list_any is_change kinds) none in
      main_kinds call kinds c (list ++ e ∷ []) parts.1 fits.1 (main_other r I s c list e parts.0 fits.0 k)

  module _ (t : Turned V T) (told : IsTrue t.world.told) (kept : KeptMain r I s t.world.folder t.world.history) where
    -- main is what the entries of this effect make of it
    abbrev KeptBy : Effect V T → Type 0
    KeptBy e = KeptMain r I s t.world_after.folder (with_entries t.call.id (all_kinds e.folder t.world_after.tally.count e.kinds) t.world.history)

    main_stays : {e : Effect V T} {gave : Progress (Reply V)} → Comes t e gave → is_renaming e.folder ≡ false → list_any is_change (all_kinds e.folder t.world_after.tally.count e.kinds) ≡ false
        → FitInTurn r.meanings s t.call.id (all_kinds e.folder t.world_after.tally.count e.kinds) t.world.history → KeptBy e
    main_stays {e} comes not none fits =
        let same = used_stays t e e.folder told comes.used not (ap (λ (w : World V T). w.folder) comes.world) in
        main_kinds t.call.id _ t.world_after.folder t.world.history none fits (main_still r I s t.world.folder t.world_after.folder t.world.history same kept)

    module _ (lives : is_dead t.call.id.node t.world.history ≡ false) (rise : FaultsRise r s t) where
      row_keeps_main : {at : At V T} {e : Effect V T} {gave : Progress (Reply V)} → Row r s t.world t.call.id at e → Comes t e gave → Knows r s t.world (standing at t.call)
          → IfSome (plan_at at) (λ plan. MayWrite r I s t.world.history plan) → KeptBy e
      row_keeps_main (renames {plan = plan}) comes k may =
          let known = k.contents told in
          let due = subst (λ rest. IsDue r s t.world.history (record { change = plan.change; value = plan.value; text = record { written = plan.text.written; rest = rest } })) k.plan.nothing_left known.due in
          let now = ap (λ (c : Contents). c.main) (comes.used.folder told) ∙ ap (λ scratch. Some (scratch_bytes scratch)) known.scratch in
          main_change r I s t.world.folder t.world_after.folder t.world.history (record { who = t.call.id; kind = plan.change }) plan.text.written (ap is_change k.plan.asked.is)
          (row_fits r s t told lives rise kept.legal renames comes k).0 (writes_due r I s t.world.history t.call.id (record { kind = plan.change; value = plan.value }) plan.text.written due may) now kept
      row_keeps_main (acknowledges {ending = Changed place}) comes k may = main_stays comes refl refl (row_fits r s t told lives rise kept.legal (acknowledges {ending = Changed place}) comes k)
      row_keeps_main (acknowledges {ending = Kept edit}) comes k may = main_stays comes refl refl (row_fits r s t told lives rise kept.legal (acknowledges {ending = Kept edit}) comes k)
      row_keeps_main other comes k may = main_stays comes refl refl (row_fits r s t told lives rise kept.legal other comes k)

    module _ (rise : FaultsRise r s t) (knows : has_died_by t ≡ false → Knows r s t.world t.call) (may : has_died_by t ≡ false → IfSome (plan_at t.call.at) (λ plan. MayWrite r I s t.world.history plan)) where
      by_effect : (gone died dies : Bool) (e : Effect V T) {gave : Progress (Reply V)} → has_died_by t ≡ died → AllowedBy r s gone died dies t e → Comes t e gave → KeptBy e
      by_effect true died dies e is it comes = absurd it
      by_effect false true dies e is it comes = main_stays comes (rw it.is refl) (rw it.is refl) (rw it.is tt)
      by_effect false false dies e is it comes =
          let lives = (or_parts (is_dead t.call.id.node t.world.history) (died_since t.call.id.node t.call.since t.world.history) is).0 in
          by_death dies lives it
        where
          by_death : (dies : Bool) → is_dead t.call.id.node t.world.history ≡ false → AllowedBy r s false false dies t e → KeptBy e
          by_death true lives it = main_stays comes (rw it refl) (rw it refl) (rw it (let k = knows is in death_fits t.call.id t.world.history r.meanings s t.call.at k.entries lives k.numbers, tt))
          by_death false lives it = row_keeps_main lives rise it comes (knows is) (may is)

  -- whatever the turn is, of a call that knows the world as long as its node lives
  pub turn_keeps_main : (t : Turned V T) (gave : Progress (Reply V)) → Turn r s t gave → (has_died_by (begin t) ≡ false → Knows r s t.world t.call) → (has_died_by (begin t) ≡ false → IfSome (plan_at t.call.at) (λ plan. MayWrite r I s t.world.history plan))
      → IsTrue t.world.told → FaultsRise r s t → KeptMain r I s t.world.folder t.world.history → KeptMain r I s t.world_after.folder t.world_after.history
  turn_keeps_main t gave turn knows may told rise kept =
      subst (λ list. KeptMain r I s t.world_after.folder list) (sym (ap (λ (w : World V T). w.history) turn.comes.world))
      (by_effect (begin t) told kept rise (λ lives. knows_begun r s t (knows lives)) may (is_gone t.call.at) (has_died_by (begin t)) (dies_now (begin t)) turn.effect refl turn.allowed turn.comes)

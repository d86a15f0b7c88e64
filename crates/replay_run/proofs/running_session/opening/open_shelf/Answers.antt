use Rattle.std.proofs.Common.{◌≡◌, ◌∙◌, ap, sym, subst, rules, Option, List, [], ℕ, refl}
use Rattle.folder_disk.specs.FuseFolder.{behind_fuse}
use Rattle.folder_disk.specs.MemFolder.{contents_of, fresh_contents, tally_of}
use Rattle.folder_disk.specs.Contents.{Contents}
use Rattle.hist_journal.specs.View.{base_seen}
use Rattle.prefs_proto.specs.Reads.{Reads}
use Rattle.shelf.specs.Base.{ReadsAs}
use Rattle.shelf.specs.DeathPlan.{DeathPlanSeen}
use Rattle.replay_run.specs.Settings.{ScriptFolder}
use Rattle.replay_run.proofs.session.FusedFolder.{fused}
use Rattle.replay_run.proofs.session.ScriptGhosts.{ghosts}
use Rattle.replay_run.proofs.session.ShelfOpening.{shelf_opens}
use Rattle.replay_run.proofs.running_session.opening.open_shelf.Goals as goal

pub returns : goal.returns
returns c =
    let memory = c.in_ok-folder.folder in
    let first : ScriptFolder = c.new-folder.result in
    let base = base_seen c.in_ok-base.base in
    let copied : c.in_ok-failing.failing.items ≡ c.args.plan.now.folder_faults = search rules in
    let struck : c.in_ok-deaths.deaths.items ≡ c.args.plan.now.deaths = search rules in
    let within : ghosts.contents first ≡ contents_of memory = ap ghosts.contents c.new-folder.ensures in
    let told : ghosts.tally first ≡ behind_fuse c.args.plan.now.fuse 0 (tally_of memory) = ap ghosts.tally c.new-folder.ensures in
    shelf_opens c.args.script.now c.args.plan.now c.requires.unreplaced c.new-3.result first base c.in_ok-new.field-0 (ap (λ (dying : DeathPlanSeen). dying.planned) c.in_ok-new.ensures ∙ struck)
    (ap (λ (dying : DeathPlanSeen). dying.left) c.in_ok-new.ensures ∙ struck) c.new-3.ensures.shelf (c.new-3.ensures.folder refl) c.new-3.ensures.tally
    (within ∙ c.in_ok-folder.ensures.contents ∙ ap fresh_contents c.in_ok-main.ensures)
    (told ∙ ap (behind_fuse c.args.plan.now.fuse 0) c.in_ok-folder.ensures.tally ∙ fused c.args.plan.now c.in_ok-failing.failing.items copied)
    (subst (λ (main : Option (List ℕ)). ReadsAs Reads [] 1048576 main base) (c.main.ensures ∙ sym (ap (λ (c : Contents). c.main) within)) c.in_ok-base.ensures)

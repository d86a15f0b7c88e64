-- The scratch file is created, filled and synced, each once the call before it went well.
use Rattle.std.proofs.Common.{◌≡◌, ◌∙◌, true, false, ℕ, length, ap, subst}
use Rattle.std.proofs.lemmas.Result.{err_from_is_err_and}
use Rattle.folder_disk.specs.Calls.{Makes}
use Rattle.scratch_rename.specs.Filling.{Filling}
use Rattle.prefs_tool.specs.Folder.{append_calls}
use Rattle.prefs_tool.proofs.ReplaceLemmas.{appending_failed, create_failed, filled_or_not}
use Rattle.prefs_tool.proofs.replace.fill_scratch.Goals as goal

pub returns-in_err-begun-clause-calls : goal.returns-in_err-begun-clause-calls
returns-in_err-begun-clause-calls g c told =
    let p = err_from_is_err_and c.from_residual.result c.from_residual.ensures.1 in
    rw p.1 (create_failed (length c.args.text) _ _ (c.in_err-begun.ensures.tally.due told))

pub returns-in_err-filled-clause-calls : goal.returns-in_err-filled-clause-calls
returns-in_err-filled-clause-calls g c told =
    let tally = g.F.Folder.tally in
    let p = err_from_is_err_and c.from_residual-in_err-filled.result c.from_residual-in_err-filled.ensures.1 in
    let all : length c.in_ok-begun.begun.rest ≡ length c.args.text = ap (λ (plan : Filling). length plan.rest) c.in_ok-begun.ensures.plan ∙ ap length c.new.ensures in
    let appended = subst (λ (n : ℕ). Makes (append_calls n) true (tally c.create.new.folder).due (tally c.append_rest.new.folder).due) all (c.in_err-filled.ensures.calls told) in
    rw p.1 (appending_failed (length c.args.text) _ _ _ (c.in_ok-begun.ensures.tally.due told) appended)

pub returns-in_err-sync-clause-calls : goal.returns-in_err-sync-clause-calls
returns-in_err-sync-clause-calls g c told =
    let tally = g.F.Folder.tally in
    let p = err_from_is_err_and c.from_residual-in_err-sync.result c.from_residual-in_err-sync.ensures.1 in
    let all : length c.in_ok-begun.begun.rest ≡ length c.args.text = ap (λ (plan : Filling). length plan.rest) c.in_ok-begun.ensures.plan ∙ ap length c.new.ensures in
    let appended = subst (λ (n : ℕ). Makes (append_calls n) false (tally c.create.new.folder).due (tally c.append_rest.new.folder).due) all (c.in_ok-filled.ensures.calls told) in
    rw p.1 (filled_or_not (length c.args.text) true _ _ _ _ (c.in_ok-begun.ensures.tally.due told) appended (c.in_err-sync.ensures.tally.due told))

pub returns-clause-calls : goal.returns-clause-calls
returns-clause-calls g c told =
    let tally = g.F.Folder.tally in
    let all : length c.in_ok-begun.begun.rest ≡ length c.args.text = ap (λ (plan : Filling). length plan.rest) c.in_ok-begun.ensures.plan ∙ ap length c.new.ensures in
    let appended = subst (λ (n : ℕ). Makes (append_calls n) false (tally c.create.new.folder).due (tally c.append_rest.new.folder).due) all (c.in_ok-filled.ensures.calls told) in
    filled_or_not (length c.args.text) false _ _ _ _ (c.in_ok-begun.ensures.tally.due told) appended (c.in_ok-sync.ensures.tally.due told)

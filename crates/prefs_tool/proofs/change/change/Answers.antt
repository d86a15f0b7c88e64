-- Nothing is written where the map stays as it was, and another map is stored.
use Rattle.std.proofs.Common.{◌≡◌, List, subst}
use Rattle.std.proofs.lemmas.Result.{err_from_is_err_and}
use Rattle.store_traits.specs.declared.applied.Applied.TheVariants.{Changed}
use Rattle.store_traits.proofs.FaultLemmas.{counts_since}
use Rattle.folder_disk.specs.Seen.{folder_seen}
use Rattle.prefs_edit.specs.declared.edit_step.EditStep.{EditStep}
use Rattle.prefs_edit.specs.After.{after_steps}
use Rattle.prefs_tool.specs.Folder.{is_storage}
use Rattle.prefs_tool.proofs.ChangeLemmas.{edit_is_no_fault, edit_stops, no_truth, reading_stops, stored, synced}
use Rattle.prefs_tool.proofs.change.change.Goals as goal

pub returns-in_err-edit : goal.returns-in_err-edit
returns-in_err-edit g c =
    let p = err_from_is_err_and c.from_residual.result c.from_residual.ensures.1 in
    let e = c.in_err-edit.field-0.0 in
    let folder = folder_seen g.F.Folder c.args.folder.now in
    rw (p.1, p.2) (record {
      outcome = edit_stops (Unit {0}) c.args.step folder e c.in_err-edit.ensures.none;
      faults = edit_is_no_fault (Unit {0}) c.args.step folder.tally.count e c.in_err-edit.ensures.none;
    })

pub returns-in_err-old : goal.returns-in_err-old
returns-in_err-old g c =
    let p = err_from_is_err_and c.from_residual-in_err-old.result c.from_residual-in_err-old.ensures.1 in
    let seen = folder_seen g.F.Folder in
    let why = c.in_err-old.ensures in
    rw (p.1, p.2) (record {
      outcome = reading_stops (Unit {0}) c.args.step (seen c.args.folder.now) (seen c.read_map.new.folder) c.in_err-old.field-0.0 c.in_ok-edit.ensures.edit.1 why.read why.only;
      faults = why.faults;
    })

pub returns-then-equal : goal.returns-then-equal
returns-then-equal g c =
    let seen = folder_seen g.F.Folder in
    let pairs = c.in_ok-old.old in
    let after = c.in_ok-new.new in
    let edit = c.in_ok-edit.ensures.edit in
    let read = c.in_ok-old.ensures in
    let made = subst (λ (steps : List EditStep). after_steps steps pairs ≡ Changed after) edit.0 c.in_ok-new.ensures.made in
    record {
      outcome = synced g.F.Folder c.args.step c.args.folder.now c.read_map.new.folder c.sync.new.folder pairs after edit.1
          (λ told. record { reads = read.read told; makes = made }) read.only c.sync.result (c.equal.ensures.0 c.if-equal.true) c.sync.ensures.outcome;
      faults = counts_since (is_storage c.sync.result) _ _ _ read.faults.kept c.sync.ensures.faults;
    }

pub returns : goal.returns
returns g c =
    let seen = folder_seen g.F.Folder in
    let pairs = c.in_ok-old.old in
    let after = c.in_ok-new.new in
    let edit = c.in_ok-edit.ensures.edit in
    let read = c.in_ok-old.ensures in
    let made = subst (λ (steps : List EditStep). after_steps steps pairs ≡ Changed after) edit.0 c.in_ok-new.ensures.made in
    record {
      outcome = stored g.F.Folder c.args.step c.args.folder.now c.read_map.new.folder c.store.new.folder pairs after edit.1
          (λ told. record { reads = read.read told; makes = made }) read.only c.store.result
          (λ same. no_truth c.equal.result c.if-equal.false (c.equal.ensures.1 same)) c.store.ensures.outcome;
      faults = counts_since (is_storage c.store.result) _ _ _ read.faults.kept c.store.ensures.faults;
    }

use Rattle.std.proofs.Common.{◌∙◌, ap}
use Rattle.std.proofs.lemmas.Bool.Decides.{same_from_decides}
use Rattle.prefs_edit.specs.Same.{is_value, same_value}
use Rattle.prefs_edit.proofs.Same.{same_value-Decides}
use Rattle.prefs_edit.proofs.require.has_this.Goals as goal

-- two tests of the same fact
pub returns-in-Some : goal.returns-in-Some
returns-in-Some c =
    same_from_decides c.equal.result (same_value c.in-Some.found.now c.args.value.now) c.equal.ensures (same_value-Decides c.in-Some.found.now c.args.value.now)
    ∙ ap (λ found. is_value found c.args.value.now) c.in-Some.ensures

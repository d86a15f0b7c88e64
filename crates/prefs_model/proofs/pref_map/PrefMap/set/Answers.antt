use Rattle.std.proofs.Common.{◌≡◌, true, false, sym, ◌∙◌}
use Rattle.prefs_model.specs.Map.{key_of}
use Rattle.prefs_model.proofs.Rising.{is_some-value_under}
use Rattle.prefs_model.proofs.pref_map.PrefMap.set.Goals as goal

-- memory fails only for a key that was not there
pub returns-in_err-insert-clause-overwrite_succeeds :
    goal.returns-in_err-insert-clause-overwrite_succeeds
returns-in_err-insert-clause-overwrite_succeeds c found =
    let there = sym (is_some-value_under key_of (λ pair. pair.value) c.args.self.now c.args.key) ∙ found in
    let wrong : false ≡ true = c.in_err-insert.ensures.overwrite_succeeds (rw c.self.view_is there) in
    cc

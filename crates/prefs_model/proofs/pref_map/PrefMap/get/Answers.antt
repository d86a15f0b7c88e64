use Rattle.std.proofs.Common.{sym, ◌∙◌, ap, option_map}
use Rattle.prefs_model.specs.Map.{key_of}
use Rattle.prefs_model.proofs.Rising.{value_under-found}
use Rattle.prefs_model.proofs.pref_map.PrefMap.get.Goals as goal

-- the value of the pair that was found
pub returns-in-Some : goal.returns-in-Some
returns-in-Some c =
    let found = rw (c.as_str.ensures.value, c.self.view_is) at c.in-Some.ensures in
    ap (option_map (λ pair. pair.value)) found ∙ sym (value_under-found key_of (λ pair. pair.value) c.args.self.now c.args.key.now)

pub returns-in-None : goal.returns-in-None
returns-in-None c =
    let none = rw (c.as_str.ensures.value, c.self.view_is) at c.in-None.ensures in
    ap (option_map (λ pair. pair.value)) none ∙ sym (value_under-found key_of (λ pair. pair.value) c.args.self.now c.args.key.now)

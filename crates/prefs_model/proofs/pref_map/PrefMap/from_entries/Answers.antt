use Rattle.std.proofs.Common.{reverse, sym, ◌∙◌, ap, option_map}
use Rattle.prefs_model.specs.Map.{key_of}
use Rattle.prefs_model.proofs.Rising.{value_under-found}
use Rattle.prefs_model.proofs.pref_map.PrefMap.from_entries.Goals as goal

-- the value of the last entry
pub returns : goal.returns
returns c key =
    value_under-found key_of (λ pair. pair.value) c.in_ok-pairs.pairs key
    ∙ ap (option_map (λ pair. pair.value)) (c.in_ok-pairs.ensures key)
    ∙ sym (value_under-found key_of (λ pair. pair.value) (reverse c.args.entries) key)

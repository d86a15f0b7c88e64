use Rattle.std.proofs.Common.{reverse, sym, ◌∙◌}
use Rattle.prefs_model.proofs.EntryLemmas.{same_first, unset_along}
use Rattle.prefs_model.proofs.pref_map.PrefMap.from_set_entries.Goals as goal

pub returns-in-Ok : goal.returns-in-Ok
returns-in-Ok c =
    let last = rw c.into_vec.ensures.items at c.in_ok-last.ensures.last in
    let values = rw c.in-Ok.is at c.in_ok-pairs.ensures.values in
    rw c.from_sorted.ensures (λ key. sym (same_first c.in_ok-last.last.items (reverse c.args.entries) last key) ∙ values key)

pub returns-in-Err : goal.returns-in-Err
returns-in-Err c =
    let last = rw c.into_vec.ensures.items at c.in_ok-last.ensures.last in
    unset_along c.in_ok-last.last.items (reverse c.args.entries) c.in-Err.key (same_first c.in_ok-last.last.items (reverse c.args.entries) last) (rw c.in-Err.is at c.in_ok-pairs.ensures.unset)

use Rattle.std.proofs.Common.{◌≡◌, [], refl, arith}
use Rattle.std.proofs.lemmas.Grind.{common_steps}
use Rattle.prefs_model.specs.declared.pref_pair.PrefPair.{PrefPair}
use Rattle.prefs_model.specs.Map.{IsPair}
use Rattle.prefs_model.proofs.EntryLemmas.{taken_pair, taken_none, taken_sorted, taken_values}
use Rattle.prefs_model.proofs.first_values.first_values.Goals as goal

pub returns-in_default-value-clause-unset : goal.returns-in_default-value-clause-unset
returns-in_default-value-clause-unset c =
    taken_none c.args.entries.items c.loop-key.entries.items c.pop.new.self.items c.loop-key.pairs.items c.in-Some.field-0 c.loop-key.invariant c.in-Some.ensures.items c.in_default-value.is c.requires

pub loop-key-preserved : goal.loop-key-preserved
loop-key-preserved c =
    let pair : PrefPair = record { key = c.in-Some.field-0.key; value = c.in-Some-value.value } in
    let valid : IsPair pair = record { key = c.know_valid.ensures.key; value = c.know_valid.ensures.value } in
    rw c.in_ok-push.ensures.items (taken_pair c.args.entries.items c.loop-key.entries.items c.pop.new.self.items c.loop-key.pairs.items c.in-Some.field-0 pair c.loop-key.invariant c.in-Some.ensures.items refl c.in-Some-value.is valid)

pub returns-clause-sorted : goal.returns-clause-sorted
returns-clause-sorted c =
    let none_left : c.loop-key.entries.items ≡ [] = grind (arith, common_steps, c.in_default.ensures.items, c.in_default.ensures.cases) in
    taken_sorted c.args.entries.items c.loop-key.entries.items c.loop-key.pairs.items c.loop-key.invariant none_left c.requires

pub returns-clause-values : goal.returns-clause-values
returns-clause-values c =
    let none_left : c.loop-key.entries.items ≡ [] = grind (arith, common_steps, c.in_default.ensures.items, c.in_default.ensures.cases) in
    taken_values c.args.entries.items c.loop-key.entries.items c.loop-key.pairs.items c.loop-key.invariant none_left

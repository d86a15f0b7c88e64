use Rattle.std.proofs.Common.{◌∙◌, ◌≡◌, Some, length, cond, rules}
use Rattle.std.specs.Prelude.{string_bytes}
use Rattle.std.specs.Str.{bytes_eq}
use Rattle.std.specs.HashMap.{get_by_text}
use Rattle.std.proofs.lemmas.Map.Text.{hash_map_updates_text}
use Rattle.script_lang.proofs.NameLemmas.{finds_more}
use Rattle.script_lang.proofs.parsing.name_table.NameTable.with.Goals as goal

pub invariant_of-result : goal.invariant_of-result
invariant_of-result c = λ other.
    let names = c.self.inside.names.items in
    let key = string_bytes c.in_ok-key.key in
    let found : get_by_text c.insert.new.self other ≡ cond (bytes_eq key other) (Some c.len-place.result) (get_by_text c.self.inside.places other)
    = hash_map_updates_text key c.self.inside.places c.insert.new.self _ c.in_ok-insert.ensures.updates other in
    let named : key ≡ c.args.name = c.in_ok-key.ensures.ok ∙ c.as_str.ensures in
    let counted : c.len-place.result ≡ length names = search rules in
    rw c.in_ok-push.ensures.items (finds_more names c.args.name other _ _ (rw (← named, ← counted) found) (c.self.invariant other))

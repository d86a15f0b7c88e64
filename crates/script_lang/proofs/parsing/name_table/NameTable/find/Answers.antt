use Rattle.std.proofs.Common.{◌∙◌}
use Rattle.script_lang.proofs.parsing.name_table.NameTable.find.Goals as goal

pub returns : goal.returns
returns c = rw (c.copied.ensures ∙ c.get.ensures.value, ← c.self.view_is) (c.self.invariant c.args.name.now)

use Rattle.script_lang.proofs.NameLemmas.{found_exactly}
use Rattle.script_lang.proofs.parsing.name_table.NameTable.contains.Goals as goal

pub returns : goal.returns
returns c = rw c.is_some.ensures (found_exactly c.args.self.now c.args.name.now c.find.result c.find.ensures)

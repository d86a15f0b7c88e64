use Rattle.wire_codec.proofs.Counts.{only_count, only_fault}
use Rattle.wire_codec.proofs.message.count_fields.Goals as goal

pub returns-clause-each_message : goal.returns-clause-each_message
returns-clause-each_message c = only_count c.walk.result c.walk.ensures

pub returns-clause-each_fault : goal.returns-clause-each_fault
returns-clause-each_fault c = only_fault c.walk.result c.walk.ensures

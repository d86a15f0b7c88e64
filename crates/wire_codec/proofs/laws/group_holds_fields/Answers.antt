use Rattle.std.proofs.Common.{refl}
use Rattle.wire_codec.proofs.Bodies.{fields_are_body, body_is_fields}
use Rattle.wire_codec.proofs.laws.group_holds_fields.Goals as goal

pub returns-clause-message : goal.returns-clause-message
returns-clause-message c = λ at bytes fields f. fields_are_body fields f

pub returns-clause-group : goal.returns-clause-group
returns-clause-group c = λ at bytes b. body_is_fields at b refl

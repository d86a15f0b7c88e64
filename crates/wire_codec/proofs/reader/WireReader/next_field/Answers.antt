use Rattle.wire_codec.proofs.Walk.{next_once, next_fits}
use Rattle.wire_codec.proofs.reader.WireReader.next_field.Goals as goal

pub returns-clause-only : goal.returns-clause-only
returns-clause-only c = λ answer new n. next_once _ answer c.args.self.now c.advance.new.self new c.advance.ensures.next n

pub returns-clause-fits : goal.returns-clause-fits
returns-clause-fits c = next_fits _ c.args.self.now c.advance.new.self c.advance.ensures.next c.advance.ensures.small

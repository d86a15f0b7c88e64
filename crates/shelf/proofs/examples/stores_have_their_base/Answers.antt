use Rattle.std.proofs.Common.{refl, arith}
use Rattle.shelf.proofs.examples.stores_have_their_base.Goals as goal

pub returns : goal.returns
returns c = record { absent = refl; readable = (omega arith, refl); unreadable = (omega arith, λ v is. cc); too_long = (omega arith, refl) }

use Rattle.shelf.proofs.FreshLemmas.{quiet_is_fresh}
use Rattle.shelf.proofs.laws.quiet_is_fresh.Goals as goal

pub returns : goal.returns
returns g c =
    record {
      value = λ m s kept later legal quiet same. (quiet_is_fresh m s kept later legal quiet same).value;
      edition = λ m s kept later legal quiet same. (quiet_is_fresh m s kept later legal quiet same).edition;
    }

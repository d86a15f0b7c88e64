use Rattle.shelf.proofs.ImageLemmas.{images-since_synced}
use Rattle.shelf.proofs.laws.images_hold_what_is_synced.Goals as goal

pub returns : goal.returns
returns g c = images-since_synced

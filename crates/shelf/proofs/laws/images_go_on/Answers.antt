use Rattle.shelf.proofs.ImageLemmas.{kept_front-unkept, images-empty, images-synced, images-change, images-other}
use Rattle.shelf.proofs.laws.images_go_on.Goals as goal

pub returns : goal.returns
returns g c = record { empty = images-empty; synced = images-synced; change = images-change; other = images-other; parts = kept_front-unkept }

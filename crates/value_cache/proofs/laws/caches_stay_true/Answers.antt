use Rattle.value_cache.proofs.TruthLemmas.{IsOfPrefix-now, IsOfPrefix-append, IsOfPrefix-published}
use Rattle.value_cache.proofs.laws.caches_stay_true.Goals as goal

pub returns : goal.returns
returns g c = record { now = IsOfPrefix-now; longer = IsOfPrefix-append; published = IsOfPrefix-published }

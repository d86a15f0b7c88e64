use Rattle.hist_journal.proofs.NodeLemmas.{is_dead-push, is_ready-push}
use Rattle.hist_journal.proofs.fold_laws.nodes_go_on.Goals as goal

pub returns : goal.returns
returns g c = record { dead = is_dead-push; ready = is_ready-push }

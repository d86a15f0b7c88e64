-- What a restart is answered, among all answers.
use Rattle.std.specs.Prelude.{ℕ, Result, Ok, Err}
use Rattle.store_traits.specs.declared.update_error.UpdateError.TheVariants as error
use Rattle.shelf.specs.declared.answers.RestartError.{RestartError}
use Rattle.shelf.specs.declared.answers.RestartError.TheVariants as restart
use Rattle.step_table.specs.Calls.{Failed, NotDead, Reply, Restarted}

abbrev pub reply_of_restart : {V : Type 0} → Result ℕ RestartError → Reply V
reply_of_restart (Ok place) = Restarted place
reply_of_restart (Err (restart.Died place)) = Failed (error.Died place)
reply_of_restart (Err restart.NotDead) = NotDead
reply_of_restart (Err restart.NoMemory) = Failed error.NoMemory

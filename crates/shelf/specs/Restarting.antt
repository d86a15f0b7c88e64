-- What comes of a restart, and why.
use Rattle.std.specs.Prelude.{◌≡◌, ◌⊎◌, ◌+◌, ℕ, true, false, List, [], ◌∷◌, length, None, Result, Ok, Err}
use Rattle.store_traits.specs.declared.ids.CallId.{CallId}
use Rattle.store_traits.specs.declared.ids.NodeId.{NodeId}
use Rattle.store_traits.specs.declared.step.Step.TheVariants.{R1}
use Rattle.hist_journal.specs.declared.seen.KindSeen.{KindSeen}
use Rattle.hist_journal.specs.declared.seen.KindSeen.TheVariants.{Restart}
use Rattle.hist_journal.specs.Nodes.{is_dead}
use Rattle.shelf.specs.declared.answers.RestartError.{RestartError}
use Rattle.shelf.specs.declared.answers.RestartError.TheVariants.{Died, NotDead, NoMemory}
use Rattle.shelf.specs.Deaths.{has_died}
use Rattle.shelf.specs.Dying.{DiedBefore, DiesNow, is_to_die}
use Rattle.shelf.specs.ShelfSeen.{ShelfSeen}
use Rattle.shelf.specs.ShelfTurns.{Frees}

module _ {C F V T : Type 0} (call : CallId) (node : NodeId) where
  -- no death ends the call; these entries of it are added, and it owns nothing
  pub record Acts (kinds : List (KindSeen V T)) (old new : ShelfSeen C F V T) : Type 0 where
    pub lives : has_died call.node None old.list ≡ false
    pub unplanned : is_to_die call R1 old ≡ false
    pub frees : Frees call kinds old new

  -- the node lives again from this place on; a death ends the call; or the node is not dead; or there is no room to tell of it
  abbrev pub RestartRow : Result ℕ RestartError → ShelfSeen C F V T → ShelfSeen C F V T → Type 0
  RestartRow (Ok place) old new = Acts (Restart node ∷ []) old new × (is_dead node old.list ≡ true) × (place ≡ length old.list + 1)
  RestartRow (Err (Died place)) old new = DiedBefore call R1 None place old new ⊎ DiesNow call R1 None place old new
  RestartRow (Err NotDead) old new = Acts [] old new × (is_dead node old.list ≡ false)
  RestartRow (Err NoMemory) old new = Acts [] old new × (is_dead node old.list ≡ true)

-- Turns of several calls, one after another.
use Rattle.std.specs.Prelude.{◌≡◌, ℕ, List, [], ◌∷◌, Some, slice_get, slice_set}
use Rattle.shelf.specs.declared.store.Store.{Store}
use Rattle.step_table.specs.Calls.{Call, Reply}
use Rattle.step_table.specs.declared.progress.Progress.{Progress}
use Rattle.step_table.specs.Turn.{Turn}
use Rattle.shelf.specs.Rules.{Rules}
use Rattle.step_table.specs.World.{World}

-- a world, and the calls that are made in it
pub record Scene (V T : Type 0) : Type 0 where
  pub world : World V T
  pub calls : List (Call V T)

-- whose turn it was, by the place among the calls, counted from 0; and what the turn gave
pub record Did (V : Type 0) : Type 0 where
  pub place : ℕ
  pub gave : Progress (Reply V)

module _ {V T M : Type 0} (r : Rules V T) (s : Store V M) where
  -- the call at this place does a turn, and the others stay as they are
  pub record Goes (did : Did V) (old new : Scene V T) : Type 0 where
    pub call : Call V T
    pub call_after : Call V T
    pub was : slice_get old.calls did.place ≡ Some call
    pub now : new.calls ≡ slice_set old.calls did.place call_after
    pub turn : Turn r s (record { world = old.world; call = call; world_after = new.world; call_after = call_after }) did.gave

  unfoldable pub Run : List (Did V) → Scene V T → Scene V T → Type 0
  Run [] old new = new ≡ old
  Run (did ∷ rest) old new = (between : Scene V T) × Goes did old between × Run rest between new

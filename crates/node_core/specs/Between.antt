-- What others may do between two turns of a call.
use Rattle.std.specs.Prelude.{◌≡◌, ◌⊎◌, true, false, List, ◌++◌, IsTrue}
use Rattle.std.specs.List.{list_any}
use Rattle.hist_journal.specs.declared.seen.EntrySeen.{EntrySeen}
use Rattle.hist_journal.specs.Kinds.{is_death_of}
use Rattle.shelf.specs.CallOrder.{is_later}
use Rattle.step_table.specs.Calls.{Call}
use Rattle.shelf.specs.Meanwhile.{NoneOf, are_outer}
use Rattle.step_table.specs.World.{World}
use Rattle.node_core.specs.Phases.{is_holding}

module _ {V T : Type 0} where
  -- the owner, the scratch file and the history without Faults, Deaths and Restarts are as they were
  pub record Undisturbed (last now : World V T) (more : List (EntrySeen V T)) : Type 0 where
    pub owner : now.owner ≡ last.owner
    pub scratch : IsTrue last.told → now.folder.scratch ≡ last.folder.scratch
    pub outer : are_outer more ≡ true

  -- its node died meanwhile
  abbrev pub Died : Call V T → List (EntrySeen V T) → Type 0
  Died c more = list_any (λ e. is_death_of c.id.node e.kind) more ≡ true

  -- the history grew by entries of others, none of a later call of its client; where the call owned the lock nothing of that is disturbed, unless its node died
  pub record Between (c : Call V T) (last now : World V T) : Type 0 where
    pub more : List (EntrySeen V T)
    pub grew : now.history ≡ last.history ++ more
    pub others : NoneOf c.id more
    pub numbers : list_any (is_later c.id) more ≡ false
    pub told : now.told ≡ last.told
    pub held : is_holding c.at ≡ true → Undisturbed last now more ⊎ Died c more

-- A turn: the rules of every turn, then the row; what they allow is done.
use Rattle.std.specs.Prelude.{◌≡◌, ℕ, Bool, true, false, ◌∷◌, [], Some}
use Rattle.std.specs.List.{list_any}
use Rattle.store_traits.specs.declared.update_error.UpdateError.TheVariants.{Died}
use Rattle.hist_journal.specs.declared.seen.KindSeen.TheVariants.{Death}
use Rattle.shelf.specs.declared.store.Store.{Store}
use Rattle.shelf.specs.Deaths.{has_died, last_death, strikes}
use Rattle.shelf.specs.Rules.{Rules}
use Rattle.step_table.specs.Calls.{Reply, is_gone}
use Rattle.step_table.specs.Effects.{Ceases, Comes, Effect, adding, does, errs}
use Rattle.step_table.specs.Rows.{Row}
use Rattle.step_table.specs.World.{Turned, begin, next_place, step_of}
use Rattle.step_table.specs.declared.progress.Progress.{Progress}

module _ {V T : Type 0} (t : Turned V T) where
  abbrev pub has_died_by : Bool
  has_died_by = has_died t.call.id.node t.call.since t.world.history

  abbrev pub dies_now : Bool
  dies_now = list_any (strikes t.call.id (step_of t)) t.world.deaths

  -- the node died before: the call ends, and nothing changes
  pub record EndsDead (e : Effect V T) : Type 0 where
    pub place : ℕ
    pub last : last_death t.call.id.node t.world.history ≡ Some place
    pub is : e ≡ does (Ceases place)

  -- the planned death strikes: the node is dead, and the call ends
  abbrev pub dying : Effect V T
  dying = record (adding (Death t.call.id.node ∷ []) (errs (Died (next_place t.world)))) { dies = true }

module _ {V T M : Type 0} (r : Rules V T) (s : Store V M) where
  -- what the table says of the step that the call is at
  abbrev pub RowOf : Turned V T → Effect V T → Type 0
  RowOf t e = Row r s t.world t.call.id t.call.at e

  -- a call that ended has no turn; a death of the node comes first, then one that is planned, then the row
  abbrev pub AllowedBy : (gone died dies : Bool) → Turned V T → Effect V T → Type 0
  AllowedBy true died dies t e = ⊥
  AllowedBy false true dies t e = EndsDead t e
  AllowedBy false false true t e = e ≡ dying t
  AllowedBy false false false t e = RowOf t e

  abbrev pub Allowed : Turned V T → Effect V T → Type 0
  Allowed t e = AllowedBy (is_gone t.call.at) (has_died_by t) (dies_now t) t e

  -- the row's own work, of a call that lives
  pub record Works (t : Turned V T) (gave : Progress (Reply V)) : Type 0 where
    pub effect : Effect V T
    pub row : RowOf t effect
    pub comes : Comes t effect gave

  pub record Turn (t : Turned V T) (gave : Progress (Reply V)) : Type 0 where
    pub effect : Effect V T
    pub allowed : Allowed (begin t) effect
    pub comes : Comes (begin t) effect gave

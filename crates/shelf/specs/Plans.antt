-- Plans: what is to be written, and which change it is for.
use Rattle.std.specs.Prelude.{◌≡◌, ℕ, List, [], ◌∷◌, ◌++◌, length}
use Rattle.hist_journal.specs.declared.seen.BaseSeen.TheVariants.{Held}
use Rattle.hist_journal.specs.declared.seen.EntrySeen.{EntrySeen}
use Rattle.folder_disk.specs.Room.{Room, HasRoomFor}
use Rattle.shelf.specs.declared.answers.PlanMade.{PlanMade}
use Rattle.shelf.specs.declared.answers.PlanMade.TheVariants.{Plan, TooLong, NoMemory}
use Rattle.shelf.specs.declared.store.Store.{Store}
use Rattle.shelf.specs.Kept.{MayBeMain}
use Rattle.shelf.specs.Legal.{value_at}
use Rattle.shelf.specs.PastBounds.{IsPastLimit}
use Rattle.shelf.specs.Rules.{Rules}

module _ {V T M : Type 0} (r : Rules V T) (IsValue : V → Type 0) (s : Store V M) where
  -- the plan is the text of this value, which may be main
  pub record Writes (v : V) (plan : List ℕ) : Type 0 where
    pub text : plan ≡ r.encoded v
    pub may : MayBeMain r IsValue s v

  -- the plan is the text of the value that this entry makes
  pub record WritesChange (list : List (EntrySeen V T)) (e : EntrySeen V T) (plan : List ℕ) : Type 0 where
    pub value : V
    pub makes : value_at r.meanings s (list ++ e ∷ []) ≡ Held value
    pub writes : Writes value plan

  -- a plan of the value; or the length of its text, which passes the limit
  abbrev pub PlanRow : V → PlanMade → Type 0
  PlanRow v (Plan plan) = Writes v plan
  PlanRow v (TooLong len) = IsPastLimit r s v len
  PlanRow v NoMemory = Unit {0}

-- the folder has memory for the plan
abbrev pub HasPlanRoom : PlanMade → Room → Type 0
HasPlanRoom (Plan plan) room = HasRoomFor (length plan) room
HasPlanRoom other room = Unit {0}

-- Which histories of a store are lawful: those of which each entry fits the history before it.
use Rattle.std.specs.Prelude.{◌≡◌, true, List, ◌∷◌, ◌++◌}
use Rattle.hist_journal.specs.declared.seen.BaseSeen.{BaseSeen}
use Rattle.hist_journal.specs.declared.seen.EntrySeen.{EntrySeen}
use Rattle.hist_journal.specs.Folds.{value_of}
use Rattle.hist_journal.specs.Kinds.{is_change}
use Rattle.shelf.specs.declared.store.Store.{Store}
use Rattle.shelf.specs.CallOrder.{KeepsOrder}
use Rattle.shelf.specs.Changes.{MakesValue}
use Rattle.shelf.specs.FaultCounts.{RaisesCount}
use Rattle.shelf.specs.Lifetimes.{KeepsLifetimes}
use Rattle.shelf.specs.Meanings.{Meanings}
use Rattle.shelf.specs.OldSettings.{LeavesOldSettings}
use Rattle.shelf.specs.OpenRaise.{has_open_raise}
use Rattle.shelf.specs.Readiness.{KeepsReadiness}

module _ {V T M : Type 0} (m : Meanings V T) (s : Store V M) where
  abbrev pub value_at : List (EntrySeen V T) → BaseSeen V
  value_at list = value_of m.after s.base list

  -- the entry may stand behind these
  pub record Fits (before : List (EntrySeen V T)) (e : EntrySeen V T) : Type 0 where
    -- what it makes of the value
    pub value : MakesValue m.after s.handler (value_at before) e.kind
    -- a value change comes only by the call whose Raise is open
    pub raised : is_change e.kind ≡ true → has_open_raise e.who before ≡ true
    -- its node lives, and it names the right one
    pub lifetimes : KeepsLifetimes before e
    -- its call and its client may still have it
    pub order : KeepsOrder before e
    -- its node is initialised, or is not, as its kind needs
    pub readiness : KeepsReadiness (value_at before) before e.who e.kind
    pub settings : LeavesOldSettings e.kind
    -- the count of its device rose
    pub counts : RaisesCount s before e.kind

  -- each entry fits the entries before it
  pub record Legal (list : List (EntrySeen V T)) : Type 0 where
    pub each : (before : List (EntrySeen V T)) (e : EntrySeen V T) (behind : List (EntrySeen V T)) → list ≡ before ++ e ∷ behind → Fits before e

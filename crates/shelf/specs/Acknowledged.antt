-- What a history shows of an update that was acknowledged.
use Rattle.std.specs.Prelude.{◌≡◌, ℕ, false, List, ◌∷◌, ◌++◌}
use Rattle.std.specs.List.{list_any}
use Rattle.store_traits.specs.declared.ids.CallId.{CallId}
use Rattle.hist_journal.specs.declared.seen.EntrySeen.{EntrySeen}
use Rattle.hist_journal.specs.declared.seen.KindSeen.{KindSeen}
use Rattle.hist_journal.specs.declared.seen.KindSeen.TheVariants.{Edit, Same}
use Rattle.hist_journal.specs.Folds.{edition_of}
use Rattle.shelf.specs.Entries.{is_own, is_update}
use Rattle.shelf.specs.Images.{is_synced}
use Rattle.shelf.specs.Places.{Follows}

module _ {V T : Type 0} where
  -- an Edit or a Same of this transform
  abbrev pub Carries : T → KindSeen V T → Type 0
  Carries edit (Edit t) = t ≡ edit
  Carries edit (Same t) = t ≡ edit
  Carries edit other = ⊥

  -- the call's one Edit or Same carries its edit, its next entry is a Synced, and this is the edition up to there
  pub record IsUpdated (call : CallId) (edit : T) (edition : ℕ) (list : List (EntrySeen V T)) : Type 0 where
    pub synced : Follows is_update is_synced call list
    pub carried : Carries edit synced.first.kind
    pub none_before : list_any (is_own is_update call) synced.before ≡ false
    pub none_behind : list_any (is_own is_update call) synced.behind ≡ false
    pub reached : edition ≡ edition_of (synced.before ++ synced.first ∷ synced.between)

-- Whether a history has a clearing fault: old settings that were taken over could not be cleared.
use Rattle.std.specs.Prelude.{◌≡◌, ℕ, Bool, true, false, List, [], ◌∷◌, ◌++◌, if◌then◌else◌}
use Rattle.store_traits.specs.declared.ids.CallId.{CallId}
use Rattle.hist_journal.specs.declared.device.Device.TheVariants.{Legacy}
use Rattle.hist_journal.specs.declared.seen.EntrySeen.{EntrySeen}
use Rattle.hist_journal.specs.declared.seen.KindSeen.{KindSeen}
use Rattle.hist_journal.specs.declared.seen.KindSeen.TheVariants.{Replace, Synced, Fault}
use Rattle.hist_journal.specs.Kinds.{is_call}

module _ {V T : Type 0} where
  abbrev pub is_replace : KindSeen V T → Bool
  is_replace (Replace v) = true
  is_replace other = false

  -- whether the last entry of this call, or what is said of none, is a Replace
  unfoldable pub ends_in_replace : CallId → Bool → List (EntrySeen V T) → Bool
  ends_in_replace call so_far [] = so_far
  ends_in_replace call so_far (e ∷ es) = ends_in_replace call (if is_call call e.who then is_replace e.kind else so_far) es

  -- the list has an entry that stands so behind those before it
  pub record HasEntry (Stands : List (EntrySeen V T) → EntrySeen V T → Type 0) (list : List (EntrySeen V T)) : Type 0 where
    pub before : List (EntrySeen V T)
    pub entry : EntrySeen V T
    pub behind : List (EntrySeen V T)
    pub is : list ≡ before ++ entry ∷ behind
    pub stands : Stands before entry

  -- a Synced of the call that is not the call's next entry after a Replace of it
  pub record IsOwnSynced (call : CallId) (before : List (EntrySeen V T)) (e : EntrySeen V T) : Type 0 where
    pub is : e ≡ record { who = call; kind = Synced }
    pub other : ends_in_replace call false before ≡ false

  abbrev pub HasOwnSynced : CallId → List (EntrySeen V T) → Type 0
  HasOwnSynced call list = HasEntry (IsOwnSynced call) list

  -- a Fault of the old settings, with such a Synced of its call before it
  pub record IsClearingFault (before : List (EntrySeen V T)) (e : EntrySeen V T) : Type 0 where
    pub count : ℕ
    pub fault : e.kind ≡ Fault Legacy count
    pub synced : HasOwnSynced e.who before

  abbrev pub HasClearingFault : List (EntrySeen V T) → Type 0
  HasClearingFault list = HasEntry IsClearingFault list

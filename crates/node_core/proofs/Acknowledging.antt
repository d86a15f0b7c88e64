-- An update that is acknowledged is in the history, and synced.
use Rattle.std.proofs.Common.{◌≡◌, ℕ, true, List, [], ◌∷◌, ◌++◌, append_assoc, refl}
use Rattle.store_traits.specs.declared.ids.CallId.{CallId}
use Rattle.hist_journal.specs.declared.seen.EntrySeen.{EntrySeen}
use Rattle.hist_journal.specs.declared.seen.KindSeen.{KindSeen}
use Rattle.hist_journal.specs.declared.seen.KindSeen.TheVariants.{Edit, Same, Synced}
use Rattle.hist_journal.specs.Folds.{edition_of}
use Rattle.hist_journal.proofs.FoldLemmas.{edition_of-other}
use Rattle.shelf.specs.Acknowledged.{Carries, IsUpdated}
use Rattle.shelf.specs.Entries.{is_update}
use Rattle.shelf.specs.Meanwhile.{NoneOf}
use Rattle.shelf.proofs.SameCalls.{itself}
use Rattle.node_core.specs.Own.{HasChanged, IsEarly}
use Rattle.node_core.proofs.FailedCalls.{no_update}

module _ {V T : Type 0} (call : CallId) (edit : T) where
  abbrev entry_of : KindSeen V T → EntrySeen V T
  entry_of kind = record { who = call; kind = kind }

  -- an Edit or a Same of an early call, and its Synced as its next entry
  acknowledged : (before between : List (EntrySeen V T)) (kind : KindSeen V T) → is_update kind ≡ true → Carries edit kind → IsEarly call before → NoneOf call between
      → IsUpdated call edit (edition_of (before ++ entry_of kind ∷ between)) ((before ++ entry_of kind ∷ between) ++ entry_of Synced ∷ [])
  acknowledged before between kind update carries early none =
      record {
        synced =
            record {
              before = before;
              first = entry_of kind;
              between = between;
              second = entry_of Synced;
              behind = [];
              is = append_assoc before (entry_of kind ∷ between) (entry_of Synced ∷ []);
              opens = rw (itself call) update;
              next = none;
              closes = rw (itself call) refl;
            };
        carried = carries;
        none_before = no_update call before early;
        none_behind = refl;
        reached = refl;
      }

  module _ (list : List (EntrySeen V T)) where
    -- behind its Edit
    pub edit_acknowledged : (place : ℕ) (changed : HasChanged call place list) → changed.edit ≡ edit → IsUpdated call edit (edition_of list) (list ++ entry_of Synced ∷ [])
    edit_acknowledged place changed so = rw changed.is (acknowledged changed.before changed.behind (Edit changed.edit) refl so changed.early changed.last)

    -- behind its Same
    pub same_acknowledged : (asked : T) → IsEarly call list → asked ≡ edit → IsUpdated call edit (edition_of list) ((list ++ entry_of (Same asked) ∷ []) ++ entry_of Synced ∷ [])
    same_acknowledged asked early so = rw (← edition_of-other list (entry_of (Same asked)) refl) (acknowledged list [] (Same asked) refl so early refl)

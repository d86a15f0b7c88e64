-- The turn in which an update's text becomes main.
use Rattle.std.proofs.Common.{◌≡◌, ◌∙◌, ◌+◌, ℕ, true, false, List, [], ◌∷◌, Option, Some, length, length-append, append-nil, refl, sym, ap, arith, subst}
use Rattle.store_traits.specs.declared.codec.Codec as codec_trait
use Rattle.store_traits.specs.declared.ids.CallId.{CallId}
use Rattle.store_traits.specs.declared.transform.Transform as transform_trait
use Rattle.folder_disk.specs.declared.folder.Folder as folder_trait
use Rattle.hist_journal.specs.declared.seen.EntrySeen.{EntrySeen}
use Rattle.hist_journal.specs.declared.seen.KindSeen.{KindSeen}
use Rattle.hist_journal.specs.declared.seen.KindSeen.TheVariants.{Edit}
use Rattle.hist_journal.specs.Nodes.{is_ready}
use Rattle.hist_journal.proofs.FoldLemmas.{value_of-push}
use Rattle.scratch_rename.specs.Filling.{Filling}
use Rattle.shelf.specs.declared.store.Store.{Store}
use Rattle.shelf.specs.Changes.{MakesValue}
use Rattle.shelf.specs.Legal.{value_at}
use Rattle.shelf.specs.Meanings.{Meanings}
use Rattle.shelf.specs.OpenRaise.{has_open_raise}
use Rattle.shelf.specs.Plans.{WritesChange}
use Rattle.shelf.specs.ShelfSeen.{ShelfSeen}
use Rattle.shelf.specs.ShelfTurns.{Adds, FitInTurn}
use Rattle.shelf.specs.Rules.{Rules}
use Rattle.shelf.proofs.GoingOn.{GoesOn, edit_fits}
use Rattle.step_table.specs.declared.progress.Progress.TheVariants.{Moved}
use Rattle.step_table.specs.Caching.{if_edit}
use Rattle.step_table.specs.Calls.{At, Changed, Plan, Renaming, SyncingFolder, Writing}
use Rattle.step_table.specs.Effects.{raised_by}
use Rattle.step_table.specs.Requests.{Rename, Serves}
use Rattle.step_table.specs.Rows.{renames}
use Rattle.value_cache.specs.Cached.{Cached}
use Rattle.node_core.specs.declared.origin.Origin.{Origin}
use Rattle.node_core.specs.Knows.{IsDue}
use Rattle.node_core.specs.Plans.{HasEdit}
use Rattle.node_core.specs.Ready.{Equipped, MayWrite}
use Rattle.node_core.specs.Steps.{Steps}
use Rattle.node_core.specs.Views.{Changing, filled, whole, world_seen}
use Rattle.node_core.proofs.EquippedLemmas.{room_left}
use Rattle.node_core.proofs.RowLemmas.{goes_on}

module _ {V T M : Type 0} where
  -- the edit of a call whose Raise is open may be added
  pub edit_may : (call : CallId) (m : Meanings V T) (s : Store V M) (list : List (EntrySeen V T)) (plan : Plan V T) → HasEdit plan → GoesOn call list → has_open_raise call list ≡ true → is_ready call.node list ≡ true
      → MakesValue m.after s.handler (value_at m s list) plan.change → FitInTurn m s call (plan.change ∷ []) list
  edit_may call m s list plan asked goes opened ready allowed =
      let may : MakesValue m.after s.handler (value_at m s list) (Edit asked.edit) = subst (MakesValue m.after s.handler (value_at m s list)) asked.is allowed in
      subst (λ (kind : KindSeen V T). FitInTurn m s call (kind ∷ []) list) (sym asked.is) (edit_fits call m s list goes asked.edit opened ready may, tt)

  -- the plan is the text of what it makes
  pub writes_due : (r : Rules V T) (IsValue : V → Type 0) (s : Store V M) (list : List (EntrySeen V T)) (call : CallId) (change : Changing V T) (bytes : List ℕ) → IsDue r s list (whole change bytes) → MayWrite r IsValue s list (whole change bytes)
      → WritesChange r IsValue s list (record { who = call; kind = change.kind }) bytes
  writes_due r IsValue s list call change bytes due may =
      record {
        value = change.value;
        makes = value_of-push r.meanings.after s.base list (record { who = call; kind = change.kind }) ∙ due.makes;
        writes = record { text = sym (append-nil bytes) ∙ due.text; may = may change.value due.makes };
      }

module _ {V T : Type 0} where
  -- an edit is no Raise
  pub raises_nothing : (plan : Plan V T) (version : ℕ) → HasEdit plan → raised_by (plan.change ∷ []) version ≡ version
  raises_nothing plan version asked = ap (λ (kind : KindSeen V T). raised_by (kind ∷ []) version) asked.is

  -- but it is published
  pub publishes_edit : (plan : Plan V T) (cached : Cached V) → HasEdit plan → ◌≡◌ {A = Option (Cached V)} (Some cached) (if_edit plan.change cached)
  publishes_edit plan cached asked = rw asked.is refl

-- a text of which nothing is left is whole
pub on_whole : {C F V T : Type 0} (c : codec_trait.Ghosts C V) (t : transform_trait.Ghosts T V) (f : folder_trait.Ghosts F) (origin : Origin) (at : At V T) (old new : ShelfSeen C F V T) (change : Changing V T) (text : Filling) → text.rest ≡ []
    → Steps c t f origin at old Moved (Writing Renaming (filled change text)) new → Steps c t f origin at old Moved (Writing Renaming (whole change text.written)) new
on_whole c t f origin at old new change text none =
    subst (λ (rest : List ℕ). Steps c t f origin at old Moved (Writing Renaming (filled change (record { written = text.written; rest = rest }))) new) none

-- the text is main, and the change is told
pub renames_main : {C F V T : Type 0} (c : codec_trait.Ghosts C V) (t : transform_trait.Ghosts T V) (f : folder_trait.Ghosts F) (origin : Origin) (plan : Plan V T) (old new : ShelfSeen C F V T) (place : ℕ) → Equipped c t f (Writing Renaming plan) old
    → Adds origin.call (plan.change ∷ []) old new → place ≡ length new.list → Serves Rename false (world_seen f old) (world_seen f new) → Steps c t f origin (Writing Renaming plan) old Moved (SyncingFolder (Changed place)) new
renames_main c t f origin plan old new place e adds counted serves =
    let is : place ≡ length old.list + 1 = counted ∙ (ap length adds.list ∙ length-append old.list (record { who = origin.call; kind = plan.change } ∷ [])) in
    rw is (goes_on c t f origin (Writing Renaming plan) old new renames adds serves (record { entries = room_left 1 e.entries adds.room (omega arith); room = tt; may = λ told. tt }))

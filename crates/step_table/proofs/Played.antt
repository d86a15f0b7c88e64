-- A run of the small store that is written down is shown to follow the table by computing it.
use Rattle.std.proofs.Common.{◌≡◌, ℕ, Bool, true, false, ◌&&◌, List, [], ◌∷◌, Option, Some, None, refl, slice_get, slice_set}
use Rattle.std.proofs.lemmas.Bool.{and_parts}
use Rattle.shelf.specs.declared.examples.ExampleEdit.{ExampleEdit}
use Rattle.shelf.specs.declared.store.Store.{Store}
use Rattle.shelf.proofs.Bools.{never}
use Rattle.step_table.specs.Calls.{Call, Reply}
use Rattle.step_table.specs.Effects.{gave_by}
use Rattle.step_table.specs.ExampleTurns.{rules}
use Rattle.step_table.specs.Runs.{Did, Scene, Goes, Run}
use Rattle.step_table.specs.Turn.{Turn}
use Rattle.step_table.specs.World.{Turned}
use Rattle.step_table.specs.declared.progress.Progress.{Progress}
use Rattle.step_table.proofs.GaveTests.{gave_so, is_gave}
use Rattle.step_table.proofs.PlayedTurns.{effect, may_turn, turn_so, turned}

module _ (s : Store ℕ (Unit {0})) (none : s.migrations ≡ []) where
  module _ (did : Did ℕ) (scene : Scene ℕ ExampleEdit) where
    -- the turn of the call at this place
    abbrev turned_of : Call ℕ ExampleEdit → Turned ℕ ExampleEdit
    turned_of call = turned s none scene.world call

    abbrev gave_of : Call ℕ ExampleEdit → Progress (Reply ℕ)
    gave_of call = gave_by (effect s none scene.world call).next

    abbrev scene_by : Option (Call ℕ ExampleEdit) → Scene ℕ ExampleEdit
    scene_by None = scene
    scene_by (Some call) = record { world = (turned_of call).world_after; calls = slice_set scene.calls did.place (turned_of call).call_after }

    abbrev is_fine_by : Option (Call ℕ ExampleEdit) → Bool
    is_fine_by None = false
    is_fine_by (Some call) = may_turn s none scene.world call && is_gave did.gave (gave_of call)

    abbrev scene_then : Scene ℕ ExampleEdit
    scene_then = scene_by (slice_get scene.calls did.place)

    abbrev may_go : Bool
    may_go = is_fine_by (slice_get scene.calls did.place)

    goes_so : (found : Option (Call ℕ ExampleEdit)) → slice_get scene.calls did.place ≡ found → is_fine_by found ≡ true → Goes rules s did scene (scene_by found)
    goes_so None was is = never is
    goes_so (Some call) was is =
        let parts = and_parts (may_turn s none scene.world call) (is_gave did.gave (gave_of call)) is in
        let turn : Turn rules s (turned_of call) did.gave = rw (gave_so did.gave (gave_of call) parts.1) (turn_so s none scene.world call parts.0) in
        record { call = call; call_after = (turned_of call).call_after; was = was; now = refl; turn = turn }

  -- where so many turns lead, and whether each follows the table
  abbrev pub scene_at : List (Did ℕ) → Scene ℕ ExampleEdit → Scene ℕ ExampleEdit
  scene_at [] scene = scene
  scene_at (did ∷ rest) scene = scene_at rest (scene_then did scene)

  abbrev pub all_fine : List (Did ℕ) → Scene ℕ ExampleEdit → Bool
  all_fine [] scene = true
  all_fine (did ∷ rest) scene = may_go did scene && all_fine rest (scene_then did scene)

  pub Run-computed : (turns : List (Did ℕ)) (scene : Scene ℕ ExampleEdit) → all_fine turns scene ≡ true → Run rules s turns scene (scene_at turns scene)
  unfolding Run
  Run-computed [] scene fine = refl
  Run-computed (did ∷ rest) scene fine =
      let both = and_parts (may_go did scene) (all_fine rest (scene_then did scene)) fine in
      (scene_then did scene, goes_so did scene (slice_get scene.calls did.place) refl both.0, Run-computed rest (scene_then did scene) both.1)

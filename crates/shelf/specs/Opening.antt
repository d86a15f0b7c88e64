-- A session begins.
use Rattle.std.specs.Prelude.{◌≡◌, ◌↔◌, ℕ, Bool, IsTrue, [], ◌∷◌, None}
use Rattle.folder_disk.specs.Contents.{Contents, Images}
use Rattle.folder_disk.specs.Tally.{Tally}
use Rattle.hist_journal.specs.declared.bounds.Bounds.{Bounds}
use Rattle.hist_journal.specs.declared.seen.BaseSeen.{BaseSeen}
use Rattle.shelf.specs.DeathPlan.{DeathPlanSeen}
use Rattle.shelf.specs.ShelfSeen.{ShelfSeen}

-- the store is that of what the folder holds and has counted, without nodes; nothing has happened yet
pub record Opens {C F V T : Type 0} (told : Bool) (contents : Contents) (tally : Tally) (limit : ℕ) (bounds : Bounds) (plan : DeathPlanSeen) (base : BaseSeen V) (s : ShelfSeen C F V T) : Type 0 where
  pub base_now : s.store.base ≡ base
  pub file : s.store.limits.file ≡ limit
  pub history : s.store.limits.history ≡ bounds
  pub nodes : s.store.nodes ≡ []
  pub main : IsTrue told → s.store.main ≡ contents.main
  pub alone : IsTrue told → IsTrue s.store.alone ↔ (contents.kept ≡ Images (contents.main ∷ []))
  pub count : s.store.folder.count ≡ tally.count
  pub planned : s.store.deaths ≡ plan.planned
  pub left : s.deaths ≡ plan.left
  pub list : s.list ≡ []
  pub owner : s.owner ≡ None
  pub room : s.room ≡ 0

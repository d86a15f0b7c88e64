-- What calls find in the cache of their node, and what they publish to it. Neither is part of a turn.
use Rattle.std.specs.Prelude.{ℕ, ◌==◌, Option, Some, None, if◌then◌else◌}
use Rattle.hist_journal.specs.declared.seen.KindSeen.{KindSeen}
use Rattle.hist_journal.specs.declared.seen.KindSeen.TheVariants.{Edit}
use Rattle.hist_journal.specs.Folds.{edition_of}
use Rattle.value_cache.specs.Cached.{Cached}
use Rattle.step_table.specs.Calls.{At, Gave, Read, Reading, Renaming, Reply, Serve, Writing}
use Rattle.step_table.specs.World.{World}
use Rattle.step_table.specs.declared.progress.Progress.{Progress}
use Rattle.step_table.specs.declared.progress.Progress.TheVariants.{Moved, Ended}

-- V1: what is kept, where its version is that of the version word
abbrev pub found : {V : Type 0} → Option (Cached V) → (version : ℕ) → Option (Cached V)
found None version = None
found (Some cached) version = if cached.version == version then Some cached else None

module _ {V T : Type 0} where
  -- of the value changes, an edit is published
  abbrev pub if_edit : KindSeen V T → Cached V → Option (Cached V)
  if_edit (Edit edit) cached = Some cached
  if_edit other cached = None

  -- what a turn at this step publishes, that gave this and left this world: the value that it renamed over main, or that it read under the lock
  abbrev pub published_by : At V T → Progress (Reply V) → World V T → Option (Cached V)
  published_by (Writing Renaming plan) Moved w = if_edit plan.change (record { version = w.version; edition = edition_of w.history; value = plan.value })
  published_by (Reading Serve Read) (Ended (Gave edition value)) w = Some (record { version = w.version; edition = edition; value = value })
  published_by at gave w = None

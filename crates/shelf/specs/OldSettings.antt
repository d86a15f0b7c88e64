-- Old settings are not taken over yet: until then a history with a Migrate or a Cleared is not lawful.
use Rattle.hist_journal.specs.declared.seen.KindSeen.{KindSeen}
use Rattle.hist_journal.specs.declared.seen.KindSeen.TheVariants.{Migrate, Cleared}

module _ {V T : Type 0} where
  abbrev pub LeavesOldSettings : KindSeen V T → Type 0
  LeavesOldSettings (Migrate names v) = ⊥
  LeavesOldSettings (Cleared name) = ⊥
  LeavesOldSettings other = Unit {0}

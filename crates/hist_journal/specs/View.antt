-- From entries to what contracts see of them.
use Rattle.hist_journal.specs.declared.base.Base.{Base}
use Rattle.hist_journal.specs.declared.base.Base.TheVariants as own_base
use Rattle.hist_journal.specs.declared.entry.Entry.{Entry}
use Rattle.hist_journal.specs.declared.kind.Kind.{Kind}
use Rattle.hist_journal.specs.declared.kind.Kind.TheVariants as own_kind
use Rattle.hist_journal.specs.declared.seen.BaseSeen.{BaseSeen}
use Rattle.hist_journal.specs.declared.seen.BaseSeen.TheVariants.{Held, Corrupt, TooLong}
use Rattle.hist_journal.specs.declared.seen.EntrySeen.{EntrySeen}
use Rattle.hist_journal.specs.declared.seen.KindSeen.{KindSeen}
use Rattle.hist_journal.specs.declared.seen.KindSeen.TheVariants.{Raise, Edit, Same, Replace, Migrate, Synced, Cleared, Inited, Fault, Death, Restart}

module _ {V T : Type 0} where
  abbrev pub kind_seen : Kind V T → KindSeen V T
  kind_seen own_kind.Raise = Raise
  kind_seen (own_kind.Edit t) = Edit t
  kind_seen (own_kind.Same t) = Same t
  kind_seen (own_kind.Replace v) = Replace v.value
  kind_seen (own_kind.Migrate names v) = Migrate names v.value
  kind_seen own_kind.Synced = Synced
  kind_seen (own_kind.Cleared name) = Cleared name
  kind_seen (own_kind.Inited node) = Inited node
  kind_seen (own_kind.Fault device count) = Fault device count
  kind_seen (own_kind.Death node) = Death node
  kind_seen (own_kind.Restart node) = Restart node

  abbrev pub entry_seen : Entry V T → EntrySeen V T
  entry_seen e = record { who = e.who; kind = kind_seen e.kind }

abbrev pub base_seen : {V : Type 0} → Base V → BaseSeen V
base_seen (own_base.Held v) = Held v.value
base_seen own_base.Corrupt = Corrupt
base_seen (own_base.TooLong len) = TooLong len

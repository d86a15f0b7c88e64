-- A journal as a value that a room can hold.
use Rattle.std.specs.Prelude.{None}
use Rattle.hist_journal.specs.declared.seen.EntrySeen.{EntrySeen}
use Rattle.hist_journal.specs.declared.seen.JournalHead.{JournalHead}
use Rattle.hist_journal.specs.Journal.{JournalSeen}
use Rattle.hist_journal.specs.Kinds.{is_raise}
use Rattle.hist_journal.specs.Meaning.{Meaning}

abbrev pub journal_meaning : {V T : Type 0} → Meaning (JournalSeen V T) (JournalHead V) (EntrySeen V T) (Unit {0})
journal_meaning =
    record {
      head = λ j. record { base = j.base; bounds = j.bounds };
      list = λ j. j.list;
      holding = λ j. None;
      client = λ e. e.who.client.0;
      holder = λ h. 0;
      raising = λ e. is_raise e.kind;
      lawful = λ h list. Unit {0};
      lapsed = λ h list. Unit {0};
    }

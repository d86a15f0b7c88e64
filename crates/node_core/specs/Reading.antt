-- What a read of main shows.
use Rattle.std.specs.Prelude.{◌≡◌, IsTrue}
use Rattle.hist_journal.specs.declared.seen.BaseSeen.{BaseSeen}
use Rattle.shelf.specs.declared.store.Store.{Store}
use Rattle.shelf.specs.Base.{ReadsAs}
use Rattle.shelf.specs.Legal.{value_at}
use Rattle.shelf.specs.Rules.{Rules}
use Rattle.step_table.specs.World.{World}

-- main reads as the value of the history, where the folder tells what it holds
abbrev pub ReadsTruly : {V T M : Type 0} → Rules V T → Store V M → World V T → Type 0
ReadsTruly {V = V} r s w = IsTrue w.told → (base : BaseSeen V) → ReadsAs r.reads r.absent s.limits.file w.folder.main base → value_at r.meanings s w.history ≡ base

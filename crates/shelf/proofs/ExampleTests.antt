-- A history of the small store that is written down is judged by computing.
use Rattle.std.proofs.Common.{◌≡◌, ℕ, true, false, List}
use Rattle.shelf.specs.declared.store.Store.{Store}
use Rattle.shelf.specs.Decided.{Decided}
use Rattle.shelf.specs.ExampleStore.{Entry, meanings}
use Rattle.shelf.specs.Legal.{Legal}
use Rattle.shelf.proofs.LegalTest.{lawful}
use Rattle.shelf.proofs.Tests.{fails, holds, same_number}

module _ (s : Store ℕ (Unit {0})) (list : List Entry) where
  abbrev pub judged : Decided (Legal meanings s list)
  judged = lawful same_number meanings s list

  pub shown : judged.test ≡ true → Legal meanings s list
  shown is = holds judged is

  pub refused : judged.test ≡ false → Legal meanings s list → ⊥
  refused is = fails judged is

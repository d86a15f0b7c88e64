use Rattle.std.proofs.Common.{arith, refl, ◌≡◌, []}
use Rattle.shelf.proofs.LedgerLemmas.{no_editions, no_raise, none_dead_yet, none_died_yet, none_ready}
use Rattle.shelf.proofs.ledger.Ledger.new.Goals as goal

pub invariant_of-result : goal.invariant_of-result
invariant_of-result g c =
    let is : c.new.result.list ≡ [] = rw c.new.ensures refl in
    record {
      has_room = rw (c.new.ensures, c.new-3.ensures) (omega arith);
      weight_fits = rw c.new.ensures (omega arith);
      counts_editions = no_editions _ is;
      quiet = λ call open_now. no_raise _ is call open_now;
      ready = λ node. none_ready _ is node _ c.new-3.ensures;
      dead = λ node. none_dead_yet _ is node _ c.new-3.ensures;
      last = λ node. none_died_yet _ is node _ c.new-3.ensures;
    }

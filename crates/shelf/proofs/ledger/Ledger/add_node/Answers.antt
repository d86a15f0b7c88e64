use Rattle.std.proofs.Common.{◌≡◌, ◌∙◌, ◌+◌, ◌≤◌, ℕ, Bool, List, [], ◌∷◌, ◌++◌, Option, Some, None, Result, Ok, Err, OnOk, OnErr, refl, sym, ap, subst, arith}
use Rattle.std.proofs.lemmas.Result.{err_from_is_err_and}
use Rattle.store_traits.specs.declared.ids.NodeId.{NodeId}
use Rattle.hist_journal.specs.Folds.{edition_of}
use Rattle.hist_journal.specs.Nodes.{is_dead, is_ready}
use Rattle.hist_journal.specs.Quiet.{pending}
use Rattle.shelf.specs.declared.node_table.NodeState.{NodeState}
use Rattle.shelf.specs.Deaths.{last_death}
use Rattle.shelf.specs.NodeStates.{dead_by, died_by, living, ready_by, state_of}
use Rattle.shelf.proofs.LedgerLemmas.{has_node-ids, ids-push}
use Rattle.shelf.proofs.NodeStateLemmas.{known-push, living-push, unknown}
use Rattle.shelf.proofs.ledger.Ledger.add_node.Goals as goal

pub returns-then-has-clause-err : goal.returns-then-has-clause-err
returns-then-has-clause-err g c = has_node-ids c.args.node c.args.self.now.nodes ∙ (sym c.has.ensures ∙ c.if-has.true)

pub returns-in_err-reserve_past-clause-err : goal.returns-in_err-reserve_past-clause-err
returns-in_err-reserve_past-clause-err g c =
    let p = err_from_is_err_and c.from_residual.result c.from_residual.ensures.1 in rw (p.1, p.2) (has_node-ids c.args.node c.args.self.now.nodes ∙ (sym c.has.ensures ∙ c.if-has.false))

pub returns-in_err-add-clause-err : goal.returns-in_err-add-clause-err
returns-in_err-add-clause-err g c =
    let p = err_from_is_err_and c.from_residual-in_err-add.result c.from_residual-in_err-add.ensures.1 in
    rw (p.1, p.2) (has_node-ids c.args.node c.args.self.now.nodes ∙ (sym c.has.ensures ∙ c.if-has.false))

pub returns-clause-ok : goal.returns-clause-ok
returns-clause-ok g c =
    let same = c.reserve_past.ensures.same in
    record {
      is_new = has_node-ids c.args.node c.args.self.now.nodes ∙ (sym c.has.ensures ∙ c.if-has.false);
      after = rw (same.base, same.bounds, same.list, same.weight, c.in_ok-add.ensures.ok, ids-push) refl;
    }

-- what holds of the table with the node, and of the one that was
either : {A E : Type 0} (result : Result A E) (P : List NodeState → Type 0) (old more new : List NodeState) → OnOk result (new ≡ more) → OnErr result (new ≡ old) → P more → P old → P new
either (Ok x) P old more new ok err goes stays = subst P (sym ok) goes
either (Err e) P old more new ok err goes stays = subst P (sym err) stays

pub invariant_of-self-2 : goal.invariant_of-self-2
invariant_of-self-2 g c =
    let l = c.args.self.now in
    let node = c.args.node in
    let same = c.reserve_past.ensures.same in
    let more = l.nodes ++ unknown node ∷ [] in
    let room = c.in_ok-reserve_past.ensures.ok in
    let known : (X : Type 0) (known_by : Option NodeState → X) → known_by (Some (unknown node)) ≡ known_by None → (n : NodeId) → known_by (state_of n c.add.new.self) ≡ known_by (state_of n l.nodes) =
    λ X known_by nothing n.
    either c.add.result (λ states. known_by (state_of n states) ≡ known_by (state_of n l.nodes)) l.nodes more c.add.new.self c.add.ensures.ok c.add.ensures.err (known-push node known_by nothing n l.nodes) refl in
    record {
      has_room =
          either c.add.result (λ states. l.reserved + living states ≤ c.reserve_past.new.self.room) l.nodes more c.add.new.self c.add.ensures.ok c.add.ensures.err
          (omega (arith, room, c.living.ensures.living, living-push node l.nodes))
          (omega (arith, room, c.living.ensures.living));
      weight_fits = omega (arith, l.weight_fits, same.weight);
      counts_editions = l.counts_editions ∙ sym (ap edition_of same.list);
      quiet = λ call open_now. l.quiet call (sym (ap pending same.list) ∙ open_now);
      ready = λ n. known Bool ready_by refl n ∙ (l.ready n ∙ sym (ap (is_ready n) same.list));
      dead = λ n. known Bool dead_by refl n ∙ (l.dead n ∙ sym (ap (is_dead n) same.list));
      last = λ n. known (Option ℕ) died_by refl n ∙ (l.last n ∙ sym (ap (last_death n) same.list));
    }

-- What holds of a restart, and of an update that was spared, as the history grows by entries of others.
use Rattle.std.proofs.Common.{◌≡◌, ◌∙◌, ◌==◌, ◌&&◌, nat_le, nat_lt, ℕ, Bool, false, List, ◌∷◌, ◌++◌, append_assoc, sym, ap, arith}
use Rattle.std.specs.List.{list_any}
use Rattle.std.proofs.lemmas.Bool.Decides.{nat_tests}
use Rattle.store_traits.specs.declared.ids.CallId.{CallId}
use Rattle.store_traits.specs.declared.ids.NodeId.{NodeId}
use Rattle.prefs_text.specs.EntryText.{PrefEntry}
use Rattle.prefs_text.specs.declared.seen.AnswerSeen.{AnswerSeen}
use Rattle.prefs_text.specs.declared.seen.AnswerSeen.TheVariants as seen
use Rattle.shelf.specs.declared.store.PlannedDeath.{PlannedDeath}
use Rattle.shelf.specs.Meanwhile.{NoneOf}
use Rattle.shelf.specs.Places.{is_up_to}
use Rattle.shelf.proofs.Bools.{none_in_both}
use Rattle.shelf.proofs.MeanwhileLemmas as meanwhile
use Rattle.shelf.proofs.RaiseLemmas.{none_of_fewer}
use Rattle.script_lang.specs.GoodCauses.{IsAlive, is_earlier}
use Rattle.script_lang.specs.GoodFailures.{Spares, is_edit}
use Rattle.script_lang.specs.GoodUpdates.{IsOnlyRestart, is_restart}

earlier_is_up_to : (same : Bool) (number most : ℕ) → (same && nat_le number most) ≡ false → (same && nat_lt number most) ≡ false
earlier_is_up_to same number most none = grind (arith, nat_tests, none)

module _ (call : CallId) (node : NodeId) (list more : List PrefEntry) where
  pub only_more : (place : ℕ) → NoneOf call more → IsOnlyRestart call node place list → IsOnlyRestart call node place (list ++ more)
  only_more place none it =
      let at = it.restart in
      record {
        restart = record { before = at.before; entry = at.entry; behind = at.behind ++ more; is = ap (λ xs. xs ++ more) at.is ∙ append_assoc at.before (at.entry ∷ at.behind) more; counted = at.counted; passed = at.passed };
        none_before = it.none_before;
        none_behind = meanwhile.own is_restart call at.behind more none ∙ it.none_behind;
      }

  pub alive_more : list_any (is_up_to call) more ≡ false → IsAlive call node list → IsAlive call node (list ++ more)
  alive_more over it =
      record {
        front = it.front;
        back = it.back ++ more;
        is = ap (λ xs. xs ++ more) it.is ∙ append_assoc it.front it.back more;
        alive = it.alive;
        earlier = none_in_both (is_earlier call) it.back more it.earlier (none_of_fewer (is_earlier call) (is_up_to call) more (λ e none. earlier_is_up_to (call.client.0 == e.who.client.0) e.who.number call.number none) over);
      }

module _ (planned : List PlannedDeath) (call : CallId) (list more : List PrefEntry) (none : NoneOf call more) where
  pub spares_more : (answer : AnswerSeen) → Spares planned list call answer → Spares planned (list ++ more) call answer
  spares_more (seen.Updated edition) it = record { passed = it.passed; written = λ edits. it.written (sym (meanwhile.own is_edit call list more none) ∙ edits) }
  spares_more other it = tt

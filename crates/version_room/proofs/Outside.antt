-- Loading the version outside a turn, and taking in what a note told, keep the rule.
use Rattle.std.proofs.Common.{◌≡◌, ℕ, ◌+◌, ◌≤◌, leb, leb-true, leb-false, le_refl, Bool, true, false, List, refl, arith, length, Option}
use mathlib.Core.Option as maybe
use mathlib.Core.List.{IsPrefix}
use Rattle.atomic_table.specs.Table.{Me, step, keeps, Allows}
use Rattle.hist_journal.specs.Meaning.{Meaning, raises}
use Rattle.version_room.specs.declared.view.Stage.TheVariants.{Outside}
use Rattle.version_room.specs.declared.view.View.{View}
use Rattle.version_room.specs.Known.{longer, longer_if}
use Rattle.version_room.specs.Rule.{Fits, Keeps}
use Rattle.version_room.specs.Steps.{loads, learns}
use Rattle.version_room.specs.Views.{after_load, after_learning}
use Rattle.version_room.proofs.EntryLemmas.{raises-prefix}
use Rattle.version_room.proofs.ListLemmas.{prefix_here, prefix_of_shorter}
use Rattle.version_room.proofs.RuleLemmas.{rule_of, allows, moves}

module _ {S D E H : Type 0} (m : Meaning S D E H) (head : D) where
  abbrev V : Type 0
  V = View D E H

  abbrev Ms : Type 0
  Ms = Me (Option S) V

  pub loads_keeps : (slots id : ℕ) (me : Ms) → me.0.stage ≡ Outside → Allows (Keeps m head) slots id me 0 (λ n. n) (loads m (step slots 0 0 0 maybe.none) me)
  loads_keeps slots id me idle = allows m head slots id me 0 (λ n. n) (loads m (step slots 0 0 0 maybe.none) me) (λ t home views p at below.
      let mine = p.each id me.0 at in
      let w : V = after_load me.0 t.version in
      let version : t.version ≡ raises m t.now + t.raised = p.version_is in
      let seen : raises m me.0.own.seen ≤ raises m t.now = raises-prefix m me.0.own.seen t.now mine.own.seen in
      let fit : Fits m head t id w =
      record {
        head_is = mine.head_is;
        own = record { seen = mine.own.seen; mine = mine.own.mine; last = le_refl t.version; held = mine.own.held; clients = mine.own.clients };
        gathered = mine.gathered;
        told = mine.told;
        stands = mine.stands;
      } in
      (w, keeps, tt, rule_of m head t home _ (moves m head t home views id me.0 w p at idle fit), (refl, (omega arith), mine.own.last)))

  longer_one : (b : Bool) (P : List E → Type 0) (xs ys : List E) → P xs → P ys → P (longer_if b xs ys)
  longer_one true P xs ys p q = q
  longer_one false P xs ys p q = p

  longer_by : (xs ys now : List E) → IsPrefix xs now → IsPrefix ys now → (b : Bool) → leb (length xs) (length ys) ≡ b → IsPrefix xs (longer_if b xs ys) × IsPrefix ys (longer_if b xs ys)
  longer_by xs ys now p q true e = (prefix_of_shorter xs ys now p q (leb-true (length xs) (length ys) e), prefix_here ys)
  longer_by xs ys now p q false e = (prefix_here xs, prefix_of_shorter ys xs now q p (let n = leb-false (length xs) (length ys) e in omega arith))

  -- of two beginnings of one list the longer begins with both
  longer_both : (xs ys now : List E) → IsPrefix xs now → IsPrefix ys now → IsPrefix xs (longer xs ys) × IsPrefix ys (longer xs ys)
  longer_both xs ys now p q = longer_by xs ys now p q (leb (length xs) (length ys)) refl

  pub learns_keeps : (slots id : ℕ) (me : Ms) → me.0.stage ≡ Outside → Allows (Keeps m head) slots id me 2 (λ n. n) (learns m (step slots 2 0 0 maybe.none) me)
  learns_keeps slots id me idle = allows m head slots id me 2 (λ n. n) (learns m (step slots 2 0 0 maybe.none) me) (λ t home views p at below.
      let mine = p.each id me.0 at in
      let w : V = after_learning me.0 in
      let seen : IsPrefix w.own.seen t.now = longer_one (leb (length me.0.own.seen) (length me.0.told)) (λ (l : List E). IsPrefix l t.now) me.0.own.seen me.0.told mine.own.seen mine.told in
      let fit : Fits m head t id w =
      record {
        head_is = mine.head_is;
        own = record { seen = seen; mine = mine.own.mine; last = mine.own.last; held = mine.own.held; clients = mine.own.clients };
        gathered = mine.gathered;
        told = mine.told;
        stands = mine.stands;
      } in
      let both = longer_both me.0.own.seen me.0.told t.now mine.own.seen mine.told in
      (w, keeps, tt, rule_of m head t home _ (moves m head t home views id me.0 w p at idle fit), (refl, both.0, both.1)))

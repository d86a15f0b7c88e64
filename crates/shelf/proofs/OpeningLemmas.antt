-- What a shelf keeps when it is made, and when a node is added.
use Rattle.std.proofs.Common.{◌≡◌, ◌∙◌, inl, inr, ⊎_elim, ℕ, Bool, true, false, IsTrue, List, [], None, refl, sym, arith, if◌then◌else◌}
use Rattle.std.proofs.Math.Logic.{∥∥₁_map}
use Rattle.folder_disk.specs.Contents.{Contents, Starts}
use Rattle.folder_disk.specs.Tally.{Tally}
use Rattle.hist_journal.specs.declared.device.Device.TheVariants.{Folder, Legacy}
use Rattle.hist_journal.specs.declared.seen.EntrySeen.{EntrySeen}
use Rattle.hist_journal.specs.declared.seen.KindSeen.{KindSeen}
use Rattle.hist_journal.specs.declared.seen.KindSeen.TheVariants.{Fault}
use Rattle.hist_journal.specs.Folds.{edition_of, main_of, weight_of}
use Rattle.shelf.specs.declared.ledger.Ledger.{Ledger}
use Rattle.shelf.specs.declared.store.PlannedDeath.{PlannedDeath}
use Rattle.shelf.specs.declared.store.Store.{Store}
use Rattle.store_traits.specs.declared.ids.NodeId.{NodeId}
use Rattle.shelf.specs.Base.{ReadsAs}
use Rattle.shelf.specs.FaultCounts.{RaisesCount, count_after}
use Rattle.shelf.specs.Kept.{Kept}
use Rattle.shelf.specs.Legal.{Fits}
use Rattle.shelf.specs.NodeStates.{ids}
use Rattle.shelf.specs.StoreSeen.{store_with}
use Rattle.shelf.specs.Rules.{Rules}
use Rattle.shelf.proofs.LegalLemmas.{Legal-empty}

told_is : {X : Type 0} (told : Bool) (x hidden : X) → IsTrue told → (if told then x else hidden) ≡ x
told_is true x hidden is = refl
told_is false x hidden is = absurd cc

module _ {V T : Type 0} (r : Rules V T) (I : V → Type 0) (told : Bool) (c c' : Contents) (t t' : Tally) (limit first_faults : ℕ) (planned : List PlannedDeath) (l : Ledger V T) where
  -- nothing has happened yet
  pub kept_new : l.journal.list ≡ [] → l.journal.weight ≡ 0 → (IsTrue told → Starts c c') → t'.count ≡ first_faults → (IsTrue told → ReadsAs r.reads r.absent limit c.main l.journal.base)
      → ∥ Kept r I (store_with told c' t' limit first_faults planned l.journal l.nodes) told c' t'.count l.journal.weight l.journal.list ∥₁
  unfolding main_of edition_of weight_of count_after
  kept_new none weightless starts counted reads =
      let s = store_with told c' t' limit first_faults planned l.journal l.nodes in
      let empty : Kept r I s told c' t'.count 0 [] =
      record {
        main =
            λ is.
            let first : s.main ≡ c.main = told_is told c'.first None is ∙ (starts is).first in
            record {
              legal = Legal-empty r.meanings s;
              main = (starts is).main ∙ sym first;
              base = rw first (reads is);
              changed = λ some. absurd (some refl);
            };
        weight_now = omega arith;
        counted = λ is. counted;
        first = omega (arith, counted);
        counts = λ greater low. refl;
      } in
      rw (none, weightless) (∣ empty ∣₁)

-- the same store with other nodes
module _ {V T M : Type 0} (r : Rules V T) (I : V → Type 0) (s : Store V M) (nodes : List NodeId) where
  abbrev with_nodes : Store V M
  with_nodes = record s { nodes = nodes }

  counts_so : (before : List (EntrySeen V T)) (kind : KindSeen V T) → RaisesCount s before kind → RaisesCount with_nodes before kind
  counts_so before (Fault Folder count) is = ⊎_elim (λ more. inl (record { start = more.start; earlier = more.earlier })) (λ at_end. inr at_end) is
  counts_so before (Fault Legacy count) is = ⊎_elim (λ more. inl (record { start = more.start; earlier = more.earlier })) (λ at_end. inr at_end) is
  counts_so before other is = tt

  fits_so : (before : List (EntrySeen V T)) (e : EntrySeen V T) → Fits r.meanings s before e → Fits r.meanings with_nodes before e
  fits_so before e f =
      record { value = f.value; raised = f.raised; lifetimes = f.lifetimes; order = f.order; readiness = f.readiness; settings = f.settings; counts = counts_so before e.kind f.counts }

  pub kept_with_nodes : (told : Bool) (folder : Contents) (count weight : ℕ) (list : List (EntrySeen V T)) → Kept r I s told folder count weight list → Kept r I with_nodes told folder count weight list
  kept_with_nodes told folder count weight list k =
      record {
        main =
            λ is.
            let was = k.main is in
            record {
              legal = record { each = λ before e behind so. fits_so before e (was.legal.each before e behind so) };
              main = was.main;
              base = was.base;
              changed = λ some. let stored = was.changed some in record { value = stored.value; held = stored.held; may = record { known = stored.may.known; fits = stored.may.fits } };
            };
        weight_now = k.weight_now;
        counted = k.counted;
        first = k.first;
        counts = k.counts;
      }

module _ {V T : Type 0} (r : Rules V T) (I : V → Type 0) (told : Bool) (c : Contents) (t : Tally) (limit first_faults : ℕ) (planned : List PlannedDeath) (l l' : Ledger V T) where
  pub kept_more_nodes : l'.journal.base ≡ l.journal.base → l'.journal.bounds ≡ l.journal.bounds → l'.journal.list ≡ l.journal.list → l'.journal.weight ≡ l.journal.weight
      → ∥ Kept r I (store_with told c t limit first_faults planned l.journal l.nodes) told c t.count l.journal.weight l.journal.list ∥₁
      → ∥ Kept r I (store_with told c t limit first_faults planned l'.journal l'.nodes) told c t.count l'.journal.weight l'.journal.list ∥₁
  kept_more_nodes base bounds list weight kept =
      ∥∥₁_map kept
      (λ k. rw (base, bounds, list, weight) (kept_with_nodes r I (store_with told c t limit first_faults planned l.journal l.nodes) (ids l'.nodes) told c t.count l.journal.weight l.journal.list k))

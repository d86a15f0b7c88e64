-- What a shelf keeps, from one turn to the next.
use Rattle.std.proofs.Common.{◌≡◌, ◌∙◌, ◌+◌, ◌-◌, ◌^◌, ◌<◌, ◌≤◌, inl, inr, ⊎_elim, ℕ, min, Bool, true, false, nat_le, IsTrue, List, [], ◌∷◌, ◌++◌, Option, Some, None, Result, Ok, Err, length, cond, refl, sym, ap, subst, arith, if◌then◌else◌}
use Rattle.std.proofs.Math.Logic.{∥∥₁_map}
use Rattle.std.specs.List.{list_any, list_all}
use Rattle.std.proofs.lemmas.Bool.Decides.{nat_tests}
use Rattle.std.proofs.lemmas.List.Folds.{list_any-append}
use Rattle.std.proofs.lemmas.Bool.{and_parts}
use Rattle.store_traits.specs.Faults.{Rose}
use Rattle.store_traits.specs.declared.ids.CallId.{CallId}
use Rattle.store_traits.specs.declared.ids.NodeId.{NodeId}
use Rattle.folder_disk.specs.declared.call.FolderCall.{FolderCall}
use Rattle.folder_disk.specs.Contents.{Contents, Scratch, ChangesScratch, LoosensScratch, folder_synced, renamed}
use Rattle.folder_disk.specs.Tally.{Tally, Tallies}
use Rattle.hist_journal.specs.declared.device.Device.TheVariants.{Folder}
use Rattle.hist_journal.specs.declared.seen.EntrySeen.{EntrySeen}
use Rattle.hist_journal.specs.declared.seen.KindSeen.{KindSeen}
use Rattle.hist_journal.specs.declared.seen.KindSeen.TheVariants.{Fault, Restart}
use Rattle.hist_journal.specs.Folds.{kind_weight, weight_of}
use Rattle.hist_journal.specs.Kinds.{is_change, is_fault}
use Rattle.hist_journal.specs.Nodes.{is_dead}
use Rattle.hist_journal.proofs.FoldLemmas.{weight_of-push, main_of-other, main_of-change, value_of-other, edition_of-other}
use Rattle.shelf.specs.declared.answers.RestartError.{RestartError}
use Rattle.shelf.specs.declared.answers.RestartError.TheVariants.{Died, NotDead, NoMemory}
use Rattle.shelf.specs.declared.ledger.Ledger.{Ledger}
use Rattle.shelf.specs.declared.store.PlannedDeath.{PlannedDeath}
use Rattle.shelf.specs.declared.store.Store.{Store}
use Rattle.shelf.specs.Entries.{with_entries}
use Rattle.shelf.specs.FaultCounts.{RaisesCount, has_reached, count_after, told_count}
use Rattle.shelf.specs.Kept.{Kept, KeptMain}
use Rattle.shelf.specs.Ledger.{Enters, LedgerSeen, ledger_seen}
use Rattle.shelf.specs.Legal.{Fits}
use Rattle.shelf.specs.Plans.{WritesChange}
use Rattle.shelf.specs.Reviving.{ReviveRow}
use Rattle.shelf.specs.ShelfTurns.{FitInTurn, FaultFits}
use Rattle.shelf.specs.StoreSeen.{store_with}
use Rattle.shelf.specs.Rules.{Rules, weight_at}
use Rattle.shelf.proofs.Bools.{never}
use Rattle.shelf.proofs.LegalLemmas.{Legal-push}

-- what a turn leaves of the start of the session, as the folder tells it
pub record SameStart (told failed : Bool) (old new : Contents) (old_tally new_tally : Tally) : Type 0 where
  pub first : IsTrue told → new.first ≡ old.first
  pub alone : IsTrue told → new.alone ≡ old.alone
  pub most : new_tally.most ≡ old_tally.most
  pub later : old_tally.count ≤ new_tally.count
  pub counted : IsTrue told → failed ≡ false → new_tally.count ≡ old_tally.count

-- what is seen only where it is told
same_if : {X : Type 0} (told : Bool) (new old hidden : X) → (IsTrue told → new ≡ old) → (if told then new else hidden) ≡ (if told then old else hidden)
same_if true new old hidden same = same refl
same_if false new old hidden same = refl

abbrev pub is_plain : {V T : Type 0} → KindSeen V T → Bool
is_plain kind = if is_change kind then false else (if is_fault kind then false else true)

unchanging : {V T : Type 0} (kind : KindSeen V T) → is_plain kind ≡ true → is_change kind ≡ false
unchanging kind plain = by_test (is_change kind) (is_fault kind) plain
  where
    by_test : (change fault : Bool) → cond change false (cond fault false true) ≡ true → change ≡ false
    by_test true fault plain = never plain
    by_test false fault plain = refl

-- what is no Fault has no count
uncounted : {V T : Type 0} (kind : KindSeen V T) (count : ℕ) → is_plain kind ≡ true → has_reached Folder count kind ≡ false
uncounted (Fault device reached) count plain = never plain
uncounted other count plain = refl

-- nor does it tell another count, and a value change is none
plain_count : {V T : Type 0} (kind : KindSeen V T) (count : ℕ) → is_plain kind ≡ true → told_count Folder count kind ≡ count
plain_count (Fault device reached) count plain = never plain
plain_count other count plain = refl

change_count : {V T : Type 0} (kind : KindSeen V T) (count : ℕ) → is_change kind ≡ true → told_count Folder count kind ≡ count
change_count (Fault device reached) count change = never change
change_count other count change = refl

count_after-push : {V T : Type 0} (count : ℕ) (list : List (EntrySeen V T)) (e : EntrySeen V T) → count_after Folder count (list ++ e ∷ []) ≡ told_count Folder (count_after Folder count list) e.kind
unfolding count_after
count_after-push count [] e = refl
count_after-push count (first ∷ list) e = count_after-push (told_count Folder count first.kind) list e

below_count : (reached count : ℕ) → reached < count → nat_le count reached ≡ false
below_count reached count low = grind (arith, nat_tests)

heavier : (own weight added more : ℕ) → weight ≡ min own (2 ^ 64 - 1) → min added (2 ^ 64 - 1) ≡ min more (2 ^ 64 - 1) → min (weight + added) (2 ^ 64 - 1) ≡ min (own + more) (2 ^ 64 - 1)
heavier own weight added more is same = omega arith

heavier_twice : (own weight added one more : ℕ) → weight ≡ min own (2 ^ 64 - 1) → min added (2 ^ 64 - 1) ≡ min (one + more) (2 ^ 64 - 1)
    → min (weight + added) (2 ^ 64 - 1) ≡ min (min (weight + one) (2 ^ 64 - 1) + more) (2 ^ 64 - 1)
heavier_twice own weight added one more is same = omega arith

no_heavier : (own weight added : ℕ) → weight ≡ min own (2 ^ 64 - 1) → min added (2 ^ 64 - 1) ≡ min 0 (2 ^ 64 - 1) → min (weight + added) (2 ^ 64 - 1) ≡ weight
no_heavier own weight added is same = omega arith

module _ {V T : Type 0} (told : Bool) (c c' : Contents) (t t' : Tally) (limit first_faults : ℕ) (planned : List PlannedDeath) (l l' : Ledger V T) where
  pub same_store : {failed : Bool} → SameStart told failed c c' t t' → l'.journal.base ≡ l.journal.base → l'.journal.bounds ≡ l.journal.bounds → (ledger_seen l').nodes ≡ (ledger_seen l).nodes
      → store_with told c' t' limit first_faults planned l'.journal l'.nodes ≡ store_with told c t limit first_faults planned l.journal l.nodes
  same_store start base bounds nodes =
      let first = same_if told c'.first c.first None start.first in
      let alone = same_if told c'.alone c.alone false start.alone in
      rw (base, bounds, nodes, first, alone, start.most) refl

-- what entries of these kinds weigh
abbrev pub weight_by : {V T : Type 0} → Rules V T → KindSeen V T → ℕ
weight_by r kind = kind_weight r.weight (λ v. length (r.encoded v)) kind

abbrev pub weight_of_kinds : {V T : Type 0} → Rules V T → List (KindSeen V T) → ℕ
weight_of_kinds r [] = 0
weight_of_kinds r (kind ∷ kinds) = weight_by r kind + weight_of_kinds r kinds

module _ {V T M : Type 0} (r : Rules V T) (I : V → Type 0) where
  module _ (s : Store V M) where
    pub main_still : (c c' : Contents) (list : List (EntrySeen V T)) → c'.main ≡ c.main → KeptMain r I s c list → KeptMain r I s c' list
    main_still c c' list same k = record { legal = k.legal; main = same ∙ k.main; base = k.base; changed = k.changed }

    pub main_other : (c : Contents) (list : List (EntrySeen V T)) (e : EntrySeen V T) → is_change e.kind ≡ false → Fits r.meanings s list e → KeptMain r I s c list → KeptMain r I s c (list ++ e ∷ [])
    main_other c list e other fits k =
        record {
          legal = Legal-push r.meanings s list e k.legal fits;
          main = k.main ∙ sym (main_of-other r.meanings.after r.encoded s.base s.main list e other);
          base = k.base;
          changed =
              λ some.
              let was = k.changed (λ none. some (edition_of-other list e other ∙ none)) in
              record { value = was.value; held = value_of-other r.meanings.after s.base list e other ∙ was.held; may = was.may };
        }

    pub main_change : (c c' : Contents) (list : List (EntrySeen V T)) (e : EntrySeen V T) (plan : List ℕ) → is_change e.kind ≡ true → Fits r.meanings s list e → WritesChange r I s list e plan → c'.main ≡ Some plan
        → KeptMain r I s c list → KeptMain r I s c' (list ++ e ∷ [])
    main_change c c' list e plan change fits writes now k =
        record {
          legal = Legal-push r.meanings s list e k.legal fits;
          main = now ∙ (ap Some writes.writes.text ∙ sym (main_of-change r.meanings.after r.encoded s.base s.main list e writes.value change writes.makes));
          base = k.base;
          changed = λ some. record { value = writes.value; held = writes.makes; may = writes.writes.may };
        }

    module _ (told : Bool) where
      still : (c c' : Contents) (count count' weight : ℕ) (list : List (EntrySeen V T)) → (IsTrue told → c'.main ≡ c.main) → count ≤ count' → (IsTrue told → count' ≡ count) → Kept r I s told c count weight list → Kept r I s told c' count' weight list
      still c c' count count' weight list main later steady k =
          record {
            main = λ is. main_still c c' list (main is) (k.main is);
            weight_now = k.weight_now;
            counted = λ is. steady is ∙ k.counted is;
            first = omega (arith, k.first);
            counts = λ greater low. k.counts greater (omega arith);
          }

      heavier_list : (weight added : ℕ) (list : List (EntrySeen V T)) (e : EntrySeen V T) → weight ≡ weight_at r list → min added (2 ^ 64 - 1) ≡ min (weight_by r e.kind) (2 ^ 64 - 1)
          → min (weight + added) (2 ^ 64 - 1) ≡ weight_at r (list ++ e ∷ [])
      heavier_list weight added list e is same =
          heavier (weight_of r.weight (λ v. length (r.encoded v)) list) weight added (weight_by r e.kind) is same
          ∙ ap (λ n. min n (2 ^ 64 - 1)) (sym (weight_of-push r.weight (λ v. length (r.encoded v)) list e))

      counted_more : (count : ℕ) (list : List (EntrySeen V T)) (e : EntrySeen V T) → ((greater : ℕ) → count < greater → list_any (λ (x : EntrySeen V T). has_reached Folder greater x.kind) list ≡ false)
          → ((greater : ℕ) → count < greater → has_reached Folder greater e.kind ≡ false) → (greater : ℕ) → count < greater → list_any (λ (x : EntrySeen V T). has_reached Folder greater x.kind) (list ++ e ∷ []) ≡ false
      counted_more count list e were is greater low =
          list_any-append (λ (x : EntrySeen V T). has_reached Folder greater x.kind) list (e ∷ []) ∙ rw (were greater low, is greater low) refl

      push_plain : (c : Contents) (count weight added : ℕ) (list : List (EntrySeen V T)) (e : EntrySeen V T) → is_plain e.kind ≡ true → (IsTrue told → Fits r.meanings s list e)
          → min added (2 ^ 64 - 1) ≡ min (weight_by r e.kind) (2 ^ 64 - 1) → Kept r I s told c count weight list → Kept r I s told c count (min (weight + added) (2 ^ 64 - 1)) (list ++ e ∷ [])
      push_plain c count weight added list e plain fits weighs k =
          record {
            main = λ is. main_other c list e (unchanging e.kind plain) (fits is) (k.main is);
            weight_now = heavier_list weight added list e k.weight_now weighs;
            counted = λ is. k.counted is ∙ sym (count_after-push s.folder.count list e ∙ plain_count e.kind (count_after Folder s.folder.count list) plain);
            first = k.first;
            counts = counted_more count list e k.counts (λ greater low. uncounted e.kind greater plain);
          }

      push_kinds : (call : CallId) (kinds : List (KindSeen V T)) (c : Contents) (count weight added : ℕ) (list : List (EntrySeen V T)) → list_all is_plain kinds ≡ true → (IsTrue told → FitInTurn r.meanings s call kinds list)
          → min added (2 ^ 64 - 1) ≡ min (weight_of_kinds r kinds) (2 ^ 64 - 1) → Kept r I s told c count weight list → Kept r I s told c count (min (weight + added) (2 ^ 64 - 1)) (with_entries call kinds list)
      push_kinds call [] c count weight added list plain fits weighs k =
          let same = no_heavier (weight_of r.weight (λ v. length (r.encoded v)) list) weight added k.weight_now weighs in subst (λ (w : ℕ). Kept r I s told c count w list) (sym same) k
      push_kinds call (kind ∷ kinds) c count weight added list plain fits weighs k =
          let all = and_parts (is_plain kind) (list_all is_plain kinds) plain in
          let e : EntrySeen V T = record { who = call; kind = kind } in
          let one = push_plain c count weight (weight_by r kind) list e all.0 (λ is. (fits is).0) refl k in
          let rest = push_kinds call kinds c count (min (weight + weight_by r kind) (2 ^ 64 - 1)) (weight_of_kinds r kinds) (list ++ e ∷ []) all.1 (λ is. (fits is).1) refl one in
          let same = heavier_twice (weight_of r.weight (λ v. length (r.encoded v)) list) weight added (weight_by r kind) (weight_of_kinds r kinds) k.weight_now weighs in
          subst (λ (w : ℕ). Kept r I s told c count w (with_entries call kinds (list ++ e ∷ []))) (sym same) rest

      rose_count : (count count' : ℕ) (list : List (EntrySeen V T)) → Rose count count' → s.folder.count ≤ count → ((greater : ℕ) → count < greater → list_any (λ (x : EntrySeen V T). has_reached Folder greater x.kind) list ≡ false)
          → RaisesCount s list (Fault Folder count')
      rose_count count count' list rose first were = ⊎_elim (λ more. inl (record { start = omega (arith, more, first); earlier = were count' more })) (λ at_end. inr at_end) rose

      push_fault : (call : CallId) (c : Contents) (count count' weight : ℕ) (list : List (EntrySeen V T)) → Rose count count' → count ≤ count' → (IsTrue told → FaultFits r.meanings s call list) → Kept r I s told c count weight list
          → Kept r I s told c count' (min (weight + 0) (2 ^ 64 - 1)) (list ++ record { who = call; kind = Fault Folder count' } ∷ [])
      unfolding kind_weight
      push_fault call c count count' weight list rose later fits k =
          let e : EntrySeen V T = record { who = call; kind = Fault Folder count' } in
          record {
            main = λ is. main_other c list e refl (fits is count' (rose_count count count' list rose k.first k.counts)) (k.main is);
            weight_now = heavier_list weight 0 list e k.weight_now refl;
            counted = λ is. sym (count_after-push s.folder.count list e);
            first = omega (arith, k.first);
            counts = counted_more count' list e (λ greater low. k.counts greater (omega arith)) (λ greater low. below_count count' greater low);
          }

      push_change : (c c' : Contents) (count weight added : ℕ) (list : List (EntrySeen V T)) (e : EntrySeen V T) (plan : List ℕ) → is_change e.kind ≡ true → (IsTrue told → Fits r.meanings s list e)
          → (IsTrue told → WritesChange r I s list e plan) → (IsTrue told → c'.main ≡ Some plan) → min added (2 ^ 64 - 1) ≡ min (weight_by r e.kind) (2 ^ 64 - 1) → Kept r I s told c count weight list
          → Kept r I s told c' count (min (weight + added) (2 ^ 64 - 1)) (list ++ e ∷ [])
      push_change c c' count weight added list e plan change fits writes now weighs k =
          record {
            main = λ is. main_change c c' list e plan change (fits is) (writes is) (now is) (k.main is);
            weight_now = heavier_list weight added list e k.weight_now weighs;
            counted = λ is. k.counted is ∙ sym (count_after-push s.folder.count list e ∙ change_count e.kind (count_after Folder s.folder.count list) change);
            first = k.first;
            counts = counted_more count list e k.counts (λ greater low. uncounted_change e.kind greater change);
          }
        where
          uncounted_change : (kind : KindSeen V T) (count : ℕ) → is_change kind ≡ true → has_reached Folder count kind ≡ false
          uncounted_change (Fault device reached) count change = never change
          uncounted_change other count change = refl

-- the folder, of which at most the scratch file, or what a stop may leave, is another
pub record MainStays (told failed : Bool) (old new : Contents) (old_tally new_tally : Tally) : Type 0 where
  pub start : SameStart told failed old new old_tally new_tally
  pub main : IsTrue told → new.main ≡ old.main

module _ (told : Bool) (c c' : Contents) (t t' : Tally) (call : FolderCall) (failed : Bool) (tallies : Tallies told call failed t t') where
  starts : (IsTrue told → c'.first ≡ c.first) → (IsTrue told → c'.alone ≡ c.alone) → SameStart told failed c c' t t'
  starts first alone = record { first = first; alone = alone; most = tallies.most; later = tallies.counts.later; counted = λ so well. (tallies.due so).count ∙ (rw well refl) }

  pub changed_stays : (scratch : Scratch) → (IsTrue told → ChangesScratch scratch c c') → MainStays told failed c c' t t'
  changed_stays scratch is =
      record { start = starts (λ so. (is so).first) (λ so. (is so).alone); main = λ so. (is so).main }

  pub loosened_stays : (IsTrue told → LoosensScratch c c') → MainStays told failed c c' t t'
  loosened_stays is =
      record { start = starts (λ so. (is so).first) (λ so. (is so).alone); main = λ so. (is so).main }

  pub equal_stays : (IsTrue told → c' ≡ c) → MainStays told failed c c' t t'
  equal_stays is =
      record {
        start = starts (λ so. ap (λ (x : Contents). x.first) (is so)) (λ so. ap (λ (x : Contents). x.alone) (is so));
        main = λ so. ap (λ (x : Contents). x.main) (is so);
      }

  pub synced_stays : (IsTrue told → c' ≡ folder_synced c) → MainStays told failed c c' t t'
  synced_stays is =
      record {
        start = starts (λ so. ap (λ (x : Contents). x.first) (is so)) (λ so. ap (λ (x : Contents). x.alone) (is so));
        main = λ so. ap (λ (x : Contents). x.main) (is so);
      }

  pub renamed_starts : (IsTrue told → c' ≡ renamed c) → SameStart told failed c c' t t'
  renamed_starts is =
      starts (λ so. ap (λ (x : Contents). x.first) (is so)) (λ so. ap (λ (x : Contents). x.alone) (is so))

-- a folder that was asked for room
pub roomier_stays : (told : Bool) (c c' : Contents) (t t' : Tally) → (IsTrue told → c' ≡ c) → t' ≡ t → MainStays told false c c' t t'
roomier_stays told c c' t t' same tally =
    record {
      start =
          record {
            first = λ so. ap (λ (x : Contents). x.first) (same so);
            alone = λ so. ap (λ (x : Contents). x.alone) (same so);
            most = ap (λ (x : Tally). x.most) tally;
            later = let is = ap (λ (x : Tally). x.count) tally in omega (arith, is);
            counted = λ so well. ap (λ (x : Tally). x.count) tally;
          };
      main = λ so. ap (λ (x : Contents). x.main) (same so);
    }

-- a folder that no call was made of
pub untouched : (told : Bool) (c : Contents) (t : Tally) → MainStays told false c c t t
untouched told c t = record { start = record { first = λ so. refl; alone = λ so. refl; most = refl; later = omega arith; counted = λ so well. refl }; main = λ so. refl }

module _ {V T : Type 0} (r : Rules V T) (I : V → Type 0) (told : Bool) (c c' : Contents) (t t' : Tally) (limit first_faults : ℕ) (planned : List PlannedDeath) (l l' : Ledger V T) where
  abbrev store_before : Store V (Unit {0})
  store_before = store_with told c t limit first_faults planned l.journal l.nodes

  abbrev store_after : Store V (Unit {0})
  store_after = store_with told c' t' limit first_faults planned l'.journal l'.nodes

  abbrev KeptBefore : Type 0
  KeptBefore = ∥ Kept r I store_before told c t.count l.journal.weight l.journal.list ∥₁

  abbrev KeptAfter : Type 0
  KeptAfter = ∥ Kept r I store_after told c' t'.count l'.journal.weight l'.journal.list ∥₁

  -- the same store, list and weight by other names
  moved : store_after ≡ store_before → (list : List (EntrySeen V T)) (weight : ℕ) → l'.journal.list ≡ list → l'.journal.weight ≡ weight → Kept r I store_before told c' t'.count weight list
      → Kept r I store_after told c' t'.count l'.journal.weight l'.journal.list
  moved same list weight is weighs k = rw (same, is, weighs) k

  module _ (call : CallId) (kinds : List (KindSeen V T)) (added : ℕ) (owner : Option CallId) (room : ℕ) (enters : Enters call kinds added owner room (ledger_seen l) (ledger_seen l')) where
    pub kept_kinds : MainStays told false c c' t t' → list_all is_plain kinds ≡ true → (IsTrue told → FitInTurn r.meanings store_before call kinds l.journal.list)
        → min added (2 ^ 64 - 1) ≡ min (weight_of_kinds r kinds) (2 ^ 64 - 1) → KeptBefore → KeptAfter
    kept_kinds stays plain fits weighs kept =
        ∥∥₁_map kept
        (λ k.
        moved
        (same_store told c c' t t' limit first_faults planned l l' stays.start enters.base enters.bounds enters.nodes)
        _
        _
        enters.list
        enters.weight
        (push_kinds r I store_before told call kinds c' t'.count l.journal.weight added l.journal.list plain fits weighs (still r I store_before told c c' t.count t'.count l.journal.weight l.journal.list stays.main stays.start.later (λ so. stays.start.counted so refl) k)))

  module _ (call : CallId) (count : ℕ) (owner : Option CallId) (room : ℕ) (enters : Enters call (Fault Folder count ∷ []) 0 owner room (ledger_seen l) (ledger_seen l')) where
    pub kept_fault : {failed : Bool} → MainStays told failed c c' t t' → count ≡ t'.count → Rose t.count t'.count → (IsTrue told → FaultFits r.meanings store_before call l.journal.list) → KeptBefore → KeptAfter
    kept_fault stays is rose fits kept =
        ∥∥₁_map kept
        (λ k.
        moved
        (same_store told c c' t t' limit first_faults planned l l' stays.start enters.base enters.bounds enters.nodes)
        _
        _
        (enters.list ∙ ap (λ (n : ℕ). l.journal.list ++ record { who = call; kind = Fault Folder n } ∷ []) is)
        enters.weight
        (push_fault r I store_before told call c' t.count t'.count l.journal.weight l.journal.list rose stays.start.later fits (still r I store_before told c c' t.count t.count l.journal.weight l.journal.list stays.main (omega arith) (λ so. refl) k)))

  module _ (call : CallId) (kind : KindSeen V T) (added : ℕ) (owner : Option CallId) (room : ℕ) (enters : Enters call (kind ∷ []) added owner room (ledger_seen l) (ledger_seen l')) where
    pub kept_change : SameStart told false c c' t t' → (plan : List ℕ) → is_change kind ≡ true → (IsTrue told → FitInTurn r.meanings store_before call (kind ∷ []) l.journal.list)
        → (IsTrue told → WritesChange r I store_before l.journal.list (record { who = call; kind = kind }) plan) → (IsTrue told → c'.main ≡ Some plan)
        → added ≡ min (kind_weight r.weight (λ v. length (r.encoded v)) kind) (2 ^ 64 - 1) → KeptBefore → KeptAfter
    kept_change start plan change fits writes now weighs kept =
        ∥∥₁_map kept
        (λ k.
        let later : Kept r I store_before told c t'.count l.journal.weight l.journal.list = still r I store_before told c c t.count t'.count l.journal.weight l.journal.list (λ so. refl) start.later (λ so. start.counted so refl) k in
        moved
        (same_store told c c' t t' limit first_faults planned l l' start enters.base enters.bounds enters.nodes)
        _
        _
        enters.list
        enters.weight
        (push_change r I store_before told c c' t'.count l.journal.weight added l.journal.list (record { who = call; kind = kind }) plan change (λ so. (fits so).0) writes now (omega (arith, weighs)) later))

  -- a node that was brought back, or was not
  module _ (call : CallId) (node : NodeId) (owner : Option CallId) (room : ℕ) where
    pub kept_revived : (result : Result ℕ RestartError) → ReviveRow call node owner room result (ledger_seen l) (ledger_seen l') → MainStays told false c c' t t'
        → (IsTrue told → is_dead node l.journal.list ≡ true → FitInTurn r.meanings store_before call (Restart node ∷ []) l.journal.list) → KeptBefore → KeptAfter
    unfolding kind_weight
    kept_revived (Ok place) row stays fits kept = kept_kinds call (Restart node ∷ []) 0 owner room row.0 stays refl (λ told. fits told row.1) refl kept
    kept_revived (Err (Died place)) row stays fits kept = absurd row
    kept_revived (Err NotDead) row stays fits kept = kept_kinds call [] 0 owner room row.0 stays refl (λ told. tt) refl kept
    kept_revived (Err NoMemory) row stays fits kept = kept_kinds call [] 0 owner room row.0 stays refl (λ told. tt) refl kept

  -- a turn that adds nothing
  pub kept_still : MainStays told false c c' t t' → ledger_seen l' ≡ ledger_seen l → KeptBefore → KeptAfter
  kept_still stays same kept =
      ∥∥₁_map kept
      (λ k.
      moved
      (same_store told c c' t t' limit first_faults planned l l' stays.start (ap (λ (x : LedgerSeen V T). x.base) same) (ap (λ (x : LedgerSeen V T). x.bounds) same) (ap (λ (x : LedgerSeen V T). x.nodes) same))
      _
      _
      (ap (λ (x : LedgerSeen V T). x.list) same)
      (ap (λ (x : LedgerSeen V T). x.weight) same)
      (still r I store_before told c c' t.count t'.count l.journal.weight l.journal.list stays.main stays.start.later (λ so. stays.start.counted so refl) k))

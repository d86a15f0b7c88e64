-- A search for a planned failure among those that go by their rank.
use Rattle.std.proofs.Common.{◌≡◌, ◌≤◌, ◌<◌, ◌+◌, ◌*◌, ◌==◌, ◌&&◌, Bool, true, false, List, ℕ, sym, arith, length, ◌∙◌, inl, inr, get_or, Err, Less, Equal, Greater}
use Rattle.std.specs.List.Sorted.{IsNonDecreasingBy, IsBinarySearchResult}
use Rattle.std.specs.Ordering.{nat_cmp, ordering_index}
use Rattle.std.proofs.lemmas.Bool.{cases_lt}
use Rattle.std.proofs.lemmas.Bool.Decides.{nat_tests}
use Rattle.std.proofs.lemmas.List.Folds.{list_any_at, list_any_none}
use Rattle.folder_disk.specs.declared.call.FolderCall.{FolderCall}
use Rattle.folder_disk.specs.declared.call.Planned.{Planned}
use Rattle.folder_disk.specs.declared.call.CallCounts.{CallCounts}
use Rattle.folder_disk.specs.Due.{count_of, kind_of, rank, is_planned}
use Rattle.folder_disk.proofs.OrderLemmas.{kind_bound}

abbrev has_rank : ℕ → Planned → Bool
has_rank wanted p = rank p == wanted

-- a rank tells the kind of call and the number
abbrev is_of : FolderCall → ℕ → Planned → Bool
is_of call number p = (kind_of p.call == kind_of call) && (p.number == number)

rank_tells : (call : FolderCall) (number : ℕ) (p : Planned) → has_rank (number * 6 + kind_of call) p ≡ is_of call number p
rank_tells call number p =
    let few = kind_bound call in
    let few_too = kind_bound p.call in grind (arith, nat_tests)

-- where one rank is behind another, so are their places against a third
place_rises : (a b wanted : ℕ) → a ≤ b → ordering_index (nat_cmp a wanted) ≤ ordering_index (nat_cmp b wanted)
place_rises a b wanted h = grind (arith, nat_tests)

at_equal : (a wanted : ℕ) → nat_cmp a wanted ≡ Equal → (a == wanted) ≡ true
at_equal a wanted h = grind (arith, nat_tests)

at_less : (a wanted : ℕ) → nat_cmp a wanted ≡ Less → (a == wanted) ≡ false
at_less a wanted h = grind (arith, nat_tests)

at_greater : (a wanted : ℕ) → nat_cmp a wanted ≡ Greater → (a == wanted) ≡ false
at_greater a wanted h = grind (arith, nat_tests)

abbrev is_next : FolderCall → ℕ → Planned → Bool
is_next call before p = is_of call (before + 1) p

pub planned_here : (call : FolderCall) (made : CallCounts) (before : ℕ) (xs : List Planned) (i : ℕ) (d : Planned) → before ≡ count_of made call → i < length xs
    → nat_cmp (rank (get_or xs i d)) ((before + 1) * 6 + kind_of call) ≡ Equal → is_next call before (get_or xs i d) ≡ is_planned call made xs
planned_here call made before xs i d e within h =
    let here : is_next call before (get_or xs i d) ≡ true = sym (rank_tells call (before + 1) (get_or xs i d)) ∙ at_equal _ _ h in
    rw (← e) (here ∙ sym (list_any_at (is_next call before) xs i d within here))

missed : (a wanted : ℕ) (i k : ℕ) → (k < i → nat_cmp a wanted ≡ Less) → (i ≤ k → nat_cmp a wanted ≡ Greater) → (a == wanted) ≡ false
missed a wanted i k before behind = elim (cases_lt k i) [
  | inl low ↦ at_less a wanted (before low)
  | inr high ↦ at_greater a wanted (behind high)
]

pub planned_nowhere : (call : FolderCall) (made : CallCounts) (before : ℕ) (xs : List Planned) (i : ℕ) → before ≡ count_of made call → IsNonDecreasingBy rank xs
    → IsBinarySearchResult (λ p. nat_cmp (rank p) ((before + 1) * 6 + kind_of call)) xs (Err i) → false ≡ is_planned call made xs
planned_nowhere call made before xs i e sorted h =
    let wanted : ℕ = (before + 1) * 6 + kind_of call in
    let sides = h (λ i j d low within. place_rises _ _ wanted (sorted i j d low within)) in
    rw (← e) (sym (list_any_none (is_next call before) xs (λ k d within. sym (rank_tells call (before + 1) (get_or xs k d)) ∙ missed _ wanted i k (λ low. sides.0 k d (omega arith) low) (λ high. sides.1 k d high within))))

-- What reading a source to its end answers.
use Rattle.std.specs.Prelude.{ℕ, ◌≡◌, ◌+◌, ◌≤◌, ◌++◌, Bool, true, false, IsTrue, List, [], length, Result, Ok, Err}
use Rattle.byte_io.specs.Seen.{SourceSeen}
use Rattle.byte_io.specs.declared.read_all_error.ReadAllError.{ReadAllError}
use Rattle.byte_io.specs.declared.read_all_error.ReadAllError.TheVariants.{ReadFault, TooLong, NoMemory}

-- the first bytes of what was left were taken, this many
pub record TakesFront (taken : ℕ) (old new : List ℕ) : Type 0 where
  pub front : List ℕ
  pub bytes : old ≡ front ++ new
  pub count : length front ≡ taken

-- whether the source failed
abbrev pub is_read_fault : {T : Type 0} → Result T ReadAllError → Bool
is_read_fault (Err ReadFault) = true
is_read_fault _ = false

-- All that was left, within the limit; one byte more than the limit; or a front of it, where the source failed or memory did.
abbrev pub ReadsAll : ℕ → SourceSeen → Result (List ℕ) ReadAllError → SourceSeen → Type 0
ReadsAll limit old (Ok bytes) new = (length bytes ≤ limit) × (IsTrue old.told → (bytes ≡ old.left) × (new.left ≡ []))
ReadsAll limit old (Err ReadFault) new = IsTrue old.told → (taken : ℕ) × (taken ≤ limit) × TakesFront taken old.left new.left
ReadsAll limit old (Err (TooLong most)) new = (most ≡ limit) × (IsTrue old.told → TakesFront (limit + 1) old.left new.left)
ReadsAll limit old (Err NoMemory) new = IsTrue old.told → (taken : ℕ) × (taken ≤ limit + 1) × TakesFront taken old.left new.left

-- One read on the way: some bytes, and where none came the source is at its end; a fault; or bytes that no memory was left for.
abbrev pub Gathers : ℕ → List ℕ → SourceSeen → Result ℕ ReadAllError → List ℕ → SourceSeen → Type 0
Gathers wanted bytes old (Ok taken) gathered new =
    (length gathered ≡ length bytes + taken) × (taken ≤ wanted) × (IsTrue old.told → (bytes ++ old.left ≡ gathered ++ new.left) × (taken ≡ 0 → old.left ≡ []))
Gathers wanted bytes old (Err ReadFault) gathered new = IsTrue old.told → new.left ≡ old.left
Gathers wanted bytes old (Err (TooLong most)) gathered new = ⊥
Gathers wanted bytes old (Err NoMemory) gathered new = IsTrue old.told → (taken : ℕ) × (taken ≤ wanted) × TakesFront taken old.left new.left

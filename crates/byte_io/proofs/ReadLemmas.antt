-- The loop that reads to the end.
use Rattle.std.proofs.Common.{◌≡◌, ◌∙◌, ◌≤◌, ◌+◌, ◌-◌, ℕ, IsTrue, List, ◌++◌, length, Err, refl, sym, ap, append_assoc, length-append, arith}
use Rattle.byte_io.specs.ReadAll.{ReadsAll, Gathers}
use Rattle.byte_io.specs.Seen.{SourceSeen}
use Rattle.byte_io.specs.declared.read_all_error.ReadAllError.{ReadAllError}
use Rattle.byte_io.specs.declared.read_all_error.ReadAllError.TheVariants.{ReadFault, TooLong, NoMemory}

-- where the next read stops, all that was taken is a front of what there was
pub stopped : (limit wanted : ℕ) (bytes gathered : List ℕ) (old middle new : SourceSeen) (error : ReadAllError)
    → (IsTrue old.told → old.left ≡ bytes ++ middle.left) → middle.told ≡ old.told → length bytes ≤ limit → wanted ≡ limit + 1 - length bytes
    → Gathers wanted bytes middle (Err error) gathered new → ReadsAll limit old (Err error) new
stopped limit wanted bytes gathered old middle new ReadFault whole same within room stop = λ is_told. (
  length bytes,
  within,
  record { front = bytes; bytes = whole is_told ∙ ap (λ (left : List ℕ). bytes ++ left) (sym (stop (rw same is_told))); count = refl },
)
stopped limit wanted bytes gathered old middle new (TooLong most) whole same within room stop = absurd stop
stopped limit wanted bytes gathered old middle new NoMemory whole same within room stop =
    λ is_told.
    let piece = stop (rw same is_told) in
    let count : length piece.2.front ≡ piece.0 = piece.2.count in
    let most : piece.0 ≤ wanted = piece.1 in (
      length bytes + piece.0,
      omega arith,
      record {
        front = bytes ++ piece.2.front;
        bytes = whole is_told ∙ ap (λ (left : List ℕ). bytes ++ left) piece.2.bytes ∙ sym (append_assoc bytes piece.2.front new.left);
        count = length-append bytes piece.2.front ∙ ap (λ n. length bytes + n) count;
      },
    )

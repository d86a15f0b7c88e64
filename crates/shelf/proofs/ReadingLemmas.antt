-- What main reads as is the value of the history.
use Rattle.std.proofs.Common.{◌≡◌, ◌∙◌, ◌+◌, ◌^◌, ◌<◌, ◌==◌, ℕ, zero, suc, Bool, true, false, IsTrue, List, [], ◌∷◌, Option, Some, None, IfSome, Ok, length, refl, sym, ap, arith, cond, if◌then◌else◌}
use Rattle.std.proofs.lemmas.Bool.Decides.{nat_tests}
use Rattle.store_traits.specs.declared.applied.Applied.{Applied}
use Rattle.folder_disk.specs.Contents.{Contents}
use Rattle.folder_disk.specs.declared.main_read.MainRead.{MainRead}
use Rattle.folder_disk.specs.declared.main_read.MainRead.TheVariants.{Absent, Bytes}
use Rattle.folder_disk.specs.MainRead.{main_of, FitsLimit, HasLength, ReadsMain}
use Rattle.hist_journal.specs.declared.seen.BaseSeen.{BaseSeen}
use Rattle.hist_journal.specs.declared.seen.BaseSeen.TheVariants as base
use Rattle.hist_journal.specs.declared.seen.EntrySeen.{EntrySeen}
use Rattle.hist_journal.specs.Folds as folds
use Rattle.hist_journal.specs.Folds.{edition_of, value_of, text_or}
use Rattle.hist_journal.specs.Kinds.{is_change}
use Rattle.hist_journal.proofs.FoldLemmas.{edition_of-append, edition_of-push, value_after-other}
use Rattle.shelf.specs.declared.answers.Loaded.{Loaded}
use Rattle.shelf.specs.declared.answers.Loaded.TheVariants.{Value, Corrupt, TooLong, Faulted, NoMemory}
use Rattle.shelf.specs.declared.store.Store.{Store}
use Rattle.shelf.specs.Base.{ReadsAs}
use Rattle.shelf.specs.Kept.{KeptMain}
use Rattle.shelf.specs.Legal.{value_at}
use Rattle.shelf.specs.Loading.{base_of, DecodesAs}
use Rattle.shelf.specs.Rules.{Rules}

-- main after a history without a value change, and with one
no_change : {X : Type 0} (n : ℕ) (main text : X) → n ≡ 0 → (if n == 0 then main else text) ≡ main
no_change n main text is = rw is refl

some_change : {X : Type 0} (n k : ℕ) (main text : X) → n ≡ suc k → (if n == 0 then main else text) ≡ text
some_change n k main text is = grind (arith, nat_tests)

module _ {V : Type 0} (reads : List ℕ → V → Type 0) (absent : V) (limit : ℕ) (read_once : (bytes : List ℕ) (v w : V) → reads bytes v → reads bytes w → v ≡ w) where
  -- a file reads as one base at most
  pub one_base : (main : Option (List ℕ)) (a b : BaseSeen V) → ReadsAs reads absent limit main a → ReadsAs reads absent limit main b → a ≡ b
  one_base None a b ra rb = ra ∙ sym rb
  one_base (Some bytes) (base.Held v) (base.Held w) ra rb = ap base.Held (read_once bytes v w ra.1 rb.1)
  one_base (Some bytes) (base.Held v) base.Corrupt ra rb = absurd (rb.1 v ra.1)
  one_base (Some bytes) (base.Held v) (base.TooLong len) ra rb = absurd (omega (arith, ra.0, rb.0))
  one_base (Some bytes) base.Corrupt (base.Held w) ra rb = absurd (ra.1 w rb.1)
  one_base (Some bytes) base.Corrupt base.Corrupt ra rb = refl
  one_base (Some bytes) base.Corrupt (base.TooLong len) ra rb = absurd (omega (arith, ra.0, rb.0))
  one_base (Some bytes) (base.TooLong len) (base.Held w) ra rb = absurd (omega (arith, ra.0, rb.0))
  one_base (Some bytes) (base.TooLong len) base.Corrupt ra rb = absurd (omega (arith, ra.0, rb.0))
  one_base (Some bytes) (base.TooLong len) (base.TooLong other) ra rb = ap base.TooLong (ra.1 ∙ sym rb.1)

-- what a read says of main
pub read_fits : (told : Bool) (limit : ℕ) (main : Option (List ℕ)) (read : MainRead) → ReadsMain told limit main (Ok read) → FitsLimit limit (main_of read) × (IsTrue told → main ≡ main_of read)
read_fits told limit main Absent is = (tt, is)
read_fits told limit main (Bytes bytes) is = (is.0, is.1)

pub too_long_reads : {V : Type 0} (reads : List ℕ → V → Type 0) (absent : V) (limit len : ℕ) (main : Option (List ℕ)) → limit < len → HasLength main len → ReadsAs reads absent limit main (base.TooLong len)
too_long_reads reads absent limit len None past has = absurd has
too_long_reads reads absent limit len (Some bytes) past has = (omega (arith, past, has), sym has)

pub some_is_prop : {X : Type 0} (y : X) → IsSet X → (o : Option X) → IsProp (IfSome o (λ x. y ≡ x))
some_is_prop y set None = λ a b. refl
some_is_prop y set (Some x) = set y x

module _ {V T : Type 0} (after : T → V → Applied V) where
  nothing_before : (b : Bool) → edition_of {V = V} {T = T} [] + cond b 1 0 ≡ cond b 1 0
  unfolding edition_of
  nothing_before b = omega arith

  first_changes : (n more : ℕ) (b : Bool) → n ≡ 0 → n ≡ cond b 1 0 + more → (b ≡ false) × (more ≡ 0)
  first_changes n more true none is = absurd (omega (arith, none, is))
  first_changes n more false none is = (refl, omega (arith, none, is))

  -- without a value change the value is the base
  pub unchanged : (value : BaseSeen V) (list : List (EntrySeen V T)) → edition_of list ≡ 0 → value_of after value list ≡ value
  unfolding value_of
  unchanged value [] none = refl
  unchanged value (e ∷ es) none =
      let parts = first_changes (edition_of (e ∷ es)) (edition_of es) (is_change e.kind) none (edition_of-append (e ∷ []) es ∙ ap (λ n. n + edition_of es) (edition_of-push [] e ∙ nothing_before (is_change e.kind))) in
      ap (λ (b : BaseSeen V). value_of after b es) (value_after-other after value e.kind parts.0) ∙ unchanged value es parts.1

module _ {V T M : Type 0} (r : Rules V T) (I : V → Type 0) (s : Store V M) (low : s.limits.file < 2 ^ 63) (read_once : (bytes : List ℕ) (v w : V) → r.reads bytes v → r.reads bytes w → v ≡ w)
    (read_back : (v : V) → I v → length (r.encoded v) < 2 ^ 64 → r.reads (r.encoded v) v) where
  -- main reads as the value of the history
  value_reads : (folder : Contents) (list : List (EntrySeen V T)) (n : ℕ) → edition_of list ≡ n → KeptMain r I s folder list → ReadsAs r.reads r.absent s.limits.file folder.main (value_at r.meanings s list)
  unfolding folds.main_of text_or
  value_reads folder list zero none k =
      let main = k.main ∙ no_change (edition_of list) s.main _ none in
      rw (main, unchanged r.meanings.after s.base list none) k.base
  value_reads folder list (suc n) some k =
      let stored = k.changed (λ none. absurd (omega (arith, some, none))) in
      let text : folder.main ≡ Some (r.encoded stored.value) =
      k.main ∙ (some_change (edition_of list) n s.main _ some ∙ ap (λ (b : BaseSeen V). text_or r.meanings.after r.encoded b s.main) stored.held) in
      rw (text, stored.held) (stored.may.fits, read_back stored.value stored.may.known (omega (arith, low, stored.may.fits)))

  pub value_is : (folder : Contents) (list : List (EntrySeen V T)) (b : BaseSeen V) → KeptMain r I s folder list → ReadsAs r.reads r.absent s.limits.file folder.main b → value_of r.meanings.after s.base list ≡ b
  value_is folder list b k is = one_base r.reads r.absent s.limits.file read_once folder.main _ b (value_reads folder list (edition_of list) refl k) is

  -- what was decoded of main is the value of the history
  pub decoded_is : (folder : Contents) (list : List (EntrySeen V T)) (read : MainRead) (loaded : Loaded V) → KeptMain r I s folder list → FitsLimit s.limits.file (main_of read) → folder.main ≡ main_of read
      → DecodesAs r.reads r.absent read loaded → IfSome (base_of loaded) (λ b. value_of r.meanings.after s.base list ≡ b)
  decoded_is folder list Absent (Value given) k fits is decodes = value_is folder list (base.Held given.value.value) k (rw is (ap base.Held decodes))
  decoded_is folder list (Bytes bytes) (Value given) k fits is decodes = value_is folder list (base.Held given.value.value) k (rw is (fits, decodes))
  decoded_is folder list (Bytes bytes) Corrupt k fits is decodes = value_is folder list base.Corrupt k (rw is (fits, decodes))
  decoded_is folder list Absent NoMemory k fits is decodes = tt
  decoded_is folder list (Bytes bytes) NoMemory k fits is decodes = tt
  decoded_is folder list Absent Corrupt k fits is decodes = absurd decodes
  decoded_is folder list Absent (TooLong len) k fits is decodes = absurd decodes
  decoded_is folder list (Bytes bytes) (TooLong len) k fits is decodes = absurd decodes
  decoded_is folder list Absent (Faulted at) k fits is decodes = absurd decodes
  decoded_is folder list (Bytes bytes) (Faulted at) k fits is decodes = absurd decodes

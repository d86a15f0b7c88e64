use Rattle.std.proofs.Common.{◌≡◌, ◌∙◌, ℕ, List, length, false, ap, sym}
use Rattle.std.proofs.lemmas.Bool.{OnFalse_from}
use Rattle.std.proofs.lemmas.Bool.Decides.{Decides-eqb}
use Rattle.std.proofs.lemmas.Slice.Eq.{slice_eq-Decides}
use Rattle.hex.specs.Hex.{encode_lower, IsBytes}
use Rattle.prefs_text.proofs.Hexadecimals.{decodes_to}
use Rattle.prefs_text.proofs.scalars.decode_lower.Goals as goal

pub returns-in_default-clause-no : goal.returns-in_default-clause-no
returns-in_default-clause-no c other len are_bytes e =
    let decoded = decodes_to c.args.word.now other (length c.args.bytes.now) len are_bytes e in
    let value = rw decoded at c.decode_to_slice.ensures.value in
    c.in_default.not-Ok tt value.0

pub returns-clause-no : goal.returns-clause-no
returns-clause-no c =
    let no : c.eq.result ≡ false → (other : List ℕ) → length other ≡ length c.args.bytes.now → IsBytes other → c.args.word.now ≡ encode_lower other → ⊥ = λ differs other len are_bytes e.
    let decoded = decodes_to c.args.word.now other (length c.args.bytes.now) len are_bytes e in
    let value = rw decoded at c.decode_to_slice.ensures.value in
    let printed : c.encode_to_slice.new.output ≡ c.args.word.now = c.in-Ok-encode_to_slice.ensures.written ∙ ap encode_lower value.1 ∙ sym e in
    let equal = (slice_eq-Decides Decides-eqb _ _ _ c.eq.ensures).1 (printed ∙ sym c.as_bytes.ensures.value) in
    cc (equal, differs) in
    OnFalse_from c.eq.result _ no

-- Behind a quiet front of a lawful history, nothing changes the value without a Raise.
use Rattle.std.proofs.Common.{◌≡◌, ◌∙◌, ◌+◌, ℕ, Bool, true, false, List, [], ◌∷◌, ◌++◌, Option, Some, None, refl, sym, arith, cond, append_assoc, append-nil}
use Rattle.hist_journal.specs.declared.seen.EntrySeen.{EntrySeen}
use Rattle.hist_journal.specs.Folds.{edition_of, raises_of, value_of}
use Rattle.hist_journal.specs.Kinds.{is_raise, is_change}
use Rattle.hist_journal.specs.Quiet.{Quiet, pending}
use Rattle.hist_journal.proofs.FoldLemmas.{raises_of-append, raises_of-push, value_of-other, edition_of-other}
use Rattle.hist_journal.proofs.QuietLemmas.{Quiet-push}
use Rattle.shelf.specs.declared.store.Store.{Store}
use Rattle.shelf.specs.Legal.{Fits, Legal}
use Rattle.shelf.specs.Meanings.{Meanings}
use Rattle.shelf.proofs.RaiseLemmas.{open_is_pending}

not_counted : (n : ℕ) (b : Bool) → n ≡ cond b 1 0 → n ≡ 0 → b ≡ false
not_counted n false is none = refl
not_counted n true is none = absurd (omega arith)

pending_or_none : {X : Type 0} (b : Bool) (p : Option X) (x : X) → (b ≡ true → p ≡ Some x) → p ≡ None → b ≡ false
pending_or_none false p x change quiet = refl
pending_or_none true p x change quiet = absurd (let is : p ≡ Some x = change refl in cc)

module _ {V T M : Type 0} (m : Meanings V T) (s : Store V M) where
  -- no value change fits a quiet history
  pub no_change_fits_quiet : (before : List (EntrySeen V T)) (e : EntrySeen V T) → Fits m s before e → Quiet before → is_change e.kind ≡ false
  no_change_fits_quiet before e fits quiet = pending_or_none (is_change e.kind) (pending before) e.who (λ changes. open_is_pending e.who before (fits.raised changes)) quiet

  pub record Fresh (front list : List (EntrySeen V T)) : Type 0 where
    pub value : value_of m.after s.base list ≡ value_of m.after s.base front
    pub edition : edition_of list ≡ edition_of front

  raises_of_one : (e : EntrySeen V T) → raises_of (e ∷ []) ≡ cond (is_raise e.kind) 1 0
  unfolding raises_of
  raises_of_one e = omega (arith, raises_of-push [] e)

  stays : (front back : List (EntrySeen V T)) → Legal m s (front ++ back) → Quiet front → raises_of back ≡ 0 → Fresh front (front ++ back)
  stays front [] legal quiet none = rw append-nil (record { value = refl; edition = refl })
  stays front (e ∷ es) legal quiet none =
      let parts : raises_of (e ∷ es) ≡ raises_of (e ∷ []) + raises_of es = raises_of-append (e ∷ []) es in
      let raises : is_raise e.kind ≡ false = not_counted (raises_of (e ∷ [])) (is_raise e.kind) (raises_of_one e) (omega arith) in
      let rest : raises_of es ≡ 0 = omega arith in
      let changes : is_change e.kind ≡ false = no_change_fits_quiet front e (legal.each front e es refl) quiet in
      let same : front ++ e ∷ es ≡ (front ++ e ∷ []) ++ es = sym (append_assoc front (e ∷ []) es) in
      let later : Fresh (front ++ e ∷ []) ((front ++ e ∷ []) ++ es) = stays (front ++ e ∷ []) es (rw same at legal) (Quiet-push front e quiet raises) rest in
      rw same (record { value = later.value ∙ value_of-other m.after s.base front e changes; edition = later.edition ∙ edition_of-other front e changes })

  pub quiet_is_fresh : (front back : List (EntrySeen V T)) → Legal m s (front ++ back) → Quiet front → raises_of (front ++ back) ≡ raises_of front → Fresh front (front ++ back)
  quiet_is_fresh front back legal quiet same = stays front back legal quiet (omega (arith, raises_of-append front back, same))

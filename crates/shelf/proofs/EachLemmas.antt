-- What holds of each element of a list, element by element.
use Rattle.std.proofs.Common.{⊎_elim, ◌≡◌, List, [], ◌∷◌, ◌++◌, ap, append_assoc, append-nil}
use Rattle.hist_journal.proofs.ClearingLemmas.{last_or_before, longer}
use Rattle.shelf.specs.Each.{Each}

abbrev head_or : {X : Type 0} → X → List X → X
head_or x [] = x
head_or x (y ∷ ys) = y

abbrev tail : {X : Type 0} → List X → List X
tail [] = []
tail (y ∷ ys) = ys

module _ {X : Type 0} (Holds : List X → X → Type 0) where
  -- it holds of each of these, where those stand before
  abbrev pub Walked : List X → List X → Type 0
  Walked before [] = Unit {0}
  Walked before (x ∷ xs) = Holds before x × Walked (before ++ x ∷ []) xs

  walked_to : (before list front : List X) (x : X) (behind : List X) → Walked before list → list ≡ front ++ x ∷ behind → Holds (before ++ front) x
  walked_to before [] [] x behind walked is = absurd (cc)
  walked_to before [] (z ∷ zs) x behind walked is = absurd (cc)
  walked_to before (y ∷ ys) [] x behind walked is =
      let same : y ≡ x = ap (head_or x) is in
      let here : Holds before x = rw same at walked.0 in
      rw append-nil here
  walked_to before (y ∷ ys) (z ∷ zs) x behind walked is =
      let same : y ≡ z = ap (head_or x) is in
      let rest : Holds ((before ++ y ∷ []) ++ zs) x = walked_to (before ++ y ∷ []) ys zs x behind walked.1 (ap tail is) in
      let there : Holds (before ++ y ∷ zs) x = rw (append_assoc before (y ∷ []) zs) at rest in
      rw same at there

  pub each_walked : (list : List X) → Walked [] list → Each Holds list
  each_walked list walked before x behind is = walked_to [] list before x behind walked is

  pub each_none : Each Holds []
  each_none = each_walked [] tt

  -- one more element
  pub each_push : (list : List X) (x : X) → Each Holds list → Holds list x → Each Holds (list ++ x ∷ [])
  each_push list x all here before y behind is =
      ⊎_elim
      (λ it. let at_end : before ≡ list = it.0 in let last : y ≡ x = it.1 in rw (at_end, last) here)
      (λ it. all before y it.0 it.1)
      (last_or_before list before behind x y is)

  pub each_front : (front back : List X) → Each Holds (front ++ back) → Each Holds front
  each_front front back all before x behind is = all before x (behind ++ back) (longer front before behind back x is)

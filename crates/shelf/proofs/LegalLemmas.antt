-- Lawful histories by their prefixes and their last entry.
use Rattle.std.proofs.Common.{◌≡◌, ◌↔◌, List, [], ◌∷◌, ◌++◌, ⊎_elim, refl}
use Rattle.hist_journal.specs.declared.seen.EntrySeen.{EntrySeen}
use Rattle.hist_journal.proofs.ClearingLemmas.{longer, last_or_before}
use Rattle.shelf.specs.declared.store.Store.{Store}
use Rattle.shelf.specs.Legal.{Fits, Legal}
use Rattle.shelf.specs.Meanings.{Meanings}

pub nothing_stands_in_none : {X : Type 0} (before behind : List X) (x : X) → [] ≡ before ++ x ∷ behind → ⊥
nothing_stands_in_none [] behind x e = cc
nothing_stands_in_none (y ∷ before) behind x e = cc

module _ {V T M : Type 0} (m : Meanings V T) (s : Store V M) where
  pub Legal-empty : Legal m s []
  Legal-empty = record { each = λ before e behind is. absurd (nothing_stands_in_none before behind e is) }

  pub Legal-front : (front back : List (EntrySeen V T)) → Legal m s (front ++ back) → Legal m s front
  Legal-front front back legal = record { each = λ before e behind is. legal.each before e (behind ++ back) (longer front before behind back e is) }

  pub Legal-push : (list : List (EntrySeen V T)) (e : EntrySeen V T) → Legal m s list → Fits m s list e → Legal m s (list ++ e ∷ [])
  Legal-push list e legal fits =
      record {
        each =
            λ before f behind is.
            ⊎_elim
            (λ it. let at_end : before ≡ list = it.0 in let last : f ≡ e = it.1 in rw (at_end, last) fits)
            (λ it. legal.each before f it.0 it.1)
            (last_or_before list before behind e f is);
      }

  pub Legal-push-iff : (list : List (EntrySeen V T)) (e : EntrySeen V T) → Legal m s (list ++ e ∷ []) ↔ (Legal m s list × Fits m s list e)
  Legal-push-iff list e = (λ legal. (Legal-front list (e ∷ []) legal, legal.each list e [] refl), λ both. Legal-push list e both.0 both.1)

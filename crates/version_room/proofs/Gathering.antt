-- Passes that are taken one by one from the end of a list.
use Rattle.std.proofs.Common.{◌≡◌, List, [], ◌∷◌, ◌++◌, sym, ap, ◌∙◌, append_assoc}
use Rattle.std.proofs.lemmas.List.{map-append}
use Rattle.hist_journal.specs.declared.listed.Listed.{Ghosts}
use Rattle.version_room.specs.declared.pass.Pass.{Pass}
use Rattle.version_room.specs.declared.view.Known.{Known}
use Rattle.version_room.specs.Closing.{all_known}
use Rattle.version_room.specs.Seats.{known}

module _ {S D E H : Type 0} {G : Ghosts S D E H} where
  pub one_more : (all front : List (Pass S D E H G)) (p : Pass S D E H G) (gathered total : List (Known E H)) → all ≡ front ++ p ∷ [] → all_known all ++ gathered ≡ total → all_known front ++ (known p.seat ∷ gathered) ≡ total
  one_more all front p gathered total is h =
      sym (append_assoc (all_known front) (known p.seat ∷ []) gathered)
      ∙ (ap (λ (l : List (Known E H)). l ++ gathered) (sym (map-append (λ (pass : Pass S D E H G). known pass.seat) front (p ∷ [])) ∙ ap all_known (sym is)) ∙ h)

  pub none_left : (passes : List (Pass S D E H G)) (gathered total : List (Known E H)) → passes ≡ [] → all_known passes ++ gathered ≡ total → gathered ≡ total
  none_left passes gathered total is h = ap (λ (l : List (Pass S D E H G)). all_known l ++ gathered) (sym is) ∙ h

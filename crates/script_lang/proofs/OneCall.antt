-- The words behind a client's name call for one thing.
use Rattle.std.proofs.Common.{ℕ, ◌≡◌, ◌∙◌, List, [], ◌∷◌, ap, sym, refl, subst}
use Rattle.std.specs.Prelude.{codes}
use Rattle.prefs_edit.specs.declared.edit_step.EditStep.{EditStep}
use Rattle.store_traits.specs.declared.ids.NodeId.{NodeId}
use Rattle.script_words.specs.EditWords.{AreEditWords}
use Rattle.script_words.proofs.OneEdit.{one_edit}
use Rattle.script_lang.specs.declared.plan.run_line.Act.{Act}
use Rattle.script_lang.specs.declared.plan.run_line.Act.TheVariants.{Restart}
use Rattle.script_lang.specs.CallWords.{Called, to_update, to_read, to_restart, AreCallWords, AreUpdateWords, AsksFor, CallsFor}
use Rattle.script_lang.specs.Keeps.{StandOnce}
use Rattle.script_lang.proofs.CallLemmas.{read_is_no_restart, update_is_no_read, update_is_no_restart}
use Rattle.script_lang.proofs.NameLemmas.{same_node}
use Rattle.script_lang.proofs.OneRow.{first_same}

same_edit : (behind : List (List ℕ)) (a b : List EditStep) → AreUpdateWords behind a → AreUpdateWords behind b → a ≡ b
same_edit behind a b x y =
    let words : x.words ≡ y.words = (first_same (codes "update") (codes "update") x.words y.words (sym x.row ∙ y.row)).1 in
    one_edit y.words a b (subst (λ (w : List (List ℕ)). AreEditWords w a) words x.follow) y.follow

same_first : (behind : List (List ℕ)) (word other : List ℕ) (more rest : List (List ℕ)) → behind ≡ word ∷ more → behind ≡ other ∷ rest → word ≡ other
same_first behind word other more rest is also = (first_same word other more rest (sym is ∙ also)).0

same_name : (behind : List (List ℕ)) (m n : List ℕ) → behind ≡ codes "restart" ∷ m ∷ [] → behind ≡ codes "restart" ∷ n ∷ [] → m ≡ n
same_name behind m n is also =
    let cut = first_same (codes "restart") (codes "restart") (m ∷ []) (n ∷ []) (sym is ∙ also) in
    (first_same m n [] [] cut.1).0

one_called : (behind : List (List ℕ)) (a b : Called) → AreCallWords behind a → AreCallWords behind b → a ≡ b
one_called behind (to_update e) (to_update f) x y = ap to_update (same_edit behind e f x y)
one_called behind (to_update e) to_read x y = absurd (update_is_no_read (same_first behind (codes "update") (codes "read") x.words [] x.row y))
one_called behind (to_update e) (to_restart n) x y = absurd (update_is_no_restart (same_first behind (codes "update") (codes "restart") x.words (n ∷ []) x.row y))
one_called behind to_read (to_update f) x y = absurd (update_is_no_read (same_first behind (codes "update") (codes "read") y.words [] y.row x))
one_called behind to_read to_read x y = refl
one_called behind to_read (to_restart n) x y = absurd (read_is_no_restart (same_first behind (codes "read") (codes "restart") [] (n ∷ []) x y))
one_called behind (to_restart m) (to_update f) x y = absurd (update_is_no_restart (same_first behind (codes "update") (codes "restart") y.words (m ∷ []) y.row x))
one_called behind (to_restart m) to_read x y = absurd (read_is_no_restart (same_first behind (codes "read") (codes "restart") [] (m ∷ []) y x))
one_called behind (to_restart m) (to_restart n) x y = ap to_restart (same_name behind m n x y)

module _ (nodes : List (List ℕ)) (once : StandOnce nodes) where
  one_act : (called : Called) (a b : Act) → AsksFor nodes called a → AsksFor nodes called b → a ≡ b
  one_act (to_update edit) a b x y = x ∙ sym y
  one_act to_read a b x y = x ∙ sym y
  one_act (to_restart name) a b x y =
      let ids : x.node ≡ y.node = same_node x.node y.node (once x.node.0 y.node.0 name x.declared y.declared) in
      x.is ∙ ap (λ (n : NodeId). Restart n) ids ∙ sym y.is

  pub one_call : (behind : List (List ℕ)) (a b : Act) → CallsFor nodes behind a → CallsFor nodes behind b → a ≡ b
  one_call behind a b x y =
      let P : Called → Type 0 = λ called. AsksFor nodes called a in
      one_act y.called a b (subst P (one_called behind x.called y.called x.words y.words) x.asks) y.asks

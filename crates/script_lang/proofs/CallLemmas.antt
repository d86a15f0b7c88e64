-- What words call for, and that these have no unknown word, and a node that is declared.
use Rattle.std.proofs.Common.{ℕ, ◌≡◌, ◌∙◌, List, [], ◌∷◌, Some, length, ap, sym, subst, inl, inr, refl, arith}
use Rattle.std.specs.Prelude.{Contains, codes, slice_get}
use Rattle.prefs_edit.specs.declared.edit_step.EditStep.{EditStep}
use Rattle.store_traits.specs.declared.ids.ClientId.{ClientId}
use Rattle.store_traits.specs.declared.ids.NodeId.{NodeId}
use Rattle.script_words.specs.EditWords.{AreEditWords}
use Rattle.script_words.proofs.Unknowns.{edit_known}
use Rattle.script_lang.specs.declared.parsing.draft.Draft.{Draft}
use Rattle.script_lang.specs.declared.plan.run_line.Act.{Act}
use Rattle.script_lang.specs.declared.plan.run_line.Act.TheVariants.{Update, Restart, Go}
use Rattle.script_lang.specs.CallWords.{Called, to_update, to_read, to_restart, AreCallWords, AreUpdateWords, AsksFor, CallsFor, HasUnknownCall, IsCallWord, RestartsUnknown}
use Rattle.script_lang.specs.Rows.{Row}
use Rattle.script_lang.specs.Spelling.{SpellsAct, SpellsCall}
use Rattle.script_lang.proofs.NameLemmas.{Contains-from_slice_get}
use Rattle.script_lang.proofs.OneRow.{first_same}

-- an edit calls for an update, and a node's name for its restart
pub update_calls : (nodes words : List (List ℕ)) (edit : List EditStep) → AreEditWords words edit → CallsFor nodes (codes "update" ∷ words) (Update edit)
update_calls nodes words edit are = record { called = to_update edit; words = record { words = words; row = refl; follow = are }; asks = refl }

pub restart_calls : (nodes : List (List ℕ)) (name : List ℕ) (node : NodeId) → slice_get nodes node.0 ≡ Some name → CallsFor nodes (codes "restart" ∷ name ∷ []) (Restart node)
restart_calls nodes name node declared = record { called = to_restart name; words = refl; asks = record { node = node; is = refl; declared = declared } }

-- no words call for steps
no_steps : (nodes : List (List ℕ)) (called : Called) (steps : ℕ) → AsksFor nodes called (Go steps) → ⊥
no_steps nodes (to_update edit) steps asks = cc
no_steps nodes to_read steps asks = cc
no_steps nodes (to_restart name) steps asks = let is : Go steps ≡ Restart asks.node = asks.is in cc

-- a row that spells a call says what the call asks for
pub spells_act : (draft : Draft) (row : Row) (client : ClientId) (act : Act) → SpellsCall draft row client act → SpellsAct draft row client act
spells_act draft row client (Go steps) spelled = absurd (no_steps draft.nodes spelled.follow.called steps spelled.follow.asks)
spells_act draft row client act spelled = spelled

pub update_is_no_read : codes "update" ≡ codes "read" → ⊥
update_is_no_read same = let lengths : 6 ≡ 4 = ap (λ (word : List ℕ). length word) same in omega (arith, lengths)

pub update_is_no_restart : codes "update" ≡ codes "restart" → ⊥
update_is_no_restart same = let lengths : 6 ≡ 7 = ap (λ (word : List ℕ). length word) same in omega (arith, lengths)

pub read_is_no_restart : codes "read" ≡ codes "restart" → ⊥
read_is_no_restart same = let lengths : 4 ≡ 7 = ap (λ (word : List ℕ). length word) same in omega (arith, lengths)

update_known : (behind : List (List ℕ)) (edit : List EditStep) → AreUpdateWords behind edit → HasUnknownCall behind → ⊥
update_known [] edit are unknown = absurd cc
update_known (word ∷ words) edit are unknown =
    let cut = first_same word (codes "update") words are.words are.row in
    elim unknown [ inl none ↦ none (inl cut.0) | inr in_edit ↦ edit_known words edit (subst (λ (w : List (List ℕ)). AreEditWords w edit) (sym cut.1) are.follow) in_edit.1 ]

-- a call without an edit
plain_known : (behind : List (List ℕ)) (word : List ℕ) (more : List (List ℕ)) → behind ≡ word ∷ more → IsCallWord word → (codes "update" ≡ word → ⊥) → HasUnknownCall behind → ⊥
plain_known [] word more is is_call other unknown = cc
plain_known (first ∷ words) word more is is_call other unknown =
    let cut = first_same first word words more is in
    let P : List ℕ → Type 0 = λ w. IsCallWord w in
    elim unknown [ inl none ↦ none (subst P (sym cut.0) is_call) | inr in_edit ↦ other (sym in_edit.0 ∙ cut.0) ]

pub call_known : (behind : List (List ℕ)) (called : Called) → AreCallWords behind called → ¬ HasUnknownCall behind
call_known behind (to_update edit) are = update_known behind edit are
call_known behind to_read are = plain_known behind (codes "read") [] are (inr (inl refl)) update_is_no_read
call_known behind (to_restart name) are = plain_known behind (codes "restart") (name ∷ []) are (inr (inr refl)) update_is_no_restart

pub call_declared : (nodes behind : List (List ℕ)) (act : Act) (called : Called) → AreCallWords behind called → AsksFor nodes called act → ¬ RestartsUnknown nodes behind
call_declared nodes behind act (to_update edit) are asks unknown = update_is_no_restart (first_same (codes "update") (codes "restart") are.words (unknown.name ∷ unknown.more) (sym are.row ∙ unknown.words)).0
call_declared nodes behind act to_read are asks unknown = read_is_no_restart (first_same (codes "read") (codes "restart") [] (unknown.name ∷ unknown.more) (sym are ∙ unknown.words)).0
call_declared nodes behind act (to_restart name) are asks unknown =
    let cut = first_same (codes "restart") (codes "restart") (name ∷ []) (unknown.name ∷ unknown.more) (sym are ∙ unknown.words) in
    let named = (first_same name unknown.name [] unknown.more cut.1).0 in
    let P : List ℕ → Type 0 = λ n. Contains nodes n in
    unknown.unknown (subst P named (Contains-from_slice_get nodes name asks.node.0 asks.declared))

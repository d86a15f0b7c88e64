use Rattle.std.proofs.Common.{◌≡◌, ◌∙◌, ℕ, true, [], ◌∷◌, ◌++◌, List, sym, ap, subst, arith}
use Rattle.std.proofs.lemmas.List.FromFn.{map-range_with_len_more}
use Rattle.store_traits.specs.declared.ids.NodeId.{NodeId}
use Rattle.prefs_proto.specs.declared.prefs_codec.PrefsCodec.{PrefsCodec}
use Rattle.shelf.specs.declared.answers.AddNodeError.{AddNodeError}
use Rattle.shelf.specs.AddsNode.{RefusesNode, is_among}
use Rattle.shelf.specs.ShelfSeen.{ShelfSeen, shelf_seen}
use Rattle.shelf.proofs.Bools.{never}
use Rattle.replay_run.specs.ShelfOpens.{first_nodes, with_nodes}
use Rattle.replay_run.specs.Settings.{Change, ScriptFolder, Value}
use Rattle.replay_run.proofs.session.OpeningLemmas.{not_among}
use Rattle.replay_run.proofs.running_session.opening.add_nodes.Goals as goal

abbrev Seen : Type 0
Seen = ShelfSeen PrefsCodec ScriptFolder Value Change

pub unreachable-requires : goal.unreachable-requires
unreachable-requires c =
    let number = c.loop-number.number in
    let node : NodeId = record { 0 = number } in
    let nodes : List NodeId = (shelf_seen c.loop-number.shelf).store.nodes in
    let first : nodes ≡ first_nodes number = ap (λ (s : Seen). s.store.nodes) c.loop-number.invariant in
    let there : is_among node nodes ≡ true = subst (λ (e : AddNodeError). RefusesNode node nodes e) c.in-Err-Exists.field-0-is c.in-Err-Exists.ensures.err in
    never (sym (not_among number node (omega arith)) ∙ (ap (is_among node) (sym first) ∙ there))

pub loop-number-preserved : goal.loop-number-preserved
loop-number-preserved c =
    let start = shelf_seen c.args.shelf.now in
    let number = c.loop-number.number in
    let node : NodeId = record { 0 = number } in
    let numbered : ℕ → NodeId = λ n. record { 0 = n } in
    c.in-Ok.ensures.ok
    ∙ (ap (λ (s : Seen). with_nodes s (s.store.nodes ++ node ∷ [])) c.loop-number.invariant
    ∙ ap (λ (nodes : List NodeId). with_nodes start nodes) (sym (map-range_with_len_more numbered 0 number number (omega arith))))

use Rattle.std.proofs.Common.{◌≡◌, ◌∙◌, ℕ, ◌+◌, [], ◌∷◌, ◌++◌, List, map, None, Option, sym, ap, arith}
use Rattle.std.proofs.lemmas.List.{map_push}
use Rattle.std.proofs.lemmas.List.FromFn.{map-range_with_len_more}
use Rattle.store_traits.specs.declared.ids.NodeId.{NodeId}
use Rattle.value_cache.specs.Cached.{kept_seen}
use Rattle.replay_run.specs.Settings.{PrefCached}
use Rattle.replay_run.specs.ShelfOpens.{first_nodes}
use Rattle.replay_run.proofs.running_session.opening.empty_caches.Goals as goal

pub loop-node-preserved : goal.loop-node-preserved
loop-node-preserved c =
    let number = c.loop-node._node in
    let numbered : ℕ → NodeId = λ n. record { 0 = n } in
    let none : NodeId → Option PrefCached = λ node. None in
    let more : map none (first_nodes (number + 1)) ≡ map none (first_nodes number) ++ None ∷ [] = ap (map none) (map-range_with_len_more numbered 0 number number (omega arith)) ∙ map_push none (first_nodes number) (numbered number) in
    ap (map kept_seen) c.in_ok-push.ensures.items
    ∙ (map_push kept_seen c.loop-node.caches.items c.new.result
    ∙ (ap (λ (list : List (Option PrefCached)). list ++ kept_seen c.new.result ∷ []) c.loop-node.invariant
    ∙ (ap (λ (kept : Option PrefCached). map none (first_nodes number) ++ kept ∷ []) c.new.ensures ∙ sym more)))

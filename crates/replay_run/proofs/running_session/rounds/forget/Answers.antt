use Rattle.std.proofs.Common.{◌∙◌, Option, map, slice_set, refl, sym, ap}
use Rattle.store_traits.specs.declared.ids.NodeId.{NodeId}
use Rattle.value_cache.specs.Cached.{kept_seen}
use Rattle.replay_run.specs.Settings.{PrefCached}
use Rattle.replay_run.specs.Steps.{emptied}
use Rattle.replay_run.proofs.lists.SetViews.{map_set}
use Rattle.replay_run.proofs.running_session.rounds.forget.Goals as goal

pub returns-in-Some : goal.returns-in-Some
returns-in-Some c =
    let caches = c.args.caches.now.items in
    let place = c.in-Some.node.0 in
    map_set kept_seen kept_seen caches place c.empty.new.self (λ other one apart is. refl)
    ∙ (ap (λ (kept : Option PrefCached). slice_set (map kept_seen caches) place kept) c.empty.ensures ∙ ap (λ (back : Option NodeId). emptied back (map kept_seen caches)) (sym c.in-Some.is))

-- What the caches keep behind a turn is of a prefix of the history still, and what is published of all of it.
use Rattle.std.proofs.Common.{◌≡◌, ℕ, List, length, All, Option, Some, None, IfSome, slice_get, slice_set, refl}
use Rattle.std.proofs.lemmas.List.{length-set}
use Rattle.std.proofs.lemmas.Option.{IfSome_then}
use Rattle.store_traits.specs.declared.ids.NodeId.{NodeId}
use Rattle.shelf.specs.declared.store.Store.{Store}
use Rattle.step_table.specs.Caching.{published_by}
use Rattle.value_cache.specs.Truth.{IsOfPrefix}
use Rattle.value_cache.proofs.TruthLemmas.{IsOfPrefix-append, IsOfPrefix-now}
use Rattle.node_core.proofs.PublishedLemmas.{turn_publishes}
use Rattle.replay_run.specs.RunState.{RunState}
use Rattle.replay_run.specs.Settings.{PrefCached, PrefRules, PrefWorld, Value}
use Rattle.replay_run.specs.Steps.{emptied}
use Rattle.replay_run.proofs.keeping.ClientTurns.{ClientTurn, adds, call, knows, more, turned}
use Rattle.replay_run.proofs.keeping.KeptBehind.{kept_true}
use Rattle.replay_run.proofs.lists.SetViews.{all_found, all_set}

-- an empty cache is true of any history
all_emptied : (P : Option PrefCached → Type 0) → P None → (back : Option NodeId) (caches : List (Option PrefCached)) → All P caches → All P (emptied back caches)
all_emptied P none None caches all = all
all_emptied P none (Some node) caches all = all_set P caches node.0 None none (λ other one apart is. all_found P caches other one is all)

pub length-emptied : (back : Option NodeId) (caches : List (Option PrefCached)) → length (emptied back caches) ≡ length caches
length-emptied None caches = refl
length-emptied (Some node) caches = length-set caches node.0 None

module _ {r : PrefRules} {M : Type 0} {s : Store Value M} {state : RunState} (k : ClientTurn r s state) where
  abbrev w : PrefWorld
  w = state.shared.world

  abbrev IsOf : PrefWorld → Option PrefCached → Type 0
  IsOf w one = IfSome one (IsOfPrefix r.meanings.after s.base w.history)

  cached_stays : (one : Option PrefCached) → IsOf w one → IsOf k.w_after one
  cached_stays one of = IfSome_then one of (λ c of. rw (adds k) (IsOfPrefix-append r.meanings.after s.base w.history (more k) c of))

  cache_stays : (node : ℕ) (one : Option PrefCached) → slice_get state.shared.caches node ≡ Some one → IsOf k.w_after one
  cache_stays node one is = cached_stays one (all_found (IsOf w) state.shared.caches node one is k.keeps.cached)

  published : IsOf k.w_after (published_by (call k).at k.takes.gave k.w_after)
  published =
      IfSome_then (published_by (call k).at k.takes.gave k.w_after)
      (turn_publishes r s (turned k) (knows k) k.well.reads k.well.told k.keeps.version k.keeps.quiet k.takes.gave k.takes.turn) (IsOfPrefix-now r.meanings.after s.base k.w_after.history)

  own_cache : IsOf k.w_after k.cached_after
  own_cache = rw k.takes.kept (kept_true r.meanings.after s.base k.w_after.history k.cached (published_by (call k).at k.takes.gave k.w_after) (cache_stays k.client.node.0 k.cached k.cache) published)

  pub caches_kept : (back : Option NodeId) → All (IsOf k.w_after) (emptied back (slice_set state.shared.caches k.client.node.0 k.cached_after))
  caches_kept back =
      all_emptied (IsOf k.w_after) tt back (slice_set state.shared.caches k.client.node.0 k.cached_after)
      (all_set (IsOf k.w_after) state.shared.caches k.client.node.0 k.cached_after own_cache (λ other one apart is. cache_stays other one is))

use Rattle.std.proofs.Common.{◌≡◌, ◌∙◌, Some, map, refl, slice_get, slice_set, ap, subst, vec_len}
use Rattle.std.proofs.Math.Logic.{∥∥₁_map}
use Rattle.std.proofs.lemmas.Option.{slice_get_read}
use Rattle.std.specs.Vec.{with_item}
use Rattle.store_traits.specs.declared.ids.NodeId.{NodeId}
use Rattle.value_cache.specs.Cached.{kept_seen}
use Rattle.replay_run.specs.declared.client.Client as own
use Rattle.replay_run.specs.declared.running_session.RunningSession.{RunningSession}
use Rattle.replay_run.specs.Steps.{emptied}
use Rattle.replay_run.proofs.session.SessionAsked.{asked_alike}
use Rattle.replay_run.proofs.session.SessionTurns.{back_has_cache, finds_cache, has_cache, may_go, session_keeps, steps_at}
use Rattle.replay_run.proofs.session.TrueCacheLemmas.{caches_stay, forgotten_true}
use Rattle.replay_run.proofs.running_session.RunningSession.go.Goals as goal

pub index_mut-cache-requires : goal.index_mut-cache-requires
index_mut-cache-requires c =
    let old = c.args.self.now in
    let client = c.index_mut-client.result.now in
    has_cache old c.args.place client (slice_get_read old.clients.items (vec_len old.clients) c.args.place client old.clients.ok.0 c.requires.within c.index_mut-client.ensures.value) c.requires.keeps c.node.result c.node.ensures

pub go-requires-clause-may : goal.go-requires-clause-may
go-requires-clause-may c =
    let old = c.args.self.now in
    let client = c.index_mut-client.result.now in
    may_go old c.args.place client (slice_get_read old.clients.items (vec_len old.clients) c.args.place client old.clients.ok.0 c.requires.within c.index_mut-client.ensures.value) c.requires.keeps

pub invariant_of-self : goal.invariant_of-self
invariant_of-self c =
    let old = c.args.self.now in
    let client = c.index_mut-client.result.now in
    let found = slice_get_read old.clients.items (vec_len old.clients) c.args.place client old.clients.ok.0 c.requires.within c.index_mut-client.ensures.value in
    let cache = finds_cache old c.args.place client found c.requires.keeps c.node.result c.index_mut-cache.result.now c.node.ensures c.index_mut-cache.ensures.value in
    let here : slice_get old.caches.items c.node.result.0 ≡ Some c.index_mut-cache.result.now = ap (λ (node : NodeId). slice_get old.caches.items node.0) c.node.ensures ∙ cache in
    record { cached = ∥∥₁_map old.cached (λ all. caches_stay old.shelf c.go.new.shelf c.go.ensures.cache old.caches.items c.node.result.0 here all) }

pub returns-in_err-back-clause-asked : goal.returns-in_err-back-clause-asked
returns-in_err-back-clause-asked c =
    let old = c.args.self.now in
    let client = c.index_mut-client.result.now in
    let found = slice_get_read old.clients.items (vec_len old.clients) c.args.place client old.clients.ok.0 c.requires.within c.index_mut-client.ensures.value in
    asked_alike old.clients.items c.args.place client c.go.new.self found (ap (λ (x : own.Client). x.asked) c.go.ensures.kept)

pub forget-requires : goal.forget-requires
forget-requires c =
    let old = c.args.self.now in
    let client = c.index_mut-client.result.now in
    let found = slice_get_read old.clients.items (vec_len old.clients) c.args.place client old.clients.ok.0 c.requires.within c.index_mut-client.ensures.value in
    back_has_cache old c.args.place client found c.requires.keeps c.go.new.self c.in_ok-back.back c.in_ok-back.ensures.back

pub invariant_of-self-2 : goal.invariant_of-self-2
invariant_of-self-2 c =
    let old = c.args.self.now in
    let client = c.index_mut-client.result.now in
    let found = slice_get_read old.clients.items (vec_len old.clients) c.args.place client old.clients.ok.0 c.requires.within c.index_mut-client.ensures.value in
    let cache = finds_cache old c.args.place client found c.requires.keeps c.node.result c.index_mut-cache.result.now c.node.ensures c.index_mut-cache.ensures.value in
    let here : slice_get old.caches.items c.node.result.0 ≡ Some c.index_mut-cache.result.now = ap (λ (node : NodeId). slice_get old.caches.items node.0) c.node.ensures ∙ cache in
    record {
      cached =
          ∥∥₁_map old.cached
          (λ all.
          forgotten_true c.go.new.shelf (slice_set old.caches.items c.node.result.0 c.go.new.cache) c.forget.new.caches.items c.in_ok-back.back c.forget.ensures
          (caches_stay old.shelf c.go.new.shelf c.go.ensures.cache old.caches.items c.node.result.0 here all));
    }

-- the session behind the step, the client that did it, and the cache of its node
abbrev now : goal.After-self-3-1 → RunningSession
now c = record { shelf = c.go.new.shelf; word = c.go.new.word; caches = c.forget.new.caches; clients = with_item c.args.self.now.clients c.args.place c.go.new.self; cached = c.self-3-1.given.0 }

found : (c : goal.After-self-3-1) → slice_get c.args.self.now.clients.items c.args.place ≡ Some c.index_mut-client.result.now
found c = let old = c.args.self.now in slice_get_read old.clients.items (vec_len old.clients) c.args.place c.index_mut-client.result.now old.clients.ok.0 c.requires.within c.index_mut-client.ensures.value

cache : (c : goal.After-self-3-1) → slice_get c.args.self.now.caches.items c.index_mut-client.result.now.node.0 ≡ Some c.index_mut-cache.result.now
cache c = finds_cache c.args.self.now c.args.place c.index_mut-client.result.now (found c) c.requires.keeps c.node.result c.index_mut-cache.result.now c.node.ensures c.index_mut-cache.ensures.value

-- it keeps what the step left, and that of a node that was brought back nothing
caches : (c : goal.After-self-3-1) → map kept_seen (now c).caches.items ≡ emptied c.in_ok-back.back (map kept_seen (slice_set c.args.self.now.caches.items c.index_mut-client.result.now.node.0 c.go.new.cache))
caches c =
    subst (λ (node : NodeId). map kept_seen c.forget.new.caches.items ≡ emptied c.in_ok-back.back (map kept_seen (slice_set c.args.self.now.caches.items node.0 c.go.new.cache))) c.node.ensures c.forget.ensures

pub returns-clause-steps : goal.returns-clause-steps
returns-clause-steps c =
    steps_at c.args.self.now (now c) c.args.place c.index_mut-client.result.now c.go.new.self (found c) refl c.in_ok-back.back c.in_ok-back.ensures.back c.index_mut-cache.result.now c.go.new.cache (cache c) (caches c) c.requires.keeps c.in_ok-back.ensures.steps

pub returns-clause-keeps : goal.returns-clause-keeps
returns-clause-keeps c =
    session_keeps c.args.self.now (now c) c.args.place c.index_mut-client.result.now c.go.new.self (found c) refl c.in_ok-back.back c.in_ok-back.ensures.back c.index_mut-cache.result.now c.go.new.cache (cache c) (caches c) c.requires.keeps c.in_ok-back.ensures.steps
    c.go.ensures.spares (ap (λ (x : own.Client). x.node) c.go.ensures.kept) (ap (λ (x : own.Client). x.asked) c.go.ensures.kept) c.in_ok-back.ensures.equipped c.go.ensures.codec c.go.ensures.store c.go.ensures.number

pub returns-clause-asked : goal.returns-clause-asked
returns-clause-asked c = asked_alike c.args.self.now.clients.items c.args.place c.index_mut-client.result.now c.go.new.self (found c) (ap (λ (x : own.Client). x.asked) c.go.ensures.kept)

-- What a turn leaves of the nodes that are ready, and of the deaths that are planned.
use Rattle.std.proofs.Common.{◌≡◌, ◌∙◌, ◌⊎◌, inl, inr, ◌≤◌, ◌<◌, ◌||◌, ℕ, Bool, true, false, not, List, [], ◌∷◌, ◌++◌, Option, Some, filter, length, unwrap_or, refl, sym, ap, arith, if◌then◌else◌}
use Rattle.std.specs.List.{list_any}
use Rattle.std.proofs.lemmas.Bool.{or_parts}
use Rattle.std.proofs.lemmas.List.Sums.{count_by-le-length, length-filter}
use Rattle.store_traits.specs.declared.ids.CallId.{CallId}
use Rattle.store_traits.specs.declared.ids.NodeId.{NodeId}
use Rattle.store_traits.specs.declared.step.Step.{Step}
use Rattle.hist_journal.specs.declared.seen.EntrySeen.{EntrySeen}
use Rattle.hist_journal.specs.declared.seen.KindSeen.{KindSeen}
use Rattle.hist_journal.specs.Kinds.{is_death_of}
use Rattle.hist_journal.specs.Nodes.{is_dead, is_ready}
use Rattle.shelf.specs.declared.store.PlannedDeath.{PlannedDeath}
use Rattle.shelf.specs.declared.store.Store.{Store}
use Rattle.shelf.specs.Deaths.{died_since, has_died, strikes, used_up}
use Rattle.shelf.specs.Meanwhile.{NoDeathOf}
use Rattle.shelf.specs.Rules.{Rules}
use Rattle.shelf.proofs.Bools.{never}
use Rattle.shelf.proofs.DeathLemmas.{has_died-now}
use Rattle.step_table.specs.Calls.{At, Reply, is_gone}
use Rattle.step_table.specs.Effects.{Comes, Effect, all_kinds}
use Rattle.step_table.specs.Laws.{WritesAChange}
use Rattle.step_table.specs.Rows.{Row, waits}
use Rattle.step_table.specs.Turn.{AllowedBy, RowOf, Turn, dies_now, has_died_by}
use Rattle.step_table.specs.World.{Turned, World, begin, step_of}
use Rattle.step_table.specs.declared.progress.Progress.{Progress}
use Rattle.step_table.proofs.Applying.{all_added, entries_of}
use Rattle.step_table.proofs.OwnersAlive.{all_spare, row_spares}
use Rattle.node_core.proofs.ReadinessLemmas.{stays_ready}

-- where some of a list are used up, fewer are left
module _ {X : Type 0} (p : X → Bool) where
  none_more : (xs : List X) → length (filter (λ x. not (p x)) xs) ≤ length xs
  none_more xs = rw (length-filter (λ x. not (p x)) xs) (count_by-le-length (λ x. not (p x)) xs)

  fewer : (xs : List X) → list_any p xs ≡ true → length (filter (λ x. not (p x)) xs) < length xs
  fewer [] is = never is
  fewer (x ∷ xs) is = by_first (p x) (fewer xs) is
    where
      by_first : (b : Bool) → (list_any p xs ≡ true → length (filter (λ x. not (p x)) xs) < length xs) → (b || list_any p xs) ≡ true
          → length (if not b then x ∷ filter (λ x. not (p x)) xs else filter (λ x. not (p x)) xs) < length (x ∷ xs)
      by_first true rest is = let least = none_more xs in omega (arith, least)
      by_first false rest is = let less = rest is in omega (arith, less)

pub used_fewer : (call : CallId) (step : Step) (deaths : List PlannedDeath) → list_any (strikes call step) deaths ≡ true → length (used_up call step deaths) < length deaths
used_fewer call step deaths is = fewer (strikes call step) deaths is

-- whose node has not died as its turn begins, has not died since the call began
pub alive_since : {V T : Type 0} (node : NodeId) (since : Option ℕ) (list : List (EntrySeen V T)) → has_died node (Some (unwrap_or since (length list))) list ≡ false → died_since node since list ≡ false
alive_since node since list lives = (or_parts (is_dead node list) (died_since node since list) (sym (has_died-now node since list) ∙ lives)).1

module _ {V T : Type 0} where
  -- each node that was ready is ready, and as many deaths are left
  pub record Lasts (old new : World V T) : Type 0 where
    pub ready : (node : NodeId) → is_ready node old.history ≡ true → is_ready node new.history ≡ true
    pub deaths : new.deaths ≡ old.deaths

  pub lasts_same : (old new : World V T) → new ≡ old → Lasts old new
  lasts_same old new same = record { ready = λ node is. rw same is; deaths = ap (λ (w : World V T). w.deaths) same }

  -- or a death struck
  abbrev pub LastsOrDies : World V T → World V T → Type 0
  LastsOrDies old new = Lasts old new ⊎ (length new.deaths < length old.deaths)

  -- entries among which no node dies
  none_dies : (node : NodeId) (call : CallId) (kinds : List (KindSeen V T)) → list_any (is_death_of node) kinds ≡ false → NoDeathOf node (entries_of call kinds)
  none_dies node call [] none = refl
  none_dies node call (kind ∷ kinds) none = let parts = or_parts (is_death_of node kind) (list_any (is_death_of node) kinds) none in rw parts.0 (none_dies node call kinds parts.1)

module _ {V T M : Type 0} (r : Rules V T) (s : Store V M) where
  -- a row strikes nobody
  row_lives : (w : World V T) (call : CallId) {at : At V T} {e : Effect V T} → Row r s w call at e → e.dies ≡ false
  row_lives w call (waits another must) = refl
  row_lives w call other = refl

  module _ (t : Turned V T) (gave : Progress (Reply V)) (e : Effect V T) (comes : Comes t e gave) where
    row_lasts : RowOf r s t e → WritesAChange t.call.at → Lasts t.world t.world_after
    row_lasts row changes =
        let kinds = all_kinds e.folder t.world_after.tally.count e.kinds in
        let grew : t.world_after.history ≡ t.world.history ++ entries_of t.call.id kinds = ap (λ (w : World V T). w.history) comes.world ∙ all_added t.call.id kinds t.world.history in
        record {
          ready = λ node is.
              let none = all_spare node e.folder t.world_after.tally.count e.kinds (row_spares r s t.world t.call.id node row changes) in
              rw grew (stays_ready node t.world.history (entries_of t.call.id kinds) (none_dies node t.call.id kinds none) is);
          deaths = ap (λ (w : World V T). w.deaths) comes.world ∙ rw (row_lives t.world t.call.id row) refl;
        }

    lasts_by : (gone died dies : Bool) → dies_now t ≡ dies → AllowedBy r s gone died dies t e → WritesAChange t.call.at → LastsOrDies t.world t.world_after
    lasts_by true died dies strikes it changes = absurd it
    lasts_by false true dies strikes it changes = inl (lasts_same t.world t.world_after (rw it.is at comes.world))
    lasts_by false false true strikes it changes =
        let left = ap (λ (w : World V T). w.deaths) (rw it at comes.world) in
        inr (rw left (used_fewer t.call.id (step_of t) t.world.deaths strikes))
    lasts_by false false false strikes it changes = inl (row_lasts it changes)

  pub turn_lasts : (t : Turned V T) (gave : Progress (Reply V)) → Turn r s t gave → WritesAChange t.call.at → LastsOrDies t.world t.world_after
  turn_lasts t gave turn changes = lasts_by (begin t) gave turn.effect turn.comes (is_gone t.call.at) (has_died_by (begin t)) (dies_now (begin t)) refl turn.allowed changes

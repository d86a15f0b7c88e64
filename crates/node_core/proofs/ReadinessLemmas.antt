-- A node that a call has initialised is initialised at the call's next first turn.
use Rattle.std.proofs.Common.{◌≡◌, ◌∙◌, Bool, true, false, List, ◌++◌, unwrap_or, refl, ap}
use Rattle.std.proofs.lemmas.Bool.{eq-eqb}
use Rattle.store_traits.specs.declared.ids.NodeId.{NodeId}
use Rattle.hist_journal.specs.declared.seen.EntrySeen.{EntrySeen}
use Rattle.hist_journal.specs.declared.seen.KindSeen.{KindSeen}
use Rattle.hist_journal.specs.declared.seen.KindSeen.TheVariants.{Death, Inited}
use Rattle.hist_journal.specs.Kinds.{is_death_of, is_node}
use Rattle.hist_journal.specs.Nodes.{is_ready, mark_if, ready_mark}
use Rattle.hist_journal.proofs.NodeLemmas.{is_ready-push}
use Rattle.shelf.specs.declared.store.Store.{Store}
use Rattle.shelf.specs.Meanwhile.{NoDeathOf}
use Rattle.shelf.specs.Rules.{Rules}
use Rattle.shelf.proofs.Bools.{never}
use Rattle.shelf.proofs.MeanwhileLemmas.{carried, spared_parts}
use Rattle.step_table.specs.Calls.{At, is_first}
use Rattle.step_table.specs.Effects.{Comes, Effect}
use Rattle.step_table.specs.Rows.{Row, waits, finishes}
use Rattle.step_table.specs.Turn.{Turn}
use Rattle.step_table.specs.World.{Turned, begin}
use Rattle.step_table.specs.declared.progress.Progress.TheVariants.{Moved}
use Rattle.node_core.proofs.MovingLemmas.{moves, moved_row}

marked : (same : Bool) → unwrap_or (mark_if same true) true ≡ true
marked true = refl
marked false = refl

module _ {V T : Type 0} (node : NodeId) where
  ready_by : (kind : KindSeen V T) → is_death_of node kind ≡ false → unwrap_or (ready_mark node kind) true ≡ true
  ready_by (Inited ready) spared = marked (is_node node ready)
  ready_by (Death died) spared = rw spared refl
  ready_by other spared = refl

  -- a node is initialised until it dies
  pub stays_ready : (list more : List (EntrySeen V T)) → NoDeathOf node more → is_ready node list ≡ true → is_ready node (list ++ more) ≡ true
  stays_ready list more =
      carried (λ (xs : List (EntrySeen V T)). is_ready node xs ≡ true) (NoDeathOf node)
      (λ xs e behind fit. let parts = spared_parts node e behind fit in (λ was. is_ready-push node xs e ∙ (ap (unwrap_or (ready_mark node e.kind)) was ∙ ready_by e.kind parts.0), parts.1))
      list
      more

module _ {V T M : Type 0} (r : Rules V T) (s : Store V M) where
  -- a call whose next turn is a first one finds its node initialised
  abbrev FindsReady : Turned V T → Type 0
  FindsReady t = is_first t.call_after.at ≡ true → is_ready t.call.id.node t.world_after.history ≡ true

  row_finds : (t : Turned V T) {at : At V T} {e : Effect V T} → Row r s t.world t.call.id at e → moves e.next ≡ true → Comes t e Moved → FindsReady t
  row_finds t (waits another must) is comes first = never is
  row_finds t finishes is comes first =
      rw comes.world (is_ready-push t.call.id.node t.world.history (record { who = t.call.id; kind = Inited t.call.id.node }) ∙ rw (eq-eqb t.call.id.node.0 t.call.id.node.0 refl) refl)
  row_finds t other is comes first = never (rw comes.call at first)

  -- a turn that moved a call to a first one initialised its node
  pub turn_finds : (t : Turned V T) → Turn r s t Moved → FindsReady t
  turn_finds t turn = let row = moved_row r s t turn in row_finds (begin t) row.0 row.1 turn.comes

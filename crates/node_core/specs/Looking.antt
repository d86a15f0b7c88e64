-- The look of a read in the cache of its node.
use Rattle.std.specs.Prelude.{◌≡◌, Bool, true, false, Option, Some, None, Result, Ok, Err}
use Rattle.std.specs.declared.alloc.AllocError.{AllocError}
use Rattle.store_traits.specs.declared.given.Given.{Given}
use Rattle.store_traits.specs.declared.step.Step.{Step}
use Rattle.store_traits.specs.declared.step.Step.TheVariants as step
use Rattle.step_table.specs.Calls.{step_at}
use Rattle.value_cache.specs.Cached.{Cached}
use Rattle.node_core.specs.declared.read_call.ReadState.{ReadState}
use Rattle.node_core.specs.declared.read_call.ReadState.TheVariants.{Look, First, Gone}
use Rattle.node_core.specs.Views.{read_seen}

-- the value and the edition are those that are kept
pub record GivesKept {V : Type 0} (kept : Cached V) (given : Given V) : Type 0 where
  pub edition : given.edition ≡ kept.edition
  pub value : given.value.value ≡ kept.value

-- what the look found is given, or one more owner of it was refused; nothing is given exactly where it found nothing
abbrev pub LooksAt : {V : Type 0} → Option (Cached V) → Result (Option (Given V)) AllocError → Type 0
LooksAt None (Ok None) = Unit {0}
LooksAt (Some kept) (Ok (Some given)) = GivesKept kept given
LooksAt (Some kept) (Err refused) = Unit {0}
LooksAt found other = ⊥

module _ {P C T F V : Type 0} where
  -- the look is still to come
  abbrev pub is_looking : ReadState P C T F V → Bool
  is_looking Look = true
  is_looking other = false

  -- a read that found nothing goes on; any other has ended
  abbrev pub behind_look : Result (Option (Given V)) AllocError → ReadState P C T F V
  behind_look (Ok None) = First
  behind_look other = Gone None

  -- the next step, where a look comes before the first turn
  abbrev pub read_step : (ready : Bool) → ReadState P C T F V → Step
  read_step ready Look = step.V1
  read_step ready other = step_at ready (read_seen other)

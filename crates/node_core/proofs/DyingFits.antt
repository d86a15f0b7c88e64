-- A Death of the node fits behind all that a living call may have told of, and so does a Restart by a call that has told of nothing.
use Rattle.std.proofs.Common.{◌≡◌, ◌∙◌, true, false, List, refl, sym}
use Rattle.std.specs.List.{list_any}
use Rattle.store_traits.specs.declared.ids.CallId.{CallId}
use Rattle.store_traits.specs.declared.ids.NodeId.{NodeId}
use Rattle.hist_journal.specs.declared.seen.EntrySeen.{EntrySeen}
use Rattle.hist_journal.specs.declared.seen.KindSeen.TheVariants.{Death, Restart}
use Rattle.hist_journal.specs.Nodes.{is_dead}
use Rattle.shelf.specs.declared.store.Store.{Store}
use Rattle.shelf.specs.CallOrder.{is_later}
use Rattle.shelf.specs.Entries.{is_fault_or_death, is_update}
use Rattle.shelf.specs.Legal.{Fits}
use Rattle.shelf.specs.Meanings.{Meanings}
use Rattle.shelf.specs.Meanwhile.{NoneOf}
use Rattle.shelf.proofs.Bools.{never}
use Rattle.shelf.proofs.CauseLemmas.{no_kind}
use Rattle.shelf.proofs.GoingOn.{GoesOn, none_ended}
use Rattle.shelf.proofs.LateCallLemmas.{EndsOn}
use Rattle.step_table.specs.Calls.{At, Changed, SyncingFolder}
use Rattle.node_core.specs.Own.{OwnEntries}
use Rattle.node_core.proofs.EarlyLemmas.{changed_ends_on, early_goes_on}

module _ {V T : Type 0} (call : CallId) (list : List (EntrySeen V T)) where
  -- a call that goes on may end
  goes_ends : GoesOn call list → EndsOn call list
  goes_ends goes = record { lives = goes.lives; numbers = goes.numbers; unended = goes.unended; first = none_ended call list goes.unchanged }

  -- whatever it is at
  pub living_ends : (at : At V T) → OwnEntries call at list → is_dead call.node list ≡ false → list_any (is_later call) list ≡ false → EndsOn call list
  living_ends (SyncingFolder (Changed place)) entries lives numbers = changed_ends_on call place list entries lives numbers
  living_ends other entries lives numbers = goes_ends (early_goes_on call list entries lives numbers)

  -- a call of which nothing was told goes on
  new_goes_on : NoneOf call list → list_any (is_later call) list ≡ false → is_dead call.node list ≡ false → GoesOn call list
  new_goes_on none numbers lives = record { lives = lives; numbers = numbers; unended = no_kind call is_fault_or_death list none; unchanged = no_kind call is_update list none }

  module _ {M : Type 0} (m : Meanings V T) (s : Store V M) where
    ending_dies : EndsOn call list → Fits m s list (record { who = call; kind = Death call.node })
    ending_dies e =
        record {
          value = tt;
          raised = never;
          lifetimes = record { lives = e.lives; named = refl };
          order = record { numbers = e.numbers; goes_on = e.unended; update = λ has. record { ends = refl; first = e.first } };
          readiness = tt;
          settings = tt;
          counts = tt;
        }

    -- a call that goes on may bring a dead node back
    pub going_restarts : GoesOn call list → (node : NodeId) → is_dead node list ≡ true → Fits m s list (record { who = call; kind = Restart node })
    going_restarts goes node dead =
        record {
          value = tt;
          raised = never;
          lifetimes = record { lives = goes.lives; named = dead };
          order = record { numbers = goes.numbers; goes_on = goes.unended; update = λ has. never (sym goes.unchanged ∙ has) };
          readiness = tt;
          settings = tt;
          counts = tt;
        }

    -- the node of a living call may die
    pub death_fits : (at : At V T) → OwnEntries call at list → is_dead call.node list ≡ false → list_any (is_later call) list ≡ false → Fits m s list (record { who = call; kind = Death call.node })
    death_fits at entries lives numbers = ending_dies (living_ends at entries lives numbers)

    module _ (none : NoneOf call list) (numbers : list_any (is_later call) list ≡ false) (lives : is_dead call.node list ≡ false) where
      -- so may that of a call of which nothing was told
      pub new_death_fits : Fits m s list (record { who = call; kind = Death call.node })
      new_death_fits = ending_dies (goes_ends (new_goes_on none numbers lives))

      -- which may bring a dead node back
      pub restart_fits : (node : NodeId) → is_dead node list ≡ true → Fits m s list (record { who = call; kind = Restart node })
      restart_fits = going_restarts (new_goes_on none numbers lives)

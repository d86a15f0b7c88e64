-- Whether a history is lawful is tested, where a test says which values are the same.
use Rattle.std.proofs.Common.{◌≡◌, ◌-◌, ◌^◌, List, Option, Some, refl, sym}
use Rattle.std.specs.List.{list_any}
use Rattle.store_traits.specs.declared.ids.CallId.{CallId}
use Rattle.hist_journal.specs.declared.seen.BaseSeen.{BaseSeen}
use Rattle.hist_journal.specs.declared.seen.BaseSeen.TheVariants.{Held, Corrupt, TooLong}
use Rattle.hist_journal.specs.declared.seen.EntrySeen.{EntrySeen}
use Rattle.hist_journal.specs.declared.seen.KindSeen.{KindSeen}
use Rattle.hist_journal.specs.declared.seen.KindSeen.TheVariants.{Edit, Same, Replace, Migrate, Cleared, Inited, Fault, Death, Restart}
use Rattle.hist_journal.specs.Kinds.{is_change}
use Rattle.hist_journal.specs.Nodes.{is_dead, is_ready}
use Rattle.shelf.specs.declared.store.Store.{Store}
use Rattle.shelf.specs.CallOrder.{KeepsOrder, is_ended_update, is_later}
use Rattle.shelf.specs.Changes.{ChangesValue, KeepsValue, MakesValue, ReplacesUnreadable}
use Rattle.shelf.specs.Decided.{Decided}
use Rattle.shelf.specs.Entries.{is_fault_or_death, is_own, is_update, is_update_end, some_entry}
use Rattle.shelf.specs.FaultCounts.{RaisesCount, count_at_start, has_reached}
use Rattle.shelf.specs.Legal.{Fits, Legal, value_at}
use Rattle.shelf.specs.Lifetimes.{KeepsLifetimes, NamesNode}
use Rattle.shelf.specs.Meanings.{Meanings}
use Rattle.shelf.specs.OldSettings.{LeavesOldSettings}
use Rattle.shelf.specs.OpenRaise.{has_open_raise}
use Rattle.shelf.specs.Readiness.{KeepsReadiness}
use Rattle.shelf.proofs.BaseTests.{MakesSo, holds_so, long_not_corrupt, makes_so, not_corrupt}
use Rattle.shelf.proofs.ListTests.{each}
use Rattle.shelf.proofs.Tests.{both, either, if_so, less, like, no, none, not_so, one_node, same_number, same_option, sure, yes}

-- until old settings are taken over, these are not lawful
abbrev pub leaves_old : {V T : Type 0} (kind : KindSeen V T) → Decided (LeavesOldSettings kind)
leaves_old (Migrate names v) = none (λ it. it)
leaves_old (Cleared name) = none (λ it. it)
leaves_old other = sure tt

module _ {V T M : Type 0} (same : (a b : V) → Decided (a ≡ b)) (m : Meanings V T) (s : Store V M) where
  -- a transform makes of it another value, or the same
  abbrev pub changes : (value : BaseSeen V) (t : T) → Decided (ChangesValue m.after s.handler value t)
  changes value t =
      like
      (λ it. record { old = it.old; new = it.holds.new; held = it.held; makes = it.holds.makes; differs = it.holds.holds })
      (λ it. record { old = it.old; held = it.held; holds = record { new = it.new; makes = it.makes; holds = it.differs } })
      (holds_so (λ old. MakesSo (m.after t old) (λ new. new ≡ old → ⊥)) (λ old. makes_so (λ new. new ≡ old → ⊥) (λ new. not_so (same new old)) (m.after t old)) value)

  abbrev pub keeps : (value : BaseSeen V) (t : T) → Decided (KeepsValue m.after s.handler value t)
  keeps value t =
      like
      (λ it. record { old = it.old; held = it.held; makes = rw it.holds.holds at it.holds.makes })
      (λ it. record { old = it.old; held = it.held; holds = record { new = it.old; makes = it.makes; holds = refl } })
      (holds_so (λ old. MakesSo (m.after t old) (λ new. new ≡ old)) (λ old. makes_so (λ new. new ≡ old) (λ new. same new old) (m.after t old)) value)

  abbrev pub replaces : (value : BaseSeen V) (handler : Option V) (v : V) → Decided (ReplacesUnreadable m.after handler value v)
  replaces Corrupt handler v = like (λ is. record { unreadable = refl; given = is }) (λ it. it.given) (same_option same handler (Some v))
  replaces (Held old) handler v = none (λ it. not_corrupt old (sym it.unreadable))
  replaces (TooLong len) handler v = none (λ it. long_not_corrupt len it.unreadable)

  abbrev pub makes : (value : BaseSeen V) (kind : KindSeen V T) → Decided (MakesValue m.after s.handler value kind)
  makes value (Edit t) = changes value t
  makes value (Same t) = keeps value t
  makes value (Replace v) = replaces value s.handler v
  makes value other = sure tt

  module _ (before : List (EntrySeen V T)) where
    abbrev pub names : (who : CallId) (kind : KindSeen V T) → Decided (NamesNode before who kind)
    names who (Death node) = one_node node who.node
    names who (Restart node) = yes (is_dead node before)
    names who other = sure tt

    abbrev pub lives : (e : EntrySeen V T) → Decided (KeepsLifetimes before e)
    lives e = like (λ it. record { lives = it.0; named = it.1 }) (λ it. (it.lives, it.named)) (both (no (is_dead e.who.node before)) (names e.who e.kind))

    abbrev pub in_order : (e : EntrySeen V T) → Decided (KeepsOrder before e)
    in_order e =
        like
        (λ it. record { numbers = it.0; goes_on = it.1.0; update = λ has. record { ends = (it.1.1 has).0; first = (it.1.1 has).1 } })
        (λ it. (it.numbers, (it.goes_on, λ has. ((it.update has).ends, (it.update has).first))))
        (both (no (list_any (is_later e.who) before)) (both (no (list_any (is_own is_fault_or_death e.who) before))
        (if_so (yes (list_any (is_own is_update e.who) before)) (both (yes (is_update_end e.kind)) (no (some_entry (is_ended_update e.who) before))))))

    abbrev pub ready : (value : BaseSeen V) (who : CallId) (kind : KindSeen V T) → Decided (KeepsReadiness value before who kind)
    ready value who (Edit t) = yes (is_ready who.node before)
    ready value who (Same t) = yes (is_ready who.node before)
    ready value who (Migrate names v) = no (is_ready who.node before)
    ready value who (Cleared name) = no (is_ready who.node before)
    ready value who (Inited node) =
        like
        (λ it. record { named = it.0; unready = it.1.0; readable = it.1.1.old; held = it.1.1.held })
        (λ it. (it.named, (it.unready, record { old = it.readable; held = it.held; holds = tt })))
        (both (one_node node who.node) (both (no (is_ready who.node before)) (holds_so (λ v. Unit {0}) (λ v. sure tt) value)))
    ready value who other = sure tt

    abbrev pub raises : (kind : KindSeen V T) → Decided (RaisesCount s before kind)
    raises (Fault device count) =
        either
        (like (λ it. record { start = it.0; earlier = it.1 }) (λ it. (it.start, it.earlier)) (both (less (count_at_start s device) count) (no (list_any (λ e. has_reached device count e.kind) before))))
        (same_number count (2 ^ 64 - 1))
    raises other = sure tt

    abbrev pub fits : (e : EntrySeen V T) → Decided (Fits m s before e)
    fits e =
        like
        (λ it. record { value = it.0; raised = it.1.0; lifetimes = it.1.1.0; order = it.1.1.1.0; readiness = it.1.1.1.1.0; settings = it.1.1.1.1.1.0; counts = it.1.1.1.1.1.1 })
        (λ it. (it.value, (it.raised, (it.lifetimes, (it.order, (it.readiness, (it.settings, it.counts)))))))
        (both (makes (value_at m s before) e.kind) (both (if_so (yes (is_change e.kind)) (yes (has_open_raise e.who before))) (both (lives e) (both (in_order e)
        (both (ready (value_at m s before) e.who e.kind) (both (leaves_old e.kind) (raises e.kind)))))))

  abbrev pub lawful : (list : List (EntrySeen V T)) → Decided (Legal m s list)
  lawful list = like (λ all. record { each = all }) (λ it. it.each) (each (Fits m s) fits list)

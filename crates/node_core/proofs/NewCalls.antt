-- A call of which nothing was told may begin.
use Rattle.std.proofs.Common.{◌≡◌, ◌∙◌, false, List, Some, None, sym, arith}
use Rattle.std.specs.List.{list_any}
use Rattle.store_traits.specs.declared.codec.Codec as codec_trait
use Rattle.store_traits.specs.declared.ids.CallId.{CallId}
use Rattle.store_traits.specs.declared.transform.Transform as transform_trait
use Rattle.folder_disk.specs.declared.folder.Folder as folder_trait
use Rattle.hist_journal.specs.declared.seen.EntrySeen.{EntrySeen}
use Rattle.hist_journal.specs.Kinds.{is_raise}
use Rattle.hist_journal.specs.Quiet.{pending}
use Rattle.shelf.specs.CallOrder.{is_later}
use Rattle.shelf.specs.Meanwhile.{NoneOf}
use Rattle.shelf.specs.ShelfSeen.{ShelfSeen}
use Rattle.shelf.proofs.LastRaises.{ends_in_raise-none}
use Rattle.shelf.proofs.Bools.{never}
use Rattle.shelf.proofs.CauseLemmas.{no_kind}
use Rattle.shelf.proofs.PendingMeanwhile.{pending_own}
use Rattle.step_table.specs.Calls.{Ask, First}
use Rattle.node_core.specs.Own.{is_late}
use Rattle.node_core.specs.Ready.{Ready}

module _ {V T : Type 0} (call : CallId) (list : List (EntrySeen V T)) (none : NoneOf call list) where
  -- and its raise is not open
  pub unraised : {X : Type 0} → pending list ≡ Some call → X
  unraised is = never (sym (no_kind call is_raise list none) ∙ pending_own call list is)

pub new_is_ready : {C F V T : Type 0} (c : codec_trait.Ghosts C V) (t : transform_trait.Ghosts T V) (f : folder_trait.Ghosts F) (call : CallId) (ask : Ask T) (s : ShelfSeen C F V T)
    → NoneOf call s.list → list_any (is_later call) s.list ≡ false → Ready c t f (record { call = call; since = None }) (First ask) s
new_is_ready c t f call ask s none numbers =
    record {
      knows =
          record {
            began = tt;
            numbers = numbers;
            entries = no_kind call is_late s.list none;
            plan = tt;
            last = sym (ends_in_raise-none call s.list none);
            raised = (λ no. never no, unraised call s.list none);
            holds = λ no. never no;
            contents = λ told. tt;
          };
      equipped = record { entries = omega arith; room = tt; may = λ told. tt };
    }

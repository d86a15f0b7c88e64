-- What a call knows stays so, whatever others do between two of its turns.
use Rattle.std.proofs.Common.{◌≡◌, ◌∙◌, inl, inr, ◌≤◌, ℕ, Bool, true, false, List, ◌++◌, length, Option, Some, None, IfSome, IsTrue, append_assoc, refl, sym, ap, arith, ◌∷◌}
use Rattle.std.proofs.lemmas.List.{length-append}
use Rattle.std.proofs.lemmas.List.Folds.{list_any-append}
use Rattle.store_traits.specs.declared.ids.CallId.{CallId}
use Rattle.hist_journal.specs.declared.seen.EntrySeen.{EntrySeen}
use Rattle.hist_journal.specs.declared.seen.KindSeen.TheVariants.{Edit}
use Rattle.hist_journal.specs.Quiet.{pending}
use Rattle.folder_disk.specs.Contents.{Contents}
use Rattle.shelf.specs.declared.store.Store.{Store}
use Rattle.shelf.specs.CallOrder.{is_later}
use Rattle.step_table.specs.Calls.{At, Call, First, Reading, Migrating, Finishing, Raising, Writing, Creating, Appending, SyncingScratch, Renaming, SyncingFolder, Restarting, Gone, Changed, Kept, Plan}
use Rattle.shelf.specs.Deaths.{died_since}
use Rattle.shelf.specs.Entries.{is_any}
use Rattle.shelf.specs.Legal.{value_at}
use Rattle.shelf.specs.Meanwhile.{NoDeathOf, NoneOf}
use Rattle.shelf.specs.Rules.{Rules}
use Rattle.step_table.specs.World.{World}
use Rattle.shelf.proofs.LastRaises.{ends_in_raise-others}
use Rattle.shelf.proofs.Bools.{never}
use Rattle.shelf.proofs.MeanwhileLemmas.{own, ready, value}
use Rattle.shelf.proofs.PendingMeanwhile.{pending_stays, pending_was}
use Rattle.node_core.specs.Between.{Between, Undisturbed}
use Rattle.node_core.specs.Knows.{Holds, IsInScratch, Knows, KnowsContents}
use Rattle.node_core.specs.Own.{OwnEntries, is_late, HasChanged}
use Rattle.node_core.specs.Phases.{is_holding, is_raised}
use Rattle.step_table.proofs.GrowingDeaths.{none_since}
use Rattle.node_core.proofs.KeepingOn.{due_on}

module _ {V T : Type 0} where
  -- a call whose Raise is open owns the lock
  pub raised_holds : (at : At V T) → is_raised at ≡ true → is_holding at ≡ true
  raised_holds (Writing stage plan) is = refl
  raised_holds other is = never is

  -- its earliest turn is still past where entries came
  still_began : (since : Option ℕ) (list more : List (EntrySeen V T)) → IfSome since (λ entries. entries ≤ length list) → IfSome since (λ entries. entries ≤ length (list ++ more))
  still_began None list more began = tt
  still_began (Some entries) list more began = omega (arith, length-append list more, began)

  -- a value change stands still once others add entries
  abbrev pub has_changed-more : (call : CallId) (place : ℕ) (list more : List (EntrySeen V T)) → NoneOf call more → HasChanged call place list → HasChanged call place (list ++ more)
  has_changed-more call place list more others has =
      record {
        before = has.before;
        edit = has.edit;
        behind = has.behind ++ more;
        is = ap (λ xs. xs ++ more) has.is ∙ append_assoc has.before (record { who = call; kind = Edit has.edit } ∷ has.behind) more;
        early = has.early;
        last = own is_any call has.behind more others ∙ has.last;
        counted = has.counted;
      }

  -- its entries are those that it had
  same_entries : (c : Call V T) (at : At V T) (list more : List (EntrySeen V T)) → NoneOf c.id more → OwnEntries c.id at list → OwnEntries c.id at (list ++ more)
  same_entries c (SyncingFolder (Changed place)) list more none has = has_changed-more c.id place list more none has
  same_entries c other list more none early = own is_late c.id list more none ∙ early

  module _ (c : Call V T) (last now : World V T) (b : Between c last now) (entries : ℕ) (begun : c.since ≡ Some entries) (began : entries ≤ length last.history) (alive : died_since c.id.node c.since now.history ≡ false) where
    -- its node did not die
    spared : NoDeathOf c.id.node b.more
    spared =
        let lives : died_since c.id.node (Some entries) now.history ≡ false = ap (λ since. died_since c.id.node since now.history) (sym begun) ∙ alive in
        none_since c.id.node entries last.history b.more (ap (died_since c.id.node (Some entries)) (sym b.grew) ∙ lives) began

    -- nothing of what it owns was disturbed
    undisturbed : is_holding c.at ≡ true → Undisturbed last now b.more
    undisturbed is = elim (b.held is) [ inl kept ↦ kept | inr died ↦ never (sym spared ∙ died) ]

module _ {V T M : Type 0} (r : Rules V T) (s : Store V M) where
  -- what is known of contents hangs on the value and on the scratch file alone
  module _ (folder folder_now : Contents) (list list_now : List (EntrySeen V T)) (scratch : folder_now.scratch ≡ folder.scratch) (same : value_at r.meanings s list_now ≡ value_at r.meanings s list) where
    still_in_scratch : (plan : Plan V T) → IsInScratch r s folder list plan → IsInScratch r s folder_now list_now plan
    still_in_scratch plan it = record { due = due_on r s list list_now plan same it.due; scratch = scratch ∙ it.scratch }

    same_contents : (at : At V T) → KnowsContents r s at folder list → KnowsContents r s at folder_now list_now
    same_contents (Migrating ask value) it = same ∙ it
    same_contents (Finishing ask) it = record { value = it.value; held = same ∙ it.held }
    same_contents (Raising plan) it = due_on r s list list_now plan same it
    same_contents (Writing Creating plan) it = due_on r s list list_now plan same it
    same_contents (Writing Appending plan) it = still_in_scratch plan it
    same_contents (Writing SyncingScratch plan) it = still_in_scratch plan it
    same_contents (Writing Renaming plan) it = record { due = due_on r s list list_now plan same it.due; scratch = scratch ∙ it.scratch }
    same_contents (SyncingFolder (Kept edit)) it = rw same it
    same_contents other it = tt

  -- a call that owns nothing knows nothing of contents
  nothing_known : (at : At V T) (folder : Contents) (list : List (EntrySeen V T)) → is_holding at ≡ false → KnowsContents r s at folder list
  nothing_known (First ask) folder list is = tt
  nothing_known (Reading purpose ask) folder list is = tt
  nothing_known (Restarting node) folder list is = tt
  nothing_known Gone folder list is = tt
  nothing_known other folder list is = never (sym is)

  module _ (c : Call V T) (last now : World V T) (k : Knows r s last c) (b : Between c last now) (alive : died_since c.id.node c.since now.history ≡ false) where
    -- where the call owns the lock, its node did not die, and nothing of what it owns was disturbed
    pub owner_kept : is_holding c.at ≡ true → NoDeathOf c.id.node b.more × Undisturbed last now b.more
    owner_kept is =
        let h = k.holds is in
        let began : h.begun.0 ≤ length last.history = rw h.begun.1 at k.began in
        (spared c last now b h.begun.0 h.begun.1 began alive, undisturbed c last now b h.begun.0 h.begun.1 began alive is)

    still_holds : is_holding c.at ≡ true → Holds r s now c
    still_holds is =
        let h = k.holds is in
        let facts = owner_kept is in
        record {
          owns = facts.1.owner ∙ h.owns;
          ready = rw b.grew (ready c.id.node last.history b.more facts.1.outer facts.0 ∙ h.ready);
          begun = h.begun;
        }

    still_raised : is_raised c.at ≡ true → pending now.history ≡ Some c.id
    still_raised is =
        let facts = owner_kept (raised_holds c.at is) in
        rw b.grew (pending_stays c.id last.history b.more facts.1.outer b.others facts.0 (k.raised.0 is))

    still_known : (holding : Bool) → is_holding c.at ≡ holding → IsTrue now.told → KnowsContents r s c.at now.folder now.history
    still_known false is told = nothing_known c.at now.folder now.history is
    still_known true is told =
        let facts = owner_kept is in
        let told_then : IsTrue last.told = rw b.told at told in
        let same : value_at r.meanings s now.history ≡ value_at r.meanings s last.history = rw b.grew (value r.meanings.after s.base last.history b.more facts.1.outer) in
        same_contents last.folder now.folder last.history now.history (facts.1.scratch told_then) same c.at (k.contents told_then)

    -- a call whose node did not die since it began still knows what it knew
    pub between_keeps_knowledge : Knows r s now c
    between_keeps_knowledge =
        record {
          began = rw b.grew (still_began c.since last.history b.more k.began);
          numbers = rw b.grew (list_any-append (is_later c.id) last.history b.more ∙ rw (k.numbers, b.numbers) refl);
          entries = rw b.grew (same_entries c c.at last.history b.more b.others k.entries);
          plan = k.plan;
          last = rw b.grew (k.last ∙ sym (ends_in_raise-others c.id false last.history b.more b.others));
          raised = (still_raised, λ is. k.raised.1 (pending_was c.id last.history b.more b.others (rw b.grew at is)));
          holds = still_holds;
          contents = λ told. still_known (is_holding c.at) refl told;
        }

-- What turns publish, and what is found.
use Rattle.std.proofs.Common.{◌≡◌, ◌==◌, ℕ, Bool, true, false, Option, Some, None, refl, sym, ap, ◌∙◌, eq-eqb, if◌then◌else◌}
use Rattle.std.proofs.lemmas.Bool.{eqb-true}
use Rattle.store_traits.specs.declared.ids.CallId.{CallId}
use Rattle.store_traits.specs.declared.update_error.UpdateError.{UpdateError}
use Rattle.hist_journal.specs.declared.seen.BaseSeen.TheVariants.{Held}
use Rattle.hist_journal.specs.declared.seen.KindSeen.{KindSeen}
use Rattle.hist_journal.specs.declared.seen.KindSeen.TheVariants.{Edit}
use Rattle.hist_journal.specs.Folds.{edition_of}
use Rattle.shelf.specs.declared.store.Store.{Store}
use Rattle.shelf.specs.Rules.{Rules}
use Rattle.shelf.proofs.Bools.{never}
use Rattle.value_cache.specs.Cached.{Cached}
use Rattle.step_table.specs.Caching.{found, if_edit, published_by}
use Rattle.step_table.specs.Calls.{Ask, At, Failed, Gave, Read, Reading, Renaming, Reply, Serve, ServeUnlocked, Writing, is_gone}
use Rattle.step_table.specs.Effects.{Comes, Effect, Ends, Next, gave_by}
use Rattle.step_table.specs.Rows.{MainReads, Row, gives}
use Rattle.step_table.specs.Turn.{AllowedBy, Turn, dies_now, has_died_by}
use Rattle.step_table.specs.World.{Turned, World, begin}
use Rattle.step_table.specs.declared.progress.Progress.{Progress}
use Rattle.step_table.specs.declared.progress.Progress.TheVariants.{Moved, Blocked, Ended}
use Rattle.step_table.proofs.LockLemmas.{none_not_some, same_some}

module _ {V : Type 0} where
  found_by : (cached seen : Cached V) (version : ℕ) (same : Bool) → (cached.version == version) ≡ same → (if same then Some cached else None) ≡ Some seen
      → (Some cached ≡ Some seen) × (seen.version ≡ version)
  found_by cached seen version true is found = (found, rw (sym (same_some cached seen found)) (eqb-true cached.version version is))
  found_by cached seen version false is found = absurd (none_not_some seen found)

  -- what is found is what is kept, and of this version
  pub found_is_kept : (kept : Option (Cached V)) (version : ℕ) (seen : Cached V) → found kept version ≡ Some seen → (kept ≡ Some seen) × (seen.version ≡ version)
  found_is_kept None version seen is = absurd (none_not_some seen is)
  found_is_kept (Some cached) version seen is = found_by cached seen version (cached.version == version) refl is

  pub kept_is_found : (seen : Cached V) → found (Some seen) seen.version ≡ Some seen
  kept_is_found seen = rw (eq-eqb seen.version seen.version refl) refl

module _ {V T : Type 0} where
  pub failed_publishes_nothing : (at : At V T) (error : UpdateError) (w : World V T) → published_by at (Ended (Failed error)) w ≡ None
  failed_publishes_nothing (Writing Renaming plan) error w = refl
  failed_publishes_nothing (Reading Serve Read) error w = refl
  failed_publishes_nothing other error w = refl

  pub blocked_publishes_nothing : (at : At V T) (w : World V T) → published_by at Blocked w ≡ None
  blocked_publishes_nothing (Writing Renaming plan) w = refl
  blocked_publishes_nothing (Reading Serve Read) w = refl
  blocked_publishes_nothing other w = refl

  pub unlocked_publishes_nothing : (ask : Ask T) (gave : Progress (Reply V)) (w : World V T) → published_by (Reading ServeUnlocked ask) gave w ≡ None
  unlocked_publishes_nothing ask gave w = refl

  edit_is : (kind : KindSeen V T) (cached seen : Cached V) → if_edit kind cached ≡ Some seen → cached ≡ seen
  edit_is (Edit edit) cached seen is = same_some cached seen is
  edit_is other cached seen is = absurd (none_not_some seen is)

  abbrev is_giving : Next V T → Bool
  is_giving (Ends (Gave edition value)) = true
  is_giving other = false

  given_ends : (next : Next V T) (edition : ℕ) (value : V) → Ended (Gave edition value) ≡ gave_by next → Ends (Gave edition value) ≡ next
  given_ends (Ends reply) edition value is = let same : ◌≡◌ {A = Progress (Reply V)} (Ended (Gave edition value)) (Ended reply) = is in cc
  given_ends other edition value is = cc

  same_ends : (edition also : ℕ) (value new : V) → ◌≡◌ {A = Next V T} (Ends (Gave edition value)) (Ends (Gave also new)) → (edition ≡ also) × (value ≡ new)
  same_ends edition also value new is = (cc, cc)

module _ {V T M : Type 0} (r : Rules V T) (s : Store V M) where
  -- the value that is given is that of main, and version and history stay
  pub record GivesMain (old new : World V T) (call : CallId) (given : ℕ) (value : V) : Type 0 where
    pub main : MainReads r s old call (Held value)
    pub edition : given ≡ edition_of old.history
    pub history : new.history ≡ old.history
    pub version : new.version ≡ old.version

  module _ (edition : ℕ) (value : V) where
    row_gives : (t : Turned V T) {at : At V T} {e : Effect V T} → Row r s t.world t.call.id at e → Ends (Gave edition value) ≡ e.next → Comes t e (Ended (Gave edition value))
        → GivesMain t.world t.world_after t.call.id edition value
    row_gives t (gives {value = read} plain reads) is comes =
        let same = same_ends edition (edition_of t.world.history) value read is in
        record {
          main = rw same.1 reads;
          edition = same.0;
          history = ap (λ (w : World V T). w.history) comes.world;
          version = ap (λ (w : World V T). w.version) comes.world;
        }
    row_gives t other is comes = never (sym (ap is_giving is))

    gives_by : (gone died dies : Bool) (t : Turned V T) (e : Effect V T) → AllowedBy r s gone died dies t e → Ends (Gave edition value) ≡ e.next → Comes t e (Ended (Gave edition value))
        → GivesMain t.world t.world_after t.call.id edition value
    gives_by true died dies t e it is comes = absurd it
    gives_by false true dies t e it is comes = never (sym (ap is_giving (rw it.is at is)))
    gives_by false false true t e it is comes = never (sym (ap is_giving (rw it at is)))
    gives_by false false false t e it is comes = row_gives t it is comes

    pub turn_gives : (t : Turned V T) → Turn r s t (Ended (Gave edition value)) → GivesMain t.world t.world_after t.call.id edition value
    turn_gives t turn =
        gives_by (is_gone t.call.at) (has_died_by (begin t)) (dies_now (begin t)) (begin t) turn.effect turn.allowed (given_ends turn.effect.next edition value turn.comes.given) turn.comes

  -- what a turn publishes is of the version and the edition that it left
  module _ (t : Turned V T) (seen : Cached V) where
    abbrev IsOfNow : Type 0
    IsOfNow = (seen.version ≡ t.world_after.version) × (seen.edition ≡ edition_of t.world_after.history)

    publishes_by : (at : At V T) (gave : Progress (Reply V)) → Turn r s t gave → published_by at gave t.world_after ≡ Some seen → IsOfNow
    publishes_by (Writing Renaming plan) Moved turn is = rw (sym (edit_is plan.change _ seen is)) (refl, refl)
    publishes_by (Reading Serve Read) (Ended (Gave edition value)) turn is =
        let given = turn_gives edition value t turn in rw (sym (same_some _ seen is)) (refl, given.edition ∙ ap edition_of (sym given.history))
    publishes_by at gave turn is = absurd (none_not_some seen is)

    pub turn_publishes : (gave : Progress (Reply V)) → Turn r s t gave → published_by t.call.at gave t.world_after ≡ Some seen → IsOfNow
    turn_publishes gave turn is = publishes_by t.call.at gave turn is

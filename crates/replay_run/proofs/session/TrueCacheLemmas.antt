-- Caches stay true of the history that a shelf has.
use Rattle.std.proofs.Common.{◌≡◌, ◌∙◌, List, [], ◌∷◌, ◌++◌, All, map, IfSome, Option, append-nil, None, Some, refl, sym, ap, subst, slice_get, slice_set}
use Rattle.std.proofs.lemmas.List.Elements.{All-cons, All-map, All-nil}
use Rattle.std.proofs.lemmas.Option.{IfSome_then}
use Rattle.store_traits.specs.declared.ids.NodeId.{NodeId}
use Rattle.store_traits.specs.declared.codec.Codec as codec_trait
use Rattle.store_traits.specs.declared.transform.Transform as transform_trait
use Rattle.folder_disk.specs.declared.folder.Folder as folder_trait
use Rattle.prefs_proto.specs.declared.prefs_codec.PrefsCodec.{PrefsCodec}
use Rattle.shelf.specs.declared.shelf.Shelf.{Shelf}
use Rattle.shelf.specs.ShelfSeen.{shelf_seen}
use Rattle.prefs_text.specs.EntryText.{PrefEntry}
use Rattle.step_table.specs.Calls.{At, Reply}
use Rattle.step_table.specs.declared.progress.Progress.{Progress}
use Rattle.step_table.proofs.Applying.{all_added, entries_of, turn_adds}
use Rattle.node_core.specs.declared.origin.Origin.{Origin}
use Rattle.node_core.specs.Step.{StepsTo}
use Rattle.node_core.specs.Views.{turned}
use Rattle.value_cache.specs.declared.cache.Cache.{Cache}
use Rattle.value_cache.specs.Cached.{kept_seen}
use Rattle.value_cache.specs.Truth.{IsOfPrefix, IsValueOf}
use Rattle.value_cache.proofs.TruthLemmas.{IsOfPrefix-append, IsOfPrefix-now}
use Rattle.replay_run.specs.declared.prefs_parts.PrefsParts.{PrefsParts}
use Rattle.replay_run.specs.SessionView.{rules_in, store_in}
use Rattle.replay_run.specs.Settings.{Change, PrefCached, ScriptFolder, Value}
use Rattle.replay_run.specs.Steps.{emptied, kept_behind}
use Rattle.replay_run.specs.TrueCaches.{IsTrueCache, StaysTrue}
use Rattle.replay_run.proofs.keeping.KeptBehind.{kept_true}
use Rattle.replay_run.proofs.lists.SetViews.{all_found, all_set}
use Rattle.replay_run.proofs.session.SessionAsked.{all_seen}

-- two lists that begin alike
first_is : {X : Type 0} (x y : X) (xs ys : List X) → x ∷ xs ≡ y ∷ ys → x ≡ y
first_is x y xs ys is = cc

rest_is : {X : Type 0} (x y : X) (xs ys : List X) → x ∷ xs ≡ y ∷ ys → xs ≡ ys
rest_is x y xs ys is = cc

module _ {c : codec_trait.Ghosts PrefsCodec Value} {t : transform_trait.Ghosts Change Value} {f : folder_trait.Ghosts ScriptFolder} where
  -- caches that keep nothing are true
  pub none_kept : (shelf : Shelf (PrefsParts ScriptFolder) PrefsCodec Change ScriptFolder Value c t f) (caches : List (Cache Value)) (nodes : List NodeId) → map kept_seen caches ≡ map (λ node. None) nodes → All (IsTrueCache shelf) caches
  none_kept shelf [] nodes is = All-nil (IsTrueCache shelf)
  none_kept shelf (cache ∷ caches) [] is = absurd (cc)
  none_kept shelf (cache ∷ caches) (node ∷ nodes) is =
      let empty : kept_seen cache ≡ None = first_is (kept_seen cache) None (map kept_seen caches) (map (λ node. None) nodes) is in
      All-cons (IsTrueCache shelf) cache caches (rw empty tt) (none_kept shelf caches nodes (rest_is (kept_seen cache) None (map kept_seen caches) (map (λ node. None) nodes) is))

  -- where nothing happens
  pub stays_same : (shelf : Shelf (PrefsParts ScriptFolder) PrefsCodec Change ScriptFolder Value c t f) (cache : Cache Value) → StaysTrue shelf shelf cache cache
  stays_same shelf cache = record { more = []; grew = sym (append-nil (shelf_seen shelf).list); base = refl; stays = λ was. was }

  module _ (old new : Shelf (PrefsParts ScriptFolder) PrefsCodec Change ScriptFolder Value c t f) where
    -- a turn leaves the base, and adds to the history
    module _ {origin origin_after : Origin} {at at_after : At Value Change} {gave : Progress (Reply Value)} (steps : StepsTo c t f origin at (shelf_seen old) gave origin_after at_after (shelf_seen new)) where
      added : List PrefEntry
      added = entries_of origin.call (turn_adds (rules_in old) (store_in old) (turned f origin at (shelf_seen old) origin_after at_after (shelf_seen new)) gave steps.turn).kinds

      grew : (shelf_seen new).list ≡ (shelf_seen old).list ++ added
      unfolding added
      grew =
          let adds = turn_adds (rules_in old) (store_in old) (turned f origin at (shelf_seen old) origin_after at_after (shelf_seen new)) gave steps.turn in
          adds.added ∙ all_added origin.call adds.kinds (shelf_seen old).list

      same_base : (store_in new).base ≡ (store_in old).base
      same_base = ap (λ s. s.base) steps.store

      still_true : (kept : Option PrefCached) → IfSome kept (IsOfPrefix t.after (store_in old).base (shelf_seen old).list) → IfSome kept (IsOfPrefix t.after (store_in new).base (shelf_seen new).list)
      still_true kept was = IfSome_then kept was (λ one of. rw (same_base, grew) (IsOfPrefix-append t.after (store_in old).base (shelf_seen old).list added one of))

      -- a cache that is let alone stays true
      pub left_true : (cache : Cache Value) → StaysTrue old new cache cache
      left_true cache = record { more = added; grew = grew; base = same_base; stays = λ was. still_true (kept_seen cache) was }

      -- and one to which a turn publishes what is of the history by then
      pub publishes_true : (cache cache_after : Cache Value) (kept : Option PrefCached) → kept_seen cache_after ≡ kept_behind (kept_seen cache) kept → IfSome kept (IsValueOf t.after (store_in new).base (shelf_seen new).list) → StaysTrue old new cache cache_after
      publishes_true cache cache_after kept is current =
          record {
            more = added;
            grew = grew;
            base = same_base;
            stays = λ was.
                rw is
                (kept_true t.after (store_in new).base (shelf_seen new).list (kept_seen cache) kept (still_true (kept_seen cache) was)
                (IfSome_then kept current (λ one of. IsOfPrefix-now t.after (store_in new).base (shelf_seen new).list one of)));
          }

    module _ {cache cache_after : Cache Value} (it : StaysTrue old new cache cache_after) where
      -- a cache that was let alone
      other_stays : (other : Cache Value) → IsTrueCache old other → IsTrueCache new other
      other_stays other was = IfSome_then (kept_seen other) was (λ kept of. rw (it.base, it.grew) (IsOfPrefix-append t.after (store_in old).base (shelf_seen old).list it.more kept of))

      -- and so all of them, of which one is another now
      pub caches_stay : (caches : List (Cache Value)) (place : _) → slice_get caches place ≡ Some cache → All (IsTrueCache old) caches → All (IsTrueCache new) (slice_set caches place cache_after)
      caches_stay caches place found all =
          all_set (IsTrueCache new) caches place cache_after (it.stays (all_found (IsTrueCache old) caches place cache found all))
          (λ other one apart is. other_stays one (all_found (IsTrueCache old) caches other one is all))

  -- caches that keep what true ones keep, but for one that keeps nothing any more
  pub forgotten_true : (shelf : Shelf (PrefsParts ScriptFolder) PrefsCodec Change ScriptFolder Value c t f) (caches now : List (Cache Value)) (back : Option NodeId) → map kept_seen now ≡ emptied back (map kept_seen caches) → All (IsTrueCache shelf) caches → All (IsTrueCache shelf) now
  forgotten_true shelf caches now back is all =
      let IsTrue : Option PrefCached → Type 0 = λ kept. IfSome kept (IsOfPrefix t.after (shelf_seen shelf).store.base (shelf_seen shelf).list) in
      all_seen IsTrue kept_seen now (subst (λ list. All IsTrue list) (sym is) (by_back IsTrue tt back (All-map IsTrue kept_seen caches all)))
    where
      by_back : (P : Option PrefCached → Type 0) → P None → (back : Option NodeId) → All P (map kept_seen caches) → All P (emptied back (map kept_seen caches))
      by_back P none None all = all
      by_back P none (Some node) all = all_set P (map kept_seen caches) node.0 None none (λ other kept apart is. all_found P (map kept_seen caches) other kept is all)

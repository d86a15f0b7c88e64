-- Caches that keep what is of a quiet prefix of the history, and how they stay so.
use Rattle.std.specs.Prelude.{◌≡◌, List, ◌++◌, IfSome}
use Rattle.store_traits.specs.declared.codec.Codec as codec_trait
use Rattle.store_traits.specs.declared.transform.Transform as transform_trait
use Rattle.folder_disk.specs.declared.folder.Folder as folder_trait
use Rattle.prefs_proto.specs.declared.prefs_codec.PrefsCodec.{PrefsCodec}
use Rattle.prefs_text.specs.EntryText.{PrefEntry}
use Rattle.shelf.specs.declared.shelf.Shelf.{Shelf}
use Rattle.shelf.specs.ShelfSeen.{shelf_seen}
use Rattle.value_cache.specs.declared.cache.Cache.{Cache}
use Rattle.value_cache.specs.Cached.{kept_seen}
use Rattle.value_cache.specs.Truth.{IsOfPrefix}
use Rattle.replay_run.specs.declared.prefs_parts.PrefsParts.{PrefsParts}
use Rattle.replay_run.specs.Settings.{Change, ScriptFolder, Value}

module _ {c : codec_trait.Ghosts PrefsCodec Value} {t : transform_trait.Ghosts Change Value} {f : folder_trait.Ghosts ScriptFolder} where
  -- it keeps nothing, or what is of a quiet prefix of the shelf's history
  abbrev pub IsTrueCache : Shelf (PrefsParts ScriptFolder) PrefsCodec Change ScriptFolder Value c t f → Cache Value → Type 0
  IsTrueCache shelf cache = IfSome (kept_seen cache) (IsOfPrefix t.after (shelf_seen shelf).store.base (shelf_seen shelf).list)

  -- the history grew at its end, and a cache that was true of it still is
  pub record StaysTrue (old new : Shelf (PrefsParts ScriptFolder) PrefsCodec Change ScriptFolder Value c t f) (cache cache_after : Cache Value) : Type 0 where
    pub more : List PrefEntry
    pub grew : (shelf_seen new).list ≡ (shelf_seen old).list ++ more
    pub base : (shelf_seen new).store.base ≡ (shelf_seen old).store.base
    pub stays : IsTrueCache old cache → IsTrueCache new cache_after

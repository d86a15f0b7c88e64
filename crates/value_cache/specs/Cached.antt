-- What a cache keeps, and what a value that is published makes of it.
use Rattle.std.specs.Prelude.{ℕ, nat_lt, Option, Some, None, option_map, if◌then◌else◌}
use Rattle.value_cache.specs.declared.cache.Cache.{Cache}
use Rattle.value_cache.specs.declared.cached_value.CachedValue.{CachedValue}

-- a value, with the version and the edition of the history that it is of
pub record Cached (V : Type 0) : Type 0 where
  pub version : ℕ
  pub edition : ℕ
  pub value : V

module _ {V : Type 0} where
  abbrev pub cached_seen : CachedValue V → Cached V
  cached_seen kept = record { version = kept.version; edition = kept.edition; value = kept.value.value }

  abbrev pub kept_seen : Cache V → Option (Cached V)
  kept_seen cache = option_map cached_seen cache.kept

  -- what is kept once a value is published: the one of the greater version, and at equal ones the old one
  abbrev pub published : Option (Cached V) → Cached V → Option (Cached V)
  published None new = Some new
  published (Some old) new = Some (if nat_lt old.version new.version then new else old)

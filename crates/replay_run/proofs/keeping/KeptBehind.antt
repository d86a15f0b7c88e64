-- What a cache keeps behind a turn is of a prefix of the history, where what it kept and what is published are.
use Rattle.std.proofs.Common.{Option, Some, None, IfSome, List}
use Rattle.store_traits.specs.declared.applied.Applied.{Applied}
use Rattle.hist_journal.specs.declared.seen.BaseSeen.{BaseSeen}
use Rattle.prefs_text.specs.EntryText.{PrefEntry}
use Rattle.value_cache.specs.Truth.{IsOfPrefix}
use Rattle.value_cache.proofs.TruthLemmas.{IsOfPrefix-published}
use Rattle.replay_run.specs.Settings.{Change, PrefCached, Value}
use Rattle.replay_run.specs.Steps.{kept_behind}

module _ (after : Change → Value → Applied Value) (base : BaseSeen Value) (list : List PrefEntry) where
  pub kept_true : (kept new : Option PrefCached) → IfSome kept (IsOfPrefix after base list) → IfSome new (IsOfPrefix after base list) → IfSome (kept_behind kept new) (IsOfPrefix after base list)
  kept_true kept None was now = was
  kept_true kept (Some new) was now = IsOfPrefix-published after base list kept new was now

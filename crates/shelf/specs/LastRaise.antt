-- Whether a call told of a Raise last.
use Rattle.std.specs.Prelude.{Bool, List, [], ◌∷◌, if◌then◌else◌}
use Rattle.store_traits.specs.declared.ids.CallId.{CallId}
use Rattle.hist_journal.specs.declared.seen.EntrySeen.{EntrySeen}
use Rattle.hist_journal.specs.Kinds.{is_call, is_raise}

-- whether the last entry of this call, or what is said of none, is a Raise
unfoldable pub ends_in_raise : {V T : Type 0} → CallId → Bool → List (EntrySeen V T) → Bool
ends_in_raise call so_far [] = so_far
ends_in_raise call so_far (e ∷ es) = ends_in_raise call (if is_call call e.who then is_raise e.kind else so_far) es

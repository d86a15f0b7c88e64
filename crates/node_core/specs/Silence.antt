-- What a client told of behind a death.
use Rattle.std.specs.Prelude.{◌≡◌, ℕ, false, List}
use Rattle.std.specs.List.{list_any}
use Rattle.store_traits.specs.declared.ids.CallId.{CallId}
use Rattle.hist_journal.specs.declared.seen.EntrySeen.{EntrySeen}
use Rattle.hist_journal.specs.Kinds.{is_death_of}
use Rattle.shelf.specs.Meanwhile.{NoDeathOf}
use Rattle.shelf.specs.Places.{StandsAt, is_up_to}

-- no entry of a call of this client up to this one stands behind the last Death of its node
abbrev pub IsSilent : {V T : Type 0} → CallId → List (EntrySeen V T) → Type 0
IsSilent call list = (place : ℕ) (death : StandsAt (λ e. is_death_of call.node e.kind) place list) → NoDeathOf call.node death.behind → list_any (is_up_to call) death.behind ≡ false

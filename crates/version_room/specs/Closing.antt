-- What a clause says of the passes that a room is closed with.
use Rattle.std.specs.Prelude.{◌≡◌, ◌⊎◌, ℕ, ◌+◌, ◌<◌, ◌≤◌, List, [], ◌∷◌, map, Any}
use mathlib.Core.List.{IsPrefix}
use Rattle.hist_journal.specs.declared.listed.Listed.{Ghosts}
use Rattle.hist_journal.specs.Meaning.{Meaning, raises, of_clients}
use Rattle.version_room.specs.declared.pass.Pass.{Pass}
use Rattle.version_room.specs.declared.view.Known.{Known}
use Rattle.version_room.specs.Known.{HasClient, all_clients}
use Rattle.version_room.specs.Seats.{known}

-- one of these passes has each client number
abbrev pub HaveAllClients : {E H : Type 0} → Known E H → List (Known E H) → Type 0
HaveAllClients k others = (n : ℕ) → n < all_clients → HasClient k n ⊎ Any (λ other. HasClient other n) others

-- each has one client number, in order from n on
abbrev pub HaveClientsFrom : {E H : Type 0} → ℕ → List (Known E H) → Type 0
HaveClientsFrom n [] = Unit {0}
HaveClientsFrom n (k ∷ ks) = (k.low ≡ n) × (k.high ≡ n + 1) × HaveClientsFrom (n + 1) ks

abbrev pub all_known : {S D E H : Type 0} {G : Ghosts S D E H} → List (Pass S D E H G) → List (Known E H)
all_known passes = map (λ pass. known pass.seat) passes

-- what was known of the pass is true of the last state
pub record EndsWell {S D E H : Type 0} (m : Meaning S D E H) (x : S) (k : Known E H) : Type 0 where
  pub seen : IsPrefix k.seen (m.list x)
  pub last : k.last ≤ raises m (m.list x)
  pub mine : k.mine ≡ of_clients m k.low k.high (m.list x)

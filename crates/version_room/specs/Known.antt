-- What is known of one pass, and what each call makes of it.
use Rattle.std.specs.Prelude.{ℕ, ◌≡◌, ◌≢◌, ◌⊎◌, ◌+◌, ◌<◌, ◌≤◌, Bool, true, false, List, [], ◌++◌, length, drop, All, Option, Some, None, nat_le}
use Rattle.hist_journal.specs.Meaning.{Meaning, is_in}
use Rattle.version_room.specs.declared.view.Known.{Known}

-- how many client numbers there are
abbrev pub all_clients : ℕ
all_clients = 4294967296

-- of two lists the longer one
abbrev pub longer_if : {E : Type 0} → Bool → List E → List E → List E
longer_if true xs ys = ys
longer_if false xs ys = xs

abbrev pub longer : {E : Type 0} → List E → List E → List E
longer xs ys = longer_if (nat_le (length xs) (length ys)) xs ys

module _ {E H : Type 0} where
  -- the client number is one of the pass
  abbrev pub HasClient : Known E H → ℕ → Type 0
  HasClient k n = (k.low ≤ n) × (n < k.high)

  -- these are its client numbers
  abbrev pub HasClients : Known E H → ℕ → ℕ → Type 0
  HasClients k low high = (k.low ≡ low) × (k.high ≡ high)

  abbrev pub HasSomeClient : Known E H → Type 0
  HasSomeClient k = (k.low < k.high) × (k.high ≤ all_clients)

  -- it has seen this list, did nothing, and has the client numbers from low to below high
  abbrev pub begins_with : List E → ℕ → ℕ → Known E H
  begins_with seen low high = record { seen = seen; mine = []; held = None; loads = 0; last = 0; turns = 0; low = low; high = high }

  -- the first pass of a room
  abbrev pub first_known : Known E H
  first_known = begins_with [] 0 all_clients

  -- `new_pass` gives the new pass the least client number, and leaves the others
  abbrev pub with_the_least : Known E H → Known E H
  with_the_least k = begins_with k.seen k.low (k.low + 1)

  abbrev pub with_the_rest : Known E H → Known E H
  with_the_rest k = record k { low = k.low + 1 }

  -- after a load of this version outside a turn
  abbrev pub with_load : Known E H → ℕ → Known E H
  with_load k n = record k { loads = k.loads + 1; last = n }

  -- after a note of this list
  abbrev pub with_told : Known E H → List E → Known E H
  with_told k told = record k { seen = longer k.seen told }

module _ {S D E H : Type 0} (m : Meaning S D E H) where
  -- what was held the state x still holds, or it has lapsed
  abbrev pub StaysHeld : S → H → Type 0
  StaysHeld x h = (m.holding x ≡ Some h) ⊎ m.lapsed h (m.list x)

  -- the least client number may go to another pass
  pub record CanSpare (k : Known E H) : Type 0 where
    pub two : k.low + 1 < k.high
    pub unused : All (λ e. m.client e ≢ k.low) k.mine
    pub free : k.held ≡ None

  abbrev pub held_if : Bool → H → Option H
  held_if true h = Some h
  held_if false h = None

  -- the holding, where its client is one of the pass
  abbrev pub own_holding : Known E H → Option H → Option H
  own_holding k None = None
  own_holding k (Some h) = held_if (is_in k.low k.high (m.holder h)) h

  -- after a turn that found this list and left the state x
  abbrev pub with_turn : Known E H → List E → S → Known E H
  with_turn k list x =
      record k {
        seen = m.list x;
        mine = k.mine ++ drop (length list) (m.list x);
        held = own_holding k (m.holding x);
        turns = k.turns + 1;
      }

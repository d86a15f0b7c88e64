-- What a session's clients are asked for, and whether they have something to do.
use Rattle.std.proofs.Common.{◌≡◌, ◌∙◌, ◌≤◌, ◌<◌, ℕ, List, [], ◌∷◌, map, length, All, Some, option_map, slice_get, slice_set, vec_len, refl, sym, ap, subst, arith}
use Rattle.std.specs.List.{list_any}
use Rattle.std.proofs.lemmas.List.{length-map}
use Rattle.std.proofs.lemmas.List.Elements.{All-cons, All-head, All-map, All-nil, All-tail, All-weaker}
use Rattle.std.proofs.lemmas.Option.{slice_get-map}
use Rattle.replay_run.specs.declared.client.Client as own
use Rattle.replay_run.specs.declared.running_session.RunningSession.{RunningSession}
use Rattle.replay_run.specs.RunState.{is_busy}
use Rattle.replay_run.specs.SessionInvariant.{AskedAlike, AsksFew, SessionInvariant}
use Rattle.replay_run.specs.SessionView.{client_seen, state_in, store_in}
use Rattle.replay_run.proofs.lists.SetLemmas.{set_same}
use Rattle.replay_run.proofs.lists.SetViews.{map_set}

-- what holds of what is seen of each element
pub all_seen : {X Y : Type 0} (P : Y → Type 0) (f : X → Y) (xs : List X) → All P (map f xs) → All (λ x. P (f x)) xs
all_seen P f [] held = All-nil (λ x. P (f x))
all_seen P f (x ∷ xs) held = All-cons (λ x. P (f x)) x xs (All-head P (f x) (map f xs) held) (all_seen P f xs (All-tail P (f x) (map f xs) held))

all_by : {X Y : Type 0} (P : Y → Type 0) (f : X → Y) (xs ys : List X) → map f ys ≡ map f xs → All (λ x. P (f x)) xs → All (λ x. P (f x)) ys
all_by P f xs ys same all = all_seen P f ys (subst (λ list. All P list) (sym same) (All-map P f xs all))

pub few_on : (most : ℕ) (old new : RunningSession) → AskedAlike old new → AsksFew most old → AsksFew most new
few_on most old new same few = all_by (λ asked. vec_len asked ≤ most) (λ (x : own.Client). x.asked) old.clients.items new.clients.items same few

pub few_within : (few most : ℕ) (session : RunningSession) → few ≤ most → AsksFew few session → AsksFew most session
few_within few most session within all = All-weaker (λ (x : own.Client). vec_len x.asked ≤ few) (λ (x : own.Client). vec_len x.asked ≤ most) (λ x less. omega (arith, less, within)) session.clients.items all

pub count_on : (old new : RunningSession) → AskedAlike old new → vec_len new.clients ≡ vec_len old.clients
count_on old new same =
    let g = λ (x : own.Client). x.asked in
    new.clients.ok.0 ∙ (sym (length-map new.clients.items g) ∙ (ap (λ list. length list) same ∙ (length-map old.clients.items g ∙ sym old.clients.ok.0)))

-- one client is another now that is asked for the same
pub asked_alike : (clients : List own.Client) (place : ℕ) (client after : own.Client) → slice_get clients place ≡ Some client → after.asked ≡ client.asked → map (λ (x : own.Client). x.asked) (slice_set clients place after) ≡ map (λ (x : own.Client). x.asked) clients
asked_alike clients place client after found same =
    let g = λ (x : own.Client). x.asked in
    let there : slice_get (map g clients) place ≡ Some client.asked = slice_get-map g clients place ∙ ap (λ o. option_map g o) found in
    map_set g g clients place after (λ j y apart is. refl) ∙ (ap (λ e. slice_set (map g clients) place e) same ∙ set_same (map g clients) place client.asked there)

-- a session has gone on from this one: nobody was asked for anything
pub record GoneOn (old now : RunningSession) : Type 0 where
  pub keeps : SessionInvariant now
  pub store : store_in now.shelf ≡ store_in old.shelf
  pub asked : AskedAlike old now

pub place_on : (old now : RunningSession) (place : ℕ) → GoneOn old now → place < vec_len old.clients → place < vec_len now.clients
place_on old now place on within = subst (λ n. place < n) (sym (count_on old now on.asked)) within

any_seen : (clients : List own.Client) → list_any is_busy (map client_seen clients) ≡ list_any (λ client. is_busy (client_seen client)) clients
any_seen [] = refl
any_seen (x ∷ xs) = rw (any_seen xs) refl

-- whether anybody has something to do
pub busy_seen : (session : RunningSession) → list_any is_busy (state_in session).clients ≡ list_any (λ client. is_busy (client_seen client)) session.clients.items
busy_seen session = any_seen session.clients.items

-- The name of a caller, by whether it is a client or a node's actor.
use Rattle.std.proofs.Common.{◌≡◌, ◌∙◌, ◌<◌, ◌≤◌, ◌+◌, ◌-◌, ℕ, List, [], ◌++◌, length, get_or, length-append, sym, ap, arith}
use Rattle.std.specs.Prelude.{map, codes}
use Rattle.std.proofs.lemmas.List.{get_or_append_left, get_or-map, get_or_read}
use Rattle.std.proofs.Math.Seq.{get_or-append_right}
use Rattle.std.proofs.lemmas.List.{length-map}
use Rattle.store_traits.specs.declared.ids.ClientId.{ClientId}
use Rattle.prefs_text.specs.declared.names.Names.{Names}
use Rattle.prefs_text.specs.Callers.{actor_name, callers, caller_name, HasCaller}

pub caller_name-client : (names : Names) (client : ClientId) (name : List ℕ) → client.0 < length names.clients → name ≡ get_or names.clients client.0 name → caller_name names client ≡ name
unfolding caller_name
caller_name-client names client name within is =
    get_or_append_left names.clients (map actor_name names.nodes) [] client.0 within ∙ sym (get_or_read names.clients client.0 name within is [])

pub caller_name-actor : (names : Names) (client : ClientId) (node : List ℕ) → length names.clients ≤ client.0 → HasCaller names client
    → node ≡ get_or names.nodes (client.0 - length names.clients) node → caller_name names client ≡ codes "@" ++ node
unfolding caller_name
caller_name-actor names client node behind has is =
    let place : ℕ = client.0 - length names.clients in
    let count : length (callers names) ≡ length names.clients + length names.nodes =
    length-append names.clients (map actor_name names.nodes) ∙ ap (λ n. length names.clients + n) (length-map names.nodes actor_name) in
    let within : place < length names.nodes = omega arith in
    get_or-append_right names.clients (map actor_name names.nodes) client.0 [] behind
    ∙ get_or-map actor_name names.nodes place node [] within
    ∙ ap actor_name (sym is)

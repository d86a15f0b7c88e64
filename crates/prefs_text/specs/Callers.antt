-- Who makes calls, and what each is called.
use Rattle.std.specs.Prelude.{ℕ, ◌<◌, List, [], ◌++◌, codes, decimal, length, map, slice_index_or, All}
use Rattle.store_traits.specs.declared.ids.CallId.{CallId}
use Rattle.store_traits.specs.declared.ids.ClientId.{ClientId}
use Rattle.store_traits.specs.declared.ids.NodeId.{NodeId}
use Rattle.prefs_text.specs.declared.names.Names.{Names}
use Rattle.prefs_text.specs.Content.{IsInLine}

-- the node's name behind an `@`
abbrev pub actor_name : List ℕ → List ℕ
actor_name node = codes "@" ++ node

-- whoever makes calls, by number: the clients, and behind them each node's actor
abbrev pub callers : Names → List (List ℕ)
callers names = names.clients ++ map actor_name names.nodes

abbrev pub HasNode : Names → NodeId → Type 0
HasNode names node = node.0 < length names.nodes

abbrev pub HasCaller : Names → ClientId → Type 0
HasCaller names client = client.0 < length (callers names)

abbrev pub node_name : Names → NodeId → List ℕ
node_name names node = slice_index_or names.nodes node.0 []

unfoldable pub caller_name : Names → ClientId → List ℕ
caller_name names client = slice_index_or (callers names) client.0 []

-- a call is named by its caller and its number
abbrev pub call_text : Names → CallId → List ℕ
call_text names call = caller_name names call.client ++ codes " " ++ decimal call.number

-- no name breaks a line
pub record NamesAreInLine (names : Names) : Type 0 where
  pub nodes : All (All IsInLine) names.nodes
  pub clients : All (All IsInLine) names.clients

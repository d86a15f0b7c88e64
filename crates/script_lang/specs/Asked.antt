-- The calls that a script asks for, and who makes calls.
use Rattle.std.specs.Prelude.{◌+◌, ◌-◌, ◌==◌, ◌&&◌, nat_le, Bool, true, false, List, [], ◌∷◌, ◌++◌, length, count_by, slice_index_or, if◌then◌else◌}
use Rattle.store_traits.specs.declared.ids.CallId.{CallId}
use Rattle.store_traits.specs.declared.ids.ClientId.{ClientId}
use Rattle.store_traits.specs.declared.ids.NodeId.{NodeId}
use Rattle.script_lang.specs.declared.plan.run_line.Act.{Act}
use Rattle.script_lang.specs.declared.plan.run_line.Act.TheVariants.{Go}
use Rattle.script_lang.specs.declared.plan.run_line.RunLine.{RunLine}
use Rattle.script_lang.specs.declared.plan.script.Script.{Script}

-- a call that a line asks for
pub record Asked : Type 0 where
  pub call : CallId
  pub act : Act

-- the numbers behind those of the clients are the actors', in the order of their nodes
abbrev pub is_actor : Script → ClientId → Bool
is_actor script client = nat_le (length script.names.clients) client.0

-- the node of a client, or of an actor
abbrev pub home_of : Script → ClientId → NodeId
home_of script client = if is_actor script client then record { 0 = client.0 - length script.names.clients } else slice_index_or script.homes client.0 (record { 0 = 0 })

-- all lines of clients are calls, but those that say how many steps to do
abbrev pub is_call_act : Act → Bool
is_call_act (Go steps) = false
is_call_act other = true

abbrev pub is_call_line : RunLine → Bool
is_call_line line = is_call_act line.act

abbrev pub is_call_line_of : ClientId → RunLine → Bool
is_call_line_of client line = (client.0 == line.client.0) && is_call_line line

-- a client's calls are numbered from 1 over the whole script; these lines stand before
abbrev pub call_of : Script → List RunLine → RunLine → CallId
call_of script before line = record { node = home_of script line.client; client = line.client; number = count_by (is_call_line_of line.client) before + 1 }

-- the calls of these lines, in their order, where those lines stand before them
unfoldable pub asked_by : Script → List RunLine → List RunLine → List Asked
asked_by script before [] = []
asked_by script before (line ∷ lines) =
    let rest : List Asked = asked_by script (before ++ line ∷ []) lines in
    if is_call_line line then record { call = call_of script before line; act = line.act } ∷ rest else rest

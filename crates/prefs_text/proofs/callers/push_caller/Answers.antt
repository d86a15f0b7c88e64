-- The text that is pushed is the caller's name.
use Rattle.std.proofs.Common.{arith}
use Rattle.std.proofs.lemmas.Grind.{common_steps}
use Rattle.prefs_text.proofs.CallerNames.{caller_name-client, caller_name-actor}
use Rattle.prefs_text.proofs.callers.push_caller.Goals as goal

pub returns-then-place-clients : goal.returns-then-place-clients
returns-then-place-clients c =
    let name = caller_name-client c.args.names.now c.args.client c.index-clients-place.result (rw c.names-clients.ensures at c.if-place-clients.true) (rw c.names-clients.ensures at c.index-clients-place.is) in
    grind (arith, common_steps, name)

pub returns : goal.returns
returns c =
    let behind = rw c.names-clients.ensures at c.if-place-clients.false in
    let is = rw (c.names-clients.ensures, c.names-nodes.ensures) at c.index-nodes-place.is in
    let name = caller_name-actor c.args.names.now c.args.client c.index-nodes-place.result behind c.requires is in
    grind (arith, common_steps, name)

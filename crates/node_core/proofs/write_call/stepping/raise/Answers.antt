use Rattle.std.proofs.Common.{◌∙◌, ◌+◌, ap, sym}
use Rattle.shelf.proofs.GoingOn.{raise_fits}
use Rattle.step_table.specs.Rows.{raises}
use Rattle.node_core.proofs.EarlyLemmas.{early_goes_on}
use Rattle.node_core.proofs.EquippedLemmas.{equipped_raise}
use Rattle.node_core.proofs.RowLemmas.{goes_on, version_left}
use Rattle.node_core.proofs.write_call.stepping.raise.Goals as goal

pub raise-requires-clause-lawful : goal.raise-requires-clause-lawful
raise-requires-clause-lawful g c = λ told. (raise_fits _ _ _ _ (early_goes_on _ _ c.requires.ready.knows.entries c.requires.lives c.requires.ready.knows.numbers), tt)

pub returns-clause-steps : goal.returns-clause-steps
returns-clause-steps g c =
    let e = c.raise.ensures in
    goes_on g.P.C.Codec g.P.T.Transform g.P.F.Folder c.args.origin _ _ _ raises e.turn e.folder
    (equipped_raise g.P.C.Codec g.P.T.Transform g.P.F.Folder c.args.origin.call _ _ _ e.turn e.folder c.requires.ready.equipped)

pub returns-clause-number : goal.returns-clause-number
returns-clause-number g c = c.raise.ensures.number ∙ ap (λ n. n + 1) c.requires.number ∙ sym (version_left c.raise.ensures.turn)

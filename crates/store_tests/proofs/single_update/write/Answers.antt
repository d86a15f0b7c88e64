use Rattle.std.proofs.Common.{ap, ◌∙◌, ◌++◌, ◌∷◌, []}
use Rattle.hist_journal.specs.declared.seen.KindSeen.TheVariants.{Raise}
use Rattle.store_tests.proofs.UpdateLemmas.{makes_later, raise_initialised}
use Rattle.store_tests.proofs.single_update.write.Goals as goal

pub raise-requires-clause-lawful : goal.raise-requires-clause-lawful
raise-requires-clause-lawful g c = λ told. raise_initialised _ _ _ _ (ap (λ x. x.list) c.make_plan.ensures.same ∙ c.requires.holds.list_is)

pub store-requires-clause-changes : goal.store-requires-clause-changes
store-requires-clause-changes g c =
    λ told.
    let planned = c.make_plan.ensures.same in
    let raised = c.raise.ensures.turn in
    let filled = c.in-Some.ensures.same in
    makes_later _ _ g.P.C.Codec.encoded g.P.C.Codec.reads g.P.C.Codec.default_of g.P.C.Codec.is_value _ _ _ _ _ _ c.args.call c.args.edit c.args.value.now _ _
    (ap (λ x. x.codec) filled ∙ (raised.codec ∙ ap (λ x. x.codec) planned))
    (ap (λ x. x.store) filled ∙ (raised.store ∙ ap (λ x. x.store) planned))
    (ap (λ x. x.list) filled ∙ (raised.list ∙ ap (λ xs. xs ++ record { who = c.args.call; kind = Raise } ∷ []) (ap (λ x. x.list) planned)))
    c.in-Some.ensures.plan
    (c.requires.changes told)
    c.in-Plan.ensures.plan

-- Tests of what the lines of a session ask for.
use Rattle.std.proofs.Common.{◌≡◌, List, Contains, Option, Some, None, refl, subst, sym, ap}
use Rattle.std.specs.Option.{MatchOption}
use Rattle.store_traits.specs.declared.ids.CallId.{CallId}
use Rattle.prefs_edit.specs.declared.edit_step.EditStep.{EditStep}
use Rattle.shelf.specs.Decided.{Decided}
use Rattle.shelf.proofs.ListTests.{Found, found}
use Rattle.shelf.proofs.Tests.{both, like, none, one_call}
use Rattle.script_lang.specs.declared.plan.run_line.Act.{Act}
use Rattle.script_lang.specs.declared.plan.run_line.Act.TheVariants as act
use Rattle.script_lang.specs.Asked.{Asked}
use Rattle.script_lang.specs.Chronicle.{Chapter}
use Rattle.script_lang.specs.GoodAnswers.{IsAsked}

module _ (c : Chapter) (call : CallId) where
  module _ (Fits : Act → Type 0) where
    abbrev pub IsLine : Asked → Type 0
    IsLine line = (call ≡ line.call) × Fits line.act

    pub asked_so : Found IsLine c.asked → IsAsked c call Fits
    asked_so it =
        let line : Asked = it.item in
        let same : line ≡ record { call = call; act = line.act } = ap (λ (own : CallId). let asked : Asked = record { call = own; act = line.act } in asked) (sym it.holds.0) in
        record { act = line.act; asked = subst (Contains c.asked) same it.among; fits = it.holds.1 }

    -- a line asks for this call, and its act fits
    abbrev pub asked : ((a : Act) → Decided (Fits a)) → Decided (IsAsked c call Fits)
    asked one =
        like
        asked_so
        (λ it. record { item = record { call = call; act = it.act }; among = it.asked; holds = (refl, it.fits) })
        (found IsLine (λ line. both (one_call call line.call) (one line.act)) c.asked)

  module _ (Fits : List EditStep → Type 0) where
    abbrev pub OfUpdate : Act → Type 0
    OfUpdate (act.Update edit) = Fits edit
    OfUpdate other = ⊥

    abbrev pub OfPost : Act → Type 0
    OfPost (act.Post edit) = Fits edit
    OfPost other = ⊥

    -- a line asks for an update by this call, whose edit fits
    pub record IsUpdateAsked : Type 0 where
      pub edit : List EditStep
      pub asked : Contains c.asked (record { call = call; act = act.Update edit })
      pub fits : Fits edit

    -- or for a post
    pub record IsPostAsked : Type 0 where
      pub edit : List EditStep
      pub asked : Contains c.asked (record { call = call; act = act.Post edit })
      pub fits : Fits edit

    pub update_so : (a : Act) → Contains c.asked (record { call = call; act = a }) → OfUpdate a → IsUpdateAsked
    update_so (act.Update edit) among it = record { edit = edit; asked = among; fits = it }
    update_so other among it = absurd it

    pub post_so : (a : Act) → Contains c.asked (record { call = call; act = a }) → OfPost a → IsPostAsked
    post_so (act.Post edit) among it = record { edit = edit; asked = among; fits = it }
    post_so other among it = absurd it

    module _ (one : (edit : List EditStep) → Decided (Fits edit)) where
      abbrev pub by_update : (a : Act) → Decided (OfUpdate a)
      by_update (act.Update edit) = one edit
      by_update other = none (λ it. it)

      abbrev pub by_post : (a : Act) → Decided (OfPost a)
      by_post (act.Post edit) = one edit
      by_post other = none (λ it. it)

      abbrev pub update_asked : Decided IsUpdateAsked
      update_asked = like (λ it. update_so it.act it.asked it.fits) (λ it. record { act = act.Update it.edit; asked = it.asked; fits = it.fits }) (asked OfUpdate by_update)

      abbrev pub post_asked : Decided IsPostAsked
      post_asked = like (λ it. post_so it.act it.asked it.fits) (λ it. record { act = act.Post it.edit; asked = it.asked; fits = it.fits }) (asked OfPost by_post)

-- the call that is answered carries an edit that fits: by its own line, or by that of its poster
pub record Carried (c : Chapter) (call : CallId) (poster : Option CallId) (Fits : List EditStep → Type 0) : Type 0 where
  pub edit : List EditStep
  pub carried : MatchOption poster (Contains c.asked (record { call = call; act = act.Update edit })) (λ by. Contains c.asked (record { call = by; act = act.Post edit }))
  pub fits : Fits edit

abbrev pub carried : (c : Chapter) (call : CallId) (poster : Option CallId) (Fits : List EditStep → Type 0) → ((edit : List EditStep) → Decided (Fits edit)) → Decided (Carried c call poster Fits)
carried c call None Fits one = like (λ it. record { edit = it.edit; carried = it.asked; fits = it.fits }) (λ it. record { edit = it.edit; asked = it.carried; fits = it.fits }) (update_asked c call Fits one)
carried c call (Some poster) Fits one =
    like (λ it. record { edit = it.edit; carried = it.asked; fits = it.fits }) (λ it. record { edit = it.edit; asked = it.carried; fits = it.fits }) (post_asked c poster Fits one)

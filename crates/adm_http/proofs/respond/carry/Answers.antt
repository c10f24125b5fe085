use Rattle.std.proofs.Common.{◌<◌, length, ⊎_elim, refl, ◌∙◌, arith}
use Rattle.adm_http.proofs.ResponseLemmas.{ran, was_short, front_is}
use Rattle.adm_http.specs.Texts.{bare, not_allowed}
use Rattle.adm_http.specs.Responses.{of_answer, of_shown}
use Rattle.adm_http.proofs.respond.carry.Goals as goal

pub returns-in-Reject : goal.returns-in-Reject
returns-in-Reject g c = rw c.in-Reject.is (bare c.in-Reject.status, (refl, refl), c.bare.ensures)

pub returns-in-NotAllowed : goal.returns-in-NotAllowed
returns-in-NotAllowed g c = rw c.in-NotAllowed.is (not_allowed c.in-NotAllowed.verb, (refl, refl), c.bare-in-NotAllowed.ensures)

pub returns-in-Show : goal.returns-in-Show
returns-in-Show g c =
    rw c.in-Show.is (
      of_shown c.in-Show.resource c.show-shown.result,
      (c.show-shown.result, c.show-shown.ensures, refl, refl),
      c.shown_response.ensures,
    )

pub returns-in-Some : goal.returns-in-Some
returns-in-Some g c =
    let found = c.in-Some.ensures.lookup in
    rw c.in-Run.is (
      of_answer c.run.result,
      ran g.A.RequestHandler.runs g.A.RequestHandler.shows c.in-Run.purpose _ _ c.args.rest.now c.in-Some.body.now c.in-Run.length c.run.result found.0.1
          (found.0.2 ∙ front_is c.args.rest.now c.in-Run.length) c.run.ensures,
      c.answer_response.ensures,
    )

pub returns-in-None : goal.returns-in-None
returns-in-None g c =
    let missing = c.in-None.ensures.lookup in
    let short : length c.args.rest.now < c.in-Run.length = ⊎_elim (λ h. absurd (omega (arith, h))) (λ h. h) missing.0 in
    rw c.in-Run.is (bare 400, was_short g.A.RequestHandler.runs g.A.RequestHandler.shows c.in-Run.purpose _ c.args.rest.now c.in-Run.length short, c.bare-in-None.ensures)

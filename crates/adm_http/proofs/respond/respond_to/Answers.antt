use Rattle.std.proofs.Common.{refl, ap}
use Rattle.adm_http.specs.Texts.{bare, response_bytes}
use Rattle.adm_http.specs.declared.heads.Judgement.TheVariants.{Whole, Malformed, Unfinished}
use Rattle.adm_http.proofs.ResponseLemmas.{responded}
use Rattle.adm_http.proofs.respond.respond_to.Goals as goal

pub returns-in-Whole : goal.returns-in-Whole
returns-in-Whole g c =
    let carried = rw c.after.ensures at c.carry.ensures in (
      response_bytes carried.0,
      responded g.A.RequestHandler.runs g.A.RequestHandler.shows _ _ _ carried.0 c.if-is_empty.ensures
          (Whole c.in-Whole.len c.in-Whole.verdict, (rw c.in-Whole.is at c.requires.judged), carried.1),
      carried.2,
    )

pub returns-in-Malformed : goal.returns-in-Malformed
returns-in-Malformed g c = (
  response_bytes (bare 400),
  responded g.A.RequestHandler.runs g.A.RequestHandler.shows _ _ _ (bare 400) c.if-is_empty.ensures (Malformed, (rw c.in-Malformed.is at c.requires.judged), (refl, refl)),
  c.bare.ensures,
)

pub returns-in-Unfinished : goal.returns-in-Unfinished
returns-in-Unfinished g c =
    let status = c.unfinished.result in (
      response_bytes (bare status),
      responded g.A.RequestHandler.runs g.A.RequestHandler.shows _ _ _ (bare status) c.if-is_empty.ensures
          (Unfinished, (rw c.in-Unfinished.is at c.requires.judged), (ap bare c.unfinished.ensures, refl)),
      c.bare-in-Unfinished.ensures,
    )

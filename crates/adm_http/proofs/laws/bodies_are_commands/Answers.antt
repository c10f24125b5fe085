use Rattle.sqlite.specs.Held.{state}
use Rattle.adm_http.proofs.BodyLemmas.{answers_bodies}
use Rattle.adm_http.proofs.laws.bodies_are_commands.Goals as goal

pub returns : goal.returns
returns g c = answers_bodies (state g.S.Store)

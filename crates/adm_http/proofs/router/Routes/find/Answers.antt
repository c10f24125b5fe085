use Rattle.std.proofs.Common.{ap, ◌∙◌, inl, inr, arith}
use Rattle.matchit.specs.Params.{walk}
use Rattle.adm_http.proofs.RouteLemmas.{none_found}
use Rattle.adm_http.proofs.RouteParts.{found_part, Gave}
use Rattle.adm_http.proofs.router.Routes.find.Goals as goal
use Rattle.adm_http.proofs.router.Routes.find.Goals.{in-Some, in-None}

pub returns-in_default : goal.returns-in_default
returns-in_default c =
    none_found c.args.target.now c.args.self.now.router (λ i. omega (arith, c.type_inv.target i)) c.args.self.now.all c.in_default.ensures.missing

pub returns : goal.returns
returns c =
    let params = c.in-Ok.found.params in
    let walked = c.iter.ensures.value ∙ ap (λ p. walk params.pattern.now params.text.now p params.names.now 0 0) c.in-Ok.ensures.path in
    let gave : Gave c.iter.result c.match-next.part.now =
    elim c.match-next.branch [
      | in-Some w ↦ let g = w.in-Some.ensures.steps in inr (g.0, c.next.new.self, g.1, λ u. ap (λ p. p.now) w.part-is ∙ g.3 u)
      | in-None w ↦ inl (w.in-None.ensures.steps, ap (λ p. p.now) w.part-is)
    ] in
    found_part c.args.target.now c.args.self.now.router _ c.iter.result c.match-next.part.now c.utf8.target
    (λ i. omega (arith, c.type_inv.target i)) c.args.self.now.all c.in-Ok.ensures.found walked gave

use Rattle.std.proofs.Common.{◌≡◌, ◌∙◌, [], ◌∷◌, length, sym, ap}
use Rattle.std.proofs.lemmas.Bool.{eqb-true}
use Rattle.std.proofs.lemmas.List.{nil_from_length}
use Rattle.adm_store.proofs.schools.only.Goals as goal

pub returns-in-Some : goal.returns-in-Some
returns-in-Some g c =
    let others : c.in-Some.others.now ≡ [] = nil_from_length c.in-Some.others.now (eqb-true (length c.in-Some.others.now) 0 (sym c.is_empty.ensures ∙ c.if-is_empty.true)) in
    c.in-Some.ensures.cases.0 ∙ ap (λ more. c.in-Some.item.now ∷ more) others

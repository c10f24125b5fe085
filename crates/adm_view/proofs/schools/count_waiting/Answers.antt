use Rattle.std.proofs.Common.{◌∙◌, ap, sym, length}
use Rattle.std.specs.Option.{option_copied}
use Rattle.std.proofs.lemmas.Option.{same_Some}
use Rattle.adm_view.proofs.Positions.{as_many}
use Rattle.adm_view.proofs.schools.count_waiting.Goals as goal

pub returns-in-Some : goal.returns-in-Some
returns-in-Some c =
    let found = c.requires in
    let same = same_Some c.in-Some.ranks.now found.0 (sym (ap option_copied c.in-Some.is) ∙ c.get.ensures.value ∙ found.1) in
    ap length (c.as_slice.ensures.value ∙ ap (λ v. v.items) same) ∙ as_many c.args.register.now c.args.school.now found.0.items found.2

use Rattle.std.proofs.Common.{◌∙◌, List, ◌++◌, ap, sym}
use Rattle.std.specs.Option.{option_to_list}
use Rattle.adm_match.specs.declared.problem.Wish.{Wish}
use Rattle.adm_match.specs.Relisting.{wishes_among}
use Rattle.adm_match.proofs.WhatIfs.{wishes_append}
use Rattle.adm_match.proofs.relisting.new_list.Goals as goal

pub returns : goal.returns
returns c =
    c.in_ok-add_own.ensures
    ∙ (ap (λ (x : List Wish). x ++ wishes_among c.args.list.now (option_to_list c.args.tenant)) (c.in_ok-add_wishes.ensures
    ∙ ap (λ (x : List Wish). x ++ wishes_among c.args.list.now c.args.schools.now) c.new-wishes.ensures.items)
    ∙ sym (wishes_append c.args.list.now c.args.schools.now (option_to_list c.args.tenant)))

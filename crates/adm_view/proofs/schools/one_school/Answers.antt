use Rattle.std.proofs.Common.{inl, refl, [], ◌∷◌}
use Rattle.adm_lists.proofs.Members.{All_in}
use Rattle.adm_view.specs.Waits.{HasRanksAt}
use Rattle.adm_view.proofs.schools.one_school.Goals as goal

pub school-requires-clause-waits : goal.school-requires-clause-waits
school-requires-clause-waits c =
    All_in (HasRanksAt c.args.register.now c.in_ok-waits.waits) (c.args.one.now.code ∷ []) c.args.one.now.code c.in_ok-waits.ensures (inl refl) c.args.one.now c.requires

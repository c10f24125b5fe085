use Rattle.std.proofs.Common.{◌∙◌, ap, [], ◌∷◌}
use Rattle.std.specs.List.{filter_map}
use Rattle.std.specs.FinMap.{values}
use Rattle.std.proofs.lemmas.Result.{MatchResult-weaker}
use Rattle.adm_register.specs.Waits.{waiting_child}
use Rattle.adm_register.proofs.AmongListing.{found_among, one_of_itself}
use Rattle.adm_register.proofs.tables.Tables.waiting_at.Goals as goal

pub returns : goal.returns
returns c =
    let s = c.args.self.now in
    let school = c.args.school in
    let among = ap (filter_map (waiting_child s school)) (c.deref.ensures.value ∙ c.in_ok-applications.ensures) ∙ found_among s (school ∷ []) school (one_of_itself school) (values s.applications) in
    MatchResult-weaker c.waiting_of.result c.waiting_of.ensures (λ found of_those. of_those ∙ among) (λ e _. tt)

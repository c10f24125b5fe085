use Rattle.std.proofs.Common.{◌∙◌, ap, sym, map}
use Rattle.std.specs.List.{list_all}
use Rattle.std.specs.Map.Iter.{deref}
use Rattle.std.proofs.lemmas.Map.Iter.{rest_more}
use Rattle.adm_register.specs.Tallies.{has_school_in_range, with_application, with_applications}
use Rattle.adm_register.proofs.TallyLemmas.{in_range_kept}
use Rattle.adm_register.proofs.tables.Tables.count_piece.Goals as goal

pub loop-application-preserved : goal.loop-application-preserved
loop-application-preserved c =
    let s = c.args.self.now in
    let tallies = c.loop-application.tallies in
    let next = c.in-Some.application in
    let begins = rest_more deref c.loop-application.application-iterator c.next.new.self c.next.result next c.in-Some.is c.next.ensures.steps in
    let counted = c.count.ensures ∙ ap (λ application. map (with_application s application) tallies) c.as_ref.ensures in
    record {
      counted = ap (λ ts. with_applications s ts c.next.new.self) counted ∙ ap (with_applications s tallies) (sym begins) ∙ c.loop-application.invariant.counted;
      in_range = ap (list_all has_school_in_range) counted ∙ in_range_kept s next.now tallies ∙ c.loop-application.invariant.in_range;
    }

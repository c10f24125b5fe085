use Rattle.std.proofs.Common.{◌∙◌, sym}
use Rattle.adm_types.specs.Seasons.{national_day_of}
use Rattle.adm_types.proofs.WorkingDays.{has_working_day-reaches, not_before, reached, one_offer_day}
use Rattle.adm_types.proofs.seasons.Season.reaches_offer_day.Goals as goal

pub returns-clause-value : goal.returns-clause-value
returns-clause-value c =
    let season = c.args.self.now in
    let first = national_day_of season.phase season.year in
    let offer = c.offer_day.ensures in
    c.le.ensures ∙ not_before c.offer_day.result c.args.day first offer.not_before
    ∙ sym (has_working_day-reaches season.holidays first c.offer_day.result offer.not_before offer.working offer.first _)

pub returns-clause-offer : goal.returns-clause-offer
returns-clause-offer c = λ offer is. rw (one_offer_day c.args.self.now offer c.offer_day.result is c.offer_day.ensures) (c.le.ensures ∙ reached c.offer_day.result c.args.day)

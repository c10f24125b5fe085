use Rattle.std.proofs.Common.{◌∙◌, List, sym, ap}
use Rattle.adm_match.specs.declared.progress.Progress.{Progress}
use Rattle.adm_match.specs.Stability.{Allotment, school_of}
use Rattle.adm_match.specs.Turns.{found_in}
use Rattle.adm_match.proofs.Offered.{school_given}
use Rattle.adm_match.proofs.allotment.Offers.of.Goals as goal

pub returns : goal.returns
returns c =
    c.found_in.ensures ∙ (ap (λ (rows : List Progress). found_in rows c.args.child) c.deref.ensures.value
    ∙ (sym (school_given c.self.inside.rows.items c.self.inside.proposals c.args.child) ∙ ap (λ (a : Allotment). school_of a c.args.child) c.self.view_is))

use Rattle.std.proofs.Common.{◌≡◌, ◌∙◌, ap, length, bytes_eq, arith}
use Rattle.std.specs.Prelude.{unwrap_or}
use Rattle.adm_match.proofs.RanksAndBlocks.{unwrap_or-position}
use Rattle.adm_match.specs.declared.problem.Wish.{Wish}
use Rattle.adm_match.proofs.problem.Entrant.preference_rank.Goals as goal

pub returns : goal.returns
returns c =
    let list = c.args.self.now.list in
    let long : c.len.result ≡ length list =
    omega (arith, c.len.ensures, c.self.inside.list.ok.0, ap (λ e. length e.list) c.self.view_is) in
    (c.unwrap_or.ensures ∙ (λ i. unwrap_or (c.position.ensures i) (long i)))
    ∙ unwrap_or-position (λ (wish : Wish). bytes_eq wish.school c.args.school) list

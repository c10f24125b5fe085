use Rattle.std.proofs.Common.{◌∙◌, ap, sym}
use Rattle.std.specs.List.{list_all}
use Rattle.adm_register.proofs.PieceRows.{list_all-pieces}
use Rattle.adm_register.proofs.checks.all_fit.Goals as goal

pub returns-clause-tested : goal.returns-clause-tested
returns-clause-tested g c = c.all_pieces_fit.ensures ∙ sym (list_all-pieces (λ e. g.V.RowCheck.fits c.args.tables.now e.0 e.1) c.pieces.result.now)
    ∙ ap (list_all (λ e. g.V.RowCheck.fits c.args.tables.now e.0 e.1)) c.pieces.ensures.rows

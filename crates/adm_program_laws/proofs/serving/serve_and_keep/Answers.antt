use Rattle.adm_program_laws.proofs.serving.serve_and_keep.Goals as goal

pub returns : goal.returns
returns g c = record { status = c.serve_on.ensures.status; kept = c.served_is_kept.ensures c.args.count _ _ c.serve_on.ensures.serves }

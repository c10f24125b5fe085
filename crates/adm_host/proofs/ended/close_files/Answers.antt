use Rattle.adm_host.proofs.Closing.{closes}
use Rattle.adm_host.proofs.ended.close_files.Goals as goal

pub returns : goal.returns
returns g c = closes c.args.conn c.close_files.result _ c.close_files.ensures.copied c.close_files.ensures.err

use Rattle.std.proofs.Common.{ap, Err}
use Rattle.adm_files.proofs.opening.open_at.Goals as goal

pub returns-in-Ok-clause-ok : goal.returns-in-Ok-clause-ok
returns-in-Ok-clause-ok g c =
    record {
      found = c.in_ok-conn.conn;
      is_found = c.in_ok-conn.ensures.found;
      alive = c.in-Ok.ensures.opened.0;
      leaves = c.in-Ok.ensures.opened.1;
      kept = c.in-Ok.ensures.kept;
    }

pub returns-in-Err-clause-ok : goal.returns-in-Err-clause-ok
returns-in-Err-clause-ok g c =
    record {
      found = c.in_ok-conn.conn;
      is_found = c.in_ok-conn.ensures.found;
      cause = c.in-Err.fault;
      reported = ap Err c.from.ensures;
      left = c.in-Err.conn;
      none = c.in-Err.ensures.bad;
      first = c.in-Err.ensures.first;
      unlimited = c.in_ok-conn.ensures.unlimited;
      disk = c.in-Err.ensures.disk;
      kept = c.in-Err.ensures.left;
      closes = c.close_files.ensures;
    }

use Rattle.std.proofs.Common.{◌≡◌, Result, refl, ap, Err}
use Rattle.adm_store.specs.declared.fault.CreateFault.{CreateFault}
use Rattle.adm_host.proofs.creating.create_register.Goals as goal

same_Err : (x y : CreateFault) (r : Result (Unit {0}) CreateFault) → r ≡ Err x → r ≡ Err y → x ≡ y
same_Err x y r one other = cc

pub returns-in-Ok : goal.returns-in-Ok
returns-in-Ok g c =
    record {
      left = c.create.new.conn;
      made = (refl, c.in-Ok.ensures.unused, c.in-Ok.ensures.ok);
      clean = c.create.ensures.clean;
      closes = c.close_files.ensures;
    }

pub returns-in-Err : goal.returns-in-Err
returns-in-Err g c =
    record {
      left = c.create.new.conn;
      made = (c.in-Err.fault, c.from.ensures, c.in-Err.ensures.err, λ e. c.in-Err.ensures.in_use (ap Err e), λ used. same_Err _ _ (Err c.in-Err.fault) refl (c.in-Err.ensures.taken used));
      clean = c.create.ensures.clean;
      closes = c.close_files-in-Err.ensures;
    }

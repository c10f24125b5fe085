use Rattle.std.proofs.Common.{Result, Err, refl, sym, subst}
use Rattle.adm_wire.specs.Streams.{Stream}
use Rattle.adm_files.specs.Imports.{ImportsAs}
use Rattle.adm_host.specs.declared.exit.Exit.{Exit}
use Rattle.adm_host.specs.declared.fault.Fault.{Fault}
use Rattle.adm_host.specs.declared.fault.Fault.TheVariants.{Row}
use Rattle.adm_files.proofs.Importing.{imports_as}
use Rattle.adm_files.proofs.imports.import_rows.Goals as goal

pub returns-in-Ok : goal.returns-in-Ok
returns-in-Ok g c =
    let file : Stream = record { old = g.I.Input.remaining c.args.rows.now; new = g.I.Input.remaining c.read_rows.new.reader; has_failed = g.I.Input.has_failed c.read_rows.new.reader } in
    let output : Stream = record { old = g.O.Output.contents c.args.output.now; new = g.O.Output.contents c.handle_rows-exit.new.output; has_failed = g.O.Output.has_failed c.handle_rows-exit.new.output } in
    let ends = imports_as c.args.desk c.handle_rows-exit.new.desk file output c.in-Ok.rows.items c.handle_rows-exit.result c.in-Ok.ensures.rows c.handle_rows-exit.ensures in
    record {
      after = c.handle_rows-exit.new.desk;
      ends = subst (λ (e : Result Exit Fault). ImportsAs c.args.desk c.handle_rows-exit.new.desk file output e) (sym c.close.ensures.exit) ends;
      closes = c.close.ensures.closes;
    }

pub returns-in-Err : goal.returns-in-Err
returns-in-Err g c =
    let file : Stream = record { old = g.I.Input.remaining c.args.rows.now; new = g.I.Input.remaining c.read_rows.new.reader; has_failed = g.I.Input.has_failed c.read_rows.new.reader } in
    let output : Stream = record { old = g.O.Output.contents c.args.output.now; new = g.O.Output.contents c.args.output.now; has_failed = g.O.Output.has_failed c.args.output.now } in
    let ends : ImportsAs c.args.desk c.args.desk file output (Err (Row c.in-Err.fault)) =
    ((c.in-Err.ensures.rows, λ r. (c.in-Err.ensures.read r, c.in-Err.ensures.row r)), refl, refl) in
    record {
      after = c.args.desk;
      ends = subst (λ (e : Result Exit Fault). ImportsAs c.args.desk c.args.desk file output e) (sym c.close-in-Err.ensures.exit) ends;
      closes = c.close-in-Err.ensures.closes;
    }

use Rattle.std.proofs.Common.{ℕ, List, subst}
use Rattle.adm_wire.specs.Streams.{Stream}
use Rattle.adm_host.specs.Texts.{Puts}
use Rattle.adm_program.proofs.serving.put_serving.Goals as goal

pub returns-in-Ok : goal.returns-in-Ok
returns-in-Ok g c =
    let output : Stream = record { old = g.O.Output.contents c.args.output.now; new = g.O.Output.contents c.put.new.output; has_failed = g.O.Output.has_failed c.put.new.output } in
    let given = subst (λ (text : List ℕ). Puts text output c.put.result) c.as_str.ensures.value c.put.ensures in
    subst (λ (text : List ℕ). Puts text output c.put.result) c.in-Ok.ensures given

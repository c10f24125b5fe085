use Rattle.std.proofs.Common.{arith}
use Rattle.serde_json.specs.View.{view}
use Rattle.adm_view.specs.Register.{register_data}
use Rattle.adm_view.proofs.Plain.{plain_register}
use Rattle.adm_view.proofs.Given.{text_given, reads_back}
use Rattle.adm_view.proofs.registers.register_text.Goals as goal

pub returns-clause-text : goal.returns-clause-text
returns-clause-text c =
    text_given c.to_string.result (view c.in_ok-document.field-0) (register_data c.args.register.now) 6 c.in_ok-document.ensures (plain_register c.args.register.now) c.to_string.ensures.text

pub returns-clause-reads_back : goal.returns-clause-reads_back
returns-clause-reads_back c =
    reads_back c.to_string.result (view c.in_ok-document.field-0) (register_data c.args.register.now) 6 c.in_ok-document.ensures (plain_register c.args.register.now) (omega arith)
    c.to_string.ensures.reads_back

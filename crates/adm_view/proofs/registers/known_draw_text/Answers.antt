use Rattle.std.proofs.Common.{arith}
use Rattle.serde_json.specs.View.{view}
use Rattle.adm_view.specs.Draws.{draw_data_with_lots}
use Rattle.adm_view.proofs.Plain.{plain_draw_with_lots}
use Rattle.adm_view.proofs.Given.{text_given, reads_back}
use Rattle.adm_view.proofs.registers.known_draw_text.Goals as goal

pub returns-clause-text : goal.returns-clause-text
returns-clause-text c =
    text_given c.to_string.result (view c.in_ok-draw_with_lots.field-0) (draw_data_with_lots c.args.register.now c.args.draw.now) 3 c.in_ok-draw_with_lots.ensures (plain_draw_with_lots c.args.register.now c.args.draw.now) c.to_string.ensures.text

pub returns-clause-reads_back : goal.returns-clause-reads_back
returns-clause-reads_back c =
    reads_back c.to_string.result (view c.in_ok-draw_with_lots.field-0) (draw_data_with_lots c.args.register.now c.args.draw.now) 3 c.in_ok-draw_with_lots.ensures (plain_draw_with_lots c.args.register.now c.args.draw.now) (omega arith)
    c.to_string.ensures.reads_back

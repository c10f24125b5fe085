use Rattle.std.proofs.Common.{◌∙◌, sym, ap}
use Rattle.std.specs.Prelude.{◌||◌}
use Rattle.adm_csv.proofs.HeaderLemmas.{no_read_fault}
use Rattle.adm_csv.proofs.PrefixLemmas.{whole, ran_out}
use Rattle.adm_csv.proofs.rows.read_rows.Goals as goal

pub returns-clause-rows : goal.returns-clause-rows
returns-clause-rows g c =
    whole (λ v. v.items) (g.R.Input.remaining c.args.reader.now) c.in_ok-text.text.items c.as_slice.result.now c.rows_of.result c.in_ok-text.ensures.text c.as_slice.ensures.value c.rows_of.ensures.reads

pub returns-clause-memory : goal.returns-clause-memory
returns-clause-memory g c =
    ran_out (g.R.Input.remaining c.args.reader.now) (g.R.Input.remaining c.read_text.new.reader) c.in_ok-text.text.items c.as_slice.result.now c.rows_of.result
    c.in_ok-text.ensures.consumed c.in_ok-text.ensures.text c.as_slice.ensures.value c.rows_of.ensures.memory

pub returns-clause-reader : goal.returns-clause-reader
returns-clause-reader g c =
    c.in_ok-text.ensures.reader ∙ ap (λ t. g.R.Input.has_failed c.args.reader.now || t) (sym (no_read_fault (λ v. v.items) _ c.rows_of.result c.rows_of.ensures.reads))

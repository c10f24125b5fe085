use Rattle.std.proofs.Common.{◌+◌, take, sym, ◌∙◌, ap, rules}
use mathlib.Core.List.{map-id}
use Rattle.adm_rows.proofs.ListLemmas.{appended, not_first, is_nil}
use Rattle.adm_types.specs.Joined.{joined}
use Rattle.adm_rows.proofs.lists.codes_text.Goals as goal

pub items-preserved : goal.items-preserved
items-preserved c =
    let codes = c.args.codes.now in
    let i = c.items.code-index in
    let was = map-id (take i codes) in
    let now = map-id (take (i + 1) codes) in
    record {
      text = appended (λ x. x) codes i c.code-item.result _ _ _ _ c.items-test.true c.code-item.is (c.items.invariant.text ∙ ap joined (sym was)) (c.items.invariant.first
          ∙ ap is_nil (sym was)) (search rules) c.in_ok-append.ensures ∙ ap joined now;
      first = not_first (λ x. x) codes i c.code-item.result c.items-test.true c.code-item.is ∙ ap is_nil now;
    }

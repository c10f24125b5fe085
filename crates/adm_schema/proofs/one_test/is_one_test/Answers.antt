use Rattle.std.proofs.Common.{◌≡◌, ◌∙◌, sym, true≢false}
use Rattle.sqlite_schema.specs.Code.{terms_in}
use Rattle.adm_schema.proofs.OneTest.{too_few, more_roots, of_terms}
use Rattle.adm_schema.proofs.one_test.is_one_test.Goals as goal

pub returns-then-nodes-lt2 : goal.returns-then-nodes-lt2
returns-then-nodes-lt2 c =
    let shown : terms_in c.as_slice-nodes.result.now c.as_slice-roots.result.now ≡ c.args.terms.now = (λ i. terms_in (c.as_slice-nodes.ensures i) (c.as_slice-roots.ensures i)) ∙ c.terms.view_is in
    (λ e. absurd (true≢false (sym e)), λ e. absurd (too_few _ c.as_slice-roots.result.now c.if-nodes-lt2.true (shown ∙ e)))

pub returns-then-roots-ne1 : goal.returns-then-roots-ne1
returns-then-roots-ne1 c =
    let shown : terms_in c.as_slice-nodes.result.now c.as_slice-roots.result.now ≡ c.args.terms.now = (λ i. terms_in (c.as_slice-nodes.ensures i) (c.as_slice-roots.ensures i)) ∙ c.terms.view_is in
    (λ e. absurd (true≢false (sym e)), λ e. absurd (more_roots _ c.as_slice-roots.result.now c.if-roots-ne1.true (shown ∙ e)))

pub returns : goal.returns
returns c =
    let shown : terms_in c.as_slice-nodes.result.now c.as_slice-roots.result.now ≡ c.args.terms.now = (λ i. terms_in (c.as_slice-nodes.ensures i) (c.as_slice-roots.ensures i)) ∙ c.terms.view_is in
    of_terms c.is_test_at.result c.as_slice-nodes.result.now c.as_slice-roots.result.now c.args.terms.now shown c.if-nodes-lt2.false c.if-roots-ne1.false c.is_test_at.ensures

-- A file represents at most one register.
use Rattle.std.proofs.Common.{◌≡◌, ◌∙◌, true, not, Option, Some, None, refl, sym, ap, subst}
use Rattle.std.specs.List.Sorted.{IsPermutation}
use Rattle.std.proofs.lemmas.List.Sorted.{IsPermutation-sym, Contains-permutation}
use Rattle.std.specs.declared.cmp.Ordering.{Ordering}
use Rattle.std.specs.Cmp.{IsTotalOrder, nat_cmp_total}
use Rattle.std.specs.Cmp.Lexicographic.{nat_list_cmp_total}
use Rattle.std.specs.FinMap.{FinMap, get, values, same_map, IsAntisymmetric, slice_cmp-IsAntisymmetric, nat_cmp-IsAntisymmetric}
use Rattle.sqlite_rules.proofs.ListLemmas.{has_contained, contains_had}
use Rattle.sqlite.specs.Tree.{Trees}
use Rattle.sqlite_trees.specs.Objects.{catalog_tree}
use Rattle.sqlite_catalog.proofs.ReadLemmas.{lists_once}
use Rattle.adm_register.specs.State.{State as Register}
use Rattle.adm_schema.specs.declared.version.Version.{Version}
use Rattle.adm_register.specs.Rows.{rows_in_order}
use Rattle.adm_schema.specs.Schema.{meta, schema_of}
use Rattle.adm_schema.proofs.Listed.{meta_in}
use Rattle.adm_rows.specs.Represents.{OneRegister, HoldsRegister}
use Rattle.adm_rows.proofs.FaultLemmas.{one_version}
use Rattle.adm_rows.proofs.Entries.{has_value, value_at}
use Rattle.adm_rows.proofs.SameDraws.{same_draws}
use Rattle.adm_draws.specs.Draws.{is_draw, are_ordered, fresh_has_school, is_round_or_fill}
use Rattle.adm_types.specs.Lots.{repeats_lot}
use Rattle.adm_types.specs.declared.draws.Draw.{Draw}
use Rattle.std.specs.List.{list_all}
use Rattle.std.proofs.lemmas.Bool.{and_parts}
use Rattle.adm_rows.proofs.ReadBack.{read_back, season_back}
use Rattle.adm_rows.proofs.RegisterRows.{rows_held}
use Rattle.adm_rows.proofs.RowsFit.{left_total, left_same}

-- maps whose rows are at their own keys, and which have the same rows, are the same
module _ {K V : Type 0} {R : K → K → Ordering} (total : IsTotalOrder R) (exact : IsAntisymmetric R) (key : V → K) where
  had_too : (m n : FinMap R V) → ((k : K) (v : V) → get m k ≡ Some v → key v ≡ k) → ((k : K) (v : V) → get n k ≡ Some v → key v ≡ k) → IsPermutation (values m) (values n)
      → (k : K) (v : V) → get m k ≡ Some v → get n k ≡ Some v
  had_too m n own other same k v there =
      let here = has_contained (values n) v (Contains-permutation (values m) (values n) v same (contains_had (values m) v (has_value total exact m k v there))) in
      ap (get n) (sym (own k v there)) ∙ value_at total exact key n other v here

  same_by_rows : (m n : FinMap R V) → ((k : K) (v : V) → get m k ≡ Some v → key v ≡ k) → ((k : K) (v : V) → get n k ≡ Some v → key v ≡ k) → IsPermutation (values m) (values n) → m ≡ n
  same_by_rows m n own other same = same_map total exact m n (λ k. go k (get m k) refl (get n k) refl)
    where
      go : (k : K) (a : Option V) → get m k ≡ a → (b : Option V) → get n k ≡ b → get m k ≡ get n k
      go k (Some v) is b at = is ∙ sym (had_too m n own other same k v is)
      go k None is (Some w) at = had_too n m other own (IsPermutation-sym _ _ same) k w at ∙ sym at
      go k None is None at = is ∙ sym at

-- a draw of a register has its outcomes and lots in order
draw_ordered : (d : Draw) → is_draw d ≡ true → are_ordered d ≡ true
draw_ordered d form =
    let fresh = and_parts _ (is_round_or_fill d.round d.school d.outcomes) form in
    let lots = and_parts _ (list_all fresh_has_school d.outcomes) fresh.0 in
    (and_parts (are_ordered d) (not (repeats_lot d.lots)) lots.0).0

one_in : (v w : Version) (db : Trees) (r s : Register) → HoldsRegister v db r → HoldsRegister w db s → v ≡ w → r ≡ s
one_in v w db r s held other same = in_one v db r s held (subst (λ u. HoldsRegister u db s) (sym same) other)
  where
    in_one : (v : Version) (db : Trees) (r s : Register) → HoldsRegister v db r → HoldsRegister v db s → r ≡ s
    in_one v db r s one two =
        let a = one.formed in
        let b = two.formed in
        let season = season_back v v db r s.season _ (two.rows.each meta (meta_in v)) b.base.season_is two.rows.sized one in
        let rows = rows_held v db s (rows_in_order r) two one.rows (read_back r a) season in
        let schools = same_by_rows nat_list_cmp_total (slice_cmp-IsAntisymmetric nat_cmp-IsAntisymmetric) (λ x. x.code) r.schools s.schools
        (λ k x there. (a.base.schools_fit k x there).own_code) (λ k x there. (b.base.schools_fit k x there).own_code) rows.schools in
        let children = same_by_rows nat_cmp_total nat_cmp-IsAntisymmetric (λ x. x.no) r.children s.children (λ k x there. (a.base.children_fit k x there).own_number)
        (λ k x there. (b.base.children_fit k x there).own_number) rows.children in
        let applications = same_by_rows nat_cmp_total nat_cmp-IsAntisymmetric (λ x. x.child) r.applications s.applications
        (λ k x there. (a.base.applications_fit k x there).own_number) (λ k x there. (b.base.applications_fit k x there).own_number) rows.applications in
        let places = same_by_rows nat_cmp_total nat_cmp-IsAntisymmetric (λ x. x.child) r.places s.places (λ k x there. (a.places.each k x there).own_number)
        (λ k x there. (b.places.each k x there).own_number) rows.places in
        let left = same_by_rows left_total left_same (λ x. x) r.left s.left (λ k x there. (a.left k x there).own_key) (λ k x there. (b.left k x there).own_key) rows.left in
        let draws = same_draws r.draws s.draws (λ k d there. (a.draws.each k d there).own_number) (λ k d there. (b.draws.each k d there).own_number)
        (λ k d there. draw_ordered d (a.draws.each k d there).form) (λ k d there. draw_ordered d (b.draws.each k d there).form) rows.draws in
        let imported = same_by_rows nat_cmp_total nat_cmp-IsAntisymmetric (λ x. x.child.no) r.imported s.imported (λ k x there. (a.imported k x there).child.own_number)
        (λ k x there. (b.imported k x there).child.own_number) rows.imported in
        λ i. record { season = season i; schools = schools i; children = children i; applications = applications i; places = places i; left = left i; draws = draws i; imported = imported i }

pub one_register_lem : OneRegister
one_register_lem db r s one two =
    let listed = lists_once (db catalog_tree) (schema_of one.version) (schema_of two.version) one.stands.sound.lists two.stands.sound.lists in
    one_in one.version two.version db r s one.stands.holds two.stands.holds (one_version one.version two.version listed)

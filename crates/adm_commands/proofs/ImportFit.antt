-- What an import that is accepted puts fits.
use Rattle.std.proofs.Common.{◌≡◌, sym, subst, refl, cond, true, false, ℕ, ◌+◌, ◌≤◌, List, [], ◌∷◌, length, None, arith}
use Rattle.std.specs.Prelude.{not, ◌&&◌, map}
use Rattle.std.specs.declared.cmp.Ordering.{Ordering}
use Rattle.std.specs.Ordering.{nat_cmp, eq_by_cmp}
use Rattle.std.specs.List.{AllByRecursion}
use Rattle.std.specs.List.Sorted.{IsPermutation, IsStrictlySortedBy}
use Rattle.std.specs.Cmp.{IsTotalOrder, nat_cmp_total}
use Rattle.std.specs.FinMap.{FinMap, insert, len, len-insert, contains_key, nat_cmp-IsAntisymmetric}
use Rattle.std.proofs.lemmas.List.Sorted.{length_permutation}
use Rattle.std.proofs.lemmas.Bool.{and_parts}
use Rattle.adm_lists.proofs.Orders.{same_key}
use Rattle.adm_lists.proofs.Each.{each_weaker, each_both}
use Rattle.adm_types.specs.Limits.{most_children}
use Rattle.adm_types.specs.Seasons.{lists_end}
use Rattle.adm_types.specs.declared.rows.Application.{Application}
use Rattle.adm_types.specs.declared.rows.Child.{Child}
use Rattle.adm_types.specs.declared.rows.Row.{Row as ImportRow}
use Rattle.adm_register.specs.State.{State, application_of}
use Rattle.adm_register.specs.Change.{after, put_all}
use Rattle.adm_commands.specs.KeptByTypes.{KeptByImportRow}
use Rattle.adm_commands.specs.Commands.Import.{change_of, refused_from, new_rows}
use Rattle.adm_register.specs.WellFormed.{WellFormed, ChildFits, ApplicationFits, ImportFits}
use Rattle.adm_commands.proofs.Accepted.{draws_stay}
use Rattle.adm_commands.proofs.EachOf.{each_permuted, each_map, map_twice}
use Rattle.adm_register.specs.Fits.{Fit, FewAfter}
use Rattle.adm_commands.proofs.ImportAgain.{imports_known, each_new}
use Rattle.adm_commands.proofs.ImportWalk.{IsAddable, new_rows-addable, new_rows-each}
use Rattle.adm_register.proofs.Puts.{there_each, stays}
use Rattle.adm_register.proofs.Tidy.{tidy_none, tidy_puts}

module _ {X K V : Type 0} {R : K → K → Ordering} (total : IsTotalOrder R) (key : V → K) (f : X → V) where
  -- as many rows as there were, and at most as many more as are written
  len-put_all : (rows : FinMap R V) (xs : List X) → len (put_all key rows (map f xs)) ≤ len rows + length xs
  len-put_all rows [] = omega arith
  len-put_all rows (x ∷ xs) =
      let more = len-put_all (insert rows (key (f x)) (f x)) xs in
      let one : len (insert rows (key (f x)) (f x)) ≤ len rows + 1 =
      rw (len-insert total rows (key (f x)) (f x)) (elim (contains_key rows (key (f x))) as (λ b. cond b (len rows) (len rows + 1) ≤ len rows + 1) [ true ↦ omega arith | false ↦ omega arith ]) in
      omega (arith, more, one)

few_after : {K V : Type 0} {R : K → K → Ordering} (limit : ℕ) (rows : FinMap R V) (put : List V) → len rows ≤ limit → FewAfter limit rows put
few_after limit rows [] few = tt
few_after limit rows (row ∷ put) few = few

-- a child that is there is not a new one
is_another : (old : State) (number new : ℕ) → contains_key old.children number ≡ true → not (contains_key old.children new) ≡ true → eq_by_cmp nat_cmp number new ≡ false
is_another old number new there gone =
    elim (eq_by_cmp nat_cmp number new) as (λ b. eq_by_cmp nat_cmp number new ≡ b → b ≡ false) [
      | true ↦ λ tie. let at = subst (λ n. contains_key old.children n ≡ true) (same_key nat_cmp-IsAntisymmetric number new tie) there in cc (at, gone)
      | false ↦ λ tie. refl
    ] refl

child_fits : (old : State) (row : ImportRow) → KeptByImportRow row → IsAddable old row → ChildFits old.season.size old.schools row.child.no row.child
child_fits old row kept fits = record {
  own_number = refl;
  number_form = kept.child.number_form;
  text = kept.child.text;
  name = fits.name;
  in_range = (and_parts _ _ fits.in_range).0;
  of_size = (and_parts _ _ fits.in_range).1;
  flags = kept.child.flags;
  known = fits.known;
}

application_fits : (old : State) (children : _) (row : ImportRow) → KeptByImportRow row → IsAddable old row → contains_key children row.child.no ≡ true
    → ApplicationFits (lists_end old.season) old.schools children row.child.no (application_of row)
application_fits old children row kept fits there =
    let preferences = and_parts _ _ fits.preferences in
    let since = kept.day in
    let by = fits.in_time in
    record { own_number = refl; child = there; day = λ i. since i && by i; list_length = preferences.0; without_repeat = preferences.1; known = fits.listed }

pub import-fit : (old : State) (rows added : List ImportRow) → WellFormed old → AllByRecursion KeptByImportRow rows → refused_from old 1 rows ≡ None
    → IsPermutation (new_rows old rows) added → IsStrictlySortedBy nat_cmp (map (λ (r : ImportRow). r.child.no) added) → Fit old (change_of added)
unfolding change_of
import-fit old rows added well kept accepted permuted sorted =
    let walked = new_rows-addable old 1 rows accepted in
    let each = each_permuted (IsAddable old) (new_rows old rows) added permuted walked.each in
    let values = each_permuted KeptByImportRow (new_rows old rows) added permuted (new_rows-each KeptByImportRow old rows kept) in
    let both = each_both KeptByImportRow (IsAddable old) added values each in
    let children = (after old (change_of added)).children in
    let there = there_each nat_cmp_total (λ (c : Child). c.no) (λ (r : ImportRow). r.child) old.children added in
    let known = each_both (λ (r : ImportRow). KeptByImportRow r × IsAddable old r) (λ (r : ImportRow). contains_key children r.child.no ≡ true) added both there in
    let count = len-put_all nat_cmp_total (λ (c : Child). c.no) (λ (r : ImportRow). r.child) old.children added in
    let same = length_permutation (new_rows old rows) added permuted in
    let room = walked.room well.base.few_children in
    record {
      base = record {
        schools = tt;
        kept_schools = tt;
        few_schools = tt;
        children = each_map (λ (r : ImportRow). r.child) (λ (c : Child). ChildFits old.season.size old.schools c.no c) added
            (each_weaker (λ (r : ImportRow). KeptByImportRow r × IsAddable old r) (λ (r : ImportRow). ChildFits old.season.size old.schools r.child.no r.child) (λ r it. child_fits old r it.0 it.1) added both);
        few_children = few_after (most_children old.season.size) children (map (λ (r : ImportRow). r.child) added) (omega (arith, count, same, room));
        applications = each_map application_of (λ (a : Application). ApplicationFits (lists_end old.season) old.schools children a.child a) added
            (each_weaker (λ (r : ImportRow). (KeptByImportRow r × IsAddable old r) × (contains_key children r.child.no ≡ true))
            (λ (r : ImportRow). ApplicationFits (lists_end old.season) old.schools children r.child.no (application_of r)) (λ r it. application_fits old children r it.0.0 it.0.1 it.1) added known);
      };
      places = record {
        places = tt;
        kept = λ number row was still.
            let fits = well.places.each number row was in
            let here = subst (λ n. contains_key old.children n ≡ true) fits.own_number fits.child in
            stays nat_cmp_total (λ (a : Application). a.child) old.applications (map application_of added) number
            (each_map application_of (λ (a : Application). eq_by_cmp nat_cmp number a.child ≡ false) added
            (each_weaker (IsAddable old) (λ (r : ImportRow). eq_by_cmp nat_cmp number r.child.no ≡ false) (λ r it. is_another old number r.child.no here it.new_child) added each));
        room = well.places.room;
      };
      left = record { left = tt; places = tt };
      draws = draws_stay old (change_of added) refl;
      imported = record {
        each = each_weaker (λ (r : ImportRow). (KeptByImportRow r × IsAddable old r) × (contains_key children r.child.no ≡ true))
            (λ (r : ImportRow). ImportFits old.season.size (lists_end old.season) old.schools children r.child.no r)
            (λ r it. record { child = child_fits old r it.0.0 it.0.1; application = application_fits old children r it.0.0 it.0.1 it.1 }) added known;
        new_rows = each_new old rows added (imports_known old well) accepted permuted;
      };
      tidy = record {
        schools = tidy_none _ _;
        children = tidy_puts nat_cmp (λ (c : Child). c.no) (map (λ (r : ImportRow). r.child) added)
            (subst (IsStrictlySortedBy nat_cmp) (sym (map_twice (λ (r : ImportRow). r.child) (λ (c : Child). c.no) added)) sorted);
        applications = tidy_puts nat_cmp (λ (a : Application). a.child) (map application_of added)
            (subst (IsStrictlySortedBy nat_cmp) (sym (map_twice application_of (λ (a : Application). a.child) added)) sorted);
        places = tidy_none _ _;
        left = tidy_none _ _;
        draws = tidy_none _ _;
        imported = tidy_puts nat_cmp (λ (r : ImportRow). r.child.no) added sorted;
      };
    }

-- What is read of a register's rows is the register's again.
use Rattle.std.proofs.Common.{refl, ◌≡◌, ℕ, [], ◌∷◌, length, sym, ◌∙◌}
use Rattle.std.proofs.lemmas.List.{length-map}
use Rattle.std.specs.List.Sorted.{IsPermutation}
use Rattle.std.specs.FinMap.{values}
use Rattle.adm_lists.proofs.Each.{each_weaker}
use Rattle.adm_types.specs.Seasons.{SeasonFacts, IsSeason, lists_end}
use Rattle.adm_register.specs.State.{State as Register}
use Rattle.adm_register.specs.WellFormed.{WellFormed}
use Rattle.adm_schema.specs.declared.version.Version.{Version}
use Rattle.adm_schema.specs.Schema.{meta}
use Rattle.adm_schema.proofs.Listed.{meta_in}
use Rattle.sqlite.specs.Order.{Row}
use Rattle.sqlite.specs.Tree.{Trees}
use Rattle.sqlite.proofs.Callers.{one_permutation}
use Rattle.std.proofs.lemmas.List.Sorted.{IsPermutation-sym, IsPermutation-trans}
use Rattle.adm_draws.specs.Draws.{row_of}
use Rattle.adm_rows.specs.Represents.{IsSizedIn, HoldsRegister}
use Rattle.adm_rows.specs.Reads.{HoldsSeason, AreReadBack}
use Rattle.adm_register.specs.Rows.{rows_in_order}
use Rattle.adm_rows.specs.Faults.{IsSchool, IsReadAgain, IsChild, IsApplication, IsImportRow, IsImportReadAgain, AreReadAgain, IsChildReadAgain}
use Rattle.adm_rows.proofs.SeasonRows.{same_season, same_version, same_count}
use Rattle.adm_rows.proofs.SchoolRows.{reads_again}
use Rattle.adm_rows.proofs.ChildRows.{child_again, import_again}
use Rattle.adm_rows.proofs.CodeLemmas.{codes_again}
use Rattle.adm_rows.proofs.RowsFit.{schools_fit, children_fit, applications_fit, imported_fit}

first_row : (a b : Row) → a ∷ [] ≡ b ∷ [] → a ≡ b
first_row a b e = cc

one_row : (a b : Row) → IsPermutation (a ∷ []) (b ∷ []) → a ≡ b
one_row a b same = first_row a b (sym (one_permutation a (b ∷ []) same))

-- each row of a register is read back
pub read_back : (r : Register) → WellFormed r → AreReadBack (rows_in_order r)
read_back r formed = record {
  schools = each_weaker IsSchool IsReadAgain reads_again _ (schools_fit r formed);
  children = each_weaker IsChild IsChildReadAgain child_again _ (children_fit r formed);
  applications = each_weaker (IsApplication (lists_end r.season)) (λ x. AreReadAgain x.list) (λ x fits. codes_again x.list fits.codes) _ (applications_fit r (lists_end r.season) formed refl);
  imported = each_weaker (IsImportRow (lists_end r.season)) IsImportReadAgain (import_again (lists_end r.season)) _ (imported_fit r (lists_end r.season) formed refl);
}

-- the season that was read is that of the register, and so is the count of draws
pub season_back : (v w : Version) (db : Trees) (r : Register) (season : SeasonFacts) (count : ℕ) → HoldsSeason w season count db → IsSeason season → IsSizedIn w season.size → HoldsRegister v db r → r.season ≡ season
season_back v w db r season count one formed sized held =
    same_season v w r.season season _ count held.formed.base.season_is formed held.rows.sized sized (one_row _ _ (IsPermutation-trans _ _ _ (held.rows.each meta (meta_in v)) (IsPermutation-sym _ _ one)))

pub count_back : (v w : Version) (db : Trees) (r : Register) (season : SeasonFacts) (count : ℕ) → HoldsSeason w season count db → HoldsRegister v db r → length (values r.draws) ≡ count
count_back v w db r season count one held =
    sym (length-map (values r.draws) row_of) ∙ same_count v w r.season season _ count (one_row _ _ (IsPermutation-trans _ _ _ (held.rows.each meta (meta_in v)) (IsPermutation-sym _ _ one)))

-- and so is the version that its row names
pub version_back : (v w : Version) (db : Trees) (r : Register) (season : SeasonFacts) (count : ℕ) → HoldsSeason w season count db → HoldsRegister v db r → v ≡ w
version_back v w db r season count one held = same_version v w r.season season _ count (one_row _ _ (IsPermutation-trans _ _ _ (held.rows.each meta (meta_in v)) (IsPermutation-sym _ _ one)))

-- Which rows are that of no season.
use Rattle.std.proofs.Common.{◌≡◌, ◌∙◌, ◌<◌, ◌^◌, ℕ, zero, suc, true, false, subst, List, [], ◌∷◌, Some, None, pos, refl, sym, ap, arith}
use Rattle.std.specs.Prelude.{◌==◌}
use Rattle.std.specs.List.{list_any}
use Rattle.sqlite.specs.declared.types.Value.TheVariants.{Int, Text}
use Rattle.adm_schema.specs.declared.version.Version.{Version}
use Rattle.adm_schema.specs.declared.version.Version.TheVariants.{First, Second}
use Rattle.adm_rows.specs.FirstFault.{is_known_version}
use Rattle.sqlite.specs.Order.{Row, column}
use Rattle.adm_types.specs.Seasons.{SeasonFacts, IsSeason, IsRising}
use Rattle.adm_types.specs.declared.seasons.Phase.{Phase}
use Rattle.adm_types.specs.declared.seasons.Phase.TheVariants.{Primary, Secondary}
use Rattle.adm_types.specs.declared.seasons.Size.{Size}
use Rattle.adm_types.specs.declared.seasons.Size.TheVariants.{Standard, Large}
use Rattle.adm_rows.specs.Represents.{IsSizedIn}
use Rattle.adm_rows.specs.Forms.{phase_code, version_code, days_text, days_of, season_row}
use Rattle.adm_rows.specs.Faults.{HasSeasonColumns}
use Rattle.adm_rows.proofs.RowLemmas.{number_in, text_in}
use Rattle.adm_rows.proofs.TextLemmas.{days_again, days_utf8}
use Rattle.adm_rows.proofs.RisingLemmas.{rising_once}

same_phase : (a b : Phase) → phase_code a ≡ phase_code b → a ≡ b
same_phase Primary Primary e = refl
same_phase Secondary Secondary e = refl
same_phase Primary Secondary e = absurd (omega (arith, e))
same_phase Secondary Primary e = absurd (omega (arith, e))

-- equal rows have equal values
season_parts : (v w : Version) (a b : SeasonFacts) (m n : ℕ) → season_row v a m ≡ season_row w b n → (a.phase ≡ b.phase) × (a.year ≡ b.year) × (days_text a.holidays ≡ days_text b.holidays)
season_parts v w a b m n e = (same_phase a.phase b.phase (ap (λ cells. number_in (column cells 2)) e), ap (λ cells. number_in (column cells 3)) e, ap (λ cells. text_in (column cells 4)) e)

same_code : (v w : Version) (a b : Size) → version_code v a ≡ version_code w b → v ≡ w
same_code First First a b e = refl
same_code Second Second a b e = refl
same_code First Second a Standard e = absurd (omega (arith, e))
same_code First Second a Large e = absurd (omega (arith, e))
same_code Second First Standard b e = absurd (omega (arith, e))
same_code Second First Large b e = absurd (omega (arith, e))

-- versions that are named alike, and sizes that they can name
same_size : (v w : Version) (a b : Size) → IsSizedIn v a → IsSizedIn w b → version_code v a ≡ version_code w b → a ≡ b
same_size First First a b one two e = one ∙ sym two
same_size Second Second Standard Standard one two e = refl
same_size Second Second Large Large one two e = refl
same_size Second Second Standard Large one two e = absurd (omega (arith, e))
same_size Second Second Large Standard one two e = absurd (omega (arith, e))
same_size First Second a Standard one two e = absurd (omega (arith, e))
same_size First Second a Large one two e = absurd (omega (arith, e))
same_size Second First Standard b one two e = absurd (omega (arith, e))
same_size Second First Large b one two e = absurd (omega (arith, e))

pub same_version : (v w : Version) (a b : SeasonFacts) (m n : ℕ) → season_row v a m ≡ season_row w b n → v ≡ w
same_version v w a b m n e = same_code v w a.size b.size (ap (λ cells. number_in (column cells 1)) e)

pub code_known : (v : Version) (size : Size) → is_known_version (Int (pos (version_code v size))) ≡ true
code_known First size = refl
code_known Second Standard = refl
code_known Second Large = refl

pub no_code : (n : ℕ) → ((v : Version) (size : Size) → n ≡ version_code v size → ⊥) → is_known_version (Int (pos n)) ≡ false
no_code zero none = refl
no_code (suc zero) none = absurd (none First Standard refl)
no_code (suc (suc zero)) none = absurd (none Second Standard refl)
no_code (suc (suc (suc zero))) none = absurd (none Second Large refl)
no_code (suc (suc (suc (suc n)))) none = refl

-- a season's row has the columns of one in the version and the size that the row names
pub has_season_columns : (v w : Version) (size : Size) (row : Row) (season : SeasonFacts) (draws : ℕ) → IsSeason season → draws < 2 ^ 32
    → column row 1 ≡ Int (pos (version_code w size)) → row ≡ season_row v season draws → HasSeasonColumns row w size season.phase season.year draws (days_text season.holidays)
has_season_columns v w size row season draws formed few named is =
    let code : version_code v season.size ≡ version_code w size = ap number_in (sym (ap (λ cells. column cells 1) is) ∙ named) in
    record {
      row_is = subst (λ n. row ≡ Int (pos 1) ∷ Int (pos n) ∷ Int (pos (phase_code season.phase)) ∷ Int (pos season.year) ∷ Text (days_text season.holidays) ∷ Int (pos draws) ∷ []) code is;
      holidays_text = days_utf8 season.holidays formed.days;
      year_fits = omega (arith, formed.year.1);
      draws_fit = few;
    }

-- two seasons that are written alike are the same
pub same_season : (v w : Version) (a b : SeasonFacts) (m n : ℕ) → IsSeason a → IsSeason b → IsSizedIn v a.size → IsSizedIn w b.size → season_row v a m ≡ season_row w b n → a ≡ b
same_season v w a b m n one two here there e =
    let parts = season_parts v w a b m n e in
    let days : Some a.holidays ≡ Some b.holidays = sym (days_again a.holidays one.days) ∙ ap days_of parts.2 ∙ days_again b.holidays two.days in
    let holidays : a.holidays ≡ b.holidays = cc in
    let size = same_size v w a.size b.size here there (ap (λ cells. number_in (column cells 1)) e) in
    λ k. record { phase = parts.0 k; year = parts.1 k; holidays = holidays k; size = size k }

-- and so are their counts of draws
pub same_count : (v w : Version) (a b : SeasonFacts) (m n : ℕ) → season_row v a m ≡ season_row w b n → m ≡ n
same_count v w a b m n e = ap (λ cells. number_in (column cells 5)) e

-- the days that are read from the text of a season's holidays are those holidays
pub days_read : (text days : List ℕ) (season : SeasonFacts) → IsSeason season → text ≡ days_text season.holidays → days_of text ≡ Some days → days ≡ season.holidays
days_read text days season formed is read =
    let same : Some days ≡ Some season.holidays = sym read ∙ ap days_of is ∙ days_again season.holidays formed.days in
    cc

pub no_days_read : (text : List ℕ) (season : SeasonFacts) → IsSeason season → text ≡ days_text season.holidays → days_of text ≡ None → ⊥
no_days_read text season formed is read =
    let same : None ≡ Some season.holidays = sym read ∙ ap days_of is ∙ days_again season.holidays formed.days in
    cc

-- and a season with those holidays, in rising order, has the text
pub text_again : (text days holidays : List ℕ) (read season : SeasonFacts) → IsSeason season → IsSeason read → text ≡ days_text season.holidays → days_of text ≡ Some days
    → IsRising days read.holidays → holidays ≡ read.holidays → text ≡ days_text holidays
text_again text days holidays read season formed here is there rising shown =
    let same = days_read text days season formed is there in
    let once : read.holidays ≡ season.holidays = rising_once read.holidays season.holidays here.rising formed.rising (λ n. rising.same n ∙ ap (λ list. list_any (λ other. other == n) list) same) in
    is ∙ ap days_text (sym (shown ∙ once))

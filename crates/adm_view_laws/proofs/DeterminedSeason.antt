-- A season is determined by its data.
use Rattle.std.proofs.Common.{◌≡◌, ◌∙◌, ap, sym, refl, Option, Some, None, codes}
use Rattle.std.proofs.lemmas.Option.{none-some, same_Some}
use Rattle.serde_json.specs.Data.{Data, string, object}
use Rattle.serde_json.specs.Find.{get}
use Rattle.serde_json.proofs.OnLiterals.{serde_json_on_literals}
use Rattle.adm_lists.proofs.Members.{All_in}
use Rattle.adm_types.specs.Seasons.{SeasonFacts, IsSeason, IsDay}
use Rattle.adm_types.specs.declared.seasons.Phase.{Phase}
use Rattle.adm_types.specs.declared.seasons.Phase.TheVariants.{Primary, Secondary}
use Rattle.adm_types.specs.declared.seasons.Size.{Size}
use Rattle.adm_types.specs.declared.seasons.Size.TheVariants.{Standard, Large}
use Rattle.adm_view.specs.Writing.{number_data, list_data, day_data}
use Rattle.adm_view.specs.Season.{phase_name, season_members, size_members, season_data}
use Rattle.adm_view_laws.proofs.Values.{same_items, same_number, same_text, other_length, same_day}

same_phase : (x y : Phase) → phase_name x ≡ phase_name y → x ≡ y
same_phase Primary Primary e = refl
same_phase Primary Secondary e = absurd (other_length (phase_name Primary) (phase_name Secondary) refl e)
same_phase Secondary Primary e = absurd (other_length (phase_name Secondary) (phase_name Primary) refl e)
same_phase Secondary Secondary e = refl

-- ---- what its data have, whatever its size

-- the season, for what is known of its size
abbrev shown_as : Size → SeasonFacts → Data
shown_as size season = object (size_members size (season_members season))

phase_there : (size : Size) (season : SeasonFacts) → get (codes "phase") (shown_as size season) ≡ Some (string (phase_name season.phase))
unfolding serde_json_on_literals
phase_there Standard season = refl
phase_there Large season = refl

year_there : (size : Size) (season : SeasonFacts) → get (codes "year") (shown_as size season) ≡ Some (number_data season.year)
unfolding serde_json_on_literals
year_there Standard season = refl
year_there Large season = refl

holidays_there : (size : Size) (season : SeasonFacts) → get (codes "holidays") (shown_as size season) ≡ Some (list_data day_data season.holidays)
unfolding serde_json_on_literals
holidays_there Standard season = refl
holidays_there Large season = refl

-- a large one alone says its size
abbrev said : Size → Option Data
said Standard = None
said Large = Some (string (codes "large"))

size_there : (size : Size) (season : SeasonFacts) → get (codes "size") (shown_as size season) ≡ said size
unfolding serde_json_on_literals
size_there Standard season = refl
size_there Large season = refl

same_size : (x y : Size) → said x ≡ said y → x ≡ y
same_size Standard Standard e = refl
same_size Standard Large e = absurd (none-some (string (codes "large")) e)
same_size Large Standard e = absurd (none-some (string (codes "large")) (sym e))
same_size Large Large e = refl

pub same_season : (x y : SeasonFacts) → IsSeason x → IsSeason y → season_data x ≡ season_data y → x ≡ y
same_season x y p q e =
    let phase : x.phase ≡ y.phase =
    same_phase x.phase y.phase (same_text (phase_name x.phase) (phase_name y.phase) (same_Some (string (phase_name x.phase)) (string (phase_name y.phase))
    (sym (phase_there x.size x) ∙ ap (get (codes "phase")) e ∙ phase_there y.size y))) in
    let year : x.year ≡ y.year =
    same_number x.year y.year (same_Some (number_data x.year) (number_data y.year) (sym (year_there x.size x) ∙ ap (get (codes "year")) e ∙ year_there y.size y)) in
    let holidays : x.holidays ≡ y.holidays =
    same_items day_data day_data x.holidays y.holidays (λ c d i j. same_day c d (All_in IsDay x.holidays c p.days i).0 (All_in IsDay y.holidays d q.days j).0)
    (same_Some (list_data day_data x.holidays) (list_data day_data y.holidays) (sym (holidays_there x.size x) ∙ ap (get (codes "holidays")) e ∙ holidays_there y.size y)) in
    let size : x.size ≡ y.size = same_size x.size y.size (sym (size_there x.size x) ∙ ap (get (codes "size")) e ∙ size_there y.size y) in
    λ i. record { phase = phase i; year = year i; holidays = holidays i; size = size i }

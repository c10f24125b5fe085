-- What a change of rows that fit leaves is a register.
use Rattle.std.proofs.Common.{◌≡◌, ◌∙◌, ap, sym, subst, refl, Bool, true, false, ℕ, ◌≤◌, List, [], ◌∷◌, Some, None, arith}
use Rattle.std.specs.Prelude.{◌&&◌, ◌||◌, not, is_some, nat_eq, Option, if◌then◌else◌}
use Rattle.std.specs.Ordering.{nat_cmp}
use Rattle.std.specs.declared.cmp.Ordering.{Ordering}
use Rattle.std.specs.List.{AllByRecursion}
use Rattle.std.specs.Cmp.{nat_cmp_total}
use Rattle.std.specs.Cmp.Lexicographic.{nat_list_cmp_total, pointwise, bytes_decides}
use Rattle.std.specs.FinMap.{FinMap, get, len, values, contains_key, nat_cmp-IsAntisymmetric}
use Rattle.std.proofs.lemmas.Bool.{and_parts}
use Rattle.std.proofs.lemmas.Option.{same_Some}
use Rattle.adm_types.specs.Limits.{most_schools, most_children}
use Rattle.adm_types.specs.Seasons.{lists_end}
use Rattle.adm_types.specs.declared.seasons.Size.{Size}
use Rattle.adm_types.specs.declared.rows.School.{School}
use Rattle.adm_types.specs.declared.rows.Child.{Child}
use Rattle.adm_types.specs.declared.rows.Application.{Application}
use Rattle.adm_types.specs.declared.rows.Row.{Row as ImportRow}
use Rattle.adm_types.specs.declared.rows.PlaceRow.{PlaceRow}
use Rattle.adm_types.specs.declared.rows.LeftPair.{LeftPair}
use Rattle.adm_types.specs.declared.draws.Draw.{Draw}
use Rattle.adm_register.specs.declared.difference.Difference.{Difference}
use Rattle.adm_types.specs.Limits.{code_cmp}
use Rattle.adm_register.specs.State.{State, is_plan, application_of}
use Rattle.adm_register.specs.Change.{put_all, cut_all, after}
use Rattle.adm_register.specs.Fits.{FewAfter, BasePut, PlacesPut, LeftPut, DrawsPut, ImportedPut, Fit}
use Rattle.adm_register.specs.Extends.{Extends, IsRaised, KeepsSchools}
use Rattle.adm_register.specs.WellFormed.{WellFormed, AllRows, BaseFits, PlacesFit, LeftFits, DrawsFit, ImportedFit, are_schools, has_first_round, is_entitled, lists_school, SchoolFits, ChildFits, ApplicationFits, PlaceFits, LeftPairFits, ImportFits, is_unplanned_at}
use Rattle.adm_register.proofs.Maps.{code_cmp-IsAntisymmetric, left_cmp-total, left_cmp-IsAntisymmetric}
use Rattle.adm_register.specs.Draws.{DrawFits, are_in_order, no_draws, count_draws, draws_so_far}
use Rattle.adm_register.proofs.DrawLemmas.{DrawFits-grows, values_put, new_draws, are_in_order-append, with_draws-append}
use Rattle.adm_register.proofs.Puts.{Grows, put_all-grows, there_before, all_stay, AllRows-put_all, are_schools-grows}

-- rows fit still where the rows that they name are there still
ChildFits-grows : (size : Size) (schools new_schools : FinMap code_cmp School) → Grows schools new_schools → (number : ℕ) (child : Child) → ChildFits size schools number child
    → ChildFits size new_schools number child
ChildFits-grows size schools new_schools grows number child fits = record {
  own_number = fits.own_number;
  number_form = fits.number_form;
  text = fits.text;
  name = fits.name;
  in_range = fits.in_range;
  of_size = fits.of_size;
  flags = fits.flags;
  known =
      let both = and_parts (are_schools schools child.siblings) (are_schools schools child.catchments) fits.known in
      let siblings = are_schools-grows schools new_schools grows child.siblings both.0 in
      let catchments = are_schools-grows schools new_schools grows child.catchments both.1 in
      λ i. siblings i && catchments i;
}

module _ (schools new_schools : FinMap code_cmp School) (children new_children : FinMap nat_cmp Child) (more_schools : Grows schools new_schools) (more_children : Grows children new_children) where
  ApplicationFits-grows : (last number : ℕ) (a : Application) → ApplicationFits last schools children number a → ApplicationFits last new_schools new_children number a
  ApplicationFits-grows last number a fits = record {
    own_number = fits.own_number;
    child = more_children a.child fits.child;
    day = fits.day;
    list_length = fits.list_length;
    without_repeat = fits.without_repeat;
    known = are_schools-grows schools new_schools more_schools a.list fits.known;
  }

  ImportFits-grows : (size : Size) (last number : ℕ) (r : ImportRow) → ImportFits size last schools children number r → ImportFits size last new_schools new_children number r
  ImportFits-grows size last number r fits = record {
    child = ChildFits-grows size schools new_schools more_schools number r.child fits.child;
    application = ApplicationFits-grows last number (application_of r) fits.application;
  }

  PlaceFits-grows : (applications new_applications : FinMap nat_cmp Application) (held new_held : Bool) → (held ≡ true → new_held ≡ true) → (number : ℕ) (row : PlaceRow)
      → get new_applications row.child ≡ get applications row.child
      → PlaceFits schools children applications held number row → PlaceFits new_schools new_children new_applications new_held number row
  PlaceFits-grows applications new_applications held new_held more number row same fits = record {
    own_number = fits.own_number;
    child = more_children row.child fits.child;
    school = more_schools row.place.school fits.school;
    state = fits.state;
    entitled = entitled-grows held new_held more (get new_applications row.child) row (subst (λ o. is_entitled held o row.place ≡ true) (sym same) fits.entitled);
  }
    where
      entitled-grows : (held new_held : Bool) → (held ≡ true → new_held ≡ true) → (o : Option Application) (row : PlaceRow) → is_entitled held o row.place ≡ true
          → is_entitled new_held o row.place ≡ true
      entitled-grows held new_held more o row is =
          by (is_plan row.place.state) is
        where
          by : (plan : Bool) → (if plan then not (is_some o) else held && lists_school o row.place.school) ≡ true
              → (if plan then not (is_some o) else new_held && lists_school o row.place.school) ≡ true
          by true is = is
          by false is = let both = and_parts held (lists_school o row.place.school) is in λ i. more both.0 i && both.1 i

module _ (old : State) (change : Difference) where
  abbrev new : State
  new = after old change

  more_schools : Grows old.schools new.schools
  more_schools = put_all-grows nat_list_cmp_total (λ (s : School). s.code) old.schools change.schools

  more_children : Grows old.children new.children
  more_children = put_all-grows nat_cmp_total (λ (c : Child). c.no) old.children change.children

  few : {K V : Type 0} {R : K → K → Ordering} (key : V → K) (limit : ℕ) (rows : FinMap R V) (put : List V) → len rows ≤ limit → FewAfter limit (put_all key rows put) put
      → len (put_all key rows put) ≤ limit
  few key limit rows [] was now = was
  few key limit rows (row ∷ put) was now = now

  -- the base group fits after the change
  base_fits : BaseFits old.season old.schools old.children old.applications → BasePut old change → BaseFits new.season new.schools new.children new.applications
  base_fits base put = record {
    season_is = base.season_is;
    few_schools = few (λ (s : School). s.code) (most_schools old.season.size) old.schools change.schools base.few_schools put.few_schools;
    schools_fit = AllRows-put_all nat_list_cmp_total code_cmp-IsAntisymmetric (λ (s : School). s.code) (SchoolFits old.season.size) old.schools change.schools
        (λ code row there still. base.schools_fit code row there) put.schools;
    few_children = few (λ (c : Child). c.no) (most_children old.season.size) old.children change.children base.few_children put.few_children;
    children_fit = AllRows-put_all nat_cmp_total nat_cmp-IsAntisymmetric (λ (c : Child). c.no) (ChildFits old.season.size new.schools) old.children change.children
        (λ number row there still. ChildFits-grows old.season.size old.schools new.schools more_schools number row (base.children_fit number row there)) put.children;
    applications_fit = AllRows-put_all nat_cmp_total nat_cmp-IsAntisymmetric (λ (a : Application). a.child)
        (ApplicationFits (lists_end old.season) new.schools new.children) (cut_all old.applications change.ended) change.applications
        (λ number row there still. ApplicationFits-grows old.schools new.schools old.children new.children more_schools more_children (lists_end old.season) number row
        (base.applications_fit number row (there_before nat_cmp_total old.applications change.ended number row there))) put.applications;
  }

  more_rounds : has_first_round old.draws ≡ true → has_first_round new.draws ≡ true
  more_rounds = put_all-grows nat_cmp_total (λ (d : Draw). d.number) old.draws change.draws 1

  -- the places fit after the change
  places_fit : PlacesFit old.schools old.children old.applications old.places (has_first_round old.draws) → PlacesPut old change
      → PlacesFit new.schools new.children new.applications new.places (has_first_round new.draws)
  places_fit places put = record {
    each = AllRows-put_all nat_cmp_total nat_cmp-IsAntisymmetric (λ (p : PlaceRow). p.child)
        (PlaceFits new.schools new.children new.applications (has_first_round new.draws)) (cut_all old.places change.vacated) change.places
        (λ number row there still.
        let before = there_before nat_cmp_total old.places change.vacated number row there in
        let fits = places.each number row before in
        let same : get new.applications row.child ≡ get old.applications row.child = subst (λ n. get new.applications n ≡ get old.applications n) (sym fits.own_number)
        (put.kept number row before still) in
        PlaceFits-grows old.schools new.schools old.children new.children more_schools more_children old.applications new.applications (has_first_round old.draws)
        (has_first_round new.draws) more_rounds number row same fits) put.places;
    room = put.room;
  }

  -- the draws fit after the change
  draws_fit : DrawsFit old.season old.schools old.children old.draws → DrawsPut old change → DrawsFit new.season new.schools new.children new.draws
  draws_fit draws put =
      let own : AllRows (λ number (d : Draw). d.number ≡ number) old.draws = λ number draw there. (draws.each number draw there).own_number in
      record {
        each = AllRows-put_all nat_cmp_total nat_cmp-IsAntisymmetric (λ (d : Draw). d.number) (DrawFits new.schools new.children) old.draws change.draws
            (λ number draw there still. DrawFits-grows old.schools new.schools old.children new.children more_schools more_children number draw (draws.each number draw there)) put.each;
        in_order = ap (are_in_order old.season no_draws) (values_put old.draws old.season change.draws own draws.in_order put.in_order)
            ∙ are_in_order-append old.season no_draws (values old.draws) change.draws draws.in_order put.in_order;
      }

  -- a child's place is not at a school that it had left
  not_held : LeftFits old.schools old.children old.places old.left → LeftPut old change → (number : ℕ) (row : PlaceRow) → get new.places number ≡ Some row
      → (school : List ℕ) → contains_key old.left (record { child = number; school = school }) ≡ true → is_unplanned_at (Some row) school ≡ false
  not_held left put = AllRows-put_all nat_cmp_total nat_cmp-IsAntisymmetric (λ (p : PlaceRow). p.child) (λ number row. (school : List ℕ)
      → contains_key old.left (record { child = number; school = school }) ≡ true → is_unplanned_at (Some row) school ≡ false)
      (cut_all old.places change.vacated) change.places
      (λ number row there still school gone. was number row (there_before nat_cmp_total old.places change.vacated number row there) school gone) (each change.places put.places)
    where
      absent : (b : Bool) → not b ≡ true → b ≡ false
      absent true e = cc
      absent false e = refl

      was : (number : ℕ) (row : PlaceRow) → get old.places number ≡ Some row → (school : List ℕ)
          → contains_key old.left (record { child = number; school = school }) ≡ true → is_unplanned_at (Some row) school ≡ false
      was number row there school gone =
          let pair : LeftPair = record { child = number; school = school } in
          elim (get old.left pair) as (λ o. get old.left pair ≡ o → is_some o ≡ true → is_unplanned_at (Some row) school ≡ false) [
            | None ↦ λ is some. cc
            | Some other ↦ λ is some.
                let fits = left pair other is in
                let none = subst (λ (p : LeftPair). not (is_unplanned_at (get old.places p.child) p.school) ≡ true) fits.own_key fits.no_place in
                absent _ (subst (λ o. not (is_unplanned_at o school) ≡ true) there none)
          ] refl gone

      new_one : (row : PlaceRow) → (is_plan row.place.state || not (contains_key old.left (record { child = row.child; school = row.place.school }))) ≡ true
          → (school : List ℕ) → contains_key old.left (record { child = row.child; school = school }) ≡ true → is_unplanned_at (Some row) school ≡ false
      new_one row apart school gone =
          elim (pointwise nat_eq row.place.school school) as (λ b. pointwise nat_eq row.place.school school ≡ b → (b && not (is_plan row.place.state)) ≡ false) [
            | false ↦ λ is. refl
            | true ↦ λ is.
                let same = (bytes_decides row.place.school school).0 is in
                let there = subst (λ code. contains_key old.left (record { child = row.child; school = code }) ≡ true) (sym same) gone in
                planned (is_plan row.place.state) _ apart there
          ] refl
        where
          planned : (plan left : Bool) → (plan || not left) ≡ true → left ≡ true → not plan ≡ false
          planned true left one other = refl
          planned false true one other = cc
          planned false false one other = cc

      each : (them : List PlaceRow) → AllByRecursion (λ (p : PlaceRow). (is_plan p.place.state || not (contains_key old.left (record { child = p.child; school = p.place.school }))) ≡ true) them
          → AllByRecursion (λ (p : PlaceRow). (school : List ℕ) → contains_key old.left (record { child = p.child; school = school }) ≡ true → is_unplanned_at (Some p) school ≡ false) them
      each [] all = tt
      each (row ∷ them) all = (new_one row all.0, each them all.1)

  -- the left pairs fit after the change
  left_fit : LeftFits old.schools old.children old.places old.left → LeftPut old change → LeftFits new.schools new.children new.places new.left
  left_fit left put = AllRows-put_all left_cmp-total left_cmp-IsAntisymmetric (λ (p : LeftPair). p) (LeftPairFits new.schools new.children new.places) old.left change.left
      (λ key pair there still.
      let fits = left key pair there in
      let here : contains_key old.left pair ≡ true = subst (λ k. contains_key old.left k ≡ true) (sym fits.own_key) (ap is_some there) in
      record {
        own_key = fits.own_key;
        child = more_children pair.child fits.child;
        school = more_schools pair.school fits.school;
        no_place = free pair here (get new.places pair.child) refl;
      }) put.left
    where
      free : (pair : LeftPair) → contains_key old.left pair ≡ true → (o : Option PlaceRow) → get new.places pair.child ≡ o → not (is_unplanned_at (get new.places pair.child) pair.school) ≡ true
      free pair here None is = ap (λ o. not (is_unplanned_at o pair.school)) is
      free pair here (Some row) is = ap (λ o. not (is_unplanned_at o pair.school)) is ∙ ap not (not_held left put pair.child row is pair.school here)

  -- the imported rows fit after the change
  imported_fit : ImportedFit old.season old.schools old.children old.imported → ImportedPut old change → ImportedFit new.season new.schools new.children new.imported
  imported_fit imported put = AllRows-put_all nat_cmp_total nat_cmp-IsAntisymmetric (λ (r : ImportRow). r.child.no)
      (ImportFits old.season.size (lists_end old.season) new.schools new.children) old.imported change.imported
      (λ number row there still. ImportFits-grows old.schools new.schools old.children new.children more_schools more_children old.season.size (lists_end old.season) number row (imported number row there)) put.each

  -- so the state after the change is a register
  pub after-keeps : WellFormed old → Fit old change → WellFormed new
  after-keeps well fit = record {
    base = base_fits well.base fit.base;
    places = places_fit well.places fit.places;
    left = left_fit well.left fit.left;
    draws = draws_fit well.draws fit.draws;
    imported = imported_fit well.imported fit.imported;
  }

  -- the draws that it puts are counted on
  pub after-so_far : WellFormed old → Fit old change → draws_so_far new ≡ count_draws (draws_so_far old) change.draws
  after-so_far well fit =
      ap (count_draws no_draws) (values_put old.draws old.season change.draws (λ number draw there. (well.draws.each number draw there).own_number) well.draws.in_order fit.draws.in_order)
      ∙ with_draws-append no_draws (values old.draws) change.draws

  -- and what every command leaves is as it was
  pub after-extends : WellFormed old → Fit old change → Extends old new
  after-extends well fit = record {
    season = refl;
    schools = more_schools;
    children = more_children;
    left = put_all-grows left_cmp-total (λ (p : LeftPair). p) old.left change.left;
    draws = all_stay nat_cmp_total nat_cmp-IsAntisymmetric (λ (d : Draw). d.number) old.draws change.draws
        (new_draws old.draws old.season change.draws (λ number draw there. (well.draws.each number draw there).own_number) well.draws.in_order fit.draws.in_order);
    imported = all_stay nat_cmp_total nat_cmp-IsAntisymmetric (λ (r : ImportRow). r.child.no) old.imported change.imported fit.imported.new_rows;
  }

  -- each school is kept where those that are written are new or keep what was
  pub after-keeps_schools : BasePut old change → KeepsSchools old new
  after-keeps_schools base = λ code was now there here. each code now here was there
    where
      kept : (school : School) → IsRaised school school
      kept school = record { number = omega arith; others = refl }

      each : AllRows (λ code now. (was : School) → get old.schools code ≡ Some was → IsRaised was now) new.schools
      each = AllRows-put_all nat_list_cmp_total code_cmp-IsAntisymmetric (λ (s : School). s.code) (λ code now. (was : School) → get old.schools code ≡ Some was
          → IsRaised was now) old.schools change.schools
          (λ code row there still was same. subst (λ it. IsRaised it row) (same_Some row was (sym there ∙ same)) (kept row)) base.kept_schools

-- Two registers with the same document are the same but for lots and imported rows.
use Rattle.std.proofs.Common.{◌≡◌, ◌∙◌, ap, sym, subst, refl, ℕ, ◌≤◌, Bool, true, filter, Option, Some, None, is_some, eq-eqb, arith, codes}
use Rattle.std.specs.Prelude.{nat_eq, nat_le, option_map}
use Rattle.std.specs.Cmp.{nat_cmp_total}
use Rattle.std.specs.Cmp.Lexicographic.{nat_list_cmp_total}
use Rattle.std.specs.FinMap as rows
use Rattle.std.specs.FinMap.{values, contains_key, same_map, nat_cmp-IsAntisymmetric}
use Rattle.std.proofs.lemmas.Bool.{and_parts, eqb-true, false≢true}
use Rattle.std.proofs.lemmas.Bool.Decides.{nat_tests}
use Rattle.std.proofs.lemmas.Option.{same_Some}
use Rattle.serde_json.specs.Data.{string}
use Rattle.serde_json.specs.Find.{get}
use Rattle.serde_json.proofs.OnLiterals.{serde_json_on_literals}
use Rattle.adm_lists.proofs.Members.{In, in_map, from_map, in_filter, from_filter}
use Rattle.adm_lists.proofs.Maps.{in_values}
use Rattle.adm_types.specs.Numbers.{first_day}
use Rattle.adm_types.specs.Seasons.{lists_end}
use Rattle.adm_types.specs.declared.rows.School.{School}
use Rattle.adm_types.specs.declared.rows.Child.{Child}
use Rattle.adm_types.specs.declared.rows.LeftPair.{LeftPair}
use Rattle.adm_types.specs.declared.draws.Draw.{Draw}
use Rattle.adm_register.specs.State.{State}
use Rattle.adm_register.specs.Rows.{place_of}
use Rattle.adm_register.specs.WellFormed.{WellFormed}
use Rattle.adm_register.proofs.Maps.{code_cmp-IsAntisymmetric, left_cmp-total, left_cmp-IsAntisymmetric}
use Rattle.adm_register.proofs.RoundKeys.{from_values}
use Rattle.adm_view.specs.Writing.{list_data}
use Rattle.adm_view.specs.Children.{place_data, application_data, left_of, child_data, children_data}
use Rattle.adm_view.specs.Schools.{school_data, schools_data}
use Rattle.adm_view.specs.Draws.{draw_data, draws_data}
use Rattle.adm_view.specs.Season.{season_data}
use Rattle.adm_view.specs.Register.{register_data}
use Rattle.adm_view_laws.specs.Alike.{without_lots, DocumentDeterminesRegister}
use Rattle.adm_view_laws.proofs.Values.{same_images, same_items, same_forms, same_text}
use Rattle.adm_view_laws.proofs.DeterminedMaps.{agree, absent, map_determined, images_determined}
use Rattle.adm_view_laws.proofs.ShownChildren.{shown}
use Rattle.adm_view_laws.proofs.DeterminedChildren.{same_child, IsApplicationOf, same_application, IsPlaceOf, same_place}
use Rattle.adm_view_laws.proofs.DeterminedSchools.{same_school}
use Rattle.adm_view_laws.proofs.DeterminedDraws.{same_draw}
use Rattle.adm_view_laws.proofs.DeterminedSeason.{same_season}

-- ---- the four parts of the document

module _ (a b : State) (e : register_data a ≡ register_data b) where
  children_part : children_data a ≡ children_data b
  unfolding serde_json_on_literals
  children_part = same_Some (children_data a) (children_data b) (ap (get (codes "children")) e)

  draws_part : draws_data a ≡ draws_data b
  unfolding serde_json_on_literals
  draws_part = same_Some (draws_data a) (draws_data b) (ap (get (codes "draws")) e)

  schools_part : schools_data a ≡ schools_data b
  unfolding serde_json_on_literals
  schools_part = same_Some (schools_data a) (schools_data b) (ap (get (codes "schools")) e)

  season_part : season_data a.season ≡ season_data b.season
  unfolding serde_json_on_literals
  season_part = same_Some (season_data a.season) (season_data b.season) (ap (get (codes "season")) e)

-- ---- rows of a register

-- a key that is there has a row
row_at_key : {V : Type 0} (o : Option V) → is_some o ≡ true → (v : V) × (o ≡ Some v)
row_at_key None there = absurd (false≢true there)
row_at_key (Some v) there = (v, refl)

module _ (s : State) (well : WellFormed s) where
  child_own : (k : ℕ) (c : Child) → rows.get s.children k ≡ Some c → c.no ≡ k
  child_own k c there = (well.base.children_fit k c there).own_number

  -- no row names a child that is not there
  unknown : (k : ℕ) → rows.get s.children k ≡ None → contains_key s.children k ≡ true → ⊥
  unknown k none there = false≢true (sym (ap is_some none) ∙ there)

  no_application : (k : ℕ) → rows.get s.children k ≡ None → rows.get s.applications k ≡ None
  no_application k none = absent (rows.get s.applications k) (λ application there.
      let fits = well.base.applications_fit k application there in
      unknown k none (subst (λ n. contains_key s.children n ≡ true) fits.own_number fits.child))

  no_place : (k : ℕ) → rows.get s.children k ≡ None → rows.get s.places k ≡ None
  no_place k none = absent (rows.get s.places k) (λ row there.
      let fits = well.places.each k row there in
      unknown k none (subst (λ n. contains_key s.children n ≡ true) fits.own_number fits.child))

  application_fits : (k : ℕ) → IsApplicationOf k (rows.get s.applications k)
  application_fits k application there =
      let fits = well.base.applications_fit k application there in
      let from : nat_le first_day application.day ≡ true = (and_parts (nat_le first_day application.day) (nat_le application.day (lists_end s.season)) fits.day).0 in
      (fits.own_number, grind (arith, nat_tests))

  place_fits : (k : ℕ) → IsPlaceOf k (rows.get s.places k)
  place_fits k row there = let fits = well.places.each k row there in (fits.own_number, fits.state)

  draw_from : (k : ℕ) (draw : Draw) → rows.get s.draws k ≡ Some draw → first_day ≤ draw.day
  draw_from k draw there = let from : nat_le first_day draw.day ≡ true = (well.draws.each k draw there).day in grind (arith, nat_tests)

-- ---- two registers with the same document

module _ (a b : State) (first : WellFormed a) (second : WellFormed b) (e : register_data a ≡ register_data b) where
  children_same : a.children ≡ b.children
  children_same =
      map_determined nat_cmp_total nat_cmp-IsAntisymmetric (λ (c : Child). c.no) a.children b.children (child_own a first) (child_own b second) (child_data a) (child_data b)
      (λ c d there here same.
      let fits = first.base.children_fit c.no c there in
      let suits = second.base.children_fit d.no d here in
      same_child a b c d fits.in_range suits.in_range fits.flags suits.flags same) (children_part a b e)

  schools_same : a.schools ≡ b.schools
  schools_same =
      map_determined nat_list_cmp_total code_cmp-IsAntisymmetric (λ (x : School). x.code) a.schools b.schools (λ k x there. (first.base.schools_fit k x there).own_code)
      (λ k x there. (second.base.schools_fit k x there).own_code) (school_data a) (school_data b)
      (λ x y there here same. same_school a b x y (first.base.schools_fit x.code x there).in_range (second.base.schools_fit y.code y here).in_range same) (schools_part a b e)

  season_same : a.season ≡ b.season
  season_same = same_season a.season b.season first.base.season_is second.base.season_is (season_part a b e)

  draws_same : (k : ℕ) → option_map without_lots (rows.get a.draws k) ≡ option_map without_lots (rows.get b.draws k)
  draws_same =
      images_determined nat_cmp_total nat_cmp-IsAntisymmetric (λ (d : Draw). d.number) without_lots (λ d. refl) a.draws b.draws (λ k d there. (first.draws.each k d there).own_number)
      (λ k d there. (second.draws.each k d there).own_number)
      (same_images draw_data draw_data without_lots (values a.draws) (values b.draws) (λ x y i j same.
      same_draw x y
      (draw_from a first x.number x (from_values nat_cmp_total nat_cmp-IsAntisymmetric a.draws (λ (d : Draw). d.number) (λ k d there. (first.draws.each k d there).own_number) x i))
      (draw_from b second y.number y (from_values nat_cmp_total nat_cmp-IsAntisymmetric b.draws (λ (d : Draw). d.number) (λ k d there. (second.draws.each k d there).own_number) y j)) same)
      (draws_part a b e))

  -- the data of each child are the same in both
  each_child : (k : ℕ) (c : Child) → rows.get a.children k ≡ Some c → child_data a c ≡ child_data b c
  each_child k c there =
      same_forms (child_data a) (child_data b) (values a.children)
      (subst (λ m. list_data (child_data a) (values a.children) ≡ list_data (child_data b) (values m)) (sym children_same) (children_part a b e)) c
      (in_values nat_cmp_total nat_cmp-IsAntisymmetric a.children k c there)

  applications_same : a.applications ≡ b.applications
  applications_same = same_map nat_cmp_total nat_cmp-IsAntisymmetric a.applications b.applications (λ k. at_key k (rows.get a.children k) refl)
    where
      at_key : (k : ℕ) (o : Option Child) → rows.get a.children k ≡ o → rows.get a.applications k ≡ rows.get b.applications k
      at_key k None is = no_application a first k is ∙ sym (no_application b second k (sym (ap (λ m. rows.get m k) children_same) ∙ is))
      at_key k (Some c) is =
          let parts : application_data a c (rows.get a.applications c.no) ≡ application_data b c (rows.get b.applications c.no) =
          same_Some (application_data a c (rows.get a.applications c.no)) (application_data b c (rows.get b.applications c.no))
          (sym (shown a c).application ∙ ap (get (codes "application")) (each_child k c is) ∙ (shown b c).application) in
          subst (λ n. rows.get a.applications n ≡ rows.get b.applications n) (child_own a first k c is)
          (same_application a b c (rows.get a.applications c.no) (rows.get b.applications c.no) (application_fits a first c.no) (application_fits b second c.no) parts)

  places_same : a.places ≡ b.places
  places_same = same_map nat_cmp_total nat_cmp-IsAntisymmetric a.places b.places (λ k. at_key k (rows.get a.children k) refl)
    where
      at_key : (k : ℕ) (o : Option Child) → rows.get a.children k ≡ o → rows.get a.places k ≡ rows.get b.places k
      at_key k None is = no_place a first k is ∙ sym (no_place b second k (sym (ap (λ m. rows.get m k) children_same) ∙ is))
      at_key k (Some c) is =
          let parts : place_data (place_of a c.no) ≡ place_data (place_of b c.no) =
          same_Some (place_data (place_of a c.no)) (place_data (place_of b c.no)) (sym (shown a c).place ∙ ap (get (codes "place")) (each_child k c is) ∙ (shown b c).place) in
          subst (λ n. rows.get a.places n ≡ rows.get b.places n) (child_own a first k c is)
          (same_place c.no (rows.get a.places c.no) (rows.get b.places c.no) (place_fits a first c.no) (place_fits b second c.no) parts)

  -- the schools that a child left are the same in both
  left_codes : (k : ℕ) (c : Child) → rows.get a.children k ≡ Some c → left_of a k ≡ left_of b k
  left_codes k c is =
      let parts : list_data string (left_of a c.no) ≡ list_data string (left_of b c.no) =
      same_Some (list_data string (left_of a c.no)) (list_data string (left_of b c.no)) (sym (shown a c).left ∙ ap (get (codes "left")) (each_child k c is) ∙ (shown b c).left) in
      subst (λ n. left_of a n ≡ left_of b n) (child_own a first k c is) (same_items string string (left_of a c.no) (left_of b c.no) (λ x y i j. same_text x y) parts)

  -- so each pair of one is a pair of the other
  left_too : (key pair : LeftPair) → rows.get a.left key ≡ Some pair → rows.get b.left key ≡ Some pair
  left_too key pair there =
      let fits = first.left key pair there in
      let child = row_at_key (rows.get a.children pair.child) fits.child in
      let mine : LeftPair → Bool = λ (p : LeftPair). nat_eq p.child pair.child in
      let own : mine pair ≡ true = eq-eqb pair.child pair.child refl in
      let listed : In pair.school (left_of a pair.child) =
      in_map (λ (p : LeftPair). p.school) (filter mine (values a.left)) pair (in_filter mine (values a.left) pair (in_values left_cmp-total left_cmp-IsAntisymmetric a.left key pair there) own) in
      let too : In pair.school (left_of b pair.child) = subst (In pair.school) (left_codes pair.child child.0 child.1) listed in
      let found = from_map (λ (p : LeftPair). p.school) (filter mine (values b.left)) pair.school too in
      let kept = from_filter mine (values b.left) found.0 found.1 in
      let number : found.0.child ≡ pair.child = eqb-true found.0.child pair.child kept.1 in
      let same : found.0 ≡ pair = λ i. record { child = number i; school = found.2 i } in
      let here : rows.get b.left found.0 ≡ Some found.0 =
      from_values left_cmp-total left_cmp-IsAntisymmetric b.left (λ (p : LeftPair). p) (λ k p at. (second.left k p at).own_key) found.0 kept.0 in
      subst (λ p. rows.get b.left p ≡ Some pair) fits.own_key (subst (λ p. rows.get b.left p ≡ Some p) same here)

pub determined : DocumentDeterminesRegister
determined a b first second e = record {
  season = season_same a b first second e;
  schools = schools_same a b first second e;
  children = children_same a b first second e;
  applications = applications_same a b first second e;
  places = places_same a b first second e;
  left = same_map left_cmp-total left_cmp-IsAntisymmetric a.left b.left
      (λ key. agree (rows.get a.left key) (rows.get b.left key) (left_too a b first second e key) (left_too b a second first (sym e) key));
  draws = draws_same a b first second e;
}

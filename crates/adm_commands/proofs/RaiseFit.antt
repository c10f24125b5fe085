-- A school whose admission number is raised fits the register.
use Rattle.std.proofs.Common.{◌≡◌, ◌∙◌, ◌+◌, ◌≤◌, ap, sym, subst, refl, cond, true, arith, ℕ, List, [], ◌∷◌, Some, None}
use Rattle.std.specs.Prelude.{◌&&◌, nat_le, is_some, length, Option}
use Rattle.std.specs.List.{list_all}
use Rattle.std.specs.Cmp.Lexicographic.{nat_list_cmp_total}
use Rattle.std.specs.FinMap.{get, insert, len, len-insert}
use Rattle.std.proofs.lemmas.Bool.{leb-true, and_parts}
use Rattle.std.proofs.lemmas.Option.{same_Some}
use Rattle.adm_types.specs.Limits.{is_on_map, is_pan}
use Rattle.adm_types.specs.Criteria.{is_criterion}
use Rattle.adm_types.specs.declared.rows.School.{School}
use Rattle.adm_register.specs.State.{State}
use Rattle.adm_register.specs.Change.{no_change, after}
use Rattle.adm_register.specs.Extends.{IsRaised}
use Rattle.adm_register.specs.Fits.{Fit}
use Rattle.adm_register.specs.WellFormed.{WellFormed, places_outside_plans}
use Rattle.adm_register.proofs.Maps.{code_cmp-IsAntisymmetric}
use Rattle.adm_register.proofs.Puts.{AllRows-put_all}
use Rattle.adm_register.proofs.Tidy.{tidy_none, tidy_put}
use Rattle.adm_commands.specs.Commands.RaisePan.{tests, may_have, with_pan, change_of}
use Rattle.adm_types.specs.declared.commands.Refusal.TheVariants as refusal
use Rattle.adm_commands.proofs.Passed.{passed}
use Rattle.adm_commands.specs.Tests.{first_failing}
use Rattle.adm_commands.proofs.Accepted.{draws_stay}
use Rattle.adm_commands.proofs.PutAgain.{get-insert_same, insert_again}

module _ (old : State) (school : List ℕ) (pan : ℕ) (well : WellFormed old) where
  -- a school that is there, whose number is not larger than the new one
  module _ (row : School) (there : get old.schools school ≡ Some row) (may : (is_pan pan && nat_le row.pan pan) ≡ true) where
    abbrev now : School
    now = record row { pan = pan }

    here : get old.schools row.code ≡ Some row
    here = ap (get old.schools) (well.base.schools_fit school row there).own_code ∙ there

    row-fit : Fit old (record no_change { schools = now ∷ [] })
    row-fit =
        let parts = and_parts (is_pan pan) (nat_le row.pan pan) may in
        let least = leb-true _ _ parts.1 in
        let fits = well.base.schools_fit school row there in
        let third = and_parts (is_pan row.pan && is_on_map row.at && nat_le (length row.criteria) 8) (list_all is_criterion row.criteria) fits.in_range in
        let second = and_parts (is_pan row.pan && is_on_map row.at) (nat_le (length row.criteria) 8) third.0 in
        let first = and_parts (is_pan row.pan) (is_on_map row.at) second.0 in
        let same_len = len-insert nat_list_cmp_total old.schools row.code now ∙ ap (λ b. cond b (len old.schools) (len old.schools + 1)) (ap is_some here) in
        record {
          base = record {
            schools = (record { own_code = refl; code_form = fits.code_form; text = fits.text; name = fits.name; in_range = λ i. parts.0 i && first.1 i && second.1 i && third.1 i; of_size = fits.of_size }, tt);
            kept_schools = (λ was same. subst (λ w. IsRaised w now) (same_Some row was (sym here ∙ same)) (record { number = least; others = refl }), tt);
            few_schools = rw same_len well.base.few_schools;
            children = tt;
            few_children = tt;
            applications = tt;
          };
          places = record {
            places = tt;
            kept = λ number place was still. refl;
            room = AllRows-put_all nat_list_cmp_total code_cmp-IsAntisymmetric (λ (s : School). s.code) (λ code (s : School). places_outside_plans old.places code ≤ s.pan) old.schools (now ∷ [])
                (λ code s was still. well.places.room code s was) (let room = well.places.room row.code row here in omega (arith, room, least), tt);
          };
          left = record { left = tt; places = tt };
          draws = draws_stay old (record no_change { schools = now ∷ [] }) refl;
          imported = record { each = tt; new_rows = tt };
          tidy = record {
            schools = tidy_put _ _ now;
            children = tidy_none _ _;
            applications = tidy_none _ _;
            places = tidy_none _ _;
            left = tidy_none _ _;
            draws = tidy_none _ _;
            imported = tidy_none _ _;
          };
        }

    -- raised to the same number again it stays as it is
    row-again : after (after old (record no_change { schools = now ∷ [] })) (change_of (after old (record no_change { schools = now ∷ [] })) school pan) ≡ after old
        (record no_change { schools = now ∷ [] })
    unfolding change_of
    row-again =
        let own = (well.base.schools_fit school row there).own_code in
        let raised : get (insert old.schools row.code now) school ≡ Some now = ap (get (insert old.schools row.code now)) (sym own) ∙ get-insert_same nat_list_cmp_total old.schools row.code now in
        ap (λ o. after (after old (record no_change { schools = now ∷ [] })) (record no_change { schools = with_pan o pan })) raised
        ∙ (λ i. record old { schools = insert_again nat_list_cmp_total code_cmp-IsAntisymmetric old.schools row.code now i })

  pub raise_pan-fit : first_failing (tests old school pan) ≡ None → Fit old (change_of old school pan)
  unfolding tests change_of
  raise_pan-fit passes = by (get old.schools school) refl (passed (tests old school pan) passes refusal.OutOfRange)
    where
      by : (o : Option School) → get old.schools school ≡ o → may_have o pan ≡ true → Fit old (record no_change { schools = with_pan o pan })
      by None there may = cc
      by (Some row) there may = row-fit row there may

  -- what is raised is raised no further
  abbrev Again : Option School → Type 0
  Again o = after (after old (record no_change { schools = with_pan o pan }))
      (change_of (after old (record no_change { schools = with_pan o pan })) school pan) ≡ after old (record no_change { schools = with_pan o pan })

  pub raise_pan-again : first_failing (tests old school pan) ≡ None
      → after (after old (change_of old school pan)) (change_of (after old (change_of old school pan)) school pan) ≡ after old (change_of old school pan)
  unfolding tests change_of
  raise_pan-again passes = by (get old.schools school) refl (passed (tests old school pan) passes refusal.OutOfRange)
    where
      by : (o : Option School) → get old.schools school ≡ o → may_have o pan ≡ true → Again o
      by None there may = cc
      by (Some row) there may = row-again row there may

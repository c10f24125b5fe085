-- The document has no float and nests little, so that its text is that of its data and reads back.
use Rattle.std.proofs.Common.{◌≡◌, refl, ℕ, ◌+◌, ◌≤◌, List, [], ◌∷◌, map, Bool, true, false, ◌||◌, Option, Some, None, Ordering, Less, Equal, Greater, cond, codes, arith}
use Rattle.std.specs.Prelude.{nat_eq}
use Rattle.std.specs.Ordering.{nat_cmp, match_ordering}
use Rattle.std.specs.Cmp.Lexicographic.{slice_cmp}
use Rattle.std.specs.FinMap.{get, values}
use Rattle.std.proofs.lemmas.Bool.{or_parts}
use Rattle.serde_json.specs.Data.{Data, null, boolean, number, unsigned, string, object, Members, no_members, member, put, depth, items_depth, members_depth}
use Rattle.serde_json.specs.Written.{has_float, items_have_float, members_have_float}
use Rattle.serde_json.specs.View.{items_of}
use Rattle.adm_types.specs.declared.rows.School.{School}
use Rattle.adm_types.specs.declared.rows.Child.{Child}
use Rattle.adm_types.specs.declared.rows.Application.{Application}
use Rattle.adm_types.specs.declared.rows.Place.{Place}
use Rattle.adm_types.specs.declared.rows.PlaceState.{PlaceState}
use Rattle.adm_types.specs.declared.rows.PlaceState.TheVariants.{Offered, Accepted, Plan}
use Rattle.adm_types.specs.declared.draws.Draw.{Draw}
use Rattle.adm_types.specs.declared.draws.Lot.{Lot}
use Rattle.adm_types.specs.declared.draws.Outcome.{Outcome}
use Rattle.adm_types.specs.Seasons.{SeasonFacts}
use Rattle.adm_types.specs.declared.seasons.Size.{Size}
use Rattle.adm_types.specs.declared.seasons.Size.TheVariants.{Standard, Large}
use Rattle.adm_fields.specs.Lists.{child_fields, optional_fields}
use Rattle.adm_fields.specs.Records.{child_values}
use Rattle.adm_register.specs.State.{State}
use Rattle.adm_register.specs.Rows.{place_of}
use Rattle.adm_register.specs.declared.standings.Standing.{Standing}
use Rattle.adm_register.specs.Waits.{standing_of}
use Rattle.adm_view.specs.Writing.{number_data, list_data, code_or_empty, is_left_out, put_field, members}
use Rattle.adm_view.specs.Children.{day_or_null, offered_data, reminded_data, place_data, rank_members, wait_members, preference_data, application_data, child_data}
use Rattle.adm_view.specs.Schools.{school_data}
use Rattle.adm_cutoffs.specs.Cutoffs.{cutoffs_of, refusals_of}
use Rattle.adm_cutoffs.specs.declared.cutoffs.Cutoff.{Cutoff}
use Rattle.adm_cutoffs.specs.declared.reasons.Reason.{Reason}
use Rattle.adm_cutoffs.specs.declared.refusals.Refusal.{Refusal}
use Rattle.adm_view.specs.Draws.{code_or_null, outcome_data, lot_data, draw_members, draw_data, cutoff_data, reason_or_null, refusal_data, draw_data_with_lots}
use Rattle.adm_view.specs.Season.{season_members, size_members, season_data}
use Rattle.adm_view.specs.Register.{register_data}

-- no float, and arrays and objects nest at most so deep
pub record IsPlain (n : ℕ) (d : Data) : Type 0 where
  pub no_float : has_float d ≡ false
  pub shallow : depth d ≤ n

pub record ArePlain (n : ℕ) (ms : Members) : Type 0 where
  pub no_float : members_have_float ms ≡ false
  pub shallow : members_depth ms ≤ n

-- ---- values that do not nest

plain_null : (n : ℕ) → IsPlain n null
plain_null n = record { no_float = refl; shallow = omega arith }

plain_truth : (n : ℕ) (b : Bool) → IsPlain n (boolean b)
plain_truth n b = record { no_float = refl; shallow = omega arith }

plain_number : (n k : ℕ) → IsPlain n (number (unsigned k))
plain_number n k = record { no_float = refl; shallow = omega arith }

plain_text : (n : ℕ) (s : List ℕ) → IsPlain n (string s)
plain_text n s = record { no_float = refl; shallow = omega arith }

-- ---- arrays and objects

module _ {A : Type 0} (form : A → Data) (n : ℕ) (each : (x : A) → IsPlain n (form x)) where
  items_plain : (xs : List A) → (items_have_float (items_of (map form xs)) ≡ false) × (items_depth (items_of (map form xs)) ≤ n)
  items_plain [] = (refl, omega arith)
  items_plain (x ∷ xs) = let p = each x in let q = items_plain xs in (λ i. p.no_float i || q.0 i, omega (arith, p.shallow, q.1))

  plain_list : (xs : List A) → IsPlain (n + 1) (list_data form xs)
  plain_list xs = let q = items_plain xs in record { no_float = q.0; shallow = omega (arith, q.1) }

plain_object : (n : ℕ) (ms : Members) → ArePlain n ms → IsPlain (n + 1) (object ms)
plain_object n ms q = record { no_float = q.no_float; shallow = omega (arith, q.shallow) }

no_more : (n : ℕ) → ArePlain n no_members
no_more n = record { no_float = refl; shallow = omega arith }

and_member : (n : ℕ) (k : List ℕ) (d : Data) (ms : Members) → IsPlain n d → ArePlain n ms → ArePlain n (member k d ms)
and_member n k d ms p q = record { no_float = λ i. p.no_float i || q.no_float i; shallow = omega (arith, p.shallow, q.shallow) }

first_member : (n : ℕ) (k : List ℕ) (d : Data) (ms : Members) → ArePlain n (member k d ms) → IsPlain n d
first_member n k d ms q = record { no_float = (or_parts (has_float d) (members_have_float ms) q.no_float).0; shallow = omega (arith, q.shallow) }

other_members : (n : ℕ) (k : List ℕ) (d : Data) (ms : Members) → ArePlain n (member k d ms) → ArePlain n ms
other_members n k d ms q = record { no_float = (or_parts (has_float d) (members_have_float ms) q.no_float).1; shallow = omega (arith, q.shallow) }

chosen : (n : ℕ) (o : Ordering) (a b c : Members) → ArePlain n a → ArePlain n b → ArePlain n c → ArePlain n (match_ordering o a b c)
chosen n Less a b c p q r = p
chosen n Equal a b c p q r = q
chosen n Greater a b c p q r = r

put_plain : (n : ℕ) (k : List ℕ) (d : Data) (ms : Members) → IsPlain n d → ArePlain n ms → ArePlain n (put k d ms)
put_plain n k d no_members p q = and_member n k d no_members p q
put_plain n k d (member l e ms) p q =
    let rest = other_members n l e ms q in
    chosen n (slice_cmp nat_cmp k l) (member k d (member l e ms)) (member l d ms) (member l e (put k d ms)) (and_member n k d (member l e ms) p q) (and_member n l d ms p rest)
    (and_member n l e (put k d ms) (first_member n l e ms q) (put_plain n k d ms p rest))

either_members : (n : ℕ) (b : Bool) (a c : Members) → ArePlain n a → ArePlain n c → ArePlain n (cond b a c)
either_members n true a c p q = p
either_members n false a c p q = q

put_field_plain : {A : Type 0} (n : ℕ) (otherwise : Option A) (k : List ℕ) (d : Data) (ms : Members) → IsPlain n d → ArePlain n ms → ArePlain n (put_field otherwise k d ms)
put_field_plain n otherwise k d ms p q = either_members n (is_left_out otherwise d) ms (put k d ms) q (put_plain n k d ms p q)

-- ---- children

plain_day_or_null : (n : ℕ) (day : Option ℕ) → IsPlain n (day_or_null day)
plain_day_or_null n None = plain_null n
plain_day_or_null n (Some day) = plain_text n _

plain_offered : (n : ℕ) (state : PlaceState) → IsPlain n (offered_data state)
plain_offered n (Offered day reminded) = plain_text n _
plain_offered n Accepted = plain_null n
plain_offered n Plan = plain_null n

plain_reminded : (n : ℕ) (state : PlaceState) → IsPlain n (reminded_data state)
plain_reminded n (Offered day reminded) = plain_day_or_null n reminded
plain_reminded n Accepted = plain_null n
plain_reminded n Plan = plain_null n

plain_place : (n : ℕ) (place : Option Place) → IsPlain (n + 1) (place_data place)
plain_place n None = plain_null (n + 1)
plain_place n (Some place) =
    plain_object n _ (and_member n _ _ _ (plain_text n _) (and_member n _ _ _ (plain_offered n place.state) (and_member n _ _ _ (plain_reminded n place.state) (and_member n _ _ _ (plain_text n _) (no_more n)))))

plain_rank : (n : ℕ) (school : Option School) (child : Child) → ArePlain n (rank_members school child)
plain_rank n None child = no_more n
plain_rank n (Some school) child = and_member n _ _ _ (plain_number n _) (and_member n _ _ _ (plain_number n _) (no_more n))

plain_wait : (n : ℕ) (standing : Option Standing) (others : Members) → ArePlain n others → ArePlain n (wait_members standing others)
plain_wait n None others q = q
plain_wait n (Some standing) others q =
    put_plain n (codes "position") (number_data standing.entry.position) (put (codes "of") (number_data standing.many) others) (plain_number n _) (put_plain n (codes "of") (number_data standing.many) others (plain_number n _) q)

plain_preference : (n : ℕ) (s : State) (child : Child) (code : List ℕ) → IsPlain (n + 1) (preference_data s child code)
plain_preference n s child code =
    let ranked = rank_members (get s.schools code) child in
    let waits = wait_members (standing_of s child.no code) ranked in
    plain_object n _ (put_plain n (codes "state") _ (put (codes "school") (string code) waits) (plain_text n _) (put_plain n (codes "school") (string code) waits (plain_text n _)
    (plain_wait n (standing_of s child.no code) ranked (plain_rank n (get s.schools code) child))))

plain_application : (n : ℕ) (s : State) (child : Child) (application : Option Application) → IsPlain (n + 1 + 1 + 1) (application_data s child application)
plain_application n s child None = plain_null _
plain_application n s child (Some application) =
    plain_object (n + 1 + 1) _ (and_member (n + 1 + 1) _ _ _ (plain_text _ _) (and_member (n + 1 + 1) _ _ _ (plain_list (preference_data s child) (n + 1) (plain_preference n s child) application.list) (no_more _)))

plain_code_or_empty : (n : ℕ) (code : Option (List ℕ)) → IsPlain n (code_or_empty code)
plain_code_or_empty n None = plain_text n _
plain_code_or_empty n (Some code) = plain_text n _

plain_optional : (n : ℕ) (child : Child) → ArePlain (n + 1) (optional_fields members (child.present, (child.catchments, tt)))
plain_optional n child =
    let none : Option (Option (List ℕ)) = Some None in
    let empty : Option (List (List ℕ)) = Some [] in
    let catchments = list_data string child.catchments in
    put_field_plain (n + 1) none (codes "present") (code_or_empty child.present) (put_field empty (codes "catchments") catchments no_members) (plain_code_or_empty _ child.present)
    (put_field_plain (n + 1) empty (codes "catchments") catchments no_members (plain_list string n (plain_text n) child.catchments) (no_more _))

plain_fields : (n : ℕ) (child : Child) → ArePlain (n + 1) (child_fields members (child_values child))
plain_fields n child =
    put_plain (n + 1) (codes "child") _ _ (plain_number _ _)
    (put_plain (n + 1) (codes "name") _ _ (plain_text _ _)
    (put_plain (n + 1) (codes "east") _ _ (plain_number _ _)
    (put_plain (n + 1) (codes "north") _ _ (plain_number _ _)
    (put_plain (n + 1) (codes "looked_after") _ _ (plain_truth _ _)
    (put_plain (n + 1) (codes "flags") _ _ (plain_list number_data n (plain_number n) _)
    (put_plain (n + 1) (codes "siblings") _ _ (plain_list string n (plain_text n) _)
    (plain_optional n child)))))))

pub plain_child : (n : ℕ) (s : State) (child : Child) → IsPlain (n + 1 + 1 + 1 + 1) (child_data s child)
plain_child n s child =
    plain_object (n + 1 + 1 + 1) _ (put_plain (n + 1 + 1 + 1) (codes "place") _ _ (plain_place (n + 1 + 1) (place_of s child.no))
    (put_plain (n + 1 + 1 + 1) (codes "left") _ _ (plain_list string (n + 1 + 1) (plain_text (n + 1 + 1)) _)
    (put_plain (n + 1 + 1 + 1) (codes "application") _ _ (plain_application n s child (get s.applications child.no)) (plain_fields (n + 1 + 1) child))))

-- ---- schools, draws and the season

pub plain_school : (n : ℕ) (s : State) (school : School) → IsPlain (n + 1 + 1) (school_data s school)
plain_school n s school =
    let m = n + 1 in
    plain_object m _ (and_member m _ _ _ (plain_list _ n (λ criterion. plain_text n _) school.criteria)
    (and_member m _ _ _ (plain_number m _) (and_member m _ _ _ (plain_text m _) (and_member m _ _ _ (plain_number m _) (and_member m _ _ _ (plain_number m _)
    (and_member m _ _ _ (plain_number m _) (and_member m _ _ _ (plain_text m _) (and_member m _ _ _ (plain_number m _) (and_member m _ _ _ (plain_number m _)
    (and_member m _ _ _ (plain_number m _) (no_more m)))))))))))

plain_code_or_null : (n : ℕ) (code : Option (List ℕ)) → IsPlain n (code_or_null code)
plain_code_or_null n None = plain_null n
plain_code_or_null n (Some code) = plain_text n _

either : (n : ℕ) (b : Bool) (d e : Data) → IsPlain n d → IsPlain n e → IsPlain n (cond b d e)
either n true d e p q = p
either n false d e p q = q

plain_outcome : (n : ℕ) (outcome : Outcome) → IsPlain (n + 1) (outcome_data outcome)
plain_outcome n outcome = plain_object n _ (and_member n _ _ _ (plain_number n _) (and_member n _ _ _ (plain_truth n _) (and_member n _ _ _ (plain_code_or_null n outcome.school) (no_more n))))

plain_draw_members : (n : ℕ) (draw : Draw) → ArePlain (n + 1 + 1) (draw_members draw)
plain_draw_members n draw =
    let m = n + 1 + 1 in
    and_member m _ _ _ (plain_text m _) (and_member m _ _ _ (plain_number m _) (and_member m _ _ _ (plain_list outcome_data (n + 1) (plain_outcome n) draw.outcomes)
    (and_member m _ _ _ (either m (nat_eq draw.round 0) null (number_data draw.round) (plain_null m) (plain_number m _)) (and_member m _ _ _ (plain_code_or_null m draw.school) (no_more m)))))

plain_lot : (lot : Lot) → IsPlain 1 (lot_data lot)
plain_lot lot = plain_object 0 _ (and_member 0 _ _ _ (plain_number 0 _) (and_member 0 _ _ _ (plain_number 0 _) (and_member 0 _ _ _ (plain_text 0 _) (no_more 0))))

plain_cutoff : (cutoff : Cutoff) → IsPlain 1 (cutoff_data cutoff)
plain_cutoff cutoff =
    plain_object 0 _ (and_member 0 _ _ _ (plain_number 0 _) (and_member 0 _ _ _ (plain_number 0 _) (and_member 0 _ _ _ (plain_number 0 _) (and_member 0 _ _ _ (plain_text 0 _) (no_more 0)))))

plain_reason : (n : ℕ) (by : Option Reason) → IsPlain n (reason_or_null by)
plain_reason n None = plain_null n
plain_reason n (Some reason) = plain_text n _

plain_refusal : (refusal : Refusal) → IsPlain 1 (refusal_data refusal)
plain_refusal refusal = plain_object 0 _ (and_member 0 _ _ _ (plain_reason 0 refusal.by) (and_member 0 _ _ _ (plain_number 0 _) (and_member 0 _ _ _ (plain_text 0 _) (no_more 0))))

pub plain_draw_with_lots : (s : State) (draw : Draw) → IsPlain 3 (draw_data_with_lots s draw)
plain_draw_with_lots s draw =
    let cutoffs = list_data cutoff_data (cutoffs_of s draw) in
    let lots = list_data lot_data draw.lots in
    plain_object 2 _ (put_plain 2 (codes "refusals") (list_data refusal_data (refusals_of s draw)) (put (codes "lots") lots (put (codes "cutoffs") cutoffs (draw_members draw)))
    (plain_list refusal_data 1 plain_refusal (refusals_of s draw))
    (put_plain 2 (codes "lots") lots (put (codes "cutoffs") cutoffs (draw_members draw)) (plain_list lot_data 1 plain_lot draw.lots)
    (put_plain 2 (codes "cutoffs") cutoffs (draw_members draw) (plain_list cutoff_data 1 plain_cutoff (cutoffs_of s draw)) (plain_draw_members 0 draw))))

plain_size : (n : ℕ) (size : Size) (others : Members) → ArePlain n others → ArePlain n (size_members size others)
plain_size n Standard others q = q
plain_size n Large others q = put_plain n (codes "size") (string (codes "large")) others (plain_text n _) q

plain_season : (n : ℕ) (season : SeasonFacts) → IsPlain (n + 1 + 1) (season_data season)
plain_season n season =
    let m = n + 1 in
    plain_object m _ (plain_size m season.size (season_members season) (and_member m _ _ _ (plain_text m _) (and_member m _ _ _ (plain_list _ n (λ day. plain_text n _) season.holidays)
    (and_member m _ _ _ (plain_text m _) (and_member m _ _ _ (plain_text m _) (and_member m _ _ _ (plain_text m _) (and_member m _ _ _ (plain_number m _) (no_more m))))))))

-- ---- the register

pub plain_register : (s : State) → IsPlain 6 (register_data s)
plain_register s =
    plain_object 5 _ (and_member 5 _ _ _ (plain_list (child_data s) 4 (plain_child 0 s) (values s.children))
    (and_member 5 _ _ _ (plain_list draw_data 4 (λ draw. plain_object 3 _ (plain_draw_members 1 draw)) (values s.draws))
    (and_member 5 _ _ _ (plain_list (school_data s) 4 (plain_school 2 s) (values s.schools))
    (and_member 5 _ _ _ (plain_season 3 s.season) (no_more 5)))))

-- The rows that clap finds: what a use of another argument leaves.
use Rattle.std.proofs.Common.{◌≡◌, ◌∙◌, ℕ, Bool, true, false, true≢false, cond, refl, sym, ap, subst, List, [], ◌∷◌, ◌++◌, Option, Some, None}
use Rattle.std.specs.Prelude.{if◌then◌else◌, ◌||◌, ◌+◌, min, find}
use Rattle.std.specs.Str.{bytes_eq}
use Rattle.std.proofs.lemmas.Slice.Eq.{bytes_eq-Decides}
use Rattle.clap.specs.Facts.{parser_of_value}
use Rattle.clap.specs.ValueTests.{accepts}
use Rattle.clap.specs.Kinds.{Kinds, or_else}
use Rattle.clap.specs.Walk as w
use Rattle.clap.specs.Walk.{Row, Rule, Text, has_row}
use Rattle.clap.specs.declared.builder.action.ArgAction.{ArgAction}
use Rattle.clap.specs.declared.builder.action.ArgAction.TheVariants.{Set, Append, SetTrue, SetFalse, Count}
use Rattle.clap.specs.declared.builder.value_parser.Reading.{Reading}
use Rattle.clap.specs.declared.parser.matches.ValueSource.{ValueSource}
use Rattle.clap.specs.declared.parser.matches.ValueSource.TheVariants.{CommandLine}

-- ---- lists of kinds

abbrev has_some : Kinds → Bool
has_some [] = false
has_some (k ∷ ks) = true

pub nonempty : (ks : Kinds) → has_some ks ≡ true → ks ≡ [] → ⊥
nonempty ks some e = true≢false (sym some ∙ ap has_some e)

pub both_empty : (a b : Kinds) → or_else a b ≡ [] → (a ≡ []) × (b ≡ [])
both_empty [] b e = (refl, e)
both_empty (k ∷ ks) b e = absurd (nonempty (k ∷ ks) refl e)

-- either branch of a test
pub branch : {A : Type 0} (P : A → Type 0) (b : Bool) (g h : Kinds) (x y : A) → (g ≡ [] → P x) → (h ≡ [] → P y) → (if b then g else h) ≡ [] → P (if b then x else y)
branch P true g h x y first second e = first e
branch P false g h x y first second e = second e

-- ---- rows

abbrev pub row_in : Text → List Row → Option Row
row_in id rows = find (λ r. bytes_eq r.id id) rows

-- the first value passes
abbrev pub head_passes : Rule → List Text → Bool
head_passes a [] = false
head_passes a (v ∷ vs) = accepts a.ignore_case (parser_of_value a.parser) v

abbrev pub row_passes : Rule → Option Row → Bool
row_passes a None = true
row_passes a (Some r) = head_passes a r.values

abbrev pub Good : Rule → List Row → Type 0
Good a rows = row_passes a (row_in a.id rows) ≡ true

apart_from : (x y z : Text) → bytes_eq x y ≡ true → bytes_eq y z ≡ false → bytes_eq x z ≡ false
apart_from x y z same apart = subst (λ (t : Text). bytes_eq t z ≡ false) (sym ((bytes_eq-Decides x y).0 same)) apart

skip_row : (id : Text) (r : Row) (rows : List Row) → bytes_eq r.id id ≡ false → row_in id (r ∷ rows) ≡ row_in id rows
skip_row id r rows e = rw e refl

skip_change : (id : Text) (change : Row → List Row) (missing : List Row) (r : Row) (rows : List Row) → bytes_eq r.id id ≡ false
    → w.at_row id change missing (r ∷ rows) ≡ r ∷ w.at_row id change missing rows
skip_change id change missing r rows e = rw e refl

-- a change of the rows of another id
at_other : (id other : Text) (change : Row → List Row) (missing rows : List Row) → bytes_eq other id ≡ false
    → ((r : Row) (rest : List Row) → bytes_eq r.id id ≡ false → row_in id (change r ++ rest) ≡ row_in id rest)
    → row_in id missing ≡ None → row_in id (w.at_row other change missing rows) ≡ row_in id rows
at_other id other change missing [] apart keeps none = none
at_other id other change missing (r ∷ rs) apart keeps none = go (bytes_eq r.id other) refl (at_other id other change missing rs apart keeps none)
  where
    go : (b : Bool) → bytes_eq r.id other ≡ b → row_in id (w.at_row other change missing rs) ≡ row_in id rs
        → row_in id (cond b (change r ++ rs) (r ∷ w.at_row other change missing rs)) ≡ row_in id (r ∷ rs)
    go true e rest =
        let skip : bytes_eq r.id id ≡ false = apart_from r.id other id e apart in
        keeps r rs skip ∙ sym (skip_row id r rs skip)
    go false e rest = ap (λ o. cond (bytes_eq r.id id) (Some r) o) rest

without_other : (id other : Text) (rows : List Row) → bytes_eq other id ≡ false → row_in id (w.without other rows) ≡ row_in id rows
without_other id other rows apart = at_other id other (λ _. []) [] rows apart (λ r rest e. refl) refl

pub values_other : (id other : Text) (how : Reading) (s : ValueSource) (values : List Text) (rows : List Row) → bytes_eq other id ≡ false
    → row_in id (w.with_values other how s values rows) ≡ row_in id rows
values_other id other how s values rows apart = at_other id other (w.more_values s values) _ rows apart (λ r rest e. rw e refl) (rw apart refl)

count_other : (id other : Text) (how : Reading) (s : ValueSource) (n : ℕ) (rows : List Row) → bytes_eq other id ≡ false
    → row_in id (w.with_count other how s n rows) ≡ row_in id rows
count_other id other how s n rows apart = at_other id other (w.new_count s n) _ rows apart (λ r rest e. rw e refl) (rw apart refl)

-- a use of another argument
pub used_other : (act : ArgAction) (id other : Text) (how : Reading) (values : List Text) (rows : List Row) → bytes_eq other id ≡ false
    → row_in id (w.used_as act other how values rows) ≡ row_in id rows
used_other Set id other how values rows apart = values_other id other how CommandLine values _ apart ∙ without_other id other rows apart
used_other SetTrue id other how values rows apart = values_other id other how CommandLine values _ apart ∙ without_other id other rows apart
used_other SetFalse id other how values rows apart = values_other id other how CommandLine values _ apart ∙ without_other id other rows apart
used_other Append id other how values rows apart = values_other id other how CommandLine values rows apart
used_other Count id other how [] rows apart = count_other id other how CommandLine (min (w.count_of other rows + 1) 255) _ apart ∙ without_other id other rows apart
used_other Count id other how (v ∷ vs) rows apart = values_other id other how CommandLine (v ∷ vs) _ apart ∙ without_other id other rows apart
used_other _ id other how values rows apart = refl

pub either_false : (a b : Bool) → (a || b) ≡ false → (a ≡ false) × (b ≡ false)
either_false true b e = absurd (true≢false e)
either_false false b e = (refl, e)

-- a row of an id that had none
pub fresh : (id : Text) (change : Row → List Row) (new : Row) (rows : List Row) → bytes_eq new.id id ≡ true → has_row id rows ≡ false
    → row_in id (w.at_row id change (new ∷ []) (w.without id rows)) ≡ Some new
fresh id change new [] is none = rw is refl
fresh id change new (r ∷ rs) is none =
    let parts = either_false (bytes_eq r.id id) (has_row id rs) none in
    let left = w.without id rs in
    ap (λ t. row_in id (w.at_row id change (new ∷ []) t)) (skip_change id (λ _. []) [] r rs parts.0)
    ∙ ap (row_in id) (skip_change id change (new ∷ []) r left parts.0)
    ∙ skip_row id r (w.at_row id change (new ∷ []) left) parts.0
    ∙ fresh id change new rs is parts.1

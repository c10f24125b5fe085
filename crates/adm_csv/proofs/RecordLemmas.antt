-- The records of a text, one after another.
use Rattle.std.proofs.Common.{◌≡◌, ◌∙◌, ◌<◌, ◌++◌, ℕ, zero, suc, Bool, true, false, cond, List, [], ◌∷◌, length, Option, Some, None, refl, sym, ap, arith, true≢false}
use Rattle.std.specs.Prelude.{◌==◌}
use Rattle.csv.specs.Machine.{Read, next_record, step, is_end, ends_at_end, in_field, start_field, start_record, ends_with, after_end, carriage_return, line_feed}
use Rattle.csv.specs.Reading.{default_config, records_from, records_next}
use Rattle.csv.specs.declared.parser.State.{State}
use Rattle.csv.specs.declared.parser.Action.{Action}
use Rattle.csv.specs.declared.parser.State.TheVariants as st
use Rattle.csv.specs.declared.parser.Action.TheVariants as act
use Rattle.std.proofs.lemmas.Option.{same_Some}
use Rattle.adm_csv.specs.Kinds.{Text}
use Rattle.adm_csv.specs.Remaining.{weight, records_remaining}

-- a step that ends a record leaves a state that the end of the text does not end
pub Rests : State × Action → Type 0
Rests q = is_end q.1 ≡ true → ends_at_end q.0 ≡ false

rests_else : (b : Bool) (p q : State × Action) → Rests p → Rests q → Rests (cond b p q)
rests_else true p q f g = f
rests_else false p q f g = g

rests_other : (s : State) (a : Action) → is_end a ≡ false → Rests (s, a)
unfolding Rests
rests_other s a other end = absurd (true≢false (sym end ∙ other))

rests_after : (b : Bool) → Rests (cond b st.AfterCr st.StartRecord, act.EndRecord)
unfolding Rests
rests_after true end = refl
rests_after false end = refl

in_field_rests : (c : ℕ) → Rests (in_field default_config c)
in_field_rests c =
    let more : Rests (cond (ends_with default_config.terminator c) (after_end default_config.terminator c, act.EndRecord) (st.InField, act.Copy)) =
    rests_else (ends_with default_config.terminator c) (after_end default_config.terminator c, act.EndRecord) (
      st.InField,
      act.Copy,
    ) (rests_after (c == carriage_return)) (rests_other st.InField act.Copy refl) in
    rests_else (c == default_config.delimiter) (
      st.StartField,
      act.EndField,
    ) (cond (ends_with default_config.terminator c) (after_end default_config.terminator c, act.EndRecord) (st.InField, act.Copy)) (rests_other st.StartField act.EndField refl) more

start_rests : (c : ℕ) → Rests (step default_config st.StartField c)
start_rests c = rests_else (c == default_config.quote) (st.InQuoted, act.Skip) (in_field default_config c) (rests_other st.InQuoted act.Skip refl) (in_field_rests c)

record_rests : (c : ℕ) → Rests (step default_config st.StartRecord c)
record_rests c = rests_else (ends_with default_config.terminator c) (st.StartRecord, act.Skip) (start_field default_config c) (rests_other st.StartRecord act.Skip refl) (start_rests c)

pub step_rests : (s : State) (c : ℕ) → Rests (step default_config s c)
step_rests st.StartRecord c = record_rests c
step_rests st.StartField c = start_rests c
step_rests st.InField c = in_field_rests c
step_rests st.InQuoted c = rests_else (c == default_config.quote) (st.AfterQuote, act.Skip) (st.InQuoted, act.Copy) (rests_other st.AfterQuote act.Skip refl) (rests_other st.InQuoted act.Copy refl)
step_rests st.InEscape c = rests_other st.InQuoted act.Copy refl
step_rests st.AfterQuote c = rests_else (c == default_config.quote) (st.InQuoted, act.Copy) (in_field default_config c) (rests_other st.InQuoted act.Copy refl) (in_field_rests c)
step_rests st.InComment c = rests_else (c == line_feed) (st.StartRecord, act.Skip) (st.InComment, act.Skip) (rests_other st.StartRecord act.Skip refl) (rests_other st.InComment act.Skip refl)
step_rests st.AfterCr c = rests_else (c == line_feed) (st.StartRecord, act.Skip) (start_record default_config c) (rests_other st.StartRecord act.Skip refl) (record_rests c)

-- the end of the text may end one record more
less_end : (b : Bool) (x q : Read) → weight x.1 x.2 ≡ 0 → cond b (Some x) None ≡ Some q → weight q.1 q.2 < cond b 1 0
less_end true x q none is = rw (← same_Some x q is) (omega (arith, none))
less_end false x q none is = absurd (cc is)

-- a byte that ends a record, or one that does not
less_byte : (b : Bool) (x q : Read) (more : Option Read) (w : ℕ) → (b ≡ true → weight x.1 x.2 < w) → (more ≡ Some q → weight q.1 q.2 < w)
    → cond b (Some x) more ≡ Some q → weight q.1 q.2 < w
less_byte true x q more w here later is = rw (← same_Some x q is) (here refl)
less_byte false x q more w here later is = later is

resting : (s : State) (c : ℕ) (text : Text) → Rests (step default_config s c) → is_end (step default_config s c).1 ≡ true
    → weight (step default_config s c).0 text ≡ length text
unfolding Rests
resting s c text rests end = rw (rests end) (omega arith)

at_most : (b : Bool) → cond b 1 0 < 2
at_most true = omega arith
at_most false = omega arith

-- a record takes weight from what remains
pub less : (s : State) (fields : List Text) (field text : Text) (q : Read) → next_record default_config s fields field text ≡ Some q → weight q.1 q.2 < weight s text
unfolding next_record
less s fields field [] q is = let end = less_end (ends_at_end s) (fields ++ (field ∷ []), st.StartRecord, []) q refl is in omega (arith, end)
less s fields field (c ∷ text) q is =
    less_byte _ _ q _ (weight s (c ∷ text))
    (λ end. let here = resting s c text (step_rests s c) end in omega (arith, here))
    (λ more. let later = less (step default_config s c).0 _ _ text q more in let most = at_most (ends_at_end (step default_config s c).0) in omega (arith, later, most))
    is

same_next : (n m : ℕ) (next : Option Read) → ((q : Read) → next ≡ Some q → records_from default_config n q.1 q.2 ≡ records_from default_config m q.1 q.2)
    → records_next (records_from default_config n) next ≡ records_next (records_from default_config m) next
same_next n m None same = refl
same_next n m (Some q) same = ap (λ rs. q.0 ∷ rs) (same q refl)

-- enough fuel is enough
enough : (n m : ℕ) (s : State) (text : Text) → weight s text < n → weight s text < m → records_from default_config n s text ≡ records_from default_config m s text
unfolding records_from
enough zero m s text a b = absurd (omega (arith, a))
enough (suc n) zero s text a b = absurd (omega (arith, b))
enough (suc n) (suc m) s text a b =
    same_next n m (next_record default_config s [] [] text) (λ q is. let light = less s [] [] text q is in enough n m q.1 q.2 (omega (arith, light, a)) (omega (arith, light, b)))

-- a record, and those after it
pub left_more : (s : State) (text : Text) (q : Read) → next_record default_config s [] [] text ≡ Some q → records_remaining s text ≡ q.0 ∷ records_remaining q.1 q.2
unfolding records_from
left_more s text q is =
    let lighter = less s [] [] text q is in
    ap (records_next (records_from default_config (weight s text))) is ∙ ap (λ rs. q.0 ∷ rs) (enough (weight s text) (suc (weight q.1 q.2)) q.1 q.2 lighter (omega arith))

-- no record
pub left_none : (s : State) (text : Text) → next_record default_config s [] [] text ≡ None → records_remaining s text ≡ []
unfolding records_from
left_none s text is = ap (records_next (records_from default_config (weight s text))) is

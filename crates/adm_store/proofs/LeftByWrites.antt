-- What the writes of a commit leave, table by table.
use Rattle.std.proofs.Common.{◌≡◌, ◌==◌, ◌⊎◌, ◌<◌, ◌+◌, ℕ, zero, suc, inl, inr, Bool, true, false, not, List, [], ◌∷◌, ◌++◌, map, length, refl, sym, ap, ◌∙◌, subst, arith, append_assoc}
use Rattle.std.specs.Prelude.{◌&&◌, fold, if◌then◌else◌}
use Rattle.std.specs.List.{list_all}
use Rattle.std.specs.List.Sorted.{IsPermutation}
use Rattle.std.proofs.lemmas.Bool.{and_parts, not-true, eqb-false}
use Rattle.std.proofs.lemmas.List.{map-append}
use Rattle.std.proofs.lemmas.List.Sorted.{IsPermutation-trans, IsPermutation-map, IsPermutation-append_left}
use Rattle.std.proofs.lemmas.List.Sums.{fold-append, sum_by-append}
use Rattle.sqlite.specs.Order.{Row}
use Rattle.sqlite.specs.Table.{Table}
use Rattle.sqlite.specs.Tree.{without_rowid}
use Rattle.sqlite.specs.Edit.{without_all}
use Rattle.sqlite.specs.State.{State, HasCleanDisk, Survives}
use Rattle.sqlite_rules.specs.Lists.{Has}
use Rattle.sqlite_rules.proofs.ListLemmas.{test_has}
use Rattle.adm_schema.specs.Rows.{rows_of}
use Rattle.adm_schema.specs.Effects.{Sees, SeesDatabase, integer_key, put_in, begins_with, drop_of, with_draws}
use Rattle.adm_schema.specs.Schema.{register_schema}
use Rattle.sqlite_keyed.proofs.ListLemmas.{IsPermutation-filter}
use Rattle.adm_schema.proofs.Inside.{puts_moved, cuts_moved}
use Rattle.adm_store.specs.Writes.{Kind, Adds, Puts, Cuts, Drops, Sets, Write, changed, turn, after_writes, count_of, Leaves, Writes, write_of}

-- ---- tables by their trees

trees_apart : List Table → Bool
trees_apart [] = true
trees_apart (t ∷ ts) = list_all (λ (u : Table). not (t.tree == u.tree)) ts && trees_apart ts

differ : (x u : Table) (ts : List Table) → list_all (λ (u : Table). not (x.tree == u.tree)) ts ≡ true → Has ts u → x.tree ≡ u.tree → ⊥
differ x u ts apart h same = eqb-false x.tree u.tree (not-true _ (test_has (λ (u : Table). not (x.tree == u.tree)) ts u apart h)) same

same_in : (ts : List Table) (t u : Table) → trees_apart ts ≡ true → Has ts t → Has ts u → t.tree ≡ u.tree → t ≡ u
unfolding trees_apart
same_in [] t u apart one two same = absurd one
same_in (x ∷ ts) t u apart (inl a) (inl b) same = a ∙ sym b
same_in (x ∷ ts) t u apart (inl a) (inr h) same = absurd (differ x u ts (and_parts _ _ apart).0 h (ap (λ (y : Table). y.tree) (sym a) ∙ same))
same_in (x ∷ ts) t u apart (inr h) (inl b) same = absurd (differ x t ts (and_parts _ _ apart).0 h (ap (λ (y : Table). y.tree) (sym b) ∙ sym same))
same_in (x ∷ ts) t u apart (inr h) (inr k) same = same_in ts t u (and_parts _ _ apart).1 h k same

-- a table of the register is known by its tree
pub same_table : (t u : Table) → Has register_schema.tables t → Has register_schema.tables u → t.tree ≡ u.tree → t ≡ u
unfolding trees_apart
same_table t u one two same = same_in register_schema.tables t u refl one two same

-- ---- what is written of a table

counts_moved : (news xs ys : List Row) → IsPermutation xs ys → IsPermutation (fold (λ rows count. map (with_draws count) rows) xs news) (fold (λ rows count. map (with_draws count) rows) ys news)
counts_moved [] xs ys same = same
counts_moved (count ∷ news) xs ys same = counts_moved news _ _ (IsPermutation-map (with_draws count) xs ys same)

drops_moved : (keys xs ys : List Row) → IsPermutation xs ys → IsPermutation (fold (λ rows key. drop_of key rows) xs keys) (fold (λ rows key. drop_of key rows) ys keys)
drops_moved [] xs ys same = same
drops_moved (key ∷ keys) xs ys same = drops_moved keys _ _ (IsPermutation-filter (λ row. not (begins_with key row)) xs ys same)

changed_moved : (kind : Kind) (news xs ys : List Row) → IsPermutation xs ys → IsPermutation (changed kind news xs) (changed kind news ys)
changed_moved Adds news xs ys same = IsPermutation-append_left news xs ys same
changed_moved Puts news xs ys same = puts_moved news xs ys same
changed_moved Cuts news xs ys same = cuts_moved (map integer_key news) xs ys same
changed_moved Drops news xs ys same = drops_moved news xs ys same
changed_moved Sets news xs ys same = counts_moved news xs ys same

after_moved : (t : Table) (writes : List Write) (xs ys : List Row) → IsPermutation xs ys → IsPermutation (after_writes t writes xs) (after_writes t writes ys)
after_moved t [] xs ys same = same
after_moved t (w ∷ writes) xs ys same = after_moved t writes (turn t xs w) (turn t ys w) (go (t.tree == w.table.tree))
  where
    go : (b : Bool) → IsPermutation (if b then changed w.kind w.rows xs else xs) (if b then changed w.kind w.rows ys else ys)
    go true = changed_moved w.kind w.rows xs ys same
    go false = same

changed_more : (kind : Kind) (one two rows : List Row) → changed kind two (changed kind one rows) ≡ changed kind (one ++ two) rows
changed_more Adds one two rows = append_assoc rows one two
changed_more Puts one two rows = sym (fold-append (λ xs r. put_in r xs) rows one two)
changed_more Cuts one two rows = sym (ap (λ ks. without_all rows ks) (map-append integer_key one two) ∙ fold-append (λ xs k. without_rowid k xs) rows (map integer_key one) (map integer_key two))
changed_more Drops one two rows = sym (fold-append (λ rows key. drop_of key rows) rows one two)
changed_more Sets one two rows = sym (fold-append (λ rows count. map (with_draws count) rows) rows one two)

-- statements of one kind, run for some items and then for others
pub joined : {X : Type 0} (kind : Kind) (table : Table) (row_of : X → Row) (one two : List X) (t : Table) (rows : List Row)
    → after_writes t (write_of kind table row_of one ∷ write_of kind table row_of two ∷ []) rows ≡ after_writes t (write_of kind table row_of (one ++ two) ∷ []) rows
joined kind table row_of one two t rows = go (t.tree == table.tree)
  where
    go : (b : Bool) → (if b then changed kind (map row_of two)
        (if b then changed kind (map row_of one) rows else rows) else (if b then changed kind (map row_of one) rows else rows)) ≡ (if b then changed kind (map row_of (one ++ two)) rows else rows)
    go true = changed_more kind (map row_of one) (map row_of two) rows ∙ ap (λ news. changed kind news rows) (sym (map-append row_of one two))
    go false = refl

-- ---- what they leave

pub leaves_then : (p q : List Write) (a b c : State) → Leaves p a b → Leaves q b c → Leaves (p ++ q) a c
leaves_then p q a b c x y = record {
  was_open = x.was_open;
  is_open = y.is_open;
  schema = y.schema ∙ x.schema;
  sound = y.sound;
  rows = λ t listed keyed.
      subst (λ rows. IsPermutation rows (rows_of t c.now.trees)) (sym (fold-append (turn t) (rows_of t a.now.trees) p q))
      (IsPermutation-trans _ _ _ (after_moved t q _ _ (x.rows t listed keyed)) (y.rows t listed (x.keyed t listed keyed)));
  keyed = λ t listed keyed. y.keyed t listed (x.keyed t listed keyed);
}

pub leaves_same : (p q : List Write) (a b : State) → ((t : Table) (rows : List Row) → after_writes t p rows ≡ after_writes t q rows) → Leaves p a b → Leaves q a b
leaves_same p q a b same x = record {
  was_open = x.was_open;
  is_open = x.is_open;
  schema = x.schema;
  sound = x.sound;
  rows = λ t listed keyed. subst (λ rows. IsPermutation rows (rows_of t b.now.trees)) (same t _) (x.rows t listed keyed);
  keyed = x.keyed;
}

one_of : (a b : ℕ) → 0 < a + b → (0 < a) ⊎ (0 < b)
one_of zero b some = inr (omega (arith, some))
one_of (suc a) b some = inl (omega (arith))

pub count_more : (p q : List Write) → count_of (p ++ q) ≡ count_of p + count_of q
count_more p q = sum_by-append (λ (w : Write). length w.rows) p q

-- writers, one after the other
pub writes_then : (p q : List Write) (a b c : State) → Survives a b (λ _. ⊥) → Survives b c (λ _. ⊥) → Writes p a b → Writes q b c → Writes (p ++ q) a c
writes_then p q a b c before later one two clean sees sound =
    let early : HasCleanDisk b = omega (arith, later.clean, clean) in
    let first : HasCleanDisk a = omega (arith, before.clean, early) in
    let x = one early sees sound in
    let sees_b : Sees register_schema b = λ k o. (x.1 o).schema ∙ sees first (x.1 o).was_open in
    let sound_b : SeesDatabase b = λ k o. (x.1 o).sound in
    let y = two clean sees_b sound_b in (
      λ either. elim either [
        | inl some ↦ elim (one_of (count_of p) (count_of q) (subst (λ n. 0 < n) (count_more p q) some)) [ inl some_p ↦ y.0 (inr (x.0 (inl some_p))) | inr some_q ↦ y.0 (inl some_q) ]
        | inr live ↦ y.0 (inr (x.0 (inr live)))
      ],
      λ here. leaves_then p q a b c (x.1 (y.1 here).was_open) (y.1 here),
    )

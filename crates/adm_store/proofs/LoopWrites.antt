-- A list of writes of one statement, one item or some items after another.
use Rattle.std.proofs.Common.{◌≡◌, ◌==◌, ◌<◌, ◌+◌, ℕ, Bool, true, false, List, [], ◌∷◌, ◌++◌, map, length, refl, sym, ap, ◌∙◌, subst, IsTrue, arith, append-nil, take, get_or, append_assoc}
use Rattle.std.specs.Prelude.{if◌then◌else◌}
use Rattle.std.specs.List.Sorted.{IsPermutation}
use Rattle.std.proofs.lemmas.List.{map-append, length-append, take_more}
use Rattle.std.proofs.lemmas.List.Sorted.{IsPermutation-refl}
use Rattle.sqlite.specs.Order.{Row}
use Rattle.sqlite.specs.Table.{Table}
use Rattle.sqlite.specs.State.{State, Survives}
use Rattle.adm_schema.specs.Rows.{rows_of}
use Rattle.adm_schema.specs.Effects.{StaysOpen}
use Rattle.adm_schema.proofs.Inside.{goes_none, survives_on, survives_same}
use Rattle.adm_store.specs.Writes.{Kind, Adds, Puts, Cuts, Drops, Sets, changed, after_writes, count_of, Leaves, Writes, write_of}
use Rattle.adm_store.proofs.LeftByWrites.{joined, leaves_same, writes_then}

-- where no row is written, the table stays the same
pub changed_none : (kind : Kind) (rows : List Row) → rows ≡ changed kind [] rows
changed_none Adds rows = sym (append-nil rows)
changed_none Puts rows = refl
changed_none Cuts rows = refl
changed_none Drops rows = refl
changed_none Sets rows = refl

module _ {X : Type 0} (kind : Kind) (table : Table) (row_of : X → Row) where
  -- before its first item
  pub writes_none : (s : State) → Writes (write_of kind table row_of [] ∷ []) s s
  writes_none s clean sees sound = (
    goes_none s,
    λ live. record {
      was_open = live;
      is_open = live;
      schema = refl;
      sound = sound clean live;
      rows = λ t listed keyed. subst (λ rows. IsPermutation rows (rows_of t s.now.trees)) (same t (rows_of t s.now.trees)) (IsPermutation-refl _);
      keyed = λ t listed keyed. keyed;
    },
  )
    where
      same : (t : Table) (rows : List Row) → rows ≡ after_writes t (write_of kind table row_of [] ∷ []) rows
      same t rows = go (t.tree == table.tree)
        where
          go : (b : Bool) → rows ≡ (if b then changed kind [] rows else rows)
          go true = changed_none kind rows
          go false = refl

  count_joined : (one two : List X) → count_of (write_of kind table row_of (one ++ two) ∷ []) ≡ count_of (write_of kind table row_of one ∷ write_of kind table row_of two ∷ [])
  count_joined one two = omega (arith, ap length (map-append row_of one two), length-append (map row_of one) (map row_of two))

  -- for some items and then for others
  pub writes_both : (one two : List X) (a b c : State) → Survives a b (λ _. ⊥) → Survives b c (λ _. ⊥)
      → Writes (write_of kind table row_of one ∷ []) a b → Writes (write_of kind table row_of two ∷ []) b c → Writes (write_of kind table row_of (one ++ two) ∷ []) a c
  writes_both one two a b c before later first next clean sees sound =
      let both = writes_then _ _ a b c before later first next clean sees sound in (
        subst (λ n. StaysOpen n a c) (sym (count_joined one two)) both.0,
        λ live. leaves_same _ _ a c (joined kind table row_of one two) (both.1 live),
      )

  -- the items before the rest were written
  pub record SoFar (xs rest : List X) (old new : State) : Type 0 where
    pub done : List X
    pub all : xs ≡ done ++ rest
    pub survives : Survives old new (λ _. ⊥)
    pub writes : Writes (write_of kind table row_of done ∷ []) old new

  pub none_so_far : (xs : List X) (s : State) → SoFar xs xs s s
  none_so_far xs s = record { done = []; all = refl; survives = survives_same s; writes = writes_none s }

  pub more_so_far : (xs rest next others : List X) (a b c : State) → rest ≡ next ++ others → SoFar xs rest a b → Survives b c (λ _. ⊥)
      → Writes (write_of kind table row_of next ∷ []) b c → SoFar xs others a c
  more_so_far xs rest next others a b c split so_far later more = record {
    done = so_far.done ++ next;
    all = so_far.all ∙ ap (λ ys. so_far.done ++ ys) split ∙ sym (append_assoc so_far.done next others);
    survives = survives_on a b c so_far.survives later;
    writes = writes_both so_far.done next a b c so_far.survives later so_far.writes more;
  }

  pub all_so_far : (xs rest : List X) (a b c : State) → SoFar xs rest a b → Survives b c (λ _. ⊥) → Writes (write_of kind table row_of rest ∷ []) b c
      → Writes (write_of kind table row_of xs ∷ []) a c
  all_so_far xs rest a b c so_far later last =
      subst (λ ys. Writes (write_of kind table row_of ys ∷ []) a c) (sym so_far.all) (writes_both so_far.done rest a b c so_far.survives later so_far.writes last)

  -- at its next item
  pub writes_more : (xs : List X) (i : ℕ) (x : X) (a b c : State) → i < length xs → x ≡ get_or xs i x → Survives a b (λ _. ⊥) → Survives b c (λ _. ⊥)
      → Writes (write_of kind table row_of (take i xs) ∷ []) a b → Writes (write_of kind table row_of (x ∷ []) ∷ []) b c → Writes (write_of kind table row_of (take (i + 1) xs) ∷ []) a c
  writes_more xs i x a b c low is before later so_far next clean sees sound =
      let both = writes_then _ _ a b c before later so_far next clean sees sound in
      let more : take i xs ++ x ∷ [] ≡ take (i + 1) xs = ap (λ y. take i xs ++ y ∷ []) is ∙ sym (take_more xs i x low) in
      subst (λ ys. StaysOpen (count_of (write_of kind table row_of ys ∷ [])) a c × (IsTrue c.is_open → Leaves (write_of kind table row_of ys ∷ []) a c)) more (
        subst (λ n. StaysOpen n a c) (sym (count_joined (take i xs) (x ∷ []))) both.0,
        λ live. leaves_same _ _ a c (joined kind table row_of (take i xs) (x ∷ [])) (both.1 live),
      )

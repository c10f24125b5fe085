-- Texts that grow piece by piece: for the state of a child.
use Rattle.std.proofs.Common.{◌≡◌, ◌∙◌, ap, sym, ℕ, ◌+◌, ◌<◌, List, [], ◌∷◌, ◌++◌, append_assoc, append-nil, take, get_or, length}
use Rattle.std.specs.Prelude.{Result, Ok, Err, IfOk, codes}
use Rattle.std.specs.List.{flat_map, join_by}
use Rattle.std.proofs.lemmas.Grind.{flat_map-append}
use Rattle.adm_lists.proofs.Walks.{next_of}
use Rattle.adm_http.specs.States.{head_json, state_json}

-- the text of the next of some elements is added to those of the elements before it
pub next_text : {X : Type 0} (f : X → List ℕ) (xs : List X) (i : ℕ) (x : X) (old text new : List ℕ) → i < length xs → x ≡ get_or xs i x
    → text ≡ old ++ flat_map f (take i xs) → new ≡ text ++ f x → new ≡ old ++ flat_map f (take (i + 1) xs)
next_text f xs i x old text new within is before added =
    let more : flat_map f (take (i + 1) xs) ≡ flat_map f (take i xs) ++ f x =
    ap (flat_map f) (next_of xs i x within is) ∙ flat_map-append f (take i xs) (x ∷ []) ∙ ap (λ l. flat_map f (take i xs) ++ l) (append-nil (f x)) in
    added ∙ ap (λ l. l ++ f x) before ∙ append_assoc old (flat_map f (take i xs)) (f x) ∙ ap (λ l. old ++ l) (sym more)

-- the text of the first and then those of the others, each after a separator
pub joined_text : {X A E : Type 0} (f : X → List ℕ) (separator : List ℕ) (xs others : List X) (x : X) (old mid new : List ℕ) (result : Result A E) → xs ≡ x ∷ others → mid ≡ old ++ f x
    → IfOk result (λ _. new ≡ mid ++ flat_map (λ y. separator ++ f y) others) → IfOk result (λ _. new ≡ old ++ join_by f separator xs)
joined_text f separator xs others x old mid new (Ok a) parts first rest =
    rest ∙ ap (λ l. l ++ flat_map (λ y. separator ++ f y) others) first ∙ append_assoc old (f x) (flat_map (λ y. separator ++ f y) others)
    ∙ ap (λ ys. old ++ join_by f separator ys) (sym parts)
joined_text f separator xs others x old mid new (Err e) parts first rest = tt

-- the state of a child, from the pieces that were added to a text which was empty
pub state_whole : (start head placed between waiting all : List ℕ) (child : ℕ) (place waits : List ℕ) → start ≡ [] → head ≡ start ++ head_json child → placed ≡ head ++ place
    → between ≡ placed ++ codes ",\"waiting\":[" → waiting ≡ between ++ waits → all ≡ waiting ++ codes "]}" → all ≡ state_json child place waits
state_whole start head placed between waiting all child place waits none is1 is2 is3 is4 is5 = is5 ∙ rw (is4, is3, is2, is1, none) (simp append_assoc)

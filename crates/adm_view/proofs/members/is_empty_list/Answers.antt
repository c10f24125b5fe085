use Rattle.std.proofs.Common.{◌≡◌, ◌∙◌, ap, rules, vec_len, refl, List, [], ◌∷◌, length, Some, arith}
use Rattle.std.proofs.lemmas.Bool.Decides.{nat_tests}
use Rattle.std.specs.Bool.{◌==◌}
use Rattle.serde_json.specs.Data.{Data, null, boolean, number, string, array, object, no_items, item}
use Rattle.serde_json.specs.Find.{as_array}
use Rattle.serde_json.specs.View.{view, items_view}
use Rattle.serde_json.specs.declared.value.Value.{Value}
use Rattle.adm_view.specs.Writing.{is_empty_list}
use Rattle.adm_view.proofs.members.is_empty_list.Goals as goal

-- a list is empty exactly where its data are
empty_as_data : (items : List Value) (d : Data) → Some (items_view items) ≡ as_array d → length items == 0 ≡ is_empty_list d
empty_as_data items null e = cc
empty_as_data items (boolean b) e = cc
empty_as_data items (number n) e = cc
empty_as_data items (string s) e = cc
empty_as_data items (object ms) e = cc
empty_as_data [] (array no_items) e = refl
empty_as_data [] (array (item d ds)) e = cc
empty_as_data (v ∷ items) (array no_items) e = cc
empty_as_data (v ∷ items) (array (item d ds)) e = grind (arith, nat_tests)

pub returns-in-Some : goal.returns-in-Some
returns-in-Some c =
    let count : vec_len c.in-Some.items.now ≡ length c.in-Some.items.now.items = search rules in
    c.is_empty.ensures ∙ ap (λ n. n == 0) count ∙ empty_as_data c.in-Some.items.now.items (view c.args.value.now) c.in-Some.ensures

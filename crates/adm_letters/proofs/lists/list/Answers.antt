use Rattle.std.proofs.Common.{◌≡◌, ℕ, List, [], ◌∷◌, ◌++◌, map, length}
use Rattle.adm_types.specs.declared.rows.School.{School}
use Rattle.adm_waiting.specs.declared.lists.Waiting.{Waiting}
use Rattle.adm_letters.specs.Lines.{lines_text}
use Rattle.adm_letters.specs.Lists.{list_head, columns, list_row, list_foot, list_lines}
use Rattle.adm_letters.proofs.Joined.{after_lines}
use Rattle.adm_letters.proofs.lists.list.Goals as goal

whole : (start head names rows all : List ℕ) (school : School) (waiting : List Waiting) (vacancies : ℕ) → start ≡ []
    → head ≡ start ++ lines_text (list_head school.code school.name ∷ []) → names ≡ head ++ lines_text (columns ∷ []) → rows ≡ names ++ lines_text (map list_row waiting)
    → all ≡ rows ++ lines_text (list_foot (length waiting) vacancies ∷ []) → all ≡ lines_text (list_lines school waiting vacancies)
unfolding list_lines
whole start head names rows all school waiting vacancies none first second middle last =
    let line = list_head school.code school.name in
    after_lines rows all (line ∷ columns ∷ map list_row waiting) (list_foot (length waiting) vacancies ∷ [])
    (after_lines names rows (line ∷ columns ∷ []) (map list_row waiting)
    (after_lines head names (line ∷ []) (columns ∷ []) (after_lines start head [] (line ∷ []) none first) second) middle) last

pub returns : goal.returns
returns c =
    whole _ _ _ _ _ c.args.school.now c.args.waiting.now c.args.vacancies c.new-text.ensures.bytes c.in_ok-put_head.ensures
    c.in_ok-put_columns.ensures c.in_ok-put_rows.ensures c.in_ok-put_foot.ensures

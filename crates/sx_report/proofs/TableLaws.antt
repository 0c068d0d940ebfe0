-- Tables place by place.
use Rattle.std.proofs.Common.{◌≡◌, ◌+◌, ◌++◌, ℕ, zero, suc, List, [], ◌∷◌, drop, option_to_list, refl, sym, ap, ◌∙◌, add-one}
use Rattle.std.proofs.lemmas.List.{append_assoc, append-nil}
use Rattle.sx_lists.specs.Places.{at_place}
use Rattle.sx_heap.specs.declared.tables.NamedTable.{NamedTable}
use Rattle.sx_report.specs.TableLines.{AreRelations, rows_in, table_text, tables_text}

-- the lines from a place on: those of the table there, and then the others
from_place : (tables : List NamedTable) (index : ℕ) → tables_text (drop index tables) ≡ tables_text (option_to_list (at_place tables (suc index))) ++ tables_text (drop (suc index) tables)
from_place [] zero = refl
from_place [] (suc index) = refl
from_place (t ∷ tables) zero = sym (ap (λ xs. xs ++ tables_text tables) (append-nil (table_text t.name (rows_in t))))
from_place (t ∷ tables) (suc index) = from_place tables index

pub tables_text_from : (tables : List NamedTable) (index : ℕ) → tables_text (drop index tables) ≡ tables_text (option_to_list (at_place tables (index + 1))) ++ tables_text (drop (index + 1) tables)
tables_text_from tables index = rw (add-one index) (from_place tables index)

-- what is left to put after the table at a place
pub put_next : (tables : List NamedTable) (index : ℕ) (out new all : List ℕ) → new ≡ out ++ tables_text (option_to_list (at_place tables (index + 1))) → out ++ tables_text (drop index tables) ≡ all → new ++ tables_text (drop (index + 1) tables) ≡ all
put_next tables index out new all puts left =
    ap (λ (xs : List ℕ). xs ++ tables_text (drop (index + 1) tables)) puts
    ∙ append_assoc out (tables_text (option_to_list (at_place tables (index + 1)))) (tables_text (drop (index + 1) tables))
    ∙ ap (λ (xs : List ℕ). out ++ xs) (sym (tables_text_from tables index))
    ∙ left

relations_at : (tables : List NamedTable) (index : ℕ) → AreRelations (option_to_list (at_place tables (suc index))) → AreRelations (drop (suc index) tables) → AreRelations (drop index tables)
relations_at [] zero here later = tt
relations_at [] (suc index) here later = tt
relations_at (t ∷ tables) zero here later = (here.0, later)
relations_at (t ∷ tables) (suc index) here later = relations_at tables index here later

-- a table at a place and those behind it are relations
pub relations_from : (tables : List NamedTable) (index : ℕ) → AreRelations (option_to_list (at_place tables (index + 1))) → AreRelations (drop (index + 1) tables) → AreRelations (drop index tables)
relations_from tables index = rw (add-one index) (relations_at tables index)

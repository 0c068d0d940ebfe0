use Rattle.std.specs.Prelude.{Result, Ok, Err, [], ◌∷◌, ◌≡◌, List, ℕ, Option, Some, None, IfSome, IfOk}
use Rattle.std.specs.List.{IsDistinct}
use Rattle.std.proofs.lemmas.List.Elements.{All-nil, All-cons}
use Rattle.sx_values.specs.Values.{values_eq}
use Rattle.sx_values.specs.Catalogs.{schema_of}
use Rattle.sx_values.specs.Layouts.{Layout, Admits}
use Rattle.sx_values.specs.declared.value.Value.{Value}
use Rattle.sx_values.specs.declared.catalog.Declared.{Declared}
use Rattle.sx_ops.specs.Operators.{AreRowsOf, AreSourceRows}
use Rattle.sx_ops.proofs.tests.sources.Goals as goal

alone : (key : List Value) → IsDistinct values_eq (key ∷ [])
unfolding IsDistinct
alone key = (tt, tt)

one_row : (found : Option Layout) (row : List Value) → IfSome found (λ schema. Admits schema row) → IfSome found (λ schema. AreRowsOf schema (row ∷ []))
one_row None row h = tt
one_row (Some schema) row h = record {
  admitted = All-cons (Admits schema) row [] h (All-nil (Admits schema));
  apart = alone _;
}

one_source : {E : Type 0} (catalog : List Declared) (name : List ℕ) (row : List Value) (result : Result (List (List (List Value))) E) → IfSome (schema_of catalog name) (λ schema. Admits schema row) → IfOk result (λ sources. sources ≡ (row ∷ []) ∷ []) → IfOk result (AreSourceRows catalog (name ∷ []))
one_source catalog name row (Ok sources) h e = rw e (one_row (schema_of catalog name) row h, tt)
one_source catalog name row (Err error) h e = tt

pub returns : goal.returns
returns c = one_source c.args.catalog.now c.args.table.now c.args.row _ c.requires c.one_list.ensures

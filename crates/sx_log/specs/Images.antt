-- Which images of rows a record may tell.
use Rattle.std.specs.Prelude.{◌≡◌, ⊤, ℕ, List, Option, Some, None, IsSomeAnd}
use Rattle.sx_values.specs.Layouts.{Layout, Admits, key_of}
use Rattle.sx_values.specs.declared.value.Value.{Value}
use Rattle.sx_log.specs.declared.record.Body.{Body}
use Rattle.sx_log.specs.declared.record.Body.TheVariants.{Write, Undo, Commit, Abort, Mark, Check, Switch}

-- a row that the schema admits and that has the key, or none
abbrev pub FitsImage : Layout → List Value → Option (List Value) → Type 0
FitsImage layout key None = ⊤
FitsImage layout key (Some row) = Admits layout row × (key ≡ key_of layout row)

-- both images of a change
abbrev pub FitsImages : Layout → List Value → (before after : Option (List Value)) → Type 0
FitsImages layout key before after = FitsImage layout key before × FitsImage layout key after

-- the table that a record changes is known, and its images are rows that the schema admits, of the record's key
unfoldable pub FitsTables : (List ℕ → Option Layout) → Body → Type 0
FitsTables schema (Write table key before after) = IsSomeAnd (schema table) (λ layout. FitsImages layout key before after)
FitsTables schema (Undo undoes table key before after) = IsSomeAnd (schema table) (λ layout. FitsImages layout key before after)
FitsTables schema Commit = ⊤
FitsTables schema Abort = ⊤
FitsTables schema Mark = ⊤
FitsTables schema (Check group dep) = ⊤
FitsTables schema Switch = ⊤

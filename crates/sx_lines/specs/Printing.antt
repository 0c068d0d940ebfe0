-- The text of a line.
use Rattle.std.specs.Prelude.{◌++◌, ◌+◌, ◌==◌, ⊤, Bool, true, false, ℕ, List, [], ◌∷◌, codes}
use Rattle.std.specs.List.{list_any}
use Rattle.std.specs.Fmt.{decimal}
use Rattle.sx_values.specs.declared.value.Value.{Value}
use Rattle.sx_values.specs.declared.schema.Kind.{Kind}
use Rattle.sx_values.specs.declared.schema.Kind.TheVariants as kind
use Rattle.sx_values.specs.declared.schema.Column.{Column}
use Rattle.sx_ops.specs.Checks.{IsPart}
use Rattle.sx_sync.specs.declared.Strategy.{Strategy}
use Rattle.sx_sync.specs.declared.Strategy.TheVariants as strategy
use Rattle.sx_journal.specs.declared.entry.PropLine.{PropLine}
use Rattle.sx_journal.specs.declared.entry.PropLine.TheVariants as pace
use Rattle.sx_journal.specs.declared.entry.Request.{Request}
use Rattle.sx_journal.specs.declared.entry.Request.TheVariants as request
use Rattle.sx_journal.specs.declared.entry.What.{What}
use Rattle.sx_journal.specs.declared.entry.What.TheVariants.{Ask, Abort}
use Rattle.sx_text.specs.Records.{record_text}
use Rattle.sx_lines.specs.declared.line.Line.{Line}
use Rattle.sx_lines.specs.declared.line.Line.TheVariants as line
use Rattle.sx_lang.specs.Spelling.{spec_text}

abbrev pub kind_text : Kind → List ℕ
kind_text kind.Int = codes "int"
kind_text kind.Text = codes "text"

-- what stands behind a column's kind, by whether it is in the key and whether it takes Null
abbrev pub mark_text : Bool → Bool → List ℕ
mark_text true nullable = 42 ∷ []
mark_text false true = 63 ∷ []
mark_text false false = []

-- a column's word, by whether it is in the key
abbrev pub column_text : Bool → Column → List ℕ
column_text in_key column = column.name ++ (58 ∷ (kind_text column.kind ++ mark_text in_key column.nullable))

-- whether a place is among those of the key
abbrev pub is_key_place : List ℕ → ℕ → Bool
is_key_place key place = list_any (λ p. p == place) key

-- columns from a place on, each behind a space
abbrev pub columns_text : ℕ → List ℕ → List Column → List ℕ
columns_text place key [] = []
columns_text place key (column ∷ columns) = 32 ∷ (column_text (is_key_place key place) column ++ columns_text (place + 1) key columns)

-- a name and a record of values
abbrev pub named_text : List ℕ → List Value → List ℕ
named_text name values = name ++ (32 ∷ record_text values)

-- names parted by commas
abbrev pub names_text : List (List ℕ) → List ℕ
names_text [] = []
names_text (name ∷ []) = name
names_text (name ∷ other ∷ names) = name ++ (44 ∷ names_text (other ∷ names))

abbrev pub strategy_text : Strategy → List ℕ
strategy_text strategy.Blocking = codes "blocking"
strategy_text strategy.NonBlockingAbort = codes "abort"
strategy_text strategy.NonBlockingCommit = codes "commit"

abbrev pub request_text : Request → List ℕ
request_text request.Begin = codes "begin"
request_text (request.Read table key) = codes "read " ++ named_text table key
request_text (request.Insert table row) = codes "insert " ++ named_text table row
request_text (request.Update table row) = codes "update " ++ named_text table row
request_text (request.Delete table key) = codes "delete " ++ named_text table key
request_text request.Commit = codes "commit"
request_text request.Undo = codes "undo"

abbrev pub what_text : What → List ℕ
what_text (Ask asked) = request_text asked
what_text Abort = codes "abort"

abbrev pub pace_text : PropLine → List ℕ
pace_text pace.Start = codes "start"
pace_text pace.Check = codes "check"
pace_text pace.Switch = codes "switch"
pace_text (pace.Scan n) = codes "scan " ++ decimal n
pace_text (pace.Fetch n) = codes "fetch " ++ decimal n

-- a line that has a text: of the transformations only a horizontal split has one
abbrev pub HasText : Line → Type 0
HasText (line.Change spec) = IsPart spec
HasText other = ⊤

-- the one text of a line, without its line feed
abbrev pub line_text : Line → List ℕ
line_text (line.Table name schema) = codes "table " ++ (name ++ columns_text 0 schema.key schema.columns)
line_text (line.Index table columns) = codes "index " ++ (table ++ (32 ∷ names_text columns))
line_text (line.Row table row) = codes "row " ++ named_text table row
line_text (line.Change spec) = codes "change " ++ spec_text spec
line_text (line.Strategy strategy) = codes "strategy " ++ strategy_text strategy
line_text (line.Retries n) = codes "retries " ++ decimal n
line_text (line.Client n what) = 99 ∷ (decimal n ++ (32 ∷ what_text what))
line_text (line.Pace pace) = codes "p " ++ pace_text pace

-- What a line shows by itself.
use Rattle.std.specs.Prelude.{◌≡◌, ◌≤◌, ◌+◌, ◌-◌, ◌&&◌, ⊤, ℕ, List, [], ◌∷◌, nat_le, codes, Option, Some, None, option_map, if◌then◌else◌}
use Rattle.sx_values.specs.declared.value.Value.{Value}
use Rattle.sx_values.specs.declared.catalog.Declared.{Declared}
use Rattle.sx_values.specs.Layouts.{Layout, IsLayout}
use Rattle.sx_values.specs.SchemaFaults.{IsDeclarable}
use Rattle.sx_values.specs.Catalogs.{schema_of, HasShortNames}
use Rattle.sx_sync.specs.declared.Strategy.{Strategy}
use Rattle.sx_sync.specs.declared.Strategy.TheVariants as strategy
use Rattle.sx_journal.specs.declared.entry.PropLine.{PropLine}
use Rattle.sx_journal.specs.declared.entry.PropLine.TheVariants as pace
use Rattle.sx_journal.specs.declared.entry.Request.TheVariants as request
use Rattle.sx_journal.specs.declared.entry.What.{What}
use Rattle.sx_journal.specs.declared.entry.What.TheVariants.{Ask, Abort}
use Rattle.sx_text.specs.Numbers.{number_of}
use Rattle.sx_lines.specs.declared.line.Line.{Line}
use Rattle.sx_lines.specs.declared.line.Line.TheVariants as line
use Rattle.sx_lines.specs.Lines.{◌>>=◌, when, parted, behind, same_bytes, words, named}
use Rattle.sx_lines.specs.Columns.{layout_over, no_columns, declarable}
use Rattle.sx_lines.specs.Fields.{row_shown, key_shown, spec_shown}

-- a name, a space and the columns
unfoldable pub table_in : List ℕ → Option Line
table_in text = do
  parts ← named text
  draft ← layout_over no_columns (words parts.1)
  layout ← declarable draft
  Some (line.Table parts.0 layout)

-- a known table's name, a space and a record of its columns
unfoldable pub row_in : List Declared → List ℕ → Option (List ℕ × List Value)
row_in catalog text = do
  parts ← named text
  layout ← schema_of catalog parts.0
  row ← row_shown layout parts.1
  Some (parts.0, row)

-- a known table's name, a space and a record of its key's columns
unfoldable pub key_in : List Declared → List ℕ → Option (List ℕ × List Value)
key_in catalog text = do
  parts ← named text
  layout ← schema_of catalog parts.0
  key ← key_shown layout parts.1
  Some (parts.0, key)

abbrev pub loads : List ℕ × List Value → Line
loads parts = line.Row parts.0 parts.1

abbrev pub reads : List ℕ × List Value → What
reads parts = Ask (request.Read parts.0 parts.1)

abbrev pub inserts : List ℕ × List Value → What
inserts parts = Ask (request.Insert parts.0 parts.1)

abbrev pub updates : List ℕ × List Value → What
updates parts = Ask (request.Update parts.0 parts.1)

abbrev pub deletes : List ℕ × List Value → What
deletes parts = Ask (request.Delete parts.0 parts.1)

-- what a line that begins with a word shows behind it, or else what another reading gives
abbrev pub choose : {A : Type 0} → Option (List ℕ) → (List ℕ → Option A) → Option A → Option A
choose (Some rest) shows other = shows rest
choose None shows other = other

-- what stands behind the client of a line
unfoldable pub what_in : List Declared → List ℕ → Option What
what_in catalog text =
    if same_bytes text (codes "begin") then Some (Ask request.Begin)
    else if same_bytes text (codes "commit") then Some (Ask request.Commit)
    else if same_bytes text (codes "abort") then Some Abort
    else choose (behind (codes "read ") text) (λ rest. option_map reads (key_in catalog rest))
    (choose (behind (codes "insert ") text) (λ rest. option_map inserts (row_in catalog rest))
    (choose (behind (codes "update ") text) (λ rest. option_map updates (row_in catalog rest))
    (choose (behind (codes "delete ") text) (λ rest. option_map deletes (key_in catalog rest)) None)))

-- the number that a text of one digit shows, if it is from a least to a greatest one
unfoldable pub digit_in : ℕ → ℕ → List ℕ → Option ℕ
digit_in least most [] = None
digit_in least most (digit ∷ []) = when (nat_le (48 + least) digit && nat_le digit (48 + most)) (digit - 48)
digit_in least most (digit ∷ other ∷ rest) = None

-- the number that a decimal text shows, if it is from 1 to a greatest one
abbrev pub count_in : ℕ → List ℕ → Option ℕ
count_in most text = number_of text >>= λ n. when (nat_le 1 n && nat_le n most) n

-- the strategy that a word shows
unfoldable pub strategy_in : List ℕ → Option Strategy
strategy_in text =
    if same_bytes text (codes "blocking") then Some strategy.Blocking
    else if same_bytes text (codes "abort") then Some strategy.NonBlockingAbort
    else if same_bytes text (codes "commit") then Some strategy.NonBlockingCommit
    else None

-- what the propagator does
unfoldable pub pace_in : List ℕ → Option PropLine
pace_in text =
    if same_bytes text (codes "start") then Some pace.Start
    else if same_bytes text (codes "check") then Some pace.Check
    else if same_bytes text (codes "switch") then Some pace.Switch
    else choose (behind (codes "scan ") text) (λ rest. option_map pace.Scan (count_in 64 rest))
    (choose (behind (codes "fetch ") text) (λ rest. option_map pace.Fetch (count_in 256 rest)) None)

-- a client's number, a space and what the client does
unfoldable pub client_in : List Declared → List ℕ → Option Line
client_in catalog text = do
  parts ← parted 32 text
  n ← digit_in 1 8 parts.0
  what ← what_in catalog parts.1
  Some (line.Client n what)

-- what a line shows, by the tables that are known before it
unfoldable pub line_of : List Declared → List ℕ → Option Line
line_of catalog text =
    choose (behind (codes "row ") text) (λ rest. option_map loads (row_in catalog rest))
    (choose (behind (codes "table ") text) table_in
    (choose (behind (codes "change ") text) (λ rest. option_map line.Change (spec_shown rest))
    (choose (behind (codes "retries ") text) (λ rest. option_map line.Retries (digit_in 0 8 rest))
    (choose (behind (codes "strategy ") text) (λ rest. option_map line.Strategy (strategy_in rest))
    (choose (behind (codes "p ") text) (λ rest. option_map line.Pace (pace_in rest))
    (choose (behind (codes "c") text) (client_in catalog) None))))))

-- each of the tables has a layout
abbrev pub HasLayouts : List Declared → Type 0
HasLayouts catalog = (name : List ℕ) (layout : Layout) → schema_of catalog name ≡ Some layout → IsLayout layout

-- a schema that can be declared
pub record IsTableSchema (layout : Layout) : Type 0 where
  pub declarable : IsDeclarable layout
  pub short_names : HasShortNames layout

-- a number from 1 to a greatest one
pub record IsCount (most n : ℕ) : Type 0 where
  pub from_one : 1 ≤ n
  pub to_most : n ≤ most

-- a line of the propagator that asks for few rows or records
abbrev pub IsPace : PropLine → Type 0
IsPace pace.Start = ⊤
IsPace pace.Check = ⊤
IsPace pace.Switch = ⊤
IsPace (pace.Scan n) = IsCount 64 n
IsPace (pace.Fetch n) = IsCount 256 n

-- what is known of a line's parts by themselves
abbrev pub IsFit : Line → Type 0
IsFit (line.Pace pace) = IsPace pace
IsFit (line.Table name schema) = IsTableSchema schema
IsFit other = ⊤

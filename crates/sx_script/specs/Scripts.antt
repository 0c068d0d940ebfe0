-- Scripts, and what a reading of bytes answers.
use Rattle.std.specs.Prelude.{◌≡◌, ⊤, ℕ, List, Option, Some, None, Result, Ok, Err}
use Rattle.sx_values.specs.declared.catalog.Declared.{Declared}
use Rattle.sx_values.specs.Catalogs.{IsCatalog}
use Rattle.sx_lines.specs.declared.line.Line.{Line}
use Rattle.sx_script.specs.declared.fault.ScriptFault.{ScriptFault}
use Rattle.sx_script.specs.declared.fault.ScriptFault.TheVariants.{Memory, Bad}
use Rattle.sx_script.specs.declared.fault.ScriptCause.TheVariants.{Later}
use Rattle.sx_script.specs.Plans.{plan_of}
use Rattle.sx_script.specs.Reading.{script_read}
use Rattle.sx_script.specs.Sound.{IsSound}

-- lines that some bytes are read as
pub record IsRead (lines : List Line) : Type 0 where
  pub bytes : List ℕ
  pub read : script_read bytes ≡ Some lines

-- lines that were read, and the tables that they declare
pub record IsScript (lines : List Line) (catalog : List Declared) : Type 0 where
  pub is_read : IsRead lines
  pub sound : IsSound (plan_of lines)
  pub catalog_is : catalog ≡ (plan_of lines).catalog
  pub tables : IsCatalog catalog

-- a fault other than want of memory is that of the whole: it is no script yet
abbrev pub Refuses : ScriptFault → Option (List Line) → Type 0
Refuses Memory read = ⊤
Refuses (Bad line cause) read = (read ≡ None) × (line ≡ 0) × (cause ≡ Later)

-- the answer is the script that was read, or refuses exactly where none is read, or wants memory
abbrev pub Reads : Result (List Line) ScriptFault → Option (List Line) → Type 0
Reads (Ok lines) read = read ≡ Some lines
Reads (Err fault) read = Refuses fault read

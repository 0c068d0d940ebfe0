-- The text of a script.
use Rattle.std.specs.Prelude.{◌++◌, ◌∷◌, ℕ, List, []}
use Rattle.std.specs.List.{flat_map}
use Rattle.sx_lines.specs.declared.line.Line.{Line}
use Rattle.sx_lines.specs.Printing.{line_text}

-- a line's text with its line feed
abbrev pub ended : Line → List ℕ
ended line = line_text line ++ 10 ∷ []

-- the text of lines, each ended by a line feed
abbrev pub script_text : List Line → List ℕ
script_text lines = flat_map ended lines

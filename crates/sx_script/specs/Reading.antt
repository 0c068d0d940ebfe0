-- How a script is read.
use Rattle.std.specs.Prelude.{◌++◌, ℕ, List, [], ◌∷◌, length, nat_le, Option, Some, None, option_map, if◌then◌else◌}
use Rattle.std.specs.List.{list_all}
use Rattle.sx_values.specs.Texts.{is_printable}
use Rattle.sx_lines.specs.declared.line.Line.{Line}
use Rattle.sx_lines.specs.Lines.{◌>>=◌, when, is_passed_over, text_lines}
use Rattle.sx_lines.specs.Forms.{line_of}
use Rattle.sx_script.specs.Plans.{plan_of, known, accepts}

-- what a line shows behind the lines so far, if it may follow them
unfoldable pub line_in : List Line → List ℕ → Option Line
line_in sofar text = line_of (known (plan_of sofar)) text >>= λ shown. when (accepts sofar shown) shown

-- the lines of a text's line: none where it is passed over, or else one
unfoldable pub item_in : List Line → List ℕ → Option (List Line)
item_in sofar text =
    if list_all is_printable text then (if is_passed_over text then Some [] else option_map (λ shown. shown ∷ []) (line_in sofar text))
    else None

-- the lines that texts show behind the lines so far
abbrev pub lines_read : List Line → List (List ℕ) → Option (List Line)
lines_read sofar [] = Some []
lines_read sofar (text ∷ rest) = item_in sofar text >>= λ item. option_map (λ lines. item ++ lines) (lines_read (sofar ++ item) rest)

-- the lines of a script, if the bytes are one of at most 20,000 lines
abbrev pub script_read : List ℕ → Option (List Line)
script_read bytes = if nat_le (length (text_lines bytes)) 20000 then lines_read [] (text_lines bytes) else None

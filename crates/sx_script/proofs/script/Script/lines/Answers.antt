use Rattle.std.proofs.Common.{◌≡◌, ◌≤◌, List, length, Some, subst}
use Rattle.std.specs.List.{All}
use Rattle.sx_values.specs.Catalogs.{IsCatalog}
use Rattle.sx_lines.specs.declared.line.Line.{Line}
use Rattle.sx_script.specs.Plans.{plan_of}
use Rattle.sx_script.specs.Reading.{script_read}
use Rattle.sx_lines.specs.Printing.{HasText}
use Rattle.sx_script.specs.Printing.{script_text}
use Rattle.sx_script.specs.Sound.{IsRunnable}
use Rattle.sx_script.proofs.ScriptLaws.{script_short, script_texts, runnable}
use Rattle.sx_lines.proofs.AgainLaws.{has_layouts}
use Rattle.sx_script.proofs.AgainLaws.{script_again}
use Rattle.sx_script.proofs.script.Script.lines.Goals as goal

pub returns-clause-runs : goal.returns-clause-runs
returns-clause-runs c =
    let lines = c.self.inside.lines in
    let is = c.self.invariant in
    let P : List Line → Type 0 = λ ls. IsRunnable (plan_of ls) in
    subst P c.self.view_is (runnable lines (script_short is.is_read.bytes lines is.is_read.read) is.sound)

pub returns-clause-few : goal.returns-clause-few
returns-clause-few c =
    let lines = c.self.inside.lines in
    let is = c.self.invariant in
    let P : List Line → Type 0 = λ ls. length ls ≤ 20000 in
    subst P c.self.view_is (script_short is.is_read.bytes lines is.is_read.read)

pub returns-clause-texts : goal.returns-clause-texts
returns-clause-texts c =
    let is = c.self.invariant in
    subst (All HasText) c.self.view_is (script_texts is.is_read.bytes c.self.inside.lines is.is_read.read)

pub returns-clause-again : goal.returns-clause-again
returns-clause-again c =
    let lines = c.self.inside.lines in
    let is = c.self.invariant in
    let P : List Line → Type 0 = λ ls. script_read (script_text ls) ≡ Some ls in
    subst P c.self.view_is (script_again is.is_read.bytes lines (has_layouts (plan_of lines).catalog (subst IsCatalog is.catalog_is is.tables)) is.is_read.read)

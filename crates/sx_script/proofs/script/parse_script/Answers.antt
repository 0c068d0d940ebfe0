use Rattle.std.proofs.Common.{◌≡◌, ◌≤◌, ◌+◌, ℕ, List, [], Some, None, length, refl, sym, ◌∙◌, ap, arith}
use Rattle.sx_lines.specs.declared.line.Line.{Line}
use Rattle.sx_lines.specs.Lines.{text_lines, next_line}
use Rattle.sx_lines.proofs.PartLaws.{no_line}
use Rattle.sx_script.specs.Reading.{lines_read, script_read}
use Rattle.sx_script.proofs.ReadLaws.{whole, read_further, read_refused, count_further, read_end, script_few, script_none}
use Rattle.sx_script.proofs.script.parse_script.Goals as goal

whole_read : (bytes : List ℕ) (left : List ℕ) (sofar : List Line) (count : ℕ) → next_line left ≡ None → whole sofar (lines_read sofar (text_lines left)) ≡ lines_read [] (text_lines bytes)
    → count + length (text_lines left) ≡ length (text_lines bytes) → count ≤ 20000 → script_read bytes ≡ Some sofar
whole_read bytes left sofar count next read counted few =
    let none : length (text_lines left) ≡ 0 = ap length (no_line left next) in
    let short : length (text_lines bytes) ≤ 20000 = omega arith in
    script_few bytes short ∙ sym read ∙ read_end sofar left next

pub into_script-requires : goal.into_script-requires
into_script-requires c =
    let i = c.loop-text.invariant in
    record { bytes = c.args.bytes.now; read = whole_read c.args.bytes.now c.loop-text.left.now c.loop-text.parser c.loop-text.count (sym c.in-None.ensures.line) i.read i.counted i.few }

pub returns-in-None : goal.returns-in-None
returns-in-None c =
    let i = c.loop-text.invariant in
    let read = whole_read c.args.bytes.now c.loop-text.left.now c.loop-text.parser c.loop-text.count (sym c.in-None.ensures.line) i.read i.counted i.few in
    read ∙ ap Some (sym c.into_script.ensures)

pub returns-in-None-2 : goal.returns-in-None-2
returns-in-None-2 c =
    let next : next_line c.loop-text.left.now ≡ Some (c.in-Some.text.now, c.in-Some.rest.now) = sym c.in-Some.ensures.line in
    let read = read_refused c.loop-text.parser c.loop-text.left.now c.in-Some.text.now c.in-Some.rest.now next (sym c.in-None-2.is ∙ c.in_ok-longer-in-Some.ensures) in
    (script_none c.args.bytes.now (sym c.loop-text.invariant.read ∙ read), refl, refl)

pub loop-text-preserved : goal.loop-text-preserved
loop-text-preserved c =
    let next : next_line c.loop-text.left.now ≡ Some (c.in-Some.text.now, c.in-Some.rest.now) = sym c.in-Some.ensures.line in
    let counted = count_further c.loop-text.left.now c.in-Some.text.now c.in-Some.rest.now next in
    record {
      read = read_further c.loop-text.parser c.in-Some-2.longer c.loop-text.left.now c.in-Some.text.now c.in-Some.rest.now next (sym c.in-Some-2.is ∙ c.in_ok-longer-in-Some.ensures) ∙ c.loop-text.invariant.read;
      counted = omega arith;
      few = omega arith;
    }

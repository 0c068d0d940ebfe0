-- How a call of the program ends, from how its parts do.
use Rattle.std.proofs.Common.{◌≡◌, ℕ, Bool, true, false, List, [], ◌∷◌, length, map, get_or, Option, Some, None, Err, refl, sym, ap, ◌∙◌, subst, inl, inr, codes, string_bytes}
use Rattle.std.specs.Prelude.{IsTrue, bytes_eq, String}
use Rattle.std.specs.Bool.{Decides}
use Rattle.std.specs.declared.alloc.Global.{Global}
use Rattle.std.proofs.lemmas.Slice.Eq.{bytes_eq-Decides}
use Rattle.std.specs.Io.KnownBytes.{Appends}
use Rattle.sx_io.specs.declared.whole.ReadFault.{ReadFault}
use Rattle.sx_io.specs.declared.whole.ReadFault.TheVariants.{TooLong}
use Rattle.sx_io.specs.Whole.{ReadsAll, IsReadWhole, IsReadPast}
use Rattle.sx_core.specs.Machines.{Machine}
use Rattle.sx_lines.specs.declared.line.Line.{Line}
use Rattle.sx_script.specs.declared.fault.ScriptCause.{ScriptCause}
use Rattle.sx_script.specs.declared.fault.ScriptFault.{ScriptFault}
use Rattle.sx_script.specs.declared.fault.ScriptFault.TheVariants.{Bad}
use Rattle.sx_script.specs.Scripts.{Refuses}
use Rattle.sx_script.specs.Reading.{script_read}
use Rattle.shiftrun.specs.declared.status.Status.{Status}
use Rattle.shiftrun.specs.declared.status.Status.TheVariants.{Reported, Refused, Words, Unread, Unwritten, Memory, Full}
use Rattle.shiftrun.specs.Outputs.{IsStep, IsOutput, IsOutputOf, most_bytes}
use Rattle.shiftrun.specs.ReportRuns.{IsRunOf}
use Rattle.shiftrun.specs.Endings.{Outside, Ends, StepEnds, PutsOut, PutsRun, run_status}

-- a line that is put out, as the output of some status
line_ends : (words : List (List ℕ)) (before after : Outside) (kept : Option Machine) (text : List ℕ) (status result : Status)
    → (Appends before.written after.written text → Ends words before after kept status) → IsOutput words before.left after.left status text None → kept ≡ None
    → PutsOut before.written after.written before.unwritten after.unwritten text status result → Ends words before after kept result
line_ends words before after kept text status result whole output none (inl p) = subst (Ends words before after kept) (sym p.0) (whole p.1)
line_ends words before after kept text status result whole output none (inr p) = subst (Ends words before after kept) (sym p.0) (record {
  status = status;
  text = text;
  unkept = None;
  output = output;
  taken = p.1.0;
  front = p.1.1;
  keeps = none;
})

-- the words are no command
pub words_end : (words : List (List ℕ)) (before after : Outside) (kept : Option Machine) (result : Status) → (IsStep words → ⊥) → after.left ≡ before.left → kept ≡ None
    → PutsOut before.written after.written before.unwritten after.unwritten (codes "fault words\n") Words result → Ends words before after kept result
words_end words before after kept result others unread none puts = line_ends words before after kept (codes "fault words\n") Words result
    (λ taken. record { text = codes "fault words\n"; output = record { others = others; unread = unread; shown = refl; keeps = none }; taken = taken })
    (record { others = others; unread = unread; shown = refl; keeps = refl }) none puts

-- a fault of too many bytes says that they were read
pub past_read : (left rest : Option (List ℕ)) (before now limit : ℕ) (fault : ReadFault) → fault ≡ TooLong → ReadsAll left rest before now limit (Err fault) → IsReadPast left rest limit
past_read left rest before now limit fault is read = subst (λ f. ReadsAll left rest before now limit (Err f)) is read

-- there are too many bytes
pub long_end : (words : List (List ℕ)) (before after : Outside) (kept : Option Machine) (result : Status) → IsStep words → IsReadPast before.left after.left most_bytes → kept ≡ None
    → PutsOut before.written after.written before.unwritten after.unwritten (codes "fault 0 toolong\n") Refused result → Ends words before after kept result
long_end words before after kept result step past none puts = line_ends words before after kept (codes "fault 0 toolong\n") Refused result
    (λ taken. record { text = codes "fault 0 toolong\n"; output = (step, inr (record { read = past; shown = refl; keeps = none })); taken = taken })
    (step, inr (record { read = past; shown = refl; keeps = refl })) none puts

-- a fault other than want of memory says that there is no script
pub bad_read : (fault : ScriptFault) (line : ℕ) (cause : ScriptCause) (read : Option (List Line)) → fault ≡ Bad line cause → Refuses fault read → read ≡ None
bad_read fault line cause read is refuses = (subst (λ f. Refuses f read) is refuses).0

-- the bytes are no script
pub refused_end : (bytes : List ℕ) (written after : Option (List ℕ)) (before now : ℕ) (kept : Option Machine) (result : Status) → script_read bytes ≡ None → kept ≡ None
    → PutsOut written after before now (codes "fault 0 later\n") Refused result → StepEnds bytes written after before now kept result
refused_end bytes written after before now kept result none nothing (inl p) = subst (StepEnds bytes written after before now kept) (sym p.0) (record {
  text = codes "fault 0 later\n";
  output = record { script = none; shown = refl; keeps = nothing };
  taken = p.1;
})
refused_end bytes written after before now kept result none nothing (inr p) = subst (StepEnds bytes written after before now kept) (sym p.0) (record {
  status = Refused;
  text = codes "fault 0 later\n";
  unkept = None;
  output = record { script = none; shown = refl; keeps = refl };
  taken = p.1.0;
  front = p.1.1;
  keeps = nothing;
})

-- the bytes were read to the end
output_of : (words : List (List ℕ)) (left rest : Option (List ℕ)) (bytes text : List ℕ) (status : Status) (kept : Option Machine) → IsStep words → IsReadWhole left rest most_bytes bytes → IsOutputOf bytes status text kept → IsOutput words left rest status text kept
output_of words left rest bytes text Reported kept step read is = (step, record { bytes = bytes; read = read; report = is })
output_of words left rest bytes text Refused kept step read is = (step, inl (record { bytes = bytes; read = read; refused = is }))
output_of words left rest bytes text Words kept step read is = absurd is
output_of words left rest bytes text Unread kept step read is = absurd is
output_of words left rest bytes text Unwritten kept step read is = absurd is
output_of words left rest bytes text Memory kept step read is = absurd is
output_of words left rest bytes text Full kept step read is = (step, record { bytes = bytes; read = read; report = is })

pub step_end : (words : List (List ℕ)) (before after : Outside) (bytes : List ℕ) (kept : Option Machine) (result : Status) → IsStep words → IsReadWhole before.left after.left most_bytes bytes
    → StepEnds bytes before.written after.written before.unwritten after.unwritten kept result → Ends words before after kept result
step_end words before after bytes kept Reported step read ends = record { text = ends.text; output = output_of words before.left after.left bytes ends.text Reported kept step read ends.output; taken = ends.taken }
step_end words before after bytes kept Refused step read ends = record { text = ends.text; output = output_of words before.left after.left bytes ends.text Refused kept step read ends.output; taken = ends.taken }
step_end words before after bytes kept Words step read ends = absurd ends
step_end words before after bytes kept Unread step read ends = absurd ends
step_end words before after bytes kept Unwritten step read ends = record {
  status = ends.status;
  text = ends.text;
  unkept = ends.unkept;
  output = output_of words before.left after.left bytes ends.text ends.status ends.unkept step read ends.output;
  taken = ends.taken;
  front = ends.front;
  keeps = ends.keeps;
}
step_end words before after bytes kept Memory step read ends = record { nothing = ends.0; keeps = ends.1 }
step_end words before after bytes kept Full step read ends = record { text = ends.text; output = output_of words before.left after.left bytes ends.text Full kept step read ends.output; taken = ends.taken }

-- what is printed for a run
run_output : (full : Bool) (bytes : List ℕ) (lines : List Line) (machine : Machine) (text : List ℕ) → script_read bytes ≡ Some lines → IsRunOf full lines machine text → IsOutputOf bytes (run_status full) text (Some machine)
run_output true bytes lines machine text script run = record { lines = lines; script = script; machine = machine; run = run; keeps = refl }
run_output false bytes lines machine text script run = record { lines = lines; script = script; machine = machine; run = run; keeps = refl }

run_put : (full : Bool) (bytes text : List ℕ) (machine : Machine) (written after : Option (List ℕ)) (before now : ℕ) → IsOutputOf bytes (run_status full) text (Some machine) → Appends written after text → StepEnds bytes written after before now (Some machine) (run_status full)
run_put true bytes text machine written after before now output taken = record { text = text; output = output; taken = taken }
run_put false bytes text machine written after before now output taken = record { text = text; output = output; taken = taken }

-- a run's report was put out, in whole or in part
pub run_ends : (full : Bool) (bytes : List ℕ) (lines : List Line) (machine : Machine) (text : List ℕ) (written after : Option (List ℕ)) (before now : ℕ) (kept : Option Machine) (result : Status)
    → script_read bytes ≡ Some lines → IsRunOf full lines machine text → PutsRun full machine text written after before now kept result → StepEnds bytes written after before now kept result
run_ends full bytes lines machine text written after before now kept result script run (inl p) =
    subst (StepEnds bytes written after before now kept) (sym p.0)
    (subst (λ k. StepEnds bytes written after before now k (run_status full)) (sym p.1)
    (run_put full bytes text machine written after before now (run_output full bytes lines machine text script run) p.2))
run_ends full bytes lines machine text written after before now kept result script run (inr p) = subst (StepEnds bytes written after before now kept) (sym p.0) (record {
  status = run_status full;
  text = text;
  unkept = Some machine;
  output = run_output full bytes lines machine text script run;
  taken = p.2.0;
  front = p.2.1;
  keeps = p.1;
})

-- one word, by its test
pub one_word : (words : List (String Global)) (word : String Global) (told : Bool) → length words ≡ 1 → word ≡ get_or words 0 word → told ≡ bytes_eq (string_bytes word) (codes "step")
    → (IsTrue told → map string_bytes words ≡ codes "step" ∷ []) × (map string_bytes words ≡ codes "step" ∷ [] → IsTrue told)
one_word [] word told one is test = absurd (cc)
one_word (w ∷ v ∷ ws) word told one is test = absurd (cc)
one_word (w ∷ []) word told one is test = (λ yes. ap (λ bytes. bytes ∷ []) (same ∙ decides.0 (sym test ∙ yes)), λ eq. test ∙ decides.1 (sym same ∙ first eq))
  where
    same : string_bytes w ≡ string_bytes word
    same = ap string_bytes (sym is)

    decides : Decides (bytes_eq (string_bytes word) (codes "step")) (string_bytes word ≡ codes "step")
    decides = bytes_eq-Decides (string_bytes word) (codes "step")

    first : string_bytes w ∷ [] ≡ codes "step" ∷ [] → string_bytes w ≡ codes "step"
    first e = cc

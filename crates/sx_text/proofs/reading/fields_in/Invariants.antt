use Rattle.std.proofs.Common.{◌≡◌, ◌++◌, map, drop}
use Rattle.csv.specs.Records.{fields_of}
use Rattle.sx_text.proofs.reading.fields_in.Given as goal

abbrev pub invariant-loop-field : goal.invariant-loop-field
invariant-loop-field l = record {
  row : l.field-iterator.row.now ≡ l.parts;
  items : map (λ field. field.now) l.fields.items ++ drop l.field-iterator.at (fields_of l.parts) ≡ fields_of l.parts;
}

use Rattle.std.proofs.Common.{◌≡◌, ◌++◌, ◌∷◌, false, map, drop}
use Rattle.csv.specs.Writing.{default_writer, fields_text, is_blank, row_body}
use Rattle.sx_text.specs.Records.{BeginsWith, are_values, field_of}
use Rattle.sx_text.proofs.printing.put_plain.Given as goal

abbrev pub invariant-loop-value : goal.invariant-loop-value
invariant-loop-value l = record {
  begins : BeginsWith l.fn.out.items l.out.items;
  joined : l.out.items ++ fields_text default_writer (map field_of (drop l.value-index l.rest)) ≡ l.fn.out.items ++ row_body default_writer (map field_of (l.first ∷ l.rest));
  shown : is_blank default_writer (map field_of (l.first ∷ l.rest)) ≡ false;
  values : are_values (drop l.value-index l.rest) ≡ are_values (l.first ∷ l.rest);
}

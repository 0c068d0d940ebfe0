use Rattle.std.proofs.Common.{◌≡◌, ◌++◌, [], map, drop}
use Rattle.csv.specs.Records.{fields_of, partial_of}
use Rattle.sx_text.specs.Records.{are_values, field_of}
use Rattle.sx_text.proofs.printing.record_of_values.Given as goal

abbrev pub invariant-loop-value : goal.invariant-loop-value
invariant-loop-value l = record {
  ended : partial_of l.record ≡ [];
  fields : fields_of l.record ++ map field_of (drop l.value-index l.values) ≡ map field_of l.values;
  values : are_values (drop l.value-index l.values) ≡ are_values l.values;
}

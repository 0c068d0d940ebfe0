use Rattle.sx_values.specs.Layouts.{key_columns}
use Rattle.sx_text.specs.Records.{record_fields}
use Rattle.sx_text.specs.Reading.{kinds_of}
use Rattle.sx_text.proofs.ReadBackLaws.{are_values-fields_read}
use Rattle.sx_text.proofs.laws.rows_read_are_values.Goals as goal

pub returns : goal.returns
returns c = record {
  row = λ layout text row e. are_values-fields_read (kinds_of layout.columns) (record_fields text) row e;
  key = λ layout text key e. are_values-fields_read (kinds_of (key_columns layout)) (record_fields text) key e;
}

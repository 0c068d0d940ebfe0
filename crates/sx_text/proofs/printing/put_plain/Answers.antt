use Rattle.std.proofs.Common.{◌++◌, ◌∷◌, ◌&&◌, ◌+◌, map, drop, sym, ap, ◌∙◌}
use Rattle.std.proofs.Math.ListN.{drop_of_length-le}
use Rattle.csv.specs.Writing.{default_writer, fields_text, row_body}
use Rattle.sx_text.specs.Records.{are_values, field_of}
use Rattle.sx_text.proofs.QuoteLaws.{first_field, one_field, shows_some, whole_record, values_at, begins_further, begins_longer}
use Rattle.sx_text.proofs.printing.put_plain.Goals as goal

pub loop-value-init : goal.loop-value-init
loop-value-init c =
    let plain = c.in_ok-put_field.ensures.plain c.if-not-branch.false in
    record {
      begins = c.put_field.ensures.front;
      joined = first_field c.args.out.now.items c.put_field.new.text.items (field_of c.args.first.now) (map field_of c.args.rest.now) plain c.in_ok-put_field.ensures.text;
      shown = shows_some (field_of c.args.first.now) (map field_of c.args.rest.now) plain;
      values = sym (ap (λ first. first && are_values c.args.rest.now) c.in_ok-put_field.ensures.value);
    }

pub loop-value-preserved : goal.loop-value-preserved
loop-value-preserved c =
    let plain = c.in_ok-put_field-2.ensures.plain c.if-not-branch-2.false in
    let at = values_at c.args.rest.now c.loop-value.value-index c.value-item.result c.loop-value-test.true c.value-item.is in
    let body = c.args.out.now.items ++ row_body default_writer (map field_of (c.args.first.now ∷ c.args.rest.now)) in
    let before = ap (λ values. c.loop-value.out.items ++ fields_text default_writer (map field_of values)) (sym at) ∙ c.loop-value.invariant.joined in
    let text = c.in_ok-put_field-2.ensures.text ∙ ap (λ t. t ++ field_of c.value-item.result) c.in_ok-push.ensures.items in
    record {
      begins = begins_further c.args.out.now.items c.push.new.self.items c.put_field-in-loop-value.new.text.items
          (begins_longer c.args.out.now.items c.loop-value.out.items c.push.new.self.items 44 c.loop-value.invariant.begins c.in_ok-push.ensures.items) c.put_field-in-loop-value.ensures.front;
      joined = ap (λ t. t ++ fields_text default_writer (map field_of (drop (c.loop-value.value-index + 1) c.args.rest.now))) text
          ∙ one_field c.loop-value.out.items body (field_of c.value-item.result) (map field_of (drop (c.loop-value.value-index + 1) c.args.rest.now)) plain before;
      shown = c.loop-value.invariant.shown;
      values = sym (ap are_values at ∙ ap (λ first. first && are_values (drop (c.loop-value.value-index + 1) c.args.rest.now)) c.in_ok-put_field-2.ensures.value) ∙ c.loop-value.invariant.values;
    }

pub returns-clause-text : goal.returns-clause-text
returns-clause-text c =
    let none = drop_of_length-le c.args.rest.now c.loop-value-test.false in
    λ plain.
    whole_record c.args.out.now.items c.loop-value.out.items (map field_of (c.args.first.now ∷ c.args.rest.now)) (ap (λ values. c.loop-value.out.items ++ fields_text default_writer (map field_of values)) (sym none) ∙ c.loop-value.invariant.joined) c.loop-value.invariant.shown

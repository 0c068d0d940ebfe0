use Rattle.std.proofs.Common.{◌++◌, ◌∷◌, [], List, ℕ, Bor, sym, ap, ◌∙◌, map, drop}
use Rattle.std.proofs.lemmas.List.{map-append}
use Rattle.sx_text.proofs.PlainLaws.{last_piece, piece_taken, no_fields, plain_record}
use Rattle.sx_text.proofs.reading.plain_fields.Goals as goal

abbrev now : Bor (List ℕ) → List ℕ
now field = field.now

pub returns-then-is_empty : goal.returns-then-is_empty
returns-then-is_empty c = rw c.new-fields.ensures.items (sym (no_fields c.args.text.now (sym c.is_empty.ensures ∙ c.if-is_empty.true)))

pub loop-at-init : goal.loop-at-init
loop-at-init c = rw c.new-fields.ensures.items (sym (plain_record c.args.text.now c.requires.printable c.requires.unquoted (sym c.is_empty.ensures ∙ c.if-is_empty.false)))

pub loop-at-preserved : goal.loop-at-preserved
loop-at-preserved c =
    let rest = c.loop-at.rest.now in
    let found = sym c.comma_in.ensures.index ∙ c.in-Some.is in
    let back = c.split_at-in-Some.ensures.back ∙ ap (drop 1) c.split_at.ensures.back in
    rw (c.in_ok-push-in-Some.ensures.items, map-append now c.loop-at.fields.items (c.split_at.result.0 ∷ []), c.split_at.ensures.front, back)
    (piece_taken (map now c.loop-at.fields.items) rest c.in-Some.at found ∙ c.loop-at.invariant)

pub returns-in-None : goal.returns-in-None
returns-in-None c =
    let rest = c.loop-at.rest.now in
    let none = last_piece rest (sym c.comma_in.ensures.index ∙ c.in-None.is) in
    rw (c.in_ok-push-in-None.ensures.items, map-append now c.loop-at.fields.items (c.loop-at.rest ∷ []))
    (ap (λ (p : List (List ℕ)). map now c.loop-at.fields.items ++ p) (sym none) ∙ c.loop-at.invariant)

use Rattle.std.proofs.Common.{◌≡◌, ◌++◌, ◌∷◌, ◌+◌, [], List, ℕ, suc, Bor, Some, None, sym, ap, ◌∙◌, map, drop, add-one}
use Rattle.std.proofs.lemmas.List.{map-append, append-nil, append_assoc}
use Rattle.csv.specs.Records.{fields_of, field_at}
use Rattle.sx_text.proofs.FieldLaws.{drop-field, drop-past}
use Rattle.sx_text.proofs.reading.fields_in.Goals as goal

abbrev now : Bor (List ℕ) → List ℕ
now field = field.now

-- one more field is taken from the front
taken : (front all : List (List ℕ)) (x : List ℕ) (i : ℕ) → field_at all i ≡ Some x → front ++ drop i all ≡ all → (front ++ x ∷ []) ++ drop (i + 1) all ≡ all
taken front all x i e h = rw add-one (append_assoc front (x ∷ []) (drop (suc i) all) ∙ ap (λ (p : List (List ℕ)). front ++ p) (sym (drop-field all i x e)) ∙ h)

pub loop-field-preserved : goal.loop-field-preserved
loop-field-preserved c =
    let s = c.in-Some.ensures.steps in
    let at = c.loop-field.field-iterator.at in
    let all = fields_of c.args.parts.now in
    let here : field_at all at ≡ Some c.in-Some.field.now = rw c.loop-field.invariant.row at (sym s.1) in
    record {
      row = ap (λ r. r.now) s.0 ∙ c.loop-field.invariant.row;
      items = rw (c.in_ok-push.ensures.items, map-append now c.loop-field.fields.items (c.in-Some.field ∷ []), s.2)
          (taken (map now c.loop-field.fields.items) all c.in-Some.field.now at here c.loop-field.invariant.items);
    }

pub returns : goal.returns
returns c =
    let s = c.in-None.ensures.steps in
    let at = c.loop-field.field-iterator.at in
    let all = fields_of c.args.parts.now in
    let here : field_at all at ≡ None = rw c.loop-field.invariant.row at (sym s.1) in
    let past = drop-past all at here in
    sym (append-nil (map now c.loop-field.fields.items)) ∙ ap (λ (p : List (List ℕ)). map now c.loop-field.fields.items ++ p) (sym past) ∙ c.loop-field.invariant.items

use Rattle.std.proofs.Common.{rules, ◌≡◌, ◌∙◌, ◌∷◌, [], List, true, refl, sym, ap, map, subst, true≢false}
use Rattle.std.specs.Ordering.{is_lt}
use Rattle.std.specs.declared.cmp.Ordering.{Ordering}
use Rattle.std.specs.declared.cmp.Ordering.TheVariants.{Less, Equal, Greater}
use Rattle.std.specs.List.Sorted.{IsStrictlySortedBy}
use Rattle.sx_values.specs.declared.value.Value.{Value}
use Rattle.sx_values.specs.Values.{values_cmp}
use Rattle.sx_values.specs.Layouts.{key_of}
use Rattle.sx_heap.proofs.tests.of_two.Goals as goal

less_of : (r : Ordering) → is_lt r ≡ true → r ≡ Less
less_of Less e = refl
less_of Equal e = absurd (true≢false (sym e))
less_of Greater e = absurd (true≢false (sym e))

two_in_order : (key other : List Value) → is_lt (values_cmp key other) ≡ true → IsStrictlySortedBy values_cmp (key ∷ other ∷ [])
unfolding IsStrictlySortedBy
two_in_order key other e = ((less_of (values_cmp key other) e, tt), (tt, tt))

pub of_rows-requires-clause-in_order : goal.of_rows-requires-clause-in_order
of_rows-requires-clause-in_order g c =
    let schema = c.in_ok-schema.schema in
    let all : c.push-2.new.self ≡ c.args.first ∷ c.args.second ∷ [] = search rules in
    let is : c.is_below.result ≡ true = search rules in
    let below : is_lt (values_cmp (key_of schema c.args.first) (key_of schema c.args.second)) ≡ true =
    ap (λ key. is_lt (values_cmp key (key_of schema c.args.second))) (sym c.in_ok-one.ensures.key)
    ∙ ap (λ key. is_lt (values_cmp c.in_ok-one.one key)) (sym c.in_ok-two.ensures.key) ∙ sym c.is_below.ensures ∙ is in
    subst (λ rows. IsStrictlySortedBy values_cmp (map (key_of schema) rows)) (sym all) (two_in_order (key_of schema c.args.first) (key_of schema c.args.second) below)

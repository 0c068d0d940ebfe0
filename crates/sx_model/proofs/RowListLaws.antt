-- The rows that a log leaves in a table, as the one list in key order: for each key the row that it has.
use Rattle.std.proofs.Common.{◌≡◌, ◌+◌, ◌++◌, ◌∷◌, [], ℕ, List, length, map, Bool, true, false, not, Option, Some, None, option_map, cond, refl, sym, ap, ◌∙◌, subst, if◌then◌else◌}
use Rattle.std.specs.Prelude.{filter}
use Rattle.std.specs.Ordering.{is_lt, is_gt, is_eq, ordering_reverse}
use Rattle.std.specs.declared.cmp.Ordering.{Ordering}
use Rattle.std.specs.declared.cmp.Ordering.TheVariants.{Less, Equal, Greater}
use Rattle.std.specs.List.{AllByRecursion}
use Rattle.std.specs.List.Sorted.{IsStrictlySortedBy}
use Rattle.std.specs.Cmp.Lexicographic.{lists_total}
use Rattle.std.specs.Cmp.{IsTotalOrder}
use Rattle.sx_values.specs.ValueLaws.{value_cmp_total}
use Rattle.sx_lists.specs.Answers.{or_later}
use Rattle.sx_values.specs.declared.value.Value.{Value}
use Rattle.sx_values.specs.Names.{same_name}
use Rattle.sx_values.specs.Values.{values_cmp, values_eq}
use Rattle.sx_values.specs.Layouts.{Layout, key_of}
use Rattle.sx_values.proofs.KeyLaws.{values_tie}
use Rattle.sx_log.specs.declared.record.Rec.{Rec}
use Rattle.sx_log.specs.declared.record.Body.{Body}
use Rattle.sx_log.specs.declared.record.Body.TheVariants.{Write, Undo, Commit, Abort, Mark, Check, Switch}
use Rattle.sx_log.specs.State.{Stored, stored, is_place, after_body, state_at, row_left}
use Rattle.sx_log.specs.Rows.{Keyed, with_image, rows_after, rows_left}
use Rattle.sx_model.specs.RowLists.{row_of_key, AreRows}
use Rattle.sx_model.specs.NewRows.{rows_of}
use Rattle.sx_model.proofs.AllLaws.{all_filter, all_append}
use Rattle.sx_model.proofs.TestLaws.{by_cases}
use Rattle.sx_model.proofs.LsnLaws.{values_eq_tells}
use Rattle.sx_model.proofs.StateLaws.{values_eq-refl}
use Rattle.sx_model.proofs.ImageLaws.{AllFit}
use Rattle.sx_model.proofs.ListedLaws.{IsFit, listed_fit, rows_admitted}

values_total : IsTotalOrder values_cmp
values_total = lists_total value_cmp_total

-- the row of a key among rows with their keys
abbrev keyed_at : List Keyed → List Value → Option (List Value)
keyed_at [] key = None
keyed_at (k ∷ rows) key = if values_eq k.key key then Some k.row else keyed_at rows key

-- ** look-ups **

at_append : (some others : List Keyed) (key : List Value) → keyed_at (some ++ others) key ≡ or_later (keyed_at some key) (keyed_at others key)
at_append [] others key = refl
at_append (k ∷ some) others key = by (values_eq k.key key) (at_append some others key)
  where
    by : (b : Bool) → keyed_at (some ++ others) key ≡ or_later (keyed_at some key) (keyed_at others key) → cond b (Some k.row) (keyed_at (some ++ others) key) ≡ or_later (cond b (Some k.row) (keyed_at some key)) (keyed_at others key)
    by true rest = refl
    by false rest = rest

at_filter : (p : List Value → Bool) (rows : List Keyed) (key : List Value) → keyed_at (filter (λ (k : Keyed). p k.key) rows) key ≡ (if p key then keyed_at rows key else None)
at_filter p [] key = by_cases (p key) (λ t. rw t refl) (λ f. rw f refl)
at_filter p (k ∷ rows) key =
    let rest = at_filter p rows key in
    by_cases (values_eq k.key key)
    (λ here. let same = ap p (values_eq_tells k.key key here) in by_cases (p key) (λ t. rw (same ∙ t, here, t) refl) (λ f. rw (same ∙ f, f) (rest ∙ rw f refl)))
    (λ away. by_cases (p k.key) (λ t. rw (t, away) rest) (λ f. rw (f, away) rest))

-- equality of keys, by their order
eq_less : (one other : List Value) → values_cmp one other ≡ Less → values_eq other one ≡ false
eq_less one other e = ap is_eq (values_total.antisymm other one ∙ ap ordering_reverse e)

eq_greater : (one other : List Value) → values_cmp one other ≡ Greater → values_eq other one ≡ false
eq_greater one other e = ap is_eq (values_total.antisymm other one ∙ ap ordering_reverse e)

eq_equal : (one other : List Value) → values_cmp one other ≡ Equal → values_eq other one ≡ true
eq_equal one other e = ap is_eq (values_total.antisymm other one ∙ ap ordering_reverse e)

later_none : (x : Option (List Value)) → or_later x None ≡ x
later_none None = refl
later_none (Some row) = refl

-- a key set to a row
set_row : (key row : List Value) (rows : List Keyed) (at : List Value) → keyed_at (with_image key (Some row) rows) at ≡ (if values_eq key at then Some row else keyed_at rows at)
set_row key row rows at =
    at_append (filter (λ (k : Keyed). is_lt (values_cmp k.key key)) rows) (record { key = key; row = row } ∷ filter (λ (k : Keyed). is_gt (values_cmp k.key key)) rows) at
    ∙ ap (λ x. or_later x (if values_eq key at then Some row else keyed_at (filter (λ (k : Keyed). is_gt (values_cmp k.key key)) rows) at)) (at_filter (λ k. is_lt (values_cmp k key)) rows at)
    ∙ ap (λ x. or_later (if is_lt (values_cmp at key) then keyed_at rows at else None) (if values_eq key at then Some row else x)) (at_filter (λ k. is_gt (values_cmp k key)) rows at)
    ∙ by (values_cmp at key) refl
  where
    by : (r : Ordering) → values_cmp at key ≡ r → or_later (if is_lt (values_cmp at key) then keyed_at rows at else None) (if values_eq key at then Some row else (if is_gt (values_cmp at key) then keyed_at rows at else None)) ≡ (if values_eq key at then Some row else keyed_at rows at)
    by Less e = rw (e, eq_less at key e) (later_none (keyed_at rows at))
    by Equal e = rw (e, eq_equal at key e) refl
    by Greater e = rw (e, eq_greater at key e) refl

-- or to none
set_none : (key : List Value) (rows : List Keyed) (at : List Value) → keyed_at (with_image key None rows) at ≡ (if values_eq key at then None else keyed_at rows at)
set_none key rows at = at_filter (λ k. not (values_eq k key)) rows at ∙ by (values_cmp at key) refl
  where
    by : (r : Ordering) → values_cmp at key ≡ r → (if not (values_eq at key) then keyed_at rows at else None) ≡ (if values_eq key at then None else keyed_at rows at)
    by Less e = rw (e, eq_less at key e) refl
    by Equal e = rw (e, eq_equal at key e) refl
    by Greater e = rw (e, eq_greater at key e) refl

set_image : (key : List Value) (image : Option (List Value)) (rows : List Keyed) (at : List Value) → keyed_at (with_image key image rows) at ≡ (if values_eq key at then image else keyed_at rows at)
set_image key None rows at = set_none key rows at
set_image key (Some row) rows at = set_row key row rows at

-- the same as the state says
state_row : (b : Bool) (lsn : ℕ) (image : Option (List Value)) (earlier : Option Stored) → option_map (λ (s : Stored). s.0) (if b then stored lsn image else earlier) ≡ (if b then image else option_map (λ (s : Stored). s.0) earlier)
state_row false lsn image earlier = refl
state_row true lsn None earlier = refl
state_row true lsn (Some row) earlier = refl

changed_at : (written table : List ℕ) (key : List Value) (image : Option (List Value)) (rows : List Keyed) (at : List Value) (lsn : ℕ) (earlier : Option Stored) → keyed_at rows at ≡ option_map (λ (s : Stored). s.0) earlier
    → keyed_at (if same_name written table then with_image key image rows else rows) at ≡ option_map (λ (s : Stored). s.0) (if is_place written key table at then stored lsn image else earlier)
changed_at written table key image rows at lsn earlier rest = by_cases (same_name written table)
    (λ t. rw t (set_image key image rows at ∙ ap (λ x. if values_eq key at then image else x) rest ∙ sym (state_row (values_eq key at) lsn image earlier)))
    (λ f. rw f rest)

body_at : (table : List ℕ) (body : Body) (rows : List Keyed) (at : List Value) (lsn : ℕ) (earlier : Option Stored) → keyed_at rows at ≡ option_map (λ (s : Stored). s.0) earlier → keyed_at (rows_after table body rows) at ≡ option_map (λ (s : Stored). s.0) (after_body lsn body table at earlier)
unfolding rows_after after_body
body_at table (Write written key before after) rows at lsn earlier rest = changed_at written table key after rows at lsn earlier rest
body_at table (Undo undoes written key before after) rows at lsn earlier rest = changed_at written table key after rows at lsn earlier rest
body_at table Commit rows at lsn earlier rest = rest
body_at table Abort rows at lsn earlier rest = rest
body_at table Mark rows at lsn earlier rest = rest
body_at table (Check group dep) rows at lsn earlier rest = rest
body_at table Switch rows at lsn earlier rest = rest

listed_at : (log : List Rec) (table : List ℕ) (at : List Value) → keyed_at (rows_left log table) at ≡ row_left log table at
listed_at [] table at = refl
listed_at (r ∷ log) table at = body_at table r.body (rows_left log table) at (length log + 1) (state_at log table at) (listed_at log table at)

-- ** order **

-- each of these keys is below that one, or above it
abbrev AllBelow : List Keyed → List Value → Type 0
AllBelow rows key = AllByRecursion (λ (k : Keyed). values_cmp k.key key ≡ Less) rows

abbrev AllOver : List Value → List Keyed → Type 0
AllOver key rows = AllByRecursion (λ (k : Keyed). values_cmp key k.key ≡ Less) rows

-- rows in key order
abbrev InOrder : List Keyed → Type 0
InOrder [] = Unit {0}
InOrder (k ∷ rows) = AllOver k.key rows × InOrder rows

order_filter : (p : Keyed → Bool) (rows : List Keyed) → InOrder rows → InOrder (filter p rows)
order_filter p [] order = tt
order_filter p (k ∷ rows) order =
    let rest = order_filter p rows order.1 in
    by_cases (p k) (λ t. rw t (all_filter (λ (o : Keyed). values_cmp k.key o.key ≡ Less) p rows order.0, rest)) (λ f. rw f rest)

filter_holds : (p : Keyed → Bool) (rows : List Keyed) → AllByRecursion (λ (k : Keyed). p k ≡ true) (filter p rows)
filter_holds p [] = tt
filter_holds p (k ∷ rows) = (let rest = filter_holds p rows in by_cases (p k) (λ t. rw t (t, rest)) (λ f. rw f rest))

below_from : (key : List Value) (rows : List Keyed) → AllByRecursion (λ (k : Keyed). is_lt (values_cmp k.key key) ≡ true) rows → AllBelow rows key
below_from key [] all = tt
below_from key (k ∷ rows) all = (less (values_cmp k.key key) all.0, below_from key rows all.1)
  where
    less : (r : Ordering) → is_lt r ≡ true → r ≡ Less
    less Less e = refl
    less Equal e = absurd (cc)
    less Greater e = absurd (cc)

over_from : (key : List Value) (rows : List Keyed) → AllByRecursion (λ (k : Keyed). is_gt (values_cmp k.key key) ≡ true) rows → AllOver key rows
over_from key [] all = tt
over_from key (k ∷ rows) all = (values_total.antisymm key k.key ∙ ap ordering_reverse (more (values_cmp k.key key) all.0), over_from key rows all.1)
  where
    more : (r : Ordering) → is_gt r ≡ true → r ≡ Greater
    more Less e = absurd (cc)
    more Equal e = absurd (cc)
    more Greater e = refl

over_trans : (one key : List Value) (rows : List Keyed) → values_cmp one key ≡ Less → AllOver key rows → AllOver one rows
over_trans one key [] less all = tt
over_trans one key (k ∷ rows) less all = (values_total.trans one key k.key less all.0, over_trans one key rows less all.1)

order_join : (some : List Keyed) (k : Keyed) (others : List Keyed) → InOrder some → AllBelow some k.key → AllOver k.key others → InOrder others → InOrder (some ++ k ∷ others)
order_join [] k others order below over rest = (over, rest)
order_join (s ∷ some) k others order below over rest =
    (all_append (λ (o : Keyed). values_cmp s.key o.key ≡ Less) some (k ∷ others) order.0 (below.0, over_trans s.key k.key others below.0 over), order_join some k others order.1 below.1 over rest)

image_order : (key : List Value) (image : Option (List Value)) (rows : List Keyed) → InOrder rows → InOrder (with_image key image rows)
image_order key None rows order = order_filter (λ (k : Keyed). not (values_eq k.key key)) rows order
image_order key (Some row) rows order =
    order_join (filter (λ (k : Keyed). is_lt (values_cmp k.key key)) rows) (record { key = key; row = row }) (filter (λ (k : Keyed). is_gt (values_cmp k.key key)) rows)
    (order_filter (λ (k : Keyed). is_lt (values_cmp k.key key)) rows order) (below_from key _ (filter_holds (λ (k : Keyed). is_lt (values_cmp k.key key)) rows))
    (over_from key _ (filter_holds (λ (k : Keyed). is_gt (values_cmp k.key key)) rows)) (order_filter (λ (k : Keyed). is_gt (values_cmp k.key key)) rows order)

changed_order : (b : Bool) (key : List Value) (image : Option (List Value)) (rows : List Keyed) → InOrder rows → InOrder (if b then with_image key image rows else rows)
changed_order true key image rows order = image_order key image rows order
changed_order false key image rows order = order

body_order : (table : List ℕ) (body : Body) (rows : List Keyed) → InOrder rows → InOrder (rows_after table body rows)
unfolding rows_after
body_order table (Write written key before after) rows order = changed_order (same_name written table) key after rows order
body_order table (Undo undoes written key before after) rows order = changed_order (same_name written table) key after rows order
body_order table Commit rows order = order
body_order table Abort rows order = order
body_order table Mark rows order = order
body_order table (Check group dep) rows order = order
body_order table Switch rows order = order

listed_order : (log : List Rec) (table : List ℕ) → InOrder (rows_left log table)
listed_order [] table = tt
listed_order (r ∷ log) table = body_order table r.body (rows_left log table) (listed_order log table)

-- ** rows that have their keys **

bare_at : (layout : Layout) (rows : List Keyed) (key : List Value) → AllByRecursion (IsFit layout) rows → row_of_key layout (map (λ (k : Keyed). k.row) rows) key ≡ keyed_at rows key
bare_at layout [] key all = refl
bare_at layout (k ∷ rows) key all =
    ap (λ q. if values_eq q key then Some k.row else row_of_key layout (map (λ (o : Keyed). o.row) rows) key) (sym all.0.1) ∙ ap (λ x. if values_eq k.key key then Some k.row else x) (bare_at layout rows key all.1)

bare_over : (layout : Layout) (key : List Value) (rows : List Keyed) → AllByRecursion (IsFit layout) rows → AllOver key rows → AllByRecursion (λ other. values_cmp key other ≡ Less) (map (key_of layout) (map (λ (k : Keyed). k.row) rows))
bare_over layout key [] all over = tt
bare_over layout key (k ∷ rows) all over = (subst (λ q. values_cmp key q ≡ Less) all.0.1 over.0, bare_over layout key rows all.1 over.1)

bare_order : (layout : Layout) (rows : List Keyed) → AllByRecursion (IsFit layout) rows → InOrder rows → IsStrictlySortedBy values_cmp (map (key_of layout) (map (λ (k : Keyed). k.row) rows))
unfolding IsStrictlySortedBy
bare_order layout [] all order = tt
bare_order layout (k ∷ rows) all order =
    (subst (λ q. AllByRecursion (λ other. values_cmp q other ≡ Less) (map (key_of layout) (map (λ (o : Keyed). o.row) rows))) all.0.1 (bare_over layout k.key rows all.1 order.0), bare_order layout rows all.1 order.1)

-- the rows that a log of records that fit leaves
pub rows_of_are : (schema : List ℕ → Option Layout) (layout : Layout) (log : List Rec) (table : List ℕ) → AllFit schema log → schema table ≡ Some layout → AreRows layout (row_left log table) (rows_of log table)
rows_of_are schema layout log table all is =
    let fit = listed_fit schema layout log table all is in
    record {
      admitted = rows_admitted schema layout log table all is;
      in_order = bare_order layout (rows_left log table) fit (listed_order log table);
      same = λ key. bare_at layout (rows_left log table) key fit ∙ listed_at log table key;
    }

-- ** such rows are one list **

abbrev AllUp : Layout → List Value → List (List Value) → Type 0
AllUp layout key rows = AllByRecursion (λ other. values_cmp key other ≡ Less) (map (key_of layout) rows)

-- a key below all keys has no row
none_below : (layout : Layout) (key : List Value) (rows : List (List Value)) → AllUp layout key rows → row_of_key layout rows key ≡ None
none_below layout key [] up = refl
none_below layout key (row ∷ rows) up = rw (eq_less key (key_of layout row) up.0) (none_below layout key rows up.1)

up_trans : (layout : Layout) (one key : List Value) (rows : List (List Value)) → values_cmp one key ≡ Less → AllUp layout key rows → AllUp layout one rows
up_trans layout one key [] less up = tt
up_trans layout one key (row ∷ rows) less up = (values_total.trans one key (key_of layout row) less up.0, up_trans layout one key rows less up.1)

own_row : (layout : Layout) (row : List Value) (rows : List (List Value)) → row_of_key layout (row ∷ rows) (key_of layout row) ≡ Some row
own_row layout row rows = rw (values_eq-refl (key_of layout row)) refl

nothing : (row : List Value) → None ≡ Some row → ⊥
nothing row e = cc

-- a first key below all others isn't among them
not_among : (layout : Layout) (x y : List Value) (xs ys : List (List Value)) → values_cmp (key_of layout x) (key_of layout y) ≡ Less → AllUp layout (key_of layout y) ys → row_of_key layout (x ∷ xs) (key_of layout x) ≡ row_of_key layout (y ∷ ys) (key_of layout x) → ⊥
not_among layout x y xs ys less up h =
    nothing x (sym (none_below layout (key_of layout x) (y ∷ ys) (less, up_trans layout (key_of layout x) (key_of layout y) ys less up)) ∙ sym h ∙ own_row layout x xs)

tails_same : (layout : Layout) (x y : List Value) (xs ys : List (List Value)) → key_of layout x ≡ key_of layout y → AllUp layout (key_of layout x) xs → AllUp layout (key_of layout y) ys → ((key : List Value) → row_of_key layout (x ∷ xs) key ≡ row_of_key layout (y ∷ ys) key) → (key : List Value) → row_of_key layout xs key ≡ row_of_key layout ys key
tails_same layout x y xs ys same up up' h key = by_cases (values_eq (key_of layout x) key)
    (λ t.
    let at = values_eq_tells (key_of layout x) key t in
    ap (row_of_key layout xs) (sym at) ∙ none_below layout (key_of layout x) xs up ∙ sym (none_below layout (key_of layout y) ys up') ∙ ap (row_of_key layout ys) (sym same ∙ at))
    (λ f.
    let left : row_of_key layout (x ∷ xs) key ≡ row_of_key layout xs key = rw f refl in
    let away : values_eq (key_of layout y) key ≡ false = ap (λ q. values_eq q key) (sym same) ∙ f in
    let right : row_of_key layout (y ∷ ys) key ≡ row_of_key layout ys key = rw away refl in
    sym left ∙ h key ∙ right)

joined : (layout : Layout) (x y : List Value) (xs ys : List (List Value)) → AllUp layout (key_of layout x) xs → AllUp layout (key_of layout y) ys → ((key : List Value) → row_of_key layout (x ∷ xs) key ≡ row_of_key layout (y ∷ ys) key) → (((key : List Value) → row_of_key layout xs key ≡ row_of_key layout ys key) → xs ≡ ys) → (x ∷ xs) ≡ (y ∷ ys)
joined layout x y xs ys up up' h rest = by (values_cmp (key_of layout x) (key_of layout y)) refl
  where
    inside : (a b : List Value) → Some a ≡ Some b → a ≡ b
    inside a b e = cc

    by : (r : Ordering) → values_cmp (key_of layout x) (key_of layout y) ≡ r → (x ∷ xs) ≡ (y ∷ ys)
    by Less e = absurd (not_among layout x y xs ys e up' (h (key_of layout x)))
    by Greater e = absurd (not_among layout y x ys xs (values_total.antisymm (key_of layout y) (key_of layout x) ∙ ap ordering_reverse e) up (sym (h (key_of layout y))))
    by Equal e =
        let same = values_tie (key_of layout x) (key_of layout y) e in
        let two = inside x y (sym (own_row layout x xs) ∙ h (key_of layout x) ∙ ap (row_of_key layout (y ∷ ys)) same ∙ own_row layout y ys) in
        let tail = rest (tails_same layout x y xs ys same up up' h) in
        λ i. two i ∷ tail i

unique : (layout : Layout) (xs ys : List (List Value)) → IsStrictlySortedBy values_cmp (map (key_of layout) xs) → IsStrictlySortedBy values_cmp (map (key_of layout) ys) → ((key : List Value) → row_of_key layout xs key ≡ row_of_key layout ys key) → xs ≡ ys
unfolding IsStrictlySortedBy
unique layout [] [] s t h = refl
unique layout [] (y ∷ ys) s t h = absurd (nothing y (h (key_of layout y) ∙ own_row layout y ys))
unique layout (x ∷ xs) [] s t h = absurd (nothing x (sym (h (key_of layout x)) ∙ own_row layout x xs))
unique layout (x ∷ xs) (y ∷ ys) s t h = joined layout x y xs ys s.0 t.0 h (λ k. unique layout xs ys s.1 t.1 k)

pub rows_unique : (layout : Layout) (there : List Value → Option (List Value)) (xs ys : List (List Value)) → AreRows layout there xs → AreRows layout there ys → xs ≡ ys
rows_unique layout there xs ys a b = unique layout xs ys a.in_order b.in_order (λ key. a.same key ∙ sym (b.same key))

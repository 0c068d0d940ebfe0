-- What is kept of the lines stays what they tell, with each further line.
use Rattle.std.proofs.Common.{◌≡◌, ◌≤◌, ◌+◌, ◌++◌, ◌==◌, ◌&&◌, ◌||◌, ℕ, Bool, true, false, not, cond, is_some, nat_le, List, [], ◌∷◌, length, Option, Some, None, option_map, refl, sym, ap, ◌∙◌, subst, arith}
use Rattle.std.specs.List.{AllByRecursion, list_any}
use Rattle.std.proofs.lemmas.List.Folds.{list_any-append}
use Rattle.std.proofs.lemmas.Bool.Decides.{nat_tests}
use Rattle.std.specs.Cmp.Lexicographic.{pointwise, lists_ties}
use Rattle.sx_values.specs.declared.value.Value.{Value}
use Rattle.sx_values.specs.declared.catalog.Declared.{Declared}
use Rattle.sx_values.specs.Names.{same_name}
use Rattle.sx_values.specs.Values.{value_cmp, value_eq, values_eq}
use Rattle.sx_values.specs.Layouts.{Layout, key_of, row_fault}
use Rattle.sx_values.specs.Catalogs.{schema_of, declared_as}
use Rattle.sx_log.specs.declared.record.Load.{Load}
use Rattle.sx_log.specs.State.{is_place}
use Rattle.sx_ops.specs.declared.spec.Spec.{Spec}
use Rattle.sx_ops.specs.Checks.{IsShaped, spec_fault}
use Rattle.sx_sync.specs.declared.Strategy.{Strategy}
use Rattle.sx_sync.specs.declared.Strategy.TheVariants.{Blocking, NonBlockingAbort, NonBlockingCommit}
use Rattle.sx_sync.specs.Ready.{is_blocking}
use Rattle.sx_journal.specs.declared.entry.PropLine.{PropLine}
use Rattle.sx_journal.specs.declared.entry.What.{What}
use Rattle.sx_model.specs.Schedules.{Plan, Line as Asked, Pace}
use Rattle.sx_model.specs.Openings.{key_under, key_in}
use Rattle.sx_model.specs.Loads.{IsAdmitted, AreApart, is_repeated}
use Rattle.sx_lines.specs.declared.line.Line.{Line}
use Rattle.sx_lines.specs.declared.line.Line.TheVariants as line
use Rattle.sx_lines.specs.Lines.{when}
use Rattle.sx_lines.specs.Forms.{IsPace}
use Rattle.sx_script.specs.declared.parser.Place.{Place}
use Rattle.sx_script.specs.Plans.{plan_of, known_by, has_retries, has_strategy, is_declaring, is_client, admits, accepts}
use Rattle.sx_script.specs.Sound.{IsSound, IsClients}
use Rattle.sx_script.specs.Parsers.{Keeps, KeepsPlan, has_key, is_among}
use Rattle.sx_script.proofs.PlanLaws.{table, asked, paced, plan_table, plan_row, plan_change, plan_retries, plan_strategy, plan_client, plan_pace, retries_same, retries_more, strategy_same, strategy_more}

all_push : {X : Type 0} (P : X → Type 0) (xs : List X) (x : X) → AllByRecursion P xs → P x → AllByRecursion P (xs ++ x ∷ [])
all_push P [] x h p = (p, tt)
all_push P (y ∷ ys) x h p = (h.0, all_push P ys x h.1 p)

not_some : {A : Type 0} (o : Option A) → is_some o ≡ false → o ≡ None
not_some None e = refl
not_some (Some x) e = absurd (cc)

-- ---- answers

pub is_accepted : (self lines pushed : List Line) (l : Line) → self ≡ lines → pushed ≡ lines ++ l ∷ [] → accepts lines l ≡ true → Some pushed ≡ when (accepts self l) (self ++ l ∷ [])
is_accepted self lines pushed l s p a =
    ap Some p ∙ sym (ap (λ t. when t (lines ++ l ∷ [])) a) ∙ sym (ap (λ ls. when (accepts ls l) (ls ++ l ∷ [])) s)

pub is_refused : (self lines : List Line) (l : Line) → self ≡ lines → accepts lines l ≡ false → None ≡ when (accepts self l) (self ++ l ∷ [])
is_refused self lines l s a = sym (ap (λ t. when t (lines ++ l ∷ [])) a) ∙ sym (ap (λ ls. when (accepts ls l) (ls ++ l ∷ [])) s)

declaring : (started t : Bool) → started ≡ false → started ≡ not t → t ≡ true
declaring started true e f = refl
declaring started false e f = absurd (cc)

-- ---- tables

-- a name that was found stays found with further tables
found_step : (b : Bool) (t : Declared) (tables more : List Declared) (name : List ℕ) (layout : Layout) → (schema_of tables name ≡ Some layout → schema_of (tables ++ more) name ≡ Some layout)
    → option_map (λ (d : Declared). d.schema) (cond b (Some t) (declared_as tables name)) ≡ Some layout → option_map (λ (d : Declared). d.schema) (cond b (Some t) (declared_as (tables ++ more) name)) ≡ Some layout
found_step true t tables more name layout go e = e
found_step false t tables more name layout go e = go e

pub found_still : (tables more : List Declared) (name : List ℕ) (layout : Layout) → schema_of tables name ≡ Some layout → schema_of (tables ++ more) name ≡ Some layout
found_still [] more name layout e = absurd (cc)
found_still (t ∷ tables) more name layout e = found_step (same_name t.name name) t tables more name layout (found_still tables more name layout) e

-- a row's key stays its key
key_still : (tables more : List Declared) (load : Load) → IsAdmitted tables load → key_in (tables ++ more) load.table load.row ≡ key_in tables load.table load.row
key_still tables more load a = ap (λ o. key_under o load.row) (found_still tables more load.table a.layout a.declared) ∙ sym (ap (λ o. key_under o load.row) a.declared)

admitted_still : (tables more : List Declared) (loads : List Load) → AllByRecursion (IsAdmitted tables) loads → AllByRecursion (IsAdmitted (tables ++ more)) loads
admitted_still tables more [] h = tt
admitted_still tables more (load ∷ loads) h =
    (record { layout = h.0.layout; declared = found_still tables more load.table h.0.layout h.0.declared; admitted = h.0.admitted }, admitted_still tables more loads h.1)

has_key_still : (tables more : List Declared) (name : List ℕ) (key : List Value) (loads : List Load) → AllByRecursion (IsAdmitted tables) loads → list_any (has_key (tables ++ more) name key) loads ≡ list_any (has_key tables name key) loads
has_key_still tables more name key [] h = refl
has_key_still tables more name key (load ∷ loads) h = λ i. is_place load.table (key_still tables more load h.0 i) name key || has_key_still tables more name key loads h.1 i

repeated_still : (tables more : List Declared) (load : Load) (loads : List Load) → IsAdmitted tables load → AllByRecursion (IsAdmitted tables) loads → list_any (is_repeated (tables ++ more) load) loads ≡ list_any (is_repeated tables load) loads
repeated_still tables more load [] a h = refl
repeated_still tables more load (other ∷ loads) a h =
    λ i. is_place load.table (key_still tables more load a i) other.table (key_still tables more other h.0 i) || repeated_still tables more load loads a h.1 i

apart_still : (tables more : List Declared) (loads : List Load) → AllByRecursion (IsAdmitted tables) loads → AreApart tables loads → AreApart (tables ++ more) loads
apart_still tables more [] h a = tt
apart_still tables more (load ∷ loads) h a = (ap not (repeated_still tables more load loads h.0 h.1) ∙ a.0, apart_still tables more loads h.1 a.1)

sound_table : (plan : Plan) (t : Declared) → plan.change ≡ None → IsSound plan → IsSound (record plan { catalog = plan.catalog ++ t ∷ [] })
sound_table plan t n s = record {
  admitted = admitted_still plan.catalog (t ∷ []) plan.loads s.admitted;
  apart = apart_still plan.catalog (t ∷ []) plan.loads s.admitted s.apart;
  fits = rw n tt;
  blocking = s.blocking;
  clients = s.clients;
  paces = s.paces;
  few_retries = s.few_retries;
}

-- without a transformation the declared tables alone are known
unknown : (some others : List Declared) (change : Option Spec) → change ≡ None → option_map (known_by some) change ≡ option_map (known_by others) change
unknown some others None e = refl
unknown some others (Some spec) e = absurd (cc)

pub keeps_table : (lines : List Line) (catalog after : List Declared) (tables : Option (List Declared)) (places : List Place) (started counted ruled : Bool) (name : List ℕ) (layout : Layout)
    → Keeps lines catalog tables places started counted ruled → is_some (plan_of lines).change ≡ false → after ≡ catalog ++ table name layout ∷ []
    → Keeps (lines ++ line.Table name layout ∷ []) after tables places started counted ruled
keeps_table lines catalog after tables places started counted ruled name layout keeps unchanged e =
    let P : Plan → Type 0 = λ p. KeepsPlan p after tables places started in
    let plan = plan_of lines in
    let k = keeps.plan in
    let n : plan.change ≡ None = not_some plan.change unchanged in
    record {
      plan = subst P (sym (plan_table lines name layout)) (record {
        sound = sound_table plan (table name layout) n k.sound;
        catalog_is = e ∙ ap (λ t. t ++ table name layout ∷ []) k.catalog_is;
        known_is = k.known_is ∙ unknown plan.catalog (plan.catalog ++ table name layout ∷ []) plan.change n;
        places_are = λ name2 key. k.places_are name2 key ∙ sym (has_key_still plan.catalog (table name layout ∷ []) name2 key plan.loads k.sound.admitted);
        started_is = k.started_is;
      });
      counted_is = keeps.counted_is ∙ sym (retries_same lines (line.Table name layout) refl);
      ruled_is = keeps.ruled_is ∙ sym (strategy_same lines (line.Table name layout) refl);
    }

-- ---- rows

apart_push : (catalog : List Declared) (loads : List Load) (load : Load) → AreApart catalog loads → list_any (λ earlier. is_repeated catalog earlier load) loads ≡ false → AreApart catalog (loads ++ load ∷ [])
apart_push catalog [] load a e = (refl, tt)
apart_push catalog (earlier ∷ loads) load a e =
    let p = neither (is_repeated catalog earlier load) (list_any (λ l. is_repeated catalog l load) loads) e in
    (rw (list_any-append (is_repeated catalog earlier) loads (load ∷ []), p.0) (not_either (list_any (is_repeated catalog earlier) loads) a.0), apart_push catalog loads load a.1 p.1)
  where
    neither : (a b : Bool) → (a || b) ≡ false → (a ≡ false) × (b ≡ false)
    neither true b e = absurd (cc)
    neither false b e = (refl, e)

    not_either : (b : Bool) → not b ≡ true → not (b || (false || false)) ≡ true
    not_either true e = absurd (cc)
    not_either false e = refl

sound_row : (plan : Plan) (load : Load) (layout : Layout) → IsSound plan → schema_of plan.catalog load.table ≡ Some layout → row_fault layout load.row ≡ None
    → list_any (λ earlier. is_repeated plan.catalog earlier load) plan.loads ≡ false → IsSound (record plan { loads = plan.loads ++ load ∷ [] })
sound_row plan load layout s e fault new = record {
  admitted = all_push (IsAdmitted plan.catalog) plan.loads load s.admitted (record { layout = layout; declared = e; admitted = fault });
  apart = apart_push plan.catalog plan.loads load s.apart new;
  fits = s.fits;
  blocking = s.blocking;
  clients = s.clients;
  paces = s.paces;
  few_retries = s.few_retries;
}

key_push : (catalog : List Declared) (loads : List Load) (load : Load) (name : List ℕ) (key : List Value)
    → list_any (has_key catalog name key) (loads ++ load ∷ []) ≡ cond (is_place load.table (key_in catalog load.table load.row) name key) true (list_any (has_key catalog name key) loads)
key_push catalog loads load name key = list_any-append (has_key catalog name key) loads (load ∷ []) ∙ flipped (list_any (has_key catalog name key) loads) (is_place load.table (key_in catalog load.table load.row) name key)
  where
    flipped : (a b : Bool) → (a || (b || false)) ≡ cond b true a
    flipped true true = refl
    flipped true false = refl
    flipped false true = refl
    flipped false false = refl

-- the key of a row of a declared table
row_key : (lines : List Line) (catalog : List Declared) (name : List ℕ) (row : List Value) (layout : Layout) → catalog ≡ (plan_of lines).catalog → schema_of catalog name ≡ Some layout
    → (schema_of (plan_of lines).catalog name ≡ Some layout) × (key_in (plan_of lines).catalog name row ≡ key_of layout row)
row_key lines catalog name row layout same found =
    let e : schema_of (plan_of lines).catalog name ≡ Some layout = ap (λ c. schema_of c name) (sym same) ∙ found in
    (e, ap (λ o. key_under o row) e)

pub keeps_row : (lines : List Line) (catalog : List Declared) (tables : Option (List Declared)) (places after : List Place) (started counted ruled : Bool) (name : List ℕ) (row : List Value) (place : Place) (layout : Layout)
    → Keeps lines catalog tables places started counted ruled → schema_of catalog name ≡ Some layout → row_fault layout row ≡ None
    → place.table ≡ name → place.key ≡ key_of layout row → is_among places place.table place.key ≡ false
    → ((other : List ℕ) (key : List Value) → is_among after other key ≡ cond (is_place place.table place.key other key) true (is_among places other key))
    → Keeps (lines ++ line.Row name row ∷ []) catalog tables after started counted ruled
keeps_row lines catalog tables places after started counted ruled name row place layout keeps found fault named keyed new updates =
    let P : Plan → Type 0 = λ p. KeepsPlan p catalog tables after started in
    let plan = plan_of lines in
    let k = keeps.plan in
    let load : Load = record { table = name; row = row } in
    let r = row_key lines catalog name row layout k.catalog_is found in
    let at : key_in plan.catalog name row ≡ place.key = r.1 ∙ sym keyed in
    let apart : list_any (λ earlier. is_repeated plan.catalog earlier load) plan.loads ≡ false =
    (λ i. list_any (has_key plan.catalog ((sym named) i) (at i)) plan.loads) ∙ sym (k.places_are place.table place.key) ∙ new in
    record {
      plan = subst P (sym (plan_row lines name row)) (record {
        sound = sound_row plan load layout k.sound r.0 fault apart;
        catalog_is = k.catalog_is;
        known_is = k.known_is;
        places_are = λ other key. updates other key ∙ (λ i. cond (is_place (named i) ((sym at) i) other key) true (k.places_are other key i)) ∙ sym (key_push plan.catalog plan.loads load other key);
        started_is = k.started_is;
      });
      counted_is = keeps.counted_is ∙ sym (retries_same lines (line.Row name row) refl);
      ruled_is = keeps.ruled_is ∙ sym (strategy_same lines (line.Row name row) refl);
    }

-- a row that its table admits is accepted where its key is new
pub accepts_row : (lines : List Line) (catalog : List Declared) (tables : Option (List Declared)) (places : List Place) (started counted ruled : Bool) (name : List ℕ) (row : List Value) (place : Place) (layout : Layout)
    → Keeps lines catalog tables places started counted ruled → started ≡ false → schema_of catalog name ≡ Some layout → row_fault layout row ≡ None → place.table ≡ name → place.key ≡ key_of layout row
    → accepts lines (line.Row name row) ≡ not (is_among places place.table place.key)
accepts_row lines catalog tables places started counted ruled name row place layout keeps unstarted found fault named keyed =
    let plan = plan_of lines in
    let k = keeps.plan in
    let load : Load = record { table = name; row = row } in
    let key = row_key lines catalog name row layout k.catalog_is found in
    let at : key_in plan.catalog name row ≡ place.key = key.1 ∙ sym keyed in
    let d : is_declaring plan ≡ true = declaring started (is_declaring plan) unstarted k.started_is in
    let r : list_any (λ earlier. is_repeated plan.catalog earlier load) plan.loads ≡ is_among places place.table place.key =
    (λ i. list_any (has_key plan.catalog ((sym named) i) (at i)) plan.loads) ∙ sym (k.places_are place.table place.key) in
    (λ i. d i && (admits (key.0 i) load && not (r i))) ∙ ap (λ f. not (is_some f) && not (is_among places place.table place.key)) fault

-- what an insertion into a set of keys tells of the key
pub was_there : (inserted there : Bool) → inserted ≡ not there → inserted ≡ false → there ≡ true
was_there inserted true e f = refl
was_there inserted false e f = absurd (cc)

pub was_new : (inserted there : Bool) → inserted ≡ not there → inserted ≡ true → there ≡ false
was_new inserted true e f = absurd (cc)
was_new inserted false e f = refl

-- keys that are equal are those that tie
same_key_eq : (key other : List Value) → pointwise value_eq key other ≡ values_eq key other
same_key_eq key other = lists_ties {E = value_eq} value_cmp (λ v w. refl) key other

-- whether two places are equal, as their parts tell
abbrev pub place_eq : Place → Place → Bool
place_eq p q = pointwise ◌==◌ p.table q.table && pointwise value_eq p.key q.key

place_is : (p q : Place) → place_eq p q ≡ is_place p.table p.key q.table q.key
place_is p q = ap (λ t. same_name p.table q.table && t) (same_key_eq p.key q.key)

-- a place that equals one of these is among them
pub among_eq : (places : List Place) (q : Place) → list_any (place_eq q) places ≡ is_among places q.table q.key
among_eq [] q = refl
among_eq (p ∷ places) q = λ i. place_is q p i || among_eq places q i

-- with one place more, it is among them too
pub among_more : (places after : List Place) (place : Place)
    → ((q : Place) → list_any (place_eq q) after ≡ cond (place_eq place q) true (list_any (place_eq q) places))
    → (table : List ℕ) (key : List Value) → is_among after table key ≡ cond (is_place place.table place.key table key) true (is_among places table key)
among_more places after place updates table key =
    let q : Place = record { table = table; key = key } in
    sym (among_eq after q) ∙ updates q ∙ (λ i. cond (place_is place q i) true (among_eq places q i))

-- ---- the transformation

sound_change : (plan : Plan) (spec : Spec) → IsSound plan → IsShaped spec → spec_fault plan.catalog spec ≡ None → IsSound (record plan { change = Some spec })
sound_change plan spec s shaped checked = record {
  admitted = s.admitted;
  apart = s.apart;
  fits = record { shaped = shaped; checked = checked };
  blocking = s.blocking;
  clients = s.clients;
  paces = record { few = s.paces.few; changed = λ none. absurd (cc) };
  few_retries = s.few_retries;
}

pub keeps_change : (lines : List Line) (catalog : List Declared) (tables : Option (List Declared)) (places : List Place) (started counted ruled : Bool) (spec : Spec)
    → Keeps lines catalog tables places started counted ruled → is_some (plan_of lines).change ≡ false → IsShaped spec → is_some (spec_fault catalog spec) ≡ false
    → Keeps (lines ++ line.Change spec ∷ []) catalog (Some (known_by catalog spec)) places started counted ruled
keeps_change lines catalog tables places started counted ruled spec keeps unchanged shaped fault =
    let P : Plan → Type 0 = λ p. KeepsPlan p catalog (Some (known_by catalog spec)) places started in
    let plan = plan_of lines in
    let k = keeps.plan in
    let checked : spec_fault plan.catalog spec ≡ None = not_some (spec_fault plan.catalog spec) (ap (λ c. is_some (spec_fault c spec)) (sym k.catalog_is) ∙ fault) in
    record {
      plan = subst P (sym (plan_change lines spec unchanged)) (record {
        sound = sound_change plan spec k.sound shaped checked;
        catalog_is = k.catalog_is;
        known_is = ap (λ c. Some (known_by c spec)) k.catalog_is;
        places_are = k.places_are;
        started_is = k.started_is;
      });
      counted_is = keeps.counted_is ∙ sym (retries_same lines (line.Change spec) refl);
      ruled_is = keeps.ruled_is ∙ sym (strategy_same lines (line.Change spec) refl);
    }

-- ---- repeats and the strategy

pub keeps_retries : (lines : List Line) (catalog : List Declared) (tables : Option (List Declared)) (places : List Place) (started counted ruled : Bool) (n : ℕ)
    → Keeps lines catalog tables places started counted ruled → counted ≡ false → n ≤ 8 → Keeps (lines ++ line.Retries n ∷ []) catalog tables places started true ruled
keeps_retries lines catalog tables places started counted ruled n keeps uncounted few =
    let P : Plan → Type 0 = λ p. KeepsPlan p catalog tables places started in
    let k = keeps.plan in
    let s = k.sound in
    let none : has_retries lines ≡ false = sym keeps.counted_is ∙ uncounted in
    record {
      plan = subst P (sym (plan_retries lines n none)) (record {
        sound = record { admitted = s.admitted; apart = s.apart; fits = s.fits; blocking = s.blocking; clients = s.clients; paces = s.paces; few_retries = few };
        catalog_is = k.catalog_is;
        known_is = k.known_is;
        places_are = k.places_are;
        started_is = k.started_is;
      });
      counted_is = sym (retries_more lines n none);
      ruled_is = keeps.ruled_is ∙ sym (strategy_same lines (line.Retries n) refl);
    }

blocks : (s : Strategy) → is_blocking s ≡ true → s ≡ Blocking
blocks Blocking e = refl
blocks NonBlockingAbort e = absurd (cc)
blocks NonBlockingCommit e = absurd (cc)

pub keeps_strategy : (lines : List Line) (catalog : List Declared) (tables : Option (List Declared)) (places : List Place) (started counted ruled : Bool) (strategy : Strategy)
    → Keeps lines catalog tables places started counted ruled → ruled ≡ false → is_blocking strategy ≡ true → Keeps (lines ++ line.Strategy strategy ∷ []) catalog tables places started counted true
keeps_strategy lines catalog tables places started counted ruled strategy keeps unruled is =
    let P : Plan → Type 0 = λ p. KeepsPlan p catalog tables places started in
    let k = keeps.plan in
    let s = k.sound in
    let none : has_strategy lines ≡ false = sym keeps.ruled_is ∙ unruled in
    record {
      plan = subst P (sym (plan_strategy lines strategy none)) (record {
        sound = record { admitted = s.admitted; apart = s.apart; fits = s.fits; blocking = blocks strategy is; clients = s.clients; paces = s.paces; few_retries = s.few_retries };
        catalog_is = k.catalog_is;
        known_is = k.known_is;
        places_are = k.places_are;
        started_is = k.started_is;
      });
      counted_is = keeps.counted_is ∙ sym (retries_same lines (line.Strategy strategy) refl);
      ruled_is = sym (strategy_more lines strategy none);
    }

-- ---- steps

-- behind a client's line declarations are over
started_client : (lines : List Asked) (asked : Asked) (paces : List Pace) → true ≡ not (length (lines ++ asked ∷ []) == 0 && length paces == 0)
started_client [] asked paces = refl
started_client (l ∷ lines) asked paces = let some : (length (l ∷ (lines ++ asked ∷ [])) == 0) ≡ false = grind (arith, nat_tests) in rw some refl

-- behind a line of the propagator too
started_pace : (none : Bool) (paces : List Pace) (pace : Pace) → true ≡ not (none && length (paces ++ pace ∷ []) == 0)
started_pace false paces pace = refl
started_pace true [] pace = refl
started_pace true (p ∷ paces) pace = let some : (length (p ∷ (paces ++ pace ∷ [])) == 0) ≡ false = grind (arith, nat_tests) in rw some refl

clients_are : (place n : ℕ) (what : What) → is_client n ≡ true → IsClients (asked place n what)
clients_are place n what e = by (nat_le 1 n) (nat_le n 8) refl refl e
  where
    by : (low high : Bool) → nat_le 1 n ≡ low → nat_le n 8 ≡ high → (low && high) ≡ true → IsClients (asked place n what)
    by true true f g e = record { from_one = grind (arith, nat_tests); to_eight = grind (arith, nat_tests) }
    by true false f g e = absurd (cc)
    by false high f g e = absurd (cc)

pub keeps_client : (lines : List Line) (catalog : List Declared) (tables : Option (List Declared)) (places : List Place) (started counted ruled : Bool) (n : ℕ) (what : What)
    → Keeps lines catalog tables places started counted ruled → is_client n ≡ true → Keeps (lines ++ line.Client n what ∷ []) catalog tables places true counted ruled
keeps_client lines catalog tables places started counted ruled n what keeps is =
    let P : Plan → Type 0 = λ p. KeepsPlan p catalog tables places true in
    let plan = plan_of lines in
    let k = keeps.plan in
    let s = k.sound in
    let new = asked (1 + length lines) n what in
    record {
      plan = subst P (sym (plan_client lines n what)) (record {
        sound = record { admitted = s.admitted; apart = s.apart; fits = s.fits; blocking = s.blocking; clients = all_push IsClients plan.lines new s.clients (clients_are (1 + length lines) n what is); paces = s.paces; few_retries = s.few_retries };
        catalog_is = k.catalog_is;
        known_is = k.known_is;
        places_are = k.places_are;
        started_is = started_client plan.lines new plan.paces;
      });
      counted_is = keeps.counted_is ∙ sym (retries_same lines (line.Client n what) refl);
      ruled_is = keeps.ruled_is ∙ sym (strategy_same lines (line.Client n what) refl);
    }

pub keeps_pace : (lines : List Line) (catalog : List Declared) (tables : Option (List Declared)) (places : List Place) (started counted ruled : Bool) (what : PropLine)
    → Keeps lines catalog tables places started counted ruled → is_some (plan_of lines).change ≡ true → IsPace what → Keeps (lines ++ line.Pace what ∷ []) catalog tables places true counted ruled
keeps_pace lines catalog tables places started counted ruled what keeps changed is =
    let P : Plan → Type 0 = λ p. KeepsPlan p catalog tables places true in
    let plan = plan_of lines in
    let k = keeps.plan in
    let s = k.sound in
    let new = paced (1 + length lines) what in
    record {
      plan = subst P (sym (plan_pace lines what)) (record {
        sound = record { admitted = s.admitted; apart = s.apart; fits = s.fits; blocking = s.blocking; clients = s.clients; paces = record { few = all_push (λ (p : Pace). IsPace p.what) plan.paces new s.paces.few is; changed = λ none. absurd (never plan.change changed none) }; few_retries = s.few_retries };
        catalog_is = k.catalog_is;
        known_is = k.known_is;
        places_are = k.places_are;
        started_is = started_pace (length plan.lines == 0) plan.paces new;
      });
      counted_is = keeps.counted_is ∙ sym (retries_same lines (line.Pace what) refl);
      ruled_is = keeps.ruled_is ∙ sym (strategy_same lines (line.Pace what) refl);
    }
  where
    never : (change : Option Spec) → is_some change ≡ true → change ≡ None → ⊥
    never None e f = absurd (cc)
    never (Some spec) e f = absurd (cc)

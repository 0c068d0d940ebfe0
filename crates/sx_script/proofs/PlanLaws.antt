-- What a further line does to a plan.
use Rattle.std.proofs.Common.{◌≡◌, ◌+◌, ◌++◌, ◌==◌, ℕ, Bool, true, false, cond, is_some, List, [], ◌∷◌, length, filter, map, Option, Some, None, option_map, unwrap_or, refl, sym, ap, ◌∙◌, arith, append-nil}
use Rattle.std.specs.List.{filter_map, cons_option}
use Rattle.std.proofs.lemmas.List.Elements.{filter_map-append}
use Rattle.sx_values.specs.declared.value.Value.{Value}
use Rattle.sx_values.specs.declared.catalog.Declared.{Declared}
use Rattle.sx_values.specs.Layouts.{Layout}
use Rattle.sx_ops.specs.declared.spec.Spec.{Spec}
use Rattle.sx_sync.specs.declared.Strategy.{Strategy}
use Rattle.sx_sync.specs.declared.Strategy.TheVariants.{Blocking}
use Rattle.sx_journal.specs.declared.entry.PropLine.{PropLine}
use Rattle.sx_journal.specs.declared.entry.What.{What}
use Rattle.sx_journal.specs.declared.course.Command.{Command}
use Rattle.sx_model.specs.Schedules.{Line as Asked, Pace}
use Rattle.sx_lines.specs.declared.line.Line.{Line}
use Rattle.sx_lines.specs.declared.line.Line.TheVariants as line
use Rattle.sx_script.specs.Plans.{plan_of, table_of, load_of, asked_at, pace_at, from_place, client_of, change_of, strategy_of, retries_of, has_retries, has_strategy, first}

same : {A : Type 0} (f : Line → Option A) (lines : List Line) (l : Line) → f l ≡ None → filter_map f (lines ++ l ∷ []) ≡ filter_map f lines
same f lines l e = filter_map-append f lines (l ∷ []) ∙ ap (λ o. filter_map f lines ++ cons_option o []) e ∙ append-nil (filter_map f lines)

more : {A : Type 0} (f : Line → Option A) (lines : List Line) (l : Line) (x : A) → f l ≡ Some x → filter_map f (lines ++ l ∷ []) ≡ filter_map f lines ++ x ∷ []
more f lines l x e = filter_map-append f lines (l ∷ []) ∙ ap (λ o. filter_map f lines ++ cons_option o []) e

-- ---- lines with their places

pub cons_option-append : {A : Type 0} (o : Option A) (xs ys : List A) → cons_option o (xs ++ ys) ≡ cons_option o xs ++ ys
cons_option-append None xs ys = refl
cons_option-append (Some x) xs ys = refl

-- the last line's place is behind those of the others
pub from_place-push : {A : Type 0} (shows : ℕ → Line → Option A) (place : ℕ) (lines : List Line) (l : Line) → from_place shows place (lines ++ l ∷ []) ≡ from_place shows place lines ++ cons_option (shows (place + length lines) l) []
from_place-push shows place [] l = let e : place ≡ place + length {A = Line} [] = omega arith in ap (λ p. cons_option (shows p l) []) e
from_place-push shows place (x ∷ lines) l =
    let e : place + 1 + length lines ≡ place + length (x ∷ lines) = omega arith in
    ap (cons_option (shows place x)) (from_place-push shows (place + 1) lines l)
    ∙ cons_option-append (shows place x) (from_place shows (place + 1) lines) (cons_option (shows (place + 1 + length lines) l) [])
    ∙ ap (λ p. cons_option (shows place x) (from_place shows (place + 1) lines) ++ cons_option (shows p l) []) e

placed_same : {A : Type 0} (shows : ℕ → Line → Option A) (lines : List Line) (l : Line) → shows (1 + length lines) l ≡ None → from_place shows 1 (lines ++ l ∷ []) ≡ from_place shows 1 lines
placed_same shows lines l e = from_place-push shows 1 lines l ∙ ap (λ o. from_place shows 1 lines ++ cons_option o []) e ∙ append-nil (from_place shows 1 lines)

-- ---- plans

abbrev pub table : List ℕ → Layout → Declared
table name layout = record { name = name; schema = layout; indexes = []; source = true }

pub plan_table : (lines : List Line) (name : List ℕ) (layout : Layout) → plan_of (lines ++ line.Table name layout ∷ []) ≡ record (plan_of lines) { catalog = (plan_of lines).catalog ++ table name layout ∷ [] }
plan_table lines name layout = let l = line.Table name layout in λ i. record {
  catalog = more table_of lines l (table name layout) refl i;
  loads = same load_of lines l refl i;
  lines = placed_same asked_at lines l refl i;
  paces = placed_same pace_at lines l refl i;
  change = first (same change_of lines l refl i);
  strategy = unwrap_or (first (same strategy_of lines l refl i)) Blocking;
  retries = unwrap_or (first (same retries_of lines l refl i)) 8;
}

pub plan_row : (lines : List Line) (name : List ℕ) (row : List Value) → plan_of (lines ++ line.Row name row ∷ []) ≡ record (plan_of lines) { loads = (plan_of lines).loads ++ record { table = name; row = row } ∷ [] }
plan_row lines name row = let l = line.Row name row in λ i. record {
  catalog = same table_of lines l refl i;
  loads = more load_of lines l (record { table = name; row = row }) refl i;
  lines = placed_same asked_at lines l refl i;
  paces = placed_same pace_at lines l refl i;
  change = first (same change_of lines l refl i);
  strategy = unwrap_or (first (same strategy_of lines l refl i)) Blocking;
  retries = unwrap_or (first (same retries_of lines l refl i)) 8;
}

first_push : {A : Type 0} (xs : List A) (x : A) → is_some (first xs) ≡ false → first (xs ++ x ∷ []) ≡ Some x
first_push [] x e = refl
first_push (y ∷ xs) x e = absurd (cc)

pub plan_change : (lines : List Line) (spec : Spec) → is_some (plan_of lines).change ≡ false → plan_of (lines ++ line.Change spec ∷ []) ≡ record (plan_of lines) { change = Some spec }
plan_change lines spec none = let l = line.Change spec in λ i. record {
  catalog = same table_of lines l refl i;
  loads = same load_of lines l refl i;
  lines = placed_same asked_at lines l refl i;
  paces = placed_same pace_at lines l refl i;
  change = (ap first (more change_of lines l spec refl) ∙ first_push (filter_map change_of lines) spec none) i;
  strategy = unwrap_or (first (same strategy_of lines l refl i)) Blocking;
  retries = unwrap_or (first (same retries_of lines l refl i)) 8;
}

first_retries : (lines : List Line) (n : ℕ) → has_retries lines ≡ false → first (filter_map retries_of (lines ++ line.Retries n ∷ [])) ≡ Some n
first_retries lines n none = ap first (more retries_of lines (line.Retries n) n refl) ∙ first_push (filter_map retries_of lines) n none

pub plan_retries : (lines : List Line) (n : ℕ) → has_retries lines ≡ false → plan_of (lines ++ line.Retries n ∷ []) ≡ record (plan_of lines) { retries = n }
plan_retries lines n none = let l = line.Retries n in λ i. record {
  catalog = same table_of lines l refl i;
  loads = same load_of lines l refl i;
  lines = placed_same asked_at lines l refl i;
  paces = placed_same pace_at lines l refl i;
  change = first (same change_of lines l refl i);
  strategy = unwrap_or (first (same strategy_of lines l refl i)) Blocking;
  retries = unwrap_or (first_retries lines n none i) 8;
}

-- a client's line at a place
abbrev pub asked : ℕ → ℕ → What → Asked
asked place n what = record { client = n; command = record { line = place; what = what } }

pub plan_client : (lines : List Line) (n : ℕ) (what : What) → plan_of (lines ++ line.Client n what ∷ []) ≡ record (plan_of lines) { lines = (plan_of lines).lines ++ asked (1 + length lines) n what ∷ [] }
plan_client lines n what = let l = line.Client n what in λ i. record {
  catalog = same table_of lines l refl i;
  loads = same load_of lines l refl i;
  lines = from_place-push asked_at 1 lines l i;
  paces = placed_same pace_at lines l refl i;
  change = first (same change_of lines l refl i);
  strategy = unwrap_or (first (same strategy_of lines l refl i)) Blocking;
  retries = unwrap_or (first (same retries_of lines l refl i)) 8;
}

-- a line of the propagator at a place
abbrev pub paced : ℕ → PropLine → Pace
paced place what = record { line = place; what = what }

pub plan_pace : (lines : List Line) (what : PropLine) → plan_of (lines ++ line.Pace what ∷ []) ≡ record (plan_of lines) { paces = (plan_of lines).paces ++ paced (1 + length lines) what ∷ [] }
plan_pace lines what = let l = line.Pace what in λ i. record {
  catalog = same table_of lines l refl i;
  loads = same load_of lines l refl i;
  lines = placed_same asked_at lines l refl i;
  paces = from_place-push pace_at 1 lines l i;
  change = first (same change_of lines l refl i);
  strategy = unwrap_or (first (same strategy_of lines l refl i)) Blocking;
  retries = unwrap_or (first (same retries_of lines l refl i)) 8;
}

first_strategy : (lines : List Line) (s : Strategy) → has_strategy lines ≡ false → first (filter_map strategy_of (lines ++ line.Strategy s ∷ [])) ≡ Some s
first_strategy lines s none = ap first (more strategy_of lines (line.Strategy s) s refl) ∙ first_push (filter_map strategy_of lines) s none

pub plan_strategy : (lines : List Line) (s : Strategy) → has_strategy lines ≡ false → plan_of (lines ++ line.Strategy s ∷ []) ≡ record (plan_of lines) { strategy = s }
plan_strategy lines s none = let l = line.Strategy s in λ i. record {
  catalog = same table_of lines l refl i;
  loads = same load_of lines l refl i;
  lines = placed_same asked_at lines l refl i;
  paces = placed_same pace_at lines l refl i;
  change = first (same change_of lines l refl i);
  strategy = unwrap_or (first_strategy lines s none i) Blocking;
  retries = unwrap_or (first (same retries_of lines l refl i)) 8;
}

-- ---- the number of repeats, and the strategy

-- another line says nothing of repeats
pub retries_same : (lines : List Line) (l : Line) → retries_of l ≡ None → has_retries (lines ++ l ∷ []) ≡ has_retries lines
retries_same lines l e = ap (λ ns. is_some (first ns)) (same retries_of lines l e)

pub retries_more : (lines : List Line) (n : ℕ) → has_retries lines ≡ false → has_retries (lines ++ line.Retries n ∷ []) ≡ is_some (Some n)
retries_more lines n none = ap is_some (first_retries lines n none)

-- another line says nothing of the strategy
pub strategy_same : (lines : List Line) (l : Line) → strategy_of l ≡ None → has_strategy (lines ++ l ∷ []) ≡ has_strategy lines
strategy_same lines l e = ap (λ ns. is_some (first ns)) (same strategy_of lines l e)

pub strategy_more : (lines : List Line) (s : Strategy) → has_strategy lines ≡ false → has_strategy (lines ++ line.Strategy s ∷ []) ≡ is_some (Some s)
strategy_more lines s none = ap is_some (first_strategy lines s none)

-- ---- what clients do

-- what a client does on the line at this place, if it is one of its lines
abbrev pub commands_on : ℕ → ℕ → Line → List Command
commands_on client place l = map (λ (a : Asked). a.command) (filter (λ (a : Asked). a.client == client) (cons_option (asked_at place l) []))

-- what a client does on these lines, of which the first is at this place
abbrev pub commands_from : ℕ → ℕ → List Line → List Command
commands_from client place [] = []
commands_from client place (l ∷ lines) = commands_on client place l ++ commands_from client (place + 1) lines

own_of : (client : ℕ) (a : Asked) (xs : List Asked) (t : Bool)
    → map (λ (l : Asked). l.command) (cond t (a ∷ []) []) ++ map (λ (l : Asked). l.command) (filter (λ (l : Asked). l.client == client) xs)
    ≡ map (λ (l : Asked). l.command) (cond t (a ∷ filter (λ (l : Asked). l.client == client) xs) (filter (λ (l : Asked). l.client == client) xs))
own_of client a xs true = refl
own_of client a xs false = refl

own_behind : (client : ℕ) (o : Option Asked) (xs : List Asked)
    → map (λ (l : Asked). l.command) (filter (λ (l : Asked). l.client == client) (cons_option o [])) ++ map (λ (l : Asked). l.command) (filter (λ (l : Asked). l.client == client) xs)
    ≡ map (λ (l : Asked). l.command) (filter (λ (l : Asked). l.client == client) (cons_option o xs))
own_behind client None xs = refl
own_behind client (Some a) xs = own_of client a xs (a.client == client)

-- what a client does on these lines is what the plan says
pub commands_are : (client place : ℕ) (lines : List Line) → commands_from client place lines ≡ map (λ (l : Asked). l.command) (filter (λ (l : Asked). l.client == client) (from_place asked_at place lines))
commands_are client place [] = refl
commands_are client place (l ∷ lines) = ap (λ cs. commands_on client place l ++ cs) (commands_are client (place + 1) lines) ∙ own_behind client (asked_at place l) (from_place asked_at (place + 1) lines)

client_at : (place : ℕ) (l : Line) → client_of l ≡ option_map (λ (a : Asked). a.client) (asked_at place l)
client_at place (line.Table name schema) = refl
client_at place (line.Index name columns) = refl
client_at place (line.Row name row) = refl
client_at place (line.Change spec) = refl
client_at place (line.Strategy strategy) = refl
client_at place (line.Retries n) = refl
client_at place (line.Client n what) = refl
client_at place (line.Pace pace) = refl

map_cons : (o : Option Asked) (xs : List Asked) → map (λ (a : Asked). a.client) (cons_option o xs) ≡ cons_option (option_map (λ (a : Asked). a.client) o) (map (λ (a : Asked). a.client) xs)
map_cons None xs = refl
map_cons (Some a) xs = refl

clients_from : (place : ℕ) (lines : List Line) → filter_map client_of lines ≡ map (λ (a : Asked). a.client) (from_place asked_at place lines)
clients_from place [] = refl
clients_from place (l ∷ lines) = (λ i. cons_option (client_at place l i) (clients_from (place + 1) lines i)) ∙ sym (map_cons (asked_at place l) (from_place asked_at (place + 1) lines))

-- the clients of the lines are those of the plan's lines
pub clients_are : (lines : List Line) → filter_map client_of lines ≡ map (λ (a : Asked). a.client) (from_place asked_at 1 lines)
clients_are lines = clients_from 1 lines

-- What the report of a whole run shows of the new tables.
use Rattle.std.proofs.Common.{◌≡◌, ◌==◌, ℕ, Bool, true, false, List, [], ◌∷◌, length, map, Option, Some, None, IsSome, is_some, option_map, refl, sym, ap, ◌∙◌, subst, arith}
use Rattle.std.specs.Prelude.{⊤, MatchOption}
use Rattle.std.specs.List.{AllByRecursion}
use Rattle.std.proofs.lemmas.Bool.{false≢true}
use Rattle.std.proofs.lemmas.Bool.Decides.{nat_tests}
use Rattle.sx_values.specs.declared.value.Value.{Value}
use Rattle.sx_values.specs.Layouts.{Layout}
use Rattle.sx_values.specs.Names.{same_name}
use Rattle.sx_values.specs.Catalogs.{schema_of}
use Rattle.sx_values.specs.declared.catalog.Declared.{Declared}
use Rattle.sx_values.proofs.KeyLaws.{same_name_tells, same_name-refl}
use Rattle.sx_log.specs.State.{Stored}
use Rattle.sx_ops.specs.declared.spec.Spec.{Spec}
use Rattle.sx_ops.specs.declared.spec.Target.{Target}
use Rattle.sx_ops.specs.Operators.{targets_of}
use Rattle.sx_ops.specs.Targets.{part_targets, targets}
use Rattle.sx_ops.specs.Checks.{IsShaped, spec_fault}
use Rattle.sx_ops.specs.declared.spec.Spec.TheVariants.{Join, Split, Part, Union}
use Rattle.sx_heap.specs.declared.tables.NamedTable.{NamedTable}
use Rattle.sx_heap.specs.Relations.{row_at}
use Rattle.sx_heap.specs.NamedTables.{names_of_tables, table_named}
use Rattle.sx_txn.specs.Managed.{Shape, shape_of}
use Rattle.sx_sync.specs.declared.Phase.{Phase}
use Rattle.sx_sync.specs.declared.Phase.TheVariants.{Idle, Scanning, Chasing, Draining, Late, Done}
use Rattle.sx_journal.specs.declared.entry.Entry.{Entry}
use Rattle.sx_journal.specs.declared.entry.Event.{Event}
use Rattle.sx_journal.specs.declared.entry.Event.TheVariants.{Start}
use Rattle.sx_model.specs.LoadRecords.{IsOpened}
use Rattle.sx_model.specs.Clients.{IsClient}
use Rattle.sx_model.specs.Effects.{Effect, Starts, effect}
use Rattle.sx_model.specs.Openings.{Opening}
use Rattle.sx_model.proofs.ImageLaws.{AllFit}
use Rattle.sx_model.specs.Switches.{position}
use Rattle.sx_model.specs.Leaves.{Started, started, started_as, started_by, phase}
use Rattle.sx_model.specs.Logs.{log_of}
use Rattle.sx_model.specs.Known.{adopted, new_tables}
use Rattle.sx_model.specs.NewRows.{state_in}
use Rattle.sx_model.specs.RowLists.{AreRows}
use Rattle.sx_model.specs.Tables.{AreListed}
use Rattle.sx_model.specs.Legal.{Legal}
use Rattle.sx_model.specs.Schedules.{Plan, Line as Asked, own, paces_left, from_event, KeepsEvent, KeepsScript, Stepped, IsSwitched}
use Rattle.sx_model.proofs.TestLaws.{by_cases}
use Rattle.sx_model.proofs.FinishLaws.{client_acts}
use Rattle.sx_model.proofs.LegalLaws.{Progress, before, under_way, legal_progress, idle_unstarted, never_late}
use Rattle.sx_model.proofs.LoadLaws.{loads_fit}
use Rattle.sx_model.proofs.SpecLaws.{part_fits}
use Rattle.sx_model.proofs.TurnLaws.{paces_stay_over}
use Rattle.sx_model.proofs.RestLaws.{opening_opened, new_tables_committed}
use Rattle.sx_lines.specs.declared.line.Line.{Line}
use Rattle.sx_script.specs.Plans.{plan_of}
use Rattle.sx_script.specs.Sound.{IsRunnable, IsClients}
use Rattle.sx_core.specs.Machines.{Machine}
use Rattle.sx_core.specs.Kept.{shapes_of, shown_in, stored_in}
use Rattle.sx_core.specs.Views.{AreNew}
use Rattle.sx_core.proofs.StoredLemmas.{row_of, stored-is}
use Rattle.sx_core.proofs.FreshLemmas.{rows_are}
use Rattle.sx_report.specs.TableLines.{AreRelations, rows_in}
use Rattle.sx_report.specs.Reports.{IsReport}
use Rattle.sx_report.specs.declared.end.ReportEnd.{ReportEnd}
use Rattle.shiftrun.specs.Runs.{HasRun, end_of}
use Rattle.shiftrun.specs.ReportRuns.{AreTransformed, IsUntouched, IsRun, IsRunOf, RanTo, report_end}

-- ** the new tables, as lists of rows **

-- no two of these have one name
abbrev AreAlone : List Target → Type 0
AreAlone [] = ⊤
AreAlone (t ∷ ts) = AllByRecursion (λ (u : Target). same_name t.name u.name ≡ false) ts × AreAlone ts

-- a name that is another's than these is that of none of their tables
apart_there : (x : List ℕ) (ts : List Target) (tables : List NamedTable) (name : List ℕ) → map shape_of tables ≡ shapes_of (map adopted ts) → AllByRecursion (λ (u : Target). same_name x u.name ≡ false) ts → IsSome (table_named tables name) → same_name x name ≡ false
apart_there x [] [] name shapes apart some = absurd (false≢true some)
apart_there x [] (n ∷ tables) name shapes apart some = absurd (cc)
apart_there x (u ∷ ts) [] name shapes apart some = absurd (cc)
apart_there x (u ∷ ts) (n ∷ tables) name shapes apart some =
    let one : n.name ≡ u.name = (let e : shape_of n ≡ record { name = u.name; schema = u.schema } = cc in ap (λ (s : Shape). s.name) e) in
    let rest : map shape_of tables ≡ shapes_of (map adopted ts) = cc in
    by_cases (same_name n.name name)
    (λ here. (let is : u.name ≡ name = sym one ∙ same_name_tells n.name name here in subst (λ m. same_name x m ≡ false) is apart.0))
    (λ away. apart_there x ts tables name rest apart.1 (rw away at some))

-- tables that have at each key what is there, in key order, are the lists of what is there
listed : (there : List ℕ → List Value → Option Stored) (ts : List Target) (tables : List NamedTable) → map shape_of tables ≡ shapes_of (map adopted ts) → AreRelations tables → AreAlone ts
    → ((name : List ℕ) (key : List Value) → IsSome (table_named tables name) → stored_in tables name key ≡ there name key)
    → AreListed ts (λ name key. option_map (λ (s : Stored). s.0) (there name key)) (map rows_in tables)
listed there [] [] shapes sorted alone rows = tt
listed there [] (n ∷ tables) shapes sorted alone rows = absurd (cc)
listed there (t ∷ ts) [] shapes sorted alone rows = absurd (cc)
listed there (t ∷ ts) (n ∷ tables) shapes sorted alone rows = (
  subst (λ schema. AreRows schema (λ key. option_map (λ (s : Stored). s.0) (there t.name key)) (rows_in n)) schema (rows_are n.table.schema (there t.name) n.table.rows sorted.0 first),
  listed there ts tables rest sorted.1 alone.1 later,
)
  where
    shape : shape_of n ≡ record { name = t.name; schema = t.schema }
    shape = cc

    schema : n.table.schema ≡ t.schema
    schema = ap (λ (s : Shape). s.schema) shape

    rest : map shape_of tables ≡ shapes_of (map adopted ts)
    rest = cc

    here : same_name n.name t.name ≡ true
    here = ap (λ (s : Shape). same_name s.name t.name) shape ∙ same_name-refl t.name

    first : (key : List Value) → row_at n.table.rows key ≡ there t.name key
    first key =
        let is : table_named (n ∷ tables) t.name ≡ Some n.table = rw here refl in
        sym (stored-is (n ∷ tables) t.name key ∙ ap (λ found. row_of found key) is) ∙ rows t.name key (ap is_some is)

    later : (name : List ℕ) (key : List Value) → IsSome (table_named tables name) → stored_in tables name key ≡ there name key
    later name key some =
        let away : same_name n.name name ≡ false = ap (λ (s : Shape). same_name s.name name) shape ∙ apart_there t.name ts tables name rest alone.0 some in
        let is : table_named (n ∷ tables) name ≡ table_named tables name = rw away refl in
        stored-is tables name key ∙ sym (stored-is (n ∷ tables) name key ∙ ap (λ found. row_of found key) is) ∙ rows name key (ap is_some is ∙ some)

-- they have the names of these
listed_names : (ts : List Target) (tables : List NamedTable) → map shape_of tables ≡ shapes_of (map adopted ts) → names_of_tables tables ≡ map (λ (t : Target). t.name) ts
listed_names [] [] shapes = refl
listed_names [] (n ∷ tables) shapes = absurd (cc)
listed_names (t ∷ ts) [] shapes = absurd (cc)
listed_names (t ∷ ts) (n ∷ tables) shapes =
    let one : n.name ≡ t.name = (let e : shape_of n ≡ record { name = t.name; schema = t.schema } = cc in ap (λ (s : Shape). s.name) e) in
    let rest = listed_names ts tables (let e : map shape_of tables ≡ shapes_of (map adopted ts) = cc in e) in
    λ i. one i ∷ rest i

-- what a transformation that fits gives: tables of these names, which differ
record AreGiven (catalog : List Declared) (spec : Spec) : Type 0 where
  names : map (λ (t : Target). t.name) (targets catalog spec) ≡ targets_of spec
  alone : AreAlone (targets catalog spec)

part_given : (found : Option Layout) (layout : Layout) (passing failing : List ℕ) → found ≡ Some layout → same_name passing failing ≡ false → (map (λ (t : Target). t.name) (part_targets found passing failing) ≡ passing ∷ failing ∷ []) × AreAlone (part_targets found passing failing)
part_given None layout passing failing is apart = absurd (cc)
part_given (Some schema) layout passing failing is apart = (refl, ((apart, tt), (tt, tt)))

are_given : (catalog : List Declared) (spec : Spec) → IsShaped spec → spec_fault catalog spec ≡ None → AreGiven catalog spec
are_given catalog (Part table tests passing failing) shaped fits =
    let f = part_fits catalog table passing failing tests fits in
    let both = part_given (schema_of catalog table) f.layout passing failing f.source f.apart in
    record { names = both.0; alone = both.1 }
are_given catalog (Join left right on_left on_right into) shaped fits = absurd shaped
are_given catalog (Split table by dep rest dependent) shaped fits = absurd shaped
are_given catalog (Union left right into) shaped fits = absurd shaped

-- ** without a transformation **

-- there are no lines of the propagator
none_paced : (plan : Plan) (past : List Entry) → plan.paces ≡ [] → paces_left plan past ≡ []
none_paced plan [] none = ap (from_event plan.change false) none
none_paced plan (e ∷ past) none = paces_stay_over plan e past (none_paced plan past none)

-- so every entry is a client's
only_clients : (o : Opening) (plan : Plan) (past : List Entry) → Legal o past → Stepped plan past → plan.change ≡ None → plan.paces ≡ [] → AllByRecursion (λ (l : Asked). IsClient l.client) plan.lines → own 0 past ≡ []
only_clients o plan [] legal stepped none unpaced clients = refl
only_clients o plan (e ∷ past) legal stepped none unpaced clients =
    let acts = client_acts o plan past (record { actor = e.actor; event = e.event }) legal.0 clients none (none_paced plan past unpaced) stepped.1 in
    let other : (e.actor == 0) ≡ false = (let from_one = acts.from_one in grind (arith, nat_tests)) in
    rw other (only_clients o plan past legal.0 stepped.0 none unpaced clients)

each_client : (lines : List Asked) → AllByRecursion IsClients lines → AllByRecursion (λ (l : Asked). IsClient l.client) lines
each_client [] all = tt
each_client (l ∷ lines) all = (record { from_one = all.0.from_one; to_eight = all.0.to_eight }, each_client lines all.1)

-- what was started is what the script asks for
started_is_asked : (plan : Plan) (past : List Entry) (s : Started) → KeepsScript plan past → started past ≡ Some s → plan.change ≡ Some s.spec
unfolding KeepsEvent
started_is_asked plan [] s keeps is = absurd (cc)
started_is_asked plan (e ∷ past) s keeps is = by e.event (effect e.reply) (λ earlier. started_is_asked plan past s keeps.0 earlier) keeps.1 is
  where
    asked_by : (asked : Event) (mark : ℕ) → (started past ≡ Some s → plan.change ≡ Some s.spec) → KeepsEvent plan past e.actor asked → started_as asked mark (started past) ≡ Some s → plan.change ≡ Some s.spec
    asked_by (Start spec strategy) mark go kept f = let same : record { spec = spec; strategy = strategy; mark = mark } ≡ s = cc in kept.0 ∙ ap (λ (t : Started). Some t.spec) same
    asked_by other mark go kept f = go f

    by : (asked : Event) (f : Effect) → (started past ≡ Some s → plan.change ≡ Some s.spec) → KeepsEvent plan past e.actor asked → started_by asked f (started past) ≡ Some s → plan.change ≡ Some s.spec
    by asked (Starts mark) go kept f = asked_by asked mark go kept f
    by asked other go kept f = go f

unstarted : (plan : Plan) (past : List Entry) → ((s : Started) → started past ≡ Some s → plan.change ≡ Some s.spec) → plan.change ≡ None → started past ≡ None
unstarted plan past asks none = by (started past) refl
  where
    by : (found : Option Started) → started past ≡ found → found ≡ None
    by None is = refl
    by (Some s) is = let asked = asks s is in absurd (cc)

no_shapes : (tables : List NamedTable) → map shape_of tables ≡ [] → tables ≡ []
no_shapes [] none = refl
no_shapes (n ∷ tables) none = absurd (cc)

untouched : (plan : Plan) (machine : Machine) (tables : List NamedTable) → HasRun plan machine → IsRunnable plan → plan.change ≡ None → AreNew machine.opening machine.past tables → IsUntouched machine tables
untouched plan machine tables run runnable none are = record {
  none = no_shapes tables (are.shapes ∙ ap (λ at. shapes_of (map adopted (shown_in at (new_tables machine.opening.catalog (started machine.past))))) idle);
  quiet = only_clients machine.opening plan machine.past run.runs.legal run.runs.stepped none (runnable.paces.changed none) (each_client plan.lines runnable.clients);
}
  where
    idle : phase machine.past ≡ Idle
    idle = (idle_unstarted machine.opening machine.past run.runs.legal).1 (unstarted plan machine.past (λ s is. started_is_asked plan machine.past s run.complete.keeps is) none)

-- ** with one **

switched_done : (at : Phase) → (at ≡ Late → ⊥) → IsSwitched at → at ≡ Done
switched_done Idle never is = absurd is
switched_done Scanning never is = absurd is
switched_done Chasing never is = absurd is
switched_done Draining never is = absurd is
switched_done Late never is = absurd (never refl)
switched_done Done never is = refl

transformed : (plan : Plan) (machine : Machine) (tables : List NamedTable) (spec : Spec) → HasRun plan machine → IsRunnable plan → plan.change ≡ Some spec → AreNew machine.opening machine.past tables → AreRelations tables → AreTransformed machine spec tables
transformed plan machine tables spec run runnable change are sorted = by (legal_progress machine.opening machine.past run.runs.legal)
  where
    done : phase machine.past ≡ Done
    done = switched_done (phase machine.past) (never_late machine.past) (subst (λ c. MatchOption c ⊤ (λ _. IsSwitched (phase machine.past))) change run.complete.switched)

    opened : IsOpened machine.opening
    opened = subst IsOpened (sym run.runs.opening) (opening_opened plan.catalog plan.loads)

    loads : AllFit (schema_of machine.opening.catalog) machine.opening.loads
    loads = subst (λ (o : Opening). AllFit (schema_of o.catalog) o.loads) (sym run.runs.opening) (loads_fit plan.catalog plan.loads runnable.loads)

    by : Progress machine.opening.catalog (phase machine.past) (started machine.past) (position machine.opening machine.past) (length (log_of machine.opening machine.past)) → AreTransformed machine spec tables
    by (before idle none) = absurd (let late : Done ≡ Idle = sym done ∙ idle in cc)
    by (under_way u) =
        let asked : u.s.spec ≡ spec = (let e : Some spec ≡ Some u.s.spec = sym change ∙ started_is_asked plan machine.past u.s run.complete.keeps u.this in let same : spec ≡ u.s.spec = cc in sym same) in
        let given = are_given machine.opening.catalog u.s.spec u.shaped u.fits in
        let shapes : map shape_of tables ≡ shapes_of (map adopted (targets machine.opening.catalog u.s.spec)) =
        are.shapes
        ∙ (ap (λ at. shapes_of (map adopted (shown_in at (new_tables machine.opening.catalog (started machine.past))))) done
        ∙ ap (λ s. shapes_of (map adopted (new_tables machine.opening.catalog s))) u.this) in
        let now = listed (state_in machine.opening machine.past (log_of machine.opening machine.past)) (targets machine.opening.catalog u.s.spec) tables shapes sorted given.alone are.rows in
        record {
          names = listed_names (targets machine.opening.catalog u.s.spec) tables shapes ∙ given.names ∙ ap targets_of asked;
          began = u.s;
          is_started = u.this;
          is_asked = asked;
          now = now;
          of_committed = new_tables_committed machine.opening machine.past u.s (map rows_in tables) opened loads run.runs.legal run.rest done u.this now;
        }

-- ** the report **

-- the run of a script and its report
is_run : (lines : List Line) (machine : Machine) (text : List ℕ) → HasRun (plan_of lines) machine → IsRunnable (plan_of lines) → IsReport lines machine (report_end (end_of (plan_of lines).change)) text → IsRun lines machine text
is_run lines machine text run runnable report = record {
  run = run;
  report = report;
  transformed = by (plan_of lines).change refl;
}
  where
    by : (change : Option Spec) → (plan_of lines).change ≡ change → MatchOption change (IsUntouched machine report.new_tables) (λ spec. AreTransformed machine spec report.new_tables)
    by None is = untouched (plan_of lines) machine report.new_tables run runnable is report.new_meet
    by (Some spec) is = transformed (plan_of lines) machine report.new_tables spec run runnable is report.new_meet report.new_in_order

-- the report of a run, however it ended
pub run_report : (full : Bool) (lines : List Line) (machine : Machine) (end : ReportEnd) (text : List ℕ) → RanTo full (plan_of lines) machine end → IsRunnable (plan_of lines) → IsReport lines machine end text → IsRunOf full lines machine text
run_report true lines machine end text ran runnable shown = record { stopped = ran.0; report = subst (λ e. IsReport lines machine e text) ran.1 shown }
run_report false lines machine end text ran runnable shown = is_run lines machine text ran.0 runnable (subst (λ e. IsReport lines machine e text) ran.1 shown)

-- The propagator's scan turns, from what the machine was to what it is: over plain variables.
use Rattle.std.proofs.Common.{◌≡◌, ◌≤◌, ◌++◌, ◌⊎◌, ◌∷◌, [], ℕ, List, length, map, take, Bool, true, false, IsTrue, Option, Some, None, option_map, IsSome, IsSomeAnd, refl, sym, ◌∙◌, ap, subst, arith, inl, if◌then◌else◌}
use Rattle.std.specs.List.{AllByRecursion, slice_get}
use Rattle.std.proofs.lemmas.Bool.{false≢true}
use Rattle.sx_values.specs.declared.value.Value.{Value}
use Rattle.sx_values.specs.declared.catalog.Declared.{Declared}
use Rattle.sx_log.specs.declared.record.Rec.{Rec}
use Rattle.sx_log.specs.State.{state_at}
use Rattle.sx_heap.specs.declared.seen.Seen.{Seen}
use Rattle.sx_heap.specs.declared.walk.Walked.{Walked}
use Rattle.sx_heap.specs.declared.tables.NamedTable.{NamedTable}
use Rattle.sx_heap.specs.Relations.{Relation}
use Rattle.sx_heap.specs.NamedTables.{table_named}
use Rattle.sx_txn.specs.Managed.{Managed, Unchanged, AreTables}
use Rattle.sx_ops.specs.declared.spec.Spec.{Spec}
use Rattle.sx_ops.specs.declared.spec.Spec.TheVariants.{Join, Split, Part, Union}
use Rattle.sx_ops.specs.declared.spec.Target.{Target}
use Rattle.sx_ops.specs.Checks.{IsShaped, spec_fault}
use Rattle.sx_ops.specs.Operators.{sources_of}
use Rattle.sx_sync.specs.declared.Phase.{Phase}
use Rattle.sx_sync.specs.declared.Phase.TheVariants.{Idle, Scanning, Chasing, Draining, Late, Done}
use Rattle.sx_journal.specs.declared.entry.Entry.{Entry}
use Rattle.sx_journal.specs.declared.entry.Event.TheVariants.{Scan}
use Rattle.sx_journal.specs.declared.entry.Reply.{Reply}
use Rattle.sx_journal.specs.declared.entry.Reply.TheVariants as reply
use Rattle.sx_model.specs.Effects.{Nothing, Sees, effect}
use Rattle.sx_model.specs.Openings.{Opening}
use Rattle.sx_model.specs.Leaves.{Started, phase, started}
use Rattle.sx_model.specs.Logs.{log_of}
use Rattle.sx_model.specs.Known.{adopted, new_tables, named_in}
use Rattle.sx_model.specs.Switches.{position, position_after}
use Rattle.sx_model.specs.Cursors.{IsWalked}
use Rattle.sx_model.specs.Scans.{Covers, EndsSide, seen, seen_after, side_table, IsLastSide, mark_of, next_side_after, IsNextSide, IsScanTurn}
use Rattle.sx_model.specs.Legal.{Legal, Allows, ScanAnswer, IsLegalEntry, HasRoom}
use Rattle.sx_model.proofs.EntryLaws.{log-saw}
use Rattle.sx_model.proofs.LegalLaws.{Progress, UnderWay, before, under_way, legal_progress}
use Rattle.sx_core.specs.Machines.{Machine}
use Rattle.sx_core.specs.Kept.{Fields, IsScanning, ScanMeets, IsKept, shapes_of, shown_in, is_behind}
use Rattle.sx_core.specs.Asked.{AsksUpTo}
use Rattle.sx_core.specs.Sources.{source_table, source_among, WalksIn}
use Rattle.sx_core.specs.Answers.{AreSeen}
use Rattle.sx_core.proofs.TableLemmas.{has_source, found_meets}
use Rattle.sx_core.proofs.ManagerLemmas.{quiet-sees}
use Rattle.sx_core.proofs.ClientLemmas.{Beside, place_here}
use Rattle.sx_core.proofs.ViewLemmas.{Lends, lent_meet}
use Rattle.sx_core.proofs.FetchLemmas.{own_entry, OwnLeaves, kept-own, refused_took}
use Rattle.sx_core.proofs.ScanLemmas.{lsns_of, TurnMeets, turn_meets}
use Rattle.sx_core.proofs.TurnLemmas.{unchanged, Holds, from_view, no_longer, Took, took, opened, phase_by, started_told}

-- ** a turn that is refused **

legal-scan : (o : Opening) (past : List Entry) (n : ℕ) (answer : Reply) → HasRoom past answer → 1 ≤ n → n ≤ 64 → ScanAnswer o past n answer → IsLegalEntry o past (own_entry (Scan n) answer)
unfolding Allows
legal-scan o past n answer room some few answered = record { room = room; allowed = record { propagator = refl; some = some; few = few; answered = answered } }

pub scan_refused : (catalog : List Declared) (loads : ℕ) (past journal : List Entry) (f g : Fields) (m : Machine) (n : ℕ) (answer : Reply)
    → Holds catalog loads past f m → AsksUpTo m 64 n → ScanAnswer m.opening m.past n answer → effect answer ≡ Nothing
    → Unchanged f.managed g.managed → g.clients ≡ f.clients → Beside f g → journal ≡ own_entry (Scan n) answer ∷ past
    → Took catalog loads journal g m 0 (Scan n) answer
scan_refused catalog loads past journal f g m n answer holds asks answered quiet stays clients beside is =
    let told = from_view (λ (x : Machine). ScanAnswer x.opening x.past n answer) (opened catalog loads f.managed.log) past m holds.view answered in
    let entry = legal-scan (opened catalog loads f.managed.log) past n answer (place_here catalog loads past f m answer holds asks.place) asks.some asks.few told in
    refused_took catalog loads past journal f g m (Scan n) answer holds entry quiet stays clients beside is

-- a refusal shows no rows
pub none_seen : (m : Machine) (answer : Reply) (rows : List Seen) → effect answer ≡ Nothing → rows ≡ [] → AreSeen m answer rows
unfolding AreSeen effect
none_seen m (reply.Scanned side lsns last) rows quiet none = absurd (cc)
none_seen m other rows quiet none = none

answered-over : (o : Opening) (past : List Entry) (n : ℕ) → (phase past ≡ Chasing) ⊎ (phase past ≡ Draining) → ScanAnswer o past n reply.ScanOver
unfolding ScanAnswer
answered-over o past n is = is

answered-none : (o : Opening) (past : List Entry) (n : ℕ) → (phase past ≡ Idle) ⊎ (phase past ≡ Late) ⊎ (phase past ≡ Done) → ScanAnswer o past n reply.NoTransform
unfolding ScanAnswer
answered-none o past n is = is

-- a scan that has ended, or that never was
pub over_here : (catalog : List Declared) (loads : ℕ) (past : List Entry) (f : Fields) (m : Machine) (n : ℕ) → Holds catalog loads past f m → (f.now ≡ Chasing) ⊎ (f.now ≡ Draining) → ScanAnswer m.opening m.past n reply.ScanOver
over_here catalog loads past f m n holds is =
    subst (λ (x : Machine). ScanAnswer x.opening x.past n reply.ScanOver) holds.view
    (answered-over (opened catalog loads f.managed.log) past n (subst (λ p. (p ≡ Chasing) ⊎ (p ≡ Draining)) holds.kept.phase_is is))

pub none_here : (catalog : List Declared) (loads : ℕ) (past : List Entry) (f : Fields) (m : Machine) (n : ℕ) → Holds catalog loads past f m → (f.now ≡ Idle) ⊎ (f.now ≡ Late) ⊎ (f.now ≡ Done) → ScanAnswer m.opening m.past n reply.NoTransform
none_here catalog loads past f m n holds is =
    subst (λ (x : Machine). ScanAnswer x.opening x.past n reply.NoTransform) holds.view
    (answered-none (opened catalog loads f.managed.log) past n (subst (λ p. (p ≡ Idle) ⊎ (p ≡ Late) ⊎ (p ≡ Done)) holds.kept.phase_is is))

-- ** the source **

-- what the manager lends: its declared tables
pub record LendsOwn (m : Managed) (lent : List NamedTable) : Type 0 where
  pub now : lent ≡ take m.own m.tables
  pub lends : Lends m lent

one_name : (a b : List ℕ) (names : List (List ℕ)) → names ≡ a ∷ [] → names ≡ b ∷ [] → a ≡ b
one_name a b names p q = let e : a ∷ [] ≡ b ∷ [] = sym p ∙ q in cc

-- the one source of a transformation, among these tables
pub record SourceAmong (tables : List NamedTable) (spec : Spec) : Type 0 where
  pub source : Relation
  pub among : source_among tables spec ≡ Some source
  pub name : List ℕ
  pub one : sources_of spec ≡ name ∷ []
  pub named : table_named tables name ≡ Some source

source_there : (catalog : List Declared) (log : List Rec) (tables : List NamedTable) (spec : Spec) → AreTables log (shapes_of catalog) tables → IsShaped spec → spec_fault catalog spec ≡ None → SourceAmong tables spec
source_there catalog log tables (Part table tests passing failing) meets shaped fits =
    let has = has_source catalog log tables (Part table tests passing failing) meets shaped fits in
    let same = one_name has.name table (sources_of (Part table tests passing failing)) has.one refl in
    let named = ap (table_named tables) (sym same) ∙ has.meets.found in
    record { source = has.meets.relation; among = named; name = table; one = refl; named = named }
source_there catalog log tables (Join left right on_left on_right into) meets shaped fits = absurd shaped
source_there catalog log tables (Split table others dep rest dependent) meets shaped fits = absurd shaped
source_there catalog log tables (Union left right into) meets shaped fits = absurd shaped

-- while a scan is under way, what was started has its source among the tables
pub record ScansNow (o : Opening) (past : List Entry) (f : Fields) (lent : List NamedTable) : Type 0 where
  pub s : Started
  pub this : started past ≡ Some s
  pub scanning : phase past ≡ Scanning
  pub within : s.mark ≤ length (log_of o past)
  pub scan : IsScanning o past f.cursor s
  pub meet : AreTables (log_of o past) (shapes_of o.catalog) lent
  pub at : SourceAmong lent s.spec
  pub spec : f.spec ≡ Some s.spec

scanning_way : (o : Opening) (past : List Entry) → Legal o past → phase past ≡ Scanning → UnderWay o.catalog (phase past) (started past) (position o past) (length (log_of o past))
scanning_way o past legal at = by (legal_progress o past legal)
  where
    by : Progress o.catalog (phase past) (started past) (position o past) (length (log_of o past)) → UnderWay o.catalog (phase past) (started past) (position o past) (length (log_of o past))
    by (before idle none) = absurd (cc)
    by (under_way u) = u

scans_kept : (o : Opening) (past : List Entry) (f : Fields) (lent : List NamedTable) → IsKept o past f → phase past ≡ Scanning → LendsOwn f.managed lent → ScansNow o past f lent
scans_kept o past f lent kept at lends =
    let u = scanning_way o past kept.legal at in
    let meet = lent_meet o past f.managed lent kept.manager_meets lends.lends in
    let scan : ScanMeets o past f.cursor Scanning (Some u.s) = subst (ScanMeets o past f.cursor Scanning) u.this (subst (λ p. ScanMeets o past f.cursor p (started past)) at kept.scan_meets) in
    record {
      s = u.s;
      this = u.this;
      scanning = at;
      within = u.within;
      scan = scan;
      meet = meet;
      at = source_there o.catalog (log_of o past) lent u.s.spec meet u.shaped u.fits;
      spec = kept.spec_is ∙ ap (option_map (λ (s : Started). s.spec)) u.this;
    }

pub scans_now : (catalog : List Declared) (loads : ℕ) (past : List Entry) (f : Fields) (m : Machine) (lent : List NamedTable) → Holds catalog loads past f m → phase m.past ≡ Scanning → LendsOwn f.managed lent → ScansNow (opened catalog loads f.managed.log) past f lent
scans_now catalog loads past f m lent holds at lends =
    scans_kept (opened catalog loads f.managed.log) past f lent holds.kept (from_view (λ (x : Machine). phase x.past ≡ Scanning) (opened catalog loads f.managed.log) past m holds.view at) lends

source_is : (o : Opening) (past : List Entry) (f : Fields) (lent : List NamedTable) → (now : ScansNow o past f lent) → source_table f.spec lent ≡ Some now.at.source
source_is o past f lent now = ap (λ s. source_table s lent) now.spec ∙ now.at.among

-- so it can be walked
pub source_is_there : (o : Opening) (past : List Entry) (f : Fields) (lent : List NamedTable) → ScansNow o past f lent → IsSome (source_table f.spec lent)
source_is_there o past f lent now = subst IsSome (sym (source_is o past f lent now)) refl

-- ** a turn **

-- how far a scan has come behind a turn
turn_now : (o : Opening) (past : List Entry) (f : Fields) (lent : List NamedTable) (n : ℕ) (walked : Walked) → (now : ScansNow o past f lent) → IsSomeAnd (source_table f.spec lent) (WalksIn f.cursor n walked)
    → TurnMeets (log_of o past) now.s.mark (seen past) now.at.name n walked
turn_now o past f lent n walked now walks =
    let w = subst (λ source. IsSomeAnd source (WalksIn f.cursor n walked)) (source_is o past f lent now) walks in
    turn_meets (log_of o past) now.s.mark (seen past) now.at.name now.at.source.rows f.cursor n walked now.within (now.scan.walked now.at.name now.at.one)
    (record { sorted = w.relation.sorted; meets = found_meets o.catalog (log_of o past) lent now.at.name now.at.source now.meet now.at.named; walks = w.walks })

side_of_one : (past : List Entry) (s : Started) (name : List ℕ) → started past ≡ Some s → sources_of s.spec ≡ name ∷ [] → side_table (started past) 0 ≡ Some name
side_of_one past s name this one = ap (λ t. side_table t 0) this ∙ ap (λ sources. slice_get sources 0) one

last_of_one : (past : List Entry) (s : Started) (name : List ℕ) → started past ≡ Some s → sources_of s.spec ≡ name ∷ [] → IsLastSide (started past) 0
last_of_one past s name this one = subst (λ t. IsLastSide t 0) (sym this) (let counts : length (sources_of s.spec) ≡ 1 = ap length one in omega arith)

-- it is allowed
scan_turn : (o : Opening) (past : List Entry) (f : Fields) (lent : List NamedTable) (n : ℕ) (walked : Walked) → (now : ScansNow o past f lent) → TurnMeets (log_of o past) now.s.mark (seen past) now.at.name n walked
    → IsScanTurn o past n 0 (lsns_of walked.seen) walked.over
scan_turn o past f lent n walked now turn = record {
  scanning = now.scanning;
  few = turn.few;
  distinct = turn.distinct;
  unseen = turn.unseen;
  on_side = now.scan.next_side;
  table = now.at.name;
  of_side = side_of_one past now.s now.at.name now.this now.at.one;
  present = turn.present;
  ends = λ ends last. turn.ends ends;
  last_side = λ t. last_of_one past now.s now.at.name now.this now.at.one;
  covered = subst (λ mark. IsTrue walked.over → Covers (log_of o past) mark (seen past ++ lsns_of walked.seen) now.at.name) (sym (ap mark_of now.this)) turn.covered;
}

answered-scanned : (o : Opening) (past : List Entry) (n side : ℕ) (lsns : List ℕ) (last : Bool) → IsScanTurn o past n side lsns last → ScanAnswer o past n (reply.Scanned side lsns last)
unfolding ScanAnswer
answered-scanned o past n side lsns last turn = turn

effect-scanned : (side : ℕ) (lsns : List ℕ) (last : Bool) → effect (reply.Scanned side lsns last) ≡ Sees lsns last
unfolding effect
effect-scanned side lsns last = refl

-- the entry of a turn
abbrev scan_entry : ℕ → List ℕ → Bool → Entry
scan_entry n lsns last = own_entry (Scan n) (reply.Scanned 0 lsns last)

seen-scanned : (past : List Entry) (n : ℕ) (lsns : List ℕ) (last : Bool) → seen (scan_entry n lsns last ∷ past) ≡ seen past ++ lsns
seen-scanned past n lsns last = ap (λ does. seen_after does (seen past)) (effect-scanned 0 lsns last)

-- behind a turn that didn't end its side the next turn has the same side
next_side-on : (o : Opening) (past : List Entry) (n : ℕ) (lsns : List ℕ) → IsLastSide (started past) 0 → IsScanTurn o past n 0 lsns false → IsNextSide o (scan_entry n lsns false ∷ past) 0
unfolding next_side_after effect
next_side-on o past n lsns side turn = inl (refl, λ table found ends. absurd (false≢true (turn.ends (subst (λ t. EndsSide (log_of o past) n lsns (seen past ++ lsns) t) (one table found) ends) side)))
  where
    inside : (x y : List ℕ) → Some x ≡ Some y → x ≡ y
    inside x y h = cc

    one : (table : List ℕ) → side_table (started past) 0 ≡ Some table → table ≡ turn.table
    one table h = inside table turn.table (sym h ∙ turn.of_side)

-- what is kept of the scan behind a turn
scan_kept : (o : Opening) (past : List Entry) (f : Fields) (lent : List NamedTable) (n : ℕ) (walked : Walked) (last : Bool) → walked.over ≡ last → (now : ScansNow o past f lent) → TurnMeets (log_of o past) now.s.mark (seen past) now.at.name n walked
    → IsScanTurn o past n 0 (lsns_of walked.seen) last → ScanMeets o (scan_entry n (lsns_of walked.seen) last ∷ past) walked.next (if last then Chasing else Scanning) (Some now.s)
scan_kept o past f lent n walked true over now turn allowed = tt
scan_kept o past f lent n walked false over now turn allowed = record {
  next_side = next_side-on o past n (lsns_of walked.seen) (last_of_one past now.s now.at.name now.this now.at.one) allowed;
  walked = λ name only.
      let same = one_name now.at.name name (sources_of now.s.spec) now.at.one only in
      subst (λ t. IsWalked (log_of o (scan_entry n (lsns_of walked.seen) false ∷ past)) now.s.mark (seen (scan_entry n (lsns_of walked.seen) false ∷ past)) t (is_behind walked.next)) same
      (subst (λ log. IsWalked log now.s.mark (seen (scan_entry n (lsns_of walked.seen) false ∷ past)) now.at.name (is_behind walked.next))
      (sym (log-saw o past (scan_entry n (lsns_of walked.seen) false) (lsns_of walked.seen) false (effect-scanned 0 (lsns_of walked.seen) false)))
      (subst (λ lsns. IsWalked (log_of o past) now.s.mark lsns now.at.name (is_behind walked.next)) (sym (seen-scanned past n (lsns_of walked.seen) false)) turn.on));
}

-- the fields behind a turn
abbrev pub scanned_fields : Fields → ℕ → Phase → Option (List Value) → Fields
scanned_fields f spare after place = record { managed = f.managed; spare = spare; clients = f.clients; known = f.known; now = after; spec = f.spec; cursor = place; position = f.position }

shown-scanned : (last : Bool) (was : Phase) (fresh : List Target) → was ≡ Scanning → map adopted (shown_in (if last then Chasing else Scanning) fresh) ≡ map adopted (shown_in was fresh)
shown-scanned true was fresh at = rw at refl
shown-scanned false was fresh at = rw at refl

named-scanned : (last : Bool) (was : Phase) (fresh : List Target) → was ≡ Scanning → map adopted (named_in (if last then Chasing else Scanning) fresh) ≡ map adopted (named_in was fresh)
named-scanned true was fresh at = rw at refl
named-scanned false was fresh at = rw at refl

not_done : (last : Bool) → (if last then Chasing else Scanning) ≡ Done → ⊥
not_done true e = cc
not_done false e = cc

scanned_leaves : (o : Opening) (past : List Entry) (f : Fields) (lent : List NamedTable) (n spare : ℕ) (walked : Walked) → IsKept o past f → (now : ScansNow o past f lent) → TurnMeets (log_of o past) now.s.mark (seen past) now.at.name n walked
    → IsScanTurn o past n 0 (lsns_of walked.seen) walked.over → length f.clients ≤ spare
    → OwnLeaves o past f (scanned_fields f spare (if walked.over then Chasing else Scanning) walked.next) (scan_entry n (lsns_of walked.seen) walked.over)
scanned_leaves o past f lent n spare walked kept now turn allowed room =
    let e = scan_entry n (lsns_of walked.seen) walked.over in
    let told : effect (reply.Scanned 0 (lsns_of walked.seen) walked.over) ≡ Sees (lsns_of walked.seen) walked.over = effect-scanned 0 (lsns_of walked.seen) walked.over in
    let at : phase (scan_entry n (lsns_of walked.seen) walked.over ∷ past) ≡ (if walked.over then Chasing else Scanning) =
    phase_by past (scan_entry n (lsns_of walked.seen) walked.over) (Sees (lsns_of walked.seen) walked.over) told ∙ ap (λ p. if walked.over then Chasing else p) now.scanning in
    let is : started (scan_entry n (lsns_of walked.seen) walked.over ∷ past) ≡ started past = started_told past (scan_entry n (lsns_of walked.seen) walked.over) (Sees (lsns_of walked.seen) walked.over) told in
    record {
      managed = unchanged f.managed;
      clients = refl;
      room = room;
      knows = refl;
      spec = refl;
      now = sym at;
      place = kept.position_is ∙ sym (ap (λ does. position_after (length (log_of o (scan_entry n (lsns_of walked.seen) walked.over ∷ past))) does (position o past)) told);
      scan = subst (λ p. ScanMeets o (scan_entry n (lsns_of walked.seen) walked.over ∷ past) walked.next p (started (scan_entry n (lsns_of walked.seen) walked.over ∷ past))) (sym at)
          (subst (ScanMeets o (scan_entry n (lsns_of walked.seen) walked.over ∷ past) walked.next (if walked.over then Chasing else Scanning)) (sym (is ∙ now.this)) (scan_kept o past f lent n walked walked.over refl now turn allowed));
      start = is;
      shown = ap (λ p. map adopted (shown_in p (new_tables o.catalog (started (scan_entry n (lsns_of walked.seen) walked.over ∷ past))))) at
          ∙ ap (λ s. map adopted (shown_in (if walked.over then Chasing else Scanning) (new_tables o.catalog s))) is
          ∙ shown-scanned walked.over (phase past) (new_tables o.catalog (started past)) now.scanning;
      named = ap (λ p. o.catalog ++ map adopted (named_in p (new_tables o.catalog (started (scan_entry n (lsns_of walked.seen) walked.over ∷ past))))) at
          ∙ ap (λ s. o.catalog ++ map adopted (named_in (if walked.over then Chasing else Scanning) (new_tables o.catalog s))) is
          ∙ ap (λ l. o.catalog ++ l) (named-scanned walked.over (phase past) (new_tables o.catalog (started past)) now.scanning);
      timely = λ done. absurd (not_done walked.over (sym at ∙ done));
    }

pub scan_took : (catalog : List Declared) (loads : ℕ) (past journal : List Entry) (f : Fields) (m : Machine) (n spare : ℕ) (after : Phase) (lent : List NamedTable) (walked : Walked) (lsns : List ℕ)
    → Holds catalog loads past f m → phase m.past ≡ Scanning → AsksUpTo m 64 n → LendsOwn f.managed lent → IsSomeAnd (source_table f.spec lent) (WalksIn f.cursor n walked) → lsns ≡ lsns_of walked.seen
    → length f.clients ≤ spare → after ≡ (if walked.over then Chasing else Scanning) → journal ≡ scan_entry n lsns walked.over ∷ past
    → Took catalog loads journal (scanned_fields f spare after walked.next) m 0 (Scan n) (reply.Scanned 0 lsns walked.over)
scan_took catalog loads past journal f m n spare after lent walked lsns holds at asks lends walks named room ends is =
    let now = scans_now catalog loads past f m lent holds at lends in
    let turn = turn_now (opened catalog loads f.managed.log) past f lent n walked now walks in
    let allowed = scan_turn (opened catalog loads f.managed.log) past f lent n walked now turn in
    let entry = legal-scan (opened catalog loads f.managed.log) past n (reply.Scanned 0 (lsns_of walked.seen) walked.over) (place_here catalog loads past f m (reply.Scanned 0 (lsns_of walked.seen) walked.over) holds asks.place) asks.some asks.few
    (answered-scanned (opened catalog loads f.managed.log) past n 0 (lsns_of walked.seen) walked.over allowed) in
    let kept = kept-own (opened catalog loads f.managed.log) past f (scanned_fields f spare (if walked.over then Chasing else Scanning) walked.next) (scan_entry n (lsns_of walked.seen) walked.over) (Sees (lsns_of walked.seen) walked.over) holds.kept entry
    (quiet-sees (opened catalog loads f.managed.log) past (scan_entry n (lsns_of walked.seen) walked.over) (lsns_of walked.seen) walked.over (effect-scanned 0 (lsns_of walked.seen) walked.over))
    (scanned_leaves (opened catalog loads f.managed.log) past f lent n spare walked holds.kept now turn allowed room) in
    let kept_named = subst (λ l. IsKept (opened catalog loads f.managed.log) (scan_entry n l walked.over ∷ past) (scanned_fields f spare (if walked.over then Chasing else Scanning) walked.next)) (sym named) kept in
    let kept_after = subst (λ p. IsKept (opened catalog loads f.managed.log) (scan_entry n lsns walked.over ∷ past) (scanned_fields f spare p walked.next)) (sym ends) kept_named in
    took catalog loads past journal f (scanned_fields f spare after walked.next) m 0 (Scan n) (reply.Scanned 0 lsns walked.over) holds (no_longer refl) is
    (subst (λ j. IsKept (opened catalog loads f.managed.log) j (scanned_fields f spare after walked.next)) (sym is) kept_after)

-- the rows are those that the answer names
seen_named : (o : Opening) (past : List Entry) (side : ℕ) (lsns : List ℕ) (last : Bool) (rows : List Seen) → lsns ≡ lsns_of rows
    → ((name : List ℕ) → side_table (started past) side ≡ Some name → AllByRecursion (λ (s : Seen). state_at (log_of o past) name s.key ≡ Some (s.row, s.lsn)) rows)
    → AreSeen (record { opening = o; past = past }) (reply.Scanned side lsns last) rows
unfolding AreSeen
seen_named o past side lsns last rows named there = record { named = named; there = there }

pub rows_seen : (catalog : List Declared) (loads : ℕ) (past : List Entry) (f : Fields) (m : Machine) (n : ℕ) (lent : List NamedTable) (walked : Walked) (lsns : List ℕ) (answer : Reply)
    → Holds catalog loads past f m → phase m.past ≡ Scanning → LendsOwn f.managed lent → IsSomeAnd (source_table f.spec lent) (WalksIn f.cursor n walked) → lsns ≡ lsns_of walked.seen
    → answer ≡ reply.Scanned 0 lsns walked.over → AreSeen m answer walked.seen
rows_seen catalog loads past f m n lent walked lsns answer holds at lends walks named is =
    let now = scans_now catalog loads past f m lent holds at lends in
    let turn = turn_now (opened catalog loads f.managed.log) past f lent n walked now walks in
    subst (λ (a : Reply). AreSeen m a walked.seen) (sym is)
    (subst (λ (x : Machine). AreSeen x (reply.Scanned 0 lsns walked.over) walked.seen) holds.view
    (seen_named (opened catalog loads f.managed.log) past 0 lsns walked.over walked.seen named
    (λ name found. subst (λ t. AllByRecursion (λ (s : Seen). state_at (log_of (opened catalog loads f.managed.log) past) t s.key ≡ Some (s.row, s.lsn)) walked.seen)
    (inside now.at.name name (sym (side_of_one past now.s now.at.name now.this now.at.one) ∙ found)) turn.stored)))
  where
    inside : (x y : List ℕ) → Some x ≡ Some y → x ≡ y
    inside x y h = cc

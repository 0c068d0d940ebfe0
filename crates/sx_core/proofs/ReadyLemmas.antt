-- Whether a switch can be done: what the machine looks at tells what the journal's definition says.
use Rattle.std.proofs.Common.{◌≡◌, ◌==◌, ◌-◌, ◌&&◌, ◌∷◌, [], ℕ, List, length, map, filter, Bool, true, false, cond, Option, Some, None, option_map, IsSome, refl, sym, ◌∙◌, ap, subst, inl, inr, arith, if◌then◌else◌}
use Rattle.std.specs.Prelude.{nat_eq, nat_lt}
use Rattle.std.specs.List.{AllByRecursion, IsDistinct}
use Rattle.std.proofs.lemmas.Bool.Decides.{nat_tests}
use Rattle.sx_values.specs.declared.catalog.Declared.{Declared}
use Rattle.sx_values.specs.Names.{has_name}
use Rattle.sx_values.proofs.KeyLaws.{same_name-refl}
use Rattle.sx_locks.specs.declared.mode.Mode.{Mode}
use Rattle.sx_locks.specs.Locks.{mode_held}
use Rattle.sx_txn.specs.Managed.{Managed}
use Rattle.sx_ops.specs.declared.spec.Spec.{Spec}
use Rattle.sx_ops.specs.declared.spec.Spec.TheVariants.{Join, Split, Part, Union}
use Rattle.sx_ops.specs.declared.spec.Test.{Test}
use Rattle.sx_ops.specs.Checks.{IsShaped}
use Rattle.sx_ops.specs.Operators.{sources_of, is_split}
use Rattle.sx_sync.specs.declared.Strategy.TheVariants.{Blocking}
use Rattle.sx_sync.specs.declared.ready.Live.{Live}
use Rattle.sx_sync.specs.declared.ready.Ready.{Ready as IsReady}
use Rattle.sx_sync.specs.declared.ready.Ready.TheVariants.{Unread}
use Rattle.sx_sync.specs.Ready.{is_blocking, least, least_hindering, ready, unless_hindered as ready_unless}
use Rattle.sx_journal.specs.declared.entry.Entry.{Entry}
use Rattle.sx_journal.specs.declared.entry.Reply.TheVariants as reply
use Rattle.sx_model.specs.Openings.{Opening}
use Rattle.sx_model.specs.Leaves.{Living, living, txn_of, txn_among, Started, started, phase}
use Rattle.sx_model.specs.Logs.{log_of, next_lsn}
use Rattle.sx_model.specs.Switches.{has_lock_on, wrote_on, conflict, unless_violated, unless_hindered, attempt_reply, switch_in, switch_reply, position}
use Rattle.sx_model.specs.Legal.{Legal}
use Rattle.sx_model.proofs.LegalLaws.{UnderWay}
use Rattle.sx_model.proofs.LivingLaws.{legal_living}
use Rattle.sx_model.proofs.Outcomes.{no_violation}
use Rattle.sx_model.proofs.SourceLaws.{lock_shows, lock_there}
use Rattle.sx_core.specs.Machines.{Machine}
use Rattle.sx_core.specs.Kept.{Fields, ManagerMeets}
use Rattle.sx_core.specs.Asked.{IsScanned}
use Rattle.sx_core.specs.Switching.{IsLiveOf, AreLives, told_ready}
use Rattle.sx_core.proofs.AttemptLemmas.{under_here, scanned_here}
use Rattle.sx_core.proofs.TurnLemmas.{Holds, opened}

-- ** who hinders **

-- each of the living is in the transaction that it names
own_txns : (xs : List Living) → IsDistinct nat_eq (map (λ (l : Living). l.client) xs) → AllByRecursion (λ (l : Living). txn_among xs l.client ≡ Some l.txn) xs
unfolding IsDistinct
own_txns [] differ = tt
own_txns (x ∷ xs) differ = (here, rest xs differ.0 (own_txns xs differ.1))
  where
    here : txn_among (x ∷ xs) x.client ≡ Some x.txn
    here = (let same : (x.client == x.client) ≡ true = grind (arith, nat_tests) in rw same refl)

    rest : (ys : List Living) → AllByRecursion (λ n. nat_eq x.client n ≡ false) (map (λ (l : Living). l.client) ys) → AllByRecursion (λ (l : Living). txn_among xs l.client ≡ Some l.txn) ys → AllByRecursion (λ (l : Living). txn_among (x ∷ xs) l.client ≡ Some l.txn) ys
    rest [] all own = tt
    rest (y ∷ ys) all own = (rw all.0 own.0, rest ys all.1 own.1)

some_mode : (held : Option Mode) → IsSome held → (mode : Mode) × (held ≡ Some mode)
some_mode None some = absurd (cc)
some_mode (Some mode) some = (mode, refl)

both_ways : (a b : Bool) → (a ≡ true → b ≡ true) → (b ≡ true → a ≡ true) → a ≡ b
both_ways true true to back = refl
both_ways true false to back = sym (to refl)
both_ways false true to back = back refl
both_ways false false to back = refl

-- a lock that the manager has on a table is one that the client's entries show
lock_told : (o : Opening) (past : List Entry) (m : Managed) (table : List ℕ) (l : Living) (live : Live) → Legal o past → ManagerMeets o past m → txn_of past l.client ≡ Some l.txn → IsLiveOf m.locks table l live → has_lock_on (table ∷ []) l.client past ≡ live.locks_source
lock_told o past m table l live legal meets inside is = both_ways (has_lock_on (table ∷ []) l.client past) live.locks_source
    (λ shows.
    let there = lock_there o past l.client l.txn table legal inside shows in
    is.locks_it.1 (there.key, subst IsSome (sym (meets.locks l.txn table there.key ∙ there.is)) refl))
    (λ locks.
    let held = is.locks_it.0 locks in
    let mode = some_mode (mode_held m.locks l.txn table held.0) held.1 in
    let named : has_name (table ∷ []) table ≡ true = rw (same_name-refl table) refl in
    lock_shows o past (table ∷ []) l.client l.txn table held.0 mode.0 legal inside named (sym (meets.locks l.txn table held.0) ∙ mode.1))

-- so those that hinder are the same
same_hinder : (o : Opening) (past : List Entry) (m : Managed) (table : List ℕ) (xs : List Living) (ys : List Live) → Legal o past → ManagerMeets o past m → AllByRecursion (λ (l : Living). txn_of past l.client ≡ Some l.txn) xs → AreLives m.locks table xs ys
    → map (λ (l : Living). l.txn) (filter (λ (l : Living). has_lock_on (table ∷ []) l.client past) xs) ≡ map (λ (l : Live). l.txn) (filter (λ (l : Live). l.locks_source) ys)
same_hinder o past m table [] [] legal meets own are = refl
same_hinder o past m table [] (y ∷ ys) legal meets own are = absurd are
same_hinder o past m table (x ∷ xs) [] legal meets own are = absurd are
same_hinder o past m table (x ∷ xs) (y ∷ ys) legal meets own are =
    by (has_lock_on (table ∷ []) x.client past) y.locks_source (lock_told o past m table x y legal meets own.0 are.0) (same_hinder o past m table xs ys legal meets own.1 are.1)
  where
    by : (a b : Bool) → a ≡ b → map (λ (l : Living). l.txn) (filter (λ (l : Living). has_lock_on (table ∷ []) l.client past) xs) ≡ map (λ (l : Live). l.txn) (filter (λ (l : Live). l.locks_source) ys)
        → map (λ (l : Living). l.txn) (cond a (x ∷ filter (λ (l : Living). has_lock_on (table ∷ []) l.client past) xs) (filter (λ (l : Living). has_lock_on (table ∷ []) l.client past) xs)) ≡ map (λ (l : Live). l.txn) (cond b (y ∷ filter (λ (l : Live). l.locks_source) ys) (filter (λ (l : Live). l.locks_source) ys))
    by true true e rest = ap (λ n. n ∷ map (λ (l : Living). l.txn) (filter (λ (l : Living). has_lock_on (table ∷ []) l.client past) xs)) (sym are.0.txn) ∙ ap (λ l. y.txn ∷ l) rest
    by false false e rest = rest
    by true false e rest = absurd (cc)
    by false true e rest = absurd (cc)

-- under blocking commit those hinder that have a lock on a source
conflict-blocking : (o : Opening) (past : List Entry) (s : Started) (table : List ℕ) → s.strategy ≡ Blocking → sources_of s.spec ≡ table ∷ [] → conflict o past s ≡ least (map (λ (l : Living). l.txn) (filter (λ (l : Living). has_lock_on (table ∷ []) l.client past) (living past)))
conflict-blocking o past s table blocking one =
    ap (λ strategy. least (map (λ (l : Living). l.txn) (filter (λ (l : Living). if is_blocking strategy then has_lock_on (sources_of s.spec) l.client past else (is_split s.spec && wrote_on (sources_of s.spec) l.txn (log_of o past))) (living past)))) blocking
    ∙ ap (λ tables. least (map (λ (l : Living). l.txn) (filter (λ (l : Living). has_lock_on tables l.client past) (living past)))) one

-- ** what it is told **

pub scanned_answer : (o : Opening) (past : List Entry) → IsScanned (phase past) → switch_reply o past ≡ attempt_reply o past (started past)
scanned_answer o past (inl is) = ap (switch_in o past) is
scanned_answer o past (inr is) = ap (switch_in o past) is

told_so : (m : Machine) (pos end : ℕ) (many : Bool) (by : Option ℕ) → told_ready m (if many then Unread pos end else ready_unless by) ≡ (if many then reply.Unread pos end else unless_hindered by (reply.Switched (next_lsn m.opening m.past)))
told_so m pos end true by = refl
told_so m pos end false None = refl
told_so m pos end false (Some txn) = refl

-- the horizontal split that was started
pub record SpecThere (past : List Entry) (f : Fields) (s : Started) : Type 0 where
  pub table : List ℕ
  pub tests : List Test
  pub passing : List ℕ
  pub failing : List ℕ
  pub is : s.spec ≡ Part table tests passing failing
  pub kept : f.spec ≡ Some (Part table tests passing failing)

spec_of : (past : List Entry) (f : Fields) (s : Started) (spec : Spec) → s.spec ≡ spec → IsShaped spec → f.spec ≡ Some s.spec → SpecThere past f s
spec_of past f s (Part table tests passing failing) is shaped kept = record { table = table; tests = tests; passing = passing; failing = failing; is = is; kept = kept ∙ ap Some is }
spec_of past f s (Join left right on_left on_right into) is shaped kept = absurd shaped
spec_of past f s (Split table dep_by dep rest dependent) is shaped kept = absurd shaped
spec_of past f s (Union left right into) is shaped kept = absurd shaped

-- it is there once the scan has ended
pub under_holds : (catalog : List Declared) (loads : ℕ) (past : List Entry) (f : Fields) (m : Machine) → Holds catalog loads past f m → IsScanned (phase m.past)
    → UnderWay catalog (phase past) (started past) (position (opened catalog loads f.managed.log) past) (length (log_of (opened catalog loads f.managed.log) past))
under_holds catalog loads past f m holds scanned = under_here (opened catalog loads f.managed.log) past holds.kept.legal (scanned_here catalog loads past f m holds scanned)

pub spec_there : (catalog : List Declared) (loads : ℕ) (past : List Entry) (f : Fields) (m : Machine) → (holds : Holds catalog loads past f m) → (scanned : IsScanned (phase m.past)) → SpecThere past f (under_holds catalog loads past f m holds scanned).s
spec_there catalog loads past f m holds scanned =
    let u = under_holds catalog loads past f m holds scanned in
    spec_of past f u.s u.s.spec refl u.shaped (holds.kept.spec_is ∙ ap (option_map (λ (s : Started). s.spec)) u.this)

pub no_spec : (catalog : List Declared) (loads : ℕ) (past : List Entry) (f : Fields) (m : Machine) → Holds catalog loads past f m → IsScanned (phase m.past) → f.spec ≡ None → ⊥
no_spec catalog loads past f m holds scanned none = let there = spec_there catalog loads past f m holds scanned in let kept = there.kept in (let e : None ≡ Some (Part there.table there.tests there.passing there.failing) = sym none ∙ kept in cc)

same_spec : (one other : Spec) → Some one ≡ Some other → one ≡ other
same_spec one other e = cc

pub no_other : (catalog : List Declared) (loads : ℕ) (past : List Entry) (f : Fields) (m : Machine) (spec : Spec) → Holds catalog loads past f m → IsScanned (phase m.past) → f.spec ≡ Some spec
    → ((table : List ℕ) (tests : List Test) (passing failing : List ℕ) → spec ≡ Part table tests passing failing → ⊥) → ⊥
no_other catalog loads past f m spec holds scanned is not =
    let there = spec_there catalog loads past f m holds scanned in
    not there.table there.tests there.passing there.failing (same_spec spec (Part there.table there.tests there.passing there.failing) (sym is ∙ there.kept))

ready_here : (o : Opening) (past : List Entry) (m : Managed) (s : Started) (table : List ℕ) (spec : Spec) (lives : List Live) → Legal o past → ManagerMeets o past m → IsScanned (phase past) → started past ≡ Some s → IsShaped s.spec → s.strategy ≡ Blocking → sources_of s.spec ≡ table ∷ []
    → AreLives m.locks table (living past) lives → told_ready (record { opening = o; past = past }) (ready Blocking spec (position o past) (length (log_of o past)) lives) ≡ switch_reply o past
ready_here o past m s table spec lives legal meets scanned is shaped blocking one are =
    let same : conflict o past s ≡ least_hindering Blocking spec lives =
    conflict-blocking o past s table blocking one ∙ ap least (same_hinder o past m table (living past) lives legal meets (own_txns (living past) (legal_living o past legal).clients) are) in
    told_so (record { opening = o; past = past }) (position o past) (length (log_of o past)) (nat_lt 256 (length (log_of o past) - position o past)) (least_hindering Blocking spec lives)
    ∙ ap (λ by. if nat_lt 256 (length (log_of o past) - position o past) then reply.Unread (position o past) (length (log_of o past)) else unless_hindered by (reply.Switched (next_lsn o past))) (sym same)
    ∙ ap (λ v. if nat_lt 256 (length (log_of o past) - position o past) then reply.Unread (position o past) (length (log_of o past)) else unless_hindered (conflict o past s) (unless_violated v (reply.Switched (next_lsn o past)))) (sym (no_violation o past s.spec shaped))
    ∙ sym (scanned_answer o past scanned ∙ ap (attempt_reply o past) is)

pub ready_is : (catalog : List Declared) (loads : ℕ) (past : List Entry) (f : Fields) (m : Machine) (table : List ℕ) (tests : List Test) (passing failing : List ℕ) (clients : List Living) (lives : List Live) (end : ℕ) (told : IsReady)
    → Holds catalog loads past f m → IsScanned (phase m.past) → f.spec ≡ Some (Part table tests passing failing) → clients ≡ f.clients → AreLives f.managed.locks table clients lives → end ≡ length f.managed.log
    → told ≡ ready Blocking (Part table tests passing failing) f.position end lives → told_ready m told ≡ switch_reply m.opening m.past
ready_is catalog loads past f m table tests passing failing clients lives end told holds scanned is same are ends tells =
    let u = under_holds catalog loads past f m holds scanned in
    let spec : u.s.spec ≡ Part table tests passing failing = same_spec u.s.spec (Part table tests passing failing) (sym (holds.kept.spec_is ∙ ap (option_map (λ (s : Started). s.spec)) u.this) ∙ is) in
    let living_are : AreLives f.managed.locks table (living past) lives = subst (λ l. AreLives f.managed.locks table l lives) (same ∙ holds.kept.clients_are) are in
    let here = ready_here (opened catalog loads f.managed.log) past f.managed u.s table (Part table tests passing failing) lives holds.kept.legal holds.kept.manager_meets (scanned_here catalog loads past f m holds scanned) u.this u.shaped u.blocking (ap sources_of spec) living_are in
    let at : told ≡ ready Blocking (Part table tests passing failing) (position (opened catalog loads f.managed.log) past) (length (log_of (opened catalog loads f.managed.log) past)) lives =
    tells ∙ ap (λ p. ready Blocking (Part table tests passing failing) p end lives) holds.kept.position_is ∙ ap (λ n. ready Blocking (Part table tests passing failing) (position (opened catalog loads f.managed.log) past) n lives) (ends ∙ ap length holds.kept.manager_meets.log_is) in
    subst (λ (x : Machine). told_ready x told ≡ switch_reply x.opening x.past) holds.view (ap (told_ready (record { opening = opened catalog loads f.managed.log; past = past })) at ∙ here)

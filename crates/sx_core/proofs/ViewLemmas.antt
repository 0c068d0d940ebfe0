-- The tables that the machine lends: the declared ones, and the new ones.
use Rattle.std.proofs.Common.{◌≡◌, ◌++◌, ◌∷◌, [], ℕ, zero, suc, List, length, map, take, drop, Some, None, option_map, IsSome, refl, sym, ap, ◌∙◌, subst}
use Rattle.std.specs.List.{AllByRecursion}
use Rattle.std.proofs.lemmas.List.{take-append-drop}
use Rattle.sx_values.specs.declared.catalog.Declared.{Declared}
use Rattle.sx_values.specs.Names.{same_name}
use Rattle.sx_values.specs.Catalogs.{declared_as, schema_of}
use Rattle.sx_values.proofs.KeyLaws.{same_name_tells}
use Rattle.sx_heap.specs.declared.tables.NamedTable.{NamedTable}
use Rattle.sx_heap.specs.NamedTables.{table_named}
use Rattle.sx_ops.specs.declared.spec.Target.{Target}
use Rattle.sx_txn.specs.Managed.{Managed, AreTables, OwnMeets, shape_of, schema_in}
use Rattle.sx_sync.specs.declared.Phase.{Phase}
use Rattle.sx_sync.specs.declared.Phase.TheVariants.{Idle, Scanning, Chasing, Draining, Late, Done}
use Rattle.sx_journal.specs.declared.entry.Entry.{Entry}
use Rattle.sx_model.specs.Openings.{Opening}
use Rattle.sx_model.specs.Leaves.{started, phase}
use Rattle.sx_model.specs.Known.{adopted, new_tables}
use Rattle.sx_model.specs.Logs.{log_of}
use Rattle.sx_model.specs.Switches.{position}
use Rattle.sx_model.specs.Legal.{Legal}
use Rattle.sx_model.proofs.TestLaws.{by_cases}
use Rattle.sx_model.proofs.LegalLaws.{legal_progress, Progress, before, under_way}
use Rattle.sx_model.proofs.SpecLaws.{targets_new}
use Rattle.sx_core.specs.Kept.{ManagerMeets, shapes_of, shown_in, shown_now}
use Rattle.sx_core.specs.Views.{AreNew}
use Rattle.sx_core.proofs.FreshLemmas.{named_behind}
use Rattle.sx_core.proofs.StoredLemmas.{row_of, stored-is}
use Rattle.sx_core.proofs.ClientLemmas.{schema_shape}

-- ** lists of declared tables and of new ones **

pub drop-front : {T : Type 0} (xs ys : List T) → drop (length xs) (xs ++ ys) ≡ ys
drop-front [] ys = refl
drop-front (x ∷ xs) ys = drop-front xs ys

pub take-front : {T : Type 0} (xs ys : List T) → take (length xs) (xs ++ ys) ≡ xs
take-front [] ys = refl
take-front (x ∷ xs) ys = ap (λ l. x ∷ l) (take-front xs ys)

pub shapes-both : (some others : List Declared) → shapes_of (some ++ others) ≡ shapes_of some ++ shapes_of others
shapes-both [] others = refl
shapes-both (d ∷ some) others = ap (λ l. record { name = d.name; schema = d.schema } ∷ l) (shapes-both some others)

pub shapes-long : (catalog : List Declared) → length (shapes_of catalog) ≡ length catalog
shapes-long [] = refl
shapes-long (d ∷ catalog) = ap suc (shapes-long catalog)

-- the shapes of the manager's own tables, and of its new ones
pub new_shapes : (o : Opening) (past : List Entry) (m : Managed) → ManagerMeets o past m → drop m.own m.shapes ≡ shapes_of (shown_now o past)
new_shapes o past m meets =
    ap (λ n. drop n m.shapes) (meets.own ∙ sym (shapes-long o.catalog)) ∙ ap (drop (length (shapes_of o.catalog))) (meets.shapes ∙ shapes-both o.catalog (shown_now o past))
    ∙ drop-front (shapes_of o.catalog) (shapes_of (shown_now o past))

pub own_shapes : (o : Opening) (past : List Entry) (m : Managed) → ManagerMeets o past m → take m.own m.shapes ≡ shapes_of o.catalog
own_shapes o past m meets =
    ap (λ n. take n m.shapes) (meets.own ∙ sym (shapes-long o.catalog)) ∙ ap (take (length (shapes_of o.catalog))) (meets.shapes ∙ shapes-both o.catalog (shown_now o past))
    ∙ take-front (shapes_of o.catalog) (shapes_of (shown_now o past))

-- ** names **

-- a table that is there has a shape
pub shaped_there : (tables : List NamedTable) (name : List ℕ) → IsSome (table_named tables name) → IsSome (schema_in (map shape_of tables) name)
shaped_there [] name there = there
shaped_there (t ∷ tables) name there = by_cases (same_name t.name name) (λ is. rw is refl) (λ away. rw away (shaped_there tables name (rw away at there)))

pub unshaped : (tables : List NamedTable) (name : List ℕ) → schema_in (map shape_of tables) name ≡ None → table_named tables name ≡ None
unshaped [] name none = refl
unshaped (t ∷ tables) name none = by_cases (same_name t.name name) (λ is. absurd (let e : Some t.table.schema ≡ None = rw is at none in cc)) (λ away. rw away (unshaped tables name (rw away at none)))

-- the new tables that have rows aren't declared
undeclared_in : (catalog : List Declared) (at : Phase) (ts : List Target) → AllByRecursion (λ (t : Target). declared_as catalog t.name ≡ None) ts → AllByRecursion (λ (t : Target). declared_as catalog t.name ≡ None) (shown_in at ts)
undeclared_in catalog Idle ts all = tt
undeclared_in catalog Scanning ts all = tt
undeclared_in catalog Chasing ts all = tt
undeclared_in catalog Draining ts all = tt
undeclared_in catalog Late ts all = all
undeclared_in catalog Done ts all = all

shown_undeclared : (o : Opening) (past : List Entry) → Legal o past → AllByRecursion (λ (t : Target). declared_as o.catalog t.name ≡ None) (shown_in (phase past) (new_tables o.catalog (started past)))
shown_undeclared o past legal = undeclared_in o.catalog (phase past) (new_tables o.catalog (started past)) (by (legal_progress o past legal))
  where
    by : Progress o.catalog (phase past) (started past) (position o past) (length (log_of o past)) → AllByRecursion (λ (t : Target). declared_as o.catalog t.name ≡ None) (new_tables o.catalog (started past))
    by (before idle none) = subst (λ s. AllByRecursion (λ (t : Target). declared_as o.catalog t.name ≡ None) (new_tables o.catalog s)) (sym none) tt
    by (under_way w) = subst (λ s. AllByRecursion (λ (t : Target). declared_as o.catalog t.name ≡ None) (new_tables o.catalog s)) (sym w.this) (targets_new o.catalog w.s.spec w.shaped w.fits)

new_undeclared : (catalog : List Declared) (ts : List Target) (name : List ℕ) → AllByRecursion (λ (t : Target). declared_as catalog t.name ≡ None) ts → IsSome (schema_of (map adopted ts) name) → declared_as catalog name ≡ None
new_undeclared catalog [] name all there = absurd (cc)
new_undeclared catalog (t ∷ ts) name all there = by_cases (same_name t.name name)
    (λ is. ap (declared_as catalog) (sym (same_name_tells t.name name is)) ∙ all.0)
    (λ away. new_undeclared catalog ts name all.1 (rw away at there))

-- ** what is lent **

pub record LendsNew (m : Managed) (lent : List NamedTable) : Type 0 where
  pub now : lent ≡ drop m.own m.tables
  pub shapes : map shape_of lent ≡ drop m.own m.shapes
  pub meets : OwnMeets m

-- a name of a new table isn't that of a declared one
own_lacks : (o : Opening) (past : List Entry) (m : Managed) (lent : List NamedTable) (name : List ℕ) → Legal o past → ManagerMeets o past m → LendsNew m lent → IsSome (table_named lent name) → table_named (take m.own m.tables) name ≡ None
own_lacks o past m lent name legal meets lends there =
    let shaped = subst (λ shapes. IsSome (schema_in shapes name)) (lends.shapes ∙ new_shapes o past m meets) (shaped_there lent name there) in
    let none = new_undeclared o.catalog (shown_in (phase past) (new_tables o.catalog (started past))) name (shown_undeclared o past legal) (subst IsSome (schema_shape (shown_now o past) name) shaped) in
    unshaped (take m.own m.tables) name
    (ap (λ shapes. schema_in shapes name) (map-take m.own m.tables ∙ ap (take m.own) (sym lends.meets.shapes) ∙ own_shapes o past m meets)
    ∙ schema_shape o.catalog name ∙ ap (option_map (λ (d : Declared). d.schema)) none)
  where
    map-take : (n : ℕ) (tables : List NamedTable) → map shape_of (take n tables) ≡ take n (map shape_of tables)
    map-take zero tables = refl
    map-take (suc n) [] = refl
    map-take (suc n) (t ∷ tables) = ap (λ l. shape_of t ∷ l) (map-take n tables)

pub are_new : (o : Opening) (past : List Entry) (m : Managed) (lent : List NamedTable) → Legal o past → ManagerMeets o past m → LendsNew m lent → AreNew o past lent
are_new o past m lent legal meets lends = record {
  shapes = lends.shapes ∙ new_shapes o past m meets;
  rows = λ name key there.
      let named : table_named m.tables name ≡ table_named lent name =
      ap (λ tables. table_named tables name) (sym (take-append-drop m.own m.tables))
      ∙ named_behind (take m.own m.tables) (drop m.own m.tables) name (own_lacks o past m lent name legal meets lends there)
      ∙ ap (λ tables. table_named tables name) (sym lends.now) in
      let shaped = subst (λ shapes. IsSome (schema_in shapes name)) (sym lends.meets.shapes) (shaped_there m.tables name (subst IsSome (sym named) there)) in
      stored-is lent name key ∙ ap (λ found. row_of found key) (sym named) ∙ sym (stored-is m.tables name key) ∙ meets.rows name key shaped;
}

-- the declared tables
pub record Lends (m : Managed) (lent : List NamedTable) : Type 0 where
  pub tables : AreTables m.log (map shape_of lent) lent
  pub shapes : map shape_of lent ≡ take m.own m.shapes

pub lent_meet : (o : Opening) (past : List Entry) (m : Managed) (lent : List NamedTable) → ManagerMeets o past m → Lends m lent → AreTables (log_of o past) (shapes_of o.catalog) lent
lent_meet o past m lent meets lends = subst (λ log. AreTables log (shapes_of o.catalog) lent) meets.log_is (subst (λ shapes. AreTables m.log shapes lent) (lends.shapes ∙ own_shapes o past m meets) lends.tables)

-- Two lists of tables as one.
use Rattle.std.proofs.Common.{◌≡◌, ◌≤◌, ◌++◌, ◌∷◌, [], ℕ, suc, List, length, Bool, true, false, cond, Option, Some, None, is_some, IsSomeAnd, Result, Ok, Err, OnOk, OnErr, arith, refl, sym, ◌∙◌, ap, subst}
use Rattle.std.proofs.lemmas.Bool.{false≢true}
use Rattle.std.proofs.lemmas.List.{map-append}
use Rattle.std.specs.declared.alloc.AllocError.{AllocError}
use Rattle.std.specs.List.{AllByRecursion, IsDistinct}
use Rattle.sx_lists.specs.Answers.{or_later}
use Rattle.sx_values.specs.declared.value.Value.{Value}
use Rattle.sx_values.specs.Names.{same_name}
use Rattle.sx_heap.specs.declared.tables.NamedTable.{NamedTable}
use Rattle.sx_heap.specs.Relations.{Relation}
use Rattle.sx_heap.specs.NamedTables.{AreNamedApart, names_of_tables, table_named, with_table, SetsRowIn}
use Rattle.sx_txn.specs.Homes.{Homed, AreHomed, housed}

pub named_both : (own fresh : List NamedTable) (name : List ℕ) → table_named (own ++ fresh) name ≡ or_later (table_named own name) (table_named fresh name)
named_both [] fresh name = refl
named_both (t ∷ own) fresh name = by (same_name t.name name) (named_both own fresh name)
  where
    by : (b : Bool) → table_named (own ++ fresh) name ≡ or_later (table_named own name) (table_named fresh name) → cond b (Some t.table) (table_named (own ++ fresh) name) ≡ or_later (cond b (Some t.table) (table_named own name)) (table_named fresh name)
    by true rest = refl
    by false rest = rest

pub with_own : (own fresh : List NamedTable) (name : List ℕ) (old new : Relation) → table_named own name ≡ Some old → with_table (own ++ fresh) name new ≡ with_table own name new ++ fresh
with_own [] fresh name old new found = absurd (cc)
with_own (t ∷ own) fresh name old new found = by (same_name t.name name) found (λ rest. with_own own fresh name old new rest)
  where
    by : (b : Bool) → cond b (Some t.table) (table_named own name) ≡ Some old → (table_named own name ≡ Some old → with_table (own ++ fresh) name new ≡ with_table own name new ++ fresh)
        → cond b (record { name = t.name; table = new } ∷ (own ++ fresh)) (t ∷ with_table (own ++ fresh) name new) ≡ cond b (record { name = t.name; table = new } ∷ own) (t ∷ with_table own name new) ++ fresh
    by true here again = refl
    by false here again = ap (λ rest. t ∷ rest) (again here)

pub with_fresh : (own fresh : List NamedTable) (name : List ℕ) (new : Relation) → table_named own name ≡ None → with_table (own ++ fresh) name new ≡ own ++ with_table fresh name new
with_fresh [] fresh name new none = refl
with_fresh (t ∷ own) fresh name new none = by (same_name t.name name) none (λ rest. with_fresh own fresh name new rest)
  where
    by : (b : Bool) → cond b (Some t.table) (table_named own name) ≡ None → (table_named own name ≡ None → with_table (own ++ fresh) name new ≡ own ++ with_table fresh name new)
        → cond b (record { name = t.name; table = new } ∷ (own ++ fresh)) (t ∷ with_table (own ++ fresh) name new) ≡ t ∷ (own ++ with_table fresh name new)
    by true here again = absurd (cc)
    by false here again = ap (λ rest. t ∷ rest) (again here)

pub length-with : (tables : List NamedTable) (name : List ℕ) (new : Relation) → length (with_table tables name new) ≡ length tables
length-with [] name new = refl
length-with (t ∷ tables) name new = by (same_name t.name name) (length-with tables name new)
  where
    by : (b : Bool) → length (with_table tables name new) ≡ length tables → length (cond b (record { name = t.name; table = new } ∷ tables) (t ∷ with_table tables name new)) ≡ suc (length tables)
    by true rest = refl
    by false rest = ap suc rest

pub names-with : (tables : List NamedTable) (name : List ℕ) (new : Relation) → names_of_tables (with_table tables name new) ≡ names_of_tables tables
names-with [] name new = refl
names-with (t ∷ tables) name new = by (same_name t.name name) (names-with tables name new)
  where
    by : (b : Bool) → names_of_tables (with_table tables name new) ≡ names_of_tables tables → names_of_tables (cond b (record { name = t.name; table = new } ∷ tables) (t ∷ with_table tables name new)) ≡ t.name ∷ names_of_tables tables
    by true rest = refl
    by false rest = ap (λ names. t.name ∷ names) rest

-- a row set in a table, by whatever key the table gives it
abbrev pub SetsBy : List NamedTable → List NamedTable → List ℕ → (Relation → List Value) → Option (List Value × ℕ) → Type 0
SetsBy old new name key image = IsSomeAnd (table_named old name) (λ (before : Relation). SetsRowIn old new name before (key before) image)

-- a row set in a declared table
pub sets_own : (own now fresh : List NamedTable) (name : List ℕ) (key : Relation → List Value) (image : Option (List Value × ℕ)) → SetsBy own now name key image → SetsBy (own ++ fresh) (now ++ fresh) name key image
sets_own own now fresh name key image sets = by (table_named own name) refl sets
  where
    by : (o : Option Relation) → table_named own name ≡ o → IsSomeAnd o (λ (before : Relation). SetsRowIn own now name before (key before) image) → SetsBy (own ++ fresh) (now ++ fresh) name key image
    by None is none = absurd none
    by (Some t) is one =
        rw (named_both own fresh name, is) (record { after = one.after; sets = one.sets; others = ap (λ ts. ts ++ fresh) one.others ∙ sym (with_own own fresh name t one.after is) })

-- a row set in a new table
pub sets_fresh : (own fresh now : List NamedTable) (name : List ℕ) (key : Relation → List Value) (image : Option (List Value × ℕ)) → table_named own name ≡ None → SetsBy fresh now name key image → SetsBy (own ++ fresh) (own ++ now) name key image
sets_fresh own fresh now name key image none sets = by (table_named fresh name) refl sets
  where
    by : (o : Option Relation) → table_named fresh name ≡ o → IsSomeAnd o (λ (before : Relation). SetsRowIn fresh now name before (key before) image) → SetsBy (own ++ fresh) (own ++ now) name key image
    by None is missing = absurd missing
    by (Some t) is one =
        rw (named_both own fresh name, none, is) (record { after = one.after; sets = one.sets; others = ap (λ ts. own ++ ts) one.others ∙ sym (with_fresh own fresh name one.after none) })

-- what holds of the table of a name among both holds of it where it is found
pub of_own : (P : Relation → Type 0) (own fresh : List NamedTable) (name : List ℕ) (m : Homed) → housed own fresh ≡ m → is_some (table_named own name) ≡ true → IsSomeAnd (table_named m.all name) P → IsSomeAnd (table_named own name) P
of_own P own fresh name m view is holds = by (table_named own name) refl is (subst (λ (x : Homed). IsSomeAnd (table_named x.all name) P) (sym view) holds)
  where
    by : (o : Option Relation) → table_named own name ≡ o → is_some o ≡ true → IsSomeAnd (table_named (own ++ fresh) name) P → IsSomeAnd o P
    by None e none has = absurd (false≢true none)
    by (Some t) e there has = subst (λ o. IsSomeAnd o P) (named_both own fresh name ∙ ap (λ o. or_later o (table_named fresh name)) e) has

missing : (o : Option Relation) → is_some o ≡ false → o ≡ None
missing None e = refl
missing (Some t) e = absurd (false≢true (sym e))

pub of_fresh : (P : Relation → Type 0) (own fresh : List NamedTable) (name : List ℕ) (m : Homed) → housed own fresh ≡ m → is_some (table_named own name) ≡ false → IsSomeAnd (table_named m.all name) P → IsSomeAnd (table_named fresh name) P
of_fresh P own fresh name m view is holds =
    subst (λ o. IsSomeAnd o P) (named_both own fresh name ∙ ap (λ o. or_later o (table_named fresh name)) (missing (table_named own name) is)) (subst (λ (x : Homed). IsSomeAnd (table_named x.all name) P) (sym view) holds)

-- a call that sets a row, or was refused and left all as it was
pub record HomeStep (old new : Homed) (name : List ℕ) (key : Relation → List Value) (image : Option (List Value × ℕ)) (result : Result (Unit {0}) AllocError) : Type 0 where
  pub homed : AreHomed new
  pub own : new.own ≡ old.own
  pub ok : OnOk result (SetsBy old.all new.all name key image)

names_set : (old new : List NamedTable) (name : List ℕ) (key : Relation → List Value) (image : Option (List Value × ℕ)) → SetsBy old new name key image → names_of_tables new ≡ names_of_tables old
names_set old new name key image sets = by (table_named old name) sets
  where
    by : (o : Option Relation) → IsSomeAnd o (λ (before : Relation). SetsRowIn old new name before (key before) image) → names_of_tables new ≡ names_of_tables old
    by None none = absurd none
    by (Some t) one = ap names_of_tables one.others ∙ names-with old name one.after

length_names : (tables : List NamedTable) → length (names_of_tables tables) ≡ length tables
length_names [] = refl
length_names (t ∷ tables) = ap suc (length_names tables)

same_length : (old new : List NamedTable) → names_of_tables new ≡ names_of_tables old → length new ≡ length old
same_length old new same = sym (length_names new) ∙ ap length same ∙ length_names old

names_both : (own fresh : List NamedTable) → names_of_tables (own ++ fresh) ≡ names_of_tables own ++ names_of_tables fresh
names_both own fresh = map-append (λ (t : NamedTable). t.name) own fresh

-- tables of the same names
homed_as : (own fresh own' fresh' : List NamedTable) → names_of_tables own' ≡ names_of_tables own → names_of_tables fresh' ≡ names_of_tables fresh → AreHomed (housed own fresh) → AreHomed (housed own' fresh')
homed_as own fresh own' fresh' one other homed =
    let names : names_of_tables (own' ++ fresh') ≡ names_of_tables (own ++ fresh) = names_both own' fresh' ∙ ap (λ names. names ++ names_of_tables fresh') one ∙ ap (λ names. names_of_tables own ++ names) other ∙ sym (names_both own fresh) in
    let long = same_length (own ++ fresh) (own' ++ fresh') names in
    let few = same_length own own' one in
    record { apart = subst (IsDistinct same_name) (sym names) homed.apart; few = omega (arith, homed.few) }

pub own_step : (own now fresh : List NamedTable) (m : Homed) (name : List ℕ) (key : Relation → List Value) (image : Option (List Value × ℕ)) (result : Result (Unit {0}) AllocError) → housed own fresh ≡ m → AreHomed (housed own fresh)
    → OnOk result (SetsBy own now name key image) → OnErr result (now ≡ own) → HomeStep m (housed now fresh) name key image result
own_step own now fresh m name key image (Ok done) view homed sets same =
    let names = names_set own now name key image sets in
    subst (λ (x : Homed). HomeStep x (housed now fresh) name key image (Ok done)) view (record { homed = homed_as own fresh now fresh names refl homed; own = same_length own now names; ok = sets_own own now fresh name key image sets })
own_step own now fresh m name key image (Err fault) view homed sets same =
    subst (λ (x : Homed). HomeStep x (housed now fresh) name key image (Err fault)) view (record { homed = rw same homed; own = ap length same; ok = tt })

pub fresh_step : (own fresh now : List NamedTable) (m : Homed) (name : List ℕ) (key : Relation → List Value) (image : Option (List Value × ℕ)) (result : Result (Unit {0}) AllocError) → housed own fresh ≡ m → AreHomed (housed own fresh)
    → is_some (table_named own name) ≡ false → OnOk result (SetsBy fresh now name key image) → OnErr result (now ≡ fresh) → HomeStep m (housed own now) name key image result
fresh_step own fresh now m name key image (Ok done) view homed none sets same =
    let names = names_set fresh now name key image sets in
    subst (λ (x : Homed). HomeStep x (housed own now) name key image (Ok done)) view (record { homed = homed_as own fresh own now refl names homed; own = refl; ok = sets_fresh own fresh now name key image (missing (table_named own name) none) sets })
fresh_step own fresh now m name key image (Err fault) view homed none sets same =
    subst (λ (x : Homed). HomeStep x (housed own now) name key image (Err fault)) view (record { homed = rw same homed; own = refl; ok = tt })

-- the declared tables alone
pub homed_alone : (own fresh : List NamedTable) → AreHomed (housed own fresh) → AreHomed (housed own [])
unfolding IsDistinct
homed_alone own fresh homed = record { apart = front own homed.apart; few = few own }
  where
    few : (own : List NamedTable) → length own ≤ length (own ++ [])
    few [] = omega arith
    few (t ∷ own) = let rest = few own in omega arith

    others : (name : List ℕ) (own : List NamedTable) → AllByRecursion (λ other. same_name name other ≡ false) (names_of_tables (own ++ fresh)) → AllByRecursion (λ other. same_name name other ≡ false) (names_of_tables (own ++ []))
    others name [] all = tt
    others name (t ∷ own) all = (all.0, others name own all.1)

    front : (own : List NamedTable) → AreNamedApart (own ++ fresh) → AreNamedApart (own ++ [])
    front [] all = tt
    front (t ∷ own) all = (others t.name own all.0, front own all.1)

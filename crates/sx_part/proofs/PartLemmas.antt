-- One key set in the image of a horizontal split.
use Rattle.std.proofs.Common.{◌≡◌, ◌||◌, ◌++◌, ◌∷◌, [], ℕ, List, Bool, true, false, not, Option, Some, None, is_some, refl, sym, ap, ◌∙◌, cond}
use Rattle.sx_lists.specs.Answers.{or_later}
use Rattle.sx_values.specs.declared.value.Value.{Value}
use Rattle.sx_values.specs.declared.catalog.Declared.{Declared}
use Rattle.sx_values.specs.Names.{same_name}
use Rattle.sx_values.specs.Values.{values_eq}
use Rattle.sx_values.specs.Layouts.{Layout}
use Rattle.sx_log.specs.State.{Stored, stored}
use Rattle.sx_log.specs.Copies.{after_reading}
use Rattle.sx_log.specs.declared.record.Body.{Body}
use Rattle.sx_log.specs.declared.record.Body.TheVariants.{Write, Undo, Commit, Abort, Mark, Check, Switch}
use Rattle.sx_heap.specs.declared.seen.Seen.{Seen}
use Rattle.sx_heap.specs.Relations.{Relation, SetsRow, row_at, same_key}
use Rattle.sx_ops.specs.declared.spec.SpecFault.{SpecFault}
use Rattle.sx_ops.specs.declared.spec.Test.{Test}
use Rattle.sx_ops.specs.Checks.{part_fault, column_fault, types_fault, names_fault, is_known}
use Rattle.sx_copy.specs.declared.change.Change.{Change}
use Rattle.sx_copy.specs.Readings.{learnt}
use Rattle.sx_copy.specs.Changes.{Tells, behind, takes}
use Rattle.sx_copy.proofs.CopyLemmas.{behind_at, own_change, reading_taken}
use Rattle.sx_copy.proofs.CopyLemmas as copy
use Rattle.sx_part.specs.declared.parts.Parts.{Parts}
use Rattle.sx_part.specs.declared.stamps.Stamps.{Stamps}
use Rattle.sx_part.specs.PartImages.{IsParted, SameMaking, SetsKey, LearnsReadings, FollowsChange, FitsTable, FitsBody, image_at, passing_of, failing_of, belongs}
use Rattle.sx_part.specs.Stamping.{AreStamps, lsn_of, stamp_of, takes_stamp}

-- each image is in the table to which it belongs
whole : (parts : Parts) (image : Option Stored) → or_later (passing_of parts image) (failing_of parts image) ≡ image
whole parts None = refl
whole parts (Some s) = by (belongs parts s.0)
  where
    by : (b : Bool) → or_later (cond b (Some s) None) (cond b None (Some s)) ≡ Some s
    by true = refl
    by false = refl

-- both tables set at one key
pub sets_both : (old new : Parts) (key : List Value) (image : Option Stored) → SameMaking old new → new.position ≡ old.position → SetsRow old.passing new.passing key (passing_of old image) → SetsRow old.failing new.failing key (failing_of old image) → SetsKey key image old new
sets_both old new key image made position one other = record {
  made = made;
  position = position;
  at_keys = λ at. ap (λ a. or_later a (row_at new.failing.rows at)) (one.at_keys at) ∙ ap (or_later (cond (same_key key at) (passing_of old image) (row_at old.passing.rows at))) (other.at_keys at) ∙ by at (same_key key at);
}
  where
    by : (at : List Value) (b : Bool) → or_later (cond b (passing_of old image) (row_at old.passing.rows at)) (cond b (failing_of old image) (row_at old.failing.rows at)) ≡ cond b image (image_at old at)
    by at true = whole old image
    by at false = refl

belongs_as : (old new : Parts) → SameMaking old new → (row : List Value) → belongs new row ≡ belongs old row
belongs_as old new made row = ap (λ (schema : Layout). belongs (record new { passing = record { schema = schema; rows = new.passing.rows } }) row) made.schema ∙ ap (λ tests. belongs (record old { tests = tests }) row) made.tests

passing_as : (old new : Parts) → SameMaking old new → (image : Option Stored) → passing_of new image ≡ passing_of old image
passing_as old new made None = refl
passing_as old new made (Some s) = ap (λ b. cond b (Some s) None) (belongs_as old new made s.0)

failing_as : (old new : Parts) → SameMaking old new → (image : Option Stored) → failing_of new image ≡ failing_of old image
failing_as old new made None = refl
failing_as old new made (Some s) = ap (λ b. cond b None (Some s)) (belongs_as old new made s.0)

-- and the image is parted as before
pub parted_both : (old new : Parts) (key : List Value) (image : Option Stored) → IsParted old → SetsKey key image old new → SetsRow old.passing new.passing key (passing_of old image) → SetsRow old.failing new.failing key (failing_of old image) → IsParted new
parted_both old new key image parted sets one other = record {
  one_schema = other.same_schema ∙ parted.one_schema ∙ sym one.same_schema;
  passing = λ at. one.at_keys at ∙ by at (passing_of old) (row_at old.passing.rows) (parted.passing at) (same_key key at) ∙ sym (passing_as old new sets.made (image_at new at) ∙ ap (passing_of old) (there at));
  failing = λ at. other.at_keys at ∙ by at (failing_of old) (row_at old.failing.rows) (parted.failing at) (same_key key at) ∙ sym (failing_as old new sets.made (image_at new at) ∙ ap (failing_of old) (there at));
  names = ap (λ yes. same_name yes new.no) sets.made.yes ∙ ap (same_name old.yes) sets.made.no ∙ parted.names;
}
  where
    there : (at : List Value) → image_at new at ≡ cond (same_key key at) image (image_at old at)
    there at = sets.at_keys at

    by : (at : List Value) (of : Option Stored → Option Stored) (has : List Value → Option Stored) → has at ≡ of (image_at old at) → (b : Bool) → cond b (of image) (has at) ≡ of (cond b image (image_at old at))
    by at of has here true = refl
    by at of has here false = here

-- a key that keeps what it has
pub keeps : (parts : Parts) (key : List Value) → SetsKey key (image_at parts key) parts parts
keeps parts key = record {
  made = record { source = refl; tests = refl; yes = refl; no = refl; schema = refl };
  position = refl;
  at_keys = λ at. by at (values_eq key at) refl;
}
  where
    by : (at : List Value) (b : Bool) → values_eq key at ≡ b → image_at parts at ≡ cond b (image_at parts key) (image_at parts at)
    by at true h = sym (ap (image_at parts) (copy.same_key key at h))
    by at false h = refl

lsn_of-or : (one other : Option Stored) → or_later (lsn_of one) (lsn_of other) ≡ lsn_of (or_later one other)
lsn_of-or None other = refl
lsn_of-or (Some s) other = refl

taken_as : (lsn : ℕ) (where_absent : Bool) (known : Option Stored) → takes_stamp lsn where_absent (lsn_of known) ≡ takes lsn where_absent known
taken_as lsn where_absent None = refl
taken_as lsn where_absent (Some known) = refl

-- what is taken by the stamps of a key is taken by what the copy has
pub takes_key : (parts : Parts) (key : List Value) (stamps : Stamps) (lsn : ℕ) (where_absent : Bool) → AreStamps parts key stamps → takes_stamp lsn where_absent (stamp_of stamps) ≡ takes lsn where_absent (image_at parts key)
takes_key parts key stamps lsn where_absent are =
    ap (λ a. takes_stamp lsn where_absent (or_later a stamps.failing)) are.passing
    ∙ ap (λ b. takes_stamp lsn where_absent (or_later (lsn_of (row_at parts.passing.rows key)) b)) are.failing
    ∙ ap (takes_stamp lsn where_absent) (lsn_of-or (row_at parts.passing.rows key) (row_at parts.failing.rows key))
    ∙ taken_as lsn where_absent (image_at parts key)

-- a reading that isn't taken leaves the image
pub unread : (parts : Parts) (seen : Seen) → takes seen.lsn true (image_at parts seen.key) ≡ false → SetsKey seen.key (after_reading (seen.row, seen.lsn) (image_at parts seen.key)) parts parts
unread parts seen e = rw (reading_taken (seen.row, seen.lsn) (image_at parts seen.key), e) (keeps parts seen.key)

-- one that is taken sets its row
pub read : (old new : Parts) (seen : Seen) → takes seen.lsn true (image_at old seen.key) ≡ true → SetsKey seen.key (Some (seen.row, seen.lsn)) old new → SetsKey seen.key (after_reading (seen.row, seen.lsn) (image_at old seen.key)) old new
read old new seen e sets = rw (reading_taken (seen.row, seen.lsn) (image_at old seen.key), e) sets

same_as : (old mid new : Parts) → SameMaking old mid → SameMaking mid new → SameMaking old new
same_as old mid new one other = record {
  source = other.source ∙ one.source;
  tests = other.tests ∙ one.tests;
  yes = other.yes ∙ one.yes;
  no = other.no ∙ one.no;
  schema = other.schema ∙ one.schema;
}

-- no reading leaves the image
pub learns_none : (parts : Parts) → LearnsReadings [] parts parts
learns_none parts = record { made = record { source = refl; tests = refl; yes = refl; no = refl; schema = refl }; position = refl; at_keys = λ key. refl }

-- one reading more
pub learns_next : (seen : List Seen) (next : Seen) (old mid new : Parts) → LearnsReadings seen old mid → SetsKey next.key (after_reading (next.row, next.lsn) (image_at mid next.key)) mid new → LearnsReadings (seen ++ next ∷ []) old new
learns_next seen next old mid new learns sets = record {
  made = same_as old mid new learns.made sets.made;
  position = sets.position ∙ learns.position;
  at_keys = λ key. sets.at_keys key ∙ by key (values_eq next.key key) refl ∙ ap (learnt next key) (learns.at_keys key) ∙ sym (copy.merged-push seen next key (image_at old key));
}
  where
    by : (key : List Value) (b : Bool) → values_eq next.key key ≡ b → cond b (after_reading (next.row, next.lsn) (image_at mid next.key)) (image_at mid key) ≡ learnt next key (image_at mid key)
    by key true h = rw h (ap (λ k. after_reading (next.row, next.lsn) (image_at mid k)) (copy.same_key next.key key h))
    by key false h = rw h refl

-- a change of the source, by what it makes of its key
pub follows : (c : Change) (old new : Parts) (image : Option Stored) → SetsKey c.key.now image old new → image ≡ behind (Some c) old.source c.key.now (image_at old c.key.now) → FollowsChange c old new
follows c old new image sets is = record {
  made = sets.made;
  position = sets.position;
  at_keys = λ key. sets.at_keys key ∙ behind_at c old.source (image_at old) image key is;
}

own : (c : Change) (parts : Parts) → same_name c.table.now parts.source ≡ true → behind (Some c) parts.source c.key.now (image_at parts c.key.now) ≡ cond (takes c.lsn (copy.not_there c) (image_at parts c.key.now)) (stored c.lsn c.after.now) (image_at parts c.key.now)
own c parts here = own_change c parts.source (image_at parts c.key.now) ∙ rw here refl

-- one that isn't taken leaves the image
pub unfollowed : (c : Change) (parts : Parts) → same_name c.table.now parts.source ≡ true → takes c.lsn (copy.not_there c) (image_at parts c.key.now) ≡ false → FollowsChange c parts parts
unfollowed c parts here e = follows c parts parts (image_at parts c.key.now) (keeps parts c.key.now) (sym (own c parts here ∙ rw e refl))

-- one that is taken sets its image
pub followed : (c : Change) (old new : Parts) → same_name c.table.now old.source ≡ true → takes c.lsn (copy.not_there c) (image_at old c.key.now) ≡ true → SetsKey c.key.now (stored c.lsn c.after.now) old new → FollowsChange c old new
followed c old new here e sets = follows c old new (stored c.lsn c.after.now) sets (sym (own c old here ∙ rw e refl))

twice_not : (b : Bool) → not (not b) ≡ b
twice_not true = refl
twice_not false = refl

-- whether a change is taken, by the stamps of its key
pub takes_change : (parts : Parts) (c : Change) (stamps : Stamps) (none b : Bool) → is_some c.before.now ≡ not none → AreStamps parts c.key.now stamps → b ≡ takes_stamp c.lsn none (stamp_of stamps) → takes c.lsn (copy.not_there c) (image_at parts c.key.now) ≡ b
takes_change parts c stamps none b there are is =
    ap (λ absent. takes c.lsn absent (image_at parts c.key.now)) (ap not there ∙ twice_not none) ∙ sym (is ∙ takes_key parts c.key.now stamps c.lsn none are)

pub not_other : (b : Bool) → false ≡ not b → b ≡ true
not_other true e = refl
not_other false e = e

-- what fits a record fits the change that it tells
pub fits_change : (schema : Layout) (source : List ℕ) (body : Body) (c : Change) → FitsBody schema source body → Tells body c → FitsTable schema source c.table.now c.key.now c.before.now c.after.now
unfolding FitsBody Tells
fits_change schema source (Write table key before after) c fits is = rw (is.table, is.key, is.before, is.after) fits
fits_change schema source (Undo undoes table key before after) c fits is = rw (is.table, is.key, is.before, is.after) fits
fits_change schema source Commit c fits is = absurd is
fits_change schema source Abort c fits is = absurd is
fits_change schema source Mark c fits is = absurd is
fits_change schema source (Check group dep) c fits is = absurd is
fits_change schema source Switch c fits is = absurd is

-- a key that a table lacks isn't set by leaving it
pub left_out : (table : Relation) (key : List Value) → is_some (row_at table.rows key) ≡ false → SetsRow table table key None
left_out table key e = record { same_schema = refl; at_keys = λ other. by other (same_key key other) refl }
  where
    lacks : (known : Option Stored) → is_some known ≡ false → known ≡ None
    lacks None h = refl
    lacks (Some s) h = absurd (cc)

    by : (other : List Value) (b : Bool) → same_key key other ≡ b → row_at table.rows other ≡ cond b None (row_at table.rows other)
    by other true h = sym (ap (row_at table.rows) (copy.same_key key other h)) ∙ lacks (row_at table.rows key) e
    by other false h = refl

-- the image before the first reading
pub parted_new : (parts : Parts) → parts.failing.schema ≡ parts.passing.schema → parts.passing.rows ≡ [] → parts.failing.rows ≡ [] → same_name parts.yes parts.no ≡ false → IsParted parts
parted_new parts schema one other names = record {
  one_schema = schema;
  passing = λ key. rw (one, other) refl;
  failing = λ key. rw (one, other) refl;
  names = names;
}

later_none : (earlier later : Option SpecFault) → or_later earlier later ≡ None → later ≡ None
later_none (Some fault) later none = absurd (cc)
later_none None later none = none

neither_taken : (taken again same : Bool) (first second : SpecFault) → cond taken (Some first) (cond (again || same) (Some second) None) ≡ None → same ≡ false
neither_taken true again same first second none = absurd (cc)
neither_taken false true same first second none = absurd (cc)
neither_taken false false true first second none = absurd (cc)
neither_taken false false false first second none = refl

-- a split that fits gives its new tables different names
pub names_differ : (catalog : List Declared) (source : Option Layout) (table : List ℕ) (tests : List Test) (passing failing : List ℕ) → part_fault catalog source table tests passing failing ≡ None → same_name passing failing ≡ false
names_differ catalog None table tests passing failing none = absurd (cc)
names_differ catalog (Some schema) table tests passing failing none =
    let names = later_none (types_fault 1 schema.columns tests) (names_fault catalog passing failing) (later_none (column_fault schema.columns tests) _ none) in
    neither_taken (is_known catalog passing) (is_known catalog failing) (same_name passing failing) _ _ names

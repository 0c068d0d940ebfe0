-- One key of one side set in a copy, and what a change makes of it there.
use Rattle.std.proofs.Common.{◌≡◌, ◌&&◌, ◌++◌, ◌∷◌, [], ℕ, zero, suc, List, Bool, true, false, not, filter, Option, Some, None, Result, Ok, Err, OnOk, OnErr, is_some, arith, refl, sym, ap, ◌∙◌, cond}
use Rattle.std.specs.Bool.{◌==◌}
use Rattle.std.specs.declared.alloc.AllocError.{AllocError}
use Rattle.std.specs.Cmp.{Equal-is}
use Rattle.std.specs.Cmp.Lexicographic.{pointwise, lists_ties}
use Rattle.std.proofs.lemmas.Bool.{and_parts}
use Rattle.std.proofs.lemmas.Bool.Decides.{nat_tests}
use Rattle.sx_values.specs.declared.value.Value.{Value}
use Rattle.sx_values.specs.Names.{same_name}
use Rattle.sx_values.specs.Values.{value_cmp, value_eq, values_eq, values_cmp}
use Rattle.sx_values.proofs.KeyLaws.{values_tie, values_cmp-refl}
use Rattle.sx_log.specs.State.{Stored, stored}
use Rattle.sx_heap.specs.declared.seen.Seen.{Seen}
use Rattle.sx_log.specs.Copies.{after_reading, redo, copied, copied_on}
use Rattle.sx_log.specs.declared.record.Body.{Body}
use Rattle.sx_copy.specs.declared.list.CopyRow.{CopyRow}
use Rattle.sx_copy.specs.declared.list.Step.{Step}
use Rattle.sx_copy.specs.CopyLists.{is_at, copy_at, SetsKey, Merges}
use Rattle.sx_copy.specs.Readings.{learnt, merged}
use Rattle.sx_copy.specs.declared.change.Change.{Change}
use Rattle.sx_copy.specs.Changes.{takes, behind, behind_own, is_changed, behind_on, stepped, AreSides}

-- whether this key of this side is that one of that side
abbrev pub is_this : ℕ → List Value → ℕ → List Value → Bool
is_this side key other at = (side == other) && values_eq key at

-- `==` of keys and their order agree
pub key_is : (key place : List Value) → pointwise value_eq key place ≡ values_eq key place
key_is key place = lists_ties {E = value_eq} value_cmp (λ v w. refl) key place

-- a row of the same side and of a key
pub row_is : (side other : ℕ) (key place : List Value) → side ≡ other → pointwise value_eq key place ≡ ((side == other) && values_eq key place)
row_is side other key place e = let test : (side == other) ≡ true = grind (arith, nat_tests) in rw test (key_is key place)

pub same_key : (key place : List Value) → values_eq key place ≡ true → key ≡ place
same_key key place e = values_tie key place ((Equal-is (values_cmp key place)).0 e)

pub same_side : (side other : ℕ) → (side == other) ≡ true → side ≡ other
same_side side other e = grind (arith, nat_tests)

-- a row that is at one place is at another exactly where the places are one
moved : (r : CopyRow) (side : ℕ) (key : List Value) (other : ℕ) (at : List Value) → is_at side key r ≡ true → is_at other at r ≡ is_this side key other at
moved r side key other at h =
    let parts = and_parts (r.side == side) (values_eq r.key key) h in
    ap (λ s. (s == other) && values_eq r.key at) (same_side r.side side parts.0) ∙ ap (λ k. (side == other) && values_eq k at) (same_key r.key key parts.1)

-- places that are one: a row that isn't at the one isn't at the other
kept_away : (r : CopyRow) (side : ℕ) (key : List Value) (other : ℕ) (at : List Value) → is_this side key other at ≡ true → is_at other at r ≡ is_at side key r
kept_away r side key other at h =
    let parts = and_parts (side == other) (values_eq key at) h in
    sym (ap (λ s. (r.side == s) && values_eq r.key key) (same_side side other parts.0) ∙ ap (λ k. (r.side == other) && values_eq r.key k) (same_key key at parts.1))

-- without the rows of a key of a side
abbrev pub without_key : ℕ → List Value → List CopyRow → List CopyRow
without_key side key rows = filter (λ (r : CopyRow). not (is_at side key r)) rows

taken_out_by : (r : CopyRow) (rows : List CopyRow) (side : ℕ) (key : List Value) (other : ℕ) (at : List Value) → copy_at (without_key side key rows) other at ≡ cond (is_this side key other at) None (copy_at rows other at) → (b : Bool) → is_at side key r ≡ b → (hit : Bool) → is_this side key other at ≡ hit → copy_at (cond (not b) (r ∷ without_key side key rows) (without_key side key rows)) other at ≡ cond hit None (copy_at (r ∷ rows) other at)
taken_out_by r rows side key other at rest true h true k = rest ∙ rw k refl
taken_out_by r rows side key other at rest true h false k = rest ∙ rw (k, moved r side key other at h ∙ k) refl
taken_out_by r rows side key other at rest false h true k = rw (kept_away r side key other at k ∙ h) (rest ∙ rw k refl)
taken_out_by r rows side key other at rest false h false k = ap (cond (is_at other at r) (Some (r.row, r.lsn))) (rest ∙ rw k refl)

pub taken_out : (rows : List CopyRow) (side : ℕ) (key : List Value) → SetsKey side key None rows (without_key side key rows)
taken_out [] side key other at = by (is_this side key other at)
  where
    by : (b : Bool) → copy_at [] other at ≡ cond b None (copy_at [] other at)
    by true = refl
    by false = refl
taken_out (r ∷ rows) side key other at = taken_out_by r rows side key other at (taken_out rows side key other at) (is_at side key r) refl (is_this side key other at) refl

-- what the last row brings is found where no row before it is at the place
abbrev pub first_of : Option Stored → Option Stored → Option Stored
first_of None later = later
first_of (Some found) later = Some found

append_by : (s : CopyRow) (rows : List CopyRow) (r : CopyRow) (side : ℕ) (key : List Value) (b : Bool) → copy_at (rows ++ r ∷ []) side key ≡ first_of (copy_at rows side key) (copy_at (r ∷ []) side key) → cond b (Some (s.row, s.lsn)) (copy_at (rows ++ r ∷ []) side key) ≡ first_of (cond b (Some (s.row, s.lsn)) (copy_at rows side key)) (copy_at (r ∷ []) side key)
append_by s rows r side key true h = refl
append_by s rows r side key false h = h

pub copy_at-append : (rows : List CopyRow) (r : CopyRow) (side : ℕ) (key : List Value) → copy_at (rows ++ r ∷ []) side key ≡ first_of (copy_at rows side key) (copy_at (r ∷ []) side key)
copy_at-append [] r side key = refl
copy_at-append (s ∷ rows) r side key = append_by s rows r side key (is_at side key s) (copy_at-append rows r side key)

-- a row that is put at the end in the place of those of its key
pub put_last : (rows left : List CopyRow) (r : CopyRow) (side : ℕ) (key : List Value) → SetsKey side key None rows left → is_at side key r ≡ true → SetsKey side key (Some (r.row, r.lsn)) rows (left ++ r ∷ [])
put_last rows left r side key h here other at =
    copy_at-append left r other at ∙ ap (λ o. first_of o (copy_at (r ∷ []) other at)) (h other at) ∙ rw (moved r side key other at here) (by (is_this side key other at) (copy_at rows other at))
  where
    by : (hit : Bool) (known : Option Stored) → first_of (cond hit None known) (cond hit (Some (r.row, r.lsn)) None) ≡ cond hit (Some (r.row, r.lsn)) known
    by true known = refl
    by false None = refl
    by false (Some known) = refl

-- a key that keeps what it has
pub kept_so : (rows : List CopyRow) (side : ℕ) (key : List Value) → SetsKey side key (copy_at rows side key) rows rows
kept_so rows side key other at = by (is_this side key other at) refl
  where
    by : (hit : Bool) → is_this side key other at ≡ hit → copy_at rows other at ≡ cond hit (copy_at rows side key) (copy_at rows other at)
    by true h =
        let parts = and_parts (side == other) (values_eq key at) h in
        sym (ap (λ s. copy_at rows s key) (same_side side other parts.0) ∙ ap (copy_at rows other) (same_key key at parts.1))
    by false h = refl

-- a row is that of its own key and side
pub own_place : (side : ℕ) (key : List Value) → ((side == side) && values_eq key key) ≡ true
own_place side key = let test : (side == side) ≡ true = grind (arith, nat_tests) in rw (test, values_cmp-refl key) refl

-- a reading is merged where it is taken
pub reading_taken : (read : Stored) (known : Option Stored) → after_reading read known ≡ cond (takes read.1 true known) (Some read) known
reading_taken read None = refl
reading_taken read (Some known) = refl

-- a change is redone where it is taken
pub change_taken : (lsn : ℕ) (before after : Option (List Value)) (known : Option Stored) → redo lsn before after known ≡ cond (takes lsn (not (is_some before)) known) (stored lsn after) known
change_taken lsn None after None = refl
change_taken lsn (Some row) after None = refl
change_taken lsn before after (Some known) = refl

-- a reading that isn't taken leaves the copy
pub kept_reading : (rows : List CopyRow) (side : ℕ) (seen : Seen) → takes seen.lsn true (copy_at rows side seen.key) ≡ false → SetsKey side seen.key (after_reading (seen.row, seen.lsn) (copy_at rows side seen.key)) rows rows
kept_reading rows side seen e = rw (reading_taken (seen.row, seen.lsn) (copy_at rows side seen.key), e) (kept_so rows side seen.key)

-- no reading is merged yet
pub merges_none : (side : ℕ) (rows : List CopyRow) → Merges side [] rows rows
merges_none side rows other key = by (side == other)
  where
    by : (b : Bool) → copy_at rows other key ≡ cond b (copy_at rows other key) (copy_at rows other key)
    by true = refl
    by false = refl

pub merged-push : (seen : List Seen) (s : Seen) (key : List Value) (known : Option Stored) → merged (seen ++ s ∷ []) key known ≡ learnt s key (merged seen key known)
merged-push [] s key known = refl
merged-push (t ∷ seen) s key known = merged-push seen s key (learnt t key known)

-- one reading more
pub merges_next : (side : ℕ) (seen : List Seen) (s : Seen) (old mid new : List CopyRow) → Merges side seen old mid → SetsKey side s.key (after_reading (s.row, s.lsn) (copy_at mid side s.key)) mid new → Merges side (seen ++ s ∷ []) old new
merges_next side seen s old mid new before sets other key = sets other key ∙ by (side == other) refl (values_eq s.key key) refl
  where
    by : (b : Bool) → (side == other) ≡ b → (e : Bool) → values_eq s.key key ≡ e → cond (b && e) (after_reading (s.row, s.lsn) (copy_at mid side s.key)) (copy_at mid other key) ≡ cond b (merged (seen ++ s ∷ []) key (copy_at old other key)) (copy_at old other key)
    by false h true k = before other key ∙ rw h refl
    by false h false k = before other key ∙ rw h refl
    by true h false k = before other key ∙ rw (h, merged-push seen s key (copy_at old other key), k) refl
    by true h true k =
        let here : copy_at mid side s.key ≡ copy_at mid other key = ap (λ n. copy_at mid n s.key) (same_side side other h) ∙ ap (copy_at mid other) (same_key s.key key k) in
        rw (merged-push seen s key (copy_at old other key), k) (ap (after_reading (s.row, s.lsn)) (here ∙ before other key ∙ rw h refl))

-- what a change makes of each key of one side, from what it makes of its own
pub behind_at : (c : Change) (table : List ℕ) (has : List Value → Option Stored) (image : Option Stored) (key : List Value) → image ≡ behind (Some c) table c.key.now (has c.key.now) → cond (values_eq c.key.now key) image (has key) ≡ behind (Some c) table key (has key)
behind_at c table has image key is = by (values_eq c.key.now key) refl (same_name c.table.now table) refl
  where
    by : (e : Bool) → values_eq c.key.now key ≡ e → (b : Bool) → same_name c.table.now table ≡ b → cond e image (has key) ≡ cond (b && e) (redo c.lsn c.before.now c.after.now (has key)) (has key)
    by false h true k = refl
    by false h false k = refl
    by true h b k =
        let same = same_key c.key.now key h in
        is ∙ ap (λ q. behind (Some c) table q (has q)) same ∙ rw (k, h) refl

-- whether a change finds no row
abbrev pub not_there : Change → Bool
not_there c = not (is_some c.before.now)

-- what a change makes of its own key, by whether it is taken
pub own_change : (c : Change) (table : List ℕ) (known : Option Stored) → behind (Some c) table c.key.now known ≡ cond (is_changed c table known) (stored c.lsn c.after.now) known
own_change c table known = rw (values_cmp-refl c.key.now) (by (same_name c.table.now table))
  where
    by : (b : Bool) → cond (b && true) (redo c.lsn c.before.now c.after.now known) known ≡ cond (b && takes c.lsn (not (is_some c.before.now)) known) (stored c.lsn c.after.now) known
    by true = change_taken c.lsn c.before.now c.after.now known
    by false = refl

pub untaken : (c : Change) (table : List ℕ) (known : Option Stored) → is_changed c table known ≡ false → known ≡ behind (Some c) table c.key.now known
untaken c table known e = sym (own_change c table known ∙ rw e refl)

pub taken : (c : Change) (table : List ℕ) (known image : Option Stored) → is_changed c table known ≡ true → image ≡ stored c.lsn c.after.now → image ≡ behind (Some c) table c.key.now known
taken c table known image e h = h ∙ sym (own_change c table known ∙ rw e refl)

-- the second step finds on its side what was there before the first
past_first : (old mid : List CopyRow) (key : List Value) (image : Option Stored) (step : Step) → SetsKey 0 key image old mid → stepped step (copy_at mid 1 key) ≡ stepped step (copy_at old 1 key)
past_first old mid key image step sets = ap (stepped step) (sets 1 key)

pub redo_sides : (c : Change) (old mid new : List CopyRow) (first : List ℕ) (second : Option (List ℕ)) (tables : List (List ℕ)) (on_first on_second : Step) → AreSides tables first second → stepped on_first (copy_at old 0 c.key.now) ≡ behind (Some c) first c.key.now (copy_at old 0 c.key.now) → stepped on_second (copy_at old 1 c.key.now) ≡ behind_own c second (copy_at old 1 c.key.now) → SetsKey 0 c.key.now (stepped on_first (copy_at old 0 c.key.now)) old mid → SetsKey 1 c.key.now (stepped on_second (copy_at mid 1 c.key.now)) mid new → (side : ℕ) (key : List Value) → copy_at new side key ≡ behind_on (Some c) tables side key (copy_at old side key)
redo_sides c old mid new first None tables on_first on_second are one two sets0 sets1 zero key =
    sets1 0 key ∙ sets0 0 key ∙ behind_at c first (copy_at old 0) (stepped on_first (copy_at old 0 c.key.now)) key one ∙ rw are refl
redo_sides c old mid new first (Some second) tables on_first on_second are one two sets0 sets1 zero key =
    sets1 0 key ∙ sets0 0 key ∙ behind_at c first (copy_at old 0) (stepped on_first (copy_at old 0 c.key.now)) key one ∙ rw are refl
redo_sides c old mid new first None tables on_first on_second are one two sets0 sets1 (suc zero) key =
    sets1 1 key ∙ rw (past_first old mid c.key.now (stepped on_first (copy_at old 0 c.key.now)) on_second sets0 ∙ two, sets0 1 key, are) (sym (kept_so old 1 c.key.now 1 key))
redo_sides c old mid new first (Some second) tables on_first on_second are one two sets0 sets1 (suc zero) key =
    sets1 1 key ∙ rw (sets0 1 key, are) (behind_at c second (copy_at old 1) (stepped on_second (copy_at mid 1 c.key.now)) key (past_first old mid c.key.now (stepped on_first (copy_at old 0 c.key.now)) on_second sets0 ∙ two))
redo_sides c old mid new first None tables on_first on_second are one two sets0 sets1 (suc (suc side)) key =
    let past : (1 == suc (suc side)) ≡ false = grind (arith, nat_tests) in
    let past' : (0 == suc (suc side)) ≡ false = grind (arith, nat_tests) in
    sets1 (suc (suc side)) key ∙ rw past (sets0 (suc (suc side)) key ∙ rw (past', are) refl)
redo_sides c old mid new first (Some second) tables on_first on_second are one two sets0 sets1 (suc (suc side)) key =
    let past : (1 == suc (suc side)) ≡ false = grind (arith, nat_tests) in
    let past' : (0 == suc (suc side)) ≡ false = grind (arith, nat_tests) in
    sets1 (suc (suc side)) key ∙ rw past (sets0 (suc (suc side)) key ∙ rw (past', are) refl)

-- what a record makes of a copy is what its change makes of it
pub behind_on-record : (change : Option Change) (lsn : ℕ) (body : Body) → ((table : List ℕ) (key : List Value) (known : Option Stored) → behind change table key known ≡ copied table lsn body key known) → (tables : List (List ℕ)) (side : ℕ) (key : List Value) (known : Option Stored) → behind_on change tables side key known ≡ copied_on tables side lsn body key known
unfolding copied_on
behind_on-record change lsn body same [] side key known = refl
behind_on-record change lsn body same (table ∷ others) zero key known = same table key known
behind_on-record change lsn body same (table ∷ others) (suc side) key known = behind_on-record change lsn body same others side key known

-- where a record tells no change, nothing changes
pub behind_on-none : (tables : List (List ℕ)) (side : ℕ) (key : List Value) (known : Option Stored) → behind_on None tables side key known ≡ known
behind_on-none [] side key known = refl
behind_on-none (table ∷ others) zero key known = refl
behind_on-none (table ∷ others) (suc side) key known = behind_on-none others side key known

-- what holds where all went well, told in other words
pub told_so : {P Q : Type 0} (result : Result (Unit {0}) AllocError) → (P → Q) → OnOk result P → OnOk result Q
told_so (Ok done) f p = f p
told_so (Err fault) f p = p

pub refused_so : {Q : Type 0} (result : Result (Unit {0}) AllocError) → Q → OnErr result Q
refused_so (Ok done) q = tt
refused_so (Err fault) q = q

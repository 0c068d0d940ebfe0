-- What one more record does to the state of a key, and whose LSN a row has.
use Rattle.std.proofs.Common.{◌≡◌, ◌+◌, ℕ, true, false, List, ◌∷◌, length, Option, None, refl}
use Rattle.sx_values.specs.declared.value.Value.{Value}
use Rattle.sx_values.specs.Names.{same_name}
use Rattle.sx_values.specs.Values.{values_eq}
use Rattle.sx_values.proofs.KeyLaws.{values_cmp-refl, same_name-refl}
use Rattle.sx_log.specs.declared.record.Rec.{Rec}
use Rattle.sx_log.specs.declared.record.Body.{Body}
use Rattle.sx_log.specs.declared.record.Body.TheVariants.{Write, Undo, Commit, Abort, Mark, Check, Switch}
use Rattle.sx_log.specs.State.{Stored, stored, is_place, after_body, state_at}
use Rattle.sx_model.specs.Scans.{is_about}
use Rattle.sx_model.proofs.TestLaws.{chosen, passed, and_false_first, and_false_second, and_both}

-- the image that a body has after it, where it has images
abbrev pub image_of : Body → Option (List Value)
image_of (Write table key before after) = after
image_of (Undo undoes table key before after) = after
image_of Commit = None
image_of Abort = None
image_of Mark = None
image_of (Check group dep) = None
image_of Switch = None

-- a body that isn't about a key leaves it
pub after_elsewhere : (lsn : ℕ) (body : Body) (table : List ℕ) (key : List Value) (earlier : Option Stored) → is_about body table key ≡ false → after_body lsn body table key earlier ≡ earlier
unfolding after_body is_about
after_elsewhere lsn (Write written at before after) table key earlier e = passed (is_place written at table key) (stored lsn after) earlier e
after_elsewhere lsn (Undo undoes written at before after) table key earlier e = passed (is_place written at table key) (stored lsn after) earlier e
after_elsewhere lsn Commit table key earlier e = refl
after_elsewhere lsn Abort table key earlier e = refl
after_elsewhere lsn Mark table key earlier e = refl
after_elsewhere lsn (Check group dep) table key earlier e = refl
after_elsewhere lsn Switch table key earlier e = refl

-- a body that is about a key sets it
pub after_there : (lsn : ℕ) (body : Body) (table : List ℕ) (key : List Value) (earlier : Option Stored) → is_about body table key ≡ true → after_body lsn body table key earlier ≡ stored lsn (image_of body)
unfolding after_body is_about
after_there lsn (Write written at before after) table key earlier e = chosen (is_place written at table key) (stored lsn after) earlier e
after_there lsn (Undo undoes written at before after) table key earlier e = chosen (is_place written at table key) (stored lsn after) earlier e
after_there lsn Commit table key earlier e = absurd (cc)
after_there lsn Abort table key earlier e = absurd (cc)
after_there lsn Mark table key earlier e = absurd (cc)
after_there lsn (Check group dep) table key earlier e = absurd (cc)
after_there lsn Switch table key earlier e = absurd (cc)

-- the records that leave every key
pub state_at-commit : (txn : ℕ) (log : List Rec) (table : List ℕ) (key : List Value) → state_at (record { txn = txn; body = Commit } ∷ log) table key ≡ state_at log table key
unfolding after_body
state_at-commit txn log table key = refl

pub state_at-abort : (txn : ℕ) (log : List Rec) (table : List ℕ) (key : List Value) → state_at (record { txn = txn; body = Abort } ∷ log) table key ≡ state_at log table key
unfolding after_body
state_at-abort txn log table key = refl

pub state_at-mark : (txn : ℕ) (log : List Rec) (table : List ℕ) (key : List Value) → state_at (record { txn = txn; body = Mark } ∷ log) table key ≡ state_at log table key
unfolding after_body
state_at-mark txn log table key = refl

pub state_at-check : (txn : ℕ) (group dep : List Value) (log : List Rec) (table : List ℕ) (key : List Value) → state_at (record { txn = txn; body = Check group dep } ∷ log) table key ≡ state_at log table key
unfolding after_body
state_at-check txn group dep log table key = refl

pub state_at-switch : (txn : ℕ) (log : List Rec) (table : List ℕ) (key : List Value) → state_at (record { txn = txn; body = Switch } ∷ log) table key ≡ state_at log table key
unfolding after_body
state_at-switch txn log table key = refl

-- a Write leaves the keys of other tables
pub state_at-other_table : (txn : ℕ) (written : List ℕ) (at : List Value) (before after : Option (List Value)) (log : List Rec) (table : List ℕ) (key : List Value) → same_name written table ≡ false → state_at (record { txn = txn; body = Write written at before after } ∷ log) table key ≡ state_at log table key
unfolding after_body
state_at-other_table txn written at before after log table key e =
    passed (is_place written at table key) (stored (length log + 1) after) (state_at log table key) (and_false_first (same_name written table) (values_eq at key) e)

-- and other keys
pub state_at-other_key : (txn : ℕ) (written : List ℕ) (at : List Value) (before after : Option (List Value)) (log : List Rec) (table : List ℕ) (key : List Value) → values_eq at key ≡ false → state_at (record { txn = txn; body = Write written at before after } ∷ log) table key ≡ state_at log table key
unfolding after_body
state_at-other_key txn written at before after log table key e =
    passed (is_place written at table key) (stored (length log + 1) after) (state_at log table key) (and_false_second (same_name written table) (values_eq at key) e)

-- and sets a key that ties with its own, in a table of its name
pub state_at-written : (txn : ℕ) (written : List ℕ) (at : List Value) (before after : Option (List Value)) (log : List Rec) (table : List ℕ) (key : List Value) → same_name written table ≡ true → values_eq at key ≡ true → state_at (record { txn = txn; body = Write written at before after } ∷ log) table key ≡ stored (length log + 1) after
unfolding after_body
state_at-written txn written at before after log table key d e =
    chosen (is_place written at table key) (stored (length log + 1) after) (state_at log table key) (and_both (same_name written table) (values_eq at key) d e)

pub values_eq-refl : (key : List Value) → values_eq key key ≡ true
values_eq-refl key = rw (values_cmp-refl key) refl

-- so it sets its own key
pub state_at-own : (txn : ℕ) (table : List ℕ) (key : List Value) (before after : Option (List Value)) (log : List Rec) → state_at (record { txn = txn; body = Write table key before after } ∷ log) table key ≡ stored (length log + 1) after
state_at-own txn table key before after log = state_at-written txn table key before after log table key (same_name-refl table) (values_eq-refl key)

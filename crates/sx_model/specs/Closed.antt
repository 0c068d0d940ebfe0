-- Which tables are closed to a client's transaction, by how far the transformation has come.
use Rattle.std.specs.Prelude.{◌&&◌, Bool, not, ℕ, List, Option, Some, None, if◌then◌else◌}
use Rattle.sx_values.specs.Names.{has_name}
use Rattle.sx_ops.specs.Operators.{sources_of, targets_of}
use Rattle.sx_sync.specs.declared.Phase.{Phase}
use Rattle.sx_sync.specs.declared.Phase.TheVariants.{Idle, Scanning, Chasing, Draining, Late, Done}
use Rattle.sx_journal.specs.declared.entry.Entry.{Entry}
use Rattle.sx_journal.specs.declared.entry.Reply.{Reply}
use Rattle.sx_journal.specs.declared.entry.Reply.TheVariants as reply
use Rattle.sx_model.specs.Leaves.{Started, started, phase}
use Rattle.sx_model.specs.Switches.{has_lock_on}

-- a new table is hidden until the switch
abbrev pub unless_new : Bool → Option Reply → Option Reply
unless_new is_new otherwise = if is_new then Some reply.Hidden else otherwise

-- while old transactions are drained, a source is closed to those without a lock on one
abbrev pub if_drained : (is_source has_lock : Bool) → Option Reply
if_drained is_source has_lock = if is_source && not has_lock then Some reply.Draining else None

-- behind the switch the sources are gone
abbrev pub if_gone : Bool → Option Reply
if_gone is_source = if is_source then Some reply.Gone else None

-- why a new table, a source or another one is closed to a transaction that has a lock on a source or none, if it is; no transaction is old under blocking commit
abbrev pub closed_in : Phase → (is_new is_source has_lock : Bool) → Option Reply
closed_in Idle is_new is_source has_lock = None
closed_in Scanning is_new is_source has_lock = unless_new is_new None
closed_in Chasing is_new is_source has_lock = unless_new is_new None
closed_in Draining is_new is_source has_lock = unless_new is_new (if_drained is_source has_lock)
closed_in Late is_new is_source has_lock = if_gone is_source
closed_in Done is_new is_source has_lock = if_gone is_source

-- the same by the transformation that was started, if one was
abbrev pub closed_by : List Entry → ℕ → List ℕ → Option Started → Option Reply
closed_by past client table None = None
closed_by past client table (Some s) = closed_in (phase past) (has_name (targets_of s.spec) table) (has_name (sources_of s.spec) table) (has_lock_on (sources_of s.spec) client past)

-- why a table is closed to a client's transaction now, if it is
abbrev pub closed : List Entry → ℕ → List ℕ → Option Reply
closed past client table = closed_by past client table (started past)

-- Which tables a name may mean now: the declared ones and, while a transformation is started, its new ones.
use Rattle.std.specs.Prelude.{◌++◌, List, [], map, Option, Some, None, false}
use Rattle.sx_values.specs.declared.catalog.Declared.{Declared}
use Rattle.sx_ops.specs.declared.spec.Target.{Target}
use Rattle.sx_ops.specs.Targets.{targets}
use Rattle.sx_sync.specs.declared.Phase.{Phase}
use Rattle.sx_sync.specs.declared.Phase.TheVariants.{Idle, Scanning, Chasing, Draining, Late, Done}
use Rattle.sx_journal.specs.declared.entry.Entry.{Entry}
use Rattle.sx_model.specs.Openings.{Opening}
use Rattle.sx_model.specs.Leaves.{Started, started, phase}

-- a new table: it wasn't declared
abbrev pub adopted : Target → Declared
adopted target = record { name = target.name; schema = target.schema; indexes = []; source = false }

-- the new tables of a transformation that was started
abbrev pub new_tables : List Declared → Option Started → List Target
new_tables catalog None = []
new_tables catalog (Some s) = targets catalog s.spec

-- the new tables that have names in a phase: until a transformation is started, and behind its cancel, there are none
abbrev pub named_in : Phase → List Target → List Target
named_in Idle tables = []
named_in Scanning tables = tables
named_in Chasing tables = tables
named_in Draining tables = tables
named_in Late tables = tables
named_in Done tables = tables

-- the new tables that have names now
abbrev pub named_now : Opening → List Entry → List Target
named_now o past = named_in (phase past) (new_tables o.catalog (started past))

-- the tables that a name may mean now
abbrev pub known : Opening → List Entry → List Declared
known o past = o.catalog ++ map adopted (named_now o past)

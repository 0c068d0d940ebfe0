-- What holds of the plan of every script.
use Rattle.std.specs.Prelude.{◌≡◌, ◌≤◌, ⊤, List, [], length, Option, None, MatchOption}
use Rattle.std.specs.List.{AllByRecursion}
use Rattle.sx_values.specs.declared.catalog.Declared.{Declared}
use Rattle.sx_ops.specs.declared.spec.Spec.{Spec}
use Rattle.sx_ops.specs.Checks.{IsShaped, spec_fault}
use Rattle.sx_sync.specs.declared.Strategy.TheVariants.{Blocking}
use Rattle.sx_model.specs.Schedules.{Plan, Line as Asked, Pace}
use Rattle.sx_model.specs.Loads.{IsAdmitted, AreApart, AreLoads}
use Rattle.sx_lines.specs.Forms.{IsPace}

-- a transformation that fits the declared tables
pub record Fits (catalog : List Declared) (spec : Spec) : Type 0 where
  pub shaped : IsShaped spec
  pub checked : spec_fault catalog spec ≡ None

-- a line of one of the clients 1 to 8
pub record IsClients (asked : Asked) : Type 0 where
  pub from_one : 1 ≤ asked.client
  pub to_eight : asked.client ≤ 8

-- lines of the propagator, each for few rows or records, and none without a transformation
pub record ArePaces (change : Option Spec) (paces : List Pace) : Type 0 where
  pub few : AllByRecursion (λ (p : Pace). IsPace p.what) paces
  pub changed : change ≡ None → paces ≡ []

-- rows that the tables admit with keys that differ, a transformation that fits under blocking commit, and lines of clients 1 to 8 and of the propagator, with at most 8 repeats
pub record IsSound (plan : Plan) : Type 0 where
  pub admitted : AllByRecursion (IsAdmitted plan.catalog) plan.loads
  pub apart : AreApart plan.catalog plan.loads
  pub fits : MatchOption plan.change ⊤ (Fits plan.catalog)
  pub blocking : plan.strategy ≡ Blocking
  pub clients : AllByRecursion IsClients plan.lines
  pub paces : ArePaces plan.change plan.paces
  pub few_retries : plan.retries ≤ 8

-- what a plan has to be to be run: rows that may be loaded, a transformation that fits under blocking commit, and lines of clients 1 to 8 and of the propagator, at most 20,000 of each, with at most 8 repeats
pub record IsRunnable (plan : Plan) : Type 0 where
  pub loads : AreLoads plan.catalog plan.loads
  pub fits : MatchOption plan.change ⊤ (Fits plan.catalog)
  pub blocking : plan.strategy ≡ Blocking
  pub clients : AllByRecursion IsClients plan.lines
  pub few : length plan.lines ≤ 20000
  pub paces : ArePaces plan.change plan.paces
  pub few_paces : length plan.paces ≤ 20000
  pub few_retries : plan.retries ≤ 8

use Rattle.std.proofs.Common.{◌∙◌, ap, subst, map, length, Some}
use Rattle.sx_sync.specs.declared.Strategy.TheVariants.{Blocking}
use Rattle.sx_sync.specs.Ready.{ready}
use Rattle.sx_core.specs.Clients.{living_of}
use Rattle.sx_core.specs.Switching.{AreLives}
use Rattle.sx_core.proofs.TurnLemmas.{fields, Holds}
use Rattle.sx_core.proofs.ReadyLemmas.{no_spec, no_other, ready_is}
use Rattle.sx_core.proofs.machine.Core.ready.Goals as goal

pub unreachable-requires : goal.unreachable-requires
unreachable-requires c =
    let i = c.self.inside in
    let f = fields i.manager i.journal.spare i.clients.newest i.known i.phase i.spec i.cursor i.position in
    let holds : Holds i.catalog i.loads i.journal.newest f c.args.self.now = record { within = c.self.invariant.0; kept = c.self.invariant.1; view = c.self.view_is } in
    no_spec i.catalog i.loads i.journal.newest f c.args.self.now holds c.requires c.in_default.is

pub unreachable-requires-in_default-spec : goal.unreachable-requires-in_default-spec
unreachable-requires-in_default-spec c =
    let i = c.self.inside in
    let f = fields i.manager i.journal.spare i.clients.newest i.known i.phase i.spec i.cursor i.position in
    let holds : Holds i.catalog i.loads i.journal.newest f c.args.self.now = record { within = c.self.invariant.0; kept = c.self.invariant.1; view = c.self.view_is } in
    no_other i.catalog i.loads i.journal.newest f c.args.self.now c.in-Some.spec holds c.requires c.in-Some.is c.in_default-spec.not-Part

pub returns : goal.returns
returns c =
    let i = c.self.inside in
    let f = fields i.manager i.journal.spare i.clients.newest i.known i.phase i.spec i.cursor i.position in
    let holds : Holds i.catalog i.loads i.journal.newest f c.args.self.now = record { within = c.self.invariant.0; kept = c.self.invariant.1; view = c.self.view_is } in
    let lives = subst (λ locks. AreLives locks c.in-Part.table (map living_of c.as_slice.result.now) c.in_ok-lives.lives) c.locks.ensures c.in_ok-lives.ensures in
    ready_is i.catalog i.loads i.journal.newest f c.args.self.now c.in-Part.table c.in-Part.tests c.in-Part.yes c.in-Part.no (map living_of c.as_slice.result.now) c.in_ok-lives.lives c.len-end.result c.switch_ready.result
    holds c.requires (c.in-Some.is ∙ ap Some c.in-Part.is) c.as_slice.ensures lives (c.len-end.ensures ∙ ap length c.log.ensures.log) (c.switch_ready.ensures ∙ ap (λ spec. ready Blocking spec i.position c.len-end.result c.in_ok-lives.lives) c.in-Part.is)

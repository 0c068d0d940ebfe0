use Rattle.std.proofs.Common.{Option, sym, subst}
use Rattle.sx_image.specs.declared.image.Kind.{Kind}
use Rattle.sx_journal.specs.declared.entry.Event.TheVariants.{Switch}
use Rattle.shiftrun.specs.Holding.{Held, TakesOn}
use Rattle.shiftrun.proofs.HoldLaws.{switch_held, back_held}
use Rattle.shiftrun.proofs.propagator.switch.Goals as goal

pub returns-in-Switched : goal.returns-in-Switched
returns-in-Switched c =
    subst (λ (next : Option Kind). TakesOn c.args.core.now c.switched.new.core next 0 Switch) (sym c.take.ensures.after)
    (switch_held c.args.core.now c.switched.new.core c.in-Switched.lsn c.args.image.now c.requires.held c.in-Switched.ensures.turns)

pub returns-in-None : goal.returns-in-None
returns-in-None c =
    back_held c.args.core.now c.switched.new.core c.in-Some.held c.in-Back.back c.in-Back.cause (subst (Held c.args.core.now) (sym c.in-Some.ensures.value) c.requires.held) c.in-Back.ensures (sym c.in-None.ensures)

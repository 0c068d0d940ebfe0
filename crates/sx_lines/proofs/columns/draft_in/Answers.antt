use Rattle.std.proofs.Common.{◌≡◌, Option, sym, ◌∙◌, subst, IfOk}
use Rattle.sx_values.specs.Layouts.{Layout}
use Rattle.sx_lines.proofs.DraftLaws.{further_word, no_word, last_word}
use Rattle.sx_lines.proofs.columns.draft_in.Goals as goal

pub loop-word-preserved : goal.loop-word-preserved
loop-word-preserved c =
    sym (further_word c.loop-word.draft c.in-Some-2.longer c.loop-word.rest.now c.in-Some.word.now c.in-Some.more.now (sym c.in-Some.ensures.parts) (sym c.in-Some-2.is ∙ c.in_ok-longer-in-Some.ensures))
    ∙ c.loop-word.invariant

pub returns-in-None-2 : goal.returns-in-None-2
returns-in-None-2 c =
    sym (no_word c.loop-word.draft c.loop-word.rest.now c.in-Some.word.now c.in-Some.more.now (sym c.in-Some.ensures.parts) (sym c.in-None-2.is ∙ c.in_ok-longer-in-Some.ensures))
    ∙ c.loop-word.invariant

pub returns-in-None : goal.returns-in-None
returns-in-None c =
    let P : Option Layout → Type 0 = λ shown. IfOk c.with_word-in-None.result (λ draft. draft ≡ shown) in
    subst P (sym (last_word c.loop-word.draft c.loop-word.rest.now (sym c.in-None.ensures.parts)) ∙ c.loop-word.invariant) c.with_word-in-None.ensures

-- The text of a transformation is read as the transformation.
use Rattle.std.proofs.Common.{◌≡◌, ℕ, List, Bool, true, false, cond, Some, None, refl, sym, ap, ◌∙◌, subst}
use Rattle.std.specs.List.{list_all}
use Rattle.sx_values.specs.Texts.{is_printable}
use Rattle.sx_ops.specs.declared.spec.Spec.{Spec}
use Rattle.sx_lang.specs.Reading.{spec_read}
use Rattle.sx_lang.specs.Spelling.{spec_text}
use Rattle.sx_lang.proofs.OnlyLaws.{spec_text-spec_read}
use Rattle.sx_lines.specs.Fields.{spec_shown}

-- a transformation that is read again from its text
pub record IsSpelled (spec : Spec) : Type 0 where
  pub again : spec_shown (spec_text spec) ≡ Some spec
  pub printable : list_all is_printable (spec_text spec) ≡ true

pub spec_again : (text : List ℕ) (spec : Spec) → spec_shown text ≡ Some spec → IsSpelled spec
unfolding spec_shown
spec_again text spec e = by (list_all is_printable text) refl e
  where
    by : (t : Bool) → list_all is_printable text ≡ t → cond t (spec_read text) None ≡ Some spec → IsSpelled spec
    by true d f =
        let same = (spec_text-spec_read text spec f).is in
        record { again = subst (λ t. spec_shown t ≡ Some spec) (sym same) e; printable = ap (list_all is_printable) same ∙ d }
    by false d f = absurd (cc)

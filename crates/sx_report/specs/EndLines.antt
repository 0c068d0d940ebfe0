-- The last line of a report.
use Rattle.std.specs.Prelude.{◌++◌, ℕ, List, [], ◌∷◌, codes}
use Rattle.sx_text.specs.Records.{record_text}
use Rattle.sx_report.specs.declared.end.ReportEnd.{ReportEnd}
use Rattle.sx_report.specs.declared.end.ReportEnd.TheVariants.{NoChange, Switched, Violated, Full}

-- how a run ended
unfoldable pub end_text : ReportEnd → List ℕ
end_text NoChange = codes "end none\n"
end_text Switched = codes "end switched\n"
end_text (Violated first second) = codes "end violated " ++ record_text (first ++ second) ++ 10 ∷ []
end_text Full = codes "end full\n"

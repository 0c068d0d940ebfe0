-- Loaded rows that are admitted fit their tables.
use Rattle.std.proofs.Common.{List, map, refl}
use Rattle.sx_values.specs.declared.catalog.Declared.{Declared}
use Rattle.sx_values.specs.Catalogs.{schema_of}
use Rattle.sx_log.specs.declared.record.Rec.{Rec}
use Rattle.sx_log.specs.declared.record.Load.{Load}
use Rattle.sx_log.specs.Images.{FitsTables}
use Rattle.sx_model.specs.Openings.{opening, load_record}
use Rattle.sx_model.specs.Loads.{IsAdmitted, AreLoads}
use Rattle.sx_model.proofs.AllLaws.{all_reverse, all_images}
use Rattle.sx_model.proofs.ImageLaws.{AllFit}

load_fits : (catalog : List Declared) (load : Load) → IsAdmitted catalog load → FitsTables (schema_of catalog) (load_record catalog load).body
unfolding FitsTables
load_fits catalog load a = rw a.declared (tt, (a.admitted, refl))

pub loads_fit : (catalog : List Declared) (loads : List Load) → AreLoads catalog loads → AllFit (schema_of catalog) (opening catalog loads).loads
loads_fit catalog loads are =
    all_reverse (λ (r : Rec). FitsTables (schema_of catalog) r.body) (map (load_record catalog) loads)
    (all_images (IsAdmitted catalog) (λ (r : Rec). FitsTables (schema_of catalog) r.body) (load_record catalog) (load_fits catalog) loads are.admitted)

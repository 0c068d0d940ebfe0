use Rattle.std.proofs.Common.{◌≡◌, ◌+◌, ℕ, Some, None}
use Rattle.sx_log.specs.declared.record.Body.TheVariants.{Commit}
use Rattle.sx_part.specs.PartImages.{FitsBody}
use Rattle.sx_image.specs.declared.image.Kind.{Kind}
use Rattle.sx_image.specs.declared.image.Kind.TheVariants.{Dead, Part}
use Rattle.sx_image.specs.Images.{FitsRecord, position_in}
use Rattle.sx_image.proofs.tests.commit.Goals as goal

-- a commit tells nothing of a row, so it fits every image
commit_fits : (place : ℕ) (image : Kind) → place ≡ position_in image + 1 → FitsRecord place Commit image
unfolding FitsBody
commit_fits place Dead next = tt
commit_fits place (Part None) next = tt
commit_fits place (Part (Some parts)) next = record { next = next; fits = tt }

pub returns : goal.returns
returns c = commit_fits

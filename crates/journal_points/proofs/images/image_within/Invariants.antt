use Rattle.std.proofs.Common.{◌≡◌, map, take}
use Rattle.vb_types.specs.Images.{image_of}
use Rattle.journal_points.proofs.images.image_within.Given as goal

abbrev pub invariant-loop-change : goal.invariant-loop-change
invariant-loop-change l = l.image ≡ image_of (map (λ c. c.now) (take l.change-index l.change-items))

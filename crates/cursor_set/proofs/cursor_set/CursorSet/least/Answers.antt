use Rattle.std.proofs.Common.{◌≤◌, All, subst}
use Rattle.std.specs.Prelude.{IfSome}
use Rattle.std.specs.List.{Contains}
use Rattle.std.specs.Map.{values_of}
use Rattle.cursor_set.specs.Cursors.{IsLeast}
use Rattle.cursor_set.proofs.Finds.{least_at}
use Rattle.cursor_set.proofs.cursor_set.CursorSet.least.Goals as goal

pub returns : goal.returns
returns c =
    let es = c.self.inside.places.entries in
    subst (λ m. IsLeast m c.unwrap.result) c.self.view_is (least_at es c.unwrap.result c.least_of.ensures.ordered
    (subst (λ o. IfSome o (Contains (values_of es))) c.unwrap.ensures c.least_of.ensures.there)
    (subst (λ o. IfSome o (λ n. All (λ place. n ≤ place) (values_of es))) c.unwrap.ensures c.least_of.ensures.least))

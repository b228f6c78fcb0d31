use Rattle.std.proofs.Common.{◌≡◌, ℕ, ltb, ap, sym, subst, ◌∙◌}
use Rattle.std.specs.List.{find}
use Rattle.std.specs.List.Sorted.{IsNonDecreasingBy}
use Rattle.checkpoint.specs.Checkpoints.{ckpt_span}
use Rattle.ckpt_list.specs.Lists.{Ckpts}
use Rattle.ckpt_list.specs.Sound.{IsSound, whole_by, ends_of_whole}
use Rattle.ckpt_list.proofs.Stops.{stop_of_sealed}
use Rattle.ckpt_list.proofs.Seals.{wholes_sorted}
use Rattle.ckpt_list.proofs.ckpt_list.CkptList.sealed_stop.Goals as goal

pub returns : goal.returns
returns c =
    let l : Ckpts = c.args.self.now in
    let ends : c.self.inside.wholes.items ≡ ends_of_whole l.sealed = c.self.invariant.wholes ∙ ap (λ (m : Ckpts). ends_of_whole m.sealed) c.self.view_is in
    c.unless_split.ensures ∙ ap (λ o. whole_by o c.first_above.result) c.current.ensures
    ∙ ap (whole_by (ckpt_span l.newest)) (c.first_above.ensures ∙ ap (find (λ e. ltb c.args.n e)) ends)
    ∙ stop_of_sealed l c.args.n (subst IsSound c.self.view_is c.self.invariant.sound)

pub first_above-requires : goal.first_above-requires
first_above-requires c = subst (IsNonDecreasingBy (λ (e : ℕ). e)) (sym c.self.invariant.wholes) (wholes_sorted _ c.self.invariant.sound)

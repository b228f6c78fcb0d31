use Rattle.std.proofs.Common.{◌≡◌, true, refl, sym, ◌∙◌}
use Rattle.vb_types.specs.declared.change.Pend.{Pend}
use Rattle.vb_types.specs.Levels.{is_third}
use Rattle.hash_table.proofs.Counts.{are_along, gone_from, stands_at, take_none}
use Rattle.hash_table.proofs.prepares.Prepares.remove.Goals as goal

pub take_out-requires : goal.take_out-requires
take_out-requires c = stands_at (λ _. true) c.self.inside.pends.map c.self.inside.seqnos.list c.self.invariant.0 c.args.key.now c.in-Some.pend (sym c.in-Some.ensures.was) refl

pub take_out_if-requires : goal.take_out_if-requires
take_out_if-requires c t = stands_at (λ pend. is_third pend.level) c.self.inside.pends.map c.self.inside.thirds.list c.self.invariant.1 c.args.key.now c.in-Some.pend (sym c.in-Some.ensures.was) (sym c.is_third.ensures ∙ t)

pub invariant_of-self-in-Some-2 : goal.invariant_of-self-in-Some-2
invariant_of-self-in-Some-2 c = (
  gone_from (λ _. true) c.self.inside.pends.map c.remove.new.self.map c.self.inside.seqnos.list c.take_out.new.self.list true c.args.key.now c.in-Some.pend refl c.in-Some.ensures.was c.in-Some.ensures.map c.self.invariant.0 c.take_out.ensures.list,
  gone_from (λ pend. is_third pend.level) c.self.inside.pends.map c.remove.new.self.map c.self.inside.thirds.list c.take_out_if.new.self.list c.is_third.result c.args.key.now c.in-Some.pend c.is_third.ensures c.in-Some.ensures.was c.in-Some.ensures.map c.self.invariant.1 c.take_out_if.ensures.list,
)

pub invariant_of-self : goal.invariant_of-self
invariant_of-self c = (
  gone_from (λ _. true) c.self.inside.pends.map c.remove.new.self.map c.self.inside.seqnos.list c.take_out.new.self.list true c.args.key.now c.in-Some.pend refl c.in-Some.ensures.was c.in-Some.ensures.map c.self.invariant.0 c.take_out.ensures.list,
  gone_from (λ pend. is_third pend.level) c.self.inside.pends.map c.remove.new.self.map c.self.inside.thirds.list c.take_out_if.new.self.list c.is_third.result c.args.key.now c.in-Some.pend c.is_third.ensures c.in-Some.ensures.was c.in-Some.ensures.map c.self.invariant.1 c.take_out_if.ensures.list,
)

pub invariant_of-self-in_default : goal.invariant_of-self-in_default
invariant_of-self-in_default c =
    let m = c.self.inside.pends.map in
    let same : m ≡ c.remove.new.self.map = sym (c.in_default.ensures.map ∙ take_none m c.args.key.now (sym c.in_default.ensures.was)) in (
      are_along (λ _. true) same (refl {a = c.self.inside.seqnos.list}) c.self.invariant.0,
      are_along (λ (p : Pend). is_third p.level) same (refl {a = c.self.inside.thirds.list}) c.self.invariant.1,
    )

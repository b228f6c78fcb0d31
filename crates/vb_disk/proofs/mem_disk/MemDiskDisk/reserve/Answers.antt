use Rattle.std.proofs.Common.{◌≡◌, ◌++◌, [], ◌∷◌, ◌∙◌, arith, ap}
use Rattle.vb_disk.proofs.Kept.{kept_same, kept_push, noted_more, noted_push}
use Rattle.vb_disk.proofs.mem_disk.MemDiskDisk.reserve.Goals as goal

pub invariant_of-self-in_err-reserve-2 : goal.invariant_of-self-in_err-reserve-2
invariant_of-self-in_err-reserve-2 c =
    let ready = c.self.inside.ready.items in (
      kept_same _ _ ready _ _ _ _ c.reserve-2.ensures.items c.reserve.ensures.items c.reserve.ensures.capacity c.self.invariant.0,
      noted_more _ _ c.reserve-2.ensures.items ready _ _ _ c.reserve-2.ensures.capacity c.self.invariant.1,
    )

pub invariant_of-self-in_err-push : goal.invariant_of-self-in_err-push
invariant_of-self-in_err-push c = rw c.in_err-push.ensures.items (
    let ready = c.self.inside.ready.items in (
      kept_same _ _ ready _ _ _ _ c.reserve-2.ensures.items c.reserve.ensures.items c.reserve.ensures.capacity c.self.invariant.0,
      noted_more _ _ c.reserve-2.ensures.items ready _ _ _ c.reserve-2.ensures.capacity c.self.invariant.1,
    )
    )

pub invariant_of-self-2 : goal.invariant_of-self-2
invariant_of-self-2 c =
    let ready = c.self.inside.ready.items in
    let pushed : c.push.new.self.items ≡ ready ++ (c.args.at, c.args.len) ∷ [] = c.in_ok-push.ensures.items ∙ ap (λ r. ready ++ r ∷ []) c.in_ok-room.ensures in
    rw pushed (
      kept_push _ _ c.args.at c.args.len ready _ (omega (arith, c.in_ok-reserve.ensures.ok, c.reserve.ensures.len, c.len.ensures, c.saturating_sub.ensures))
          (kept_same _ _ ready _ _ _ _ c.reserve-2.ensures.items c.reserve.ensures.items c.reserve.ensures.capacity c.self.invariant.0),
      noted_push _ _ c.reserve-2.ensures.items ready _ _ _ c.args.at c.args.len (omega (arith, c.in_ok-reserve-2.ensures.ok, c.len-2.ensures)) c.self.invariant.1,
    )

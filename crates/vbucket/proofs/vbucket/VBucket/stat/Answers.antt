use Rattle.std.proofs.Common.{◌≡◌, ◌+◌, length, ap, ◌∙◌}
use Rattle.std.specs.List.{filter}
use Rattle.vb_calls.specs.declared.calls.VbAnswer.TheVariants as answer
use Rattle.vb_calls.specs.State.{quiet_reply}
use Rattle.vbucket.specs.Kept.{kept_stat}
use Rattle.vbucket.proofs.Counted.{cursor_count}
use Rattle.vbucket.proofs.vbucket.VBucket.stat.Goals as goal

pub returns : goal.returns
returns c =
    let v = c.self.inside in
    let n = c.stat-windows.ensures in
    let cursors : c.stat-windows.result.cursors ≡ 1 + length (filter (λ s. s.cursor) v.streams.items) = n.cursors ∙ cursor_count v.streams.items v.list.places c.self.invariant.fed n.zero in
    c.told.ensures ∙ (λ i. quiet_reply (answer.Stat (n.windows i) (n.items i) (cursors i) v.saved v.position.at)) ∙ ap kept_stat c.self.view_is

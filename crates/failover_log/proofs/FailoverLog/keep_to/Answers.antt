use Rattle.std.proofs.Common.{rules, leb, ap, ◌∙◌}
use Rattle.std.specs.List.{filter}
use Rattle.std.proofs.lemmas.Fn.{filter_same}
use Rattle.failover_log.proofs.FailoverLog.keep_to.Goals as goal

pub returns : goal.returns
returns c = filter_same _ (λ e. leb e.seq c.args.seq) _ (λ e b f k. search rules) _ _ c.retain.ensures.filtered ∙ ap (filter (λ e. leb e.seq c.args.seq)) c.self.view_is

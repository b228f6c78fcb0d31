use Rattle.std.proofs.Common.{rules}
use Rattle.std.specs.Prelude.{◌==◌}
use Rattle.std.proofs.lemmas.Fn.{filter_same}
use Rattle.vb_calls.specs.declared.stream.Stream.{Stream}
use Rattle.vbucket.proofs.streams.keep.Goals as goal

pub returns : goal.returns
returns c = filter_same _ (λ (s : Stream). s.id == c.args.id) _ (λ s b f k. search rules) _ _ c.retain.ensures.filtered

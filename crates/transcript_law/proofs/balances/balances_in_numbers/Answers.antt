use Rattle.transcript_law.proofs.Words.{refl, ap, ◌∙◌}
use Rattle.transcript_law.specs.Balance.{acknowledged_by, stream_len}
use Rattle.transcript_law.proofs.balance.Numbers.{acked_means, both_mean, marker_means, nothing_means}
use Rattle.transcript_law.proofs.balances.balances_in_numbers.Goals as goal

pub returns : goal.returns
returns c = record {
  nothing = nothing_means;
  marker = marker_means;
  acked = acked_means;
  both = both_mean;
  answers = λ f is. (ap (λ m. stream_len (record f { magic = m })) is, ap (λ m. acknowledged_by (record f { magic = m })) is);
  states = λ f is op. ap (λ m. stream_len (record f { magic = m })) is ∙ ap (λ o. stream_len (record f { magic = 0x80; opcode = o })) op;
  limit = refl;
}

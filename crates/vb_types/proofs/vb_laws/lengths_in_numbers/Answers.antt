use Rattle.vb_types.proofs.vb_laws.lengths_in_numbers.Goals as goal

pub returns-clause-keys : goal.returns-clause-keys
returns-clause-keys c = λ bytes. (λ k. k, λ k. k)

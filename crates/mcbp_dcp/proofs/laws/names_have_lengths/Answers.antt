use Rattle.mcbp_dcp.proofs.laws.names_have_lengths.Goals as goal

pub returns : goal.returns
returns c = λ number flags name. (λ h. h, λ h. h)

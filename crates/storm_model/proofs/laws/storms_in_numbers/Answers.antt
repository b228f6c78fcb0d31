use Rattle.storm_model.proofs.Rows as rows
use Rattle.storm_model.proofs.laws.storms_in_numbers.Goals as goal

pub returns : goal.returns
returns c = record { words = rows.words; writes = rows.writes; storms = rows.storms; limits = rows.limits }

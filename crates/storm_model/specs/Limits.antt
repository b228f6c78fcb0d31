-- how many clients and writes a storm may have
use Rattle.std.specs.Prelude.{ℕ, ◌*◌, ◌&&◌, nat_le, Bool}
use Rattle.storm_model.specs.declared.limits.TheConstants.{MAX_CLIENTS, MAX_WRITES}

-- at least one of each, not too many clients, and not too many writes of all
abbrev pub is_storm : ℕ → ℕ → Bool
is_storm clients writes =
    nat_le 1 clients && nat_le clients MAX_CLIENTS && nat_le 1 writes && nat_le writes MAX_WRITES && nat_le (clients * writes) MAX_WRITES

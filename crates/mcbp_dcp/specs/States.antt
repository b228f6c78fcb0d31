-- the roles of a vBucket as bytes of SET_VBUCKET_STATE
use Rattle.std.specs.Prelude.{ℕ, ◌==◌, ◌&&◌, nat_le, Bool, if◌then◌else◌}
use Rattle.vb_types.specs.declared.role.Role.{Role}
use Rattle.vb_types.specs.declared.role.Role.TheVariants as role

-- the byte of a role
abbrev pub role_byte : Role → ℕ
role_byte role.Active = 1
role_byte role.Replica = 2
role_byte role.Pending = 3
role_byte role.Dead = 4

-- whether a byte is a role's
abbrev pub is_role : ℕ → Bool
is_role byte = nat_le 1 byte && nat_le byte 4

-- the role of a byte that is one's
abbrev pub role_in : ℕ → Role
role_in byte = if byte == 1 then role.Active else if byte == 2 then role.Replica else if byte == 3 then role.Pending else role.Dead

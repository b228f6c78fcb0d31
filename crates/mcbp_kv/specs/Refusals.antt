-- the reasons to refuse a client's frame, each with its status, in the protocol's order
use Rattle.std.specs.Prelude.{◌≡◌, ℕ, ◌≤◌, Bool, Some, None, Ok, Err, ◌⊎◌}
use Rattle.mcbp_frame.specs.declared.frame.Frame.{Frame}
use Rattle.vb_types.specs.declared.status.Status.{Status}
use Rattle.vb_types.specs.declared.status.Status.TheVariants as status
use Rattle.mcbp_kv.specs.Framing.{requirement_of}
use Rattle.mcbp_kv.specs.Requests.{request_of}
use Rattle.mcbp_kv.specs.Shapes.{IsCommandCode, IsWriteCode, HasDatatype, HasForm, IsTooLong}
use Rattle.mcbp_kv.specs.declared.framing.Requirement.{Requirement}
use Rattle.mcbp_kv.specs.declared.request.KvRequest.{KvRequest}

-- there is such a command, and its datatype is one that the connection may send
pub record IsHeaded (json : Bool) (f : Frame) : Type 0 where
  pub opcode : IsCommandCode f.opcode
  pub datatype : HasDatatype json f.datatype

-- majority, majority and persisted to the active, persisted to a majority
abbrev pub IsLevel : ℕ → Type 0
IsLevel level = (1 ≤ level) × (level ≤ 3)

-- a level that there is, at a command that writes
pub record IsDurable (f : Frame) : Type 0 where
  pub requirement : Requirement
  pub required : requirement_of f.framing ≡ Ok (Some requirement)
  pub opcode : IsWriteCode f.opcode
  pub level : IsLevel requirement.level

-- the framing extras require nothing, or what may be required
abbrev pub IsFramed : Frame → Type 0
IsFramed f = (requirement_of f.framing ≡ Ok None) ⊎ IsDurable f

-- a frame is refused for the first reason that there is, and asks something where there is none
pub record IsRefusedInOrder (json : Bool) (f : Frame) : Type 0 where
  pub opcode : ¬ (IsCommandCode f.opcode) → request_of json f ≡ Err status.UnknownCommand
  pub datatype : IsCommandCode f.opcode → ¬ (HasDatatype json f.datatype) → request_of json f ≡ Err status.Einval
  pub framing : IsHeaded json f → (faulty : Status) → requirement_of f.framing ≡ Err faulty → request_of json f ≡ Err faulty
  pub no_write :
      IsHeaded json f → (r : Requirement) → requirement_of f.framing ≡ Ok (Some r) → ¬ (IsWriteCode f.opcode)
      → request_of json f ≡ Err status.NotSupported
  pub no_level :
      IsHeaded json f → (r : Requirement) → requirement_of f.framing ≡ Ok (Some r) → IsWriteCode f.opcode → ¬ (IsLevel r.level)
      → request_of json f ≡ Err status.DurabilityInvalidLevel
  pub form :
      IsHeaded json f → IsFramed f → ¬ (HasForm f) → request_of json f ≡ Err status.Einval
  pub size :
      IsHeaded json f → IsFramed f → HasForm f → IsTooLong f.value
      → request_of json f ≡ Err status.E2big
  pub none :
      IsHeaded json f → IsFramed f → HasForm f → ¬ (IsTooLong f.value)
      → (request : KvRequest) × (request_of json f ≡ Ok request)

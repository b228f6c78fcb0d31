-- a client's command in the protocol's own words: its opcode, its datatype and its parts
use Rattle.std.specs.Prelude.{◌≡◌, ℕ, ◌≤◌, ◌<◌, ◌%◌, Bool, true, List, [], length, ◌⊎◌}
use Rattle.std.specs.List.{Contains}
use Rattle.mcbp_frame.specs.declared.frame.Frame.{Frame}
use Rattle.vb_types.specs.Limits.{IsKey}
use Rattle.vb_types.specs.declared.key.TheConstants.{MAX_KEY, MAX_VALUE}
use Rattle.mcbp_kv.specs.Requests.{client_opcodes, write_opcodes}
use Rattle.mcbp_kv.specs.declared.opcodes.TheConstants.{GET, SET, ADD, REPLACE, DELETE, NOOP, HELLO}

-- GET, NOOP, HELLO, or a command that writes
abbrev pub IsCommandCode : ℕ → Type 0
IsCommandCode opcode = Contains client_opcodes opcode

-- SET, ADD, REPLACE or DELETE
abbrev pub IsWriteCode : ℕ → Type 0
IsWriteCode opcode = Contains write_opcodes opcode

-- raw, or JSON on a connection that has asked for it
abbrev pub HasDatatype : Bool → ℕ → Type 0
HasDatatype json datatype = (datatype ≡ 0) ⊎ ((json ≡ true) × (datatype ≡ 1))

-- GET and DELETE: a key alone
pub record HasKeyAlone (f : Frame) : Type 0 where
  pub extras : f.extras ≡ []
  pub key : IsKey f.key
  pub value : f.value ≡ []

-- NOOP: nothing
pub record HasNothing (f : Frame) : Type 0 where
  pub extras : f.extras ≡ []
  pub key : f.key ≡ []
  pub value : f.value ≡ []

-- HELLO: a name, which may be empty, and features of two bytes each
pub record HasGreeting (f : Frame) : Type 0 where
  pub extras : f.extras ≡ []
  pub name : length f.key ≤ MAX_KEY
  pub features : length f.value % 2 ≡ 0

-- SET, ADD and REPLACE: eight bytes of extras, a key, and any value
pub record HasDocument (f : Frame) : Type 0 where
  pub extras : length f.extras ≡ 8
  pub key : IsKey f.key

-- the parts that each opcode asks for, and no CAS where nothing may be there yet
pub record HasForm (f : Frame) : Type 0 where
  pub get : f.opcode ≡ GET → HasKeyAlone f
  pub set : f.opcode ≡ SET → HasDocument f
  pub add : f.opcode ≡ ADD → HasDocument f × (f.cas ≡ 0)
  pub replace : f.opcode ≡ REPLACE → HasDocument f
  pub delete : f.opcode ≡ DELETE → HasKeyAlone f
  pub noop : f.opcode ≡ NOOP → HasNothing f
  pub hello : f.opcode ≡ HELLO → HasGreeting f

-- more bytes than a value has
abbrev pub IsTooLong : List ℕ → Type 0
IsTooLong value = MAX_VALUE < length value

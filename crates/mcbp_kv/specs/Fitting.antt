-- which numbers the parts of a request hold
use Rattle.std.specs.Prelude.{◌<◌, ◌≤◌, ◌^◌, length, ⊤}
use Rattle.vb_types.specs.Limits.{IsKey, IsValue}
use Rattle.vb_types.specs.declared.write.Write.{Write}
use Rattle.mcbp_kv.specs.declared.request.KvRequest.{KvRequest}
use Rattle.mcbp_kv.specs.declared.request.KvRequest.TheVariants as request

-- key and value of a write are within their limits, and its numbers have room in their fields
pub record WriteFits (w : Write) : Type 0 where
  pub key : IsKey w.key
  pub value : IsValue w.value
  pub flags : w.flags < 2 ^ 32
  pub expiry : w.expiry < 2 ^ 32
  pub datatype : w.datatype < 2
  pub cas : w.cas < 2 ^ 64

-- there are four features, and each is accepted once
abbrev pub AsksFew : KvRequest → Type 0
AsksFew (request.Get key) = ⊤
AsksFew (request.Write w durable) = ⊤
AsksFew request.Noop = ⊤
AsksFew (request.Hello features) = length features ≤ 4

-- what a client asks has room in the fields of a request
abbrev pub RequestFits : KvRequest → Type 0
RequestFits (request.Get key) = IsKey key
RequestFits (request.Write w durable) = WriteFits w
RequestFits request.Noop = ⊤
RequestFits (request.Hello features) = length features ≤ 4

-- answers in the protocol's own words: each field of a frame, and what it holds
use Rattle.std.specs.Prelude.{◌≡◌, ℕ, ◌+◌, Bool, if◌then◌else◌, List, [], ◌∷◌, ◌++◌, length}
use Rattle.std.specs.Int.{w16, w32, w64, to_be_bytes}
use Rattle.mcbp_frame.specs.declared.frame.Frame.{Frame}
use Rattle.mcbp_frame.specs.declared.frame.TheConstants.{RESPONSE}
use Rattle.mcbp_frame.specs.Spelling.{spelling}
use Rattle.vb_types.specs.Statuses.{status_code}
use Rattle.vb_types.specs.declared.doc.Doc.{Doc}
use Rattle.vb_types.specs.declared.status.Status.{Status}
use Rattle.vb_types.specs.declared.status.Status.TheVariants as status
use Rattle.mcbp_kv.specs.Features.{feature_bytes}
use Rattle.mcbp_kv.specs.Replies.{reply_frame}
use Rattle.mcbp_kv.specs.declared.feature.Feature.{Feature}
use Rattle.mcbp_kv.specs.declared.opcodes.TheConstants.{GET, HELLO}
use Rattle.mcbp_kv.specs.declared.reply.KvReply.{KvReply}

-- the header of an answer, without key and framing extras
pub record IsAnswer (f : Frame) (code said number kind : ℕ) : Type 0 where
  pub magic : f.magic ≡ RESPONSE
  pub opcode : f.opcode ≡ code
  pub key : f.key ≡ []
  pub datatype : f.datatype ≡ kind
  pub status : f.vb_or_status ≡ said
  pub opaque : f.opaque ≡ number
  pub framing : f.framing ≡ []

-- the datatype of a document, for a client that has asked for it, and 0 for any other
abbrev pub datatype_for : Bool → Doc → ℕ
datatype_for json doc = if json then doc.datatype else 0

-- the answer to a GET that found a document: its datatype, its CAS, its flags in four big-endian bytes, and its value
pub record IsFound (json : Bool) (f : Frame) (opaque : ℕ) (doc : Doc) : Type 0 where
  pub header : IsAnswer f GET 0 opaque (datatype_for json doc)
  pub cas : f.cas ≡ doc.cas
  pub extras : f.extras ≡ to_be_bytes w32 doc.flags
  pub value : f.value ≡ doc.value

-- the answer to a write that was made: its CAS, these extras and no value
pub record IsStored (f : Frame) (code opaque made : ℕ) (told : List ℕ) : Type 0 where
  pub header : IsAnswer f code 0 opaque 0
  pub cas : f.cas ≡ made
  pub extras : f.extras ≡ told
  pub value : f.value ≡ []

-- the answer to a HELLO: the numbers of the accepted features
pub record IsWelcome (f : Frame) (opaque : ℕ) (features : List Feature) : Type 0 where
  pub header : IsAnswer f HELLO 0 opaque 0
  pub cas : f.cas ≡ 0
  pub extras : f.extras ≡ []
  pub value : f.value ≡ feature_bytes features

-- an answer with an empty body
pub record IsBare (f : Frame) (code said opaque : ℕ) : Type 0 where
  pub header : IsAnswer f code said opaque 0
  pub cas : f.cas ≡ 0
  pub extras : f.extras ≡ []
  pub value : f.value ≡ []

-- what is answered to a GET that found this document
abbrev pub found_answer : Bool → ℕ → Doc → KvReply
found_answer json opaque doc = record {
  opcode = GET;
  status = status.Success;
  opaque = opaque;
  cas = doc.cas;
  datatype = datatype_for json doc;
  extras = to_be_bytes w32 doc.flags;
  value = doc.value;
}

-- what is answered to a write that was made with this CAS
abbrev pub stored_answer : ℕ → ℕ → ℕ → List ℕ → KvReply
stored_answer code opaque cas told = record {
  opcode = code;
  status = status.Success;
  opaque = opaque;
  cas = cas;
  datatype = 0;
  extras = told;
  value = [];
}

-- a write's branch and seqno, eight big-endian bytes each, for a client that has asked for them
abbrev pub seqno_extras : ℕ → ℕ → List ℕ
seqno_extras uuid seq = to_be_bytes w64 uuid ++ to_be_bytes w64 seq

-- what is answered to a HELLO
abbrev pub welcome_answer : ℕ → List Feature → KvReply
welcome_answer opaque features = record {
  opcode = HELLO;
  status = status.Success;
  opaque = opaque;
  cas = 0;
  datatype = 0;
  extras = [];
  value = feature_bytes features;
}

-- what is answered to a NOOP, and to all that is refused
abbrev pub bare_answer : ℕ → Status → ℕ → KvReply
bare_answer code said opaque = record {
  opcode = code;
  status = said;
  opaque = opaque;
  cas = 0;
  datatype = 0;
  extras = [];
  value = [];
}

-- the bytes of every answer, in the protocol's order: magic, opcode, no key, length of the extras, datatype, status,
-- length of the body, opaque, CAS, extras and value
abbrev pub AnswersInOrder : Type 0
AnswersInOrder =
    (r : KvReply) → spelling (reply_frame r)
    ≡ RESPONSE ∷ r.opcode ∷ 0 ∷ 0 ∷ length r.extras ∷ r.datatype ∷ [] ++ to_be_bytes w16 (status_code r.status)
    ++ to_be_bytes w32 (length r.extras + length r.value) ++ to_be_bytes w32 r.opaque ++ to_be_bytes w64 r.cas
    ++ r.extras ++ r.value

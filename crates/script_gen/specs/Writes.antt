-- the writes of a generated script
use Rattle.std.specs.Prelude.{ℕ, ◌+◌, ◌*◌, ◌/◌, ◌%◌, ◌^◌, ◌==◌, Bool, if◌then◌else◌, List, [], ◌∷◌, ◌++◌, codes, decimal}
use Rattle.mcbp_frame.specs.declared.frame.Frame.{Frame}
use Rattle.mcbp_frame.specs.declared.frame.TheConstants.{REQUEST}
use Rattle.mcbp_frame.specs.Spelling.{spelling}
use Rattle.mcbp_kv.specs.declared.opcodes.TheConstants.{SET, DELETE}
use Rattle.script_text.specs.declared.verb.Verb.{Verb}
use Rattle.script_text.specs.declared.verb.Verb.TheVariants as verb
use Rattle.script_text.specs.declared.verb.ClientVerb.TheVariants as client_verb

-- the word behind a word
abbrev pub stepped : ℕ → ℕ
stepped x = (x * 6364136223846793005 + 1442695040888963407) % 2 ^ 64

-- a word's write takes a document away
abbrev pub is_removal : ℕ → Bool
is_removal x = x / 2 ^ 33 % 8 == 0

-- the key of a word's write
abbrev pub key_of_word : ℕ → List ℕ
key_of_word x = codes "k" ++ decimal (x / 2 ^ 40 % 1000)

-- flags and expiration of each document: 0, in four bytes each
abbrev pub no_flags : List ℕ
no_flags = 0 ∷ 0 ∷ 0 ∷ 0 ∷ 0 ∷ 0 ∷ 0 ∷ 0 ∷ []

-- a request for vBucket 0, without a CAS and framing extras
abbrev pub plain_request : ℕ → ℕ → List ℕ → List ℕ → List ℕ → Frame
plain_request opcode opaque extras key value = record {
  magic = REQUEST;
  opcode = opcode;
  datatype = 0;
  vb_or_status = 0;
  opaque = opaque;
  cas = 0;
  framing = [];
  extras = extras;
  key = key;
  value = value;
}

-- write i, of the word x: a removal, or the decimal of i is stored
abbrev pub write_request : ℕ → ℕ → Frame
write_request i x =
    if is_removal x then plain_request DELETE i [] (key_of_word x) []
    else plain_request SET i no_flags (key_of_word x) (decimal i)

-- and as a line's verb: client 1 of node 0 sends it
unfoldable pub write_verb : ℕ → ℕ → Verb
write_verb i x = verb.AtClient 0 1 (client_verb.Bytes (spelling (write_request i x)))

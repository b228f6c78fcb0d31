-- what holds of generated scripts, in other words
use Rattle.std.specs.Prelude.{◌≡◌, ◌≢◌, ◌⊎◌, ℕ, ◌+◌, ◌-◌, ◌*◌, ◌/◌, ◌%◌, ◌^◌, ◌<◌, ◌≤◌, Bool, List, [], ◌++◌, length, take, drop, Some, None, Ok, codes, decimal}
use Rattle.std.specs.List.{slice_get}
use Rattle.mcbp_frame.specs.declared.frame.Frame.{Frame}
use Rattle.mcbp_frame.specs.Frames.{whole_frame}
use Rattle.mcbp_kv.specs.Requests.{request_of}
use Rattle.mcbp_kv.specs.declared.request.KvRequest.{KvRequest}
use Rattle.mcbp_kv.specs.declared.request.KvRequest.TheVariants as request
use Rattle.vb_types.specs.declared.write.Op.TheVariants as op
use Rattle.vb_types.specs.declared.write.Write.{Write}
use Rattle.script_text.specs.declared.verb.Verb.{Verb}
use Rattle.script_text.specs.declared.verb.Verb.TheVariants as verb
use Rattle.script_text.specs.declared.verb.ClientVerb.TheVariants as client_verb
use Rattle.script_text.specs.declared.verb.ScriptLine.{ScriptLine}
use Rattle.script_text.specs.Scripts.{IsScript}
use Rattle.script_gen.specs.Writes.{key_of_word, write_verb}
use Rattle.script_gen.specs.Scripts.{opening, carrying, closing, numbered, gen_script}
use Rattle.script_gen.specs.Texts.{word_at, gen_text}

-- the text is a script without a bad line, and says exactly the lines that are generated
abbrev pub GeneratesText : Type 0
GeneratesText = (seed count : ℕ) → count < 2 ^ 32 → IsScript (gen_text seed count) (gen_script seed count)

-- how many lines stand before write i: the first seven, the writes before it, and six lines for each 64 of these
abbrev pub lines_before : ℕ → ℕ
lines_before i = 7 + (i - 1) + 6 * ((i - 1) / 64)

-- how many lines stand before the last two
abbrev pub lines_before_end : ℕ → ℕ
lines_before_end count = 7 + count + 6 * ((count + 63) / 64)

-- where each line stands, with its number
pub record LinesStand (seed count : ℕ) : Type 0 where
  pub many : length (gen_script seed count) ≡ 9 + count + 6 * ((count + 63) / 64)
  pub numbers : (at : ℕ) (line : ScriptLine) → slice_get (gen_script seed count) at ≡ Some line → line.line ≡ at + 1
  pub first : take 7 (gen_script seed count) ≡ numbered 1 opening
  pub write : (i : ℕ) → 1 ≤ i → i ≤ count
      → slice_get (gen_script seed count) (lines_before i) ≡ Some (record { line = lines_before i + 1; verb = write_verb i (word_at seed i) })
  pub carried : (i : ℕ) → 1 ≤ i → i ≤ count → (i % 64 ≡ 0) ⊎ (i ≡ count)
      → take 6 (drop (lines_before i + 1) (gen_script seed count)) ≡ numbered (lines_before i + 2) carrying
  pub last : drop (lines_before_end count) (gen_script seed count) ≡ numbered (lines_before_end count + 1) closing

-- the bytes that client 1 of node 0 sends are one request of this opaque for vBucket 0, and a client's connection reads it so
pub record Asks (v : Verb) (opaque : ℕ) (r : KvRequest) : Type 0 where
  pub bytes : List ℕ
  pub sent : v ≡ verb.AtClient 0 1 (client_verb.Bytes bytes)
  pub frame : Frame
  pub whole : whole_frame bytes ≡ Some frame
  pub opaque_is : frame.opaque ≡ opaque
  pub vb : frame.vb_or_status ≡ 0
  pub read : (json : Bool) → request_of json frame ≡ Ok r

-- the document of a key is to be taken away
abbrev pub removal_of : List ℕ → Write
removal_of key = record { op = op.Delete; key = key; value = []; flags = 0; expiry = 0; datatype = 0; cas = 0 }

-- a document is to be stored
abbrev pub storing : List ℕ → List ℕ → Write
storing key value = record { op = op.Set; key = key; value = value; flags = 0; expiry = 0; datatype = 0; cas = 0 }

-- write i of the word x: exactly where bits 33 to 35 of x are 0 a key's document is taken away, and else the decimal of i is stored; the key is `k` and the last three decimal digits of the number of the bits from 40 on
pub record WritesAsk (i x : ℕ) : Type 0 where
  pub removes : x / 2 ^ 33 % 8 ≡ 0 → Asks (write_verb i x) i (request.Write (removal_of (codes "k" ++ decimal (x / 2 ^ 40 % 1000))) None)
  pub stores : x / 2 ^ 33 % 8 ≢ 0 → Asks (write_verb i x) i (request.Write (storing (codes "k" ++ decimal (x / 2 ^ 40 % 1000)) (decimal i)) None)

-- each key is `k` and a number below 1000, and each such number is in one
pub record KeysAreNumbered : Type 0 where
  pub each : (x : ℕ) → (n : ℕ) × (n < 1000) × (key_of_word x ≡ codes "k" ++ decimal n)
  pub all : (n : ℕ) → n < 1000 → key_of_word (n * 2 ^ 40) ≡ codes "k" ++ decimal n

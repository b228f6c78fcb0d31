-- commands are read as they are spelled
use Rattle.std.proofs.Common.{◌≡◌, ◌≢◌, ℕ, ◌<◌, ◌^◌, Bool, true, false, List, [], ◌++◌, Option, Some, None, Ok, length, take, drop, length-drop, refl, ap, sym, ◌∙◌, subst, ◌⊎◌, inl, inr, arith}
use Rattle.std.specs.Prelude.{◌==◌, ◌%◌}
use Rattle.std.specs.Int.{w32, to_be_bytes, from_be_bytes}
use Rattle.std.proofs.lemmas.Bool.{ltb-false, le-ltb, or_cases, eqb-true}
use Rattle.std.proofs.lemmas.List.{take-append-drop, length-take-le}
use Rattle.std.proofs.lemmas.List.Elements.{All-take, All-drop}
use Rattle.std.proofs.lemmas.Nat.{from_be_bytes-to_be_bytes_4, be_bytes_4}
use Rattle.mcbp_frame.specs.declared.frame.Frame.{Frame}
use Rattle.mcbp_frame.specs.declared.frame.TheConstants.{REQUEST, FRAMED_REQUEST, RESPONSE}
use Rattle.mcbp_frame.specs.Spelling.{Readable}
use Rattle.mcbp_frame.specs.Streams.{AreBytes}
use Rattle.vb_types.specs.Limits.{IsKey, IsValue}
use Rattle.vb_types.specs.declared.key.TheConstants.{MAX_VALUE}
use Rattle.vb_types.specs.declared.write.Op.{Op}
use Rattle.vb_types.specs.declared.write.Op.TheVariants as op
use Rattle.vb_types.specs.declared.write.Write.{Write}
use Rattle.mcbp_kv.specs.Commands.{IsRequired, IsRequest, IsKeyAlone, IsStore, IsRemoval, IsWrite, IsCommand, SpelledIsRead, CommandIsSpelled, HasPartsOf, ReadFits, TimeoutsFit}
use Rattle.mcbp_kv.specs.Features.{pairs}
use Rattle.mcbp_kv.specs.Fitting.{WriteFits, RequestFits}
use Rattle.mcbp_kv.specs.Framing.{requirement_of}
use Rattle.mcbp_kv.specs.Requests.{is_one_of, client_opcodes, write_opcodes, required_of, has_shape, request_by, op_of, removal, stored, request_of}
use Rattle.mcbp_kv.specs.Shapes.{HasDatatype, HasKeyAlone, HasDocument}
use Rattle.mcbp_kv.specs.declared.durable.Durability.{Durability}
use Rattle.mcbp_kv.specs.declared.opcodes.TheConstants.{GET, SET, ADD, REPLACE, DELETE, NOOP, HELLO}
use Rattle.mcbp_kv.specs.declared.request.KvRequest.{KvRequest}
use Rattle.mcbp_kv.specs.declared.request.KvRequest.TheVariants as request
use Rattle.mcbp_kv.proofs.Asked.{Passed, passed, read_passed}
use Rattle.mcbp_kv.proofs.Chosen.{small, bytes_back, codes_small, even_bytes, accepts_few}
use Rattle.mcbp_kv.proofs.Required.{durable_read, durable_spelled, plain_spelled, timeout_fits}
use Rattle.mcbp_kv.proofs.Shapes.{datatype_decides, key_alone, nothing, greeting, old_document, new_document, each_code}

-- a request of a known opcode, with the parts of its row, asks what that row says
pass : (json : Bool) (f : Frame) (code : ℕ) (durable : Option Durability) (r : KvRequest) → IsRequest json f code durable
    → required_of code (requirement_of f.framing) ≡ Ok durable → is_one_of code client_opcodes ≡ true → has_shape code f ≡ true
    → IsValue f.value → request_by code durable f ≡ r → request_of json f ≡ Ok r
pass json f code durable r header required known shape size asks = read_passed json f r (record {
  durable = durable;
  code = ap (λ n. is_one_of n client_opcodes) header.opcode ∙ known;
  datatype = (datatype_decides json f.datatype).1 header.datatype;
  framing = ap (λ n. required_of n (requirement_of f.framing)) header.opcode ∙ required;
  shape = ap (λ n. has_shape n f) header.opcode ∙ shape;
  size = le-ltb MAX_VALUE (length f.value) size;
  asks = ap (λ n. request_by n durable f) header.opcode ∙ asks;
})

no_value : (value : List ℕ) → value ≡ [] → IsValue value
no_value value e = omega (arith, ap length e)

key_form : (f : Frame) (key : List ℕ) → IsKeyAlone f key → HasKeyAlone f
key_form f key h = record { extras = h.extras; key = subst IsKey (sym h.key) h.key_size; value = h.value }

-- and nothing is required of it
plain_pass : (json : Bool) (f : Frame) (code : ℕ) (r : KvRequest) → IsRequest json f code None → is_one_of code client_opcodes ≡ true → has_shape code f ≡ true
    → IsValue f.value → request_by code None f ≡ r → request_of json f ≡ Ok r
unfolding requirement_of
plain_pass json f code r header known shape size asks =
    pass json f code None r header (ap (λ bytes. required_of code (requirement_of bytes)) header.framing) known shape size asks

store_form : (json : Bool) (f : Frame) (code : ℕ) (write : Write) (durable : Option Durability) → IsStore json f code write durable → HasDocument f
store_form json f code write durable h = record { extras = ap length h.extras; key = subst IsKey (sym h.key) h.key_size }

stored_is : (json : Bool) (f : Frame) (code : ℕ) (write : Write) (durable : Option Durability) → IsStore json f code write durable → op_of code ≡ write.op → stored f ≡ write
stored_is json f code write durable h o = (λ i. record {
  op = op_of (h.header.opcode i);
  key = h.key i;
  value = h.value i;
  flags = from_be_bytes w32 (take 4 (h.extras i));
  expiry = from_be_bytes w32 (drop 4 (h.extras i));
  datatype = h.datatype i;
  cas = h.cas i;
}) ∙ (λ i. record {
  op = o i;
  key = write.key;
  value = write.value;
  flags = from_be_bytes-to_be_bytes_4 write.flags h.flags i;
  expiry = from_be_bytes-to_be_bytes_4 write.expiry h.expiration i;
  datatype = write.datatype;
  cas = write.cas;
})

store_read : (json : Bool) (f : Frame) (code : ℕ) (write : Write) (durable : Option Durability) → IsStore json f code write durable
    → is_one_of code client_opcodes ≡ true → is_one_of code write_opcodes ≡ true → has_shape code f ≡ true
    → request_by code durable f ≡ request.Write (stored f) durable → op_of code ≡ write.op → request_of json f ≡ Ok (request.Write write durable)
store_read json f code write durable h known writes shape asks o =
    pass json f code durable (request.Write write durable) h.header (durable_read code f.framing durable writes h.header.framing) known shape
    (subst IsValue (sym h.value) h.value_size) (asks ∙ ap (λ w. request.Write w durable) (stored_is json f code write durable h o))

removal_is : (json : Bool) (f : Frame) (write : Write) (durable : Option Durability) → IsRemoval json f write durable → write.op ≡ op.Delete → removal f ≡ write
removal_is json f write durable h o = λ i. record {
  op = sym o i;
  key = h.parts.key i;
  value = sym h.value i;
  flags = sym h.flags i;
  expiry = sym h.expiration i;
  datatype = h.datatype i;
  cas = h.cas i;
}

write_read : (json : Bool) (f : Frame) (o : Op) (write : Write) (durable : Option Durability) → write.op ≡ o → IsWrite json f o write durable → request_of json f ≡ Ok (request.Write write durable)
write_read json f op.Set write durable o h = store_read json f SET write durable h refl refl ((old_document f).1 (store_form json f SET write durable h)) refl (sym o)
write_read json f op.Add write durable o h =
    store_read json f ADD write durable h.0 refl refl ((new_document f).1 (store_form json f ADD write durable h.0, h.0.cas ∙ h.1)) refl (sym o)
write_read json f op.Replace write durable o h =
    store_read json f REPLACE write durable h refl refl ((old_document f).1 (store_form json f REPLACE write durable h)) refl (sym o)
write_read json f op.Delete write durable o h =
    pass json f DELETE durable (request.Write write durable) h.header (durable_read DELETE f.framing durable refl h.header.framing) refl
    ((key_alone f).1 (key_form f write.key h.parts)) (no_value f.value h.parts.value) (ap (λ w. request.Write w durable) (removal_is json f write durable h o))

-- a frame that is spelled as a command is read as it
pub spelled_is_read : SpelledIsRead
spelled_is_read json f (request.Get key) h =
    plain_pass json f GET (request.Get key) h.header refl ((key_alone f).1 (key_form f key h.parts)) (no_value f.value h.parts.value) (ap request.Get h.parts.key)
spelled_is_read json f (request.Write write durable) h = write_read json f write.op write durable refl h
spelled_is_read json f request.Noop h =
    plain_pass json f NOOP request.Noop h.header refl ((nothing f).1 h.parts) (no_value f.value h.parts.value) refl
spelled_is_read json f (request.Hello features) h =
    plain_pass json f HELLO (request.Hello features) h.header refl ((greeting f).1 (record { extras = h.extras; name = h.name; features = ap (λ v. length v % 2) h.value ∙ even_bytes h.codes }))
    h.value_size (ap request.Hello (sym h.accepts))

-- ---- and what is read is spelled so

below_32 : (bytes : List ℕ) → AreBytes bytes → from_be_bytes w32 bytes < 2 ^ 32
below_32 bytes h = let s = small bytes h in omega (arith, s 0, s 1, s 2, s 3)

-- eight bytes are two numbers of four
two_numbers : (extras : List ℕ) → AreBytes extras → length extras ≡ 8 → extras ≡ to_be_bytes w32 (from_be_bytes w32 (take 4 extras)) ++ to_be_bytes w32 (from_be_bytes w32 (drop 4 extras))
two_numbers extras bytes eight =
    let four : length (take 4 extras) ≡ 4 = length-take-le 4 extras (omega (arith, eight)) in
    let more : length (drop 4 extras) ≡ 4 = omega (arith, eight, length-drop 4 extras) in
    let front = be_bytes_4 (take 4 extras) (from_be_bytes w32 (take 4 extras)) four (small _ (All-take (λ b. b < 256) 4 extras bytes)) refl in
    let back = be_bytes_4 (drop 4 extras) (from_be_bytes w32 (drop 4 extras)) more (small _ (All-drop (λ b. b < 256) 4 extras bytes)) refl in
    sym (take-append-drop 4 extras) ∙ (λ i. sym front i ++ sym back i)

-- a document's write, with its operation
abbrev stored_as : Op → Frame → Write
stored_as o f = record {
  op = o;
  key = f.key;
  value = f.value;
  flags = from_be_bytes w32 (take 4 f.extras);
  expiry = from_be_bytes w32 (drop 4 f.extras);
  datatype = f.datatype;
  cas = f.cas;
}

-- what a frame's parts are known to be
record IsFine (json : Bool) (f : Frame) : Type 0 where
  bytes : AreBytes f.extras
  datatype : HasDatatype json f.datatype
  value : IsValue f.value

fine : (json : Bool) (f : Frame) (r : KvRequest) → AreBytes f.extras → Passed json f r → IsFine json f
fine json f r bytes p = record {
  bytes = bytes;
  datatype = (datatype_decides json f.datatype).0 p.datatype;
  value = ltb-false MAX_VALUE (length f.value) p.size;
}

IsMagic : Frame → Type 0
IsMagic f = (f.magic ≡ REQUEST) ⊎ (f.magic ≡ FRAMED_REQUEST)

magic_of : (f : Frame) → Readable f → f.magic ≢ RESPONSE → IsMagic f
unfolding IsMagic
magic_of f h request = elim (or_cases _ (f.magic == RESPONSE) h.magic) [
  | inl a ↦ elim (or_cases (f.magic == REQUEST) (f.magic == FRAMED_REQUEST) a) [
    | inl b ↦ inl (eqb-true f.magic REQUEST b)
    | inr b ↦ inr (eqb-true f.magic FRAMED_REQUEST b)
  ]
  | inr a ↦ absurd (request (eqb-true f.magic RESPONSE a))
]

header_of : (json : Bool) (f : Frame) (code : ℕ) (durable : Option Durability) → IsMagic f → IsFine json f → IsRequired f.framing durable → f.opcode ≡ code → IsRequest json f code durable
unfolding IsMagic
header_of json f code durable magic h required e = record { magic = magic; opcode = e; datatype = h.datatype; framing = required }

alone_of : (f : Frame) → HasKeyAlone f → IsKeyAlone f f.key
alone_of f h = record { extras = h.extras; key = refl; key_size = h.key; value = h.value }

store_of : (json : Bool) (f : Frame) (code : ℕ) (o : Op) (durable : Option Durability) → IsMagic f → IsFine json f → IsRequired f.framing durable → f.opcode ≡ code → HasDocument f
    → IsStore json f code (stored_as o f) durable
store_of json f code o durable magic h required e form = record {
  header = header_of json f code durable magic h required e;
  flags = below_32 (take 4 f.extras) (All-take (λ b. b < 256) 4 f.extras h.bytes);
  expiration = below_32 (drop 4 f.extras) (All-drop (λ b. b < 256) 4 f.extras h.bytes);
  extras = two_numbers f.extras h.bytes form.extras;
  key = refl;
  key_size = form.key;
  value = refl;
  value_size = h.value;
  datatype = refl;
  cas = refl;
}

-- a request of a store is that of its frame, with the operation of its opcode
command_is_stored : (json : Bool) (f : Frame) (code : ℕ) (o : Op) (durable : Option Durability) (r : KvRequest) → f.opcode ≡ code → op_of code ≡ o → request.Write (stored f) durable ≡ r
    → IsCommand json f (request.Write (stored_as o f) durable) → IsCommand json f r
command_is_stored json f code o durable r e is asks h = subst (IsCommand json f) ((λ i. request.Write (stored_as ((sym is ∙ ap op_of (sym e)) i) f) durable) ∙ asks) h

-- a frame of bytes that is read as a command is spelled as it
pub command_is_spelled : CommandIsSpelled
command_is_spelled json f r readable request framing bytes value h =
    let p = passed json f r h in
    let m = magic_of f readable request in
    let g = fine json f r bytes p in
    let d = p.durable in
    let q = durable_spelled f.opcode f.framing d framing p.framing in
    let plain = λ (n : ℕ) (e : f.opcode ≡ n) (t : is_one_of n write_opcodes ≡ false). plain_spelled f.opcode f.framing d (ap (λ n. is_one_of n write_opcodes) e ∙ t) p.framing in
    each_code (λ n. f.opcode ≡ n → has_shape n f ≡ true → request_by n d f ≡ r → IsCommand json f r)
    (λ e s a. subst (IsCommand json f) a (record { header = header_of json f GET None m g (plain GET e refl) e; parts = alone_of f ((key_alone f).0 s) }))
    (λ e s a. command_is_stored json f SET op.Set d r e refl a (store_of json f SET op.Set d m g q e ((old_document f).0 s)))
    (λ e s a. let form = (new_document f).0 s in command_is_stored json f ADD op.Add d r e refl a (store_of json f ADD op.Add d m g q e form.0, form.1))
    (λ e s a. command_is_stored json f REPLACE op.Replace d r e refl a (store_of json f REPLACE op.Replace d m g q e ((old_document f).0 s)))
    (λ e s a. subst (IsCommand json f) a (record {
      header = header_of json f DELETE d m g q e;
      parts = alone_of f ((key_alone f).0 s);
      value = refl;
      flags = refl;
      expiration = refl;
      datatype = refl;
      cas = refl;
    }))
    (λ e s a. subst (IsCommand json f) a (record { header = header_of json f NOOP None m g (plain NOOP e refl) e; parts = (nothing f).0 s }))
    (λ e s a. let hello = (greeting f).0 s in subst (IsCommand json f) a (record {
      header = header_of json f HELLO None m g (plain HELLO e refl) e;
      extras = hello.extras;
      name = hello.name;
      codes = pairs f.value;
      numbers = codes_small f.value value;
      value = sym (bytes_back f.value value hello.features);
      value_size = g.value;
      accepts = refl;
    }))
    f.opcode p.code refl p.shape p.asks

-- ---- what is read fits

datatype_fits : (json : Bool) (datatype : ℕ) → HasDatatype json datatype → datatype < 2
datatype_fits json datatype (inl e) = omega (arith, e)
datatype_fits json datatype (inr e) = omega (arith, e.1)

store_fits : (json : Bool) (f : Frame) → Readable f → IsFine json f → HasDocument f → WriteFits (stored f)
store_fits json f readable h form = record {
  key = form.key;
  value = h.value;
  flags = below_32 (take 4 f.extras) (All-take (λ b. b < 256) 4 f.extras h.bytes);
  expiry = below_32 (drop 4 f.extras) (All-drop (λ b. b < 256) 4 f.extras h.bytes);
  datatype = datatype_fits json f.datatype h.datatype;
  cas = readable.cas;
}

removal_fits : (json : Bool) (f : Frame) → Readable f → IsFine json f → HasKeyAlone f → WriteFits (removal f)
removal_fits json f readable fine h =
    record { key = h.key; value = omega arith; flags = omega arith; expiry = omega arith; datatype = datatype_fits json f.datatype fine.datatype; cas = readable.cas }

Fitting : Frame → KvRequest → Type 0
Fitting f r = RequestFits r × HasPartsOf f r

fits : (f : Frame) (r asked : KvRequest) → asked ≡ r → RequestFits asked → HasPartsOf f asked → RequestFits r × HasPartsOf f r
unfolding Fitting
fits f r asked e h parts = subst (Fitting f) e (h, parts)

pub read_fits : ReadFits
read_fits json f r readable bytes h =
    let p = passed json f r h in
    let g = fine json f r bytes p in
    each_code (λ n. has_shape n f ≡ true → request_by n p.durable f ≡ r → RequestFits r × HasPartsOf f r)
    (λ s a. fits f r _ a ((key_alone f).0 s).key refl)
    (λ s a. fits f r _ a (store_fits json f readable g ((old_document f).0 s)) (refl, refl))
    (λ s a. fits f r _ a (store_fits json f readable g ((new_document f).0 s).0) (refl, refl))
    (λ s a. fits f r _ a (store_fits json f readable g ((old_document f).0 s)) (refl, refl))
    (λ s a. fits f r _ a (removal_fits json f readable g ((key_alone f).0 s)) (refl, ((key_alone f).0 s).value))
    (λ s a. fits f r _ a tt ((nothing f).0 s).value)
    (λ s a. fits f r _ a (accepts_few f.value) refl)
    f.opcode p.code p.shape p.asks

-- ---- timeouts

-- a write requires what its frame does
required_is : (opcode : ℕ) (durable : Option Durability) (f : Frame) (write : Write) (d : Durability) → is_one_of opcode client_opcodes ≡ true
    → request_by opcode durable f ≡ request.Write write (Some d) → durable ≡ Some d
required_is opcode durable f write d code = each_code (λ n. request_by n durable f ≡ request.Write write (Some d) → durable ≡ Some d)
    (λ a. absurd (cc a)) (λ a. cc a) (λ a. cc a) (λ a. cc a) (λ a. cc a) (λ a. absurd (cc a)) (λ a. absurd (cc a)) opcode code

pub timeouts_fit : TimeoutsFit
timeouts_fit json f write d framing h =
    let p = passed json f (request.Write write (Some d)) h in
    let some = required_is f.opcode p.durable f write d p.code p.asks in
    timeout_fits f.framing d (subst (IsRequired f.framing) some (durable_spelled f.opcode f.framing p.durable framing p.framing))

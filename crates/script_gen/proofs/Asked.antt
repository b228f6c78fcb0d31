-- what writes ask
use Rattle.std.proofs.Common.{◌≡◌, ℕ, ◌/◌, ◌%◌, ◌^◌, ◌<◌, ◌≤◌, Bool, true, false, List, [], length, None, refl, inl, arith}
use Rattle.std.specs.Prelude.{if◌then◌else◌, decimal}
use Rattle.std.proofs.lemmas.Bool.{eq-eqb, ne_eqb}
use Rattle.mcbp_frame.specs.declared.frame.Frame.{Frame}
use Rattle.mcbp_frame.specs.Spelling.{spelling, Readable}
use Rattle.mcbp_frame.proofs.Cases.{is_whole}
use Rattle.mcbp_kv.specs.Commands.{IsRequest, IsWrite}
use Rattle.mcbp_kv.specs.declared.opcodes.TheConstants.{SET, DELETE}
use Rattle.mcbp_kv.specs.declared.request.KvRequest.TheVariants as request
use Rattle.mcbp_kv.proofs.Commands.{spelled_is_read}
use Rattle.vb_types.specs.declared.write.Write.{Write}
use Rattle.script_text.specs.declared.verb.Verb.{Verb}
use Rattle.script_text.specs.declared.verb.Verb.TheVariants as verb
use Rattle.script_text.specs.declared.verb.ClientVerb.TheVariants as client_verb
use Rattle.script_gen.specs.Writes.{is_removal, key_of_word, no_flags, plain_request, write_verb}
use Rattle.script_gen.specs.Laws.{Asks, removal_of, storing, WritesAsk}
use Rattle.script_gen.proofs.Numbers.{short_value, short_key}

asks : (v : Verb) (f : Frame) (w : Write) → v ≡ verb.AtClient 0 1 (client_verb.Bytes (spelling f)) → Readable f → f.vb_or_status ≡ 0
    → ((json : Bool) → IsWrite json f w.op w None) → Asks v f.opaque (request.Write w None)
asks v f w sent readable vb spelled = record {
  bytes = spelling f;
  sent = sent;
  frame = f;
  whole = is_whole (spelling f) f (readable, refl);
  opaque_is = refl;
  vb = vb;
  read = λ json. spelled_is_read json f (request.Write w None) (spelled json);
}

-- a request of few bytes can be read
readable : (opcode i : ℕ) (extras key value : List ℕ) → i < 2 ^ 32 → length extras ≤ 8 → length key ≤ 4 → length value ≤ 10 → Readable (plain_request opcode i extras key value)
readable opcode i extras key value small e k v = record {
  fits = record { framing = omega arith; extras = omega (arith, e); key = omega (arith, k); body = omega (arith, e, k, v) };
  magic = refl;
  limit = omega (arith, e, k, v);
  vb_or_status = omega arith;
  opaque = small;
  cas = omega arith;
}

header : (json : Bool) (opcode i : ℕ) (extras key value : List ℕ) → IsRequest json (plain_request opcode i extras key value) opcode None
header json opcode i extras key value = record { magic = inl refl; opcode = refl; datatype = inl refl; framing = refl }

short : (x : ℕ) → length (key_of_word x) ≤ 4
short x = let digits = short_key (x / 2 ^ 40) in omega (arith, digits)

removes : (i x : ℕ) → i < 2 ^ 32 → is_removal x ≡ true → Asks (write_verb i x) i (request.Write (removal_of (key_of_word x)) None)
unfolding write_verb
removes i x small e =
    asks (write_verb i x) (plain_request DELETE i [] (key_of_word x) []) (removal_of (key_of_word x))
    (λ k. verb.AtClient 0 1 (client_verb.Bytes (spelling (if e k then plain_request DELETE i [] (key_of_word x) [] else plain_request SET i no_flags (key_of_word x) (decimal i)))))
    (readable DELETE i [] (key_of_word x) [] small (omega arith) (short x) (omega arith)) refl
    (λ json. record {
      header = header json DELETE i [] (key_of_word x) [];
      parts = record { extras = refl; key = refl; key_size = (omega arith, (let few = short x in omega (arith, few))); value = refl };
      value = refl;
      flags = refl;
      expiration = refl;
      datatype = refl;
      cas = refl;
    })

stores : (i x : ℕ) → i < 2 ^ 32 → is_removal x ≡ false → Asks (write_verb i x) i (request.Write (storing (key_of_word x) (decimal i)) None)
unfolding write_verb
stores i x small e =
    asks (write_verb i x) (plain_request SET i no_flags (key_of_word x) (decimal i)) (storing (key_of_word x) (decimal i))
    (λ k. verb.AtClient 0 1 (client_verb.Bytes (spelling (if e k then plain_request DELETE i [] (key_of_word x) [] else plain_request SET i no_flags (key_of_word x) (decimal i)))))
    (readable SET i no_flags (key_of_word x) (decimal i) small (omega arith) (short x) (short_value i small)) refl
    (λ json. record {
      header = header json SET i no_flags (key_of_word x) (decimal i);
      flags = omega arith;
      expiration = omega arith;
      extras = refl;
      key = refl;
      key_size = (omega arith, (let few = short x in omega (arith, few)));
      value = refl;
      value_size = (let few = short_value i small in omega (arith, few));
      datatype = refl;
      cas = refl;
    })

pub writes_ask : (i x : ℕ) → i < 2 ^ 32 → WritesAsk i x
writes_ask i x small = record {
  removes = λ e. removes i x small (eq-eqb (x / 2 ^ 33 % 8) 0 e);
  stores = λ ne. stores i x small (ne_eqb (x / 2 ^ 33 % 8) 0 ne);
}

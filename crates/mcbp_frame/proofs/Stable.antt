-- more bytes behind a frame or a fault change neither
use Rattle.std.proofs.Common.{◌≡◌, ℕ, ◌+◌, ◌<◌, ◌≤◌, Bool, true, false, List, ◌++◌, length, take, drop, refl, ap, sym, ◌∙◌, arith, cond, length-drop, length-append}
use Rattle.std.specs.Prelude.{Some, None, Result, Ok, slice_index, slice_range, nat_lt, ◌==◌}
use Rattle.std.specs.Int.{w16, w32, w64, from_be_bytes}
use Rattle.std.proofs.Math.ListN.{get_or-append}
use Rattle.std.proofs.Math.Seq.{take-append_seam}
use Rattle.std.proofs.lemmas.List.{take-append-le, drop-append-le}
use Rattle.std.proofs.lemmas.Bool.Decides.{nat_tests}
use Rattle.bytes.proofs.Ranges.{slice_range_front}
use Rattle.mcbp_frame.specs.declared.frame.Frame.{Frame}
use Rattle.mcbp_frame.specs.declared.frame.FrameFault.{FrameFault}
use Rattle.mcbp_frame.specs.Frames.{is_magic, first_frame, part, parts_len, big_16_at, framing_len, key_len, extras_len, body_len, extras_at, key_at, value_at, frame_of}
use Rattle.mcbp_frame.proofs.SixTests.{picked, is_picked, is_empty, is_short, is_long, is_bad, is_missing}

pub byte_same : (bs more : List ℕ) (n : ℕ) → n < length bs → slice_index (bs ++ more) n ≡ slice_index bs n
byte_same bs more n h = get_or-append bs more 0 n h

pub part_same : (bs more : List ℕ) (at n : ℕ) → at + n ≤ length bs → part (bs ++ more) at n ≡ part bs at n
part_same bs more at n h =
    let far : at ≤ length bs = omega arith in
    let fits : n ≤ length (drop at bs) = omega (arith, length-drop at bs) in
    ap (take n) (drop-append-le at bs more far) ∙ take-append-le n (drop at bs) more fits

range_same : (bs more : List ℕ) (a b : ℕ) → b ≤ length bs → slice_range (bs ++ more) a b ≡ slice_range bs a b
range_same bs more a b h = sym (slice_range_front bs (bs ++ more) a b (length bs) (take-append_seam bs more) h)

framing_same : (bs more : List ℕ) → 24 ≤ length bs → framing_len (bs ++ more) ≡ framing_len bs
framing_same bs more h =
    let e0 : slice_index (bs ++ more) 0 ≡ slice_index bs 0 = byte_same bs more 0 (omega arith) in
    let e2 : slice_index (bs ++ more) 2 ≡ slice_index bs 2 = byte_same bs more 2 (omega arith) in
    λ i. cond (e0 i == 8) (e2 i) 0

key_same : (bs more : List ℕ) → 24 ≤ length bs → key_len (bs ++ more) ≡ key_len bs
key_same bs more h =
    let e0 : slice_index (bs ++ more) 0 ≡ slice_index bs 0 = byte_same bs more 0 (omega arith) in
    let e3 : slice_index (bs ++ more) 3 ≡ slice_index bs 3 = byte_same bs more 3 (omega arith) in
    let k : big_16_at (bs ++ more) 2 ≡ big_16_at bs 2 = ap (from_be_bytes w16) (part_same bs more 2 2 (omega arith)) in
    λ i. cond (e0 i == 8) (e3 i) (k i)

body_same : (bs more : List ℕ) → 24 ≤ length bs → body_len (bs ++ more) ≡ body_len bs
body_same bs more h = ap (from_be_bytes w32) (part_same bs more 8 4 (omega arith))

parts_same : (bs more : List ℕ) → 24 ≤ length bs → parts_len (bs ++ more) ≡ parts_len bs
parts_same bs more h =
    let f : framing_len (bs ++ more) ≡ framing_len bs = framing_same bs more h in
    let x : extras_len (bs ++ more) ≡ extras_len bs = byte_same bs more 4 (omega arith) in
    let k : key_len (bs ++ more) ≡ key_len bs = key_same bs more h in
    λ i. f i + x i + k i

-- a whole frame is the same, whatever follows it
frame_same : (bs more : List ℕ) → 24 + body_len bs ≤ length bs → parts_len bs ≤ body_len bs → frame_of (bs ++ more) ≡ frame_of bs
unfolding frame_of
frame_same bs more h p =
    let long : 24 ≤ length bs = omega arith in
    let f : framing_len (bs ++ more) ≡ framing_len bs = framing_same bs more long in
    let x : extras_len (bs ++ more) ≡ extras_len bs = byte_same bs more 4 (omega arith) in
    let k : key_len (bs ++ more) ≡ key_len bs = key_same bs more long in
    let b : body_len (bs ++ more) ≡ body_len bs = body_same bs more long in
    let parts : (a c : ℕ) → c ≤ length bs → slice_range (bs ++ more) a c ≡ slice_range bs a c = range_same bs more in
    let framing = ap (λ e. slice_range (bs ++ more) 24 (24 + e)) f ∙ parts 24 (24 + framing_len bs) (omega arith) in
    let e1 : extras_at (bs ++ more) ≡ extras_at bs = ap (λ n. 24 + n) f in
    let e2 : key_at (bs ++ more) ≡ key_at bs = λ i. e1 i + x i in
    let e3 : value_at (bs ++ more) ≡ value_at bs = λ i. e2 i + k i in
    λ i. record {
      magic = byte_same bs more 0 (omega arith) i;
      opcode = byte_same bs more 1 (omega arith) i;
      datatype = byte_same bs more 5 (omega arith) i;
      vb_or_status = from_be_bytes w16 (part_same bs more 6 2 (omega arith) i);
      opaque = from_be_bytes w32 (part_same bs more 12 4 (omega arith) i);
      cas = from_be_bytes w64 (part_same bs more 16 8 (omega arith) i);
      framing = framing i;
      extras = ((λ j. slice_range (bs ++ more) (e1 j) (e2 j)) ∙ parts (extras_at bs) (key_at bs) (omega arith)) i;
      key = ((λ j. slice_range (bs ++ more) (e2 j) (e3 j)) ∙ parts (key_at bs) (value_at bs) (omega arith)) i;
      value = ((λ j. slice_range (bs ++ more) (e3 j) (24 + b j)) ∙ parts (value_at bs) (24 + body_len bs) (omega arith)) i;
    }

-- behind a header without fault the body is there, whatever follows
stable_body : (bs more : List ℕ) (r : Result Frame FrameFault) (long bad missing : Bool) → body_len (bs ++ more) ≡ body_len bs → 24 ≤ length bs → is_bad bs ≡ bad → is_missing bs ≡ missing
    → picked false true false long bad missing (frame_of bs) ≡ Some r → picked false true false long bad (is_missing (bs ++ more)) (frame_of (bs ++ more)) ≡ Some r
stable_body bs more r true bad missing body far tp tw e = e
stable_body bs more r false true missing body far tp tw e = e
stable_body bs more r false false true body far tp tw e = cc
stable_body bs more r false false false body far tp tw e =
    let fits : 24 + body_len bs ≤ length bs = grind (arith, nat_tests) in
    let parts : parts_len bs ≤ body_len bs = grind (arith, nat_tests) in
    let there : is_missing (bs ++ more) ≡ false = grind (arith, nat_tests, length-append bs more) in
    (λ i. cond (there i) None (Some (Ok (frame_same bs more fits parts i)))) ∙ e

-- each test that decides says the same, whatever follows
stable_by : (bs more : List ℕ) (r : Result Frame FrameFault) (empty known short long bad missing : Bool)
    → is_empty bs ≡ empty → is_magic (slice_index bs 0) ≡ known → is_short bs ≡ short → is_long bs ≡ long → is_bad bs ≡ bad → is_missing bs ≡ missing
    → picked empty known short long bad missing (frame_of bs) ≡ Some r → first_frame (bs ++ more) ≡ Some r
stable_by bs more r true known short long bad missing t0 tm t24 tl tp tw e = cc
stable_by bs more r false false short long bad missing t0 tm t24 tl tp tw e =
    let some : 0 < length bs = grind (arith, nat_tests) in
    let u0 : is_empty (bs ++ more) ≡ false = grind (arith, nat_tests, length-append bs more) in
    let um : is_magic (slice_index (bs ++ more) 0) ≡ false = ap is_magic (byte_same bs more 0 some) ∙ tm in
    is_picked (bs ++ more) ∙ (λ i. picked (u0 i) (um i) (is_short (bs ++ more)) (is_long (bs ++ more)) (is_bad (bs ++ more)) (is_missing (bs ++ more)) (frame_of (bs ++ more))) ∙ e
stable_by bs more r false true true long bad missing t0 tm t24 tl tp tw e = cc
stable_by bs more r false true false long bad missing t0 tm t24 tl tp tw e =
    let far : 24 ≤ length bs = grind (arith, nat_tests) in
    let u0 : is_empty (bs ++ more) ≡ false = grind (arith, nat_tests, length-append bs more) in
    let um : is_magic (slice_index (bs ++ more) 0) ≡ true = ap is_magic (byte_same bs more 0 (omega arith)) ∙ tm in
    let u24 : is_short (bs ++ more) ≡ false = grind (arith, nat_tests, length-append bs more) in
    let body : body_len (bs ++ more) ≡ body_len bs = body_same bs more far in
    let parts : parts_len (bs ++ more) ≡ parts_len bs = parts_same bs more far in
    let ul : is_long (bs ++ more) ≡ long = ap (nat_lt 22020096) body ∙ tl in
    let up : is_bad (bs ++ more) ≡ bad = (λ i. nat_lt (body i) (parts i)) ∙ tp in
    is_picked (bs ++ more) ∙ (λ i. picked (u0 i) (um i) (u24 i) (ul i) (up i) (is_missing (bs ++ more)) (frame_of (bs ++ more))) ∙ stable_body bs more r long bad missing body far tp tw e

pub stable : (bs more : List ℕ) (r : Result Frame FrameFault) → first_frame bs ≡ Some r → first_frame (bs ++ more) ≡ Some r
stable bs more r e = stable_by bs more r _ _ _ _ _ _ refl refl refl refl refl refl (sym (is_picked bs) ∙ e)

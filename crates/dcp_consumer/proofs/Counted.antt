-- which bytes count, and how they are acknowledged
use Rattle.std.proofs.Common.{◌≡◌, ◌≢◌, ℕ, ◌+◌, ◌<◌, ◌≤◌, Bool, true, false, List, [], ◌∷◌, ◌++◌, refl, sym, ap, ◌∙◌, subst, inl, inr, ⊎_elim, length, map, take, get_or, arith}
use Rattle.std.specs.Prelude.{◌↔◌, ◌-◌, ◌^◌, ◌==◌, ◌||◌, not, if◌then◌else◌, min, IsTrue}
use Rattle.std.specs.List.{All, concat}
use Rattle.std.proofs.lemmas.Bool.{eq-eqb, ne_eqb, eqb-true, and_parts, and_from, or_cases}
use Rattle.std.proofs.lemmas.List.{length-append}
use Rattle.std.proofs.lemmas.List.Elements.{All-head, All-tail}
use Rattle.std.proofs.lemmas.List.Sums.{sum_by_more, sum_by-append, sum_by-cons}
use Rattle.mcbp_frame.specs.declared.frame.Frame.{Frame}
use Rattle.mcbp_frame.specs.Spelling.{spelling}
use Rattle.mcbp_frame.proofs.Cases.{length-spelling}
use Rattle.mcbp_dcp.specs.declared.message.DcpMsg.{DcpMsg}
use Rattle.mcbp_dcp.specs.declared.message.DcpMsg.TheVariants as msg
use Rattle.mcbp_dcp.specs.declared.message.StreamVerdict.TheVariants as told
use Rattle.mcbp_dcp.specs.DcpFrames.{dcp_frame}
use Rattle.mcbp_dcp.proofs.DcpBack.{message_back}
use Rattle.dcp_consumer.specs.Machine.{PlainConsumer}
use Rattle.dcp_consumer.specs.Counting.{is_stream_opcode, is_counted, counted_len, counted_bytes, bytes_acknowledged, IsStreamOpcode, Counts, CountsAsMessage, IsBufferAcknowledgement, buffer_acknowledgement_bytes}

-- how long a frame is as bytes
pub spelled_len : (f : Frame) → length (spelling f) ≡ 24 + (length f.framing + length f.extras + length f.key + length f.value)
spelled_len f = length-spelling f

-- ---- which frames count

-- one of the first opcodes, two to seven of them
abbrev two : ℕ → Bool
two n = n == 0x55 || n == 0x56

abbrev three : ℕ → Bool
three n = two n || n == 0x57

abbrev four : ℕ → Bool
four n = three n || n == 0x58

abbrev five : ℕ → Bool
five n = four n || n == 0x5b

abbrev six : ℕ → Bool
six n = five n || n == 0x60

abbrev seven : ℕ → Bool
seven n = six n || n == 0x62

-- one of them, or the next one
either : (n k : ℕ) (b : Bool) (A : Type 0) → (b ≡ true → A) → (n ≡ k → A) → (b || n == k) ≡ true → A
either n k b A before here e = ⊎_elim before (λ t. here (eqb-true n k t)) (or_cases b (n == k) e)

opcode_so : (n : ℕ) → is_stream_opcode n ≡ true → IsStreamOpcode n
opcode_so n =
    either n 0x63 (seven n) (IsStreamOpcode n)
    (either n 0x62 (six n) (IsStreamOpcode n)
    (either n 0x60 (five n) (IsStreamOpcode n)
    (either n 0x5b (four n) (IsStreamOpcode n)
    (either n 0x58 (three n) (IsStreamOpcode n)
    (either n 0x57 (two n) (IsStreamOpcode n)
    (either n 0x56 (n == 0x55) (IsStreamOpcode n) (λ t. inl (eqb-true n 0x55 t)) (λ e. inr (inl e)))
    (λ e. inr (inr (inl e))))
    (λ e. inr (inr (inr (inl e)))))
    (λ e. inr (inr (inr (inr (inl e))))))
    (λ e. inr (inr (inr (inr (inr (inl e)))))))
    (λ e. inr (inr (inr (inr (inr (inr (inl e))))))))
    (λ e. inr (inr (inr (inr (inr (inr (inr e)))))))

opcode_back : (n : ℕ) → IsStreamOpcode n → is_stream_opcode n ≡ true
opcode_back n (inl e) = ap is_stream_opcode e
opcode_back n (inr (inl e)) = ap is_stream_opcode e
opcode_back n (inr (inr (inl e))) = ap is_stream_opcode e
opcode_back n (inr (inr (inr (inl e)))) = ap is_stream_opcode e
opcode_back n (inr (inr (inr (inr (inl e))))) = ap is_stream_opcode e
opcode_back n (inr (inr (inr (inr (inr (inl e)))))) = ap is_stream_opcode e
opcode_back n (inr (inr (inr (inr (inr (inr (inl e))))))) = ap is_stream_opcode e
opcode_back n (inr (inr (inr (inr (inr (inr (inr e))))))) = ap is_stream_opcode e

no_answer : (n : ℕ) → not (n == 0x81) ≡ true → n ≢ 0x81
no_answer n t e = let never : not true ≡ true = sym (ap not (eq-eqb n 0x81 e)) ∙ t in cc

pub counts : (f : Frame) → IsTrue (is_counted f) ↔ Counts f
counts f = (
  λ t. let parts = and_parts (not (f.magic == 0x81)) (is_stream_opcode f.opcode) t in (no_answer f.magic parts.0, opcode_so f.opcode parts.1),
  λ p. and_from (not (f.magic == 0x81)) (is_stream_opcode f.opcode) (ap not (ne_eqb f.magic 0x81 p.0)) (opcode_back f.opcode p.1),
)

pub messages : (m : DcpMsg) (opaque vb : ℕ) → IsTrue (is_counted (dcp_frame m opaque vb)) ↔ CountsAsMessage m
unfolding dcp_frame
messages (msg.StreamEnd reason) opaque vb = (λ t. tt, λ u. refl)
messages (msg.SnapshotMarker start end flags) opaque vb = (λ t. tt, λ u. refl)
messages (msg.Mutation change) opaque vb = (λ t. tt, λ u. refl)
messages (msg.Deletion change) opaque vb = (λ t. tt, λ u. refl)
messages (msg.SetVbucketState role) opaque vb = (λ t. tt, λ u. refl)
messages (msg.Prepare change) opaque vb = (λ t. tt, λ u. refl)
messages (msg.Commit change) opaque vb = (λ t. tt, λ u. refl)
messages (msg.Abort change) opaque vb = (λ t. tt, λ u. refl)
messages (msg.StreamAnswer (told.Go log)) opaque vb = (λ t. cc, λ u. absurd u)
messages (msg.StreamAnswer (told.Roll point)) opaque vb = (λ t. cc, λ u. absurd u)
messages (msg.StreamAnswer (told.Refused status)) opaque vb = (λ t. cc, λ u. absurd u)
messages other opaque vb = (λ t. cc, λ u. absurd u)

-- ---- how many bytes of them

len_by : (f : Frame) (b : Bool) → is_counted f ≡ b → counted_len f ≡ (if b then length (spelling f) else 0)
len_by f b e = ap (λ t. if t then length (spelling f) else 0) e

pub one_counts : (f : Frame) → Counts f → counted_bytes (f ∷ []) ≡ 24 + (length f.framing + length f.extras + length f.key + length f.value)
unfolding counted_bytes
one_counts f p = let len = len_by f true ((counts f).1 p) in omega (arith, len, spelled_len f)

none_by : (f : Frame) (b : Bool) → (Counts f → ⊥) → is_counted f ≡ b → counted_len f ≡ 0
none_by f true never e = absurd (never ((counts f).0 e))
none_by f false never e = len_by f false e

pub one_does_not : (f : Frame) → (Counts f → ⊥) → counted_bytes (f ∷ []) ≡ 0
unfolding counted_bytes
one_does_not f never = let len = none_by f (is_counted f) never refl in omega (arith, len)

pub all_count : (fs : List Frame) → All Counts fs → counted_bytes fs ≡ length (concat (map spelling fs))
unfolding counted_bytes
all_count [] a = refl
all_count (f ∷ fs) a =
    let len = len_by f true ((counts f).1 (All-head Counts f fs a)) in
    omega (arith, sum_by-cons counted_len f fs, len, all_count fs (All-tail Counts f fs a), length-append (spelling f) (concat (map spelling fs)))

pub both_count : (fs gs : List Frame) → counted_bytes (fs ++ gs) ≡ counted_bytes fs + counted_bytes gs
unfolding counted_bytes
both_count fs gs = sum_by-append counted_len fs gs

-- ---- the sum in the code

more_counted : (fs : List Frame) (i : ℕ) (f : Frame) → i < length fs → f ≡ get_or fs i f → counted_bytes (take (i + 1) fs) ≡ counted_bytes (take i fs) + counted_len f
unfolding counted_bytes
more_counted fs i f below is = sum_by_more counted_len fs i f below ∙ ap (λ g. counted_bytes (take i fs) + counted_len g) (sym is)

-- a sum of two numbers that were cut off is cut off where theirs is
clipped : (a b : ℕ) → min (min a (2 ^ 32 - 1) + min b (2 ^ 32 - 1)) (2 ^ 32 - 1) ≡ min (a + b) (2 ^ 32 - 1)
clipped a b = grind arith

pub sum_next : (fs : List Frame) (i : ℕ) (f : Frame) (bytes len : ℕ) → i < length fs → f ≡ get_or fs i f → bytes ≡ min (counted_bytes (take i fs)) (2 ^ 32 - 1) → len ≡ min (counted_len f) (2 ^ 32 - 1)
    → min (bytes + len) (2 ^ 32 - 1) ≡ min (counted_bytes (take (i + 1) fs)) (2 ^ 32 - 1)
sum_next fs i f bytes len below is so_far next =
    (λ j. min (so_far j + next j) (2 ^ 32 - 1)) ∙ clipped (counted_bytes (take i fs)) (counted_len f) ∙ ap (λ n. min n (2 ^ 32 - 1)) (sym (more_counted fs i f below is))

-- ---- the acknowledgement

acknowledgement_is : (n opaque : ℕ) → n < 2 ^ 32 → IsBufferAcknowledgement n opaque (spelling (dcp_frame (msg.BufferAcknowledgement n) opaque 0))
unfolding dcp_frame
acknowledgement_is n opaque fits = record {
  frame = dcp_frame (msg.BufferAcknowledgement n) opaque 0;
  spelled = refl;
  magic = refl;
  opcode = refl;
  opaque_is = refl;
  vb = refl;
  extras = refl;
  bare = (refl, refl, refl, refl, refl);
  read = message_back (msg.BufferAcknowledgement n) opaque 0 tt fits;
}

within : (n : ℕ) → n < 2 ^ 32 → n ≡ min n (2 ^ 32 - 1)
within n fits = grind (arith, fits)

above : (n : ℕ) → 4294967295 ≤ n → min n (2 ^ 32 - 1) ≡ 4294967295
above n most = grind (arith, most)

again : (n : ℕ) → min (min n (2 ^ 32 - 1)) (2 ^ 32 - 1) ≡ min n (2 ^ 32 - 1)
again n = grind arith

pub acknowledges : (c : PlainConsumer) (n : ℕ) → n < 2 ^ 32 → IsBufferAcknowledgement n c.asked (bytes_acknowledged n c)
acknowledges c n fits =
    subst (λ k. IsBufferAcknowledgement n c.asked (spelling (dcp_frame (msg.BufferAcknowledgement k) c.asked 0))) (within n fits) (acknowledgement_is n c.asked fits)

pub most : (c : PlainConsumer) (n : ℕ) → 4294967295 ≤ n → bytes_acknowledged n c ≡ bytes_acknowledged 4294967295 c
most c n above_it = ap (λ k. spelling (dcp_frame (msg.BufferAcknowledgement k) c.asked 0)) (above n above_it)

pub clipped_once : (c : PlainConsumer) (n : ℕ) → bytes_acknowledged (min n 4294967295) c ≡ bytes_acknowledged n c
clipped_once c n = ap (λ k. spelling (dcp_frame (msg.BufferAcknowledgement k) c.asked 0)) (again n)

pub in_bytes : (c : PlainConsumer) → c.asked ≡ 5 → bytes_acknowledged 0x11121314 c ≡ buffer_acknowledgement_bytes (0x11 ∷ 0x12 ∷ 0x13 ∷ 0x14 ∷ [])
unfolding dcp_frame spelling
in_bytes c asked = λ i. spelling (dcp_frame (msg.BufferAcknowledgement 0x11121314) (asked i) 0)

pub most_in_bytes : (c : PlainConsumer) → c.asked ≡ 5 → bytes_acknowledged 4294967296 c ≡ buffer_acknowledgement_bytes (0xff ∷ 0xff ∷ 0xff ∷ 0xff ∷ [])
unfolding dcp_frame spelling
most_in_bytes c asked = λ i. spelling (dcp_frame (msg.BufferAcknowledgement 4294967295) (asked i) 0)

-- what stands at a place of a disk, by what was read there
use Rattle.std.proofs.Common.{◌≡◌, ◌≢◌, ◌⊎◌, inl, inr, ℕ, ◌+◌, ◌-◌, ◌<◌, ◌≤◌, Bool, true, false, cond, List, length, take, drop, refl, sym, ◌∙◌, ap, subst, arith, length-drop}
use Rattle.std.specs.Prelude.{◌==◌, not, nat_lt, if◌then◌else◌, slice_index, slice_range, Option, Some, None, IfSome}
use Rattle.std.specs.Int.{w32, from_be_bytes}
use Rattle.std.proofs.lemmas.Bool.Decides.{nat_tests}
use Rattle.std.proofs.lemmas.List.{drop-drop, get_or-take, nil_from_length}
use Rattle.vb_journal.specs.declared.payload.TheConstants.{MAX_PAYLOAD}
use Rattle.vb_journal.specs.declared.scan.TheConstants.{OPEN, HEAD_LEN}
use Rattle.vb_journal.specs.declared.scan.Front.{Front}
use Rattle.vb_journal.specs.declared.scan.Front.TheVariants as front
use Rattle.vb_journal.specs.Payloads.{record_in}
use Rattle.vb_journal.specs.Reading.{front_of, payload_len, holding}
use Rattle.vb_journal.proofs.Fronts.{front_nil, by_head, by_short, by_whole}

-- bytes with a gate in front
module _ (bytes : List ℕ) (some : 0 < length bytes) where
  front_shut : slice_index bytes 0 ≢ OPEN → front_of bytes ≡ front.Closed
  unfolding front_of
  front_shut other =
      let there : (length bytes == 0) ≡ false = grind (arith, nat_tests) in
      let shut : not (slice_index bytes 0 == OPEN) ≡ true = grind (arith, nat_tests) in
      λ i. if there i then front.Outside else if shut i then front.Closed else by_head bytes

  pub front_open : slice_index bytes 0 ≡ OPEN → front_of bytes ≡ by_head bytes
  unfolding front_of
  front_open opened =
      let there : (length bytes == 0) ≡ false = grind (arith, nat_tests) in
      let wide : not (slice_index bytes 0 == OPEN) ≡ false = grind (arith, nat_tests) in
      λ i. if there i then front.Outside else if wide i then front.Closed else by_head bytes

headless : (bytes : List ℕ) → length bytes < HEAD_LEN → by_head bytes ≡ front.Outside
headless bytes h = let test : nat_lt (length bytes) HEAD_LEN ≡ true = grind (arith, nat_tests) in λ i. if test i then front.Outside else by_short bytes

pub by_head_is : (bytes : List ℕ) → HEAD_LEN ≤ length bytes → by_head bytes ≡ by_short bytes
by_head_is bytes h = let test : nat_lt (length bytes) HEAD_LEN ≡ false = grind (arith, nat_tests) in λ i. if test i then front.Outside else by_short bytes

pub overlong : (bytes : List ℕ) → MAX_PAYLOAD < payload_len bytes → by_short bytes ≡ front.Outside
overlong bytes h = let test : nat_lt MAX_PAYLOAD (payload_len bytes) ≡ true = grind (arith, nat_tests, h) in λ i. if test i then front.Outside else by_whole bytes

by_short_is : (bytes : List ℕ) → payload_len bytes ≤ MAX_PAYLOAD → by_short bytes ≡ by_whole bytes
by_short_is bytes h = let test : nat_lt MAX_PAYLOAD (payload_len bytes) ≡ false = grind (arith, nat_tests, h) in λ i. if test i then front.Outside else by_whole bytes

cut_off : (bytes : List ℕ) → length bytes < HEAD_LEN + payload_len bytes → by_whole bytes ≡ front.Outside
cut_off bytes h =
    let test : nat_lt (length bytes) (HEAD_LEN + payload_len bytes) ≡ true = grind (arith, nat_tests, h) in
    λ i. if test i then front.Outside else holding (record_in (slice_range bytes HEAD_LEN (HEAD_LEN + payload_len bytes))) (payload_len bytes)

by_whole_is : (bytes : List ℕ) → HEAD_LEN + payload_len bytes ≤ length bytes → by_whole bytes ≡ holding (record_in (slice_range bytes HEAD_LEN (HEAD_LEN + payload_len bytes))) (payload_len bytes)
by_whole_is bytes h =
    let test : nat_lt (length bytes) (HEAD_LEN + payload_len bytes) ≡ false = grind (arith, nat_tests, h) in
    λ i. if test i then front.Outside else holding (record_in (slice_range bytes HEAD_LEN (HEAD_LEN + payload_len bytes))) (payload_len bytes)

-- no gate stands at the end
pub at_end : (held : Option (List ℕ)) (size place : ℕ) → IfSome held (λ bytes. length bytes ≡ size) → size ≤ place → IfSome held (λ bytes. front_of (drop place bytes) ≡ front.Outside)
at_end None size place told h = tt
at_end (Some bytes) size place told h = ap front_of (nil_from_length (drop place bytes) (omega (arith, length-drop place bytes, told))) ∙ front_nil

-- what was read of a disk's bytes at a place
abbrev pub IsRead : Option (List ℕ) → ℕ → List ℕ → Type 0
IsRead held place room = IfSome held (λ bytes. room ≡ slice_range bytes place (place + length room))

cut_at : (bytes room : List ℕ) (place n k : ℕ) → room ≡ slice_range bytes (place + n) (place + n + length room) → length room ≡ k → slice_range (drop place bytes) n (n + k) ≡ room
cut_at bytes room place n k is long =
    let size : n + k - n ≡ length room = omega (arith, long) in
    let same : length room ≡ place + n + length room - (place + n) = omega arith in
    (λ i. take (size i) (drop-drop n place bytes i)) ∙ ap (λ m. take m (drop (place + n) bytes)) same ∙ sym is

first_at : (bytes room : List ℕ) (place : ℕ) → room ≡ slice_range bytes place (place + length room) → length room ≡ 1 → slice_index (drop place bytes) 0 ≡ slice_index room 0
first_at bytes room place is long =
    let one : 1 ≡ place + length room - place = omega (arith, long) in
    sym (get_or-take 1 (drop place bytes) 0 0 (omega arith)) ∙ ap (λ n. slice_index (take n (drop place bytes)) 0) one ∙ ap (λ (l : List ℕ). slice_index l 0) (sym is)

-- a disk's gate, as it was read
module _ (size place : ℕ) (gate : List ℕ) (one : length gate ≡ 1) (within : place < size) where
  pub at_closed : (held : Option (List ℕ)) → IfSome held (λ bytes. length bytes ≡ size) → IsRead held place gate → slice_index gate 0 ≢ OPEN
      → IfSome held (λ bytes. front_of (drop place bytes) ≡ front.Closed)
  at_closed None told is other = tt
  at_closed (Some bytes) told is other =
      front_shut (drop place bytes) (omega (arith, length-drop place bytes, told)) (λ e. other (sym (first_at bytes gate place is one) ∙ e))

  opens : (bytes : List ℕ) → length bytes ≡ size → gate ≡ slice_range bytes place (place + length gate) → slice_index gate 0 ≡ OPEN → front_of (drop place bytes) ≡ by_head (drop place bytes)
  opens bytes told is opened = front_open (drop place bytes) (omega (arith, length-drop place bytes, told)) (first_at bytes gate place is one ∙ opened)

  -- too few bytes for a length
  pub at_headless : (held : Option (List ℕ)) → IfSome held (λ bytes. length bytes ≡ size) → IsRead held place gate → slice_index gate 0 ≡ OPEN → size - place < HEAD_LEN
      → IfSome held (λ bytes. front_of (drop place bytes) ≡ front.Outside)
  at_headless None told is opened few = tt
  at_headless (Some bytes) told is opened few = opens bytes told is opened ∙ headless (drop place bytes) (omega (arith, length-drop place bytes, told, few))

  module _ (opened : slice_index gate 0 ≡ OPEN) (head : HEAD_LEN ≤ size - place) (four : List ℕ) (are_four : length four ≡ 4) where
    len_at : (bytes : List ℕ) → four ≡ slice_range bytes (place + 1) (place + 1 + length four) → payload_len (drop place bytes) ≡ from_be_bytes w32 four
    len_at bytes is = ap (from_be_bytes w32) (cut_at bytes four place 1 4 is are_four)

    short_at : (bytes : List ℕ) → length bytes ≡ size → gate ≡ slice_range bytes place (place + length gate) → front_of (drop place bytes) ≡ by_short (drop place bytes)
    short_at bytes told is = opens bytes told is opened ∙ by_head_is (drop place bytes) (omega (arith, length-drop place bytes, told, head))

    -- too long a payload, or too few bytes for it
    pub at_unfit : (held : Option (List ℕ)) → IfSome held (λ bytes. length bytes ≡ size) → IsRead held place gate → IsRead held (place + 1) four
        → (MAX_PAYLOAD < from_be_bytes w32 four) ⊎ (size - place < HEAD_LEN + from_be_bytes w32 four) → IfSome held (λ bytes. front_of (drop place bytes) ≡ front.Outside)
    at_unfit None told is_gate is_four unfit = tt
    at_unfit (Some bytes) told is_gate is_four (inl long) = short_at bytes told is_gate ∙ overlong (drop place bytes) (omega (arith, len_at bytes is_four, long))
    at_unfit (Some bytes) told is_gate is_four (inr few) = short_at bytes told is_gate ∙ unless (drop place bytes) (omega (arith, len_at bytes is_four, few, length-drop place bytes, told))
      where
        unless : (rest : List ℕ) → length rest < HEAD_LEN + payload_len rest → by_short rest ≡ front.Outside
        unless rest h = if_not (nat_lt MAX_PAYLOAD (payload_len rest)) (cut_off rest h)
          where
            if_not : (b : Bool) → by_whole rest ≡ front.Outside → cond b front.Outside (by_whole rest) ≡ front.Outside
            if_not true e = refl
            if_not false e = e

    -- a payload that was read
    pub at_whole : (held : Option (List ℕ)) (payload : List ℕ) → IfSome held (λ bytes. length bytes ≡ size) → IsRead held place gate → IsRead held (place + 1) four → IsRead held (place + HEAD_LEN) payload
        → from_be_bytes w32 four ≤ MAX_PAYLOAD → HEAD_LEN + from_be_bytes w32 four ≤ size - place → length payload ≡ from_be_bytes w32 four
        → IfSome held (λ bytes. front_of (drop place bytes) ≡ holding (record_in payload) (from_be_bytes w32 four))
    at_whole None payload told is_gate is_four is_payload short whole long = tt
    at_whole (Some bytes) payload told is_gate is_four is_payload short whole long =
        let rest = drop place bytes in
        let len : payload_len rest ≡ from_be_bytes w32 four = len_at bytes is_four in
        let cut : slice_range rest HEAD_LEN (HEAD_LEN + payload_len rest) ≡ payload = cut_at bytes payload place HEAD_LEN (payload_len rest) is_payload (long ∙ sym len) in
        short_at bytes told is_gate ∙ by_short_is rest (omega (arith, len, short)) ∙ by_whole_is rest (omega (arith, len, whole, length-drop place bytes, told)) ∙ (λ i. holding (record_in (cut i)) (len i))

-- the same, of an equal front
pub told_is : (held : Option (List ℕ)) (place : ℕ) (one other : Front) → IfSome held (λ bytes. front_of (drop place bytes) ≡ one) → one ≡ other → IfSome held (λ bytes. front_of (drop place bytes) ≡ other)
told_is held place one other told e = subst (λ begins. IfSome held (λ bytes. front_of (drop place bytes) ≡ begins)) e told

-- what was taken was read
pub taken_is_read : (held : Option (List ℕ)) (place len : ℕ) (taken : List ℕ) → length taken ≡ len → IfSome held (λ bytes. taken ≡ slice_range bytes place (place + len)) → IsRead held place taken
taken_is_read held place len taken long is = subst (λ n. IfSome held (λ bytes. taken ≡ slice_range bytes place (place + n))) (sym long) is

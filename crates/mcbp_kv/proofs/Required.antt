-- durability requirements are read as they are spelled, and spelled as they are read
use Rattle.std.proofs.Common.{◌≡◌, ℕ, ◌<◌, ◌≤◌, ◌^◌, Bool, true, false, List, [], ◌∷◌, Option, Some, None, Ok, Err, Result, length, drop, length-drop, refl, ap, sym, ◌∙◌, subst, ◌⊎◌, inl, inr, arith, cond}
use Rattle.std.specs.Prelude.{◌==◌, not, nat_lt, option_map}
use Rattle.std.specs.Int.{w16, to_be_bytes, from_be_bytes}
use Rattle.std.proofs.lemmas.Bool.{or_cases, eqb-true, cases_lt}
use Rattle.std.proofs.lemmas.Bool.Decides.{nat_tests}
use Rattle.std.proofs.lemmas.List.Elements.{All-tail}
use Rattle.std.proofs.lemmas.Nat.{be_bytes_2, from_be_bytes-to_be_bytes_2}
use Rattle.mcbp_frame.specs.Streams.{AreBytes}
use Rattle.vb_types.specs.declared.change.Level.{Level}
use Rattle.vb_types.specs.declared.status.Status.{Status}
use Rattle.vb_types.specs.declared.status.Status.TheVariants as status
use Rattle.vb_types.specs.Levels.{level_number, level_of}
use Rattle.vb_types.proofs.Levels.{level_back, numbered}
use Rattle.mcbp_kv.specs.Commands.{IsRequired}
use Rattle.mcbp_kv.specs.Durable.{timeout_named, within, durability_named}
use Rattle.mcbp_kv.specs.Framing.{DURABILITY, extra_id, extra_len, is_requirement_len, requirement_by_len, requirement_alone, requirement_of}
use Rattle.mcbp_kv.specs.Requests.{is_one_of, write_opcodes, known_or_invalid, required_of}
use Rattle.mcbp_kv.specs.declared.durable.Durability.{Durability}
use Rattle.mcbp_kv.specs.declared.framing.Requirement.{Requirement}
use Rattle.mcbp_kv.proofs.Asked.{required_read}
use Rattle.mcbp_kv.proofs.Chosen.{small}
use Rattle.mcbp_kv.proofs.Extras.{by_tests, none_read}

-- ---- what is spelled is read

timeout_back : (named timeout : ℕ) → ((named ≡ 0) × (timeout ≡ 30000)) ⊎ ((1 ≤ named) × (timeout ≡ named)) → timeout_named named ≡ timeout
timeout_back named timeout (inl h) = ap timeout_named h.0 ∙ sym h.1
timeout_back named timeout (inr h) = grind (arith, nat_tests, h)

-- a requirement of a command that writes
spelled_read : (opcode : ℕ) (framing : List ℕ) (d : Durability) (named : ℕ) → is_one_of opcode write_opcodes ≡ true
    → requirement_of framing ≡ Ok (Some (record { level = level_number d.level; timeout = named })) → timeout_named named ≡ d.timeout
    → required_of opcode (requirement_of framing) ≡ Ok (Some d)
spelled_read opcode framing d named write h t =
    required_read opcode framing _ h true (Some d.level) write (level_back d.level) ∙ (λ i. Ok (Some (record { level = d.level; timeout = t i })))

pub durable_read : (opcode : ℕ) (framing : List ℕ) (durable : Option Durability) → is_one_of opcode write_opcodes ≡ true → IsRequired framing durable
    → required_of opcode (requirement_of framing) ≡ Ok durable
unfolding requirement_of
durable_read opcode framing None write h = ap (λ bytes. required_of opcode (requirement_of bytes)) h
durable_read opcode framing (Some d) write (inl h) = spelled_read opcode framing d 0 write (ap requirement_of h.bytes) (sym h.timeout)
durable_read opcode framing (Some d) write (inr h) =
    spelled_read opcode framing d h.named write
    (ap requirement_of h.bytes ∙ (λ i. Ok (Some (record { level = level_number d.level; timeout = from_be_bytes-to_be_bytes_2 h.named h.size i }))))
    (timeout_back h.named d.timeout h.timeout)

-- ---- and what is read is spelled so

-- the framing extras of which this is read
record IsNamed (framing : List ℕ) (r : Requirement) : Type 0 where
  spelled : ((framing ≡ 0x11 ∷ r.level ∷ []) × (r.timeout ≡ 0)) ⊎ ((r.timeout < 2 ^ 16) × (framing ≡ 0x13 ∷ r.level ∷ to_be_bytes w16 r.timeout))

alone_passed : (r said : Requirement) (behind : List ℕ) → requirement_alone said behind ≡ Ok (Some r) → (behind ≡ []) × (said ≡ r)
alone_passed r said [] h = (refl, cc h)
alone_passed r said (b ∷ behind) h = absurd (refused (extra_id b == DURABILITY) h)
  where
    refused : (known : Bool) → cond {A = Result (Option Requirement) Status} known (Err status.Einval) (Err status.UnknownFrameInfo) ≡ Ok (Some r) → ⊥
    refused true h = cc
    refused false h = cc

tests_passed : (known fits short : Bool) (whole : Result (Option Requirement) Status) (r : Requirement) → by_tests known fits short whole ≡ Ok (Some r)
    → (known ≡ true) × (fits ≡ true) × (short ≡ false) × (whole ≡ Ok (Some r))
unfolding by_tests
tests_passed false fits short whole r h = absurd (cc h)
tests_passed true false short whole r h = absurd (cc h)
tests_passed true true true whole r h = absurd (cc h)
tests_passed true true false whole r h = (refl, refl, refl, h)

-- a level alone, or a level and two bytes
one_byte : (b : ℕ) (rest : List ℕ) (r : Requirement) → b ≡ 0x11 → length rest ≡ 1 → requirement_by_len 1 rest ≡ r → IsNamed (b ∷ rest) r
one_byte b [] r e n h = absurd (omega (arith, n))
one_byte b (lv ∷ []) r e n h = record { spelled = inl ((λ i. e i ∷ (h i).level ∷ []), sym (ap (λ q. q.timeout) h)) }
one_byte b (lv ∷ o ∷ rest) r e n h = absurd (omega (arith, n))

two_bytes : (bytes : List ℕ) → AreBytes bytes → length bytes ≡ 2 → (from_be_bytes w16 bytes < 2 ^ 16) × (bytes ≡ to_be_bytes w16 (from_be_bytes w16 bytes))
two_bytes bytes are two = let s = small bytes are in (omega (arith, s 0, s 1), sym (be_bytes_2 bytes (from_be_bytes w16 bytes) two s refl))

three_bytes : (b : ℕ) (rest : List ℕ) (r : Requirement) → b ≡ 0x13 → AreBytes rest → length rest ≡ 3 → requirement_by_len 3 rest ≡ r → IsNamed (b ∷ rest) r
three_bytes b [] r e are n h = absurd (omega (arith, n))
three_bytes b (lv ∷ []) r e are n h = absurd (omega (arith, n))
three_bytes b (lv ∷ x ∷ []) r e are n h = absurd (omega (arith, n))
three_bytes b (lv ∷ x ∷ y ∷ []) r e are n h =
    let two = two_bytes (x ∷ y ∷ []) (All-tail (λ b. b < 256) lv (x ∷ y ∷ []) are) refl in
    subst (IsNamed (b ∷ lv ∷ x ∷ y ∷ [])) h (record { spelled = inr (two.0, λ i. e i ∷ lv ∷ two.1 i) })
three_bytes b (lv ∷ x ∷ y ∷ z ∷ rest) r e are n h = absurd (omega (arith, n))

lengths : (n : ℕ) → is_requirement_len n ≡ true → (n ≡ 1) ⊎ (n ≡ 3)
lengths n h = elim (or_cases (n == 1) (n == 3) h) [ inl a ↦ inl (eqb-true n 1 a) | inr a ↦ inr (eqb-true n 3 a) ]

named : (framing : List ℕ) (r : Requirement) → AreBytes framing → requirement_of framing ≡ Ok (Some r) → IsNamed framing r
unfolding requirement_of by_tests
named [] r are h = absurd (cc h)
named (b ∷ rest) r are h =
    let t = tests_passed (extra_id b == DURABILITY) (is_requirement_len (extra_len b)) (nat_lt (length rest) (extra_len b))
    (requirement_alone (requirement_by_len (extra_len b) rest) (drop (extra_len b) rest)) r h in
    let alone = alone_passed r (requirement_by_len (extra_len b) rest) (drop (extra_len b) rest) t.3 in
    let id : extra_id b ≡ 1 = eqb-true (extra_id b) DURABILITY t.0 in
    let size : length rest ≡ extra_len b = grind (arith, nat_tests, t.2, ap length alone.0, length-drop (extra_len b) rest) in
    elim (lengths (extra_len b) t.1) [
      | inl one ↦ one_byte b rest r (omega (arith, id, one)) (size ∙ one) (ap (λ n. requirement_by_len n rest) (sym one) ∙ alone.1)
      | inr three ↦ three_bytes b rest r (omega (arith, id, three)) (All-tail (λ b. b < 256) b rest are) (size ∙ three) (ap (λ n. requirement_by_len n rest) (sym three) ∙ alone.1)
    ]

timeout_is : (named : ℕ) → ((named ≡ 0) × (timeout_named named ≡ 30000)) ⊎ ((1 ≤ named) × (timeout_named named ≡ named))
timeout_is named = elim (cases_lt 0 named) [
  | inl p ↦ inr (p, timeout_back named named (inr (p, refl)))
  | inr p ↦ let none : named ≡ 0 = omega (arith, p) in inl (none, timeout_back named 30000 (inl (none, refl)))
]

-- what a command that writes requires, and by which requirement
record IsAsked (r : Requirement) (d : Durability) : Type 0 where
  level : r.level ≡ level_number d.level
  timeout : timeout_named r.timeout ≡ d.timeout

known : (r : Requirement) (named : Option Level) → level_of r.level ≡ named → (durable : Option Durability)
    → known_or_invalid (option_map (λ level. within level (timeout_named r.timeout)) named) ≡ Ok durable → (d : Durability) × (durable ≡ Some d) × IsAsked r d
known r None e durable h = absurd (cc h)
known r (Some lv) e durable h = (within lv (timeout_named r.timeout), cc h, record { level = (numbered r.level lv).0 e; timeout = refl })

asked : (opcode : ℕ) (r : Requirement) (durable : Option Durability) → required_of opcode (Ok (Some r)) ≡ Ok durable → (d : Durability) × (durable ≡ Some d) × IsAsked r d
asked opcode r durable h = by_write (is_one_of opcode write_opcodes) h
  where
    by_write : (write : Bool) → cond (not write) (Err status.NotSupported) (known_or_invalid (durability_named r)) ≡ Ok durable → (d : Durability) × (durable ≡ Some d) × IsAsked r d
    by_write false h = absurd (cc h)
    by_write true h = known r (level_of r.level) refl durable h

asked_spelled : (framing : List ℕ) (r : Requirement) (d : Durability) → IsNamed framing r → IsAsked r d → IsRequired framing (Some d)
asked_spelled framing r d h a = elim h.spelled [
  | inl u ↦ inl (record { bytes = u.0 ∙ (λ i. 0x11 ∷ a.level i ∷ []); timeout = sym a.timeout ∙ ap timeout_named u.1 })
  | inr t ↦ inr (record {
    named = r.timeout;
    size = t.0;
    bytes = t.1 ∙ (λ i. 0x13 ∷ a.level i ∷ to_be_bytes w16 r.timeout);
    timeout = subst (λ n. ((r.timeout ≡ 0) × (n ≡ 30000)) ⊎ ((1 ≤ r.timeout) × (n ≡ r.timeout))) a.timeout (timeout_is r.timeout);
  })
]

pub durable_spelled : (opcode : ℕ) (framing : List ℕ) (durable : Option Durability) → AreBytes framing → required_of opcode (requirement_of framing) ≡ Ok durable → IsRequired framing durable
durable_spelled opcode framing durable are h = by_read (requirement_of framing) refl h
  where
    by_read : (q : Result (Option Requirement) Status) → requirement_of framing ≡ q → required_of opcode q ≡ Ok durable → IsRequired framing durable
    by_read (Err st) e h = absurd (cc h)
    by_read (Ok None) e h =
        let none : None ≡ durable = cc h in
        subst (IsRequired framing) none (none_read framing e)
    by_read (Ok (Some r)) e h =
        let (d, some, a) = asked opcode r durable h in
        subst (IsRequired framing) (sym some) (asked_spelled framing r d (named framing r are e) a)

-- of a command that writes nothing nothing is required
pub plain_spelled : (opcode : ℕ) (framing : List ℕ) (durable : Option Durability) → is_one_of opcode write_opcodes ≡ false → required_of opcode (requirement_of framing) ≡ Ok durable → framing ≡ []
plain_spelled opcode framing durable plain h = by_read (requirement_of framing) refl h
  where
    refused : (write : Bool) (d : Result (Option Durability) Status) → write ≡ false → cond (not write) (Err status.NotSupported) d ≡ Ok durable → ⊥
    refused true d e h = cc e
    refused false d e h = cc h

    by_read : (q : Result (Option Requirement) Status) → requirement_of framing ≡ q → required_of opcode q ≡ Ok durable → framing ≡ []
    by_read (Err st) e h = absurd (cc h)
    by_read (Ok None) e h = none_read framing e
    by_read (Ok (Some r)) e h = absurd (refused (is_one_of opcode write_opcodes) (known_or_invalid (durability_named r)) plain h)

-- a timeout that is required is never 0, and has two bytes
pub timeout_fits : (framing : List ℕ) (d : Durability) → IsRequired framing (Some d) → (0 < d.timeout) × (d.timeout < 2 ^ 16)
timeout_fits framing d (inl h) = (omega (arith, h.timeout), omega (arith, h.timeout))
timeout_fits framing d (inr h) = elim h.timeout [
  | inl z ↦ (omega (arith, z.1), omega (arith, z.1))
  | inr n ↦ (omega (arith, n.0, n.1), omega (arith, n.1, h.size))
]

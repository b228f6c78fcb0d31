-- what a frame asks for, and whether a vBucket answers a read of it
use Rattle.std.specs.Prelude.{◌≡◌, ◌⊎◌, if◌then◌else◌, nat_le}
use Rattle.transcript_law.proofs.Words.{ℕ, Bool, true, false, [], refl, ap, sym, ◌∙◌, subst, inl, inr, Option, Some, None, Result, Ok, Op, Frame, KvRequest, Doc, Status, Write, refusal_reply}
use Rattle.client_session.specs.{Answers.{change_lines, reply_to}, Serving.{MOST_DURABLE}, declared.session.{Settings.{Settings}}}
use Rattle.mcbp_kv.proofs.{Asked.{passed}, Shapes.{each_code}}
use Rattle.mcbp_kv.specs.{Fitting.{RequestFits}, Requests.{op_of, request_by, request_of}, declared.durable.Durability.{Durability}, declared.opcodes.TheConstants.{ADD, REPLACE, SET}}
use Rattle.mcbp_kv.specs.declared.request.KvRequest.TheVariants as request
use Rattle.vb_calls.specs.State.{get_reply}
use Rattle.vb_types.specs.declared.status.Status.TheVariants.{NotMyVbucket}

-- ---- what a frame asks

-- a removal has no value
abbrev pub RemovesAlone : KvRequest → Type 0
RemovesAlone (request.Write write durable) = write.op ≡ Op.Delete → write.value ≡ []
RemovesAlone other = Unit {0}

-- nor is a write one that is of another opcode
stores : (o : Op) (code opcode : ℕ) → opcode ≡ code → op_of code ≡ o → (o ≡ Op.Delete → ⊥) → op_of opcode ≡ Op.Delete → ⊥
stores o code opcode e is other d = other (sym is ∙ ap op_of (sym e) ∙ d)

pub removes_alone : (json : Bool) (f : Frame) (r : KvRequest) → request_of json f ≡ Ok r → RemovesAlone r
removes_alone json f r e =
    let p = passed json f r e in
    each_code (λ n. f.opcode ≡ n → request_by n p.durable f ≡ r → RemovesAlone r)
    (λ c a. subst RemovesAlone a tt)
    (λ c a. subst RemovesAlone a (λ d. absurd (stores Op.Set SET f.opcode c refl (λ z. cc) d)))
    (λ c a. subst RemovesAlone a (λ d. absurd (stores Op.Add ADD f.opcode c refl (λ z. cc) d)))
    (λ c a. subst RemovesAlone a (λ d. absurd (stores Op.Replace REPLACE f.opcode c refl (λ z. cc) d)))
    (λ c a. subst RemovesAlone a (λ d. refl))
    (λ c a. subst RemovesAlone a tt)
    (λ c a. subst RemovesAlone a tt)
    f.opcode p.code refl p.asks

-- its numbers fit
abbrev pub AskedFits : KvRequest → Type 0
AskedFits asked = RequestFits asked × RemovesAlone asked

-- it is no durable write for which its connection has a number
abbrev pub IsUncounted : ℕ → Result KvRequest Status → Type 0
IsUncounted used (Ok (request.Write write (Some wish))) = nat_le MOST_DURABLE used ≡ true
IsUncounted used other = Unit {0}

-- or it is one that has a number
abbrev pub IsCounted : ℕ → Result KvRequest Status → Type 0
IsCounted used asked = (write : Write) × (wish : Durability) × (asked ≡ Ok (request.Write write (Some wish))) × (nat_le MOST_DURABLE used ≡ false)

pub counts : (used : ℕ) (asked : Result KvRequest Status) → IsUncounted used asked ⊎ IsCounted used asked
counts used (Ok (request.Write write (Some wish))) = by (nat_le MOST_DURABLE used) refl
  where
    by : (b : Bool) → nat_le MOST_DURABLE used ≡ b → (nat_le MOST_DURABLE used ≡ true) ⊎ IsCounted used (Ok (request.Write write (Some wish)))
    by true e = inl e
    by false e = inr (write, wish, refl, e)
counts used other = inl tt

-- ---- what a vBucket answers

pub no_change : (n v : ℕ) (active again : Bool) (o : Option Doc) → change_lines n v (if active then get_reply again o else refusal_reply NotMyVbucket).answer (if active then get_reply again o else refusal_reply NotMyVbucket).changes ≡ []
no_change n v true true o = refl
no_change n v true false None = refl
no_change n v true false (Some doc) = refl
no_change n v false again o = refl

-- a read is answered
pub some_reply : (settings : Settings) (f : Frame) (active again : Bool) (o : Option Doc) → reply_to settings f (if active then get_reply again o else refusal_reply NotMyVbucket).answer ≡ None → ⊥
some_reply settings f true true o e = cc
some_reply settings f true false None e = cc
some_reply settings f true false (Some doc) e = cc
some_reply settings f false again o e = cc

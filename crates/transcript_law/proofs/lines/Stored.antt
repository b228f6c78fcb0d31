-- sets and removals stand directly before their answers: lines that tell so, behind one another, and what vBuckets reply
use Rattle.std.specs.Prelude.{◌≡◌, ◌∷◌, ◌++◌, ◌&&◌, if◌then◌else◌}
use Rattle.transcript_law.proofs.Words.{ℕ, Bool, true, false, List, [], refl, ap, sym, ◌∙◌, map, fold, and_parts, All, All-append, All-cons, All-head, All-nil, All-tail, Option, Some, None, Change, Doc, Event, Plain, States, Status, VbCall, VbReply, Write, doc_at, new_cas, new_rev, plain_step, written_doc}
use Rattle.transcript_law.proofs.answers.Calm.{OfDurable, durable_settled}
use Rattle.transcript_law.proofs.verbs.Tellings.{Are}
use Rattle.transcript_law.specs.AnsweredWrites.{AllToldNext, IsToldNext}
use Rattle.transcript_law.specs.{LinesTold.{is_durable}, OwnChanges.{given_cas}, Tellings.{are_all}}
use Rattle.durability.specs.{Outstanding.{late}, declared.waiting.Waiting.{Waiting}}
use Rattle.vb_calls.specs.Durable.{aborted}
use Rattle.vb_calls.specs.Settling.{Resolving, has_seqno, resolved_by, resolving_change, settled, unresolved}
use Rattle.vb_calls.specs.States.{states_step, call_at}
use Rattle.vb_calls.specs.Writes.{act_of, store_outcome, store_refusal}
use Rattle.vb_calls.specs.declared.calls.Resolution.TheVariants.{Ambiguous}
use Rattle.vb_calls.specs.declared.calls.VbAnswer.TheVariants as answer
use Rattle.vb_calls.specs.declared.calls.VbCall.TheVariants as call
use Rattle.vb_types.specs.declared.change.Act.TheVariants as act
use Rattle.vb_types.specs.declared.write.Op.{Op}
use Rattle.vb_types.specs.declared.write.Op.TheVariants as op
use Rattle.vbucket.proofs.RowIs.{RowIs, StartIs, Adopts, Chains, Counts, Expires, Flushes, Inherits, Leads, Marks, Prepares, Receives, Rolls, Saves, Seals, Settles, Streams, Tells, Trims, Turns, Writes, Yields, row_is}

-- ---- lines

-- what stands behind a line stays there
next_more : (n : ℕ) (change : Change) (behind more : List Event) → IsToldNext n change behind → IsToldNext n change (behind ++ more)
next_more n change behind more t = record { client = t.client; answer = t.answer; more = t.more ++ more; next = ap (λ lines. lines ++ more) t.next; made = t.made; cas = t.cas }

pub next_behind : (lines more : List Event) → AllToldNext lines → AllToldNext more → AllToldNext (lines ++ more)
next_behind [] more t m = m
next_behind (Event.Changed n v uuid change ∷ lines) more t m = (λ own. next_more n change lines more (t.0 own), next_behind lines more t.1 m)
next_behind (other ∷ lines) more t m = next_behind lines more t m

-- a line that tells of no set and of no removal
abbrev pub is_settled : Event → Bool
is_settled (Event.Changed n v uuid change) = is_durable change.act
is_settled other = true

-- where none does, none has to be answered
pub settled_next : (lines : List Event) → Are is_settled lines → AllToldNext lines
settled_next [] a = tt
settled_next (Event.Changed n v uuid change ∷ lines) a =
    let p = and_parts (is_durable change.act) (are_all is_settled lines) a in (λ own. (let z : true ≡ false = sym p.0 ∙ own in cc), settled_next lines p.1)
settled_next (other ∷ lines) a = settled_next lines a

-- nor by lines that tell of no change at all
abbrev pub is_no_change : Event → Bool
is_no_change (Event.Changed n v uuid change) = false
is_no_change other = true

pub unchanged_next : (lines : List Event) → Are is_no_change lines → AllToldNext lines
unchanged_next [] a = tt
unchanged_next (Event.Changed n v uuid change ∷ lines) a = cc
unchanged_next (other ∷ lines) a = unchanged_next lines a

-- changes of durable writes
pub durable_settled_lines : (n v uuid : ℕ) (cs : List Change) → All OfDurable cs → Are is_settled (map (Event.Changed n v uuid) cs)
durable_settled_lines n v uuid [] all = refl
durable_settled_lines n v uuid (c ∷ cs) all = λ i. All-head OfDurable c cs all i && durable_settled_lines n v uuid cs (All-tail OfDurable c cs all) i

-- ---- what a vBucket replies

-- a set or a removal that was made is told with its CAS, and alone; and any other change but one that was received is a durable write's
abbrev pub IsGiven : VbCall → VbReply → Type 0
IsGiven (call.Store write clock) reply = (uuid seq cas : ℕ) → reply.answer ≡ answer.Stored uuid seq cas → (c : Change) × (reply.changes ≡ c ∷ []) × (given_cas c.act ≡ Some cas)
IsGiven (call.Receive c) reply = Unit {0}
IsGiven other reply = All OfDurable reply.changes

abbrev pub Gives : VbCall → Option VbReply → Type 0
Gives c None = Unit {0}
Gives c (Some reply) = IsGiven c reply

-- prepares that are given up are durable writes'
aborted_durable : (ws : List Waiting) (s : Resolving) → All OfDurable s.changes → All OfDurable (fold aborted s ws).changes
aborted_durable [] s all = all
aborted_durable (w ∷ ws) s all = aborted_durable ws (aborted s w) (by (has_seqno s.vb))
  where
    by : (b : Bool) → All OfDurable (let t : Resolving = if b then resolved_by (act.Abort w.seq) Ambiguous w s else s in t.changes)
    by true = All-append OfDurable s.changes (resolving_change s.vb w (act.Abort w.seq) ∷ []) all (All-cons OfDurable (resolving_change s.vb w (act.Abort w.seq)) [] refl (All-nil OfDurable))
    by false = all

start_durable : (vb : Plain) {c : VbCall} {start : Plain × VbReply} → StartIs vb c start → All OfDurable start.1.changes
start_durable vb (Prepares write clock wish free) = All-cons OfDurable _ [] refl (All-nil OfDurable)
start_durable vb (Chains chain on) = All-nil OfDurable
start_durable vb (Counts member seq on) = All-nil OfDurable
start_durable vb (Expires clock on) = aborted_durable (late clock vb.waiting) (unresolved vb) (All-nil OfDurable)
start_durable vb (Saves seq) = All-nil OfDurable
start_durable vb (Leads uuid free) = All-nil OfDurable
start_durable vb (Inherits free) = All-nil OfDurable

-- a call that makes no set and no removal, and receives nothing
abbrev IsOther : VbCall → Type 0
IsOther (call.Store write clock) = ⊥
IsOther (call.Receive c) = ⊥
IsOther other = Unit {0}

row_durable : (vb : Plain) {c : VbCall} {after : Plain × VbReply} → RowIs vb c after → IsOther c → All OfDurable after.1.changes
row_durable vb (Tells c said) o = All-nil OfDurable
row_durable vb (Streams c streams said is) o = All-nil OfDurable
row_durable vb (Adopts log f) o = All-nil OfDurable
row_durable vb (Marks start end f fits) o = All-nil OfDurable
row_durable vb (Seals was) o = All-nil OfDurable
row_durable vb Trims o = All-nil OfDurable
row_durable vb (Flushes w e) o = All-nil OfDurable
row_durable vb (Writes write clock free) o = absurd o
row_durable vb (Receives c a f next e) o = absurd o
row_durable vb (Settles c start is) o = All-append OfDurable start.1.changes (settled start.0).changes (start_durable vb is) (durable_settled start.0)
row_durable vb (Rolls at image cas f) o = All-nil OfDurable
row_durable vb (Turns c new loud idle) o = All-nil OfDurable
row_durable vb (Yields id stream on at) o = All-nil OfDurable

-- a write that was made has its CAS
act_cas : (o : Op) (doc : Doc) → given_cas (act_of o doc) ≡ Some doc.cas
act_cas op.Set doc = refl
act_cas op.Add doc = refl
act_cas op.Replace doc = refl
act_cas op.Delete doc = refl

stored_given : (vb : Plain) (write : Write) (clock cas : ℕ) (why : Option Status) → IsGiven (call.Store write clock) (store_outcome why vb write cas).1
stored_given vb write clock cas (Some st) uuid seq k e = cc
stored_given vb write clock cas None uuid seq k e =
    let same : cas ≡ k = cc in (_, refl, act_cas write.op (written_doc write cas (new_rev (doc_at vb write.key))) ∙ ap (λ x. Some x) same)

pub given : (vb : Plain) (c : VbCall) → IsGiven c (plain_step vb c).1
given vb (call.Store write clock) = stored_given vb write clock (new_cas clock vb.last_cas) (store_refusal vb write)
given vb (call.Receive c) = tt
given vb other = row_durable vb (row_is vb other) tt

-- so does each of a node's
pub gives : (states : States) (v : ℕ) (c : VbCall) → Gives c (states_step states v c).1
gives states v c = by (states v)
  where
    by : (o : Option Plain) → Gives c (call_at states v c o).1
    by None = tt
    by (Some vb) = given vb c

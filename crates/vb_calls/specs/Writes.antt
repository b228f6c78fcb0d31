-- what a write does
use Rattle.std.specs.Prelude.{ℕ, ◌+◌, ◌*◌, ◌/◌, ◌-◌, ◌^◌, ◌||◌, ◌==◌, Bool, if◌then◌else◌, nat_lt, min, max, List, [], length, ◌∷◌, ◌++◌, Option, Some, None}
use Rattle.vb_types.specs.declared.doc.Doc.{Doc}
use Rattle.vb_types.specs.declared.change.Pend.{Pend}
use Rattle.durability.specs.declared.waiting.Waiting.{Waiting}
use Rattle.vb_types.specs.declared.change.Act.{Act}
use Rattle.vb_types.specs.declared.change.Act.TheVariants as act
use Rattle.vb_types.specs.declared.change.Change.{Change}
use Rattle.vb_types.specs.declared.position.TheConstants.{MAX_SEQ}
use Rattle.vb_types.specs.declared.status.Status.{Status}
use Rattle.vb_types.specs.declared.status.Status.TheVariants as status
use Rattle.vb_types.specs.declared.write.Op.{Op}
use Rattle.vb_types.specs.declared.write.Op.TheVariants as op
use Rattle.vb_types.specs.declared.write.Write.{Write}
use Rattle.vb_calls.specs.declared.calls.VbAnswer.TheVariants as answer
use Rattle.vb_calls.specs.declared.calls.VbReply.{VbReply}
use Rattle.vb_calls.specs.declared.span.Origin.TheVariants.{Own}
use Rattle.vb_calls.specs.State.{Plain, is_active, is_left, complete_position, newest_branch, doc_at, pending_of, refusal_reply}
use Rattle.vb_calls.specs.Spans.{own_joined, span_of, with_change, last_at}

-- one more, up to the last number of 64 bits
abbrev pub successor : ℕ → ℕ
successor n = min (n + 1) (2 ^ 64 - 1)

-- the larger of the clock with its low 16 bits cleared and the last one plus 1
abbrev pub new_cas : ℕ → ℕ → ℕ
new_cas clock last = max (clock / 65536 * 65536) (successor last)

-- 1 plus that of the key's document, or 1
abbrev pub new_rev : Option Doc → ℕ
new_rev None = 1
new_rev (Some doc) = successor doc.rev

-- a CAS that was asked for must be the document's
abbrev pub cas_refusal : ℕ → ℕ → Option Status
cas_refusal asked there = if asked == 0 || asked == there then None else Some status.KeyEexists

-- why a write is refused where its key has this document, or none
abbrev pub doc_refusal : Op → ℕ → Option Doc → Option Status
doc_refusal op.Set cas None = if cas == 0 then None else Some status.KeyEnoent
doc_refusal op.Add cas None = None
doc_refusal op.Replace cas None = Some status.KeyEnoent
doc_refusal op.Delete cas None = Some status.KeyEnoent
doc_refusal op.Set cas (Some doc) = cas_refusal cas doc.cas
doc_refusal op.Add cas (Some doc) = Some status.KeyEexists
doc_refusal op.Replace cas (Some doc) = cas_refusal cas doc.cas
doc_refusal op.Delete cas (Some doc) = cas_refusal cas doc.cas

-- there are not as many seqnos left, beside one for each outstanding prepare
abbrev pub lacks_seqnos : Plain → ℕ → Bool
lacks_seqnos plain n = nat_lt MAX_SEQ (plain.position.at + length plain.waiting + n)

-- why a key with this prepare that waits is not written
abbrev pub pending_refusal : List Waiting → Option Pend → Option Status
pending_refusal waiting None = None
pending_refusal waiting (Some p) = Some (if is_left waiting (Some p) then status.SyncWriteReCommitInProgress else status.SyncWriteInProgress)

-- the first of two reasons
abbrev pub or_else : Option Status → Option Status → Option Status
or_else None other = other
or_else (Some st) other = Some st

-- why a key is not written, by its prepare that waits and then by its document
abbrev pub key_refusal : Plain → Write → Option Status
key_refusal plain write = or_else (pending_refusal plain.waiting (pending_of plain write.key)) (doc_refusal write.op write.cas (doc_at plain write.key))

-- why a write is refused, the first of its reasons
abbrev pub store_refusal : Plain → Write → Option Status
store_refusal plain write =
    if is_active plain.role then (if lacks_seqnos plain 1 then Some status.Etmpfail else key_refusal plain write) else Some status.NotMyVbucket

-- what a write does to its key: puts the document, or takes it away
abbrev pub act_of : Op → Doc → Act
act_of op.Set doc = act.Set doc
act_of op.Add doc = act.Set doc
act_of op.Replace doc = act.Set doc
act_of op.Delete doc = act.Remove doc.cas doc.rev

-- the document that a write puts
abbrev pub written_doc : Write → ℕ → ℕ → Doc
written_doc write cas rev = record {
  value = write.value;
  cas = cas;
  rev = rev;
  flags = write.flags;
  expiry = write.expiry;
  datatype = write.datatype;
}

-- the change that a write makes, with this CAS
abbrev pub write_change : Plain → Write → ℕ → Change
write_change plain write cas = record {
  seq = plain.position.at + 1;
  key = write.key;
  act = act_of write.op (written_doc write cas (new_rev (doc_at plain write.key)));
}

-- an own change with this CAS is taken in at the end, in the open span or in a new one
abbrev pub growth : Plain → Change → ℕ → Plain × VbReply
growth plain change cas = (
  record plain {
    held = plain.held ++ change ∷ [];
    position = complete_position change.seq;
    last_cas = cas;
    spans = with_change plain.spans (own_joined plain.held plain.spans.current (last_at plain.held change.key) change) (span_of plain.position.at Own change);
  },
  record { answer = answer.Stored (newest_branch plain.log) change.seq cas; resolved = []; ended = []; branch = newest_branch plain.log; changes = change ∷ [] },
)

-- a write that is refused changes nothing
abbrev pub store_outcome : Option Status → Plain → Write → ℕ → Plain × VbReply
store_outcome (Some status) plain write cas = (plain, refusal_reply status)
store_outcome None plain write cas = growth plain (write_change plain write cas) cas

-- a write with the next CAS
abbrev pub store_row : Plain → Write → ℕ → Plain × VbReply
store_row plain write clock = store_outcome (store_refusal plain write) plain write (new_cas clock plain.last_cas)

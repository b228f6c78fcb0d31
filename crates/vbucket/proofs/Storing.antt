-- a vBucket stays sound with one more change of its own
use Rattle.std.proofs.Common.{◌≡◌, ℕ, ◌+◌, ◌*◌, ◌/◌, ◌^◌, ◌<◌, ◌≤◌, Bool, true, false, List, [], ◌∷◌, ◌++◌, length, refl, sym, subst, arith}
use Rattle.std.specs.Prelude.{Option, Some, None, if◌then◌else◌, nat_lt}
use Rattle.std.specs.List.{fold}
use Rattle.std.proofs.lemmas.Bool.Decides.{nat_tests}
use Rattle.std.proofs.lemmas.List.Sums.{fold-append}
use Rattle.durability.specs.declared.waiting.Waiting.{Waiting}
use Rattle.vb_types.specs.declared.doc.Doc.{Doc}
use Rattle.vb_types.specs.declared.change.Change.{Change}
use Rattle.vb_types.specs.declared.change.Pend.{Pend}
use Rattle.vb_types.specs.declared.role.Role.{Role}
use Rattle.vb_types.specs.declared.role.Role.TheVariants as role
use Rattle.vb_types.specs.declared.role.LogEntry.{LogEntry}
use Rattle.vb_types.specs.declared.position.Position.{Position}
use Rattle.vb_types.specs.declared.position.TheConstants.{MAX_SEQ}
use Rattle.vb_types.specs.declared.status.Status.{Status}
use Rattle.vb_types.specs.declared.status.Status.TheVariants as status
use Rattle.vb_types.specs.declared.write.Op.{Op}
use Rattle.vb_types.specs.declared.write.Op.TheVariants as op
use Rattle.vb_types.specs.declared.write.Write.{Write}
use Rattle.vb_types.specs.Images.{applied}
use Rattle.vb_calls.specs.State.{Plain, complete_position, doc_at, image_in, is_active, pending_of}
use Rattle.vb_calls.specs.Following.{cas_of}
use Rattle.vb_calls.specs.Writes.{act_of, doc_refusal, growth, key_refusal, lacks_seqnos, new_cas, new_rev, or_else, pending_refusal, store_refusal, write_change, written_doc}
use Rattle.vbucket.specs.Laws.{AreBacked, CasUpTo, IsOwn, PendSeqsUpTo, PendsDiffer, Sound}
use Rattle.vbucket.proofs.Backing.{backed_written}
use Rattle.vbucket.proofs.Pending.{pends_more}
use Rattle.vbucket.proofs.Prepares.{NoPrepare, differ_fold, seqs_fold}
use Rattle.vbucket.proofs.Spanned.{grown_spanned}

pub casses_push : (m n : ℕ) (cs : List Change) (c : Change) → CasUpTo m cs → m ≤ n → cas_of c.act ≤ n → CasUpTo n (cs ++ c ∷ [])
casses_push m n [] c u l h = (h, tt)
casses_push m n (d ∷ ds) c u l h = let here = u.0 in (omega arith, casses_push m n ds c u.1 l h)

new_own : (r : Role) (position : Position) (log : List LogEntry) (seq : ℕ) → IsOwn r position log → IsOwn r (complete_position seq) log
new_own role.Active position log seq o = (refl, o.1)
new_own role.Replica position log seq o = tt
new_own role.Pending position log seq o = tt
new_own role.Dead position log seq o = tt

-- a write that is not refused has room
pub room : (r : Role) (full : Bool) (said : Option Status) → (if is_active r then (if full then Some status.Etmpfail else said) else Some status.NotMyVbucket) ≡ None → full ≡ false
room role.Active true said e = cc
room role.Active false said e = refl
room role.Replica full said e = cc
room role.Pending full said e = cc
room role.Dead full said e = cc

pub active_of : (r : Role) (full : Bool) (said : Option Status) → (if is_active r then (if full then Some status.Etmpfail else said) else Some status.NotMyVbucket) ≡ None → is_active r ≡ true
active_of role.Active full said e = refl
active_of role.Replica full said e = cc
active_of role.Pending full said e = cc
active_of role.Dead full said e = cc

rounded : (clock : ℕ) → clock / 65536 * 65536 ≤ clock
rounded clock = omega arith

pub cas_fits : (clock last : ℕ) → clock < 2 ^ 64 → new_cas clock last < 2 ^ 64
cas_fits clock last l = let r = rounded clock in omega arith

pub act_cas : (o : Op) (doc : Doc) → cas_of (act_of o doc) ≡ doc.cas
act_cas op.Set doc = refl
act_cas op.Add doc = refl
act_cas op.Replace doc = refl
act_cas op.Delete doc = refl

pub cas_rises : (clock last : ℕ) → last < 2 ^ 64 → last ≤ new_cas clock last
cas_rises clock last l = omega arith

-- what waits in a sound vBucket has seqnos up to the last one, no two the same
pub seqs_at : (vb : Plain) → Sound vb → PendSeqsUpTo vb.position.at (image_in vb)
seqs_at vb s = seqs_fold vb.floor vb.position.at vb.base vb.held s.rises s.low

pub differ_at : (vb : Plain) → Sound vb → PendsDiffer (image_in vb)
differ_at vb s = differ_fold vb.floor vb.position.at vb.base vb.held s.rises s.low s.apart

-- the image with one more change
pub image_pushed : (vb : Plain) (c : Change) → fold applied vb.base (vb.held ++ c ∷ []) ≡ applied (image_in vb) c
image_pushed vb c = fold-append applied vb.base vb.held (c ∷ [])

-- one more change of the vBucket's own, and the prepares that are outstanding then
pub grown_sound : (vb : Plain) (c : Change) (cas : ℕ) (ws : List Waiting) → Sound vb → is_active vb.role ≡ true → c.seq ≡ vb.position.at + 1 → vb.position.at < 2 ^ 48 → vb.last_cas ≤ cas → cas_of c.act ≤ cas → cas < 2 ^ 64
    → AreBacked vb.role (applied (image_in vb) c) c.seq ws → Sound (record (growth vb c cas).0 { waiting = ws })
grown_sound vb c cas ws s on next free more counted fits b = record {
  spanned = grown_spanned vb c cas s.spanned on (omega arith);
  placed = record { capped = omega arith; within = (omega arith, omega arith); own = new_own vb.role vb.position vb.log c.seq s.own };
  stamped = record { casses = casses_push vb.last_cas cas vb.held c s.casses more counted; pends = pends_more vb.last_cas cas vb.base more s.pends; last_cas = fits };
  based = s.based;
  saved = s.saved;
  counted = record { waits = subst (λ image. AreBacked vb.role image c.seq ws) (sym (image_pushed vb c)) b; links = s.links };
  feeds = s.feeds;
}

-- a write is not refused where nothing waits at its key
pub nothing_waits : (ws : List Waiting) (o : Option Pend) (other : Option Status) → or_else (pending_refusal ws o) other ≡ None → (o ≡ None) × (other ≡ None)
nothing_waits ws None other e = (refl, e)
nothing_waits ws (Some p) other e = cc

pub said_none : (r : Role) (full : Bool) (said : Option Status) → (if is_active r then (if full then Some status.Etmpfail else said) else Some status.NotMyVbucket) ≡ None → said ≡ None
said_none role.Active true said e = cc
said_none role.Active false said e = e
said_none role.Replica full said e = cc
said_none role.Pending full said e = cc
said_none role.Dead full said e = cc

-- there are seqnos left
pub has_room : (n : ℕ) → nat_lt MAX_SEQ n ≡ false → n ≤ 2 ^ 48
has_room n e = grind (arith, nat_tests)

pub no_prepare : (o : Op) (doc : Doc) → NoPrepare (act_of o doc)
no_prepare op.Set doc = tt
no_prepare op.Add doc = tt
no_prepare op.Replace doc = tt
no_prepare op.Delete doc = tt

pub stored_sound : (vb : Plain) (write : Write) (clock : ℕ) → store_refusal vb write ≡ None → Sound vb → clock < 2 ^ 64 → Sound (growth vb (write_change vb write (new_cas clock vb.last_cas)) (new_cas clock vb.last_cas)).0
stored_sound vb write clock e s t =
    let left : vb.position.at + length vb.waiting + 1 ≤ 2 ^ 48 = has_room (vb.position.at + length vb.waiting + 1) (room vb.role (lacks_seqnos vb 1) (key_refusal vb write) e) in
    let same = act_cas write.op (written_doc write (new_cas clock vb.last_cas) (new_rev (doc_at vb write.key))) in
    let none = nothing_waits vb.waiting (pending_of vb write.key) (doc_refusal write.op write.cas (doc_at vb write.key)) (said_none vb.role (lacks_seqnos vb 1) (key_refusal vb write) e) in
    let c = write_change vb write (new_cas clock vb.last_cas) in
    grown_sound vb c (new_cas clock vb.last_cas) vb.waiting s (active_of vb.role (lacks_seqnos vb 1) (key_refusal vb write) e) refl (omega arith) (cas_rises clock vb.last_cas s.last_cas) (omega arith) (cas_fits clock vb.last_cas t)
    (backed_written vb.role (image_in vb) vb.position.at vb.waiting write.key c.act s.waits (seqs_at vb s) (no_prepare write.op (written_doc write (new_cas clock vb.last_cas) (new_rev (doc_at vb write.key)))) none.0 left)

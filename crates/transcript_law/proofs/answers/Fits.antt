-- what a client's session answers fits what the lines tell of the vBucket that was asked
use Rattle.std.specs.Prelude.{◌≡◌, ◌<◌, ◌≤◌, ◌+◌, ◌^◌, ◌∷◌, ◌++◌, if◌then◌else◌, length, nat_lt, not}
use Rattle.std.specs.FinMap as finite
use Rattle.transcript_law.proofs.Words.{ℕ, Bool, true, false, List, [], refl, ap, sym, ◌∙◌, subst, inl, inr, ⊎_elim, arith, nat_tests, Option, Some, None, Ok, Frame, RESPONSE, KvRequest, Change, Doc, Pend, Picture, Plain, PlainWorld, Role, Status, Write, Chronicle, VbAnswer}
use Rattle.transcript_law.proofs.Words.{doc_at, image_in, image_of, is_active, new_rev, refusal_reply, write_change}
use Rattle.client_session.specs.Rows.{seqno_part}
use Rattle.transcript_law.proofs.{answers.{Committed.{CommitTold, HowTold, LostTold}, Explained.{IsPrepareOf}}, disks.Absent.{nothing_here}, invariant.Agreement.{Agrees, AgreesAt, VbAgrees, active_counts, image_is, is_down, power_of, vb_of}, invariant.Lefts.{AreLeftExactly, left_exactly}, invariant.Seats.{seat}}
use Rattle.transcript_law.specs.{Chronicles.{rested, resting}, LawfulAnswers.{AllDurable, IsImpossibleFirst, FitsBy, FitsDurable, FitsFrame, FitsGet, FitsRequest, FitsWrite, IsCommitted, IsLeftUndone, IsLocked, IsMade, IsRefused, IsStatus, IsUnsure, IsWhyRefused, LacksMajority, LacksSeqnos, HavePassed, PreparesIn, IsOutcome}, LawfulClients.{IsActive}, LawfulMessages.{Moment}, LinesTold.{OwnChange}}
use Rattle.branch_model.specs.{Histories.{last_seq}, Journals.{role_of}}
use Rattle.client_session.specs.Answers.{found_reply, reply_to, status_reply, stored_reply, value_reply}
use Rattle.client_session.specs.Serving.{deadline_of, is_dcp, outcome_reply}
use Rattle.client_session.specs.declared.session.{Awaited.{Awaited}, Settings.{Settings}}
use Rattle.durability.specs.Chains.{Members, is_possible}
use Rattle.durability.specs.{Laws.{IsLate}, declared.waiting.Waiting.{Waiting}}
use Rattle.vb_types.specs.declared.change.Act.TheVariants as act
use Rattle.mcbp_kv.proofs.{Asked.{passed}, Shapes.{each_code}}
use Rattle.mcbp_kv.specs.{Answers.{IsFound, IsWelcome}, Features.{feature_bytes}, Replies.{reply_frame}, Requests.{request_by, request_of}}
use Rattle.mcbp_kv.specs.declared.durable.Durability.{Durability}
use Rattle.mcbp_kv.specs.declared.feature.Feature.{Feature}
use Rattle.mcbp_kv.specs.declared.opcodes.TheConstants.{GET, HELLO}
use Rattle.mcbp_kv.specs.declared.reply.KvReply.{KvReply}
use Rattle.mcbp_kv.specs.declared.durable.Durability.{Durability}
use Rattle.mcbp_kv.specs.declared.request.KvRequest.TheVariants as request
use Rattle.vb_calls.specs.{Durable.{durable_refusal, is_delete}, State.{get_reply, get_row, is_left, pending_of}}
use Rattle.vb_calls.specs.Writes.{doc_refusal, key_refusal, lacks_seqnos, or_else, pending_refusal, store_refusal, written_doc}
use Rattle.vb_calls.specs.declared.calls.Resolution.{Resolution}
use Rattle.vb_calls.specs.declared.calls.Resolution.TheVariants as resolution
use Rattle.vb_types.specs.declared.journal.Record.{Record}
use Rattle.vb_types.specs.declared.position.TheConstants.{MAX_SEQ}
use Rattle.vbucket.{proofs.Storing.{nothing_waits, said_none}, specs.Laws.{AreBacked, IsBacked}}
use Rattle.transcript_law.proofs.{answers.Claims.{IsOwn}, verbs.Times.{passed_at}}

-- ---- a vBucket as the lines tell it

-- its role, what it holds with the prepares that wait, and, where it may commit, its chain and which of them were left
pub record KnownAs (r : Chronicle) (n v : ℕ) (vb : Plain) : Type 0 where
  pub role : r.role_at n v ≡ Some (Some vb.role)
  pub image : image_of (r.held n v) ≡ image_in vb
  pub chain : is_active vb.role ≡ true → (r.counts_at n v).chain ≡ vb.others
  pub high : last_seq 0 (r.held n v) ≡ vb.position.at
  pub waits : AreBacked vb.role (image_in vb) vb.position.at vb.waiting
  pub lefts : is_active vb.role ≡ true → AreLeftExactly (r.counts_at n v).risen (image_in vb) vb.waiting

-- so is each that is there
pub known_as : (w : PlainWorld) (r : Chronicle) (n v : ℕ) (vb : Plain) → Agrees w r → vb_of w n v ≡ Some vb → KnownAs r n v vb
known_as w r n v vb (k, a) there =
    let it : VbAgrees r n v (k.nodes (seat n v)) vb = subst (AgreesAt r n v (k.nodes (seat n v))) there (a.vbs n v) in record {
      role = it.role;
      image = ap image_of it.held ∙ sym (image_is it.kept);
      chain = λ active. (active_counts active it.counts).chain;
      high = ap (last_seq 0) it.held ∙ it.kept.high;
      waits = it.kept.sound.counted.waits;
      lefts = λ active. left_exactly (r.counts_at n v).risen vb it.kept.sound active (it.lefts active);
    }

-- one that is not there, at a node that is running
pub away : (w : PlainWorld) (r : Chronicle) (n v : ℕ) → Agrees w r → vb_of w n v ≡ None → is_down (power_of w n) ≡ false → r.role_at n v ≡ Some None
away w r n v (k, a) none up = (nothing_here w r k n v a none up).role

-- what rests is not active
rests : (book : List Record) → IsActive (Some (resting book)) → ⊥
rests [] active = cc
rests (last ∷ older) active = by (role_of (last ∷ older)) active
  where
    by : (o : Option Role) → IsActive (Some (Some (rested o))) → ⊥
    by None e = cc
    by (Some Role.Active) e = cc
    by (Some Role.Replica) e = cc
    by (Some Role.Pending) e = cc
    by (Some Role.Dead) e = cc

-- nor is one that is not there, at any node
pub not_here : (w : PlainWorld) (r : Chronicle) (n v : ℕ) → Agrees w r → vb_of w n v ≡ None → IsActive (r.role_at n v) → ⊥
not_here w r n v (k, a) none active = rests (k.disks (seat n v)).book (sym (a.aways n v none).role ∙ active)

-- a role that takes writes, and one that does not
leads : (x : Role) → is_active x ≡ true → IsActive (Some (Some x))
leads Role.Active e = refl
leads other e = cc

follows : (x : Role) → is_active x ≡ false → IsActive (Some (Some x)) → ⊥
follows Role.Active e active = cc
follows other e active = cc

-- ---- responses

-- it repeats what it answers
pub record Repeats (f g : Frame) : Type 0 where
  pub response : g.magic ≡ RESPONSE
  pub opcode : g.opcode ≡ f.opcode
  pub opaque : g.opaque ≡ f.opaque

-- two that are the same one
same : {A : Type 0} (x y : A) → Some x ≡ Some y → x ≡ y
same x y e = cc

pub status_repeats : (f : Frame) (st : Status) → Repeats f (reply_frame (status_reply f st))
status_repeats f st = record { response = refl; opcode = refl; opaque = refl }

pub value_repeats : (f : Frame) (value : List ℕ) → Repeats f (reply_frame (value_reply f value))
value_repeats f value = record { response = refl; opcode = refl; opaque = refl }

pub stored_repeats : (settings : Settings) (f : Frame) (branch seq cas : ℕ) → Repeats f (reply_frame (stored_reply settings f branch seq cas))
stored_repeats settings f branch seq cas = record { response = refl; opcode = refl; opaque = refl }

found_repeats : (settings : Settings) (f : Frame) (doc : Doc) → Repeats f (reply_frame (found_reply settings f doc))
found_repeats settings f doc = record { response = refl; opcode = refl; opaque = refl }

-- whatever a vBucket answers
pub reply_repeats : (settings : Settings) (f : Frame) (said : VbAnswer) (reply : KvReply) → reply_to settings f said ≡ Some reply → Repeats f (reply_frame reply)
reply_repeats settings f (VbAnswer.Status st) reply e = subst (λ (y : KvReply). Repeats f (reply_frame y)) (same (status_reply f st) reply e) (status_repeats f st)
reply_repeats settings f (VbAnswer.Found doc) reply e = subst (λ (y : KvReply). Repeats f (reply_frame y)) (same (found_reply settings f doc) reply e) (found_repeats settings f doc)
reply_repeats settings f (VbAnswer.Stored branch seq cas) reply e =
    subst (λ (y : KvReply). Repeats f (reply_frame y)) (same (stored_reply settings f branch seq cas) reply e) (stored_repeats settings f branch seq cas)
reply_repeats settings f other reply e = cc

-- the outcome of a durable write, of which the frame is awaited
pub outcome_repeats : (settings : Settings) (f : Frame) (a : Awaited) (how : Resolution) → a.opcode ≡ f.opcode → a.opaque ≡ f.opaque → Repeats f (reply_frame (outcome_reply settings a how))
outcome_repeats settings f a (resolution.Committed branch seq cas) code number = record { response = refl; opcode = code; opaque = number }
outcome_repeats settings f a resolution.Ambiguous code number = record { response = refl; opcode = code; opaque = number }

-- ---- answers that no vBucket is asked for

-- a status alone
pub status_fits : (f : Frame) (st : Status) → IsStatus f (reply_frame (status_reply f st)) st
status_fits f st = record {
  header = record { magic = refl; opcode = refl; key = refl; datatype = refl; status = refl; opaque = refl; framing = refl };
  cas = refl;
  extras = refl;
  value = refl;
}

-- a request that is answered in words of its command has its opcode
abbrev pub HasOpcode : ℕ → KvRequest → Type 0
HasOpcode opcode (request.Get key) = opcode ≡ GET
HasOpcode opcode (request.Hello features) = opcode ≡ HELLO
HasOpcode opcode other = Unit {0}

pub has_opcode : (json : Bool) (f : Frame) (r : KvRequest) → request_of json f ≡ Ok r → HasOpcode f.opcode r
has_opcode json f r e =
    let p = passed json f r e in
    each_code (λ n. f.opcode ≡ n → request_by n p.durable f ≡ r → HasOpcode f.opcode r)
    (λ c a. subst (HasOpcode f.opcode) a c)
    (λ c a. subst (HasOpcode f.opcode) a tt)
    (λ c a. subst (HasOpcode f.opcode) a tt)
    (λ c a. subst (HasOpcode f.opcode) a tt)
    (λ c a. subst (HasOpcode f.opcode) a tt)
    (λ c a. subst (HasOpcode f.opcode) a tt)
    (λ c a. subst (HasOpcode f.opcode) a c)
    f.opcode p.code refl p.asks

-- the features that HELLO gets
pub welcome_fits : (f : Frame) (features : List Feature) → f.opcode ≡ HELLO → IsWelcome (reply_frame (value_reply f (feature_bytes features))) f.opaque features
welcome_fits f features code = record {
  header = record { magic = refl; opcode = code; key = refl; datatype = refl; status = refl; opaque = refl; framing = refl };
  cas = refl;
  extras = refl;
  value = refl;
}

-- ---- reads

found_fits : (settings : Settings) (f : Frame) (doc : Doc) → f.opcode ≡ GET → IsFound settings.json (reply_frame (found_reply settings f doc)) f.opaque doc
found_fits settings f doc code = record {
  header = record { magic = refl; opcode = code; key = refl; datatype = refl; status = refl; opaque = refl; framing = refl };
  cas = refl;
  extras = refl;
  value = refl;
}

-- one of a vBucket that is not active
pub get_away : (role : Option (Option Role)) (risen : ℕ) (image : Picture) (json : Bool) (key : List ℕ) (f : Frame) → (IsActive role → ⊥) → FitsGet role risen image json key f (reply_frame (status_reply f Status.NotMyVbucket))
get_away role risen image json key f off = record { away = λ o. status_fits f Status.NotMyVbucket; left = λ on l. absurd (off on); found = λ on free doc has. absurd (off on); none = λ on free has. absurd (off on) }

-- what waits at a key was left, or was not
module _ (risen : ℕ) (image : Picture) (waiting : List Waiting) (exact : AreLeftExactly risen image waiting) (key : List ℕ) where
  not_left : (o : Option Pend) → finite.get image.pending key ≡ o → is_left waiting o ≡ false → IsLeftUndone risen image key → ⊥
  not_left None none l left = let z : None ≡ Some left.0 = sym none ∙ left.1 in cc
  not_left (Some p) there l left =
      let both : Some p ≡ Some left.0 = sym there ∙ left.1 in let seq : p.seq ≡ left.0.seq = ap (λ (q : Pend). q.seq) (same p left.0 both) in
      let above : risen < p.seq = (exact key p there).own l in let low : left.0.seq ≤ risen = left.2 in omega arith

  not_own : (p : Pend) → finite.get image.pending key ≡ Some p → is_left waiting (Some p) ≡ true → IsLocked risen image key → ⊥
  not_own p there l locked =
      let both : Some p ≡ Some locked.0 = sym there ∙ locked.1 in let seq : p.seq ≡ locked.0.seq = ap (λ (q : Pend). q.seq) (same p locked.0 both) in
      let low : p.seq ≤ risen = (exact key p there).left l in let above : risen < locked.0.seq = locked.2 in omega arith

module _ (settings : Settings) (f : Frame) (key : List ℕ) (x : Role) (risen : ℕ) (image : Picture) where
  -- a frame fits
  abbrev Fits : KvReply → Type 0
  Fits reply = FitsGet (Some (Some x)) risen image settings.json key f (reply_frame reply)

  -- by what the vBucket has at the key
  read_by : f.opcode ≡ GET → (waiting : List Waiting) → (is_active x ≡ true → AreLeftExactly risen image waiting) → (a : Bool) → is_active x ≡ a → (o : Option Pend) → finite.get image.pending key ≡ o → (left : Bool) → is_left waiting o ≡ left
      → (d : Option Doc) → finite.get image.docs key ≡ d → (reply : KvReply) → reply_to settings f (if a then get_reply left d else refusal_reply Status.NotMyVbucket).answer ≡ Some reply → Fits reply
  read_by code waiting exact false off o p left l d has reply e =
      subst Fits (same (status_reply f Status.NotMyVbucket) reply e) (get_away (Some (Some x)) risen image settings.json key f (follows x off))
  read_by code waiting exact true on None p true l d has reply e = cc
  read_by code waiting exact true on (Some pend) p true l d has reply e = subst Fits (same (status_reply f Status.SyncWriteReCommitInProgress) reply e) (record {
    away = λ off. absurd (off (leads x on));
    left = λ active left. status_fits f Status.SyncWriteReCommitInProgress;
    found = λ active free doc is. absurd (free (pend, p, (exact on key pend p).left l));
    none = λ active free is. absurd (free (pend, p, (exact on key pend p).left l));
  })
  read_by code waiting exact true on o p false l None has reply e = subst Fits (same (status_reply f Status.KeyEnoent) reply e) (record {
    away = λ off. absurd (off (leads x on));
    left = λ active left. absurd (not_left risen image waiting (exact on) key o p l left);
    found = λ active free doc is. (let z : None ≡ Some doc = sym has ∙ is in cc);
    none = λ active free is. status_fits f Status.KeyEnoent;
  })
  read_by code waiting exact true on o p false l (Some doc) has reply e = subst Fits (same (found_reply settings f doc) reply e) (record {
    away = λ off. absurd (off (leads x on));
    left = λ active left. absurd (not_left risen image waiting (exact on) key o p l left);
    found = λ active free other is. subst (IsFound settings.json (reply_frame (found_reply settings f doc)) f.opaque) (same doc other (sym has ∙ is)) (found_fits settings f doc code);
    none = λ active free is. (let z : None ≡ Some doc = sym is ∙ has in cc);
  })

-- ---- why a write is refused

-- as its vBucket is not active
why_away : (Besides : Status → Type 0) (role : Option (Option Role)) (risen : ℕ) (image : Picture) (write : Write) (st : Status) → (IsActive role → ⊥) → st ≡ Status.NotMyVbucket → IsWhyRefused Besides role risen image write st
why_away Besides role risen image write st off is = record { away = λ o. is; left = λ on l. absurd (off on); locked = λ on l. absurd (off on); unfit = λ on free. absurd (off on) }

module _ (Besides : Status → Type 0) (x : Role) (risen : ℕ) (image : Picture) (write : Write) (st : Status) (on : is_active x ≡ true) where
  abbrev Why : Type 0
  Why = IsWhyRefused Besides (Some (Some x)) risen image write st

  -- at any key
  why_besides : Besides st → Why
  why_besides b = record { away = λ off. absurd (off (leads x on)); left = λ active l. inr b; locked = λ active l. inr b; unfit = λ active free. inr b }

  -- by the prepare that waits at its key, or by the key's document
  why_key : (waiting : List Waiting) → AreLeftExactly risen image waiting → (o : Option Pend) → finite.get image.pending write.key ≡ o
      → or_else (pending_refusal waiting o) (doc_refusal write.op write.cas (finite.get image.docs write.key)) ≡ Some st → Why
  why_key waiting exact None none e = record {
    away = λ off. absurd (off (leads x on));
    left = λ active l. (let z : None ≡ Some l.0 = sym none ∙ l.1 in cc);
    locked = λ active l. (let z : None ≡ Some l.0 = sym none ∙ l.1 in cc);
    unfit = λ active free. inl e;
  }
  why_key waiting exact (Some p) waits e = record {
    away = λ off. absurd (off (leads x on));
    left = λ active l. inl (left (is_left waiting (Some p)) refl e l);
    locked = λ active l. inl (own (is_left waiting (Some p)) refl e l);
    unfit = λ active free. (let z : None ≡ Some p = sym free ∙ waits in cc);
  }
    where
      left : (b : Bool) → is_left waiting (Some p) ≡ b → Some (if b then Status.SyncWriteReCommitInProgress else Status.SyncWriteInProgress) ≡ Some st → IsLeftUndone risen image write.key → st ≡ Status.SyncWriteReCommitInProgress
      left true t s l = sym (same Status.SyncWriteReCommitInProgress st s)
      left false t s l = absurd (not_left risen image waiting exact write.key (Some p) waits t l)

      own : (b : Bool) → is_left waiting (Some p) ≡ b → Some (if b then Status.SyncWriteReCommitInProgress else Status.SyncWriteInProgress) ≡ Some st → IsLocked risen image write.key → st ≡ Status.SyncWriteInProgress
      own true t s l = absurd (not_own risen image waiting exact write.key p waits t l)
      own false t s l = sym (same Status.SyncWriteInProgress st s)

module _ (vb : Plain) (risen : ℕ) (exact : is_active vb.role ≡ true → AreLeftExactly risen (image_in vb) vb.waiting) (write : Write) (st : Status) where
  -- by what its vBucket is
  why_store : (held : List Change) → (lacks_seqnos vb 1 ≡ true → LacksSeqnos held 1 Status.Etmpfail) → store_refusal vb write ≡ Some st → IsWhyRefused (LacksSeqnos held 1) (Some (Some vb.role)) risen (image_in vb) write st
  why_store held lacks e = by (is_active vb.role) refl (lacks_seqnos vb 1) refl e
    where
      by : (a : Bool) → is_active vb.role ≡ a → (full : Bool) → lacks_seqnos vb 1 ≡ full → (if a then (if full then Some Status.Etmpfail else key_refusal vb write) else Some Status.NotMyVbucket) ≡ Some st
          → IsWhyRefused (LacksSeqnos held 1) (Some (Some vb.role)) risen (image_in vb) write st
      by false off full l s = why_away (LacksSeqnos held 1) (Some (Some vb.role)) risen (image_in vb) write st (follows vb.role off) (sym (same Status.NotMyVbucket st s))
      by true on true l s = why_besides (LacksSeqnos held 1) vb.role risen (image_in vb) write st on (subst (LacksSeqnos held 1) (same Status.Etmpfail st s) (lacks l))
      by true on false l s = why_key (LacksSeqnos held 1) vb.role risen (image_in vb) write st on vb.waiting (exact on) (pending_of vb write.key) refl s

  -- one that can have no majority comes first
  first_durable : (chain : Members) → (is_active vb.role ≡ true → chain ≡ vb.others) → durable_refusal vb write ≡ Some st → IsImpossibleFirst (Some (Some vb.role)) chain st
  first_durable chain is e active few = by (is_active vb.role) refl (is_possible vb.others) refl (lacks_seqnos vb 2) e
    where
      by : (a : Bool) → is_active vb.role ≡ a → (p : Bool) → is_possible vb.others ≡ p → (full : Bool)
          → (if not a then Some Status.NotMyVbucket else if not p then Some Status.DurabilityImpossible else if full then Some Status.Etmpfail else key_refusal vb write) ≡ Some st → st ≡ Status.DurabilityImpossible
      by false off p q full s = absurd (follows vb.role off active)
      by true on false q full s = sym (same Status.DurabilityImpossible st s)
      by true on true q full s = let z : true ≡ false = sym q ∙ ap is_possible (sym (is on)) ∙ few in cc

  -- and by its chain
  why_durable : (chain : Members) (held : List Change) → (is_active vb.role ≡ true → chain ≡ vb.others) → (lacks_seqnos vb 2 ≡ true → LacksSeqnos held 2 Status.Etmpfail) → durable_refusal vb write ≡ Some st
      → IsWhyRefused (LacksMajority chain held) (Some (Some vb.role)) risen (image_in vb) write st
  why_durable chain held is lacks e = by (is_active vb.role) refl (is_possible vb.others) refl (lacks_seqnos vb 2) refl e
    where
      by : (a : Bool) → is_active vb.role ≡ a → (p : Bool) → is_possible vb.others ≡ p → (full : Bool) → lacks_seqnos vb 2 ≡ full
          → (if not a then Some Status.NotMyVbucket else if not p then Some Status.DurabilityImpossible else if full then Some Status.Etmpfail else key_refusal vb write) ≡ Some st
          → IsWhyRefused (LacksMajority chain held) (Some (Some vb.role)) risen (image_in vb) write st
      by false off p few full l s = why_away (LacksMajority chain held) (Some (Some vb.role)) risen (image_in vb) write st (follows vb.role off) (sym (same Status.NotMyVbucket st s))
      by true on false few full l s = why_besides (LacksMajority chain held) vb.role risen (image_in vb) write st on (inr (ap is_possible (is on) ∙ few, sym (same Status.DurabilityImpossible st s)))
      by true on true few true l s = why_besides (LacksMajority chain held) vb.role risen (image_in vb) write st on (inl (subst (LacksSeqnos held 2) (same Status.Etmpfail st s) (lacks l)))
      by true on true few false l s = why_key (LacksMajority chain held) vb.role risen (image_in vb) write st on vb.waiting (exact on) (pending_of vb write.key) refl s

-- so it is refused where its vBucket is not active
pub refused_away : (Besides : Status → Type 0) (role : Option (Option Role)) (risen : ℕ) (image : Picture) (write : Write) (f : Frame) → (IsActive role → ⊥) → IsRefused Besides role risen image write f (reply_frame (status_reply f Status.NotMyVbucket))
refused_away Besides role risen image write f off = (Status.NotMyVbucket, status_fits f Status.NotMyVbucket, why_away Besides role risen image write Status.NotMyVbucket off refl)

-- ---- writes that were made

-- a write that is not refused is let by the document of its key
let_by_doc : (vb : Plain) (write : Write) → store_refusal vb write ≡ None → doc_refusal write.op write.cas (doc_at vb write.key) ≡ None
let_by_doc vb write free =
    (nothing_waits vb.waiting (pending_of vb write.key) (doc_refusal write.op write.cas (doc_at vb write.key)) (said_none vb.role (lacks_seqnos vb 1) (key_refusal vb write) free)).1

pub made_fits : (n v : ℕ) (held : List Change) (made : List OwnChange) (settings : Settings) (f : Frame) (vb : Plain) (write : Write) (cas branch clock : ℕ) (older : List OwnChange) (before : List Change)
    → made ≡ record { node = n; vb = v; branch = branch; change = write_change vb write cas; clock = clock } ∷ older → AllDurable older → held ≡ before ++ write_change vb write cas ∷ [] → image_of before ≡ image_in vb
    → store_refusal vb write ≡ None → IsMade n v held made settings write f (reply_frame (stored_reply settings f branch (write_change vb write cas).seq cas))
made_fits n v held made settings f vb write cas branch clock older before last alone behind image free = record {
  branch = branch;
  change = write_change vb write cas;
  clock = clock;
  older = older;
  last = last;
  alone = alone;
  key = refl;
  cas = cas;
  rev = new_rev (doc_at vb write.key);
  act = refl;
  before = before;
  behind = behind;
  fits = ap (λ (p : Picture). doc_refusal write.op write.cas (finite.get p.docs write.key)) image ∙ let_by_doc vb write free;
  told = record {
    header = record { magic = refl; opcode = refl; key = refl; datatype = refl; status = refl; opaque = refl; framing = refl };
    cas = refl;
    extras = refl;
    value = refl;
  };
}

-- ---- outcomes of durable writes

module _ (settings : Settings) (f : Frame) (a : Awaited) (code : a.opcode ≡ f.opcode) (number : a.opaque ≡ f.opaque) where
  -- what waits so is the prepare of the write, as it was told
  abbrev named_of : (n v u : ℕ) (write : Write) (wish : Durability) (x : Waiting) (p : Pend) (told : List OwnChange) → u ≡ v → (is : IsPrepareOf write x p) → PreparesIn n u x.seq x.key wish.level p.doc p.deleted told → PreparesIn n v x.seq write.key wish.level (written_doc write is.cas is.rev) (is_delete write.op) told
  named_of n v u write wish x p told at is named = record {
    first = named.first;
    among = named.among;
    node = named.node;
    vb = named.vb ∙ at;
    seq = named.seq;
    key = named.key ∙ is.key_is;
    act = named.act ∙ ap (λ d. act.Prepare wish.level d p.deleted) is.doc_is ∙ ap (act.Prepare wish.level (written_doc write is.cas is.rev)) is.deleted_is;
  }

  pub committed_fits : (n v : ℕ) (served : Option (List OwnChange)) (made : List OwnChange) (write : Write) (wish : Durability) (Claim : ℕ → Waiting → Pend → Type 0) (branch seq cas : ℕ) → ((told : List OwnChange) (u : ℕ) (x : Waiting) (p : Pend) → served ≡ Some told → x.waiter ≡ a.waiter → Claim u x p → IsOwn n v write wish told u x p)
      → CommitTold n made Claim a.waiter branch seq cas → IsCommitted n v served made settings write wish f (reply_frame (outcome_reply settings a (resolution.Committed branch seq cas)))
  committed_fits n v served made write wish Claim branch seq cas owns t = record {
    one = t.one;
    told_before = t.among;
    here = t.here;
    prepared = t.x.seq;
    doc = t.p.doc;
    deleted = t.p.deleted;
    commits = t.commits;
    own = λ told rises.
        let (at, is, k) = owns told t.one.vb t.x t.p rises t.number t.claim in record {
          at = at;
          key = t.key_is ∙ is.key_is;
          prepared = t.x.seq;
          cas = is.cas;
          rev = is.rev;
          commits = t.commits ∙ ap (λ d. act.Commit t.x.seq d t.p.deleted) is.doc_is ∙ ap (act.Commit t.x.seq (written_doc write is.cas is.rev)) is.deleted_is;
          names = named_of n v t.one.vb write wish t.x t.p told at is k.named;
        };
    told = record {
      header = record { magic = refl; opcode = code; key = refl; datatype = refl; status = refl; opaque = number; framing = refl };
      cas = sym t.cas_is;
      extras = (λ i. seqno_part settings (sym t.branch_is i) (sym t.seq_is i));
      value = refl;
    };
  }

  pub ambiguous_fits : IsStatus f (reply_frame (outcome_reply settings a resolution.Ambiguous)) Status.SyncWriteAmbiguous
  ambiguous_fits = record {
    header = record { magic = refl; opcode = code; key = refl; datatype = refl; status = refl; opaque = number; framing = refl };
    cas = refl;
    extras = refl;
    value = refl;
  }

  -- what was given up so late was so once the time was over that was asked for
  passed_by : (since timeout now : ℕ) (x : Waiting) → x.deadline ≡ Some (deadline_of since timeout) → IsLate now x → HavePassed timeout since now
  passed_by since timeout now x due (deadline, is, low) =
      let both : Some (deadline_of since timeout) ≡ Some deadline = sym due ∙ is in
      let same : deadline_of since timeout ≡ deadline = cc in
      passed_at since timeout now (subst (λ d. d ≤ now) (sym same) low)

  pub unsure_fits : (n v : ℕ) (served : Option (List OwnChange)) (r : Chronicle) (write : Write) (wish : Durability) (Claim : ℕ → Waiting → Pend → Type 0) → ((told : List OwnChange) (u : ℕ) (x : Waiting) (p : Pend) → served ≡ Some told → x.waiter ≡ a.waiter → Claim u x p → IsOwn n v write wish told u x p)
      → LostTold n r Claim a.waiter → IsUnsure n v served (r.role_at n v) r.made write wish f (reply_frame (outcome_reply settings a resolution.Ambiguous))
  unsure_fits n v served r write wish Claim owns t = record {
    said = ambiguous_fits;
    own = λ told rises.
        let (at, is, k) = owns told t.v t.x t.p rises t.number t.claim in record {
          prepared = t.x.seq;
          cas = is.cas;
          rev = is.rev;
          names = named_of n v t.v write wish t.x t.p told at is k.named;
          lost = ⊎_elim
              (λ off. inl (subst (λ u. IsActive (r.role_at n u) → ⊥) at off))
              (λ g. inr (record { one = g.one; told_before = g.among; node = g.node; vb = g.vb ∙ at; key = g.key_is ∙ is.key_is; aborts = g.aborts; late = passed_by k.named.first.clock wish.timeout g.one.clock t.x k.due g.late })) t.lost;
        };
  }

-- ---- each by what the lines tell

-- a frame that is none of DCP's fits where its request does
pub frame_fits : (served : Option (List OwnChange)) (r : Chronicle) (n : ℕ) (at : Moment) (settings : Settings) (f g : Frame) → is_dcp f.opcode ≡ false → FitsRequest served r n at.durables settings f g (request_of settings.json f) → FitsFrame served r n at settings f g
frame_fits served r n at settings f g own fits = subst (λ b. FitsBy b served r n at settings f g) (sym own) fits

module _ (r : Chronicle) (n v : ℕ) (settings : Settings) (f : Frame) (write : Write) where
  -- a vBucket that is not active, or is not there, refuses each write
  pub write_away : (IsActive (r.role_at n v) → ⊥) → FitsWrite r n v settings write f (reply_frame (status_reply f Status.NotMyVbucket))
  write_away off = inl (refused_away (LacksSeqnos (r.held n v) 1) (r.role_at n v) (r.counts_at n v).risen (image_of (r.held n v)) write f off)

  pub durable_away : (served : Option (List OwnChange)) (wish : Durability) → (IsActive (r.role_at n v) → ⊥) → FitsDurable served r n v settings write wish f (reply_frame (status_reply f Status.NotMyVbucket))
  durable_away served wish off =
      let x = refused_away (LacksMajority (r.counts_at n v).chain (r.held n v)) (r.role_at n v) (r.counts_at n v).risen (image_of (r.held n v)) write f off in inl (x.0, x.1, x.2, λ on few. absurd (off on))

  -- its outcome
  pub outcome_fits : (wish : Durability) (a : Awaited) (how : Resolution) (Claim : ℕ → Waiting → Pend → Type 0) → a.opcode ≡ f.opcode → a.opaque ≡ f.opaque → (served : Option (List OwnChange)) → ((told : List OwnChange) (u : ℕ) (x : Waiting) (p : Pend) → served ≡ Some told → x.waiter ≡ a.waiter → Claim u x p → IsOwn n v write wish told u x p)
      → HowTold n r Claim (record { waiter = a.waiter; how = how }) → FitsDurable served r n v settings write wish f (reply_frame (outcome_reply settings a how))
  outcome_fits wish a (resolution.Committed branch seq cas) Claim code number served owns told = inr (inl (committed_fits settings f a code number n v served r.made write wish Claim branch seq cas owns (told.committed branch seq cas refl)))
  outcome_fits wish a resolution.Ambiguous Claim code number served owns told = inr (inr (unsure_fits settings f a code number n v served r write wish Claim owns (told.lost refl)))

-- an outcome refuses nothing
pub is_outcome : (settings : Settings) (f : Frame) (a : Awaited) (write : Write) (wish : Durability) → request_of settings.json f ≡ Ok (request.Write write (Some wish)) → (how : Resolution) → IsOutcome settings f (reply_frame (outcome_reply settings a how))
is_outcome settings f a write wish asks (resolution.Committed branch seq cas) = (write, wish, asks, inl refl)
is_outcome settings f a write wish asks resolution.Ambiguous = (write, wish, asks, inr refl)

-- beyond the last seqno
beyond : (n : ℕ) → nat_lt MAX_SEQ n ≡ true → 2 ^ 48 < n
beyond n e = grind (arith, nat_tests)

module _ (r : Chronicle) (n v : ℕ) (vb : Plain) (known : KnownAs r n v vb) where
  -- up to where the prepares that wait there were left
  abbrev risen : ℕ
  risen = (r.counts_at n v).risen

  -- what fits the vBucket fits what is told of it
  as_told : (P : Option (Option Role) → Picture → Type 0) → P (Some (Some vb.role)) (image_in vb) → P (r.role_at n v) (image_of (r.held n v))
  as_told P x = subst (λ o. P o (image_of (r.held n v))) (sym known.role) (subst (P (Some (Some vb.role))) (sym known.image) x)

  -- and so it is told where it has not so many seqnos left
  lacks : (count : ℕ) → lacks_seqnos vb count ≡ true → LacksSeqnos (r.held n v) count Status.Etmpfail
  lacks count full = record {
    waiting = vb.waiting;
    ascend = known.waits.ascend;
    backed = λ w x. subst (λ image. IsBacked image w) (sym known.image) (known.waits.backed w x);
    above = subst (λ at. 2 ^ 48 < at + length vb.waiting + count) (sym known.high) (beyond (vb.position.at + length vb.waiting + count) full);
    said = refl;
  }

  module _ (settings : Settings) (f : Frame) where
    pub get_fits : (key : List ℕ) → f.opcode ≡ GET → (reply : KvReply) → reply_to settings f (get_row vb key).answer ≡ Some reply
        → FitsGet (r.role_at n v) risen (image_of (r.held n v)) settings.json key f (reply_frame reply)
    get_fits key code reply e = as_told (λ role image. FitsGet role risen image settings.json key f (reply_frame reply))
        (read_by settings f key vb.role risen (image_in vb) code vb.waiting known.lefts (is_active vb.role) refl (pending_of vb key) refl (is_left vb.waiting (pending_of vb key)) refl (doc_at vb key) refl reply e)

    pub refused_fits : (write : Write) (st : Status) → store_refusal vb write ≡ Some st → FitsWrite r n v settings write f (reply_frame (status_reply f st))
    refused_fits write st e = inl (st, status_fits f st, as_told (λ role image. IsWhyRefused (LacksSeqnos (r.held n v) 1) role risen image write st) (why_store vb risen known.lefts write st (r.held n v) (lacks 1) e))

    pub durable_refused_fits : (served : Option (List OwnChange)) (write : Write) (wish : Durability) (st : Status) → durable_refusal vb write ≡ Some st → FitsDurable served r n v settings write wish f (reply_frame (status_reply f st))
    durable_refused_fits served write wish st e =
        let chain : Members = (r.counts_at n v).chain in
        inl (st, status_fits f st, as_told (λ role image. IsWhyRefused (LacksMajority chain (r.held n v)) role risen image write st) (why_durable vb risen known.lefts write st chain (r.held n v) known.chain (lacks 2) e), subst (λ o. IsImpossibleFirst o chain st) (sym known.role) (first_durable vb risen known.lefts write st chain known.chain e))

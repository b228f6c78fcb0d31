-- when a write is refused
use Rattle.std.proofs.Common.{◌≡◌, ◌≢◌, ◌⊎◌, inl, inr, ⊎_elim, ℕ, ◌+◌, ◌^◌, ◌<◌, ◌≤◌, Bool, true, false, List, [], ◌∷◌, length, refl, sym, ap, subst, ◌∙◌, arith}
use Rattle.std.specs.Prelude.{◌↔◌, Option, Some, None, is_some, not, if◌then◌else◌, nat_lt, ◌==◌, ◌&&◌, ◌||◌}
use Rattle.std.proofs.lemmas.Bool.{eqb-true, eq-eqb}
use Rattle.std.proofs.lemmas.Bool.Decides.{nat_tests}
use Rattle.durability.specs.declared.waiting.Waiting.{Waiting}
use Rattle.durability.specs.Laws.{Waits}
use Rattle.vb_types.specs.declared.change.Pend.{Pend}
use Rattle.vb_types.specs.declared.doc.Doc.{Doc}
use Rattle.vb_types.specs.declared.role.Role.{Role}
use Rattle.vb_types.specs.declared.role.Role.TheVariants as role
use Rattle.vb_types.specs.declared.position.TheConstants.{MAX_SEQ}
use Rattle.vb_types.specs.declared.status.Status.{Status}
use Rattle.vb_types.specs.declared.status.Status.TheVariants as status
use Rattle.vb_types.specs.declared.write.Op.{Op}
use Rattle.vb_types.specs.declared.write.Op.TheVariants as op
use Rattle.vb_types.specs.declared.write.Write.{Write}
use Rattle.vb_calls.specs.declared.calls.VbCall.TheVariants as call
use Rattle.vb_calls.specs.declared.calls.VbAnswer.TheVariants as answer
use Rattle.vb_calls.specs.State.{Plain, is_active, is_left, doc_at, pending_of}
use Rattle.vb_calls.specs.Writes.{cas_refusal, doc_refusal, key_refusal, lacks_seqnos, new_cas, or_else, pending_refusal, store_refusal, store_outcome}
use Rattle.vb_calls.specs.Plain.{plain_step}
use Rattle.vbucket.specs.Laws.{AbsentExactly, AgainExactly, Forbids, ForeignExactly, FullExactly, IsToCommit, NeedsOne, PendingExactly, PresentExactly, TakesWrites}
use Rattle.vbucket.proofs.Settling.{both_of}

-- the answer is the refusal, if there is one

told_of : (said : Option Status) (vb : Plain) (write : Write) (cas : ℕ) (st : Status) → (store_outcome said vb write cas).1.answer ≡ answer.Status st → said ≡ Some st
told_of (Some s) vb write cas st e = cc
told_of None vb write cas st e = cc

told_tested : (said : Option Status) (vb : Plain) (write : Write) (cas : ℕ) (st : Status) → said ≡ Some st → (store_outcome said vb write cas).1.answer ≡ answer.Status st
told_tested (Some s) vb write cas st e = cc
told_tested None vb write cas st e = cc

-- what the document at the key says

cas_unless : (b : Bool) (st : Status) → (if b then None else Some status.KeyEexists) ≡ Some st → (b ≡ false) × (st ≡ status.KeyEexists)
cas_unless true st e = cc
cas_unless false st e = (refl, cc)

set_unless : (b : Bool) (st : Status) → (if b then None else Some status.KeyEnoent) ≡ Some st → (b ≡ false) × (st ≡ status.KeyEnoent)
set_unless true st e = cc
set_unless false st e = (refl, cc)

cas_forbids : (asked there : ℕ) → (asked == 0 || asked == there) ≡ false → (asked ≢ 0) × (asked ≢ there)
cas_forbids asked there e = (grind (arith, nat_tests), grind (arith, nat_tests))

cas_forbidden : (asked there : ℕ) → asked ≢ 0 → asked ≢ there → (asked == 0 || asked == there) ≡ false
cas_forbidden asked there m n = grind (arith, nat_tests)

not_zero : (asked : ℕ) → (asked == 0) ≡ false → asked ≢ 0
not_zero asked e = grind (arith, nat_tests)

is_not_zero : (asked : ℕ) → asked ≢ 0 → (asked == 0) ≡ false
is_not_zero asked n = grind (arith, nat_tests)

-- a refusal by the document, or by its absence

abbrev Present : Op → ℕ → Option Doc → Type 0
Present o cas there = (doc : Doc) × (there ≡ Some doc) × ((o ≡ op.Add) ⊎ ((cas ≢ 0) × (cas ≢ doc.cas)))

abbrev Absent : Op → ℕ → Option Doc → Type 0
Absent o cas there = (there ≡ None) × ((o ≡ op.Replace) ⊎ ((o ≡ op.Delete) ⊎ ((o ≡ op.Set) × (cas ≢ 0))))

abbrev Reason : Op → ℕ → Option Doc → Status → Type 0
Reason o cas there st = ((st ≡ status.KeyEexists) × Present o cas there) ⊎ ((st ≡ status.KeyEnoent) × Absent o cas there)

by_cas : (o : Op) (cas : ℕ) (doc : Doc) (st : Status) → cas_refusal cas doc.cas ≡ Some st → Reason o cas (Some doc) st
by_cas o cas doc st e =
    let u = cas_unless (cas == 0 || cas == doc.cas) st e in
    inl (u.1, (doc, refl, inr (cas_forbids cas doc.cas u.0)))

reason : (o : Op) (cas : ℕ) (there : Option Doc) (st : Status) → doc_refusal o cas there ≡ Some st → Reason o cas there st
reason op.Set cas None st e = let u = set_unless (cas == 0) st e in inr (u.1, (refl, inr (inr (refl, not_zero cas u.0))))
reason op.Add cas None st e = cc
reason op.Replace cas None st e = inr (cc, (refl, inl refl))
reason op.Delete cas None st e = inr (cc, (refl, inr (inl refl)))
reason op.Set cas (Some doc) st e = by_cas op.Set cas doc st e
reason op.Add cas (Some doc) st e = inl (cc, (doc, refl, inl refl))
reason op.Replace cas (Some doc) st e = by_cas op.Replace cas doc st e
reason op.Delete cas (Some doc) st e = by_cas op.Delete cas doc st e

by_another : (o : Op) (cas : ℕ) (doc : Doc) → (o ≡ op.Add) ⊎ ((cas ≢ 0) × (cas ≢ doc.cas)) → o ≢ op.Add → cas_refusal cas doc.cas ≡ Some status.KeyEexists
by_another o cas doc f n = elim f [ inl e ↦ absurd (n e) | inr p ↦ ap (λ b. if b then None else Some status.KeyEexists) (cas_forbidden cas doc.cas p.0 p.1) ]

forbidden : (o : Op) (cas : ℕ) (doc : Doc) → (o ≡ op.Add) ⊎ ((cas ≢ 0) × (cas ≢ doc.cas)) → doc_refusal o cas (Some doc) ≡ Some status.KeyEexists
forbidden op.Add cas doc f = refl
forbidden op.Set cas doc f = by_another op.Set cas doc f (λ e. cc)
forbidden op.Replace cas doc f = by_another op.Replace cas doc f (λ e. cc)
forbidden op.Delete cas doc f = by_another op.Delete cas doc f (λ e. cc)

lacking : (o : Op) (cas : ℕ) → (o ≡ op.Replace) ⊎ ((o ≡ op.Delete) ⊎ ((o ≡ op.Set) × (cas ≢ 0))) → doc_refusal o cas None ≡ Some status.KeyEnoent
lacking op.Replace cas f = refl
lacking op.Delete cas f = refl
lacking op.Set cas f = elim f [ inl e ↦ cc | inr g ↦ elim g [ inl e ↦ cc | inr p ↦ ap (λ b. if b then None else Some status.KeyEnoent) (is_not_zero cas p.1) ] ]
lacking op.Add cas f = elim f [ inl e ↦ cc | inr g ↦ elim g [ inl e ↦ cc | inr p ↦ let e = p.0 in cc ] ]

-- a refusal by the prepare that waits at the key

some_left : (d : Option ℕ) → not (is_some d) ≡ true → d ≡ None
some_left None e = refl
some_left (Some n) e = cc

pub left_of : (ws : List Waiting) (p : Pend) → is_left ws (Some p) ≡ true → (w : Waiting) × Waits w ws × (w.seq ≡ p.seq) × (w.deadline ≡ None)
left_of [] p e = cc
left_of (v ∷ ws) p e = by (v.seq == p.seq && not (is_some v.deadline)) refl e (left_of ws p)
  where
    Found : List Waiting → Type 0
    Found xs = (w : Waiting) × Waits w xs × (w.seq ≡ p.seq) × (w.deadline ≡ None)

    by : (b : Bool) → (v.seq == p.seq && not (is_some v.deadline)) ≡ b → (b || is_left ws (Some p)) ≡ true → (is_left ws (Some p) ≡ true → Found ws) → Found (v ∷ ws)
    by true t k rest = let m = both_of (v.seq == p.seq) (not (is_some v.deadline)) t in (v, inl refl, eqb-true v.seq p.seq m.0, some_left v.deadline m.1)
    by false t k rest = let m = rest k in (m.0, inr m.1, m.2, m.3)

pub or_by_left : (ws : List Waiting) (p : Pend) (w : Waiting) → Waits w ws → w.seq ≡ p.seq → w.deadline ≡ None → is_left ws (Some p) ≡ true
or_by_left [] p w i e n = absurd i
or_by_left (v ∷ ws) p w i e n = ⊎_elim
    (λ s. ap (λ b. b || is_left ws (Some p)) (subst (λ (x : Waiting). (x.seq == p.seq && not (is_some x.deadline)) ≡ true) s (ap (λ d. w.seq == p.seq && not (is_some d)) n ∙ ap (λ b. b && true) (eq-eqb w.seq p.seq e))))
    (λ j. later (v.seq == p.seq && not (is_some v.deadline)) (or_by_left ws p w j e n)) i
  where
    later : (b : Bool) → is_left ws (Some p) ≡ true → (b || is_left ws (Some p)) ≡ true
    later true k = refl
    later false k = k

-- whether the prepare that waits at the key is to be committed again
pub again_of : (vb : Plain) (key : List ℕ) (o : Option Pend) → pending_of vb key ≡ o → is_left vb.waiting o ≡ true → IsToCommit vb key
again_of vb key None q e = cc
again_of vb key (Some p) q e = let k = left_of vb.waiting p e in (p, k.0, q, k.1, k.2, k.3)

pub again_tested : (vb : Plain) (key : List ℕ) → IsToCommit vb key → is_left vb.waiting (pending_of vb key) ≡ true
again_tested vb key k = ap (is_left vb.waiting) k.2 ∙ or_by_left vb.waiting k.0 k.1 k.3 k.4 k.5

abbrev pub InTheWay : List Waiting → Option Pend → Status → Type 0
InTheWay ws o st = (((p : Pend) × (o ≡ Some p)) × (is_left ws o ≡ true) × (st ≡ status.SyncWriteReCommitInProgress)) ⊎ (((p : Pend) × (o ≡ Some p)) × (is_left ws o ≡ false) × (st ≡ status.SyncWriteInProgress))

-- the reason is the prepare that waits, or, where there is none, the document
pub key_reason : (ws : List Waiting) (o : Option Pend) (other : Option Status) (st : Status) → or_else (pending_refusal ws o) other ≡ Some st → InTheWay ws o st ⊎ ((o ≡ None) × (other ≡ Some st))
key_reason ws None other st e = inr (refl, e)
key_reason ws (Some p) other st e = inl (by (is_left ws (Some p)) refl e)
  where
    by : (b : Bool) → is_left ws (Some p) ≡ b → Some (if b then status.SyncWriteReCommitInProgress else status.SyncWriteInProgress) ≡ Some st → InTheWay ws (Some p) st
    by true t k = inl ((p, refl), t, cc)
    by false t k = inr ((p, refl), t, cc)

pub is_again : (ws : List Waiting) (o : Option Pend) (other : Option Status) → is_left ws o ≡ true → or_else (pending_refusal ws o) other ≡ Some status.SyncWriteReCommitInProgress
is_again ws None other e = cc
is_again ws (Some p) other e = ap (λ b. Some (if b then status.SyncWriteReCommitInProgress else status.SyncWriteInProgress)) e

pub is_pending : (ws : List Waiting) (o : Option Pend) (p : Pend) (other : Option Status) → o ≡ Some p → is_left ws o ≡ false → or_else (pending_refusal ws o) other ≡ Some status.SyncWriteInProgress
is_pending ws None p other s e = cc
is_pending ws (Some q) p other s e = ap (λ b. Some (if b then status.SyncWriteReCommitInProgress else status.SyncWriteInProgress)) e

pub is_clear : (ws : List Waiting) (o : Option Pend) (other : Option Status) → o ≡ None → or_else (pending_refusal ws o) other ≡ other
is_clear ws o other e = ap (λ x. or_else (pending_refusal ws x) other) e

abbrev pub KeyReason : List Waiting → Option Pend → Op → ℕ → Option Doc → Status → Type 0
KeyReason ws o op cas there st = InTheWay ws o st ⊎ ((o ≡ None) × Reason op cas there st)

pub reasons : (ws : List Waiting) (o : Option Pend) (op : Op) (cas : ℕ) (there : Option Doc) (st : Status) → or_else (pending_refusal ws o) (doc_refusal op cas there) ≡ Some st → KeyReason ws o op cas there st
reasons ws o op cas there st e = ⊎_elim (λ k. inl k) (λ k. inr (k.0, reason op cas there st k.1)) (key_reason ws o (doc_refusal op cas there) st e)

-- a key is refused for one of four reasons
pub no_other : {A : Type 0} (ws : List Waiting) (o : Option Pend) (op : Op) (cas : ℕ) (there : Option Doc) (st : Status) → KeyReason ws o op cas there st
    → (st ≡ status.SyncWriteReCommitInProgress → A) → (st ≡ status.SyncWriteInProgress → A) → (st ≡ status.KeyEexists → A) → (st ≡ status.KeyEnoent → A) → A
no_other ws o op cas there st k a b c d = ⊎_elim (λ x. ⊎_elim (λ y. a y.2) (λ y. b y.2) x) (λ x. ⊎_elim (λ y. c y.0) (λ y. d y.0) x.1) k

-- the order of the reasons

abbrev first : Role → Bool → Option Status → Option Status
first r full said = if is_active r then (if full then Some status.Etmpfail else said) else Some status.NotMyVbucket

foreign_of : (r : Role) (full : Bool) (said : Option Status) → (said ≡ Some status.NotMyVbucket → ⊥) → first r full said ≡ Some status.NotMyVbucket → r ≢ role.Active
foreign_of role.Active true said n e = cc
foreign_of role.Active false said n e = λ _. n e
foreign_of role.Replica full said n e = λ k. cc
foreign_of role.Pending full said n e = λ k. cc
foreign_of role.Dead full said n e = λ k. cc

is_foreign : (r : Role) (full : Bool) (said : Option Status) → r ≢ role.Active → first r full said ≡ Some status.NotMyVbucket
is_foreign role.Active full said n = absurd (n refl)
is_foreign role.Replica full said n = refl
is_foreign role.Pending full said n = refl
is_foreign role.Dead full said n = refl

full_of : (r : Role) (full : Bool) (said : Option Status) → (said ≡ Some status.Etmpfail → ⊥) → first r full said ≡ Some status.Etmpfail → (r ≡ role.Active) × (full ≡ true)
full_of role.Active true said n e = (refl, refl)
full_of role.Active false said n e = absurd (n e)
full_of role.Replica full said n e = cc
full_of role.Pending full said n e = cc
full_of role.Dead full said n e = cc

is_full : (r : Role) (full : Bool) (said : Option Status) → r ≡ role.Active → full ≡ true → first r full said ≡ Some status.Etmpfail
is_full r full said a f = ap (λ q. first q full said) a ∙ ap (λ b. first role.Active b said) f

is_free : (r : Role) (full : Bool) (said : Option Status) → r ≡ role.Active → full ≡ false → first r full said ≡ said
is_free r full said a f = ap (λ q. first q full said) a ∙ ap (λ b. first role.Active b said) f

pub above : (n : ℕ) → nat_lt MAX_SEQ n ≡ true → 2 ^ 48 < n
above n e = grind (arith, nat_tests)

pub is_above : (n : ℕ) → 2 ^ 48 < n → nat_lt MAX_SEQ n ≡ true
is_above n l = grind (arith, nat_tests)

pub is_below : (n : ℕ) → n ≤ 2 ^ 48 → nat_lt MAX_SEQ n ≡ false
is_below n l = grind (arith, nat_tests)

-- a refusal and the answer that tells it
said_by : (vb : Plain) (write : Write) (clock : ℕ) (st : Status) → (plain_step vb (call.Store write clock)).1.answer ≡ answer.Status st → store_refusal vb write ≡ Some st
said_by vb write clock st e = told_of (store_refusal vb write) vb write (new_cas clock vb.last_cas) st e

says : (vb : Plain) (write : Write) (clock : ℕ) (st : Status) → store_refusal vb write ≡ Some st → (plain_step vb (call.Store write clock)).1.answer ≡ answer.Status st
says vb write clock st e = told_tested (store_refusal vb write) vb write (new_cas clock vb.last_cas) st e

-- why a key is refused
pub key_reasons : (vb : Plain) (write : Write) (st : Status) → key_refusal vb write ≡ Some st → KeyReason vb.waiting (pending_of vb write.key) write.op write.cas (doc_at vb write.key) st
key_reasons vb write st e = reasons vb.waiting (pending_of vb write.key) write.op write.cas (doc_at vb write.key) st e

pub not_foreign : (vb : Plain) (write : Write) → key_refusal vb write ≡ Some status.NotMyVbucket → ⊥
not_foreign vb write e = no_other vb.waiting (pending_of vb write.key) write.op write.cas (doc_at vb write.key) status.NotMyVbucket (key_reasons vb write status.NotMyVbucket e) (λ k. cc) (λ k. cc) (λ k. cc) (λ k. cc)

pub not_full : (vb : Plain) (write : Write) → key_refusal vb write ≡ Some status.Etmpfail → ⊥
not_full vb write e = no_other vb.waiting (pending_of vb write.key) write.op write.cas (doc_at vb write.key) status.Etmpfail (key_reasons vb write status.Etmpfail e) (λ k. cc) (λ k. cc) (λ k. cc) (λ k. cc)

pub not_impossible : (vb : Plain) (write : Write) → key_refusal vb write ≡ Some status.DurabilityImpossible → ⊥
not_impossible vb write e = no_other vb.waiting (pending_of vb write.key) write.op write.cas (doc_at vb write.key) status.DurabilityImpossible (key_reasons vb write status.DurabilityImpossible e) (λ k. cc) (λ k. cc) (λ k. cc) (λ k. cc)

pub foreign : ForeignExactly
foreign vb write clock = (
  λ e. foreign_of vb.role (lacks_seqnos vb 1) (key_refusal vb write) (not_foreign vb write) (said_by vb write clock status.NotMyVbucket e),
  λ n. says vb write clock status.NotMyVbucket (is_foreign vb.role (lacks_seqnos vb 1) (key_refusal vb write) n),
)

pub full : FullExactly
full vb write clock = (
  λ e. let p = full_of vb.role (lacks_seqnos vb 1) (key_refusal vb write) (not_full vb write) (said_by vb write clock status.Etmpfail e) in (p.0, above (vb.position.at + length vb.waiting + 1) p.1),
  λ p. says vb write clock status.Etmpfail (is_full vb.role (lacks_seqnos vb 1) (key_refusal vb write) p.0 (is_above (vb.position.at + length vb.waiting + 1) p.1)),
)

-- where writes are taken, the key decides
decided : (vb : Plain) (write : Write) → TakesWrites vb → store_refusal vb write ≡ key_refusal vb write
decided vb write t = is_free vb.role (lacks_seqnos vb 1) (key_refusal vb write) t.0 (is_below (vb.position.at + length vb.waiting + 1) t.1)

-- the four reasons of a key, each exactly

pub again_key : (vb : Plain) (write : Write) → (key_refusal vb write ≡ Some status.SyncWriteReCommitInProgress) ↔ IsToCommit vb write.key
again_key vb write = (
  λ e. ⊎_elim (λ x. ⊎_elim (λ y. again_of vb write.key (pending_of vb write.key) refl y.1) (λ y. let k = y.2 in cc) x) (λ x. ⊎_elim (λ y. let k = y.0 in cc) (λ y. let k = y.0 in cc) x.1) (key_reasons vb write status.SyncWriteReCommitInProgress e),
  λ k. is_again vb.waiting (pending_of vb write.key) (doc_refusal write.op write.cas (doc_at vb write.key)) (again_tested vb write.key k),
)

not_again : (vb : Plain) (key : List ℕ) → is_left vb.waiting (pending_of vb key) ≡ false → IsToCommit vb key → ⊥
not_again vb key e k = let z : true ≡ false = sym (again_tested vb key k) ∙ e in cc

is_not_again : (vb : Plain) (key : List ℕ) (b : Bool) → is_left vb.waiting (pending_of vb key) ≡ b → (IsToCommit vb key → ⊥) → b ≡ false
is_not_again vb key true e n = absurd (n (again_of vb key (pending_of vb key) refl e))
is_not_again vb key false e n = refl

pub pending_key : (vb : Plain) (write : Write) → (key_refusal vb write ≡ Some status.SyncWriteInProgress) ↔ (((p : Pend) × (pending_of vb write.key ≡ Some p)) × (IsToCommit vb write.key → ⊥))
pending_key vb write = (
  λ e. ⊎_elim (λ x. ⊎_elim (λ y. let k = y.2 in cc) (λ y. (y.0, not_again vb write.key y.1)) x) (λ x. ⊎_elim (λ y. let k = y.0 in cc) (λ y. let k = y.0 in cc) x.1) (key_reasons vb write status.SyncWriteInProgress e),
  λ k. is_pending vb.waiting (pending_of vb write.key) k.0.0 (doc_refusal write.op write.cas (doc_at vb write.key)) k.0.1 (is_not_again vb write.key (is_left vb.waiting (pending_of vb write.key)) refl k.1),
)

pub present_key : (vb : Plain) (write : Write) → (key_refusal vb write ≡ Some status.KeyEexists) ↔ ((pending_of vb write.key ≡ None) × ((doc : Doc) × (doc_at vb write.key ≡ Some doc) × Forbids doc write))
present_key vb write = (
  λ e. ⊎_elim (λ x. ⊎_elim (λ y. let k = y.2 in cc) (λ y. let k = y.2 in cc) x) (λ x. (x.0, ⊎_elim (λ y. y.1) (λ y. let k = y.0 in cc) x.1)) (key_reasons vb write status.KeyEexists e),
  λ p. is_clear vb.waiting (pending_of vb write.key) (doc_refusal write.op write.cas (doc_at vb write.key)) p.0 ∙ ap (doc_refusal write.op write.cas) p.1.1 ∙ forbidden write.op write.cas p.1.0 p.1.2,
)

pub absent_key : (vb : Plain) (write : Write) → (key_refusal vb write ≡ Some status.KeyEnoent) ↔ ((pending_of vb write.key ≡ None) × (doc_at vb write.key ≡ None) × NeedsOne write)
absent_key vb write = (
  λ e. ⊎_elim (λ x. ⊎_elim (λ y. let k = y.2 in cc) (λ y. let k = y.2 in cc) x) (λ x. ⊎_elim (λ y. let k = y.0 in cc) (λ y. (x.0, y.1.0, y.1.1)) x.1) (key_reasons vb write status.KeyEnoent e),
  λ p. is_clear vb.waiting (pending_of vb write.key) (doc_refusal write.op write.cas (doc_at vb write.key)) p.0 ∙ ap (doc_refusal write.op write.cas) p.1 ∙ lacking write.op write.cas p.2,
)

module _ (vb : Plain) (write : Write) (clock : ℕ) (t : TakesWrites vb) where
  by_key : {A : Type 0} (st : Status) → (key_refusal vb write ≡ Some st) ↔ A → ((plain_step vb (call.Store write clock)).1.answer ≡ answer.Status st) ↔ A
  by_key st k = (λ e. k.0 (sym (decided vb write t) ∙ said_by vb write clock st e), λ a. says vb write clock st (decided vb write t ∙ k.1 a))

pub again : AgainExactly
again vb write clock t = by_key vb write clock t status.SyncWriteReCommitInProgress (again_key vb write)

pub pending : PendingExactly
pending vb write clock t = by_key vb write clock t status.SyncWriteInProgress (pending_key vb write)

pub present : PresentExactly
present vb write clock t = by_key vb write clock t status.KeyEexists (present_key vb write)

pub absent : AbsentExactly
absent vb write clock t = by_key vb write clock t status.KeyEnoent (absent_key vb write)

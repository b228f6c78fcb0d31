-- a vBucket stays sound at the calls of durable writes
use Rattle.std.proofs.Common.{◌≡◌, ℕ, ◌+◌, ◌<◌, ◌≤◌, ◌^◌, Bool, true, false, List, [], ◌∷◌, length, refl, sym, ap, subst, ◌∙◌, inl, inr, ⊎_elim, arith}
use Rattle.std.specs.Prelude.{cond, not, max, Option, Some, None, if◌then◌else◌, nat_le, nat_lt}
use Rattle.std.specs.List.{fold}
use Rattle.std.proofs.lemmas.Bool.Decides.{nat_tests}
use Rattle.std.proofs.lemmas.List.{length-set}
use Rattle.durability.specs.declared.waiting.Waiting.{Waiting}
use Rattle.durability.specs.Chains.{Links, Members, differ, has_not, is_chain, is_possible, named}
use Rattle.durability.specs.Laws.{Waits}
use Rattle.durability.specs.Outstanding.{acked, is_late, late, with_ack, without}
use Rattle.vb_types.specs.declared.change.Act.TheVariants as act
use Rattle.vb_types.specs.declared.position.TheConstants.{MAX_SEQ}
use Rattle.vb_types.specs.declared.role.Role.{Role}
use Rattle.vb_types.specs.declared.role.Role.TheVariants as role
use Rattle.vb_types.specs.declared.status.Status.{Status}
use Rattle.vb_types.specs.declared.status.Status.TheVariants as status
use Rattle.vb_types.specs.declared.write.Write.{Write}
use Rattle.vb_calls.specs.declared.calls.Resolution.TheVariants as resolution
use Rattle.vb_calls.specs.State.{Plain, doc_at, image_in, is_active, pending_of}
use Rattle.vb_calls.specs.Durable.{Wish, aborted, durable_refusal, expired, is_delete, outstanding, prepare_change, prepared_vb}
use Rattle.vb_calls.specs.Settling.{Resolving, has_seqno, resolved_by, unresolved}
use Rattle.vb_calls.specs.Writes.{doc_refusal, key_refusal, lacks_seqnos, new_cas, new_rev, written_doc}
use Rattle.vbucket.specs.Laws.{Above, AreLinked, Ascend, OnlyLinked, Sound}
use Rattle.vbucket.proofs.Backing.{backed_prepared}
use Rattle.vbucket.proofs.Prepares.{gone}
use Rattle.vbucket.proofs.Settling.{both_of, resolved_sound}
use Rattle.vbucket.proofs.Storing.{cas_fits, cas_rises, grown_sound, has_room, nothing_waits, seqs_at}

-- a durable write that is not refused

pub durable_free : (r : Role) (p full : Bool) (said : Option Status)
    → (if not (is_active r) then Some status.NotMyVbucket else if not p then Some status.DurabilityImpossible else if full then Some status.Etmpfail else said) ≡ None
    → (is_active r ≡ true) × (p ≡ true) × (full ≡ false) × (said ≡ None)
durable_free role.Active true true said e = cc
durable_free role.Active true false said e = (refl, refl, refl, e)
durable_free role.Active false full said e = cc
durable_free role.Replica p full said e = cc
durable_free role.Pending p full said e = cc
durable_free role.Dead p full said e = cc

pub prepared_sound : (vb : Plain) (write : Write) (clock : ℕ) (wish : Wish) → durable_refusal vb write ≡ None → Sound vb → clock < 2 ^ 64 → Sound (prepared_vb vb write wish (new_cas clock vb.last_cas))
prepared_sound vb write clock wish e s t =
    let f = durable_free vb.role (is_possible vb.others) (lacks_seqnos vb 2) (key_refusal vb write) e in
    let left : vb.position.at + length vb.waiting + 2 ≤ 2 ^ 48 = has_room (vb.position.at + length vb.waiting + 2) f.2 in
    let none = nothing_waits vb.waiting (pending_of vb write.key) (doc_refusal write.op write.cas (doc_at vb write.key)) f.3 in
    let cas = new_cas clock vb.last_cas in
    let c = prepare_change vb write wish.level cas in
    let w = outstanding write wish (vb.position.at + 1) in
    grown_sound vb c cas _ s f.0 refl (omega arith) (cas_rises clock vb.last_cas s.last_cas) (omega arith) (cas_fits clock vb.last_cas t)
    (backed_prepared vb.role (image_in vb) vb.position.at vb.waiting w wish.level (written_doc write cas (new_rev (doc_at vb write.key))) (is_delete write.op) s.waits (seqs_at vb s) f.0 none.0 refl refl left)

-- the chain, and what its members acknowledged

only_linked : (r : Role) (others : Members) (acks : List ℕ) → is_active r ≡ true → OnlyLinked r others acks
only_linked role.Active others acks e = tt
only_linked role.Replica others acks e = cc
only_linked role.Pending others acks e = cc
only_linked role.Dead others acks e = cc

few_of : (n : ℕ) → nat_le n 3 ≡ true → n ≤ 3
few_of n e = grind (arith, nat_tests)

pub relinked : (vb : Plain) (others : Members) (acks : List ℕ) → Sound vb → AreLinked vb.role others acks → Sound (record vb { others = others; acks = acks })
relinked vb others acks s l = record { spanned = s.spanned; placed = s.placed; stamped = s.stamped; based = s.based; saved = s.saved; counted = record { waits = s.waits; links = l }; feeds = s.feeds }

pub chain_sound : (vb : Plain) (chain : Links) → is_active vb.role ≡ true → Sound vb → is_chain chain.active chain.others ≡ true → Sound (record vb { others = chain.others })
chain_sound vb chain on s t =
    let k = both_of (nat_le (length chain.others) 3) (differ (chain.active ∷ named chain.others)) t in
    let d = both_of (has_not chain.active (named chain.others)) (differ (named chain.others)) k.1 in
    relinked vb chain.others vb.acks s (record { only = only_linked vb.role chain.others vb.acks on; few = few_of (length chain.others) k.0; apart = d.1; each = s.links.each })

pub ack_sound : (vb : Plain) (member seq : ℕ) → is_active vb.role ≡ true → Sound vb → Sound (record vb { acks = with_ack vb.acks member seq })
ack_sound vb member seq on s =
    relinked vb vb.others (with_ack vb.acks member seq) s
    (record { only = only_linked vb.role vb.others (with_ack vb.acks member seq) on; few = s.links.few; apart = s.links.apart; each = length-set vb.acks member (max (acked vb.acks member) seq) ∙ s.links.each })

-- prepares whose time is up

pub seq_left : (at n : ℕ) → at + n ≤ 2 ^ 48 → 1 ≤ n → nat_lt at MAX_SEQ ≡ true
seq_left at n l m = grind (arith, nat_tests)

some_one : (ws : List Waiting) (w : Waiting) → Waits w ws → 1 ≤ length ws
some_one [] w i = absurd i
some_one (v ∷ ws) w i = omega arith

-- these are outstanding, and each has a deadline
abbrev pub AreTimed : List Waiting → List Waiting → Type 0
AreTimed todo ws = (w : Waiting) → Waits w todo → Waits w ws × ((deadline : ℕ) × (w.deadline ≡ Some deadline))

-- a seqno is left for one of these
pub may_abort : (vb : Plain) (w : Waiting) (deadline : ℕ) → Sound vb → Waits w vb.waiting → w.deadline ≡ Some deadline → has_seqno vb ≡ true
may_abort vb w deadline s i e = seq_left vb.position.at (length vb.waiting) (s.waits.left w deadline i e) (some_one vb.waiting w i)

pub abort_sound : (w : Waiting) (s : Resolving) → Sound s.vb → is_active s.vb.role ≡ true → has_seqno s.vb ≡ true → Waits w s.vb.waiting → Sound (resolved_by (act.Abort w.seq) resolution.Ambiguous w s).vb
abort_sound w s sound on free i = resolved_sound (act.Abort w.seq) resolution.Ambiguous w s sound on (has_seq s.vb.position.at free) i tt (omega arith)
  where
    has_seq : (at : ℕ) → nat_lt at MAX_SEQ ≡ true → at < 2 ^ 48
    has_seq at e = grind (arith, nat_tests)

-- the others stay outstanding
pub timed_rest : (w : Waiting) (todo ws : List Waiting) → Ascend (w ∷ todo) → Ascend ws → AreTimed (w ∷ todo) ws → AreTimed todo (without w.seq ws)
timed_rest w todo ws r a h = λ v i. let k = h v (inr i) in ((gone w.seq ws a).stays v k.0 (λ e. let l = over todo v r.0 i in omega arith), k.1)
  where
    over : (todo : List Waiting) (v : Waiting) → Above w.seq todo → Waits v todo → w.seq < v.seq
    over [] v a i = absurd i
    over (x ∷ todo) v a i = ⊎_elim (λ e. subst (λ (y : Waiting). w.seq < y.seq) (sym e) a.0) (λ j. over todo v a.1 j) i

pub expired_sound : (todo : List Waiting) (s : Resolving) → Sound s.vb → is_active s.vb.role ≡ true → Ascend todo → AreTimed todo s.vb.waiting → Sound (fold aborted s todo).vb
expired_sound [] s sound on r h = sound
expired_sound (w ∷ todo) s sound on r h =
    let k = h w (inl refl) in
    let free = may_abort s.vb w k.1.0 sound k.0 k.1.1 in
    let next = resolved_by (act.Abort w.seq) resolution.Ambiguous w s in
    subst (λ b. Sound (fold aborted (if b then next else s) todo).vb) (sym free)
    (expired_sound todo next (abort_sound w s sound on free k.0) on r.1 (timed_rest w todo s.vb.waiting r sound.waits.ascend h))

-- the late ones among those that are outstanding

late_has : (clock : ℕ) (d : Option ℕ) → is_late clock d ≡ true → (deadline : ℕ) × (d ≡ Some deadline) × (deadline ≤ clock)
late_has clock None e = cc
late_has clock (Some deadline) e = (deadline, refl, grind (arith, nat_tests))

pub in_late : (clock : ℕ) (ws : List Waiting) (w : Waiting) → Waits w (late clock ws) → Waits w ws × ((deadline : ℕ) × (w.deadline ≡ Some deadline) × (deadline ≤ clock))
in_late clock [] w i = absurd i
in_late clock (v ∷ ws) w i = by (is_late clock v.deadline) refl i (in_late clock ws w)
  where
    Found : List Waiting → Type 0
    Found xs = Waits w xs × ((deadline : ℕ) × (w.deadline ≡ Some deadline) × (deadline ≤ clock))

    by : (b : Bool) → is_late clock v.deadline ≡ b → Waits w (cond b (v ∷ late clock ws) (late clock ws)) → (Waits w (late clock ws) → Found ws) → Found (v ∷ ws)
    by true e j rest = ⊎_elim (λ s. let k = late_has clock v.deadline e in (inl s, (k.0, ap (λ (x : Waiting). x.deadline) s ∙ k.1, k.2))) (λ k. let m = rest k in (inr m.0, m.1)) j
    by false e j rest = let m = rest j in (inr m.0, m.1)

above_late : (n clock : ℕ) (ws : List Waiting) → Above n ws → Above n (late clock ws)
above_late n clock [] a = tt
above_late n clock (v ∷ ws) a = elim (is_late clock v.deadline) as (λ b. Above n (cond b (v ∷ late clock ws) (late clock ws))) [ true ↦ (a.0, above_late n clock ws a.1) | false ↦ above_late n clock ws a.1 ]

pub ascend_late : (clock : ℕ) (ws : List Waiting) → Ascend ws → Ascend (late clock ws)
ascend_late clock [] r = tt
ascend_late clock (v ∷ ws) r = elim (is_late clock v.deadline) as (λ b. Ascend (cond b (v ∷ late clock ws) (late clock ws))) [ true ↦ (above_late v.seq clock ws r.0, ascend_late clock ws r.1) | false ↦ ascend_late clock ws r.1 ]

pub late_timed : (clock : ℕ) (ws : List Waiting) → AreTimed (late clock ws) ws
late_timed clock ws = λ w i. let k = in_late clock ws w i in (k.0, (k.1.0, k.1.1))

pub aborts_sound : (vb : Plain) (clock : ℕ) → is_active vb.role ≡ true → Sound vb → Sound (expired clock vb).vb
aborts_sound vb clock on s = expired_sound (late clock vb.waiting) (unresolved vb) s on (ascend_late clock vb.waiting s.waits.ascend) (late_timed clock vb.waiting)

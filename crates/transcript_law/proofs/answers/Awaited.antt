-- what is outstanding behind a call was so before it, with the same entry, or is what a durable write placed
use Rattle.std.specs.Prelude.{◌≡◌, ◌≢◌, ◌+◌, ◌==◌, ◌∷◌, ◌++◌, ◌⊎◌, if◌then◌else◌}
use Rattle.transcript_law.proofs.Words.{ℕ, Bool, true, false, List, [], fold, refl, ap, sym, ◌∙◌, subst, arith, inl, inr, ⊎_elim, Some, None, All, All-nil, All-cons, All-append, All-weaker, Change, IsIn, Pend, Picture, Plain, VbCall, VbReply, Sound, Write}
use Rattle.transcript_law.proofs.Words.{applied, doc_at, eqb-false, growth, image_in, image_of, is_follower, is_older, key_cmp, led, new_cas, new_rev, plain_step, write_change, written_doc}
use Rattle.transcript_law.proofs.invariant.Waiting.{IsFrom, made_by}
use Rattle.branch_model.proofs.Lists.{in_left, in_right}
use Rattle.durability.specs.{Chains.{is_possible}, Laws.{IsLate, Waits}, Outstanding.{late}, declared.waiting.Waiting.{Waiting}}
use Rattle.std.proofs.lemmas.Slice.Eq.{bytes_eq-Decides}
use Rattle.std.specs.FinMap.{FinMap, get, remove}
use Rattle.std.specs.Str.{bytes_eq}
use Rattle.vb_calls.specs.Durable.{Wish, aborted, durable_refusal, expired, is_delete, outstanding, prepare_change, prepared_vb}
use Rattle.vb_calls.specs.Settling.{Resolving, and_settled, has_seqno, outcome_for, resolved_by, resolving_change, unresolved}
use Rattle.vb_calls.specs.State.{pending_of}
use Rattle.vb_calls.specs.Writes.{doc_refusal, key_refusal, lacks_seqnos, store_refusal}
use Rattle.vb_calls.specs.declared.calls.Resolution.TheVariants as resolution
use Rattle.vb_calls.specs.declared.calls.Resolution.{Resolution}
use Rattle.vb_calls.specs.declared.calls.Resolved.{Resolved}
use Rattle.vb_types.specs.declared.change.Act.{Act}
use Rattle.vb_calls.specs.declared.calls.VbCall.TheVariants as call
use Rattle.vb_types.proofs.Laws.{get-insert_same, get-remove_other, get-remove_same}
use Rattle.vb_types.specs.declared.change.Act.TheVariants as act
use Rattle.vbucket.proofs.Backing.{are_left, none_idle}
use Rattle.vbucket.proofs.Committing.{commits}
use Rattle.vbucket.proofs.Prepares.{gone, pend_stays, put}
use Rattle.vbucket.proofs.Preparing.{durable_free, in_late}
use Rattle.vbucket.proofs.Trimmed.{trimmed_image}
use Rattle.vbucket.proofs.RowIs.{RowIs, StartIs, Adopts, Chains, Counts, Expires, Flushes, Inherits, Leads, Marks, Prepares, Receives, Rolls, Saves, Seals, Settles, Streams, Tells, Trims, Turns, Writes, Yields, row_is}
use Rattle.vbucket.proofs.Soundness.{follows_idle, start_sound, stays}
use Rattle.vbucket.proofs.Storing.{differ_at, image_pushed, nothing_waits, said_none, seqs_at}
use Rattle.vbucket.specs.Committing.{CommitsAll, IsCommitted}
use Rattle.vbucket.specs.Laws.{Ascend, IsTimely}

-- this prepare is outstanding, and this is what waits at its key
pub record IsOutstanding (vb : Plain) (w : Waiting) (p : Pend) : Type 0 where
  pub among : Waits w vb.waiting
  pub entry : pending_of vb w.key ≡ Some p
  pub same : p.seq ≡ w.seq

-- the call is a durable write that is not refused, and these are what it prepares: its own document, with its own number to wait under
abbrev pub IsPlaced : Plain → VbCall → Waiting → Pend → Type 0
IsPlaced vb (call.Durable write clock level deadline waiter) w p =
    (durable_refusal vb write ≡ None) × (w ≡ record { key = write.key; seq = vb.position.at + 1; level = level; deadline = Some deadline; waiter = waiter })
    × (p ≡ record { seq = vb.position.at + 1; level = level; doc = written_doc write (new_cas clock vb.last_cas) (new_rev (doc_at vb write.key)); deleted = is_delete write.op })
IsPlaced vb other w p = ⊥

-- it was outstanding before a call, or is placed by it
abbrev pub Stood : Plain → VbCall → Waiting → Pend → Type 0
Stood vb made w p = IsOutstanding vb w p ⊎ IsPlaced vb made w p

-- each that is outstanding has its entry
pub entry_of : (vb : Plain) → Sound vb → (w : Waiting) → Waits w vb.waiting → (p : Pend) × IsOutstanding vb w p
entry_of vb s w i = let b = s.waits.backed w i in (b.0, record { among = i; entry = b.1; same = b.2 })

-- and the change that prepared it is among those of which its vBucket's image is made
pub prepared_in : (vb : Plain) (h : List Change) (w : Waiting) (p : Pend) → image_in vb ≡ image_of h → IsOutstanding vb w p → (c : Change) × IsIn c h × IsFrom w.key p c
prepared_in vb h w p same o = made_by h w.key p (sym (ap (λ (image : Picture). get image.pending w.key) same) ∙ o.entry)

-- ---- one more change

-- at other keys there waits what waited
pushed_elsewhere : (vb : Plain) (c : Change) (key : List ℕ) → c.key ≢ key → get (fold applied vb.base (vb.held ++ c ∷ [])).pending key ≡ pending_of vb key
pushed_elsewhere vb c key n = ap (λ (image : Picture). get image.pending key) (image_pushed vb c) ∙ pend_stays (image_in vb) c.seq c.key c.act key n

-- a prepare is of a key at which something waits
at_other : (vb : Plain) (s : Sound vb) (key : List ℕ) (w : Waiting) → pending_of vb key ≡ None → Waits w vb.waiting → key ≢ w.key
at_other vb s key w none i e = let b = s.waits.backed w i in let z : None ≡ Some b.0 = sym none ∙ ap (pending_of vb) e ∙ b.1 in cc

pub written_stood : (vb : Plain) (write : Write) (clock : ℕ) → store_refusal vb write ≡ None → Sound vb → (w : Waiting) (p : Pend) → IsOutstanding (growth vb (write_change vb write (new_cas clock vb.last_cas)) (new_cas clock vb.last_cas)).0 w p → IsOutstanding vb w p
written_stood vb write clock free s w p o =
    let none = (nothing_waits vb.waiting (pending_of vb write.key) (doc_refusal write.op write.cas (doc_at vb write.key)) (said_none vb.role (lacks_seqnos vb 1) (key_refusal vb write) free)).0 in
    record { among = o.among; entry = sym (pushed_elsewhere vb (write_change vb write (new_cas clock vb.last_cas)) w.key (at_other vb s write.key w none o.among)) ∙ o.entry; same = o.same }

-- a durable write's own prepare, or one from before
pub prepared_stood : (vb : Plain) (write : Write) (clock : ℕ) (wish : Wish) → durable_refusal vb write ≡ None → Sound vb → (w : Waiting) (p : Pend) → IsOutstanding (prepared_vb vb write wish (new_cas clock vb.last_cas)) w p
    → Stood vb (call.Durable write clock wish.level wish.deadline wish.waiter) w p
prepared_stood vb write clock wish free s w p o = ⊎_elim own older ((put new vb.waiting s.waits.ascend low).was w o.among)
  where
    new : Waiting
    new = outstanding write wish (vb.position.at + 1)

    change : Change
    change = prepare_change vb write wish.level (new_cas clock vb.last_cas)

    pend : Pend
    pend = record { seq = vb.position.at + 1; level = wish.level; doc = written_doc write (new_cas clock vb.last_cas) (new_rev (doc_at vb write.key)); deleted = is_delete write.op }

    low : (v : Waiting) → Waits v vb.waiting → v.seq ≢ vb.position.at + 1
    low v i e = let k = s.waits.backed v i in let m = seqs_at vb s v.key k.0 k.1 in let n = k.2 in omega arith

    there : pending_of (prepared_vb vb write wish (new_cas clock vb.last_cas)) write.key ≡ Some pend
    there = ap (λ (image : Picture). get image.pending write.key) (image_pushed vb change) ∙ get-insert_same (image_in vb).pending write.key pend

    own : w ≡ new → Stood vb (call.Durable write clock wish.level wish.deadline wish.waiter) w p
    own e =
        let key : w.key ≡ write.key = ap (λ (x : Waiting). x.key) e in
        let k : Some p ≡ Some pend = sym o.entry ∙ ap (pending_of (prepared_vb vb write wish (new_cas clock vb.last_cas))) key ∙ there in
        inr (free, e, cc)

    none : pending_of vb write.key ≡ None
    none = (nothing_waits vb.waiting (pending_of vb write.key) (doc_refusal write.op write.cas (doc_at vb write.key)) (durable_free vb.role (is_possible vb.others) (lacks_seqnos vb 2) (key_refusal vb write) free).3).0

    older : Waits w vb.waiting → Stood vb (call.Durable write clock wish.level wish.deadline wish.waiter) w p
    older i = inl (record { among = i; entry = sym (pushed_elsewhere vb change w.key (at_other vb s write.key w none i)) ∙ o.entry; same = o.same })

-- ---- prepares that are committed

pub committed_one : (vb mid : Plain) (x : Waiting) (q : Pend) (c : Change) (told rest : List Resolved) → IsCommitted vb x q c told rest mid → (w : Waiting) (p : Pend) → IsOutstanding mid w p → IsOutstanding vb w p
committed_one vb mid x q c told rest k w p o =
    let other : w.key ≢ x.key = λ e. let z : Some p ≡ None = sym o.entry ∙ ap (pending_of mid) e ∙ k.none in cc in
    record { among = subst (Waits w) (sym k.lowest) (inr o.among); entry = sym (k.others w.key other).1 ∙ o.entry; same = o.same }

-- those that are left were outstanding
pub committed_stood : (vb after : Plain) (cs : List Change) (told : List Resolved) → CommitsAll vb cs told after → (w : Waiting) (p : Pend) → IsOutstanding after w p → IsOutstanding vb w p
committed_stood vb after [] told k w p o = subst (λ x. IsOutstanding x w p) k.1 o
committed_stood vb after (c ∷ cs) told k w p o = committed_one vb k.3 k.0 k.1 c told k.2 k.4 w p (committed_stood k.3 after cs k.2 k.5 w p o)

-- ---- prepares that are given up

-- what waits once a key's entry may have been taken away waited before
was_there : (pending : FinMap key_cmp Pend) (key q : List ℕ) (p : Pend) (gone : Bool) → get (if gone then remove pending key else pending) q ≡ Some p → get pending q ≡ Some p
was_there pending key q p false e = e
was_there pending key q p true e = by (bytes_eq key q) refl
  where
    by : (t : Bool) → bytes_eq key q ≡ t → get pending q ≡ Some p
    by true k =
        let there : get (remove pending key) key ≡ Some p = subst (λ x. get (remove pending key) x ≡ Some p) (sym ((bytes_eq-Decides key q).0 k)) e in
        let none : None ≡ Some p = sym (get-remove_same pending key) ∙ there in cc
    by false k = sym (get-remove_other pending key q (λ s. let same = (bytes_eq-Decides key q).1 s in cc)) ∙ e

-- so it did before a prepare was resolved by a change that takes its key's entry away
pub resolved_stood : (s : Resolving) (w : Waiting) (a : Act) (how : Resolution) → Ascend s.vb.waiting
    → (applied (image_in s.vb) (resolving_change s.vb w a)).pending ≡ (if is_older (s.vb.position.at + 1) (get (image_in s.vb).pending w.key) then remove (image_in s.vb).pending w.key else (image_in s.vb).pending)
    → (v : Waiting) (p : Pend) → IsOutstanding (resolved_by a how w s).vb v p → IsOutstanding s.vb v p
resolved_stood s w a how ascend left v p o =
    let pushed : get (applied (image_in s.vb) (resolving_change s.vb w a)).pending v.key ≡ Some p = sym (ap (λ (image : Picture). get image.pending v.key) (image_pushed s.vb (resolving_change s.vb w a))) ∙ o.entry in
    record {
      among = ((gone w.seq s.vb.waiting ascend).was v o.among).0;
      entry = was_there (image_in s.vb).pending w.key v.key p (is_older (s.vb.position.at + 1) (get (image_in s.vb).pending w.key)) (sym (ap (λ m. get m v.key) left) ∙ pushed);
      same = o.same;
    }

-- an outcome that nobody knows, of a prepare of these
pub record IsLost (Among : Waiting → Type 0) (o : Resolved) : Type 0 where
  pub w : Waiting
  pub among : Among w
  pub number : w.waiter ≡ o.waiter
  pub some : o.waiter ≢ 0
  pub how : o.how ≡ resolution.Ambiguous

pub lost_one : (Among : Waiting → Type 0) (w : Waiting) → Among w → All (IsLost Among) (outcome_for w.waiter resolution.Ambiguous)
lost_one Among w i = by (w.waiter == 0) refl
  where
    o : Resolved
    o = record { waiter = w.waiter; how = resolution.Ambiguous }

    by : (b : Bool) → (w.waiter == 0) ≡ b → All (IsLost Among) (if b then [] else o ∷ [])
    by true e = All-nil (IsLost Among)
    by false e = All-cons (IsLost Among) o [] (record { w = w; among = i; number = refl; some = eqb-false w.waiter 0 e; how = refl }) (All-nil (IsLost Among))

pub lost_as : (A B : Waiting → Type 0) → ((w : Waiting) → A w → B w) → (o : Resolved) → IsLost A o → IsLost B o
lost_as A B more o k = record { w = k.w; among = more k.w k.among; number = k.number; some = k.some; how = k.how }

-- one of these changes is the abort of a prepare
pub record HasAbort (changes : List Change) (w : Waiting) : Type 0 where
  pub change : Change
  pub there : IsIn change changes
  pub key_is : change.key ≡ w.key
  pub act_is : change.act ≡ act.Abort w.seq

-- a prepare whose time was up was given up by one of these changes
abbrev pub WasLate : ℕ → List Change → Waiting → Type 0
WasLate clock changes w = HasAbort changes w × IsLate clock w

pub late_more : (clock : ℕ) (cs ds : List Change) (w : Waiting) → WasLate clock cs w → WasLate clock (cs ++ ds) w
late_more clock cs ds w (k, late) = (record { change = k.change; there = in_left k.change cs ds k.there; key_is = k.key_is; act_is = k.act_is }, late)

-- some of a vBucket's prepares were given up, as their time was up: what is left was outstanding, and who waited for the others is told that nobody knows
pub record Gave (vb : Plain) (clock : ℕ) (s : Resolving) : Type 0 where
  pub ascend : Ascend s.vb.waiting
  pub stood : (w : Waiting) (p : Pend) → IsOutstanding s.vb w p → IsOutstanding vb w p
  pub told : All (IsLost (λ w. Waits w vb.waiting × WasLate clock s.changes w)) s.resolved

gave_one : (vb : Plain) (clock : ℕ) (w : Waiting) (s : Resolving) → Waits w vb.waiting → IsLate clock w → Gave vb clock s → Gave vb clock (aborted s w)
gave_one vb clock w s i up g = by (has_seqno s.vb)
  where
    change : Change
    change = resolving_change s.vb w (act.Abort w.seq)

    next : Resolving
    next = resolved_by (act.Abort w.seq) resolution.Ambiguous w s

    stood : (v : Waiting) (p : Pend) → IsOutstanding next.vb v p → IsOutstanding vb v p
    stood v p o =
        let pushed : get (applied (image_in s.vb) change).pending v.key ≡ Some p = sym (ap (λ (image : Picture). get image.pending v.key) (image_pushed s.vb change)) ∙ o.entry in
        g.stood v p (record {
          among = ((gone w.seq s.vb.waiting g.ascend).was v o.among).0;
          entry = was_there (image_in s.vb).pending w.key v.key p (is_older change.seq (get (image_in s.vb).pending w.key)) pushed;
          same = o.same;
        })

    Among : List Change → Waiting → Type 0
    Among cs v = Waits v vb.waiting × WasLate clock cs v

    own : WasLate clock next.changes w
    own = (record { change = change; there = in_right change s.changes (change ∷ []) (inl refl); key_is = refl; act_is = refl }, up)

    by : (b : Bool) → Gave vb clock (if b then next else s)
    by true = record {
      ascend = (gone w.seq s.vb.waiting g.ascend).ascend;
      stood = stood;
      told = All-append (IsLost (Among next.changes)) s.resolved (outcome_for w.waiter resolution.Ambiguous)
          (All-weaker (IsLost (Among s.changes)) (IsLost (Among next.changes)) (lost_as (Among s.changes) (Among next.changes) (λ v x. (x.0, late_more clock s.changes (change ∷ []) v x.1))) s.resolved g.told)
          (lost_one (Among next.changes) w (i, own));
    }
    by false = g

gave_all : (vb : Plain) (clock : ℕ) (todo : List Waiting) (s : Resolving) → ((w : Waiting) → Waits w todo → Waits w vb.waiting × IsLate clock w) → Gave vb clock s → Gave vb clock (fold aborted s todo)
gave_all vb clock [] s among g = g
gave_all vb clock (w ∷ todo) s among g = let here = among w (inl refl) in gave_all vb clock todo (aborted s w) (λ v i. among v (inr i)) (gave_one vb clock w s here.0 here.1 g)

-- those whose time is up
pub gave_late : (vb : Plain) (clock : ℕ) → Sound vb → Gave vb clock (expired clock vb)
gave_late vb clock s = gave_all vb clock (late clock vb.waiting) (unresolved vb) (λ w i. in_late clock vb.waiting w i) (record { ascend = s.waits.ascend; stood = λ w p o. o; told = All-nil (IsLost (λ w. Waits w vb.waiting × WasLate clock [] w)) })

-- ---- each call

-- a vBucket that follows has none
pub idle_none : (vb : Plain) (w : Waiting) → Sound vb → is_follower vb.role ≡ true → Waits w vb.waiting → ⊥
idle_none vb w s f i = subst (Waits w) (none_idle vb.role vb.waiting (follows_idle vb.role f) s.waits.only) i

-- one that a former active node left is awaited by nobody
pub left_none : (vb : Plain) (uuid : ℕ) (w : Waiting) → Sound vb → Waits w (led vb uuid).waiting → w.waiter ≡ 0
left_none vb uuid w s i = let k = (are_left (image_in vb) (differ_at vb s)).was w i in ap (λ (x : Waiting). x.waiter) k.3

-- how a call begins
pub start_stood : (vb : Plain) {made : VbCall} {start : Plain × VbReply} → StartIs vb made start → Sound vb → (w : Waiting) (p : Pend) → w.waiter ≢ 0 → IsOutstanding start.0 w p → Stood vb made w p
start_stood vb (Prepares write clock wish free) s w p some o = prepared_stood vb write clock wish free s w p o
start_stood vb (Chains chain on) s w p some o = inl (record { among = o.among; entry = o.entry; same = o.same })
start_stood vb (Counts member seq on) s w p some o = inl (record { among = o.among; entry = o.entry; same = o.same })
start_stood vb (Expires clock on) s w p some o = inl ((gave_late vb clock s).stood w p o)
start_stood vb (Saves seq) s w p some o = inl (record { among = o.among; entry = o.entry; same = o.same })
start_stood vb (Leads uuid free) s w p some o = absurd (some (left_none vb uuid w s o.among))
start_stood vb (Inherits free) s w p some o = absurd (some (left_none vb 0 w s o.among))

row_stood : (vb : Plain) {made : VbCall} {after : Plain × VbReply} → RowIs vb made after → Sound vb → IsTimely made → (w : Waiting) (p : Pend) → w.waiter ≢ 0 → IsOutstanding after.0 w p → Stood vb made w p
row_stood vb (Tells c said) s t w p some o = inl o
row_stood vb (Streams c streams said is) s t w p some o = inl (record { among = o.among; entry = o.entry; same = o.same })
row_stood vb (Adopts log f) s t w p some o = inl (record { among = o.among; entry = o.entry; same = o.same })
row_stood vb (Marks start end f fits) s t w p some o = inl (record { among = o.among; entry = o.entry; same = o.same })
row_stood vb (Seals was) s t w p some o = inl (record { among = o.among; entry = o.entry; same = o.same })
row_stood vb Trims s t w p some o = inl (record { among = o.among; entry = ap (λ (i : Picture). get i.pending w.key) (sym (trimmed_image vb s.spanned)) ∙ o.entry; same = o.same })
row_stood vb (Flushes x e) s t w p some o = inl (record { among = o.among; entry = o.entry; same = o.same })
row_stood vb (Writes write clock free) s t w p some o = inl (written_stood vb write clock free s w p o)
row_stood vb (Receives c a f next is) s t w p some o = absurd (idle_none vb w s f o.among)
row_stood vb (Settles c start is) s t w p some o =
    let k = (commits start (start_sound vb is s t)).commits in
    start_stood vb is s w p some (committed_stood start.0 (and_settled start).0 k.0 k.1 k.2 w p o)
row_stood vb (Rolls at image cas f) s t w p some o = absurd (idle_none vb w s f o.among)
row_stood vb (Turns c new loud idle) s t w p some o = absurd o.among
row_stood vb (Yields id stream on at) s t w p some o = absurd o.among

-- of what is awaited behind a call each was outstanding before it, with the same entry, or the call placed it
pub awaited : (vb : Plain) (made : VbCall) → Sound vb → IsTimely made → (w : Waiting) (p : Pend) → w.waiter ≢ 0 → IsOutstanding (plain_step vb made).0 w p → Stood vb made w p
awaited vb made s t w p some o = row_stood vb (row_is vb made) s t w p some o

-- the same of those that wait alone
pub waited : (vb : Plain) (made : VbCall) → Sound vb → IsTimely made → (w : Waiting) → Waits w (plain_step vb made).0.waiting → w.waiter ≢ 0 → Waits w vb.waiting ⊎ ((p : Pend) × IsPlaced vb made w p)
waited vb made s t w i some =
    let o = entry_of (plain_step vb made).0 (stays vb made s t) w i in
    ⊎_elim (λ b. inl b.among) (λ b. inr (o.0, b)) (awaited vb made s t w o.0 some o.1)

-- ---- what is awaited at a vBucket, as a kind that calls keep

-- each prepare that is outstanding and that somebody waits for is such a one, with its entry
abbrev pub Owes : (Waiting → Pend → Type 0) → Plain → Type 0
Owes Q vb = (w : Waiting) (p : Pend) → w.waiter ≢ 0 → IsOutstanding vb w p → Q w p

-- a call keeps that, where what it places is such a one
pub owes_kept : (Q : Waiting → Pend → Type 0) (vb : Plain) (made : VbCall) → Sound vb → IsTimely made → ((w : Waiting) (p : Pend) → w.waiter ≢ 0 → IsPlaced vb made w p → Q w p) → Owes Q vb → Owes Q (plain_step vb made).0
owes_kept Q vb made s t new owes = λ w p some o. ⊎_elim (λ before. owes w p some before) (λ own. new w p some own) (awaited vb made s t w p some o)

-- a call that is no durable write places none
abbrev pub IsNotDurable : VbCall → Type 0
IsNotDurable (call.Durable write clock level deadline waiter) = ⊥
IsNotDurable other = Unit {0}

pub places_none : (vb : Plain) (made : VbCall) (w : Waiting) (p : Pend) → IsNotDurable made → IsPlaced vb made w p → ⊥
places_none vb (call.Durable write clock level deadline waiter) w p n i = n
places_none vb other w p n i = i

pub owes_still : (Q : Waiting → Pend → Type 0) (vb : Plain) (made : VbCall) → Sound vb → IsTimely made → IsNotDurable made → Owes Q vb → Owes Q (plain_step vb made).0
owes_still Q vb made s t n owes = owes_kept Q vb made s t (λ w p some i. absurd (places_none vb made w p n i)) owes

-- nothing is awaited where nothing is outstanding, as where a vBucket was made or loaded
pub owes_none : (Q : Waiting → Pend → Type 0) (vb : Plain) → vb.waiting ≡ [] → Owes Q vb
owes_none Q vb none = λ w p some o. absurd (subst (Waits w) none o.among)

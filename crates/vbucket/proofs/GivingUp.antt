-- what becomes of outstanding prepares: a chain is set, a member acknowledges, time goes on, the role changes
use Rattle.std.proofs.Common.{◌≡◌, ◌≢◌, inl, inr, ⊎_elim, ℕ, ◌<◌, ◌≤◌, Bool, true, false, List, [], ◌∷◌, ◌++◌, refl, sym, ap, subst, ◌∙◌, arith}
use Rattle.std.specs.Prelude.{◌↔◌, cond, max, Option, Some, None, if◌then◌else◌, nat_lt}
use Rattle.std.specs.List.{fold}
use Rattle.std.proofs.lemmas.Bool.Decides.{nat_tests}
use Rattle.std.proofs.lemmas.List.{append-nil, append_assoc, get_or-set_same, get_or-set_other}
use Rattle.durability.specs.declared.waiting.Waiting.{Waiting}
use Rattle.durability.specs.Chains.{Links, is_chain}
use Rattle.durability.specs.Laws.{IsLate, Waits}
use Rattle.durability.specs.Outstanding.{acked, is_late, late, with_ack}
use Rattle.durability.proofs.Counts.{none_acked}
use Rattle.vb_types.specs.declared.change.Act.TheVariants as act
use Rattle.vb_types.specs.declared.change.Change.{Change}
use Rattle.vb_types.specs.declared.change.Pend.{Pend}
use Rattle.vb_types.specs.declared.role.LogEntry.{LogEntry}
use Rattle.vb_types.specs.declared.role.Role.{Role}
use Rattle.vb_types.specs.declared.role.Role.TheVariants as role
use Rattle.vb_types.specs.declared.status.Status.TheVariants as status
use Rattle.vb_calls.specs.declared.calls.Resolution.TheVariants as resolution
use Rattle.vb_calls.specs.declared.calls.Resolved.{Resolved}
use Rattle.vb_calls.specs.declared.calls.VbAnswer.{VbAnswer}
use Rattle.vb_calls.specs.declared.calls.VbAnswer.TheVariants as answer
use Rattle.vb_calls.specs.Durable.{aborted, expired, then_settled}
use Rattle.vb_calls.specs.Roles.{ending_reply, in_role, is_role, led, promoted, risen}
use Rattle.vb_calls.specs.Settling.{Resolving, also_resolved, and_settled, given_up, is_empty, left_prepare, outcome_for, resolved_by, resolving_change, unresolved}
use Rattle.vb_calls.specs.State.{Plain, image_in, is_active, newest_branch, pending_of, quiet_reply, refusal_reply}
use Rattle.vbucket.specs.Committing.{Commits}
use Rattle.vbucket.specs.DurableLaws.{Aborts, AcksAs, AcksExactly, AllAmbiguous, ChainsAs, ChainsExactly, GivesUp, GivesUpAll, LeavesAll, PromotionsLeave, TicksAs, TicksExactly, TurnsGiveUp}
use Rattle.vbucket.specs.Laws.{Ascend, Sound}
use Rattle.vbucket.specs.Settles.{Resolves}
use Rattle.vbucket.proofs.Asks.{not_role, role_of}
use Rattle.vbucket.proofs.Backing.{AreLeft, are_left}
use Rattle.vbucket.proofs.Committing.{commits, tells}
use Rattle.vbucket.proofs.Prepares.{gone, waits_above}
use Rattle.vbucket.proofs.Preparing.{AreTimed, abort_sound, aborts_sound, ack_sound, ascend_late, chain_sound, in_late, late_timed, may_abort, timed_rest}
use Rattle.vbucket.proofs.Settling.{resolves_none, resolves_one, resolves_then}
use Rattle.vbucket.proofs.Soundness.{led_sound}
use Rattle.vbucket.proofs.Storing.{differ_at}
use Rattle.vbucket.proofs.RowIs.{leading}
use Rattle.vbucket.proofs.Turns.{free}

-- the chain

chains : (vb : Plain) (chain : Links) (b : Bool) → is_active vb.role ≡ b → Sound vb → is_chain chain.active chain.others ≡ true
    → ChainsAs vb chain (if b then and_settled (record vb { others = chain.others }, quiet_reply answer.Done) else (vb, refusal_reply status.NotMyVbucket))
chains vb chain true e s t = record {
  foreign = (λ q. cc, λ n. absurd (n (role_of vb.role e)));
  done = (λ q. role_of vb.role e, λ k. refl);
  sets = λ k. commits (record vb { others = chain.others }, quiet_reply answer.Done) (chain_sound vb chain e s t);
}
chains vb chain false e s t = record { foreign = (λ q. not_role vb.role e, λ n. refl); done = (λ q. cc, λ k. absurd (not_role vb.role e k)); sets = λ k. absurd (not_role vb.role e k) }

pub chains_exactly : ChainsExactly
chains_exactly vb chain s t = chains vb chain (is_active vb.role) refl s t

-- what its members acknowledge

is_above : (at seq : ℕ) → nat_lt at seq ≡ true → at < seq
is_above at seq e = grind (arith, nat_tests)

is_upto : (at seq : ℕ) → nat_lt at seq ≡ false → seq ≤ at
is_upto at seq e = grind (arith, nat_tests)

over : {A : Type 0} (at seq : ℕ) → at < seq → seq ≤ at → A
over at seq l m = absurd (omega arith)

acks_as : (vb : Plain) (member seq : ℕ) (b d : Bool) → is_active vb.role ≡ b → nat_lt vb.position.at seq ≡ d → Sound vb → member < 256
    → AcksAs vb member seq (if b then (if d then (vb, refusal_reply status.Erange) else and_settled (record vb { acks = with_ack vb.acks member seq }, quiet_reply answer.Done)) else (vb, refusal_reply status.NotMyVbucket))
acks_as vb member seq true true e f s l = record {
  foreign = (λ q. cc, λ n. absurd (n (role_of vb.role e)));
  outside = (λ q. (role_of vb.role e, is_above vb.position.at seq f), λ k. refl);
  done = (λ q. cc, λ k. over vb.position.at seq (is_above vb.position.at seq f) k.1);
  stays = λ m. (refl, refl, refl);
  counts = λ k m. over vb.position.at seq (is_above vb.position.at seq f) m;
}
acks_as vb member seq true false e f s l = record {
  foreign = (λ q. cc, λ n. absurd (n (role_of vb.role e)));
  outside = (λ q. cc, λ k. over vb.position.at seq k.1 (is_upto vb.position.at seq f));
  done = (λ q. (role_of vb.role e, is_upto vb.position.at seq f), λ k. refl);
  stays = λ m. over vb.position.at seq m (is_upto vb.position.at seq f);
  counts = λ k m. (
    with_ack vb.acks member seq,
    record {
      of = get_or-set_same vb.acks member (max (acked vb.acks member) seq) 0 (subst (λ n. member < n) (sym s.links.each) l);
      others = λ n h. get_or-set_other vb.acks member n (max (acked vb.acks member) seq) 0 h;
    },
    commits (record vb { acks = with_ack vb.acks member seq }, quiet_reply answer.Done) (ack_sound vb member seq e s),
  );
}
acks_as vb member seq false d e f s l = record {
  foreign = (λ q. not_role vb.role e, λ n. refl);
  outside = (λ q. cc, λ k. absurd (not_role vb.role e k.0));
  done = (λ q. cc, λ k. absurd (not_role vb.role e k.0));
  stays = λ m. (refl, refl, refl);
  counts = λ k m. absurd (not_role vb.role e k);
}

pub acks_exactly : AcksExactly
acks_exactly vb member seq s l = acks_as vb member seq (is_active vb.role) (nat_lt vb.position.at seq) refl refl s l

-- time goes on

-- of rising seqnos each is of one prepare
pub one_each : (ws : List Waiting) (v w : Waiting) → Ascend ws → Waits v ws → Waits w ws → v.seq ≡ w.seq → v ≡ w
one_each [] v w r i j e = absurd i
one_each (x ∷ ws) v w r i j e = ⊎_elim
    (λ a. ⊎_elim (λ b. a ∙ sym b) (λ b. let l = waits_above x.seq ws w r.0 b in let k = ap (λ (y : Waiting). y.seq) a in absurd (omega arith)) j)
    (λ a. ⊎_elim (λ b. let l = waits_above x.seq ws v r.0 a in let k = ap (λ (y : Waiting). y.seq) b in absurd (omega arith)) (λ b. one_each ws v w r.1 a b e) j) i

-- from s to t these were given up
pub record GaveUp (todo : List Waiting) (s t : Resolving) : Type 0 where
  pub all : (cs : List Change) × (told : List Resolved) × (t.changes ≡ s.changes ++ cs) × (t.resolved ≡ s.resolved ++ told) × Aborts todo cs × AllAmbiguous todo told × Resolves s.vb t.vb cs
  pub left : (w : Waiting) → Waits w t.vb.waiting ↔ (Waits w s.vb.waiting × (Waits w todo → ⊥))

gave_none : (s : Resolving) → GaveUp [] s s
gave_none s = record { all = ([], [], sym (append-nil s.changes), sym (append-nil s.resolved), tt, refl, resolves_none s.vb); left = λ w. (λ i. (i, λ k. k), λ p. p.0) }

gave_first : (w : Waiting) (todo : List Waiting) (s t : Resolving) → Sound s.vb → Waits w s.vb.waiting → Ascend (w ∷ todo) → GaveUp todo (resolved_by (act.Abort w.seq) resolution.Ambiguous w s) t → GaveUp (w ∷ todo) s t
gave_first w todo s t sound here r g =
    let a = g.all in
    let next = resolved_by (act.Abort w.seq) resolution.Ambiguous w s in
    let c = resolving_change s.vb w (act.Abort w.seq) in
    let out = gone w.seq s.vb.waiting sound.waits.ascend in
    record {
      all = (
        c ∷ a.0,
        outcome_for w.waiter resolution.Ambiguous ++ a.1,
        a.2 ∙ append_assoc s.changes (c ∷ []) a.0,
        a.3 ∙ append_assoc s.resolved (outcome_for w.waiter resolution.Ambiguous) a.1,
        (refl, refl, a.4),
        (a.1, tells w resolution.Ambiguous a.1, a.5),
        resolves_then s.vb next.vb t.vb (c ∷ []) a.0 (resolves_one (act.Abort w.seq) resolution.Ambiguous w s) a.6,
      );
      left = λ v. (
        λ i. let k = (g.left v).0 i in let m = out.was v k.0 in (m.0, λ o. ⊎_elim (λ e. m.1 (ap (λ (x : Waiting). x.seq) e)) k.1 o),
        λ p. (g.left v).1 (out.stays v p.0 (λ e. p.1 (inl (one_each s.vb.waiting v w sound.waits.ascend p.0 here e))), λ j. p.1 (inr j)),
      );
    }

pub gave_up : (todo : List Waiting) (s : Resolving) → Sound s.vb → is_active s.vb.role ≡ true → Ascend todo → AreTimed todo s.vb.waiting → GaveUp todo s (fold aborted s todo)
gave_up [] s sound on r h = gave_none s
gave_up (w ∷ todo) s sound on r h =
    let k = h w (inl refl) in
    let free = may_abort s.vb w k.1.0 sound k.0 k.1.1 in
    let next = resolved_by (act.Abort w.seq) resolution.Ambiguous w s in
    subst (λ b. GaveUp (w ∷ todo) s (fold aborted (if b then next else s) todo)) (sym free)
    (gave_first w todo s (fold aborted next todo) sound k.0 r (gave_up todo next (abort_sound w s sound on free k.0) on r.1 (timed_rest w todo s.vb.waiting r sound.waits.ascend h)))

late_of : (clock : ℕ) (w : Waiting) → IsLate clock w → is_late clock w.deadline ≡ true
late_of clock w l = ap (is_late clock) l.1 ∙ upto l.0 clock l.2
  where
    upto : (a b : ℕ) → a ≤ b → is_late b (Some a) ≡ true
    upto a b l = grind (arith, nat_tests)

waits_late : (clock : ℕ) (ws : List Waiting) (w : Waiting) → Waits w ws → IsLate clock w → Waits w (late clock ws)
waits_late clock [] w i l = absurd i
waits_late clock (v ∷ ws) w i l = ⊎_elim
    (λ e. subst (λ b. Waits w (cond b (v ∷ late clock ws) (late clock ws))) (sym (subst (λ (x : Waiting). is_late clock x.deadline ≡ true) e (late_of clock w l))) (inl e))
    (λ j. later (is_late clock v.deadline) (waits_late clock ws w j l)) i
  where
    later : (b : Bool) → Waits w (late clock ws) → Waits w (cond b (v ∷ late clock ws) (late clock ws))
    later true k = inr k
    later false k = k

some_branch : (a b : ℕ) (cs : List Change) → cs ≢ [] → (if is_empty cs then a else b) ≡ b
some_branch a b [] n = absurd (n refl)
some_branch a b (c ∷ cs) n = refl

module _ (vb : Plain) (clock : ℕ) (on : is_active vb.role ≡ true) (s : Sound vb) where
  abbrev after : Resolving
  after = expired clock vb

  up : GaveUp (late clock vb.waiting) (unresolved vb) after
  up = gave_up (late clock vb.waiting) (unresolved vb) s on (ascend_late clock vb.waiting s.waits.ascend) (late_timed clock vb.waiting)

  sound : Sound after.vb
  sound = aborts_sound vb clock on s

  active : is_active after.vb.role ≡ true
  active = ap (λ (x : Plain). is_active x.role) up.all.6.stays ∙ on

  stays_out : (w : Waiting) → Waits w after.vb.waiting ↔ (Waits w vb.waiting × (IsLate clock w → ⊥))
  stays_out w = (
    λ i. let k = (up.left w).0 i in (k.0, λ l. k.1 (waits_late clock vb.waiting w k.0 l)),
    λ p. (up.left w).1 (p.0, λ j. p.1 (in_late clock vb.waiting w j).1),
  )

  gone_there : (w : Waiting) → Waits w vb.waiting → IsLate clock w → pending_of after.vb w.key ≡ None
  gone_there w i l = by (pending_of after.vb w.key) refl
    where
      by : (o : Option Pend) → pending_of after.vb w.key ≡ o → o ≡ None
      by None e = refl
      by (Some p) e =
          let v = sound.waits.all (role_of after.vb.role active) w.key p e in
          let k = (stays_out v.0).0 v.1 in
          let x = s.waits.backed v.0 k.0 in
          let y = s.waits.backed w i in
          let z : Some x.0 ≡ Some y.0 = sym x.1 ∙ ap (λ q. pending_of vb q) v.2.0 ∙ y.1 in
          let one : x.0 ≡ y.0 = cc in
          let same : v.0 ≡ w = one_each vb.waiting v.0 w s.waits.ascend k.0 i (sym x.2 ∙ ap (λ (q : Pend). q.seq) one ∙ y.2) in
          absurd (k.1 (subst (IsLate clock) (sym same) l))

  given : GivesUp vb clock (also_resolved (quiet_reply answer.Done) after)
  given = record {
    some = (
      late clock vb.waiting,
      λ w. (λ i. let k = in_late clock vb.waiting w i in (k.0, k.1), λ p. waits_late clock vb.waiting w p.0 p.1),
      ascend_late clock vb.waiting s.waits.ascend,
      subst (Aborts (late clock vb.waiting)) (sym up.all.2) up.all.4,
      subst (AllAmbiguous (late clock vb.waiting)) (sym up.all.3) up.all.5,
    );
    rest = stays_out;
    none = gone_there;
    resolves = subst (Resolves vb after.vb) (sym up.all.2) up.all.6;
    answer = refl;
    ended = refl;
    branch = (
      λ e. ap (λ cs. if is_empty cs then 0 else newest_branch after.vb.log) e,
      λ n. some_branch 0 (newest_branch after.vb.log) after.changes n ∙ ap (λ (x : Plain). newest_branch x.log) up.all.6.stays,
    );
  }

ticks : (vb : Plain) (clock : ℕ) (b : Bool) → is_active vb.role ≡ b → Sound vb → TicksAs vb clock (if b then then_settled (expired clock vb) else (vb, refusal_reply status.NotMyVbucket))
ticks vb clock true e s = record {
  foreign = (λ q. cc, λ n. absurd (n (role_of vb.role e)));
  done = (λ q. role_of vb.role e, λ k. refl);
  gives = λ k. (also_resolved (quiet_reply answer.Done) (expired clock vb), given vb clock e s, commits (also_resolved (quiet_reply answer.Done) (expired clock vb)) (aborts_sound vb clock e s));
}
ticks vb clock false e s = record { foreign = (λ q. not_role vb.role e, λ n. refl); done = (λ q. cc, λ k. absurd (not_role vb.role e k)); gives = λ k. absurd (not_role vb.role e k) }

pub ticks_exactly : TicksExactly
ticks_exactly vb clock s = ticks vb clock (is_active vb.role) refl s

-- changes of role

pub all_given : (ws : List Waiting) → AllAmbiguous ws (given_up ws)
all_given [] = refl
all_given (w ∷ ws) = (given_up ws, tells w resolution.Ambiguous (given_up ws), all_given ws)

pub turned : (vb : Plain) (new : Role) → GivesUpAll vb (in_role vb new, ending_reply vb answer.Done)
turned vb new = record { told = all_given vb.waiting; none = refl; acks = none_acked 256; others = refl; branch = refl }

other_replica : (r : Role) → r ≢ role.Replica → is_role r role.Replica ≡ false
other_replica role.Active n = refl
other_replica role.Replica n = absurd (n refl)
other_replica role.Pending n = refl
other_replica role.Dead n = refl

other_dead : (r : Role) → r ≢ role.Dead → is_role r role.Dead ≡ false
other_dead role.Active n = refl
other_dead role.Replica n = refl
other_dead role.Pending n = refl
other_dead role.Dead n = absurd (n refl)

by_role : (vb : Plain) (new : Role) (b : Bool) → b ≡ false → GivesUpAll vb (if b then (vb, refusal_reply status.NotMyVbucket) else (in_role vb new, ending_reply vb answer.Done))
by_role vb new true e = cc
by_role vb new false e = turned vb new

pub turns_give_up : TurnsGiveUp
turns_give_up vb = (λ n. by_role vb role.Replica (is_role vb.role role.Replica) (other_replica vb.role n), λ n. by_role vb role.Dead (is_role vb.role role.Dead) (other_dead vb.role n))

pub leaves : (vb : Plain) (log : List LogEntry) (said : VbAnswer) → Sound vb → LeavesAll vb (record (risen vb) { log = log }, ending_reply vb said)
leaves vb log said s = record {
  told = all_given vb.waiting;
  waits = λ w. (
    λ i. let k = m.was w i in
        let key : w.key ≡ k.0 = ap (λ (x : Waiting). x.key) k.3 in
        (k.1, ap (λ q. pending_of vb q) key ∙ k.2, k.3 ∙ ap (λ q. left_prepare (q, k.1)) (sym key)),
    λ p. subst (λ x. Waits x (risen vb).waiting) (sym p.2) (m.there w.key p.0 p.1),
  );
  ascend = m.ascend;
  acks = none_acked 256;
  others = refl;
  holds = (refl, refl, refl, refl);
}
  where
    m : AreLeft (image_in vb) (risen vb).waiting
    m = are_left (image_in vb) (differ_at vb s)

pub promotions_leave : PromotionsLeave
promotions_leave vb uuid s may = (leading vb uuid, leaves vb (led vb uuid).log (leading vb uuid).1.answer s, subst (λ why. Commits (leading vb uuid) (promoted why vb uuid)) (sym (free vb uuid may)) (commits (leading vb uuid) (led_sound vb uuid s)))

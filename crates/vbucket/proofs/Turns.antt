-- what a change of role comes to
use Rattle.std.proofs.Common.{◌≡◌, ◌≢◌, ◌⊎◌, inl, inr, ⊎_elim, ℕ, ◌<◌, Bool, true, false, List, refl, sym, ap, subst, ◌∙◌, arith}
use Rattle.std.specs.Prelude.{Some, None, if◌then◌else◌, ◌==◌}
use Rattle.std.proofs.lemmas.List.{append-nil, length-take}
use Rattle.std.proofs.lemmas.Bool.Decides.{nat_tests}
use Rattle.vb_types.specs.declared.role.LogEntry.{LogEntry}
use Rattle.vb_types.specs.declared.role.Role.{Role}
use Rattle.vb_types.specs.declared.role.Role.TheVariants as role
use Rattle.vb_types.specs.declared.status.Status.TheVariants as status
use Rattle.branch_model.specs.Requests.{effective_ss, fork_of}
use Rattle.vb_calls.specs.declared.calls.VbAnswer.{VbAnswer}
use Rattle.vb_calls.specs.declared.calls.VbAnswer.TheVariants as answer
use Rattle.vb_calls.specs.declared.calls.VbCall.{VbCall}
use Rattle.vb_calls.specs.declared.calls.VbReply.{VbReply}
use Rattle.vb_calls.specs.declared.stream.Stream.{Stream}
use Rattle.vb_calls.specs.Durable.{expired}
use Rattle.vb_calls.specs.Following.{log_lacks}
use Rattle.vb_calls.specs.Roles.{ending_reply, in_role, is_role, led, promote_refusal, promoted, risen, yielded}
use Rattle.vb_calls.specs.Settling.{also_resolved, and_settled}
use Rattle.vb_calls.specs.Spans.{all_spans}
use Rattle.vb_calls.specs.State.{Plain, is_active, quiet_reply, refusal_reply}
use Rattle.vb_calls.specs.Streams.{stream_at, without_stream}
use Rattle.vbucket.specs.Closing.{AreOthers}
use Rattle.vbucket.specs.Settles.{Settles}
use Rattle.vbucket.specs.Turns.{HandsOver, Turned, Steady, Leads, Yields, RolesEndStreams, MayLead, Led, PromotionsLead, PromotesAs, PromotesExactly, TurnsAs, TurnsExactly}
use Rattle.vbucket.proofs.Adopting.{lacks_of, lacks_tested}
use Rattle.vbucket.proofs.Asks.{role_of, not_role, zero_of, not_zero}
use Rattle.vbucket.proofs.Receiving.{never}
use Rattle.vbucket.proofs.Closing.{are_others}
use Rattle.vbucket.proofs.RowIs.{RowIs, StartIs, Expires, Inherits, Turns, inheriting, leading, row_is}
use Rattle.vbucket.proofs.Settling.{expires, settles}
use Rattle.vbucket.proofs.Feeding.{named}

-- calls that leave the role

-- what is committed leaves the role, and ends no stream
then_steady : (vb : Plain) (start : Plain × VbReply) → Steady vb start → Steady vb (and_settled start)
then_steady vb start s = let k = settles start in (ap (λ (x : Plain). x.role) k.commits.2.stays ∙ s.0, s.1)

-- calls that change it

abbrev Ends : Plain → VbCall → Plain × VbReply → Type 0
Ends vb c after = Steady vb after ⊎ (Turned vb after ⊎ (Leads vb after ⊎ Yields vb c after))

pub turned_risen : (vb : Plain) (log : List LogEntry) (said : VbAnswer) → Turned vb (record (risen vb) { log = log }, ending_reply vb said)
turned_risen vb log said = record { ended = refl; none = refl; sealed = refl; spans = append-nil (all_spans vb.spans); base = refl; held = refl; at = refl; cas = refl; first = refl; node = refl; marks = (refl, refl, refl); alone = (refl, refl); made = refl }

pub turned_in : (vb : Plain) (new : Role) → Turned vb (in_role vb new, ending_reply vb answer.Done)
turned_in vb new =
    record { ended = refl; none = refl; sealed = refl; spans = append-nil (all_spans vb.spans); base = refl; held = refl; at = refl; cas = refl; first = refl; node = refl; marks = (refl, refl, refl); alone = (refl, refl); made = refl }

pub hands_over : (vb : Plain) (id : ℕ) (s : Stream) → stream_at id vb.streams ≡ Some s → HandsOver vb id (yielded (Some s) vb)
hands_over vb id s at = record {
  dead = refl;
  one = (s, at, refl);
  others = (without_stream s.id vb.streams, subst (λ n. AreOthers id vb.streams (without_stream n vb.streams)) (sym (named id vb.streams s at)) (are_others id vb.streams), refl);
  sealed = refl;
  spans = append-nil (all_spans vb.spans);
  alone = (refl, refl, refl);
  made = refl;
  stays = refl;
}

start_ends : (vb : Plain) {c : VbCall} {start : Plain × VbReply} → StartIs vb c start → Ends vb c (and_settled start)
start_ends vb (Expires clock on) = inl (then_steady vb (also_resolved (quiet_reply answer.Done) (expired clock vb)) (ap (λ (x : Plain). x.role) (expires vb clock).gives.1.stays, refl))
start_ends vb (StartIs.Leads uuid free) = let k = settles (leading vb uuid) in inr (inr (inl (ap (λ (x : Plain). x.role) k.commits.2.stays, (leading vb uuid, turned_risen vb (led vb uuid).log (leading vb uuid).1.answer, k))))
start_ends vb (Inherits free) = let k = settles (inheriting vb) in inr (inr (inl (ap (λ (x : Plain). x.role) k.commits.2.stays, (inheriting vb, turned_risen vb vb.log answer.Done, k))))
start_ends vb {start = start} other = inl (then_steady vb start (refl, refl))

row_ends : (vb : Plain) {c : VbCall} {made : Plain × VbReply} → RowIs vb c made → Ends vb c made
row_ends vb (RowIs.Settles c start is) = start_ends vb is
row_ends vb (Turns c new loud idle) = inr (inl (turned_in vb new))
row_ends vb (RowIs.Yields id s on at) = inr (inr (inr (id, refl, hands_over vb id s at)))
row_ends vb other = inl (refl, refl)

pub roles_end : RolesEndStreams
roles_end vb call = row_ends vb (row_is vb call)

-- promotions

is_passive : (r : Role) → r ≢ role.Active → is_active r ≡ false
is_passive role.Active n = absurd (n refl)
is_passive role.Replica n = refl
is_passive role.Pending n = refl
is_passive role.Dead n = refl

is_branch : (uuid : ℕ) → 0 < uuid → (uuid == 0) ≡ false
is_branch uuid l = grind (arith, nat_tests)

may : (a z l : Bool) → a ≡ false → z ≡ false → l ≡ true → (if a then Some status.NotMyVbucket else if z then Some status.Einval else if l then None else Some status.Einval) ≡ None
may true z l e f g = cc
may false true l e f g = cc
may false false true e f g = refl
may false false false e f g = cc

pub free : (vb : Plain) (uuid : ℕ) → MayLead vb uuid → promote_refusal vb uuid ≡ None
free vb uuid m = may (is_active vb.role) (uuid == 0) (log_lacks vb.log uuid) (is_passive vb.role m.passive) (is_branch uuid m.branch) (lacks_tested vb.log uuid m.lacks)

same : (a b : ℕ) → a ≡ b → (a == b) ≡ true
same a b e = grind (arith, nat_tests)

other : (a b : ℕ) → a ≢ b → (a == b) ≡ false
other a b n = grind (arith, nat_tests)

pub fork_whole : (at ss se : ℕ) → at ≡ se → effective_ss at ss se ≡ at
fork_whole at ss se e = ap (λ b. if b then at else ss) (same at se e)

pub fork_inside : (at ss se : ℕ) → at ≢ se → effective_ss at ss se ≡ ss
fork_inside at ss se n = ap (λ b. if b then at else ss) (other at se n)

leads : (vb : Plain) (uuid : ℕ) → Led vb (leading vb uuid) uuid (fork_of vb.position)
leads vb uuid = record {
  complete = fork_whole vb.position.at vb.position.ss vb.position.se;
  inside = fork_inside vb.position.at vb.position.ss vb.position.se;
  told = refl;
  active = refl;
  position = refl;
  log = refl;
  short = simp length-take (omega arith);
  turned = turned_risen vb (led vb uuid).log (leading vb uuid).1.answer;
}

pub promotions_lead : PromotionsLead
promotions_lead vb uuid m = (fork_of vb.position, leading vb uuid, leads vb uuid, subst (λ why. Settles (leading vb uuid) (promoted why vb uuid)) (sym (free vb uuid m)) (settles (leading vb uuid)))

-- refusals

promotes : (vb : Plain) (uuid : ℕ) (a z l : Bool) → is_active vb.role ≡ a → (uuid == 0) ≡ z → log_lacks vb.log uuid ≡ l
    → PromotesAs vb uuid (promoted (if a then Some status.NotMyVbucket else if z then Some status.Einval else if l then None else Some status.Einval) vb uuid)
promotes vb uuid true z l e f g = record { foreign = (λ q. role_of vb.role e, λ k. refl); none = (λ q. cc, λ k. absurd (k.0 (role_of vb.role e))) }
promotes vb uuid false true l e f g = record { foreign = (λ q. cc, λ k. absurd (not_role vb.role e k)); none = (λ q. (not_role vb.role e, inl (zero_of uuid f)), λ k. refl) }
promotes vb uuid false false true e f g = record {
  foreign = (λ q. cc, λ k. absurd (not_role vb.role e k));
  none = (λ q. cc, λ k. absurd (⊎_elim (λ x. not_zero uuid f x) (λ x. x (lacks_of vb.log uuid g)) k.1));
}
promotes vb uuid false false false e f g = record {
  foreign = (λ q. cc, λ k. absurd (not_role vb.role e k));
  none = (λ q. (not_role vb.role e, inr (λ k. never (log_lacks vb.log uuid) g (lacks_tested vb.log uuid k))), λ k. refl);
}

pub promotes_exactly : PromotesExactly
promotes_exactly vb uuid = promotes vb uuid (is_active vb.role) (uuid == 0) (log_lacks vb.log uuid) refl refl refl

turns : (vb : Plain) (new : Role) (b : Bool) → (b ≡ true → vb.role ≡ new) → (b ≡ false → vb.role ≢ new) → TurnsAs vb new (if b then (vb, refusal_reply status.NotMyVbucket) else (in_role vb new, ending_reply vb answer.Done))
turns vb new true f g = record { foreign = (λ q. f refl, λ k. refl); done = (λ q. cc, λ n. absurd (n (f refl))); role = f refl; position = refl; log = refl }
turns vb new false f g = record { foreign = (λ q. cc, λ k. absurd (g refl k)); done = (λ q. g refl, λ n. refl); role = refl; position = refl; log = refl }

is_replica : (r : Role) → is_role r role.Replica ≡ true → r ≡ role.Replica
is_replica role.Active e = cc
is_replica role.Replica e = refl
is_replica role.Pending e = cc
is_replica role.Dead e = cc

not_replica : (r : Role) → is_role r role.Replica ≡ false → r ≢ role.Replica
not_replica role.Active e k = cc
not_replica role.Replica e k = cc
not_replica role.Pending e k = cc
not_replica role.Dead e k = cc

is_dead : (r : Role) → is_role r role.Dead ≡ true → r ≡ role.Dead
is_dead role.Active e = cc
is_dead role.Replica e = cc
is_dead role.Pending e = cc
is_dead role.Dead e = refl

not_dead : (r : Role) → is_role r role.Dead ≡ false → r ≢ role.Dead
not_dead role.Active e k = cc
not_dead role.Replica e k = cc
not_dead role.Pending e k = cc
not_dead role.Dead e k = cc

pub turns_exactly : TurnsExactly
turns_exactly vb = (
  turns vb role.Replica (is_role vb.role role.Replica) (is_replica vb.role) (not_replica vb.role),
  turns vb role.Dead (is_role vb.role role.Dead) (is_dead vb.role) (not_dead vb.role),
)

-- what a takeover comes to at both of its vBuckets
use Rattle.std.proofs.Common.{◌≡◌, ◌≢◌, ℕ, Bool, true, false, cond, List, [], ◌∷◌, refl, sym, ap, subst, ◌∙◌, inr, arith}
use Rattle.std.specs.Prelude.{◌==◌, ◌&&◌, Option, Some, None, is_some, if◌then◌else◌}
use Rattle.std.proofs.lemmas.Bool.Decides.{nat_tests}
use Rattle.std.proofs.lemmas.List.{append-nil}
use Rattle.vb_types.specs.declared.role.LogEntry.{LogEntry}
use Rattle.vb_types.specs.declared.role.Role.{Role}
use Rattle.vb_types.specs.declared.role.Role.TheVariants as role
use Rattle.vb_types.specs.declared.status.Status.TheVariants as status
use Rattle.branch_model.specs.Logs.{front}
use Rattle.vb_calls.specs.declared.calls.VbAnswer.TheVariants as answer
use Rattle.vb_calls.specs.declared.calls.VbCall.TheVariants.{Place, Take}
use Rattle.vb_calls.specs.declared.calls.VbReply.{VbReply}
use Rattle.vb_calls.specs.declared.span.Span.{Span}
use Rattle.vb_calls.specs.declared.stream.Stream.{Stream}
use Rattle.vb_calls.specs.Following.{is_follower}
use Rattle.vb_calls.specs.Plain.{Plain, plain_step}
use Rattle.vb_calls.specs.Roles.{ending_reply, in_role, is_heir, is_role, own_refusal, owned, yielded}
use Rattle.vb_calls.specs.Spans.{all_spans, with_seal}
use Rattle.vb_calls.specs.State.{is_active, quiet_reply, refusal_reply}
use Rattle.vb_calls.specs.Streams.{end_span, is_in_memory, items_to, place_from, placed_by, snapshot_of, stream_at, take_from, take_to}
use Rattle.durability.specs.Outstanding.{no_acks}
use Rattle.durability.proofs.Counts.{none_acked}
use Rattle.vbucket.specs.DurableLaws.{GivesUpAll}
use Rattle.vbucket.specs.Laws.{OnlyLinked, Sound}
use Rattle.vbucket.specs.Takeovers.{HeirsOwn, Inherits, OwnsAs, PendsAs, PendsWait, YieldsAs, YieldsKeepOne}
use Rattle.vbucket.proofs.Asks.{is_open, not_open, not_role, role_of}
use Rattle.vbucket.proofs.Backing.{none_idle}
use Rattle.vbucket.proofs.Committing.{commits}
use Rattle.vbucket.proofs.Feeding.{named}
use Rattle.vbucket.proofs.GivingUp.{all_given, leaves, turned}
use Rattle.vbucket.proofs.Receiving.{follower_of, not_follower}
use Rattle.vbucket.proofs.RowIs.{inheriting}
use Rattle.vbucket.proofs.Settling.{settles}
use Rattle.vbucket.proofs.Soundness.{inherited_sound}
use Rattle.vbucket.proofs.Turns.{hands_over, turned_in, turned_risen}

-- a vBucket that is given up

gives_up : (vb : Plain) (s : Stream) → GivesUpAll vb (yielded (Some s) vb)
gives_up vb s = record { told = all_given vb.waiting; none = refl; acks = none_acked 256; others = refl; branch = refl }

-- the kept stream is found as it was
found : (id : ℕ) (s : Stream) → s.id ≡ id → stream_at id (s ∷ []) ≡ Some s
found id s e = let t : (s.id == id) ≡ true = grind (arith, nat_tests, e) in ap (λ b. cond b (Some s) None) t

places_same : (vb : Plain) (id : ℕ) (s : Stream) → stream_at id vb.streams ≡ Some s → (plain_step (yielded (Some s) vb).0 (Place id)).1 ≡ (plain_step vb (Place id)).1
places_same vb id s at = ap (λ o. (place_from o after).1) (found id s (named id vb.streams s at)) ∙ said s.cursor (is_in_memory vb s.place) ∙ sym (ap (λ o. (place_from o vb).1) at)
  where
    after : Plain
    after = (yielded (Some s) vb).0

    said : (has there : Bool) → (placed_by has there s after).1 ≡ (placed_by has there s vb).1
    said true there = refl
    said false true = refl
    said false false = refl

takes_same : (vb : Plain) (id : ℕ) (s : Stream) → stream_at id vb.streams ≡ Some s → (plain_step (yielded (Some s) vb).0 (Take id)).1 ≡ (plain_step vb (Take id)).1
takes_same vb id s at =
    ap (λ o. (take_from o after).1) (found id s (named id vb.streams s at))
    ∙ told after (if s.cursor then end_span s (all_spans after.spans) vb.held else None) refl
    ∙ ap (λ ws. said ws (if s.cursor then end_span s ws vb.held else None)) (append-nil (all_spans vb.spans))
    ∙ sym (told vb (if s.cursor then end_span s (all_spans vb.spans) vb.held else None) refl)
    ∙ sym (ap (λ o. (take_from o vb).1) at)
  where
    after : Plain
    after = (yielded (Some s) vb).0

    said : List Span → Option Span → VbReply
    said ws None = quiet_reply answer.Nothing
    said ws (Some w) = quiet_reply (answer.Taken (snapshot_of s (items_to s ws vb.held w.last)))

    told : (x : Plain) (o : Option Span) → x.held ≡ vb.held → (take_to o s x).1 ≡ said (all_spans x.spans) o
    told x None e = refl
    told x (Some w) e = ap (λ h. quiet_reply (answer.Taken (snapshot_of s (items_to s (all_spans x.spans) h w.last)))) e

yields_as : (vb : Plain) (id : ℕ) (on : Bool) (o : Option Stream) → is_active vb.role ≡ on → stream_at id vb.streams ≡ o → YieldsAs vb id (if on then yielded o vb else (vb, refusal_reply status.NotMyVbucket))
yields_as vb id true (Some s) e at = record {
  foreign = (λ q. cc, λ n. absurd (n (role_of vb.role e)));
  absent = (λ q. cc, λ k. absurd (k.1 (is_open id vb.streams s at)));
  done = (λ q. (role_of vb.role e, is_open id vb.streams s at), λ k. refl);
  hands = λ r k. (hands_over vb id s at, gives_up vb s);
  place = λ r k. places_same vb id s at;
  take = λ r k. takes_same vb id s at;
}
yields_as vb id true None e at = record {
  foreign = (λ q. cc, λ n. absurd (n (role_of vb.role e)));
  absent = (λ q. (role_of vb.role e, not_open id vb.streams at), λ k. refl);
  done = (λ q. cc, λ k. absurd (not_open id vb.streams at k.1));
  hands = λ r k. absurd (not_open id vb.streams at k);
  place = λ r k. absurd (not_open id vb.streams at k);
  take = λ r k. absurd (not_open id vb.streams at k);
}
yields_as vb id false o e at = record {
  foreign = (λ q. not_role vb.role e, λ n. refl);
  absent = (λ q. cc, λ k. absurd (not_role vb.role e k.0));
  done = (λ q. cc, λ k. absurd (not_role vb.role e k.0));
  hands = λ r k. absurd (not_role vb.role e r);
  place = λ r k. absurd (not_role vb.role e r);
  take = λ r k. absurd (not_role vb.role e r);
}

pub yields_keep_one : YieldsKeepOne
yields_keep_one vb id = yields_as vb id (is_active vb.role) (stream_at id vb.streams) refl refl

-- an heir

is_pending : (r : Role) → is_role r role.Pending ≡ true → r ≡ role.Pending
is_pending role.Active e = cc
is_pending role.Replica e = cc
is_pending role.Pending e = refl
is_pending role.Dead e = cc

not_pending : (r : Role) → is_role r role.Pending ≡ false → r ≢ role.Pending
not_pending role.Active e k = cc
not_pending role.Replica e k = cc
not_pending role.Pending e k = cc
not_pending role.Dead e k = cc

equal : (a b : ℕ) → (a == b) ≡ true → a ≡ b
equal a b e = grind (arith, nat_tests)

unequal : (a b : ℕ) → (a == b) ≡ false → a ≢ b
unequal a b e k = grind (arith, nat_tests)

heir_of : (log : List LogEntry) (at se : ℕ) → (is_some (front log) && at == se) ≡ true → (log ≢ []) × (at ≡ se)
heir_of [] at se e = cc
heir_of (x ∷ xs) at se e = (λ q. cc, equal at se e)

no_heir : (log : List LogEntry) (at se : ℕ) → (is_some (front log) && at == se) ≡ false → (log ≢ []) × (at ≡ se) → ⊥
no_heir [] at se e k = k.0 refl
no_heir (x ∷ xs) at se e k = unequal at se e k.1

inherits : (vb : Plain) → Sound vb → Inherits vb (inheriting vb)
inherits vb s = record { active = refl; position = refl; log = refl; turned = turned_risen vb vb.log answer.Done; leaves = leaves vb vb.log answer.Done s }

owns_as : (vb : Plain) (p h : Bool) → is_role vb.role role.Pending ≡ p → is_heir vb ≡ h → Sound vb → own_refusal vb ≡ (if p then (if h then None else Some status.Einval) else Some status.NotMyVbucket)
    → OwnsAs vb (owned (if p then (if h then None else Some status.Einval) else Some status.NotMyVbucket) vb)
owns_as vb true true e f s why =
    let pending = is_pending vb.role e in
    let heir = heir_of vb.log vb.position.at vb.position.se f in
    record {
      foreign = (λ q. cc, λ n. absurd (n pending));
      early = (λ q. cc, λ k. absurd (k.1 heir));
      done = (λ q. (pending, heir), λ k. refl);
      inherits = λ r k. (inheriting vb, inherits vb s, commits (inheriting vb) (inherited_sound vb why s));
      log = ap (λ (x : Plain). x.log) (settles (inheriting vb)).commits.2.stays;
    }
owns_as vb true false e f s why =
    let pending = is_pending vb.role e in
    let none = no_heir vb.log vb.position.at vb.position.se f in
    record {
      foreign = (λ q. cc, λ n. absurd (n pending));
      early = (λ q. (pending, none), λ k. refl);
      done = (λ q. cc, λ k. absurd (none k.1));
      inherits = λ r k. absurd (none k);
      log = refl;
    }
owns_as vb false h e f s why =
    let none = not_pending vb.role e in
    record {
      foreign = (λ q. none, λ n. refl);
      early = (λ q. cc, λ k. absurd (none k.0));
      done = (λ q. cc, λ k. absurd (none k.0));
      inherits = λ r k. absurd (none r);
      log = refl;
    }

pub heirs_own : HeirsOwn
heirs_own vb s = owns_as vb (is_role vb.role role.Pending) (is_heir vb) refl refl s refl

-- a vBucket that is to take over

linked_pending : (r : Role) (others : _) (acks : List ℕ) → r ≡ role.Pending → OnlyLinked r others acks → (others ≡ []) × (acks ≡ no_acks)
linked_pending r others acks e o = subst (λ x. OnlyLinked x others acks) e o

pends_as : (vb : Plain) (b : Bool) → is_follower vb.role ≡ b → PendsAs vb (if b then (in_role vb role.Pending, ending_reply vb answer.Done) else (vb, refusal_reply status.NotMyVbucket))
pends_as vb true e = record {
  foreign = (λ q. cc, λ n. absurd (n (follower_of vb.role e)));
  done = (λ q. follower_of vb.role e, λ k. refl);
  pending = λ k. refl;
  turned = λ k. (turned_in vb role.Pending, turned vb role.Pending);
  stays = (refl, refl);
  again = λ s r none.
      let waits = none_idle vb.role vb.waiting (ap is_active r) s.waits.only in
      let linked = linked_pending vb.role vb.others vb.acks r s.links.only in
      λ i. record vb { role = sym r i; spans = with_seal vb.spans; streams = sym none i; others = sym linked.0 i; acks = sym linked.1 i; waiting = sym waits i };
}
pends_as vb false e = record {
  foreign = (λ q. not_follower vb.role e, λ n. refl);
  done = (λ q. cc, λ k. absurd (not_follower vb.role e k));
  pending = λ k. absurd (not_follower vb.role e k);
  turned = λ k. absurd (not_follower vb.role e k);
  stays = (refl, refl);
  again = λ s r none. absurd (not_follower vb.role e (inr r));
}

pub pends_wait : PendsWait
pends_wait vb = pends_as vb (is_follower vb.role) refl

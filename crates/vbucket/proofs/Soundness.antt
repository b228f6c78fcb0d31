-- a vBucket stays sound
use Rattle.std.proofs.Common.{◌≡◌, ◌≢◌, ℕ, ◌^◌, ◌<◌, ◌≤◌, Bool, true, false, List, [], ◌∷◌, refl, sym, subst, arith}
use Rattle.std.specs.Prelude.{take, Option, Some, None, is_some, if◌then◌else◌, nat_le, nat_lt, max, ◌&&◌, ◌||◌, ◌==◌}
use Rattle.std.specs.FinMap as finite
use Rattle.std.proofs.lemmas.Bool.Decides.{nat_tests}
use Rattle.vb_types.specs.Images.{Picture, nothing}
use Rattle.vb_types.specs.Keys.{key_cmp}
use Rattle.vb_types.specs.declared.change.Act.{Act}
use Rattle.vb_types.specs.declared.change.Act.TheVariants as act
use Rattle.vb_types.specs.declared.change.Change.{Change}
use Rattle.vb_types.specs.declared.change.Pend.{Pend}
use Rattle.vb_types.specs.declared.position.Position.{Position}
use Rattle.vb_types.specs.declared.position.TheConstants.{MAX_SEQ}
use Rattle.vb_types.specs.declared.role.LogEntry.{LogEntry}
use Rattle.vb_types.specs.declared.role.Role.{Role}
use Rattle.vb_types.specs.declared.role.Role.TheVariants as role
use Rattle.vb_types.specs.declared.status.Status.{Status}
use Rattle.vb_types.specs.declared.status.Status.TheVariants as status
use Rattle.branch_model.specs.Logs.{front, kept_to}
use Rattle.branch_model.specs.Requests.{fork_of}
use Rattle.vb_calls.specs.declared.calls.VbCall.{VbCall}
use Rattle.vb_calls.specs.declared.calls.VbReply.{VbReply}
use Rattle.vb_calls.specs.declared.span.Span.{Span}
use Rattle.vb_calls.specs.declared.stream.Stream.{Stream}
use Rattle.vb_calls.specs.Flushing.{unflushed_span}
use Rattle.vb_calls.specs.Following.{cas_of, committed_act, completed_act, is_follower, is_next, marked_vb, marker_fits, rolled_vb, with_received_change}
use Rattle.vb_calls.specs.Roles.{in_role_with, is_heir, is_role, led, own_refusal, risen}
use Rattle.vb_calls.specs.Spans.{all_spans}
use Rattle.vb_calls.specs.State.{Plain, complete_position, image_in, is_active, new_vb, pending_of, refusal_reply}
use Rattle.vb_calls.specs.Streams.{new_stream}
use Rattle.vb_calls.specs.declared.calls.VbAnswer.{VbAnswer}
use Rattle.vbucket.specs.Laws.{AreFed, IsOwn, IsTimely, PendSeqsUpTo, PendsDiffer, PendsUpTo, Sound, StartsSound, StaysSound}
use Rattle.vbucket.proofs.Backing.{backed_idle, backed_left, backed_new, backed_turned, linked_new}
use Rattle.vbucket.proofs.Fed.{feeds_closed, feeds_dropped, feeds_given, feeds_moved, feeds_none, feeds_one, feeds_opened, follows_none}
use Rattle.vbucket.proofs.Feeding.{found_at}
use Rattle.vbucket.proofs.Parts.{ends_above, found, most_of}
use Rattle.vbucket.proofs.Pending.{pends_fold, pends_more, pends_nothing}
use Rattle.vbucket.proofs.Preparing.{ack_sound, aborts_sound, chain_sound, prepared_sound}
use Rattle.vbucket.proofs.RowIs.{RowIs, StartIs, StreamsAre, Adopts, Chains, Closes, Counts, Drops, Expires, Feeds, Flushes, Inherits, Leads, Marks, Opens, Places, Prepares, Receives, Rolls, Saves, Seals, Settles, Streams, Tells, Trims, Turns, Writes, Yields, row_is}
use Rattle.vbucket.proofs.Settling.{settled_sound}
use Rattle.vbucket.proofs.Spanned.{received_spanned, sealed_spanned, spanned_none, taken_spanned}
use Rattle.vbucket.proofs.Steadying.{may_open}
use Rattle.vbucket.proofs.Trimmed.{trimmed_sound}
use Rattle.vbucket.proofs.Storing.{casses_push, differ_at, stored_sound}
pub use Rattle.vbucket.proofs.Storing.{active_of, cas_rises}

pub follows_idle : (r : Role) → is_follower r ≡ true → is_active r ≡ false
follows_idle role.Active e = cc
follows_idle role.Replica e = refl
follows_idle role.Pending e = refl
follows_idle role.Dead e = refl

-- only an active vBucket needs a branch of its own
pub idle_own : (r : Role) (p : Position) (log : List LogEntry) → is_active r ≡ false → IsOwn r p log
idle_own role.Active p log e = cc
idle_own role.Replica p log e = tt
idle_own role.Pending p log e = tt
idle_own role.Dead p log e = tt

abbrev pub guarded : Bool → Bool → Plain × VbReply → Plain → Status → Plain × VbReply
guarded b d made vb st = if b then (if d then made else (vb, refusal_reply st)) else (vb, refusal_reply status.NotMyVbucket)

-- a marker that fits
marked_sound : (vb : Plain) (start end : ℕ) → is_follower vb.role ≡ true → marker_fits vb.position vb.first start end ≡ true → Sound vb → Sound (marked_vb vb start end)
marked_sound vb start end f d s =
    let fits = fits_of start end vb.position.at (vb.first || vb.position.at == vb.position.se) d in
    record {
      spanned = sealed_spanned vb.role s.spanned;
      placed = record { capped = fits.1; within = (omega arith, fits.0); own = idle_own vb.role _ vb.log (follows_idle vb.role f) };
      stamped = s.stamped;
      based = s.based;
      saved = s.saved;
      counted = s.counted;
      feeds = s.feeds;
    }
  where
    fits_of : (start end at : ℕ) (b : Bool) → (nat_le start end && nat_le at end && nat_le end MAX_SEQ && b) ≡ true → (at ≤ end) × (end ≤ 2 ^ 48)
    fits_of start end at b e = (grind (arith, nat_tests), grind (arith, nat_tests))

-- a commit has the CAS of the prepare that waits
committed_cas : (prepared n : ℕ) (o : Option Pend) (a : Act) → committed_act prepared o ≡ Some a → ((p : Pend) → o ≡ Some p → p.doc.cas ≤ n) → cas_of a ≤ n
committed_cas prepared n None a e f = cc
committed_cas prepared n (Some p) a e f = by (p.seq == prepared) e
  where
    by : (b : Bool) → (if b then Some (act.Commit prepared p.doc p.deleted) else None) ≡ Some a → cas_of a ≤ n
    by true e = let k : act.Commit prepared p.doc p.deleted ≡ a = cc in subst (λ x. cas_of x ≤ n) k (f p refl)
    by false e = cc

completed_cas : (o : Option Pend) (a done : Act) (n : ℕ) → completed_act o a ≡ Some done → ((p : Pend) → o ≡ Some p → p.doc.cas ≤ n) → n < 2 ^ 64 → cas_of a < 2 ^ 64 → cas_of done < 2 ^ 64
completed_cas o (act.Set doc) done n e f l m = let k : act.Set doc ≡ done = cc in subst (λ x. cas_of x < 2 ^ 64) k m
completed_cas o (act.Remove cas rev) done n e f l m = let k : act.Remove cas rev ≡ done = cc in subst (λ x. cas_of x < 2 ^ 64) k m
completed_cas o (act.Prepare level doc deleted) done n e f l m = let k : act.Prepare level doc deleted ≡ done = cc in subst (λ x. cas_of x < 2 ^ 64) k m
completed_cas o (act.Commit prepared doc deleted) done n e f l m = let k = committed_cas prepared n o done e f in omega arith
completed_cas o (act.Abort prepared) done n e f l m = let k : act.Abort prepared ≡ done = cc in subst (λ x. cas_of x < 2 ^ 64) k m

-- a change that comes next
received_sound : (vb : Plain) (c : Change) (a : Act) → is_follower vb.role ≡ true → is_next vb.position c.seq ≡ true → completed_act (pending_of vb c.key) c.act ≡ Some a → Sound vb → cas_of c.act < 2 ^ 64
    → Sound (with_received_change vb (record { seq = c.seq; key = c.key; act = a })).0
received_sound vb c a f next is s k =
    let n = next_of vb.position.at c.seq vb.position.se next in
    let new : Change = record { seq = c.seq; key = c.key; act = a } in
    let small = completed_cas (pending_of vb c.key) c.act a vb.last_cas is (λ p x. pends_fold vb.last_cas vb.base vb.held s.pends s.casses c.key p x) s.last_cas k in
    record {
      spanned = received_spanned vb new s.spanned f n.0;
      placed = record { capped = s.capped; within = (let w = s.within.0 in omega arith, n.1); own = idle_own vb.role _ vb.log (follows_idle vb.role f) };
      stamped = record {
        casses = casses_push vb.last_cas (max vb.last_cas (cas_of a)) vb.held new s.casses (omega arith) (omega arith);
        pends = pends_more vb.last_cas (max vb.last_cas (cas_of a)) vb.base (omega arith) s.pends;
        last_cas = (let w = s.last_cas in omega arith);
      };
      based = s.based;
      saved = s.saved;
      counted = record { waits = backed_idle vb.role (image_in vb) (image_in (with_received_change vb new).0) vb.position.at c.seq vb.waiting (follows_idle vb.role f) s.waits; links = s.links };
      feeds = s.feeds;
    }
  where
    next_of : (at seq se : ℕ) → (nat_lt at seq && nat_le seq se) ≡ true → (at < seq) × (seq ≤ se)
    next_of at seq se e = (grind (arith, nat_tests), grind (arith, nat_tests))

turned_sound : (vb : Plain) (new : Role) (streams : List Stream) → is_active new ≡ false → AreFed new vb.floor streams → Sound vb → Sound (in_role_with vb new streams)
turned_sound vb new streams e f s = record {
  spanned = sealed_spanned new s.spanned;
  placed = record { capped = s.capped; within = s.within; own = idle_own new vb.position vb.log e };
  stamped = s.stamped;
  based = s.based;
  saved = s.saved;
  counted = record { waits = backed_turned new (image_in vb) vb.position.at e; links = linked_new new };
  feeds = f;
}

has_front : (e : LogEntry) (older : List LogEntry) → e ∷ older ≢ []
has_front e older q = cc

-- a vBucket that becomes active with this failover log, before anything is committed
risen_sound : (vb : Plain) (log : List LogEntry) → log ≢ [] → Sound vb → Sound (record (risen vb) { log = log })
risen_sound vb log some s =
    let top : vb.position.at ≤ vb.position.se = s.within.1 in
    let cap : vb.position.se ≤ 2 ^ 48 = s.capped in
    record {
      spanned = sealed_spanned role.Active s.spanned;
      placed = record { capped = omega arith; within = (omega arith, omega arith); own = (refl, some) };
      stamped = s.stamped;
      based = s.based;
      saved = s.saved;
      counted = record { waits = backed_left (image_in vb) vb.position.at (differ_at vb s); links = linked_new role.Active };
      feeds = feeds_none role.Active vb.floor;
    }

pub led_sound : (vb : Plain) (uuid : ℕ) → Sound vb → Sound (led vb uuid)
led_sound vb uuid s = risen_sound vb (led vb uuid).log (has_front (record { uuid = uuid; seq = fork_of vb.position }) (take 24 (kept_to (fork_of vb.position) vb.log))) s

-- an heir is on a branch
heir_log : (vb : Plain) → own_refusal vb ≡ None → vb.log ≢ []
heir_log vb free none = pending (is_role vb.role role.Pending) free
  where
    branchless : (log : List LogEntry) (b : Bool) → log ≡ [] → (is_some (front log) && b) ≡ true → ⊥
    branchless [] b e f = cc
    branchless (x ∷ xs) b e f = cc

    heir : (b : Bool) → is_heir vb ≡ b → (if b then None else Some status.Einval) ≡ None → ⊥
    heir true e f = branchless vb.log (vb.position.at == vb.position.se) none e
    heir false e f = cc

    pending : (p : Bool) → (if p then (if is_heir vb then None else Some status.Einval) else Some status.NotMyVbucket) ≡ None → ⊥
    pending true f = heir (is_heir vb) refl f
    pending false f = cc

pub inherited_sound : (vb : Plain) → own_refusal vb ≡ None → Sound vb → Sound (risen vb)
inherited_sound vb free s = risen_sound vb vb.log (heir_log vb free) s

rolled_sound : (vb : Plain) (at : ℕ) (image : Picture) (cas : ℕ) → is_follower vb.role ≡ true → Sound vb → (at ≤ 2 ^ 48) × (cas < 2 ^ 64) × PendsUpTo cas image × PendSeqsUpTo at image × PendsDiffer image → Sound (rolled_vb vb at image cas)
rolled_sound vb at image cas f s t =
    let m : vb.last_cas < 2 ^ 64 = s.last_cas in
    let n : cas < 2 ^ 64 = t.1 in
    record {
      spanned = spanned_none vb.role at;
      placed = record { capped = t.0; within = (omega arith, omega arith); own = idle_own vb.role (complete_position at) (kept_to at vb.log) (follows_idle vb.role f) };
      stamped = record { casses = tt; pends = pends_more cas (max vb.last_cas cas) image (omega arith) t.2; last_cas = omega arith };
      based = record { low = t.3; apart = t.4 };
      saved = omega arith;
      counted = record { waits = backed_idle vb.role (image_in vb) image vb.position.at at vb.waiting (follows_idle vb.role f) s.waits; links = s.links };
      feeds = subst (AreFed vb.role at) (sym (follows_none vb.role vb.floor vb.streams f s.feeds)) (feeds_none vb.role at);
    }

-- what is taken to be written down, and what is

pub flushed_most : (vb : Plain) (w : Span) → Sound vb → unflushed_span vb ≡ Some w → Sound (record vb { flushed = w.last })
flushed_most vb w s e =
    let one = (found (λ v. nat_lt vb.flushed v.last) (all_spans vb.spans) w e).0 in
    record { spanned = taken_spanned vb w s.spanned one; placed = s.placed; stamped = s.stamped; based = s.based; saved = s.saved; counted = s.counted; feeds = s.feeds }

pub saved_sound : (vb : Plain) (seq : ℕ) → Sound vb → Sound (record vb { saved = max vb.saved seq })
saved_sound vb seq s = record { spanned = s.spanned; placed = s.placed; stamped = s.stamped; based = s.based; saved = (let m : vb.floor ≤ vb.saved = s.saved in omega arith); counted = s.counted; feeds = s.feeds }

-- each call

pub start_sound : (vb : Plain) {c : VbCall} {start : Plain × VbReply} → StartIs vb c start → Sound vb → IsTimely c → Sound start.0
start_sound vb (Prepares write clock wish free) s t = prepared_sound vb write clock wish free s t
start_sound vb (Chains chain on) s t = chain_sound vb chain on s t
start_sound vb (Counts member seq on) s t = ack_sound vb member seq on s
start_sound vb (Expires clock on) s t = aborts_sound vb clock on s
start_sound vb (Saves seq) s t = saved_sound vb seq s
start_sound vb (Leads uuid free) s t = led_sound vb uuid s
start_sound vb (Inherits free) s t = inherited_sound vb free s

streams_feed : (vb : Plain) {c : VbCall} {streams : List Stream} {said : VbAnswer} → StreamsAre vb c streams said → Sound vb → AreFed vb.role vb.floor streams
streams_feed vb (Opens id ask sync e) s =
    let may = may_open vb id ask e in
    feeds_opened vb.role vb.floor vb.streams (new_stream vb id ask sync) may.0 s.feeds may.1 (λ t. most_of vb.floor ask.start t)
streams_feed vb (Places id it at has there) s = feeds_given vb.role vb.floor it.id vb.streams it s.feeds (found_at id vb.streams it at) (most_of vb.floor it.place there)
streams_feed vb (Feeds id it w at has e) s =
    let one = (found _ (all_spans vb.spans) w e).0 in
    let above : vb.floor < w.last = ends_above vb.floor vb.position.at (all_spans vb.spans) w s.spans one in
    feeds_moved vb.role vb.floor it.id w.last vb.streams it s.feeds (found_at id vb.streams it at) (omega arith)
streams_feed vb (Drops id) s = feeds_dropped vb.role vb.floor id vb.streams s.feeds
streams_feed vb (Closes id) s = feeds_closed vb.role vb.floor id vb.streams s.feeds

row_sound : (vb : Plain) {c : VbCall} {made : Plain × VbReply} → RowIs vb c made → Sound vb → IsTimely c → Sound made.0
row_sound vb (Tells c said) s t = s
row_sound vb (Streams c streams said is) s t = record { spanned = s.spanned; placed = s.placed; stamped = s.stamped; based = s.based; saved = s.saved; counted = s.counted; feeds = streams_feed vb is s }
row_sound vb (Adopts log f) s t =
    record { spanned = s.spanned; placed = record { capped = s.capped; within = s.within; own = idle_own vb.role vb.position log (follows_idle vb.role f) }; stamped = s.stamped; based = s.based; saved = s.saved; counted = s.counted; feeds = s.feeds }
row_sound vb (Marks start end f fits) s t = marked_sound vb start end f fits s
row_sound vb (Seals was) s t = record { spanned = sealed_spanned vb.role s.spanned; placed = s.placed; stamped = s.stamped; based = s.based; saved = s.saved; counted = s.counted; feeds = s.feeds }
row_sound vb Trims s t = trimmed_sound vb s
row_sound vb (Flushes w e) s t = flushed_most vb w s e
row_sound vb (Writes write clock free) s t = stored_sound vb write clock free s t
row_sound vb (Receives c a f next is) s t = received_sound vb c a f next is s t
row_sound vb (Settles c start is) s t = settled_sound start.0 (start_sound vb is s t)
row_sound vb (Rolls at image cas f) s t = rolled_sound vb at image cas f s t
row_sound vb (Turns c new loud idle) s t = turned_sound vb new [] idle (feeds_none new vb.floor) s
row_sound vb (Yields id kept on at) s t = turned_sound vb role.Dead (kept ∷ []) refl (feeds_one vb.role vb.floor id vb.streams kept s.feeds at) s

pub stays : StaysSound
stays vb call s t = row_sound vb (row_is vb call) s t

first_own : (r : Role) (node uuid : ℕ) → IsOwn r (complete_position 0) (new_vb node r uuid).log
first_own role.Active node uuid = (refl, λ e. cc)
first_own role.Replica node uuid = tt
first_own role.Pending node uuid = tt
first_own role.Dead node uuid = tt

pub starts : StartsSound
starts node r uuid = record {
  spanned = spanned_none r 0;
  placed = record { capped = omega arith; within = (omega arith, omega arith); own = first_own r node uuid };
  stamped = record { casses = tt; pends = pends_nothing 0; last_cas = omega arith };
  based = record {
    low = λ key p e. let g : finite.get nothing.pending key ≡ None = finite.get-empty key_cmp key in cc;
    apart = λ key q p r e f same. let g : finite.get nothing.pending key ≡ None = finite.get-empty key_cmp key in cc;
  };
  saved = omega arith;
  counted = record { waits = backed_new r; links = linked_new r };
  feeds = feeds_none r 0;
}

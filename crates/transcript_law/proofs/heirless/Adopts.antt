-- a line `down` for an heir's link takes no log over: nothing but the stream's end is to come
use Rattle.std.specs.Prelude.{◌≡◌, ◌∷◌, ◌++◌, ◌&&◌, ◌||◌, ◌==◌, ◌⊎◌, if◌then◌else◌, false, not}
use Rattle.std.specs.List.{All, list_any}
use Rattle.disk_journals.specs.Arms.{arm_over}
use Rattle.dcp_consumer.specs.Counting.{bytes_acknowledged, counted_bytes}
use Rattle.dcp_consumer.specs.Machine.{over_why}
use Rattle.dcp_consumer.specs.declared.handshake.Handshake.TheVariants as waiting
use Rattle.mcbp_dcp.specs.declared.message.DcpMsg.TheVariants.{StreamEnd}
use Rattle.mcbp_frame.specs.declared.frame.FrameFault.{FrameFault}
use Rattle.node_core.specs.Dials.{DialResult, bytes_counted, bytes_taken, dial_bytes, fault_met, frame_taken, frames_taken, is_broken, is_over, over_for, rest_met, with_end_line, with_last_line, with_left, untold}
use Rattle.node_world.specs.{Arms.{fired_by}, Links.{dial_of}, Nodes.{PlainNode}, Power.{after_broken, disk_end, down_lines, is_broken_answer, with_broken}, World.{at_end, down_in, down_outcome, down_step, link_outcome}, Worlds.{arm_in}}
use Rattle.node_world.specs.declared.arm.Fired.{Fired}
use Rattle.node_world.specs.declared.arm.Fired.TheVariants as fired
use Rattle.takeover.specs.declared.take_over.TakeOver.{TakeOver}
use Rattle.takeover.specs.declared.take_over.TakeStep.TheVariants.{Own, Pend}
use Rattle.transcript_law.proofs.Words.{ℕ, Bool, true, List, [], refl, ap, sym, ◌∙◌, subst, inl, inr, ⊎_elim, fold, take, drop, All-cons, All-head, All-nil, All-tail, list_any-append, Option, Some, None, Answer, Cause, Chronicle, Cluster, EndReason, Ended, Event, Frame, Granted, LinkVerb, Member, Outcome, Plain, PlainConsumer, PlainLink, PlainProducer, PlainWorld, Readable, Role, STATE_CHANGED, Verb, after_job, after_job_bind, after_job_fold, consumer_node, dcp_frame, frames_in, is_follower, job_stepped, link_number, moved_len, node_outcome, pieces_of_frames, refusal, with_link, row_at, verb_step}
use Rattle.transcript_law.proofs.disks.{ArmedLines.{AreEnds}, Downed.{down_ends}}
use Rattle.transcript_law.proofs.ends.Links.{AllLinked}
use Rattle.transcript_law.proofs.heirless.{Tells.{AdoptsRest}, Turns.{is_adopt}}
use Rattle.transcript_law.proofs.invariant.{Agreement.{Agrees, AgreesAt, DownAgrees, EndsStand, FollowsBy, Handing, Heir, LinkAgrees, VbAgrees, Wants, end_frames, end_reason, idle, is_refused_ack, spoken, follows_in}, LinkRows.{found_is_link}, Seats.{seat}}
use Rattle.transcript_law.proofs.links.{Onward.{Kept}, Spoken.{spoken_dropped, spoken_front}, Taken.{dropped_taken, end_done, end_taken, over_taken}}
use Rattle.transcript_law.specs.LinesTold.{Dial}
use Rattle.vb_events.specs.declared.event.EndReason.TheVariants.{Done, State}
use Rattle.vb_events.specs.declared.event.Event.TheVariants as event
use Rattle.mcbp_frame.specs.Cutting.{Parted}

-- ---- the frames that are to come

-- one that is dropped, or the end of the stream
abbrev IsFine : ℕ → ℕ → Frame → Type 0
IsFine o v f = (is_refused_ack f ≡ true) ⊎ ((turned : Bool) × (f ≡ dcp_frame (StreamEnd (end_reason turned)) o v))

fine_among : (o v : ℕ) (fs later xs : List Frame) → spoken (fs ++ later) ≡ xs → All (IsFine o v) xs → All (IsFine o v) fs
fine_among o v [] later xs e all = All-nil (IsFine o v)
fine_among o v (f ∷ fs) later xs e all = by (is_refused_ack f) refl (fine_among o v fs later)
  where
    by : (b : Bool) → is_refused_ack f ≡ b → ((ys : List Frame) → spoken (fs ++ later) ≡ ys → All (IsFine o v) ys → All (IsFine o v) fs) → All (IsFine o v) (f ∷ fs)
    by true q rest = All-cons (IsFine o v) f fs (inl q) (rest xs (sym (spoken_dropped f (fs ++ later) q) ∙ e) all)
    by false q rest =
        let all' : All (IsFine o v) (f ∷ spoken (fs ++ later)) = subst (All (IsFine o v)) (sym e ∙ spoken_front f (fs ++ later) q) all in
        All-cons (IsFine o v) f fs (All-head (IsFine o v) f (spoken (fs ++ later)) all') (rest (spoken (fs ++ later)) refl (All-tail (IsFine o v) f (spoken (fs ++ later)) all'))

end_fine : (o v : ℕ) (turned over : Bool) → All (IsFine o v) (end_frames o v (end_reason turned) over)
end_fine o v turned false = All-nil (IsFine o v)
end_fine o v turned true = All-cons (IsFine o v) _ [] (inr (turned, refl)) (All-nil (IsFine o v))

-- ---- the frames one after another

-- nothing was told, and the link waits for its stream's frames, or is over
record Calm (s : DialResult) : Type 0 where
  silent : s.events ≡ []
  stands : (s.dial.consumer.handshake ≡ waiting.Streaming) ⊎ ((why : EndReason) × (over_why s.dial.consumer.handshake ≡ Some why))

one_calm : (o v : ℕ) (f : Frame) (s : DialResult) → IsFine o v f → Calm s → (t : DialResult) × (frame_taken f s ≡ Ended t) × Calm t
one_calm o v f s (inl dropped) c = (s, dropped_taken f s dropped, c)
one_calm o v f s (inr (turned, is)) c = ⊎_elim (λ streams. ends turned is streams) (λ over. (s, over_taken f s over.0 over.1, c)) c.stands
  where
    ends : (turned : Bool) → f ≡ dcp_frame (StreamEnd (end_reason turned)) o v → s.dial.consumer.handshake ≡ waiting.Streaming → (t : DialResult) × (frame_taken f s ≡ Ended t) × Calm t
    ends true is streams = (over_for State s, ap (λ g. frame_taken g s) is ∙ end_taken o v s streams, record { silent = c.silent; stands = inr (State, refl) })
    ends false is streams = (over_for Done s, ap (λ g. frame_taken g s) is ∙ end_done o v s streams, record { silent = c.silent; stands = inr (Done, refl) })

all_calm : (o v : ℕ) (fs : List Frame) (k : Kept) (s : DialResult) → All (IsFine o v) fs → Calm s → Calm (fold (job_stepped frame_taken) (k, s) fs).1
all_calm o v [] k s all c = c
all_calm o v (f ∷ fs) k s all c =
    let (t, is, calm) = one_calm o v f s (All-head (IsFine o v) f fs all) c in
    subst (λ (x : Kept × DialResult). Calm (fold (job_stepped frame_taken) x fs).1) (ap (λ j. after_job j k.0 k.1) (sym is)) (all_calm o v fs k t (All-tail (IsFine o v) f fs all) calm)

taken_calm : (o v : ℕ) (fs : List Frame) (k : Kept) (s : DialResult) → All (IsFine o v) fs → Calm s → Calm (after_job (frames_taken fs s) k.0 k.1).1
unfolding frames_taken
taken_calm o v fs k s all c = subst (λ (x : Kept × DialResult). Calm x.1) (sym (after_job_fold frame_taken fs (Ended s) k.0 k.1)) (all_calm o v fs k s all c)

-- ---- and what is told behind them

fault_silent : (fault : Option FrameFault) (s : DialResult) → (fault_met fault s).events ≡ s.events
fault_silent None s = refl
fault_silent (Some fault) s = elim (is_over s.dial) as (λ b. (if b then s else over_for EndReason.Protocol s).events ≡ s.events) [ true ↦ refl | false ↦ refl ]

counted_silent : (fs : List Frame) (s : DialResult) → (bytes_counted fs s).events ≡ s.events
unfolding bytes_counted
counted_silent fs s = elim (is_over s.dial || s.dial.consumer.dialed.buffer == 0 || counted_bytes fs == 0) as (λ b. (if b then s else record s { out = s.out ++ bytes_acknowledged (counted_bytes fs) s.dial.consumer }).events ≡ s.events) [ true ↦ refl | false ↦ refl ]

last_none : (why : Option EndReason) (s : DialResult) → s.events ≡ [] → list_any is_adopt (with_end_line why s).events ≡ false
last_none None s e = ap (list_any is_adopt) e
last_none (Some why) s e = by (is_broken (Some why))
  where
    by : (b : Bool) → list_any is_adopt (if b then s else record s { events = s.events ++ event.Ended s.dial.consumer.dialed.link why ∷ [] }).events ≡ false
    by true = ap (list_any is_adopt) e
    by false = ap (λ (ls : List Event). list_any is_adopt (ls ++ event.Ended s.dial.consumer.dialed.link why ∷ [])) e

-- ---- the line

bytes_none : (link : PlainLink) (n : ℕ) (k : Kept) → link.consumer.handshake ≡ waiting.Streaming → (o v : ℕ) → All (IsFine o v) (frames_in (link.down_heard ++ take n link.down)) → list_any is_adopt (after_job (dial_bytes (take n link.down) (dial_of link)) k.0 k.1).1.events ≡ false
unfolding bytes_taken
bytes_none link n k streams o v all =
    let bytes : List ℕ = link.down_heard ++ take n link.down in
    let fs : List Frame = frames_in (link.down_heard ++ take n link.down) in
    let s : DialResult = with_left (untold (dial_of link)) (link.down_heard ++ take n link.down) in
    let y : Kept × DialResult = after_job (frames_taken (frames_in (link.down_heard ++ take n link.down)) (with_left (untold (dial_of link)) (link.down_heard ++ take n link.down))) k.0 k.1 in
    let c : Calm y.1 = taken_calm o v fs k s all (record { silent = refl; stands = inl streams }) in
    subst (λ (x : Kept × DialResult). list_any is_adopt x.1.events ≡ false) (sym (after_job_bind (frames_taken fs s) (rest_met fs) k.0 k.1))
    (last_none _ _ (counted_silent fs _ ∙ fault_silent _ y.1 ∙ c.silent))

ends_none : (lines : List Event) → AreEnds lines → list_any is_adopt lines ≡ false
ends_none [] a = refl
ends_none (event.Ended l why ∷ lines) a = ends_none lines a
ends_none (event.Closed n c ∷ lines) a = ends_none lines a
ends_none (other ∷ lines) a = absurd a

both_none : (xs ys : List Event) → list_any is_adopt xs ≡ false → list_any is_adopt ys ≡ false → list_any is_adopt (xs ++ ys) ≡ false
both_none xs ys e f = list_any-append is_adopt xs ys ∙ (λ i. e i || f i)

-- also where a disk fails
broken_none : (n l : ℕ) (before : PlainWorld) (x : Outcome) → list_any is_adopt x.1.events ≡ false → list_any is_adopt (with_broken n l before x).1.events ≡ false
broken_none n l before (w, told) e = by (is_broken_answer told.answer)
  where
    how : (f : Fired) → list_any is_adopt (after_broken n l (arm_in (before.nodes n)).out f (w, told)).1.events ≡ false
    how fired.No = both_none told.events (disk_end l) e refl
    how fired.Failed = both_none told.events (event.CallFailed n ∷ disk_end l) e refl
    how fired.Stopped = both_none told.events (event.NodeStopped n ∷ down_lines n (Some l) w) e (ends_none (down_lines n (Some l) w) (down_ends n (Some l) w))

    by : (b : Bool) → list_any is_adopt (if b then after_broken n l (arm_in (before.nodes n)).out (fired_by (arm_in (before.nodes n)).fuse (arm_in (w.nodes n)).fuse) (w, told) else (w, told)).1.events ≡ false
    by true = how (fired_by (arm_in (before.nodes n)).fuse (arm_in (w.nodes n)).fuse)
    by false = e

module _ (w : PlainWorld) (link : PlainLink) (wanted : ℕ) (streams : link.consumer.handshake ≡ waiting.Streaming) (o v : ℕ) (all : All (IsFine o v) (frames_in (link.down_heard ++ take (moved_len wanted link.down) link.down))) where
  at_node_none : (node : Option PlainNode) → list_any is_adopt (with_link link (node_outcome w (consumer_node link) (Some link, refusal Cause.UnknownNode) node (down_in wanted link))).1.events ≡ false
  at_node_none None = refl
  at_node_none (Some node) = bytes_none link (moved_len wanted link.down) (node.vbs, arm_over node.shelves link.consumer.dialed.vb node.arm.fuse) streams o v all

  pub line_none : (l : ℕ) → row_at link_number l w.links ≡ Some link → list_any is_adopt (down_step w l wanted).1.events ≡ false
  line_none l found = subst (λ x. list_any is_adopt (down_outcome w l x (link_outcome w l consumer_node (down_in wanted) x)).1.events ≡ false) (sym found)
      (broken_none (consumer_node link) l w (at_end w (consumer_node link) link (down_in wanted link)) (at_node_none (w.nodes (consumer_node link))))

-- ---- by who is active

heir_stands : {fv : Wants} {kn : Member} {pv : Option Plain} {leader : Member} {g : Option Granted} {said : Option Role} {point : Option ℕ} {served : PlainProducer} {asker : PlainConsumer} {up down : List Frame} → EndsStand fv kn pv leader g said point served asker up down → FollowsBy asker.taking.last Role.Active → Heir pv g served asker up down
heir_stands (EndsStand.IsAsking ask none x) f = let z : false ≡ true = subst (λ (t : TakeOver). FollowsBy t.last Role.Active) x.untold f in cc
heir_stands (EndsStand.IsRefusedYet none x) f = let z : false ≡ true = subst (λ (t : TakeOver). FollowsBy t.last Role.Active) x.untold f in cc
heir_stands (EndsStand.IsStreaming x is) f = let z : is_follower Role.Active ≡ true = follows_in x.serving.handing Role.Active (subst (λ (t : TakeOver). FollowsBy t.last Role.Active) x.taking.taken_is f) in cc
heir_stands (EndsStand.IsHeir x is) f = x

-- a vBucket that takes a log over is not active
pub adopts : (w : PlainWorld) (r : Chronicle) (l wanted : ℕ) → Agrees w r → AllLinked w r.dial_of → (d : Dial) → r.dial_of l ≡ Some d → list_any is_adopt (down_step w l wanted).1.events ≡ true → r.role_at d.node d.vb ≡ Some (Some Role.Active) → ⊥
adopts w r l wanted (c, a) linked d dialed takes active = by (row_at link_number l w.links) refl
  where
    none_there : (down_step w l wanted).1.events ≡ [] → ⊥
    none_there e = let z : false ≡ true = sym (ap (list_any is_adopt) e) ∙ takes in cc

    of_link : (x : PlainLink) → row_at link_number l w.links ≡ Some x → ⊥
    of_link x found =
        let i = found_is_link l w.links x found in
        let mine : LinkAgrees w r c x [] [] = a.links x i.0 in
        let z : Some d ≡ Some (record { producer = x.server.desk.node; node = x.consumer.dialed.node; vb = x.consumer.dialed.vb }) = sym dialed ∙ ap r.dial_of (sym i.1) ∙ mine.dial.dialed in
        let same : d ≡ record { producer = x.server.desk.node; node = x.consumer.dialed.node; vb = x.consumer.dialed.vb } = cc in
        let vb : VbAgrees r (consumer_node x) x.consumer.dialed.vb (c.nodes (seat (consumer_node x) x.consumer.dialed.vb)) mine.follower = subst (AgreesAt r (consumer_node x) x.consumer.dialed.vb (c.nodes (seat (consumer_node x) x.consumer.dialed.vb))) mine.follower_is (a.vbs (consumer_node x) x.consumer.dialed.vb) in
        let y : Some (Some mine.follower.role) ≡ Some (Some Role.Active) = sym vb.role ∙ ap (λ (k : Dial). r.role_at k.node k.vb) (sym same) ∙ active in
        let role : mine.follower.role ≡ Role.Active = cc in
        let h = heir_stands mine.talk.stands (subst (FollowsBy x.consumer.taking.last) role mine.follows) in
        let downs : DownAgrees x [] mine.talk.said = mine.talk.downs in
        let p : Parted mine.talk.said (x.down_heard ++ take (moved_len wanted x.down) x.down) (drop (moved_len wanted x.down) x.down) = subst (λ fs. Parted fs (x.down_heard ++ take (moved_len wanted x.down) x.down) (drop (moved_len wanted x.down) x.down)) (sym downs.joined)
        (pieces_of_frames x.down_heard x.down downs.behind (moved_len wanted x.down) (subst (All Readable) downs.joined downs.readable) downs.bytes) in
        let all : All (IsFine x.consumer.asked x.consumer.dialed.vb) (frames_in (x.down_heard ++ take (moved_len wanted x.down) x.down)) = fine_among x.consumer.asked x.consumer.dialed.vb _ p.later _ (ap spoken (sym p.joined) ∙ h.end_is) (end_fine x.consumer.asked x.consumer.dialed.vb h.stream.ended h.granted_is.over) in
        let q : false ≡ true = sym (line_none w x wanted h.granted x.consumer.asked x.consumer.dialed.vb all l found) ∙ takes in cc

    by : (o : Option PlainLink) → row_at link_number l w.links ≡ o → ⊥
    by None e = none_there (ap (λ x. (down_outcome w l x (link_outcome w l consumer_node (down_in wanted) x)).1.events) e)
    by (Some x) e = of_link x e

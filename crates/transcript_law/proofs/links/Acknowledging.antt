-- a link whose consumer acknowledges: what it asks its vBucket for before that, and where the ends of the link stand then
use Rattle.std.specs.Prelude.{◌≡◌, ◌<◌, ◌≤◌, ◌∷◌, ◌++◌, ◌==◌, ◌&&◌, ◌^◌, if◌then◌else◌}
use Rattle.std.specs.FinMap as finite
use Rattle.std.specs.Prelude.{nat_lt}
use Rattle.transcript_law.proofs.Words.{ℕ, Bool, true, false, List, [], refl, ap, sym, ◌∙◌, subst, inl, inr, ⊎_elim, map, arith, append_assoc, option_map, is_some, Option, Some, None, All-push, Frame, spelling, Readable, DcpMsg}
use Rattle.transcript_law.proofs.Words.{dcp_frame, Change, Position, last_seq, eqb-true, LawfulAcknowledged, Member, Cluster, Plain, is_follower, fork_of, quiet_reply, refusal_reply, States, with_vb_at, call_at, Call, Done, after, Sound, PlainConsumer, DialResult}
use Rattle.transcript_law.proofs.Words.{row_at, row_put, PlainLink, link_number, producer_node, consumer_node, PlainWorld, Granted, Chronicle, PlainProducer, StreamName, Role, Feed, above, hist, image_in, image_of, ground, stream_branch, with_changed}
use Rattle.transcript_law.proofs.invariant.Agreement.{AckedIs, FollowsBy, Handing, answers_in, taken_in, vb_of, image_is, shelf_of, consumer_seat, AgreesAt, BranchAgrees, DiskIsIf, VbAgrees, UpIs, ConsumerIs, EndsStand, Wants, LinkAgrees, Busy, AgreesIn}
use Rattle.transcript_law.proofs.{invariant.Carried.{talk_same}, invariant.Carrying.{Relinked}, disks.Disks.{saved_so}, links.Followed.{fork_low, own_is}, links.Frames.{readable, spelled_more}, verbs.NodeLines.{put_same}, invariant.OneLink.{carries_link, mine}, links.PumpWorlds.{told_stream}, invariant.Tables.{changed_here, is_dialed}}
use Rattle.{branch_model.specs.Logs.{IsFront}, cluster_model.specs.Clusters.{Comes, Ground, Joined, Linked, Stands}, std.proofs.lemmas.Bool.Decides.{nat_tests}, transcript_law.proofs.links.Firsts.{first_count}, transcript_law.proofs.links.Requests.{granted_past}, transcript_law.proofs.links.Upgoing.{upward_acked, upward_wrote}}
use Rattle.{takeover.specs.declared.take_over.TakeOver.{TakeOver}, takeover.specs.declared.take_over.TakeStep.{TakeStep}, takeover.specs.declared.take_over.TakeStep.TheVariants.{Own, Pend}}
use Rattle.transcript_law.specs.{Chronicles.{acknowledging}, Lawfulness.{SavesThirds, known_history, stream_history}}
use Rattle.branch_model.specs.Snapshots.{Follows}
use Rattle.{dcp_consumer.specs.Machine.{acknowledged, is_streaming, may_acknowledge}}
use Rattle.{durability.proofs.Dues.{due_complete, due_thirds}, durability.specs.Laws.{IsPending}, durability.specs.Pending.{due}, vb_calls.specs.Durable.{pending_prepares}, vbucket.proofs.Backing.{Entry, IsEntry, found_entry}}
use Rattle.node_core.specs.Dials.{acknowledged_result, due_requested, due_met, dues_of_reply}
use Rattle.vb_calls.specs.declared.calls.VbAnswer.TheVariants.{Dues}
use Rattle.vb_calls.specs.declared.calls.VbCall.TheVariants as call
use Rattle.vb_types.specs.declared.status.Status.TheVariants.{NotMyVbucket}

-- the frame by which a consumer acknowledges all up to a seqno
abbrev pub ack_frame : ℕ → PlainConsumer → Frame
ack_frame seq c = dcp_frame (DcpMsg.SeqnoAcknowledged seq) c.asked c.dialed.vb

-- no stream is granted before its answer came
pub not_before : (consumer : PlainConsumer) → is_streaming consumer.handshake ≡ true → (seen : ℕ) → seen ≤ first_count consumer.dialed → ConsumerIs consumer seen → ⊥
not_before consumer granted seen few x = let past : first_count consumer.dialed < seen = granted_past consumer.dialed seen (sym (ap is_streaming x.waits) ∙ granted) in omega arith

-- a stream that was granted, as the lines tell it: what feeds its consumer, which adopted its log, is of the same branch
pub record GrantedTo (kn : Member) (told : Option Granted) : Type 0 where
  pub stream : Granted
  pub is_told : told ≡ Some stream
  pub feed : Feed
  pub fed : kn.link ≡ Some feed
  pub adopted : is_some kn.coming ≡ true
  pub points_of_branch : stream_branch stream ≡ feed.u

-- its vBucket was not told to take its branch over
abbrev pub OwnsNot : PlainConsumer → Type 0
OwnsNot consumer = consumer.taking ≡ record { last = Some Own } → ⊥

-- so it is while it follows
pub owns_not : (consumer : PlainConsumer) (role : Role) → FollowsBy consumer.taking.last role → is_follower role ≡ true → OwnsNot consumer
owns_not consumer role by follows owns = let z : true ≡ false = sym follows ∙ subst (λ (t : TakeOver). FollowsBy t.last role) owns by in cc

-- and by how far it is
pub handed_not : (consumer : PlainConsumer) (h : Handing) → consumer.taking ≡ taken_in h → OwnsNot consumer
handed_not consumer h taken owns = by h (sym taken ∙ owns)
  where
    none : {A : Type 0} → ◌≡◌ {A = Option TakeStep} None (Some Own) → A
    none e = cc

    pend : {A : Type 0} → ◌≡◌ {A = Option TakeStep} (Some Pend) (Some Own) → A
    pend e = let z : Pend ≡ Own = cc in cc

    by : (x : Handing) → taken_in x ≡ record { last = Some Own } → ⊥
    by Handing.Unstated e = none (ap (λ (t : TakeOver). t.last) e)
    by Handing.Offered e = none (ap (λ (t : TakeOver). t.last) e)
    by Handing.Pended e = pend (ap (λ (t : TakeOver). t.last) e)
    by Handing.Due e = pend (ap (λ (t : TakeOver). t.last) e)
    by Handing.Ceded e = pend (ap (λ (t : TakeOver). t.last) e)
    by Handing.Stated e = pend (ap (λ (t : TakeOver). t.last) e)

-- a consumer whose stream was granted, and whose vBucket did not take its branch over, has one that the lines tell
pub stream_granted : {fv : Wants} {kn leader : Member} {pv : Option Plain} {g : Option Granted} {last : Option Role} {point : Option ℕ} {served : PlainProducer} {consumer : PlainConsumer} {asked said : List Frame} → EndsStand fv kn pv leader g last point served consumer asked said
    → is_streaming consumer.handshake ≡ true → OwnsNot consumer → GrantedTo kn g
stream_granted {consumer = consumer} (EndsStand.IsAsking ask none x) granted follows = let a : x.seen ≤ x.answered = x.not_more in let b : x.answered ≤ first_count consumer.dialed = x.some_left in absurd (not_before consumer granted x.seen (omega arith) x.consumer)
stream_granted {consumer = consumer} (EndsStand.IsRefusedYet none x) granted follows = absurd (not_before consumer granted x.seen x.not_more x.consumer)
stream_granted {consumer = consumer} (EndsStand.IsHeir x said) granted follows = absurd (follows x.owns)
stream_granted {consumer = consumer} (EndsStand.IsStreaming x said) granted follows = record {
  stream = x.granted_is;
  is_told = x.told;
  feed = x.feed;
  fed = x.fed;
  adopted = x.adopted ∙ (let past = granted_past consumer.dialed x.seen (sym (ap is_streaming x.consumer.waits) ∙ granted) in grind (arith, nat_tests, past));
  points_of_branch = x.streams.put.front_is;
}

-- so that consumer's vBucket is on the branch of its stream
pub on_stream : (g : Ground) (kn : Member) (feed : Feed) (b : Option ℕ) → Stands g kn → kn.link ≡ Some feed → is_some kn.coming ≡ true → BranchAgrees b kn.br → (b ≡ None → kn.log ≡ []) → b ≡ Some feed.u
on_stream g kn feed b s fed adopted is unlogged = by b is unlogged
  where
    joined : Joined g kn feed kn.coming
    joined = (subst (Linked g kn kn.coming) fed s.linked).0

    at_it : (o : Option (List Change)) → kn.coming ≡ o → is_some o ≡ true → (kn.br ≡ feed.u) × IsFront kn.log kn.br
    at_it None e some = cc
    at_it (Some xs) e some = (subst (Joined g kn feed) e joined, (subst (Comes g kn) e s.comes).0)

    by : (b : Option ℕ) → BranchAgrees b kn.br → (b ≡ None → kn.log ≡ []) → b ≡ Some feed.u
    by None is none = absurd (subst (λ l. IsFront l kn.br) (none refl) (at_it kn.coming refl adopted).1)
    by (Some u) is none = ap Some (sym is ∙ (at_it kn.coming refl adopted).0)

-- a link whose consumer acknowledged all up to a seqno, with these bytes on their way to the producer
abbrev pub acked_link : PlainLink → ℕ → List ℕ → PlainLink
acked_link link seq up = record link { consumer = (acknowledged seq link.consumer).0; up = up }

module _ (link : PlainLink) (seq : ℕ) (up : List ℕ) (wrote : up ≡ link.up ++ spelling (ack_frame seq link.consumer)) (granted : is_streaming link.consumer.handshake ≡ true) (follows : OwnsNot link.consumer) (low : seq < 2 ^ 64) where
  abbrev after_ack : PlainLink
  after_ack = acked_link link seq up

  abbrev frame : Frame
  frame = ack_frame seq link.consumer

  module _ {fv : Wants} {kn leader : Member} {pv : Option Plain} {g : Option Granted} {last : Option Role} {point : Option ℕ} {asked said : List Frame} where
    opaque_small : EndsStand fv kn pv leader g last point link.server link.consumer asked said → link.consumer.asked < 2 ^ 32
    opaque_small (EndsStand.IsAsking ask none x) = x.consumer.small
    opaque_small (EndsStand.IsRefusedYet none x) = x.consumer.small
    opaque_small (EndsStand.IsStreaming x said) = x.consumer.small
    opaque_small (EndsStand.IsHeir x said) = x.small

    stands_acked : {g' : Option Granted} → g' ≡ option_map (acknowledging seq) g → EndsStand fv kn pv leader g last point link.server link.consumer asked said → EndsStand fv kn pv leader g' last point link.server after_ack.consumer (asked ++ frame ∷ []) said
    stands_acked told (EndsStand.IsAsking ask none x) = let a : x.seen ≤ x.answered = x.not_more in let b : x.answered ≤ first_count link.consumer.dialed = x.some_left in absurd (not_before link.consumer granted x.seen (omega arith) x.consumer)
    stands_acked told (EndsStand.IsRefusedYet none x) = absurd (not_before link.consumer granted x.seen x.not_more x.consumer)
    stands_acked told (EndsStand.IsHeir x said) = absurd (follows x.owns)
    stands_acked told (EndsStand.IsStreaming x said) = EndsStand.IsStreaming (record {
      granted_is = acknowledging seq x.granted_is;
      told = told ∙ ap (option_map (acknowledging seq)) x.told;
      serving = record {
        stream = x.stream;
        stream_is = x.stream_is;
        numbered = x.numbered;
        apart = x.apart;
        server = x.server;
        handing = x.handing;
        gives_is = x.gives_is;
        dialed_so = x.dialed_so;
        acks = (let o : ℕ = link.consumer.asked in let v : ℕ = link.consumer.dialed.vb in let answers : List Frame = answers_in o x.handing in
            upward_acked (seq ∷ x.granted_is.wrote) o v answers asked (upward_wrote x.granted_is.wrote o v answers asked x.acks seq) frame (inl (seq, refl, low, inl refl)));
        unput = x.unput;
        unput_is = x.unput_is;
        all_put = x.all_put;
        stated_behind = x.stated_behind;
      };
      feed = x.feed;
      fed = x.fed;
      sources = x.sources;
      log_fits = x.log_fits;
      seen = x.seen;
      taking = record {
        not_more = x.not_more;
        consumer = record { waits = x.consumer.waits; small = x.consumer.small };
        adopted = x.adopted;
        taken_is = x.taken_is;
        granted_first = x.granted_first;
        flag_is = x.flag_is;
        asks = x.asks;
      };
      streams = record { put = x.streams.put; opens = x.streams.opens; given_in = x.streams.given_in; all_taken = x.streams.all_taken; over_ended = x.streams.over_ended; coming = x.streams.coming; way = x.streams.way };
      all = x.all;
    }) said

  ack_readable : link.consumer.asked < 2 ^ 32 → link.consumer.dialed.vb < 1024 → Readable frame
  ack_readable small few = readable (DcpMsg.SeqnoAcknowledged seq) link.consumer.asked link.consumer.dialed.vb tt low small (omega arith) (omega arith)

  ups_acked : (busy asked : List Frame) → Readable frame → UpIs link busy asked → UpIs after_ack busy (asked ++ frame ∷ [])
  ups_acked busy asked good x = record {
    behind = x.behind ++ frame ∷ [];
    joined = ap (λ fs. fs ++ frame ∷ []) x.joined ∙ append_assoc busy x.behind (frame ∷ []);
    bytes = ap (λ b. link.up_heard ++ b) wrote ∙ spelled_more link.up_heard link.up x.behind frame x.bytes;
    readable = All-push Readable asked frame x.readable good;
  }

  -- what is read with the line of the acknowledgement
  abbrev pub read_acked : Chronicle → Chronicle
  read_acked r = with_changed r (StreamName.Link (link_number link)) (acknowledging seq)

  -- the link agrees, where no vBucket is another one
  link_acked : (w w' : PlainWorld) (r : Chronicle) (c : Cluster) (asking taking : List Frame) → ((n v : ℕ) → vb_of w' n v ≡ vb_of w n v) → LinkAgrees w r c link asking taking → LinkAgrees w' (read_acked r) c after_ack asking taking
  link_acked w w' r c asking taking vbs x = let t = x.talk in let v : ℕ = link.consumer.dialed.vb in record {
    follower = x.follower;
    follower_is = vbs (consumer_node link) link.consumer.dialed.vb ∙ x.follower_is;
    follows = x.follows;
    acks = subst (λ o. AckedIs o seq) (sym (changed_here r (link_number link) v (acknowledging seq) (is_dialed (r.dial_of (link_number link)) link.server.desk.node link.consumer.dialed.node v x.dialed) ∙ ap (option_map (acknowledging seq)) (stream_granted x.talk.stands granted follows).is_told)) refl;
    dial = x.dial;
    talk = talk_same refl (vbs (producer_node link) link.consumer.dialed.vb) refl refl refl refl (record {
      asked = t.asked ++ frame ∷ [];
      said = t.said;
      stands = stands_acked (changed_here r (link_number link) v (acknowledging seq) (is_dialed (r.dial_of (link_number link)) link.server.desk.node link.consumer.dialed.node v x.dialed)) t.stands;
      ups = ups_acked asking t.asked (ack_readable (opaque_small t.stands) x.small.1) t.ups;
      downs = t.downs;
    });
  }

  -- and all else with it
  pub acked_agrees : (busy : Busy) (w w' : PlainWorld) (r : Chronicle) (c : Cluster) → AgreesIn busy w r c → row_at link_number (link_number link) w.links ≡ Some link → Relinked w w' (row_put link_number (link_number link) after_ack w.links) → AgreesIn busy w' (read_acked r) c
  acked_agrees busy w w' r c a found became =
      let l : ℕ = link_number link in
      carries_link busy busy w w' r (read_acked r) c l link after_ack a found (record { dialed = refl; desk = refl }) became (λ q id has. has) (told_stream r l (acknowledging seq)) (λ k ne. refl)
      (link_acked w w' r c (busy l).0 (busy l).1 became.vbs (mine busy w r r c c l link a found))

-- a role that is known, or one that takes no part
abbrev known_role : Option (Option Role) → Role
known_role (Some (Some role)) = role
known_role other = Role.Dead

-- a snapshot's ends, or nothing
abbrev ends_in : Option (ℕ × ℕ) → ℕ × ℕ
ends_in None = (0, 0)
ends_in (Some ends) = ends

-- a line of an acknowledgement is lawful by what was read of its link and its vBucket
pub acked_is_lawful : (q : Chronicle) (n v l seq saved m : ℕ) (g : Granted) (p : Position) (held : List Change) → q.dial_of l ≡ Some (record { producer = m; node = n; vb = v }) → q.stream_of (StreamName.Link l) v ≡ Some g
    → q.branch_at n v ≡ Some (stream_branch g) → ((said : Role) → q.role_at n v ≡ Some (Some said) → is_follower said ≡ true) → q.held n v ≡ held → last_seq 0 held ≡ p.at → q.snap_at n v ≡ Some (p.ss, p.se) → p.ss ≤ p.at → seq ≤ fork_of p → saved ≡ (q.disk_at n v).saved → SavesThirds (image_of held) seq saved
    → Follows (stream_history q g) p (above held p.ss) (image_of held) → LawfulAcknowledged q l n v seq saved
acked_is_lawful q n v l seq saved m g p held dialed told on role holds high snap within low saved_is thirds follows =
    let at_is : last_seq 0 (q.held n v) ≡ p.at = ap (last_seq 0) holds ∙ high in
    record {
      fed = (g, (m, dialed, told, on));
      role = role;
      held = (let a : fork_of p ≤ p.at = fork_low p within in omega arith);
      complete = λ ss se is below. inside ss se (sym snap ∙ is) (omega (arith, at_is));
      saved_as_known = saved_is;
      thirds = subst (λ h. SavesThirds (image_of h) seq saved) (sym holds) thirds;
      follows = λ ss se is. subst (λ h. FollowsAt (record { ss = ss; se = se; at = last_seq 0 (q.held n v) }) h) (sym holds)
          (subst (λ x. FollowsAt x held) (λ i. record { ss = (starts_are ss se (sym snap ∙ is)) i; se = (ends_are ss se (sym snap ∙ is)) i; at = (sym at_is) i }) follows);
    }
  where
    FollowsAt : Position → List Change → Type 0
    FollowsAt x h = Follows (stream_history q g) x (above h x.ss) (image_of h)

    starts_are : (ss se : ℕ) → ◌≡◌ {A = Option (ℕ × ℕ)} (Some (p.ss, p.se)) (Some (ss, se)) → p.ss ≡ ss
    starts_are ss se is = ap (λ o. (ends_in o).0) is

    ends_are : (ss se : ℕ) → ◌≡◌ {A = Option (ℕ × ℕ)} (Some (p.ss, p.se)) (Some (ss, se)) → p.se ≡ se
    ends_are ss se is = ap (λ o. (ends_in o).1) is

    not_whole : (b : Bool) → (p.at == p.se) ≡ b → p.at < p.se → seq ≤ (if b then p.at else p.ss) → seq ≤ p.ss
    not_whole true e below le = (let same : p.at ≡ p.se = eqb-true p.at p.se e in absurd (omega arith))
    not_whole false e below le = le

    inside : (ss se : ℕ) → ◌≡◌ {A = Option (ℕ × ℕ)} (Some (p.ss, p.se)) (Some (ss, se)) → p.at < se → seq ≤ ss
    inside ss se is below = (let ends : p.se ≡ se = ends_are ss se is in let starts : p.ss ≡ ss = starts_are ss se is in subst (λ k. seq ≤ k) starts (not_whole (p.at == p.se) refl (omega arith) low))

-- and so where all agrees
pub ack_lawful : (busy : Busy) (w : PlainWorld) (q : Chronicle) (c : Cluster) (a : AgreesIn busy w q c) (link : PlainLink) (asking taking : List Frame) (x : LinkAgrees w q c link asking taking) (seq : ℕ) → is_streaming link.consumer.handshake ≡ true → is_follower x.follower.role ≡ true
    → seq ≤ fork_of x.follower.position → SavesThirds (image_in x.follower) seq x.follower.saved → LawfulAcknowledged q (link_number link) (consumer_node link) link.consumer.dialed.vb seq x.follower.saved
ack_lawful busy w q c a link asking taking x seq granted follows low thirds =
    let k : ℕ = consumer_node link in let v : ℕ = link.consumer.dialed.vb in let kn : Member = c.nodes (consumer_seat link) in
    let held : VbAgrees q k v kn x.follower = subst (AgreesAt q k v kn) x.follower_is (a.vbs k v) in
    let s : GrantedTo kn (q.stream_of (StreamName.Link (link_number link)) v) = stream_granted x.talk.stands granted (owns_not link.consumer x.follower.role x.follows follows) in
    let on : q.branch_at k v ≡ Some s.feed.u = on_stream (ground c) kn s.feed (q.branch_at k v) (a.sound.stands (consumer_seat link)) s.fed s.adopted held.branch (λ e. held.member.log ∙ held.unlogged e) in
    acked_is_lawful q k v (link_number link) seq x.follower.saved link.server.desk.node s.stream x.follower.position kn.held x.dialed s.is_told
    (on ∙ ap Some (sym s.points_of_branch))
    (λ said e. let both : Some (Some x.follower.role) ≡ Some (Some said) = sym held.role ∙ e in let same : x.follower.role ≡ said = ap known_role both in subst (λ (o : Role). is_follower o ≡ true) same follows)
    held.held held.high held.snap held.sound.within.0 low
    (saved_so (q.disk_at k v) (c.disks (consumer_seat link)) (shelf_of w k v) x.follower (subst (DiskIsIf (q.disk_at k v) (c.disks (consumer_seat link)) (shelf_of w k v)) x.follower_is (a.disks k v)))
    (subst (λ image. SavesThirds image seq x.follower.saved) (image_is held.kept) thirds)
    (subst (λ h. Follows h x.follower.position (above kn.held x.follower.position.ss) (image_of kn.held))
    (own_is q c k v kn a.hists a.rootless held.branch ∙ ap (known_history q.tree) (on ∙ ap Some (sym s.points_of_branch)))
    (subst (λ p. Follows (hist c.tree kn.br) p (above kn.held p.ss) (image_of kn.held)) held.member.position (a.sound.stands (consumer_seat link)).follows))

-- what is asked of the vBucket

-- it is left as it was, and nothing is acknowledged, or all up to a seqno that its last complete snapshot has, and up to which each prepare of level 3 that waits in its image counts as saved
pub data DueCame (states : States) (fv : Plain) (s : DialResult) (came : States × DialResult) : Type 0 where
  IsSilent : (is_streaming s.dial.consumer.handshake ≡ true → due (pending_prepares fv) (fork_of fv.position) fv.saved ≤ s.dial.consumer.acked) → came ≡ (states, s) → DueCame states fv s came
  IsAcked : (seq : ℕ) → due (pending_prepares fv) (fork_of fv.position) fv.saved ≡ seq → is_streaming s.dial.consumer.handshake ≡ true → seq < 2 ^ 64 → seq ≤ fork_of fv.position → SavesThirds (image_in fv) seq fv.saved → came ≡ (states, acknowledged_result seq s fv.saved) → DueCame states fv s came

-- a prepare of the list of those that wait
pub entry_waits : (es : List Entry) (e : Entry) → IsEntry e es → IsPending e.1 (map (λ x. x.1) es)
entry_waits [] e i = absurd i
entry_waits (x ∷ es) e i = ⊎_elim (λ s. inl (ap (λ (y : Entry). y.1) s)) (λ j. inr (entry_waits es e j)) i

-- a link that is over acknowledges nothing, nor one whose stream was not granted
pub due_none : (s : DialResult) → is_streaming s.dial.consumer.handshake ≡ false → due_requested s ≡ Done s
unfolding due_requested
due_none s e = ap (λ b. if b then Call s.dial.consumer.dialed.vb call.Due (λ reply. Done (due_met s (dues_of_reply reply))) else Done s) e

module _ (states : States) (fv : Plain) (s : DialResult) (known : states s.dial.consumer.dialed.vb ≡ Some fv) (follows : is_follower fv.role ≡ true) (sound : Sound fv) where
  abbrev v : ℕ
  v = s.dial.consumer.dialed.vb

  abbrev number : ℕ
  number = due (pending_prepares fv) (fork_of fv.position) fv.saved

  same : with_vb_at states v fv ≡ states
  same = λ i q. put_same states v fv known q i

  number_complete : number ≤ fork_of fv.position
  number_complete = due_complete (pending_prepares fv) (fork_of fv.position) fv.saved

  -- each prepare that waits at a key is one of those that are asked for
  number_thirds : SavesThirds (image_in fv) number fv.saved
  number_thirds key e is third low =
      let es : List Entry = finite.entries (image_in fv).pending in
      due_thirds (pending_prepares fv) (fork_of fv.position) fv.saved e (entry_waits es (key, e) (found_entry es key e (sym (finite.get-entries (image_in fv).pending key) ∙ is))) third low

  number_low : number < 2 ^ 64
  number_low =
      let a : number ≤ fork_of fv.position = number_complete in
      let b : fork_of fv.position ≤ fv.position.at = fork_low fv.position sound.within.0 in let c : fv.position.at ≤ fv.position.se = sound.within.1 in let d : fv.position.se ≤ 2 ^ 48 = sound.capped in
      omega arith

  asked_on : after (Call v call.Due (λ reply. Done (due_met s (dues_of_reply reply)))) states ≡ (states, due_met s (Some (number, fv.saved)))
  asked_on = ap (λ o. let y = call_at states v call.Due o in (y.0, due_met s (dues_of_reply y.1))) known
      ∙ ap (λ b. (with_vb_at states v fv, due_met s (dues_of_reply (Some (if b then quiet_reply (Dues number fv.saved) else refusal_reply NotMyVbucket))))) follows
      ∙ ap (λ st. (st, due_met s (Some (number, fv.saved)))) same

  met : (b : Bool) → may_acknowledge number s.dial.consumer ≡ b → is_streaming s.dial.consumer.handshake ≡ true
      → DueCame states fv s (states, if b then acknowledged_result number s fv.saved else s)
  met false e granted = DueCame.IsSilent (λ g. low_enough (nat_lt s.dial.consumer.acked number) refl (ap (λ b. b && nat_lt s.dial.consumer.acked number) (sym granted) ∙ e)) refl
    where
      low_enough : (b : Bool) → nat_lt s.dial.consumer.acked number ≡ b → b ≡ false → number ≤ s.dial.consumer.acked
      low_enough true t f = cc
      low_enough false t f = grind (arith, nat_tests, t)
  met true e granted = DueCame.IsAcked number refl granted number_low number_complete number_thirds refl

  asks_due : (b : Bool) → is_streaming s.dial.consumer.handshake ≡ b → DueCame states fv s (after (if b then Call v call.Due (λ reply. Done (due_met s (dues_of_reply reply))) else Done s) states)
  asks_due false e = DueCame.IsSilent (λ g. let z : true ≡ false = sym g ∙ e in cc) refl
  asks_due true e = subst (DueCame states fv s) (sym asked_on) (met (may_acknowledge number s.dial.consumer) refl e)

  pub due_came : DueCame states fv s (after (due_requested s) states)
  unfolding due_requested
  due_came = asks_due (is_streaming s.dial.consumer.handshake) refl

-- one that follows nobody acknowledges nothing
pub due_rests : (states : States) (fv : Plain) (s : DialResult) → states s.dial.consumer.dialed.vb ≡ Some fv → is_follower fv.role ≡ false → after (due_requested s) states ≡ (states, s)
unfolding due_requested
due_rests states fv s known rests = by (is_streaming s.dial.consumer.handshake)
  where
    v : ℕ
    v = s.dial.consumer.dialed.vb

    same : with_vb_at states v fv ≡ states
    same = λ i q. put_same states v fv known q i

    by : (b : Bool) → after (if b then Call v call.Due (λ reply. Done (due_met s (dues_of_reply reply))) else Done s) states ≡ (states, s)
    by false = refl
    by true = ap (λ o. let y = call_at states v call.Due o in (y.0, due_met s (dues_of_reply y.1))) known
        ∙ ap (λ b. (with_vb_at states v fv, due_met s (dues_of_reply (Some (if b then quiet_reply (Dues (due (pending_prepares fv) (fork_of fv.position) fv.saved) fv.saved) else refusal_reply NotMyVbucket))))) rests
        ∙ ap (λ st. (st, s)) same

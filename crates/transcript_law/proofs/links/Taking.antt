-- a vBucket that takes its branch over by a state active: all agrees behind the line of its role, and the link is an heir's
use Rattle.std.specs.Prelude.{◌≡◌, ◌≤◌, ◌∷◌, ◌++◌}
use Rattle.std.proofs.lemmas.List.{length-drop, take-append-drop}
use Rattle.transcript_law.proofs.Words.{ℕ, Bool, true, false, List, [], map, drop, take, length, refl, ap, sym, ◌∙◌, subst, arith, append-nil, append_assoc, Option, Some, None, Begun, Change, Event, Role, STATE_CHANGED, item_of_change}
use Rattle.transcript_law.proofs.Words.{Chronicle, Cluster, Member, Plain, PlainStream, Sound, StreamName, after_lines, after_role, link_number, row_put, stream_branch}
use Rattle.transcript_law.proofs.invariant.Agreement.{AgreesAt, AgreesIn, BegunAgrees, DiskIsIf, EndsStand, FeederIn, Handing, Heir, LinkAgrees, OpenYet, RestsIn, UpwardIs, VbAgrees, answers_in, consumer_seat, end_frames, end_reason, gives_in, items_frames, shelf_of, state_answer, state_frames, stated_in, vb_of}
use Rattle.transcript_law.proofs.invariant.{Carried.{one_but, one_here}, Carrying.{Changed, MemberChanged, RoleOf}, LinkRows.{put_twice}, OneLink.{carries_turned, disk_here, disk_there, put_ends, put_here, put_there, role_rests}, Owed.{Fewer}, Owing.{later_same}, Seats.{seat, seats_apart}, Trees.{IsTold}}
use Rattle.transcript_law.proofs.{answers.Awaited.{left_none}, disks.Disks.{sealed_disk}}
use Rattle.transcript_law.proofs.links.{Downing.{Asker, Line, busy_at, found_now, link_now, next_downs, now, put_vb, same_powers, same_shelves, vb_others, vb_put}, Handed.{heir_there}, Heirs.{risen_agrees}, Onward.{Kept, onward_all}, Pending.{answer_readable, none_coming, none_marked, queue_more}, Streaming.{Course}, Upgoing.{upward_answered}}
use Rattle.transcript_law.proofs.links.Owning as owning
use Rattle.transcript_law.proofs.links.Streaming as at_course
use Rattle.transcript_law.proofs.verbs.NodeLines.{role_row}
use Rattle.transcript_law.specs.StreamLaws.{IsWholeIf}
use Rattle.cluster_model.specs.Clusters.{risen as raised}
use Rattle.dcp_consumer.specs.States.{state_answered}
use Rattle.vb_calls.specs.Roles.{own_refusal, risen}
use Rattle.vbucket.proofs.{RowIs.{Inherits}, Soundness.{start_sound}}

-- ---- a stream that put all that it was to put

none_framed : (o vb : ℕ) (xs : List Change) → items_frames o vb xs ≡ [] → xs ≡ []
none_framed o vb [] e = refl
none_framed o vb (x ∷ xs) e = cc

none_dropped : {A : Type 0} (n : ℕ) (xs : List A) → drop n xs ≡ [] → length xs ≤ n
none_dropped n xs e = let left = length-drop n xs in let none : length (drop n xs) ≡ 0 = ap length e in omega (arith, left, none)

all_took : {A : Type 0} (n : ℕ) (xs : List A) → drop n xs ≡ [] → take n xs ≡ xs
all_took n xs e = sym (append-nil (take n xs)) ∙ ap (λ ys. take n xs ++ ys) (sym e) ∙ take-append-drop n xs

-- the last snapshot that it began is whole
whole_begun : (begun : Option Begun) (stream : PlainStream) → drop stream.next stream.items ≡ [] → BegunAgrees begun stream → IsWholeIf begun
whole_begun None stream none a = tt
whole_begun (Some b) stream none a = record {
  whole = stream.items;
  covers = a.0;
  front = ap (map item_of_change) (sym (all_took stream.next stream.items none)) ∙ sym a.1 ∙ sym (append-nil b.items);
}

-- the frame of its end, which a change of role ended where it was put
ended_frames : (o vb : ℕ) (ended over : Bool) → (over ≡ true → ended ≡ true) → end_frames o vb STATE_CHANGED over ≡ end_frames o vb (end_reason ended) over
ended_frames o vb ended false so = refl
ended_frames o vb ended true so = ap (λ b. end_frames o vb (end_reason b) true) (sym (so refl))

module _ (line : Line) (course : Course line) (is : course.streaming.serving.handing ≡ Handing.Stated) (all : course.streaming.seen ≡ at_course.last line course) (none : (at_course.kn line course).coming ≡ Some []) (empty : course.streaming.feed.flight ≡ [])
    (e : state_frames course.at.asked line.link.consumer.dialed.vb Handing.Stated ++ end_frames course.at.asked line.link.consumer.dialed.vb STATE_CHANGED course.streaming.granted_is.over ≡ course.f ∷ (at_course.more line course ++ course.streaming.unput))
    (free : own_refusal (at_course.mine line course).follower ≡ None) where
  open line use {w, r, link}
  open line.link.consumer.dialed use {node as n, vb as v, link as l}
  open line.link.server.desk use {node as p}
  open course use {before.{f, rest, states, at, events, going, at.{asked as o}, going.{cluster as c}}, streaming, streaming.{feed, granted_is.{over}}}

  abbrev k : ℕ
  k = consumer_seat link

  abbrev told : Chronicle
  told = after_lines r events

  abbrev mine : LinkAgrees (now line states at) told c (link_now line at) [] (f ∷ rest)
  mine = at_course.mine line course

  open mine use {follower as fv}

  abbrev kn : Member
  kn = c.nodes k

  vb : VbAgrees told n v kn fv
  vb = at_course.vb line course

  abbrev u : ℕ
  u = stream_branch streaming.granted_is

  abbrev pub owned_at : Asker
  owned_at = owning.owned_at line course

  abbrev pub vb1 : Plain
  vb1 = risen fv

  abbrev pub states1 : Kept
  states1 = put_vb states v vb1

  abbrev pub tell : Event
  tell = Event.Role n v Role.Active

  abbrev pub told1 : Chronicle
  told1 = after_role told n v Role.Active

  abbrev pub c1 : Cluster
  c1 = owning.risen_cluster line course is all none empty e free

  -- the vBucket, its member and its disk

  pub sound1 : Sound vb1
  sound1 = start_sound fv (Inherits free) vb.sound tt

  told_there : IsTold told.tree kn.br
  told_there = subst (IsTold told.tree) (sym (owning.branch_is line course is all none empty e)) (subst (λ t. IsTold t u) (sym (onward_all r events going.onward.lines).tree) (owning.freed line course is all none empty e).is_told)

  here1 : VbAgrees told1 n v (c1.nodes k) vb1
  here1 = subst (λ m. VbAgrees told1 n v m vb1) (sym (put_here c.nodes k (raised kn)))
      (risen_agrees told n v kn fv vb (owning.complete line course is all none empty e free) sound1 (owning.on_it line course is all none empty e ∙ ap Some (sym (owning.branch_is line course is all none empty e))) told_there
      (λ q. (owning.freed line course is all none empty e).named (sym (owning.branch_is line course is all none empty e) ∙ q)))

  disk1 : DiskIsIf (told1.disk_at n v) (c1.disks k) (shelf_of (now line states1 owned_at) n v) (Some vb1)
  disk1 = subst (λ d. DiskIsIf (told.disk_at n v) d (shelf_of (now line states1 owned_at) n v) (Some vb1)) (sym (disk_here c.disks k (c.disks k)))
      (subst (λ y. DiskIsIf (told.disk_at n v) (c.disks k) y (Some vb1)) (sym (same_shelves line states1 states refl n v))
      (sealed_disk (told.disk_at n v) (c.disks k) (shelf_of (now line states at) n v) fv vb1 refl (subst (DiskIsIf (told.disk_at n v) (c.disks k) (shelf_of (now line states at) n v)) mine.follower_is (going.agrees.disks n v))))

  member1 : MemberChanged k c c1
  member1 = record { tree = refl; others = λ j ne. put_there c.nodes k (raised kn) j ne; disks = λ j ne. disk_there c.disks k (c.disks k) j ne }

  others1 : (m q : ℕ) → (m ≡ n → q ≡ v → ⊥) → AgreesAt told1 m q (c1.nodes (seat m q)) (vb_of (now line states at) m q)
  others1 m q other = subst (λ x. AgreesAt told1 m q x (vb_of (now line states at) m q)) (sym (put_there c.nodes k (raised kn) (seat m q) (seats_apart m q n v other)))
      (heir_there told n v u m q (c.nodes (seat m q)) (vb_of (now line states at) m q) other (owning.on_it line course is all none empty e) ((onward_all r events going.onward.lines).writers u ∙ (owning.freed line course is all none empty e).free) (going.agrees.vbs m q))

  -- what it owes its clients: nothing
  fewer1 : Fewer (Some fv) (Some vb1)
  fewer1 x q owing = absurd (owing.0 (left_none fv 0 x vb.sound owing.1.among))

  role_of : RoleOf l n v told told1
  role_of = record {
    beside = record { rows = role_row told n v Role.Active; dials = λ j ne. refl; streams = λ j q ne other. refl; states = λ j ne. refl; points = λ j ne other. refl };
    last = later_same _ _ refl refl;
    tree = refl;
    clients = λ m d. refl;
  }

  changed1 : Changed (now line states at) (now line states1 owned_at) n v vb1 (row_put link_number l (link_now line owned_at) (now line states at).links)
  changed1 = record {
    powers = same_powers line states states1;
    here = vb_put line states states.1 owned_at vb1;
    there = vb_others line states states.1 at owned_at vb1;
    shelves = λ m q other. same_shelves line states1 states refl m q;
    uuids = refl;
    linked = sym (put_twice l w.links (link_now line at) (link_now line owned_at) refl);
  }

  rests1 : RestsIn (now line states1 owned_at) told1 c1
  rests1 = role_rests (busy_at line (f ∷ rest)) (now line states at) (now line states1 owned_at) told told1 c c1 l (link_now line at) fv vb1 (row_put link_number l (link_now line owned_at) (now line states at).links)
      going.agrees (found_now line states at) mine.follower_is (at_course.follows line course) changed1 role_of.beside others1 member1 here1 disk1 (λ m. refl) refl
      (put_ends (busy_at line (f ∷ rest)) (now line states at) (now line states1 owned_at) told c l (link_now line at) (link_now line owned_at) going.agrees (found_now line states at) (record { dialed = refl; desk = refl }) changed1.powers changed1.linked)

  -- the link

  none_unput : drop streaming.stream.next streaming.stream.items ≡ []
  none_unput = none_framed o v (drop streaming.stream.next streaming.stream.items) (sym streaming.unput_is ∙ owning.all_put line course is all none empty e)

  takes : link.consumer.dialed.takeover ≡ true
  takes = owning.takes line course is all none empty e

  -- the stream is open at the vBucket that was given up
  opens_yet : streaming.stream.ended ≡ false → OpenYet streaming.stream.id (vb_of (now line states1 owned_at) p v)
  opens_yet q =
      let y = streaming.streams.opens q in
      record {
        producer = y.producer;
        producer_is = vb_others line states states.1 at owned_at vb1 p v (λ t s. streaming.apart t) ∙ y.producer_is;
        dead = (subst (λ h. FeederIn h y.producer.role (c.nodes (seat p v)) feed.given) is y.active).dead;
        opened = (y.opened.0, y.opened.1);
      }

  heir : Heir (vb_of (now line states1 owned_at) p v) (told.stream_of (StreamName.Link l) v) link.server (link_now line owned_at).consumer (mine.talk.asked ++ state_answer o ∷ []) (at_course.more line course)
  heir = record {
    granted_is = streaming.granted_is;
    told = streaming.told;
    stream = streaming.stream;
    stream_is = streaming.stream_is;
    vb_is = streaming.streams.vb_is;
    opaque_is = streaming.streams.opaque_is;
    numbered = streaming.numbered;
    apart = streaming.apart;
    whole = none_dropped streaming.stream.next streaming.stream.items none_unput;
    last = whole_begun streaming.granted_is.last streaming.stream none_unput streaming.streams.last;
    server = streaming.server;
    answered = false;
    gives_is = streaming.gives_is ∙ ap (gives_in link.consumer.dialed.takeover) is;
    for_takeover = takes;
    flag_is = streaming.flag_is takes;
    owns = refl;
    granted = at_course.granted_now line course all;
    small = streaming.consumer.small;
    acks = upward_answered streaming.granted_is.wrote o v [] mine.talk.asked (subst (λ fs. UpwardIs streaming.granted_is.wrote o v fs mine.talk.asked) (ap (answers_in o) is) streaming.serving.acks);
    over_done = λ q none_yet. let z : true ≡ false = sym (streaming.streams.over_ended q) ∙ none_yet in cc;
    opens = λ q t. opens_yet q;
    none_marked = none_marked line course empty;
    none_coming = none_coming line course none empty;
    end_is = owning.left_is line course is all none empty e ∙ ended_frames o v streaming.stream.ended over streaming.streams.over_ended;
  }

  link1 : LinkAgrees (now line states1 owned_at) told1 c1 (link_now line owned_at) [] rest
  link1 = record {
    follower = vb1;
    follower_is = vb_put line states states.1 owned_at vb1;
    follows = refl;
    dial = mine.dial;
    acks = mine.acks;
    talk = record {
      asked = mine.talk.asked ++ state_answer o ∷ [];
      said = rest ++ mine.talk.downs.behind;
      stands = EndsStand.IsHeir heir (course.stated ∙ ap stated_in is);
      ups = queue_more link.up_heard (link.up ++ at.out) (link.up ++ owned_at.out) mine.talk.asked (state_answer o) (sym (append_assoc link.up at.out (state_answered o))) (answer_readable o streaming.consumer.small) mine.talk.ups;
      downs = next_downs line at owned_at f rest mine.talk.said mine.talk.downs;
    };
  }

  -- all agrees
  pub taken_over : AgreesIn (busy_at line rest) (now line states1 owned_at) told1 c1
  taken_over = carries_turned (busy_at line (f ∷ rest)) (busy_at line rest) (now line states at) (now line states1 owned_at) told told1 c c1 l (link_now line at) (link_now line owned_at) fv vb1
      going.agrees (found_now line states at) (record { dialed = refl; desk = refl }) mine.follower_is (at_course.follows line course) fewer1 changed1 (λ q id has. has) role_of others1 member1
      (owning.risen_sound line course is all none empty e free) (one_but l ([], f ∷ rest) ([], rest)) here1 disk1 rests1
      (subst (λ b. LinkAgrees (now line states1 owned_at) told1 c1 (link_now line owned_at) b.0 b.1) (sym (one_here l ([], rest))) link1)

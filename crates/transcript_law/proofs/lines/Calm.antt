-- lines that tell of no arm, and of no rollback but where a link's bytes are taken: those of connections, links and streams, whatever the replies of vBuckets and journals
use Rattle.std.specs.Prelude.{◌≡◌, ◌∷◌, ◌++◌, if◌then◌else◌}
use Rattle.transcript_law.proofs.Words.{ℕ, Bool, true, false, List, [], refl, ap, ◌∙◌, take, map, Told, Answer, Cause, flat_map, filter-append, Option, Some, None, Event, EndReason, VbCall, Frame, FrameFault, States, after, front_fault, frames_in, with_states, LogEntry, StreamAsk, VbAnswer, VbReply, PlainLink, PlainNode}
use Rattle.transcript_law.proofs.Words.{peer_of, dial_of, moved_len, up_at, pump_at, bytes_at, bytes_if, StreamName}
use Rattle.dcp_consumer.specs.declared.handshake.Dialed.{Dialed}
use Rattle.node_core.specs.Flushing.{FlushResult}
use Rattle.node_core.specs.Peers.{PeerResult, PlainPeer, peer_answered, peer_frames, peer_heard}
use Rattle.node_core.proofs.Dues.{due_always}
use Rattle.node_core.specs.Dials.{DialResult, PlainDial, acknowledged_line, adopt_result, again_result, bytes_counted, with_last_line, requested_once_more, bytes_taken, call_made, dial_due, dial_bytes, due_requested, with_end_line, fault_met, follower_ask, frame_taken, frames_taken, go_on_with, got_line, granted_with, heir_told, is_broken, is_done, is_done_answer, is_over, is_pending, message_result, noted_for, own_result, owned, pended, role_line, state_made, state_met, with_line, over_for, passive_made, rest_met as dial_met, roll_back, rolled_back, step_made, taken_as, untold, with_consumer}
use Rattle.node_core.specs.Dials.{with_left as with_heard}
use Rattle.dcp_consumer.specs.Machine.{consumer_step, over_why}
use Rattle.dcp_consumer.specs.Counting.{bytes_acknowledged, counted_bytes}
use Rattle.dcp_consumer.specs.declared.handshake.ConsumerStep.{ConsumerStep}
use Rattle.dcp_consumer.specs.declared.handshake.ConsumerStep.TheVariants as step
use Rattle.dcp_consumer.specs.declared.passive_stream.Passive.{Passive}
use Rattle.dcp_consumer.specs.declared.passive_stream.Passive.TheVariants as passive
use Rattle.node_world.specs.{Arms.{placed}, Links.{frame_up, frames_up, frame_posted, untold_peer}, Nodes.{all_posted, with_posts}, World.{down_in}}
use Rattle.transcript_law.proofs.lines.ClientLines.{AllKept, AreOfClients, bytes_of_clients, posts_kept, posts_of_clients}
use Rattle.node_core.specs.Clients.{PlainClient}
use Rattle.vb_calls.specs.declared.calls.Resolved.{Resolved}
use Rattle.vb_calls.specs.declared.calls.VbAnswer.TheVariants as answer
use Rattle.vb_calls.specs.declared.journals.Rolled.{Rolled}
use Rattle.vb_calls.specs.declared.journals.Rolled.TheVariants as rolled
use Rattle.takeover.specs.declared.take_over.TakeStep.{TakeStep}
use Rattle.takeover.specs.declared.take_over.TakeStep.TheVariants.{Pend, Own}
use Rattle.vb_types.specs.declared.change.Change.{Change}
use Rattle.vb_types.specs.declared.role.Role.{Role}
use Rattle.vb_types.specs.declared.role.Role.TheVariants as role
use Rattle.vb_calls.specs.declared.calls.VbCall.TheVariants as call
use Rattle.vb_calls.specs.declared.journals.Wrote.{Wrote}
use Rattle.vb_calls.specs.declared.journals.Wrote.TheVariants as wrote
use Rattle.vb_calls.specs.Flushes.{role_job, roll_job}
use Rattle.vb_calls.specs.Jobs.{AlwaysJob, Job, Ended, Call as AsksCall, Request, each_job, lift}
use Rattle.vb_calls.specs.Programs.{Always, AnyCall, AnyReply}
use Rattle.vb_calls.specs.Shelves.{Ask}
use Rattle.vb_calls.proofs.{Conduct.{after_always}, JobConduct.{after_job_always, always_bind_job, always_each_job, always_lift}}
use Rattle.transcript_law.specs.Firings.{FiresAsSaid, beside_rollbacks, is_mishap, is_other, mishaps}
use Rattle.transcript_law.proofs.lines.{Answering.{Asks, Tells, peer_so}, Pulling.{Takes as TakesFrames, pulled_so}}
use Rattle.dcp_producer.specs.declared.desk.Desk.{Desk}

-- no line tells of an arm, or of a rollback
abbrev pub Calm : List Event → Type 0
Calm lines = mishaps lines ≡ []

-- nor does the answer
abbrev pub Spared : Told → Type 0
Spared told = FiresAsSaid None told.events told.answer

-- so its lines tell of none
pub spared_calm : (told : Told) → Spared told → Calm told.events
spared_calm told s = by told.answer s
  where
    by : (said : Answer) → FiresAsSaid None told.events said → Calm told.events
    by (Answer.No Cause.Disk) x = absurd x
    by (Answer.No Cause.Stopped) x = absurd x
    by other x = x

pub calm_more : (lines more : List Event) → Calm lines → Calm more → Calm (lines ++ more)
calm_more lines more c m = filter-append is_mishap lines more ∙ (λ i. c i ++ m i)

-- one that tells of an arm, among others
pub fires_once : (lines : List Event) (line : Event) (more : List Event) → Calm lines → is_mishap line ≡ true → Calm more → mishaps (lines ++ line ∷ more) ≡ line ∷ []
fires_once lines line more calm is rest = filter-append is_mishap lines (line ∷ more) ∙ (λ i. calm i ++ (if is i then line ∷ rest i else rest i))

some_is_not_none : (line : Event) (lines : List Event) → line ∷ lines ≡ [] → ⊥
some_is_not_none line lines e = cc

pub calm_map : {A : Type 0} (f : A → Event) (xs : List A) → ((x : A) → is_mishap (f x) ≡ false) → Calm (map f xs)
calm_map f [] none = refl
calm_map f (x ∷ xs) none = ap (λ b. if b then f x ∷ mishaps (map f xs) else mishaps (map f xs)) (none x) ∙ calm_map f xs none

pub calm_each : {A : Type 0} (f : A → List Event) (xs : List A) → ((x : A) → Calm (f x)) → Calm (flat_map f xs)
calm_each f [] none = refl
calm_each f (x ∷ xs) none = calm_more (f x) (flat_map f xs) (none x) (calm_each f xs none)

-- beside rollbacks no line tells of an arm
abbrev pub Still : List Event → Type 0
Still lines = Calm (beside_rollbacks lines)

pub still_more : (lines more : List Event) → Still lines → Still more → Still (lines ++ more)
still_more lines more c m = ap mishaps (filter-append is_other lines more) ∙ calm_more (beside_rollbacks lines) (beside_rollbacks more) c m

pub calm_still : (lines : List Event) → Calm lines → Still lines
calm_still [] c = refl
calm_still (Event.CallFailed n ∷ lines) c = absurd (some_is_not_none (Event.CallFailed n) (mishaps lines) c)
calm_still (Event.NodeStopped n ∷ lines) c = absurd (some_is_not_none (Event.NodeStopped n) (mishaps lines) c)
calm_still (Event.Rolled n v named to ∷ lines) c = absurd (some_is_not_none (Event.Rolled n v named to) (mishaps lines) c)
calm_still (other ∷ lines) c = calm_still lines c

-- one that tells of an arm, among others
pub still_once : (lines : List Event) (line : Event) (more : List Event) → Still lines → is_mishap line ≡ true → is_other line ≡ true → Still more → mishaps (beside_rollbacks (lines ++ line ∷ more)) ≡ line ∷ []
still_once lines line more still is other rest =
    ap mishaps (filter-append is_other lines (line ∷ more)) ∙ ap (λ b. mishaps (beside_rollbacks lines ++ (if b then line ∷ beside_rollbacks more else beside_rollbacks more))) other
    ∙ fires_once (beside_rollbacks lines) line (beside_rollbacks more) still is rest

-- one of two
pub either : {A : Type 0} (P : A → Type 0) (b : Bool) (x y : A) → P x → P y → P (if b then x else y)
either P true x y px py = px
either P false x y px py = py

-- ---- a client's connection

-- lines of clients tell of none
pub clients_calm : (lines : List Event) → AreOfClients lines → Calm lines
clients_calm [] c = refl
clients_calm (Event.Changed n v uuid change ∷ lines) c = clients_calm lines c.1
clients_calm (Event.Reply n k bytes ∷ lines) c = clients_calm lines c.1
clients_calm (Event.Closed n k ∷ lines) c = clients_calm lines c.1
clients_calm (Event.Asked (StreamName.Client m k) n v ask high log said ∷ lines) c = clients_calm lines c.1
clients_calm (other ∷ lines) c = absurd c.0

pub bytes_calm : (n c : ℕ) (bytes : List ℕ) (node : PlainNode) → AllKept n node → Spared (bytes_at c bytes node).1
bytes_calm n c bytes node kept = by (node.clients c) (bytes_of_clients n c bytes node kept)
  where
    by : (o : Option PlainClient) → AreOfClients (bytes_if c bytes node o).1.events → Spared (bytes_if c bytes node o).1
    by None a = refl
    by (Some client) a = clients_calm (bytes_if c bytes node (Some client)).1.events a

-- nor do those of outcomes that are posted
pub all_posts_calm : (n : ℕ) (rs : List Resolved) (node : PlainNode) → AllKept n node → Calm (all_posted rs node).1
all_posts_calm n rs node kept = clients_calm (all_posted rs node).1 (posts_of_clients n rs node kept)

pub posts_calm : (n : ℕ) (told : FlushResult) (node : PlainNode) → AllKept n node → Calm told.events → Calm (with_posts told node).1.events
posts_calm n told node kept c = calm_more told.events (all_posted told.resolved node).1 c (all_posts_calm n told.resolved node kept)

pub posts_spared : (n : ℕ) (told : FlushResult) (node : PlainNode) → AllKept n node → FiresAsSaid None told.events told.answer → Spared (with_posts told node).1
posts_spared n told node kept s = by told.answer s
  where
    by : (said : Answer) → FiresAsSaid None told.events said → FiresAsSaid None (told.events ++ (all_posted told.resolved node).1) said
    by (Answer.No Cause.Disk) x = absurd x
    by (Answer.No Cause.Stopped) x = absurd x
    by other x = posts_calm n told node kept x

-- ---- a producer

-- any call
abbrev pub AnyKind : VbCall → Type 0
AnyKind call = Unit {0}

-- whatever it asks for as it answers, and for the next frame of a stream
pub asks_any : Asks AnyKind
asks_any = record { opens = λ id ask sync. tt; closes = λ id. tt; counts = λ member seq. tt; logs = tt }

pub takes_any : TakesFrames AnyKind
takes_any = record { places = λ id. tt; takes = λ id. tt; closes = λ id. tt }

tells_calm : (d : Desk) → Tells Calm d
tells_calm d = record { more = calm_more; asked = λ v ask high log said. refl; counted = λ link v member seq uuid changes. calm_map (Event.Changed d.node v uuid) changes (λ x. refl) }

-- one frame, and the outcomes that are posted with it
asked_calm : (n : ℕ) (f : Frame) (peer : PlainPeer) (node : PlainNode) → AllKept n node → Calm (frame_posted f peer node).1.events
asked_calm n f peer node kept =
    let x = after (peer_answered f peer) node.vbs in
    calm_more x.1.events (all_posted x.1.resolved (with_states node x.0)).1 (peer_so AnyKind Calm peer.producer.desk asks_any (tells_calm peer.producer.desk) f peer node.vbs refl refl).0
    (all_posts_calm n x.1.resolved (with_states node x.0) kept)

frames_calm : (n : ℕ) (fs : List Frame) (came : PlainNode × PeerResult) → AllKept n came.0 → Calm came.1.events → Calm (frames_up fs came).1.events
frames_calm n [] came kept c = c
frames_calm n (f ∷ fs) came kept c =
    let x = after (peer_answered f came.1.peer) came.0.vbs in
    frames_calm n fs (frame_up f came) (posts_kept n x.1.resolved (with_states came.0 x.0) kept) (calm_more came.1.events (frame_posted f came.1.peer came.0).1.events c (asked_calm n f came.1.peer came.0 kept))

pub up_calm : (n wanted : ℕ) (link : PlainLink) (node : PlainNode) → AllKept n node → Spared (up_at wanted link node).1.1
up_calm n wanted link node kept =
    let piece : List ℕ = take (moved_len wanted link.up) link.up in
    frames_calm n (peer_frames piece (peer_of link)) (node, untold_peer (peer_heard piece (peer_of link))) kept refl

-- ---- what it puts

pub pump_calm : (frames : ℕ) (link : PlainLink) (node : PlainNode) → Spared (pump_at frames link node).1.1
pump_calm frames link node = pulled_so AnyKind (λ name line. Calm (line ∷ [])) takes_any (record { items = λ name c. refl; markers = λ name start end flags. refl; ends = λ name reason. refl; states = λ name told. refl })
    Calm link.server.desk (λ lines line is c. calm_more lines (line ∷ []) c is) (λ t. FiresAsSaid None t.events t.answer) (λ heard put c. c) frames (peer_of link) node.vbs node.shelves refl refl

-- ---- a consumer

abbrev Dial : DialResult → Type 0
Dial s = Still s.events

abbrev pub AnyAsk : ℕ → Ask → Type 0
AnyAsk v ask = Unit {0}

abbrev Takes : Job DialResult → Type 0
Takes job = AlwaysJob AnyReply AnyCall AnyAsk Dial job

-- of a job nothing need be known
pub any_job : {A : Type 0} (job : Job A) → AlwaysJob AnyReply AnyCall AnyAsk (λ a. Unit {0}) job
any_job (Ended a) = tt
any_job (AsksCall v call next) = (tt, λ reply any. any_job (next reply))
any_job (Request v ask next) = (tt, λ got. any_job (next got))

-- what a dial does at a state keeps what its lines, its answer and its end keep
module _ (P : DialResult → Type 0)
    (role_keeps : (s : DialResult) (new : Role) → P s → P (with_line s (role_line s.dial.consumer.dialed new)))
    (changes_keep : (s : DialResult) (uuid : ℕ) (changes : List Change) → P s → P (record s { events = s.events ++ map (Event.Changed s.dial.consumer.dialed.node s.dial.consumer.dialed.vb uuid) changes }))
    (answer_keeps : (s : DialResult) (opaque : ℕ) → P s → P (state_met opaque s))
    (protocol_keeps : (s : DialResult) → P s → P (over_for EndReason.Protocol s)) (disk_keeps : (s : DialResult) → P s → P (over_for EndReason.Disk s)) where
  pend_by : (opaque : ℕ) (s : DialResult) → P s → (before b : Bool) → P (if b then state_met opaque (if before then s else with_line s (role_line s.dial.consumer.dialed role.Pending)) else over_for EndReason.Protocol s)
  pend_by opaque s p true true = answer_keeps s opaque p
  pend_by opaque s p false true = answer_keeps (with_line s (role_line s.dial.consumer.dialed role.Pending)) opaque (role_keeps s role.Pending p)
  pend_by opaque s p before false = protocol_keeps s p

  noted_by : (came : Wrote) (s : DialResult) → P s → P (noted_for came s)
  noted_by wrote.Stood s p = p
  noted_by wrote.NotAsked s p = p
  noted_by wrote.Closed s p = disk_keeps s p
  noted_by wrote.DiskFailed s p = disk_keeps s p

  own_by : (opaque : ℕ) (s : DialResult) (reply : VbReply) (came : Wrote) → P s → (b : Bool) → P (if b then noted_for came (state_met opaque (heir_told reply s)) else over_for EndReason.Protocol s)
  own_by opaque s reply came p true =
      noted_by came (state_met opaque (heir_told reply s)) (answer_keeps (heir_told reply s) opaque (changes_keep (with_line s (role_line s.dial.consumer.dialed role.Active)) reply.branch reply.changes (role_keeps s role.Active p)))
  own_by opaque s reply came p false = protocol_keeps s p

  own_is : (opaque : ℕ) (s : DialResult) (reply : Option VbReply) (came : Wrote) → P s → P (own_result opaque s reply came)
  own_is opaque s None came p = protocol_keeps s p
  own_is opaque s (Some reply) came p = own_by opaque s reply came p (is_done_answer reply.answer)

  pub state_always : (take : TakeStep) (opaque : ℕ) (s : DialResult) → P s → AlwaysJob AnyReply AnyCall AnyAsk P (state_made take opaque s)
  unfolding pended owned
  state_always Pend opaque s p = (tt, λ shown any. (tt, λ reply any. pend_by opaque s p (is_pending shown) (is_done reply)))
  state_always Own opaque s p =
      always_bind_job AnyReply AnyCall AnyAsk (λ (made : Option VbReply × Wrote). Unit {0}) P (role_job s.dial.consumer.dialed.vb call.Own) (λ made. Ended (own_result opaque s made.0 made.1))
      (any_job (role_job s.dial.consumer.dialed.vb call.Own)) (λ made any. own_is opaque s made.0 made.1 p)

-- what it acknowledges, where no line of that matters
module _ (P : List Event → Type 0) (acks : (lines : List Event) (d : Dialed) (seq saved : ℕ) → P lines → P (lines ++ acknowledged_line d seq saved ∷ [])) where
  pub due_keeps : (s : DialResult) → P s.events → Always AnyCall (λ (t : DialResult). P t.events) (due_requested s)
  due_keeps s p = due_always (λ (t : DialResult). P t.events) s (λ seq saved. acks s.events s.dial.consumer.dialed seq saved p) p AnyCall tt

due_calm : (s : DialResult) → Dial s → Always AnyCall Dial (due_requested s)
due_calm s c = due_keeps Still (λ lines d seq saved still. still_more lines (acknowledged_line d seq saved ∷ []) still refl) s c

-- once more is written down
pub dial_due_calm : (dial : PlainDial) (states : States) → Calm (after (dial_due dial) states).1.events
dial_due_calm dial states = after_always AnyCall (λ (t : DialResult). Calm t.events) (dial_due dial) states
    (due_keeps Calm (λ lines d seq saved calm. calm_more lines (acknowledged_line d seq saved ∷ []) calm refl) (untold dial) refl)

adopted_calm : (log : List LogEntry) (s : DialResult) → Dial s → Always AnyCall Dial (go_on_with log s)
unfolding go_on_with
adopted_calm log s c = (tt, λ reply any. due_calm (adopt_result log s reply) (either Dial (is_done reply) (granted_with log s) (over_for EndReason.Protocol s) (still_more s.events _ c refl) c))

again_calm : (s : DialResult) → Dial s → Always AnyCall Dial (requested_once_more s)
again_calm s c = (tt, λ reply any. by (follower_ask reply))
  where
    by : (o : Option StreamAsk) → Dial (again_result s o)
    by None = c
    by (Some ask) = c

back_calm : (point : ℕ) (s : DialResult) → Dial s → Takes (roll_back point s)
unfolding roll_back
back_calm point s c = always_bind_job AnyReply AnyCall AnyAsk (λ came. Unit {0}) Dial (roll_job s.dial.consumer.dialed.vb point) (λ came. lift (rolled_back point s came)) (any_job (roll_job s.dial.consumer.dialed.vb point))
    (λ came any. always_lift AnyReply AnyCall AnyAsk Dial (rolled_back point s came) (by came))
  where
    by : (came : Rolled) → Always AnyCall Dial (rolled_back point s came)
    by (rolled.To to) = again_calm _ (still_more s.events _ c refl)
    by (rolled.Refused st) = c
    by rolled.Closed = c
    by rolled.DiskFailed = c
    by (rolled.Damaged place) = c

passive_calm : (p : Passive) (s : DialResult) → Dial s → Always AnyCall Dial (passive_made p s)
unfolding call_made
passive_calm (passive.Call x) s c = (tt, λ reply any. due_calm (message_result s reply) (by reply))
  where
    taken : (reply : VbReply) (a : VbAnswer) → Dial (taken_as reply s a)
    taken reply (answer.Range ss se) = still_more s.events _ c refl
    taken reply answer.Done = still_more s.events _ c (calm_still (map (got_line s.dial.consumer.dialed) reply.changes) (calm_map (got_line s.dial.consumer.dialed) reply.changes (λ y. refl)))
    taken reply other = c

    by : (reply : Option VbReply) → Dial (message_result s reply)
    by None = c
    by (Some reply) = taken reply reply.answer
passive_calm other s c = c

step_calm : (t : ConsumerStep) (s : DialResult) → Dial s → Takes (step_made t s)
step_calm (step.Adopt log) s c = always_lift AnyReply AnyCall AnyAsk Dial (go_on_with log s) (adopted_calm log s c)
step_calm (step.Roll point) s c = back_calm point s c
step_calm (step.Passive p) s c = always_lift AnyReply AnyCall AnyAsk Dial (passive_made p s) (passive_calm p s c)
step_calm (step.State take opaque) s c = state_always Dial (λ s new c. still_more s.events _ c refl)
    (λ s uuid changes c. let d = s.dial.consumer.dialed in still_more s.events _ c (calm_still (map (Event.Changed d.node d.vb uuid) changes) (calm_map (Event.Changed d.node d.vb uuid) changes (λ x. refl)))) (λ s opaque c. c) (λ s c. c) (λ s c. c) take opaque s c
step_calm other s c = c

taken_calm : (f : Frame) (s : DialResult) → Dial s → Takes (frame_taken f s)
unfolding frame_taken
taken_calm f s c = step_calm (consumer_step s.dial.consumer f).1 (with_consumer s (consumer_step s.dial.consumer f).0) c

written_calm : (frames : List Frame) (s : DialResult) → Dial s → Dial (bytes_counted frames s)
unfolding bytes_counted
written_calm frames s c = by _
  where
    by : (b : Bool) → Dial (if b then s else record s { out = s.out ++ bytes_acknowledged (counted_bytes frames) s.dial.consumer })
    by true = c
    by false = c

met_calm : (frames : List Frame) (s : DialResult) → Dial s → Takes (dial_met frames s)
met_calm frames s c =
    let t : DialResult = fault_met (front_fault s.dial.heard) s in last (bytes_counted frames t) (written_calm frames t (fault (front_fault s.dial.heard)))
  where
    fault : (o : Option FrameFault) → Dial (fault_met o s)
    fault None = c
    fault (Some x) = either Dial (is_over s.dial) s (over_for EndReason.Protocol s) c c

    last : (t : DialResult) → Dial t → Dial (with_last_line t)
    last t d = by (over_why t.dial.consumer.handshake)
      where
        by : (o : Option EndReason) → Dial (with_end_line o t)
        by None = d
        by (Some why) = either Dial (is_broken (Some why)) t _ d (still_more t.events _ d refl)

dial_calm : (piece : List ℕ) (dial : PlainDial) → Takes (dial_bytes piece dial)
unfolding bytes_taken frames_taken
dial_calm piece dial =
    let bytes : List ℕ = dial.heard ++ piece in let s : DialResult = with_heard (untold dial) bytes in
    always_bind_job AnyReply AnyCall AnyAsk Dial Dial (each_job frame_taken (frames_in bytes) s) (dial_met (frames_in bytes)) (always_each_job AnyReply AnyCall AnyAsk Dial frame_taken taken_calm (frames_in bytes) (Ended s) refl) (met_calm (frames_in bytes))

pub down_calm : (wanted : ℕ) (link : PlainLink) (node : PlainNode) → Still (down_in wanted link node).1.1.events
down_calm wanted link node =
    let at : PlainNode = placed link.consumer.dialed.vb node in
    after_job_always AnyCall AnyAsk Dial (dial_bytes (take (moved_len wanted link.down) link.down) (dial_of link)) at.vbs at.shelves (dial_calm (take (moved_len wanted link.down) link.down) (dial_of link))

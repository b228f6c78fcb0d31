-- the calls of clients, of a producer, of an operator and of writing down are such that a vBucket stays sound at them, whatever is replied
use Rattle.std.specs.Prelude.{◌≡◌, ◌<◌, ◌^◌, ◌==◌, ◌&&◌, if◌then◌else◌, nat_le, nat_lt}
use Rattle.transcript_law.proofs.Words.{ℕ, Bool, true, false, Option, Some, None, Result, Ok, Err, Frame, KvRequest, RESPONSE, Status, PlainStream, PlainProducer, AdminCall, VbCall, VbReply, Prog, Call, Done, bind, Job, Ended, bind_job}
use Rattle.transcript_law.proofs.Words.{request_handled, frame_handled, frame_answered, frames_put, end_closed, streams_closed, peer_pulled}
use Rattle.client_session.proofs.{Conduct.{either}, Keeping.{front_of}}
use Rattle.client_session.specs.Serving.{MOST_DURABLE, Served as Session, deadline_of, durable_called, frame_answered as served_by, handed, is_dcp, next_waiter, refused}
use Rattle.dcp_producer.specs.Producers.{Served, begun}
use Rattle.durability.specs.Chains.{is_chain, Links}
use Rattle.mcbp_kv.specs.Requests.{request_of}
use Rattle.mcbp_kv.specs.declared.request.KvRequest.TheVariants as request
use Rattle.node_core.proofs.Handlings.{fed_keeps, posted_keeps}
use Rattle.node_core.specs.Admin.{admin_job, role_noted}
use Rattle.node_core.specs.Clients.{Handling, PlainClient, client_fed, client_posted, client_pull, client_pulled}
use Rattle.node_core.proofs.Dues.{due_always}
use Rattle.node_core.specs.Dials.{PlainDial, dial_due, untold}
use Rattle.node_core.specs.Flushing.{chain_changed, flush_at, flush_result, ticked}
use Rattle.node_core.specs.Loading.{start_job, start_result}
use Rattle.node_core.specs.Peers.{PlainPeer, peer_answered, peer_result, pull_result}
use Rattle.node_core.specs.declared.admin.AdminCall.TheVariants as admin
use Rattle.vb_calls.proofs.{Conduct.{always_bind, always_each, always_so}, JobConduct.{always_bind_job}}
use Rattle.vb_calls.specs.Flushes.{append_job, appended_job, batch_of_reply, done_job, flush_job, is_refusal, note_role_job, part_job, role_of_call, role_job, role_told_job, save_all_job, taken_job, took}
use Rattle.vb_calls.specs.Jobs.{AlwaysJob, IsRead}
use Rattle.vb_calls.specs.Jobs as job
use Rattle.vb_calls.specs.Programs.{Always, AnyReply, each}
use Rattle.dcp_producer.specs.{Giving.{Given, Yields, all_given, behind_yield, given_of, given_up, is_due, none_given, one_given, stream_given, told_as, with_given}, declared.yields.Yielded.{Yielded}}
use Rattle.flow_control.specs.Windows.{is_open}
use Rattle.node_core.specs.GivingUp.{give_result, peer_gives_up}
use Rattle.vb_calls.specs.Shelves.{Ask, DiskFailed, Fate, Flush, Idle, Out, Stood, WasClosed, Written}
use Rattle.vb_calls.specs.declared.calls.Resolved.{Resolved}
use Rattle.vb_calls.specs.declared.calls.VbCall.TheVariants as call
use Rattle.vb_calls.specs.declared.journals.Flushed.{Flushed}
use Rattle.vb_calls.specs.declared.journals.Flushed.TheVariants as flushed
use Rattle.vb_calls.specs.declared.journals.Wrote.{Wrote}
use Rattle.vb_calls.specs.declared.journals.Wrote.TheVariants as wrote
use Rattle.vb_types.specs.declared.journal.Batch.{Batch}
use Rattle.vb_types.specs.declared.journal.FlushPart.{FlushPart}
use Rattle.vb_types.specs.declared.journal.FlushPart.TheVariants as part
use Rattle.vbucket.specs.Laws.{IsTimely}
use Rattle.transcript_law.proofs.Words.{List, [], refl, ◌∷◌, Event, StreamName}
use Rattle.transcript_law.proofs.lines.{Answering.{Asks, Producer, Tells}, Pulling.{Lines, Puts, Takes, pull_so}}
use Rattle.dcp_producer.proofs.Telling.{frame_so}

-- whatever a program or a job is answered, each of its calls is of a kind
abbrev pub Makes : {A : Type 0} → (VbCall → Type 0) → Prog A → Type 0
Makes kind prog = Always (λ v made. kind made) (λ a. Unit {0}) prog

abbrev pub MakesJob : {A : Type 0} → (VbCall → Type 0) → Job A → Type 0
MakesJob kind one = AlwaysJob AnyReply (λ v made. kind made) (λ v (ask : Ask). Unit {0}) (λ a. Unit {0}) one

-- each is timely
abbrev pub Tame : {A : Type 0} → Prog A → Type 0
Tame prog = Makes IsTimely prog

abbrev pub TameJob : {A : Type 0} → Job A → Type 0
TameJob one = MakesJob IsTimely one

tame_bind : {A B : Type 0} (prog : Prog A) (k : A → Prog B) → Tame prog → ((a : A) → Tame (k a)) → Tame (bind prog k)
tame_bind prog k first second = always_bind AnyReply (λ v made. IsTimely made) (λ a. Unit {0}) (λ b. Unit {0}) prog k first (λ a any. second a)

tame_bind_job : {A B : Type 0} (first : Job A) (k : A → Job B) → TameJob first → ((a : A) → TameJob (k a)) → TameJob (bind_job first k)
tame_bind_job first k tame second = always_bind_job AnyReply (λ v made. IsTimely made) (λ v ask. Unit {0}) (λ a. Unit {0}) (λ b. Unit {0}) first k tame (λ a any. second a)

-- ---- streams that are closed

pub closed_makes : (kind : VbCall → Type 0) → ((id : ℕ) → kind (call.CloseStream id)) → (end : PlainProducer) → Makes kind (end_closed end)
unfolding end_closed
closed_makes kind closes end = by end.streams
  where
    by : (streams : List PlainStream) → Makes kind (streams_closed streams)
    by [] = tt
    by (stream ∷ more) = either (λ (p : Prog (Unit {0})). Makes kind p) stream.ended (streams_closed more) (Call stream.vb (call.CloseStream stream.id) (λ reply. streams_closed more)) (by more) (closes stream.id, λ reply any. by more)

-- ---- a client, while the clock shows a number of 64 bits

request_tame : (clock : ℕ) → clock < 2 ^ 64 → (f : Frame) (asked : Result KvRequest Status) (s : Session) → Tame (request_handled clock f asked s)
unfolding request_handled
request_tame clock small f (Err st) s = tt
request_tame clock small f (Ok request.Noop) s = tt
request_tame clock small f (Ok (request.Hello features)) s = tt
request_tame clock small f (Ok (request.Get key)) s = (tt, λ reply any. tt)
request_tame clock small f (Ok (request.Write write None)) s = (small, λ reply any. tt)
request_tame clock small f (Ok (request.Write write (Some wish))) s =
    either (λ (p : Prog Session). Tame p) (nat_le MOST_DURABLE s.session.used) (Done (refused f Status.Etmpfail s))
    (durable_called f (call.Durable write clock wish.level (deadline_of clock wish.timeout) (next_waiter s.session)) s) tt (small, λ reply any. tt)

pub served_tame : (clock : ℕ) → clock < 2 ^ 64 → (f : Frame) (s : Session) → Tame (frame_handled clock f s)
unfolding frame_handled
served_tame clock small f s = either (λ (p : Prog Session). Tame p) (f.magic == RESPONSE) (Done s) (if is_dcp f.opcode then Done (handed f s) else served_by clock f s) tt
    (either (λ (p : Prog Session). Tame p) (is_dcp f.opcode) (Done (handed f s)) (served_by clock f s) tt (request_tame clock small f (request_of s.session.settings.json f) s))

-- ---- a producer that answers

-- any lines
abbrev AnyLines : List Event → Type 0
AnyLines lines = Unit {0}

abbrev AnyLine : StreamName → Event → Type 0
AnyLine name line = Unit {0}

answered_tame : (f : Frame) (s : Served) → Tame (frame_answered f s)
answered_tame f s =
    let asks : Asks IsTimely = record { opens = λ id ask sync. tt; closes = λ id. tt; counts = λ member seq. tt; logs = tt } in
    let tells : Tells AnyLines s.end.desk = record { more = λ lines more a b. tt; asked = λ v ask high log said. tt; counted = λ link v member seq uuid changes. tt } in
    always_so AnyReply (λ v made. IsTimely made) (Producer IsTimely AnyLines s.end.desk asks tells) (λ a. Unit {0}) (frame_answered f s) (λ t c. tt) (frame_so IsTimely AnyLines s.end.desk asks tells f s (tt, refl))

pub peer_tame : (f : Frame) (peer : PlainPeer) → Tame (peer_answered f peer)
peer_tame f peer = tame_bind (frame_answered f (begun peer.producer)) (λ s. Done (peer_result peer.heard s)) (answered_tame f (begun peer.producer)) (λ s. tt)

-- ---- a producer that puts frames

-- one that reads journals alone
reads_make : {A : Type 0} (kind : VbCall → Type 0) (answers : A → Type 0) (one : Job A) → AlwaysJob AnyReply (λ v made. kind made) IsRead answers one → MakesJob kind one
reads_make kind answers (Ended a) always = tt
reads_make kind answers (job.Call v made next) always = (always.0, λ reply any. reads_make kind answers (next reply) (always.1 reply any))
reads_make kind answers (job.Request v ask next) always = (tt, λ got. reads_make kind answers (next got) (always.1 got))

puts_make : (kind : VbCall → Type 0) → Takes kind → (k : ℕ) (s : Served) → MakesJob kind (frames_put k s)
puts_make kind takes k s =
    let lines : Lines AnyLine = record { items = λ name c. tt; markers = λ name start end flags. tt; ends = λ name reason. tt; states = λ name told. tt } in
    reads_make kind (Puts kind AnyLine takes lines (λ n t. Unit {0}) (λ n t end same c. tt) (λ n t f line is c. tt) k) (frames_put k s)
    (pull_so kind AnyLine takes lines (λ n t. Unit {0}) (λ n t end same c. tt) (λ n t f line is c. tt) k s tt)

pub pulled_makes : (kind : VbCall → Type 0) → Takes kind → (k : ℕ) (peer : PlainPeer) → MakesJob kind (peer_pulled k peer)
pulled_makes kind takes k peer = always_bind_job AnyReply (λ v made. kind made) (λ v ask. Unit {0}) (λ a. Unit {0}) (λ b. Unit {0}) (frames_put k (begun peer.producer)) (λ put. Ended (pull_result peer.heard put)) (puts_make kind takes k (begun peer.producer)) (λ put any. tt)

timely_takes : Takes IsTimely
timely_takes = record { places = λ id. tt; takes = λ id. tt; closes = λ id. tt }

pub pulled_tame : (k : ℕ) (peer : PlainPeer) → TameJob (peer_pulled k peer)
pulled_tame k peer = pulled_makes IsTimely timely_takes k peer

-- ---- a producer that gives vBuckets up

given_tame : (stream : PlainStream) (g : Given) → Tame (one_given stream g)
given_tame stream g = tame_bind (stream_given stream) (λ x. Done (with_given g x)) (either (λ (p : Prog (PlainStream × Option Yielded)). Tame p) (is_due stream)
    (Call stream.vb (call.Yield stream.id) (λ reply. Done (behind_yield (told_as stream.vb reply) stream, told_as stream.vb reply))) (Done (stream, None)) (tt, λ reply any. tt) tt) (λ x. tt)

end_tame : (k : ℕ) (end : PlainProducer) → Tame (given_up k end)
unfolding given_up
end_tame k end = either (λ (p : Prog Yields). Tame p) (nat_lt 0 k && is_open end.window) (all_given end) (Done (record { end = end; yielded = [] }))
    (tame_bind (each one_given end.streams none_given) (λ g. Done (given_of end g)) (always_each AnyReply (λ v made. IsTimely made) (λ g. Unit {0}) one_given (λ stream g any. given_tame stream g) end.streams (Done none_given) tt) (λ g. tt)) tt

pub gives_tame : (k : ℕ) (peer : PlainPeer) → Tame (peer_gives_up k peer)
gives_tame k peer = tame_bind (given_up k peer.producer) (λ yields. Done (give_result peer.heard yields)) (end_tame k peer.producer) (λ yields. tt)

-- ---- a client's connection: what it sends, what it is told of a durable write, and the frames of its streams

module _ (clock : ℕ) (small : clock < 2 ^ 64) where
  abbrev AnyHandling : Handling → Type 0
  AnyHandling h = Unit {0}

  pub fed_tame : (piece : List ℕ) (client : PlainClient) → Tame (client_fed clock piece client)
  fed_tame piece client = fed_keeps AnyReply (λ v made. IsTimely made) AnyHandling clock (λ before producer f s e p. served_tame clock small f (front_of f s)) (λ before producer fault s e p. tt) (λ f h e p. answered_tame f (begun h.client.producer))
      (λ h e p. closed_makes IsTimely (λ id. tt) h.client.producer) piece client tt tt

  pub posted_tame : (r : Resolved) (client : PlainClient) → Tame (client_posted clock r client)
  posted_tame r client = posted_keeps AnyReply (λ v made. IsTimely made) AnyHandling clock (λ before producer f s e p. served_tame clock small f (front_of f s)) (λ before producer fault s e p. tt) (λ f h e p. answered_tame f (begun h.client.producer))
      (λ h e p. closed_makes IsTimely (λ id. tt) h.client.producer) r client tt (λ a e. tt)

pub pull_makes : (kind : VbCall → Type 0) → Takes kind → (k : ℕ) (client : PlainClient) → MakesJob kind (client_pulled k client)
pull_makes kind takes k client = always_bind_job AnyReply (λ v made. kind made) (λ v ask. Unit {0}) (λ a. Unit {0}) (λ b. Unit {0}) (frames_put k (begun client.producer)) (λ put. Ended (client_pull client.session put)) (puts_make kind takes k (begun client.producer)) (λ put any. tt)

pub pull_tame : (k : ℕ) (client : PlainClient) → TameJob (client_pulled k client)
pull_tame k client = pull_makes IsTimely timely_takes k client

-- ---- a dial whose vBucket has more written down

pub due_makes : (kind : VbCall → Type 0) → kind call.Due → (dial : PlainDial) → Makes kind (dial_due dial)
due_makes kind dues dial = due_always (λ a. Unit {0}) (untold dial) (λ seq saved. tt) tt (λ v made. kind made) dues

pub due_tame : (dial : PlainDial) → Tame (dial_due dial)
due_tame dial = due_makes IsTimely tt dial

-- ---- chains and clocks

pub chain_tame : (n v : ℕ) (chain : Links) → is_chain chain.active chain.others ≡ true → Tame (chain_changed n v chain)
chain_tame n v chain is = (is, λ reply any. tt)

pub tick_tame : (n v clock : ℕ) → Tame (ticked n v clock)
tick_tame n v clock = (tt, λ reply any. tt)

-- ---- writing down

done_tame : (v seq : ℕ) → TameJob (done_job v seq)
done_tame v seq = (tt, λ kept. (tt, λ reply any. tt))

module _ (v : ℕ) (batch : Batch) (next : Job Flushed) (tame : TameJob next) where
  fate_tame : (fate : Fate) → TameJob (appended_job v batch next fate)
  fate_tame Stood = (tt, λ kept. tame)
  fate_tame WasClosed = (tt, λ kept. tt)
  fate_tame DiskFailed = (tt, λ kept. tt)

  append_tame : TameJob (append_job v batch next)
  append_tame = (tt, λ fate. fate_tame fate)

taken_tame : (v : ℕ) (next : Batch → Job Flushed) → ((batch : Batch) → TameJob (next batch)) → (o : Option Batch) → TameJob (taken_job v next o)
taken_tame v next tame None = tt
taken_tame v next tame (Some batch) = (tt, λ kept. tame batch)

all_tame : (v : ℕ) (batch : Batch) → TameJob (save_all_job v batch)
all_tame v batch = append_tame v batch (done_job v batch.position.at) (done_tame v batch.position.at)

part_tame : (v : ℕ) (p : FlushPart) (flush : Flush) → TameJob (part_job v p flush)
part_tame v part.Take Idle = (tt, λ reply any. taken_tame v (λ batch. Ended (took batch)) (λ batch. tt) (batch_of_reply reply))
part_tame v part.Take (Out batch) = tt
part_tame v part.Take (Written seq) = tt
part_tame v part.Save Idle = tt
part_tame v part.Save (Out batch) = append_tame v batch (Ended flushed.Saved) tt
part_tame v part.Save (Written seq) = tt
part_tame v part.Done Idle = tt
part_tame v part.Done (Out batch) = tt
part_tame v part.Done (Written seq) = done_tame v seq
part_tame v part.All Idle = (tt, λ reply any. taken_tame v (save_all_job v) (all_tame v) (batch_of_reply reply))
part_tame v part.All (Out batch) = all_tame v batch
part_tame v part.All (Written seq) = done_tame v seq

pub flush_tame : (n v : ℕ) (p : FlushPart) (there : Bool) → TameJob (flush_at n v p there)
unfolding flush_job
flush_tame n v p true = tame_bind_job (flush_job v p) (λ came. Ended (flush_result n v came)) (tt, λ flush. part_tame v p flush) (λ came. tt)
flush_tame n v p false = tt

-- ---- an operator's calls, and those of a start

told_tame : (v : ℕ) (asked : VbCall) (reply : Option VbReply) → TameJob (role_told_job v asked reply)
told_tame v asked None = tt
told_tame v asked (Some reply) = either (λ (one : Job (Option VbReply × Wrote)). TameJob one) (is_refusal reply.answer) (Ended (Some reply, wrote.NotAsked)) (job.Call v call.Log (note_role_job v (role_of_call asked) reply)) tt (tt, λ logged any. (tt, λ fate. tt))

role_tame : (v : ℕ) (asked : VbCall) → IsTimely asked → TameJob (role_job v asked)
unfolding role_job
role_tame v asked timely = (timely, λ reply any. told_tame v asked reply)

pub admin_tame : (n v : ℕ) (asked : AdminCall) → TameJob (admin_job n v asked)
admin_tame n v (admin.Promote uuid) = tame_bind_job (role_job v (call.Promote uuid)) (λ made. Ended (role_noted n v (admin.Promote uuid) made)) (role_tame v (call.Promote uuid) tt) (λ made. tt)
admin_tame n v admin.Follow = tame_bind_job (role_job v call.Follow) (λ made. Ended (role_noted n v admin.Follow made)) (role_tame v call.Follow tt) (λ made. tt)
admin_tame n v admin.Dead = tame_bind_job (role_job v call.Dead) (λ made. Ended (role_noted n v admin.Dead made)) (role_tame v call.Dead tt) (λ made. tt)
admin_tame n v other = (tt, λ reply any. tt)

pub start_tame : (n v uuid : ℕ) → TameJob (start_job n v uuid)
start_tame n v uuid = tame_bind_job (role_job v (call.Promote uuid)) (λ made. Ended (start_result n v made)) (role_tame v (call.Promote uuid) tt) (λ made. tt)

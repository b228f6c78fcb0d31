-- what a client's connection answers to one frame, whatever its vBuckets reply
use Rattle.std.proofs.Common.{◌≡◌, ℕ, ◌+◌, ◌*◌, ◌^◌, Bool, true, false, List, [], ◌∷◌, ◌++◌, map, refl, sym, subst, append_assoc, Option, Some, None, Result, Ok, Err}
use Rattle.std.specs.Prelude.{◌==◌, if◌then◌else◌, nat_le}
use Rattle.mcbp_frame.specs.declared.frame.Frame.{Frame}
use Rattle.mcbp_frame.specs.declared.frame.TheConstants.{RESPONSE}
use Rattle.mcbp_kv.specs.Features.{feature_bytes}
use Rattle.mcbp_kv.specs.Requests.{request_of}
use Rattle.mcbp_kv.specs.declared.durable.Durability.{Durability}
use Rattle.mcbp_kv.specs.declared.reply.KvReply.{KvReply}
use Rattle.mcbp_kv.specs.declared.request.KvRequest.{KvRequest}
use Rattle.mcbp_kv.specs.declared.request.KvRequest.TheVariants as request
use Rattle.vb_types.specs.declared.change.Change.{Change}
use Rattle.vb_events.specs.declared.event.Event.{Event}
use Rattle.vb_events.specs.declared.event.Event.TheVariants as event
use Rattle.vb_types.specs.declared.status.Status.{Status}
use Rattle.vb_types.specs.declared.status.Status.TheVariants as status
use Rattle.vb_types.specs.declared.write.Write.{Write}
use Rattle.vb_calls.specs.declared.calls.Resolution.{Resolution}
use Rattle.vb_calls.specs.declared.calls.Resolution.TheVariants as resolution
use Rattle.vb_calls.specs.declared.calls.VbCall.{VbCall}
use Rattle.vb_calls.specs.declared.calls.VbCall.TheVariants as call
use Rattle.vb_calls.specs.declared.calls.VbAnswer.{VbAnswer}
use Rattle.vb_calls.specs.declared.calls.VbAnswer.TheVariants as answer
use Rattle.vb_calls.specs.declared.calls.VbReply.{VbReply}
use Rattle.vb_calls.specs.Forms.{HasForm}
use Rattle.vb_calls.specs.Programs.{Done, Call, bind, IsReply, AnyCall, Always, AlwaysFormed}
use Rattle.client_session.specs.declared.session.Awaited.{Awaited}
use Rattle.client_session.specs.declared.session.Settings.{Settings}
use Rattle.client_session.specs.declared.session.Who.{Who}
use Rattle.client_session.specs.Answers.{status_reply, value_reply, found_reply, stored_reply, reply_to, reply_line, reply_lines, change_lines, request_lines}
use Rattle.client_session.specs.Serving.{Served, with_lines, with_bytes, with_used, refused, told, asked, MOST_DURABLE, next_waiter, deadline_of, outcome_of, outcome_reply, answered_or_awaited, awaited_by, durable_answered, durable_replied, durable_called, durable_requested, request_handled, frame_answered, is_dcp, handed, frame_handled}
use Rattle.client_session.specs.Conduct.{IsClients, Answered, Begun}

-- lines, and more lines
pub lines_twice : (s : Served) (a b : List Event) → with_lines (with_lines s a) b ≡ with_lines s (a ++ b)
lines_twice s a b = λ i. record s { events = append_assoc s.events a b i }

-- one of two
pub either : {A : Type 0} (P : A → Type 0) (b : Bool) (x y : A) → P x → P y → P (if b then x else y)
either P true x y px py = px
either P false x y px py = py

-- ---- where a connection stands

-- the same connection, with the same bytes, and open or closed as it was
pub record Stays (old new : Served) : Type 0 where
  pub who : new.session.who ≡ old.session.who
  pub reader : new.session.reader ≡ old.session.reader
  pub closed : new.session.closed ≡ old.session.closed

prepared_stays : (old : Served) (a : Awaited) (how : Option Resolution) (s : Served) → Stays old s → Stays old (answered_or_awaited a how s)
prepared_stays old a None s stays = record { who = stays.who; reader = stays.reader; closed = stays.closed }
prepared_stays old a (Some how) s stays = record { who = stays.who; reader = stays.reader; closed = stays.closed }

answered_stays : (old : Served) (waiter : ℕ) (f : Frame) (how : Option Resolution) (a : VbAnswer) (s : Served) → Stays old s → Stays old (durable_answered waiter f how a s)
answered_stays old waiter f how (answer.Status st) s stays = record { who = stays.who; reader = stays.reader; closed = stays.closed }
answered_stays old waiter f how (answer.Prepared seq cas) s stays = prepared_stays old (awaited_by waiter f) how s stays
answered_stays old waiter f how other s stays = stays

durable_stays : (old : Served) (waiter : ℕ) (f : Frame) (s : Served) (reply : Option VbReply) → Stays old s → Stays old (durable_replied waiter f s reply)
unfolding durable_replied
durable_stays old waiter f s None stays = record { who = stays.who; reader = stays.reader; closed = stays.closed }
durable_stays old waiter f s (Some reply) stays =
    answered_stays old waiter f (outcome_of waiter reply.resolved) reply.answer (with_lines s (map (event.Changed s.session.who.node f.vb_or_status reply.branch) reply.changes))
    (record { who = stays.who; reader = stays.reader; closed = stays.closed })

asked_stays : (old : Served) (f : Frame) (c : VbCall) (s : Served) → Stays old s → Always AnyCall (Stays old) (asked f c s)
unfolding told
asked_stays old f c s stays = (tt, λ reply any. record { who = stays.who; reader = stays.reader; closed = stays.closed })

called_stays : (old : Served) (f : Frame) (c : VbCall) (s : Served) → Stays old s → Always AnyCall (Stays old) (durable_called f c s)
called_stays old f c s stays =
    (tt, λ reply any. durable_stays old (next_waiter s.session) f (with_used s) reply (record { who = stays.who; reader = stays.reader; closed = stays.closed }))

pub request_stays : (old : Served) (clock : ℕ) (f : Frame) (r : Result KvRequest Status) (s : Served) → Stays old s → Always AnyCall (Stays old) (request_handled clock f r s)
unfolding request_handled
request_stays old clock f (Err st) s stays = record { who = stays.who; reader = stays.reader; closed = stays.closed }
request_stays old clock f (Ok request.Noop) s stays = record { who = stays.who; reader = stays.reader; closed = stays.closed }
request_stays old clock f (Ok (request.Hello features)) s stays = record { who = stays.who; reader = stays.reader; closed = stays.closed }
request_stays old clock f (Ok (request.Get key)) s stays = asked_stays old f (call.Get key) s stays
request_stays old clock f (Ok (request.Write write None)) s stays = asked_stays old f (call.Store write clock) s stays
request_stays old clock f (Ok (request.Write write (Some wish))) s stays =
    let c : VbCall = call.Durable write clock wish.level (deadline_of clock wish.timeout) (next_waiter s.session) in
    either (Always AnyCall (Stays old)) (nat_le MOST_DURABLE s.session.used) (Done (refused f status.Etmpfail s)) (durable_called f c s)
    (record { who = stays.who; reader = stays.reader; closed = stays.closed }) (called_stays old f c s stays)

pub frame_stays : (old : Served) (clock : ℕ) (f : Frame) (s : Served) → Stays old s → Always AnyCall (Stays old) (frame_handled clock f s)
unfolding frame_handled
frame_stays old clock f s stays =
    either (Always AnyCall (Stays old)) (f.magic == RESPONSE) (Done s) (if is_dcp f.opcode then Done (handed f s) else frame_answered clock f s) stays
    (either (Always AnyCall (Stays old)) (is_dcp f.opcode) (Done (handed f s)) (frame_answered clock f s) (record { who = stays.who; reader = stays.reader; closed = stays.closed })
    (request_stays old clock f (request_of s.session.settings.json f) s stays))

-- ---- frames are served whatever the reader holds

prepared_apart : (bytes : List ℕ) (a : Awaited) (how : Option Resolution) (s : Served) → answered_or_awaited a how (with_bytes bytes s) ≡ with_bytes bytes (answered_or_awaited a how s)
prepared_apart bytes a None s = refl
prepared_apart bytes a (Some how) s = refl

answered_apart : (bytes : List ℕ) (waiter : ℕ) (f : Frame) (how : Option Resolution) (a : VbAnswer) (s : Served)
    → durable_answered waiter f how a (with_bytes bytes s) ≡ with_bytes bytes (durable_answered waiter f how a s)
answered_apart bytes waiter f how (answer.Status st) s = refl
answered_apart bytes waiter f how (answer.Prepared seq cas) s = prepared_apart bytes (awaited_by waiter f) how s
answered_apart bytes waiter f how other s = refl

durable_apart : (bytes : List ℕ) (waiter : ℕ) (f : Frame) (s : Served) (reply : Option VbReply) → durable_replied waiter f (with_bytes bytes s) reply ≡ with_bytes bytes (durable_replied waiter f s reply)
unfolding durable_replied
durable_apart bytes waiter f s None = refl
durable_apart bytes waiter f s (Some reply) =
    answered_apart bytes waiter f (outcome_of waiter reply.resolved) reply.answer (with_lines s (map (event.Changed s.session.who.node f.vb_or_status reply.branch) reply.changes))

called_apart : (bytes : List ℕ) (f : Frame) (c : VbCall) (s : Served) → durable_called f c (with_bytes bytes s) ≡ bind (durable_called f c s) (λ t. Done (with_bytes bytes t))
called_apart bytes f c s = λ i. Call f.vb_or_status c (λ reply. Done (durable_apart bytes (next_waiter s.session) f (with_used s) reply i))

durable_by : (bytes : List ℕ) (f : Frame) (c : VbCall) (s : Served) (full : Bool)
    → (if full then Done (refused f status.Etmpfail (with_bytes bytes s)) else durable_called f c (with_bytes bytes s))
    ≡ bind (if full then Done (refused f status.Etmpfail s) else durable_called f c s) (λ t. Done (with_bytes bytes t))
durable_by bytes f c s true = refl
durable_by bytes f c s false = called_apart bytes f c s

request_apart : (bytes : List ℕ) (clock : ℕ) (f : Frame) (r : Result KvRequest Status) (s : Served)
    → request_handled clock f r (with_bytes bytes s) ≡ bind (request_handled clock f r s) (λ t. Done (with_bytes bytes t))
unfolding request_handled told
request_apart bytes clock f (Err st) s = refl
request_apart bytes clock f (Ok request.Noop) s = refl
request_apart bytes clock f (Ok (request.Hello features)) s = refl
request_apart bytes clock f (Ok (request.Get key)) s = refl
request_apart bytes clock f (Ok (request.Write write None)) s = refl
request_apart bytes clock f (Ok (request.Write write (Some wish))) s =
    durable_by bytes f (call.Durable write clock wish.level (deadline_of clock wish.timeout) (next_waiter s.session)) s (nat_le MOST_DURABLE s.session.used)

frame_by : (bytes : List ℕ) (clock : ℕ) (f : Frame) (s : Served) (dropped dcp : Bool)
    → (if dropped then Done (with_bytes bytes s) else if dcp then Done (handed f (with_bytes bytes s)) else frame_answered clock f (with_bytes bytes s))
    ≡ bind (if dropped then Done s else if dcp then Done (handed f s) else frame_answered clock f s) (λ t. Done (with_bytes bytes t))
frame_by bytes clock f s true dcp = refl
frame_by bytes clock f s false true = refl
frame_by bytes clock f s false false = request_apart bytes clock f (request_of s.session.settings.json f) s

pub frame_apart : (bytes : List ℕ) (clock : ℕ) (f : Frame) (s : Served) → frame_handled clock f (with_bytes bytes s) ≡ bind (frame_handled clock f s) (λ t. Done (with_bytes bytes t))
unfolding frame_handled
frame_apart bytes clock f s = frame_by bytes clock f s (f.magic == RESPONSE) (is_dcp f.opcode)

-- ---- one request

-- the lines of a request, which was answered, or begun and is awaited under the number of the last durable write
pub Handled : Who → Frame → ℕ → Option Awaited → List Event → Type 0
Handled who f used None lines = Answered who f lines
Handled who f used (Some a) lines = Begun who f a lines × (a.waiter ≡ who.base * 2 ^ 32 + used)

-- a request of a connection that awaited nothing
pub record Gives (f : Frame) (at : Who) (before : List Event) (new : Served) : Type 0 where
  pub who : new.session.who ≡ at
  pub lines : List Event
  pub told : new.events ≡ before ++ lines
  pub handled : Handled at f new.session.used new.session.awaited lines

pub gives_answer : (f : Frame) (at : Who) (before : List Event) (t : Served) (gives : Gives f at before t) → t.session.awaited ≡ None → Answered at f gives.lines
unfolding Handled
gives_answer f at before t gives e = subst (λ a. Handled at f t.session.used a gives.lines) e gives.handled

pub gives_begun : (f : Frame) (at : Who) (before : List Event) (t : Served) (a : Awaited) (gives : Gives f at before t) → t.session.awaited ≡ Some a
    → Begun at f a gives.lines × (a.waiter ≡ at.base * 2 ^ 32 + t.session.used)
unfolding Handled
gives_begun f at before t a gives e = subst (λ o. Handled at f t.session.used o gives.lines) e gives.handled

answers : (who : Who) (f : Frame) (used : ℕ) (o : Option Awaited) (lines : List Event) → o ≡ None → Answered who f lines → Handled who f used o lines
unfolding Handled
answers who f used o lines e answered = subst (λ a. Handled who f used a lines) (sym e) answered

-- an answer without changes
alone : (who : Who) (f : Frame) (r : KvReply) → is_dcp f.opcode ≡ false → r.opcode ≡ f.opcode → r.opaque ≡ f.opaque → Answered who f (reply_line who.node who.client r ∷ [])
unfolding reply_line
alone who f r own same number = record { own = own; uuid = 0; changes = []; reply = r; told = refl; opcode = same; opaque = number }

IsAsked : VbCall → Type 0
IsAsked (call.Get key) = Unit {0}
IsAsked (call.Store write clock) = Unit {0}
IsAsked other = ⊥

answered_by : (who : Who) (settings : Settings) (f : Frame) (c : VbCall) (a : VbAnswer) (changes : List Change) → is_dcp f.opcode ≡ false → IsAsked c → HasForm c a
    → Answered who f (change_lines who.node f.vb_or_status a changes ++ reply_lines who.node who.client (reply_to settings f a))
unfolding reply_line IsAsked
answered_by who settings f (call.Get key) (answer.Found doc) changes own mine form =
    record { own = own; uuid = 0; changes = []; reply = found_reply settings f doc; told = refl; opcode = refl; opaque = refl }
answered_by who settings f (call.Get key) (answer.Status st) changes own mine form =
    record { own = own; uuid = 0; changes = []; reply = status_reply f st; told = refl; opcode = refl; opaque = refl }
answered_by who settings f (call.Get key) other changes own mine form = absurd form
answered_by who settings f (call.Store write clock) (answer.Stored uuid seq cas) changes own mine form =
    record { own = own; uuid = uuid; changes = changes; reply = stored_reply settings f uuid seq cas; told = refl; opcode = refl; opaque = refl }
answered_by who settings f (call.Store write clock) (answer.Status st) changes own mine form =
    record { own = own; uuid = 0; changes = []; reply = status_reply f st; told = refl; opcode = refl; opaque = refl }
answered_by who settings f (call.Store write clock) other changes own mine form = absurd form
answered_by who settings f other a changes own mine form = absurd mine

told_answered : (who : Who) (settings : Settings) (f : Frame) (c : VbCall) (reply : Option VbReply) → is_dcp f.opcode ≡ false → IsAsked c → IsReply c reply
    → Answered who f (request_lines who.node who.client settings f reply)
told_answered who settings f c None own mine formed = alone who f (status_reply f status.NotMyVbucket) own refl refl
told_answered who settings f c (Some reply) own mine formed = answered_by who settings f c reply.answer reply.changes own mine formed

asked_gives : (clock : ℕ) (f : Frame) (c : VbCall) (s : Served) → is_dcp f.opcode ≡ false → IsAsked c → IsClients clock f.vb_or_status c → s.session.awaited ≡ None
    → AlwaysFormed (IsClients clock) (Gives f s.session.who s.events) (asked f c s)
unfolding told
asked_gives clock f c s own plain mine e = (
  mine,
  λ reply formed. record {
    who = refl;
    lines = request_lines s.session.who.node s.session.who.client s.session.settings f reply;
    told = refl;
    handled = answers s.session.who f s.session.used s.session.awaited _ e (told_answered s.session.who s.session.settings f c reply own plain formed);
  },
)

status_gives : (f : Frame) (st : Status) (s : Served) → is_dcp f.opcode ≡ false → s.session.awaited ≡ None → Gives f s.session.who s.events (refused f st s)
status_gives f st s own e = record {
  who = refl;
  lines = reply_line s.session.who.node s.session.who.client (status_reply f st) ∷ [];
  told = refl;
  handled = answers s.session.who f s.session.used s.session.awaited _ e (alone s.session.who f (status_reply f st) own refl refl);
}

-- ---- a durable write

pub IsDurable : VbCall → Type 0
IsDurable (call.Durable write clock level deadline waiter) = Unit {0}
IsDurable other = ⊥

-- an answer behind changes
behind : (who : Who) (f : Frame) (uuid : ℕ) (changes : List Change) (r : KvReply) → is_dcp f.opcode ≡ false → r.opcode ≡ f.opcode → r.opaque ≡ f.opaque
    → Answered who f (map (event.Changed who.node f.vb_or_status uuid) changes ++ reply_line who.node who.client r ∷ [])
unfolding reply_line
behind who f uuid changes r own same number = record { own = own; uuid = uuid; changes = changes; reply = r; told = refl; opcode = same; opaque = number }

pub outcome_opcode : (settings : Settings) (a : Awaited) (how : Resolution) → (outcome_reply settings a how).opcode ≡ a.opcode
outcome_opcode settings a (resolution.Committed uuid seq cas) = refl
outcome_opcode settings a resolution.Ambiguous = refl

pub outcome_opaque : (settings : Settings) (a : Awaited) (how : Resolution) → (outcome_reply settings a how).opaque ≡ a.opaque
outcome_opaque settings a (resolution.Committed uuid seq cas) = refl
outcome_opaque settings a resolution.Ambiguous = refl

prepared_gives : (f : Frame) (waiter uuid : ℕ) (changes : List Change) (how : Option Resolution) (s : Served) → is_dcp f.opcode ≡ false → waiter ≡ s.session.who.base * 2 ^ 32 + s.session.used
    → Gives f s.session.who s.events (answered_or_awaited (awaited_by waiter f) how (with_lines s (map (event.Changed s.session.who.node f.vb_or_status uuid) changes)))
unfolding Handled
prepared_gives f waiter uuid changes None s own numbered = record {
  who = refl;
  lines = map (event.Changed s.session.who.node f.vb_or_status uuid) changes;
  told = refl;
  handled = (record { own = own; uuid = uuid; changes = changes; told = refl; opcode = refl; opaque = refl }, numbered);
}
prepared_gives f waiter uuid changes (Some how) s own numbered =
    let r : KvReply = outcome_reply s.session.settings (awaited_by waiter f) how in
    let made : List Event = map (event.Changed s.session.who.node f.vb_or_status uuid) changes in record {
      who = refl;
      lines = made ++ reply_line s.session.who.node s.session.who.client r ∷ [];
      told = append_assoc s.events made (reply_line s.session.who.node s.session.who.client r ∷ []);
      handled = behind s.session.who f uuid changes r own (outcome_opcode s.session.settings (awaited_by waiter f) how) (outcome_opaque s.session.settings (awaited_by waiter f) how);
    }

answered_gives : (f : Frame) (waiter uuid : ℕ) (changes : List Change) (how : Option Resolution) (c : VbCall) (a : VbAnswer) (s : Served) → is_dcp f.opcode ≡ false → s.session.awaited ≡ None
    → waiter ≡ s.session.who.base * 2 ^ 32 + s.session.used → IsDurable c → HasForm c a
    → Gives f s.session.who s.events (durable_answered waiter f how a (with_lines s (map (event.Changed s.session.who.node f.vb_or_status uuid) changes)))
unfolding IsDurable
answered_gives f waiter uuid changes how (call.Durable write time level deadline number) (answer.Status st) s own e numbered durable form =
    let made : List Event = map (event.Changed s.session.who.node f.vb_or_status uuid) changes in record {
      who = refl;
      lines = made ++ reply_line s.session.who.node s.session.who.client (status_reply f st) ∷ [];
      told = append_assoc s.events made (reply_line s.session.who.node s.session.who.client (status_reply f st) ∷ []);
      handled = answers s.session.who f s.session.used s.session.awaited _ e (behind s.session.who f uuid changes (status_reply f st) own refl refl);
    }
answered_gives f waiter uuid changes how (call.Durable write time level deadline number) (answer.Prepared seq cas) s own e numbered durable form = prepared_gives f waiter uuid changes how s own numbered
answered_gives f waiter uuid changes how (call.Durable write time level deadline number) other s own e numbered durable form = absurd form
answered_gives f waiter uuid changes how other a s own e numbered durable form = absurd durable

durable_gives : (f : Frame) (waiter : ℕ) (c : VbCall) (s : Served) (reply : Option VbReply) → is_dcp f.opcode ≡ false → s.session.awaited ≡ None → waiter ≡ s.session.who.base * 2 ^ 32 + s.session.used
    → IsDurable c → IsReply c reply → Gives f s.session.who s.events (durable_replied waiter f s reply)
unfolding durable_replied
durable_gives f waiter c s None own e numbered durable formed = status_gives f status.NotMyVbucket s own e
durable_gives f waiter c s (Some reply) own e numbered durable formed =
    answered_gives f waiter reply.branch reply.changes (outcome_of waiter reply.resolved) c reply.answer s own e numbered durable formed

called_gives : (clock : ℕ) (f : Frame) (c : VbCall) (s : Served) → is_dcp f.opcode ≡ false → IsDurable c → IsClients clock f.vb_or_status c → s.session.awaited ≡ None
    → AlwaysFormed (IsClients clock) (Gives f s.session.who s.events) (durable_called f c s)
called_gives clock f c s own durable mine e = (mine, λ reply formed. durable_gives f (next_waiter s.session) c (with_used s) reply own e refl durable formed)

durable_requested_gives : (clock : ℕ) (f : Frame) (write : Write) (wish : Durability) (s : Served) → is_dcp f.opcode ≡ false → s.session.awaited ≡ None
    → AlwaysFormed (IsClients clock) (Gives f s.session.who s.events) (durable_requested clock f write wish s)
unfolding IsDurable
durable_requested_gives clock f write wish s own e =
    let c : VbCall = call.Durable write clock wish.level (deadline_of clock wish.timeout) (next_waiter s.session) in
    either (AlwaysFormed (IsClients clock) (Gives f s.session.who s.events)) (nat_le MOST_DURABLE s.session.used) (Done (refused f status.Etmpfail s)) (durable_called f c s)
    (status_gives f status.Etmpfail s own e) (called_gives clock f c s own tt refl e)

-- ---- any request

pub request_gives : (clock : ℕ) (f : Frame) (r : Result KvRequest Status) (s : Served) → is_dcp f.opcode ≡ false → s.session.awaited ≡ None
    → AlwaysFormed (IsClients clock) (Gives f s.session.who s.events) (request_handled clock f r s)
unfolding request_handled IsAsked
request_gives clock f (Err st) s own e = status_gives f st s own e
request_gives clock f (Ok request.Noop) s own e = status_gives f status.Success s own e
request_gives clock f (Ok (request.Hello features)) s own e = record {
  who = refl;
  lines = reply_line s.session.who.node s.session.who.client (value_reply f (feature_bytes features)) ∷ [];
  told = refl;
  handled = answers s.session.who f s.session.used s.session.awaited _ e (alone s.session.who f (value_reply f (feature_bytes features)) own refl refl);
}
request_gives clock f (Ok (request.Get key)) s own e = asked_gives clock f (call.Get key) s own tt tt e
request_gives clock f (Ok (request.Write write None)) s own e = asked_gives clock f (call.Store write clock) s own tt refl e
request_gives clock f (Ok (request.Write write (Some wish))) s own e = durable_requested_gives clock f write wish s own e

-- ---- what a reply to a durable write changes

-- all that a reply to a durable write changes of the connection is what it awaits
prepared_session : (a : Awaited) (how : Option Resolution) (s : Served) → (o : Option Awaited) × ((answered_or_awaited a how s).session ≡ record s.session { awaited = o })
prepared_session a None s = (Some a, refl)
prepared_session a (Some how) s = (None, refl)

answered_session : (waiter : ℕ) (f : Frame) (how : Option Resolution) (a : VbAnswer) (s : Served) → (o : Option Awaited) × ((durable_answered waiter f how a s).session ≡ record s.session { awaited = o })
answered_session waiter f how (answer.Status st) s = (s.session.awaited, refl)
answered_session waiter f how (answer.Prepared seq cas) s = prepared_session (awaited_by waiter f) how s
answered_session waiter f how other s = (s.session.awaited, refl)

pub durable_session : (waiter : ℕ) (f : Frame) (s : Served) (reply : Option VbReply) → (o : Option Awaited) × ((durable_replied waiter f s reply).session ≡ record s.session { awaited = o })
unfolding durable_replied
durable_session waiter f s None = (s.session.awaited, refl)
durable_session waiter f s (Some reply) =
    answered_session waiter f (outcome_of waiter reply.resolved) reply.answer (with_lines s (map (event.Changed s.session.who.node f.vb_or_status reply.branch) reply.changes))

-- ---- what a request hands up: nothing

prepared_unhanded : (a : Awaited) (how : Option Resolution) (s : Served) → (answered_or_awaited a how s).dcp ≡ s.dcp
prepared_unhanded a None s = refl
prepared_unhanded a (Some how) s = refl

answered_unhanded : (waiter : ℕ) (f : Frame) (how : Option Resolution) (a : VbAnswer) (s : Served) → (durable_answered waiter f how a s).dcp ≡ s.dcp
answered_unhanded waiter f how (answer.Status st) s = refl
answered_unhanded waiter f how (answer.Prepared seq cas) s = prepared_unhanded (awaited_by waiter f) how s
answered_unhanded waiter f how other s = refl

pub durable_unhanded : (waiter : ℕ) (f : Frame) (s : Served) (reply : Option VbReply) → (durable_replied waiter f s reply).dcp ≡ s.dcp
unfolding durable_replied
durable_unhanded waiter f s None = refl
durable_unhanded waiter f s (Some reply) =
    answered_unhanded waiter f (outcome_of waiter reply.resolved) reply.answer (with_lines s (map (event.Changed s.session.who.node f.vb_or_status reply.branch) reply.changes))

pub request_unhanded : (clock : ℕ) (f : Frame) (r : Result KvRequest Status) (s : Served) → Always AnyCall (λ t. t.dcp ≡ s.dcp) (request_handled clock f r s)
unfolding request_handled told
request_unhanded clock f (Err st) s = refl
request_unhanded clock f (Ok request.Noop) s = refl
request_unhanded clock f (Ok (request.Hello features)) s = refl
request_unhanded clock f (Ok (request.Get key)) s = (tt, λ reply any. refl)
request_unhanded clock f (Ok (request.Write write None)) s = (tt, λ reply any. refl)
request_unhanded clock f (Ok (request.Write write (Some wish))) s =
    either (Always AnyCall (λ t. t.dcp ≡ s.dcp)) (nat_le MOST_DURABLE s.session.used) (Done (refused f status.Etmpfail s))
    (durable_called f (call.Durable write clock wish.level (deadline_of clock wish.timeout) (next_waiter s.session)) s)
    refl (tt, λ reply any. durable_unhanded (next_waiter s.session) f (with_used s) reply)

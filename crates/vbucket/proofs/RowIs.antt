-- what a call may do to a vBucket: the one walk over the calls
use Rattle.std.proofs.Common.{◌≡◌, ℕ, Bool, true, false, List, refl}
use Rattle.std.specs.Prelude.{[], ◌∷◌, ◌++◌, map, Option, Some, None, is_some, if◌then◌else◌, max, min, nat_lt}
use Rattle.vb_types.specs.Images.{Picture}
use Rattle.vb_types.specs.declared.change.Act.{Act}
use Rattle.vb_types.specs.declared.change.Change.{Change}
use Rattle.vb_types.specs.declared.doc.Doc.{Doc}
use Rattle.vb_types.specs.declared.role.LogEntry.{LogEntry}
use Rattle.vb_types.specs.declared.role.Role.{Role}
use Rattle.vb_types.specs.declared.role.Role.TheVariants as role
use Rattle.vb_types.specs.declared.status.Status.{Status}
use Rattle.vb_types.specs.declared.status.Status.TheVariants as status
use Rattle.vb_types.specs.declared.stream.Place.TheVariants.{Memory}
use Rattle.vb_types.specs.declared.stream.StreamAsk.{StreamAsk}
use Rattle.vb_types.specs.declared.stream.Verdict.{Verdict}
use Rattle.vb_types.specs.declared.stream.Verdict.TheVariants.{Continue, Roll}
use Rattle.vb_types.specs.declared.write.Write.{Write}
use Rattle.branch_model.specs.Requests.{fork_of, rule}
use Rattle.durability.specs.Chains.{Links}
use Rattle.durability.specs.Outstanding.{with_ack}
use Rattle.vb_calls.specs.declared.calls.VbAnswer.{VbAnswer}
use Rattle.vb_calls.specs.declared.calls.VbAnswer.TheVariants as answer
use Rattle.vb_calls.specs.declared.calls.VbCall.{VbCall}
use Rattle.vb_calls.specs.declared.calls.VbCall.TheVariants as call
use Rattle.vb_calls.specs.declared.calls.VbReply.{VbReply}
use Rattle.vb_calls.specs.declared.span.Span.{Span}
use Rattle.vb_calls.specs.declared.stream.Stream.{Stream}
use Rattle.vb_calls.specs.Durable.{Wish, durable_outcome, durable_refusal, expired, prepare_change, prepared_reply, prepared_vb}
use Rattle.vb_calls.specs.Flushing.{batch_of, flush_from, unflushed_span}
use Rattle.vb_calls.specs.Following.{completed_act, is_answerable, is_follower, is_next, marked_vb, marker_fits, receive_as, rolled_vb, with_received_change}
use Rattle.vb_calls.specs.Plain.{Plain, plain_step}
use Rattle.vb_calls.specs.Roles.{ending_reply, in_role, is_role, led, own_refusal, owned, parent_of, promote_refusal, promoted, risen, yielded}
use Rattle.vb_calls.specs.Settling.{also_resolved, and_settled}
use Rattle.vb_calls.specs.Spans.{all_spans, with_seal}
use Rattle.vb_calls.specs.State.{doc_at, get_reply, is_active, is_left, newest_branch, pending_of, quiet_reply, refusal_reply}
use Rattle.vb_calls.specs.Streams.{without_stream, asked_stream, end_span, given_cursor, is_in_memory, items_to, judged_open, moved_on, new_stream, open_outcome, open_refusal, place_from, placed_by, snapshot_of, source_of, stream_at, take_from, take_to, without_cursor}
use Rattle.vb_calls.specs.Trims.{has_cursor, trim_row}
use Rattle.vb_calls.specs.Writes.{growth, new_cas, store_outcome, store_refusal, write_change}
use Rattle.vbucket.specs.DurableLaws.{IsQuiet}
use Rattle.vbucket.specs.Laws.{is_refusal}

-- any call but a rollback or a trim: the changes of its reply are appended to those that are held
abbrev pub Appends : VbCall → Type 0
Appends (call.RollTo at image cas) = ⊥
Appends call.Trim = ⊥
Appends c = Unit {0}

-- a promotion, before anything is committed
abbrev pub leading : Plain → ℕ → Plain × VbReply
leading vb uuid = (led vb uuid, ending_reply vb (answer.Branch uuid (parent_of vb.log) (fork_of vb.position) vb.position.at))

-- a takeover, before anything is committed
abbrev pub inheriting : Plain → Plain × VbReply
inheriting vb = (risen vb, ending_reply vb answer.Done)

-- how a call leaves the streams: with a new one, with one that is given a cursor or fed a snapshot, with one that has lost its cursor, or without one
pub data StreamsAre (vb : Plain) : VbCall → List Stream → VbAnswer → Type 0 where
  Opens : (id : ℕ) (ask : StreamAsk) (sync : Bool) → open_refusal vb id ask ≡ None → StreamsAre vb (call.OpenStream id ask sync) (vb.streams ++ new_stream vb id ask sync ∷ []) (answer.Opened vb.log vb.position.at (source_of vb (asked_stream id ask sync)))
  Places : (id : ℕ) (s : Stream) → stream_at id vb.streams ≡ Some s → s.cursor ≡ false → is_in_memory vb s.place ≡ true → StreamsAre vb (call.Place id) (map (given_cursor s.id) vb.streams) (answer.Placed Memory)
  Feeds : (id : ℕ) (s : Stream) (w : Span) → stream_at id vb.streams ≡ Some s → s.cursor ≡ true → end_span s (all_spans vb.spans) vb.held ≡ Some w
      → StreamsAre vb (call.Take id) (map (moved_on s.id w.last) vb.streams) (answer.Taken (snapshot_of s (items_to s (all_spans vb.spans) vb.held w.last)))
  Drops : (id : ℕ) → StreamsAre vb (call.DropCursor id) (map (without_cursor id) vb.streams) (answer.Flag (has_cursor (stream_at id vb.streams)))
  Closes : (id : ℕ) → StreamsAre vb (call.CloseStream id) (without_stream id vb.streams) (answer.Flag (is_some (stream_at id vb.streams)))

-- how a call begins after which all is committed that may be: it prepares a write, sets the chain, counts an acknowledgement or what is saved, gives up what is late, leads a branch, or takes one over
pub data StartIs (vb : Plain) : VbCall → Plain × VbReply → Type 0 where
  Prepares : (write : Write) (clock : ℕ) (wish : Wish) → durable_refusal vb write ≡ None
      → StartIs vb (call.Durable write clock wish.level wish.deadline wish.waiter)
      (prepared_vb vb write wish (new_cas clock vb.last_cas), prepared_reply (newest_branch vb.log) (prepare_change vb write wish.level (new_cas clock vb.last_cas)) (new_cas clock vb.last_cas))
  Chains : (chain : Links) → is_active vb.role ≡ true → StartIs vb (call.Chain chain) (record vb { others = chain.others }, quiet_reply answer.Done)
  Counts : (member seq : ℕ) → is_active vb.role ≡ true → StartIs vb (call.Ack member seq) (record vb { acks = with_ack vb.acks member seq }, quiet_reply answer.Done)
  Expires : (clock : ℕ) → is_active vb.role ≡ true → StartIs vb (call.Tick clock) (also_resolved (quiet_reply answer.Done) (expired clock vb))
  Saves : (seq : ℕ) → StartIs vb (call.FlushDone seq) (record vb { saved = max vb.saved seq }, quiet_reply (answer.Num (max vb.saved seq)))
  Leads : (uuid : ℕ) → promote_refusal vb uuid ≡ None → StartIs vb (call.Promote uuid) (leading vb uuid)
  Inherits : own_refusal vb ≡ None → StartIs vb call.Own (inheriting vb)

-- what a call makes of a vBucket, and its reply: it tells something, or why it is refused, and changes nothing; it changes the streams alone; it takes a log over; it begins a snapshot; it seals the open span; it gives up what is needed no more; it takes the rest of a span to be written down; it writes or receives one change;
-- it begins something and all is committed that may be; it goes back to a seqno; it takes another role, in which nothing is outstanding; or it is given up for one of its streams
pub data RowIs (vb : Plain) : VbCall → Plain × VbReply → Type 0 where
  Tells : (c : VbCall) (said : VbAnswer) → RowIs vb c (vb, quiet_reply said)
  Streams : (c : VbCall) (streams : List Stream) (said : VbAnswer) → StreamsAre vb c streams said → RowIs vb c (record vb { streams = streams }, quiet_reply said)
  Adopts : (log : List LogEntry) → is_follower vb.role ≡ true → RowIs vb (call.Adopt log) (record vb { log = log; first = true }, quiet_reply answer.Done)
  Marks : (start end : ℕ) → is_follower vb.role ≡ true → marker_fits vb.position vb.first start end ≡ true
      → RowIs vb (call.Marker start end) (marked_vb vb start end, quiet_reply (answer.Range (min start vb.position.at) end))
  Seals : (was : Bool) → RowIs vb call.Seal (record vb { spans = with_seal vb.spans }, quiet_reply (answer.Flag was))
  Trims : RowIs vb call.Trim (trim_row vb)
  Flushes : (w : Span) → unflushed_span vb ≡ Some w → RowIs vb call.FlushTake (record vb { flushed = w.last }, quiet_reply (answer.Rows (batch_of vb w)))
  Writes : (write : Write) (clock : ℕ) → store_refusal vb write ≡ None → RowIs vb (call.Store write clock) (growth vb (write_change vb write (new_cas clock vb.last_cas)) (new_cas clock vb.last_cas))
  Receives : (c : Change) (a : Act) → is_follower vb.role ≡ true → is_next vb.position c.seq ≡ true → completed_act (pending_of vb c.key) c.act ≡ Some a
      → RowIs vb (call.Receive c) (with_received_change vb (record { seq = c.seq; key = c.key; act = a }))
  Settles : (c : VbCall) (start : Plain × VbReply) → StartIs vb c start → RowIs vb c (and_settled start)
  Rolls : (at : ℕ) (image : Picture) (cas : ℕ) → is_follower vb.role ≡ true → RowIs vb (call.RollTo at image cas) (rolled_vb vb at image cas, quiet_reply (answer.Num at))
  Turns : (c : VbCall) (new : Role) → (IsQuiet c → ⊥) → is_active new ≡ false → RowIs vb c (in_role vb new, ending_reply vb answer.Done)
  Yields : (id : ℕ) (s : Stream) → is_active vb.role ≡ true → stream_at id vb.streams ≡ Some s → RowIs vb (call.Yield id) (yielded (Some s) vb)

-- a call that leaves the streams so is no rollback and no trim, and answers no refusal
pub restreams : (vb : Plain) {c : VbCall} {streams : List Stream} {said : VbAnswer} → StreamsAre vb c streams said → (is_refusal said ≡ false) × Appends c
restreams vb (Closes id) = (refl, tt)
restreams vb other = (refl, tt)

-- a call that begins so is no quiet one, and answers no refusal
pub begins : (vb : Plain) {c : VbCall} {start : Plain × VbReply} → StartIs vb c start → (is_refusal start.1.answer ≡ false) × (IsQuiet c → ⊥)
begins vb (Saves seq) = (refl, λ q. q)
begins vb other = (refl, λ q. q)

-- a call that is no quiet one is no rollback and no trim
pub loud_appends : (c : VbCall) → (IsQuiet c → ⊥) → Appends c
loud_appends (call.RollTo at image cas) loud = loud tt
loud_appends call.Trim loud = loud tt
loud_appends c loud = tt

module _ (vb : Plain) where
  told : {c : VbCall} (b : Bool) (one other : VbAnswer) → RowIs vb c (vb, if b then quiet_reply one else quiet_reply other)
  told true one other = Tells _ _
  told false one other = Tells _ _

  made_if : {c : VbCall} {made : Plain × VbReply} (why : Status) (b : Bool) → (b ≡ true → RowIs vb c made) → RowIs vb c (if b then made else (vb, refusal_reply why))
  made_if why true f = f refl
  made_if why false f = Tells _ _

  made_unless : {c : VbCall} {made : Plain × VbReply} (why : Status) (b : Bool) → RowIs vb c made → RowIs vb c (if b then (vb, refusal_reply why) else made)
  made_unless why true is = Tells _ _
  made_unless why false is = is

  got : {c : VbCall} (b left : Bool) (o : Option Doc) → RowIs vb c (vb, if b then get_reply left o else refusal_reply status.NotMyVbucket)
  got true true o = Tells _ _
  got true false None = Tells _ _
  got true false (Some doc) = Tells _ _
  got false left o = Tells _ _

  stored : (write : Write) (clock : ℕ) (why : Option Status) → store_refusal vb write ≡ why → RowIs vb (call.Store write clock) (store_outcome why vb write (new_cas clock vb.last_cas))
  stored write clock (Some st) e = Tells _ _
  stored write clock None e = Writes write clock e

  durably : (write : Write) (clock : ℕ) (wish : Wish) (why : Option Status) → durable_refusal vb write ≡ why
      → RowIs vb (call.Durable write clock wish.level wish.deadline wish.waiter) (durable_outcome why vb write wish (new_cas clock vb.last_cas))
  durably write clock wish (Some st) e = Tells _ _
  durably write clock wish None e = Settles _ _ (Prepares write clock wish e)

  judged : (id : ℕ) (ask : StreamAsk) (sync : Bool) (v : Verdict) → open_refusal vb id ask ≡ None → RowIs vb (call.OpenStream id ask sync) (judged_open v vb id ask sync)
  judged id ask sync Continue e = Streams _ _ _ (Opens id ask sync e)
  judged id ask sync (Roll to) e = Tells _ _

  opened : (id : ℕ) (ask : StreamAsk) (sync : Bool) (why : Option Status) → open_refusal vb id ask ≡ why → RowIs vb (call.OpenStream id ask sync) (open_outcome why vb id ask sync)
  opened id ask sync (Some st) e = Tells _ _
  opened id ask sync None e = judged id ask sync (rule vb.log vb.position.at ask) e

  placed_so : (id : ℕ) (s : Stream) (has there : Bool) → stream_at id vb.streams ≡ Some s → s.cursor ≡ has → is_in_memory vb s.place ≡ there → RowIs vb (call.Place id) (placed_by has there s vb)
  placed_so id s true there at e f = Tells _ _
  placed_so id s false true at e f = Streams _ _ _ (Places id s at e f)
  placed_so id s false false at e f = Tells _ _

  placed : (id : ℕ) (o : Option Stream) → stream_at id vb.streams ≡ o → RowIs vb (call.Place id) (place_from o vb)
  placed id None at = Tells _ _
  placed id (Some s) at = placed_so id s s.cursor (is_in_memory vb s.place) at refl refl

  taken_to : (id : ℕ) (s : Stream) (w : Option Span) → stream_at id vb.streams ≡ Some s → s.cursor ≡ true → end_span s (all_spans vb.spans) vb.held ≡ w → RowIs vb (call.Take id) (take_to w s vb)
  taken_to id s None at has e = Tells _ _
  taken_to id s (Some w) at has e = Streams _ _ _ (Feeds id s w at has e)

  taken_so : (id : ℕ) (s : Stream) (has : Bool) → stream_at id vb.streams ≡ Some s → s.cursor ≡ has → RowIs vb (call.Take id) (take_to (if has then end_span s (all_spans vb.spans) vb.held else None) s vb)
  taken_so id s true at has = taken_to id s (end_span s (all_spans vb.spans) vb.held) at has refl
  taken_so id s false at has = Tells _ _

  taken : (id : ℕ) (o : Option Stream) → stream_at id vb.streams ≡ o → RowIs vb (call.Take id) (take_from o vb)
  taken id None at = Tells _ _
  taken id (Some s) at = taken_so id s s.cursor at refl

  received : (c : Change) (a : Option Act) → is_follower vb.role ≡ true → is_next vb.position c.seq ≡ true → completed_act (pending_of vb c.key) c.act ≡ a → RowIs vb (call.Receive c) (receive_as a vb c)
  received c None f next e = Tells _ _
  received c (Some a) f next e = Receives c a f next e

  promoting : (uuid : ℕ) (why : Option Status) → promote_refusal vb uuid ≡ why → RowIs vb (call.Promote uuid) (promoted why vb uuid)
  promoting uuid (Some st) e = Tells _ _
  promoting uuid None e = Settles _ _ (Leads uuid e)

  owning : (why : Option Status) → own_refusal vb ≡ why → RowIs vb call.Own (owned why vb)
  owning (Some st) e = Tells _ _
  owning None e = Settles _ _ (Inherits e)

  yielding : (id : ℕ) (o : Option Stream) → is_active vb.role ≡ true → stream_at id vb.streams ≡ o → RowIs vb (call.Yield id) (yielded o vb)
  yielding id None on e = Tells _ _
  yielding id (Some s) on e = Yields id s on e

  flushed : (o : Option Span) → unflushed_span vb ≡ o → RowIs vb call.FlushTake (flush_from o vb)
  flushed None e = Tells _ _
  flushed (Some w) e = Flushes w e

  pub row_is : (c : VbCall) → RowIs vb c (plain_step vb c)
  row_is (call.Get key) = got (is_active vb.role) (is_left vb.waiting (pending_of vb key)) (doc_at vb key)
  row_is (call.Store write clock) = stored write clock (store_refusal vb write) refl
  row_is (call.Durable write clock level deadline waiter) = durably write clock (record { level = level; deadline = deadline; waiter = waiter }) (durable_refusal vb write) refl
  row_is (call.Chain chain) = made_if _ (is_active vb.role) (λ on. Settles _ _ (Chains chain on))
  row_is (call.Ack member seq) = made_if _ (is_active vb.role) (λ on. made_unless _ (nat_lt vb.position.at seq) (Settles _ _ (Counts member seq on)))
  row_is (call.Tick clock) = made_if _ (is_active vb.role) (λ on. Settles _ _ (Expires clock on))
  row_is call.Due = told (is_follower vb.role) _ _
  row_is (call.OpenStream id ask sync) = opened id ask sync (open_refusal vb id ask) refl
  row_is (call.Place id) = placed id (stream_at id vb.streams) refl
  row_is (call.Take id) = taken id (stream_at id vb.streams) refl
  row_is (call.CloseStream id) = Streams _ _ _ (Closes id)
  row_is call.Ask = told (is_follower vb.role) _ _
  row_is (call.Adopt log) = made_if _ (is_follower vb.role) (λ f. made_if _ (is_answerable log) (λ e. Adopts log f))
  row_is (call.Marker start end) = made_if _ (is_follower vb.role) (λ f. made_if _ (marker_fits vb.position vb.first start end) (λ fits. Marks start end f fits))
  row_is (call.Receive c) = made_if _ (is_follower vb.role) (λ f. made_if _ (is_next vb.position c.seq) (λ next. received c (completed_act (pending_of vb c.key) c.act) f next refl))
  row_is (call.RollTo at image cas) = made_if _ (is_follower vb.role) (λ f. Rolls at image cas f)
  row_is (call.Promote uuid) = promoting uuid (promote_refusal vb uuid) refl
  row_is call.Follow = made_unless _ (is_role vb.role role.Replica) (Turns _ role.Replica (λ q. q) refl)
  row_is call.Dead = made_unless _ (is_role vb.role role.Dead) (Turns _ role.Dead (λ q. q) refl)
  row_is call.Pend = made_if _ (is_follower vb.role) (λ f. Turns _ role.Pending (λ q. q) refl)
  row_is call.Own = owning (own_refusal vb) refl
  row_is (call.Yield id) = made_if _ (is_active vb.role) (λ on. yielding id (stream_at id vb.streams) on refl)
  row_is call.Seal = Seals _
  row_is call.Trim = Trims
  row_is (call.DropCursor id) = Streams _ _ _ (Drops id)
  row_is call.FlushTake = flushed (unflushed_span vb) refl
  row_is (call.FlushDone seq) = Settles _ _ (Saves seq)
  row_is call.Stat = Tells _ _
  row_is call.Log = Tells _ _
  row_is call.Show = Tells _ _

-- requests of clients for streams, judged by hand
use Rattle.vb_types.specs.declared.status.Status.TheVariants as status
use Rattle.transcript_law.proofs.rows.ClientStreamMarks.{mark_put}
use Rattle.transcript_law.proofs.rows.ClientStreamItems.{item_put}
use Rattle.transcript_law.specs.Crashes.{ok}
use Rattle.transcript_law.specs.Lawfulness.{LawfulFrom}
use Rattle.transcript_law.specs.BoundRows.{LawfulHere}
use Rattle.std.proofs.Common.{List, [], ap, arith, inr, refl, subst, sym, take, true, false, ℕ, ◌++◌, ◌∙◌, ◌∷◌, ◌≡◌, ◌<◌, inl}
use Rattle.std.specs.Prelude.{Option, Some, None}
unfoldable use Rattle.mcbp_dcp.specs.DcpFrames.{dcp_frame}
use Rattle.mcbp_dcp.specs.declared.message.DcpMsg.TheVariants as msg
unfoldable use Rattle.mcbp_dcp.specs.Messages.{read_of}
unfoldable use Rattle.mcbp_dcp.specs.Rows.{frame_row}
unfoldable use Rattle.mcbp_dcp.specs.Shapes.{shape_fault}
use Rattle.transcript_law.proofs.rows.Answering.{bare_so, dcp_answer}
unfoldable use Rattle.mcbp_frame.specs.Cutting.{frames_in}
unfoldable use Rattle.mcbp_frame.specs.Frames.{first_frame, frame_of}
use Rattle.mcbp_frame.specs.Frames.{big_32_at}
use Rattle.mcbp_frame.specs.declared.frame.Frame.{Frame}
unfoldable use Rattle.mcbp_frame.specs.Spelling.{spelling}
use Rattle.dcp_producer.specs.Serving.{stream_verdict}
use Rattle.vb_types.specs.declared.stream.AskAnswer.{AskAnswer}
use Rattle.vb_types.specs.declared.stream.AskAnswer.TheVariants as ask_answer
use Rattle.vb_types.specs.declared.stream.StreamAsk.{StreamAsk}
use Rattle.vb_events.specs.declared.event.Event.{Event}
use Rattle.vb_events.specs.declared.event.Event.TheVariants as event
use Rattle.transcript_law.specs.Chronicles.{Chronicle}
use Rattle.transcript_law.specs.ClientAskRows.{LawfulAsked, asked, asked_at, closes_first, closing, none, opening, opens_first, requesting, serving, taking_over, that_sent, unanswered, unopened, asked_forked, forked, forked_log, sends_rest}
use Rattle.transcript_law.specs.ClientFrames.{Request, request_in, setup_after}
use Rattle.transcript_law.specs.ClientStreamRows.{all_changes, asks_for, finished, one, put_two, two, up_to, fresh, inside, marked, open_setup, sent, snapshot}
use Rattle.transcript_law.specs.ClientStreams.{ClientKnown, ClientStream, STREAM_NUMBERS, Setup, unclosed}
use Rattle.transcript_law.specs.Followers.{log_of, next_change}
use Rattle.transcript_law.specs.LawfulClients.{InOrder, IsFree, LawfulClientAsk, RefusesBy, RefusesOwn}
use Rattle.vb_types.specs.declared.role.Role.TheVariants.{Active}
use Rattle.transcript_law.specs.StreamLaws.{LawfulSaid}
use Rattle.transcript_law.proofs.rows.ClientStreams.{◌▹◌, all_between}
use Rattle.transcript_law.proofs.rows.Silent.{here_answered}
use Rattle.vb_events.specs.declared.event.Answer.TheVariants as answer
use Rattle.transcript_law.specs.LinesTold.{LastLine}
use Rattle.transcript_law.proofs.verbs.Handing.{hands_plain}

-- ---- requests that are answered as they are to be

-- the frame of an answer to one
abbrev pub answer_of : AskAnswer → Frame
answer_of said = dcp_frame (msg.StreamAnswer (stream_verdict (log_of 5) said)) 9 0

-- the vBucket lets all changes be sent, or refuses
pub goes : (l : Option LastLine) (known : ClientKnown) → LawfulSaid (record (serving two known) { last = l }) 0 0 all_changes 2 (log_of 5) ask_answer.Go
goes l known = record { own_log = refl; own_high = refl; verdict = (refl, λ z. absurd (omega (arith, z))); active = refl }

pub refuses : (known : ClientKnown) (ask : StreamAsk) (code : ℕ) → 0 < code → LawfulSaid (serving two known) 0 0 ask 2 (log_of 5) (ask_answer.Refuse code)
refuses known ask code some = record { own_log = refl; own_high = refl; verdict = λ e. omega (arith, some, e); active = tt }

-- a connection that has no stream, or has one that is over, has nothing against it
pub free : (setup : Setup) → setup.opened ≡ true → RefusesOwn setup None all_changes ask_answer.Go
free setup is = record { unopened = λ e. let z : true ≡ false = sym is ∙ e in cc; unknown = λ e. absurd (omega (arith, e)); takeover = λ o e. absurd (omega (arith, e)); held = λ g e o. cc }

-- nothing is against such a request
pub fair_numbered : (setup : Setup) (had : Option ClientStream) → IsFree had → (ask : StreamAsk) → InOrder ask → (count : ℕ) → count < STREAM_NUMBERS → RefusesBy setup count (Some (Some Active)) had ask ask_answer.Go
fair_numbered setup had free ask order count few o z = inr (few, record { away = λ off. absurd (off refl); again = λ a g e x. absurd (free g e x); outside = λ a f wrong. absurd (wrong order); granted = λ a f i is. let e = is.1 in cc })

-- over a connection that asked for none before
pub fair : (setup : Setup) (had : Option ClientStream) → IsFree had → (ask : StreamAsk) → InOrder ask → RefusesBy setup 0 (Some (Some Active)) had ask ask_answer.Go
fair setup had free ask order = fair_numbered setup had free ask order 0 (omega arith)

pub no_stream : IsFree None
no_stream g e o = cc

pub all_order : InOrder all_changes
all_order = (omega arith, omega arith, omega arith)

pub go : LawfulAsked (that_sent none (requesting 0 all_changes)) (asked all_changes ask_answer.Go)
unfolding spelling dcp_frame frames_in first_frame frame_of read_of frame_row shape_fault
go = record { own_node = refl; request = _; next = refl; numbers = refl; vb = refl; answered = goes _ _; own = free open_setup refl; reason = fair open_setup None no_stream all_changes all_order; frame = ([], refl) } ▹ (λ z. dcp_answer (answer_of ask_answer.Go) refl refl refl refl refl refl (tt, refl)) ▹ tt

pub opened : LawfulAsked (unopened (opening 1 ++ requesting 0 all_changes)) (opens_first ∷ asked all_changes ask_answer.Go)
unfolding spelling dcp_frame frames_in first_frame frame_of read_of frame_row shape_fault
opened = (λ z. dcp_answer (dcp_frame (msg.OpenAnswer 0) 1 0) refl refl refl refl refl (bare_so 80 1 status.Success) (tt, refl)) ▹ record { own_node = refl; request = _; next = refl; numbers = refl; vb = refl; answered = record { own_log = refl; own_high = refl; verdict = (refl, λ z. absurd (omega (arith, z))); active = refl }; own = free (record { opened = true; sync = false; named = false }) refl; reason = fair (record { opened = true; sync = false; named = false }) None no_stream all_changes all_order; frame = ([], refl) } ▹ (λ z. dcp_answer (answer_of ask_answer.Go) refl refl refl refl refl refl (tt, refl)) ▹ tt

pub refused_before : LawfulAsked (unopened (requesting 0 all_changes)) (asked all_changes (ask_answer.Refuse 4))
unfolding spelling dcp_frame frames_in first_frame frame_of read_of frame_row shape_fault
refused_before = record { own_node = refl; request = _; next = refl; numbers = refl; vb = refl; answered = refuses _ all_changes 4 (omega arith); own = record { unopened = λ e. refl; unknown = λ e. refl; takeover = λ o e. absurd (omega (arith, e)); held = λ g e o. cc }; reason = λ o. cc; frame = ([], refl) } ▹ (λ z. dcp_answer (answer_of (ask_answer.Refuse 4)) refl refl refl refl refl refl (tt, refl)) ▹ tt

pub refused_takeover : LawfulAsked (that_sent none (requesting 0 taking_over)) (asked taking_over (ask_answer.Refuse 131))
unfolding spelling dcp_frame frames_in first_frame frame_of read_of frame_row shape_fault
refused_takeover = record { own_node = refl; request = _; next = refl; numbers = refl; vb = refl; answered = refuses _ taking_over 131 (omega arith); own = record { unopened = λ e. cc; unknown = λ e. absurd (omega (arith, e)); takeover = λ o e. refl; held = λ g e o. cc }; reason = λ o z. absurd (omega (arith, z)); frame = ([], refl) } ▹ (λ z. dcp_answer (answer_of (ask_answer.Refuse 131)) refl refl refl refl refl refl (tt, refl)) ▹ tt

pub refused_held : LawfulAsked (that_sent (one put_two) (requesting 0 all_changes)) (asked all_changes (ask_answer.Refuse 2))
unfolding spelling dcp_frame frames_in first_frame frame_of read_of frame_row shape_fault
refused_held = record { own_node = refl; request = _; next = refl; numbers = refl; vb = refl; answered = refuses _ all_changes 2 (omega arith); own = record { unopened = λ e. cc; unknown = λ e. absurd (omega (arith, e)); takeover = λ o e. absurd (omega (arith, e)); held = λ g e o. (2, refl) }; reason = λ o z. inr (omega arith, record { away = λ off. absurd (off refl); again = λ a g e x. refl; outside = λ a f wrong. inr refl; granted = λ a f i is. refl }); frame = ([], refl) } ▹ (λ z. dcp_answer (answer_of (ask_answer.Refuse 2)) refl refl refl refl refl refl (tt, refl)) ▹ tt

pub closed : LawfulAsked (that_sent (one put_two) (closing 0 ++ requesting 0 all_changes)) (closes_first ∷ asked all_changes ask_answer.Go)
unfolding spelling dcp_frame frames_in first_frame frame_of read_of frame_row shape_fault
closed = (λ z. dcp_answer (dcp_frame (msg.CloseAnswer 0) 4 0) refl refl refl refl refl (bare_so 82 4 status.Success) (tt, refl)) ▹ record { own_node = refl; request = _; next = refl; numbers = refl; vb = refl; answered = record { own_log = refl; own_high = refl; verdict = (refl, λ z. absurd (omega (arith, z))); active = refl }; own = free open_setup refl; reason = fair open_setup None no_stream all_changes all_order; frame = ([], refl) } ▹ (λ z. dcp_answer (answer_of ask_answer.Go) refl refl refl refl refl refl (tt, refl)) ▹ tt

-- one that is over is none
over_one : (g : ClientStream) → Some (finished put_two) ≡ Some g → g.over ≡ false → ⊥
over_one g e o = let same : finished put_two ≡ g = cc in let z : true ≡ false = ap (λ (h : ClientStream). h.over) same ∙ o in cc

pub over : LawfulAsked (that_sent (one (finished put_two)) (requesting 0 all_changes)) (asked all_changes ask_answer.Go)
unfolding spelling dcp_frame frames_in first_frame frame_of read_of frame_row shape_fault
over = record { own_node = refl; request = _; next = refl; numbers = refl; vb = refl; answered = goes _ _; own = record { unopened = λ e. cc; unknown = λ e. absurd (omega (arith, e)); takeover = λ o e. absurd (omega (arith, e)); held = λ g e o. absurd (over_one g e o) }; reason = fair open_setup (Some (finished put_two)) over_one all_changes all_order; frame = ([], refl) } ▹ (λ z. dcp_answer (answer_of ask_answer.Go) refl refl refl refl refl refl (tt, refl)) ▹ tt

-- ---- requests that are not

-- a request is the one that was sent
module _ (chronicle : Chronicle) (known : ClientKnown) (m v : ℕ) (ask : StreamAsk) (said : AskAnswer) (behind : List Event) (l : LawfulClientAsk chronicle known 0 1 m v ask 2 (log_of 5) said behind) (r : Request) (is : request_in known.bytes ≡ Some r) where
  request_is : l.request ≡ r
  request_is = let e : Some l.request ≡ Some r = sym l.next ∙ is in cc

  numbers_are : r.ask ≡ ask
  numbers_are = ap (λ (q : Request). q.ask) (sym request_is) ∙ l.numbers

  own_of : RefusesOwn (setup_after known.setup r.before) (unclosed r.before known.streams v) ask said
  own_of = subst (λ (q : Request). RefusesOwn (setup_after known.setup q.before) (unclosed q.before known.streams v) ask said) request_is l.own

pub end : LawfulAsked (that_sent none (requesting 0 (up_to 2))) (asked (up_to 3) ask_answer.Go) → ⊥
unfolding spelling dcp_frame frames_in first_frame frame_of read_of frame_row shape_fault
end l = let e : ◌≡◌ {A = ℕ} 2 3 = ap (λ (a : StreamAsk). a.end) (numbers_are _ _ _ _ _ _ _ l.0 _ refl) in omega (arith, e)

pub start : LawfulAsked (that_sent none (requesting 0 (asks_for 1 1 1 2))) (asked (up_to 2) ask_answer.Go) → ⊥
unfolding spelling dcp_frame frames_in first_frame frame_of read_of frame_row shape_fault
start l = let e : ◌≡◌ {A = ℕ} 1 0 = ap (λ (a : StreamAsk). a.start) (numbers_are _ _ _ _ _ _ _ l.0 _ refl) in omega (arith, e)

pub vb : LawfulAsked (that_sent none (requesting 1 all_changes)) (asked all_changes ask_answer.Go) → ⊥
unfolding spelling dcp_frame frames_in first_frame frame_of read_of frame_row shape_fault
vb l = let e : ◌≡◌ {A = ℕ} 1 0 = ap (λ (q : Request). q.frame.vb_or_status) (sym (request_is _ _ _ _ _ _ _ l.0 _ refl)) ∙ l.0.vb in omega (arith, e)

pub elsewhere : LawfulAsked (that_sent none (requesting 0 all_changes)) (asked_at 1 0 9 all_changes ask_answer.Go) → ⊥
elsewhere l = let e : ◌≡◌ {A = ℕ} 1 0 = l.0.own_node in omega (arith, e)

pub unframed : LawfulAsked (that_sent none (requesting 0 all_changes)) (unanswered all_changes) → ⊥
unframed l = let e : [] ≡ event.Reply 0 1 (spelling (dcp_frame (msg.StreamAnswer (stream_verdict (log_of 5) ask_answer.Go)) l.0.request.frame.opaque 0)) ∷ l.0.frame.0 = l.0.frame.1 in cc

-- the opaque of a frame
opaque_of : List ℕ → ℕ
opaque_of bytes = big_32_at bytes 12

-- an answer goes out as these bytes
answered_as : (chronicle : Chronicle) (known : ClientKnown) (bytes : List ℕ) (opaque : ℕ) → LawfulClientAsk chronicle known 0 1 0 0 all_changes 2 (log_of 5) ask_answer.Go (event.Reply 0 1 bytes ∷ []) → (r : Request) → request_in known.bytes ≡ Some r → r.frame.opaque ≡ opaque → bytes ≡ spelling (dcp_frame (msg.StreamAnswer (stream_verdict (log_of 5) ask_answer.Go)) opaque 0)
answered_as chronicle known bytes opaque l r is at =
    let same : l.request ≡ r = request_is chronicle known 0 0 all_changes ask_answer.Go (event.Reply 0 1 bytes ∷ []) l r is in
    by _ l.frame.0 l.frame.1 ∙ ap (λ o. spelling (dcp_frame (msg.StreamAnswer (stream_verdict (log_of 5) ask_answer.Go)) o 0)) (ap (λ (q : Request). q.frame.opaque) same ∙ at)
  where
    by : (there : List ℕ) (more : List Event) → event.Reply 0 1 bytes ∷ [] ≡ event.Reply 0 1 there ∷ more → bytes ≡ there
    by there more e = cc

pub opaque : LawfulAsked (that_sent none (requesting 0 all_changes)) (asked_at 0 0 8 all_changes ask_answer.Go) → ⊥
unfolding opaque_of spelling dcp_frame frames_in first_frame frame_of read_of frame_row shape_fault
opaque l = let e : ◌≡◌ {A = ℕ} 8 9 = ap opaque_of (answered_as _ (that_sent none (requesting 0 all_changes)) _ 9 l.0 _ refl refl) in omega (arith, e)

-- nothing was asked for
none_sent : (chronicle : Chronicle) (known : ClientKnown) (m v : ℕ) (ask : StreamAsk) (said : AskAnswer) (behind : List Event) → LawfulClientAsk chronicle known 0 1 m v ask 2 (log_of 5) said behind → request_in known.bytes ≡ None → ⊥
none_sent chronicle known m v ask said behind l e = let z : None ≡ Some l.request = sym e ∙ l.next in cc

pub unsent : LawfulAsked (that_sent none []) (asked all_changes ask_answer.Go) → ⊥
unfolding spelling dcp_frame frames_in first_frame frame_of read_of frame_row shape_fault
unsent l = none_sent _ _ _ _ _ _ _ l.0 refl

pub part : LawfulAsked (that_sent none (take 71 (requesting 0 all_changes))) (asked all_changes ask_answer.Go) → ⊥
unfolding spelling dcp_frame frames_in first_frame frame_of read_of frame_row shape_fault
part l = none_sent _ _ _ _ _ _ _ l.0 refl

pub again : LawfulAsked (that_sent none (requesting 0 all_changes)) (asked all_changes (ask_answer.Refuse 2) ++ asked all_changes (ask_answer.Refuse 2)) → ⊥
unfolding spelling dcp_frame frames_in first_frame frame_of read_of frame_row shape_fault
again l = none_sent _ _ _ _ _ _ _ l.1.1.0 refl

-- a stream is let continue, and not refused
no_refusal : (code : ℕ) → ask_answer.Go ≡ ask_answer.Refuse code → ⊥
no_refusal code e = cc

pub before_open : LawfulAsked (unopened (requesting 0 all_changes)) (asked all_changes ask_answer.Go) → ⊥
unfolding spelling dcp_frame frames_in first_frame frame_of read_of frame_row shape_fault
before_open l = no_refusal 4 ((own_of _ _ _ _ _ _ _ l.0 _ refl).unopened refl)

pub takeover : LawfulAsked (that_sent none (requesting 0 taking_over)) (asked taking_over ask_answer.Go) → ⊥
unfolding spelling dcp_frame frames_in first_frame frame_of read_of frame_row shape_fault
takeover l = no_refusal 131 ((own_of _ _ _ _ _ _ _ l.0 _ refl).takeover refl refl)

pub held : LawfulAsked (that_sent (one put_two) (requesting 0 all_changes)) (asked all_changes ask_answer.Go) → ⊥
unfolding spelling dcp_frame frames_in first_frame frame_of read_of frame_row shape_fault
held l = let (code, e) = (own_of _ _ _ _ _ _ _ l.0 _ refl).held put_two refl refl in no_refusal code e

pub other_closed : LawfulAsked (that_sent (one put_two) (closing 1 ++ requesting 0 all_changes)) (closes_first ∷ asked all_changes ask_answer.Go) → ⊥
unfolding spelling dcp_frame frames_in first_frame frame_of read_of frame_row shape_fault
other_closed l = let (code, e) = (own_of _ _ _ _ _ _ _ l.1.0 _ refl).held put_two refl refl in no_refusal code e

-- ---- what begins with a request

-- a stream that begins inside a snapshot is sent what lies above its start
pub resumes : LawfulAsked (that_sent none (requesting 0 (asks_for 0 1 2 9))) (asked (asks_for 0 1 2 9) ask_answer.Go ++ marked 0 0 2 ++ sent 0 next_change)
unfolding spelling dcp_frame frames_in first_frame frame_of read_of frame_row shape_fault
resumes =
    record { own_node = refl; request = _; next = refl; numbers = refl; vb = refl; answered = record { own_log = refl; own_high = refl; verdict = (refl, λ z. refl); active = refl }; own = record { unopened = λ e. cc; unknown = λ e. absurd (omega (arith, e)); takeover = λ o e. absurd (omega (arith, e)); held = λ g e o. cc }; reason = fair open_setup None no_stream (asks_for 0 1 2 9) (omega arith, omega arith, omega arith); frame = (_, refl) } ▹ (λ z. dcp_answer (answer_of ask_answer.Go) refl refl refl refl refl refl (tt, refl))
    ▹ mark_put _ _ 0 0 2 (fresh true (asks_for 0 1 2 9)) _ refl refl refl refl refl (record { opens = refl; stays = refl; goes_on = λ r. r; behind = tt; starts = refl; reaches = omega arith; whole = (next_change ∷ [], all_between two 1 2 (omega arith) (omega arith, omega arith) refl) }) ▹ (λ z. cc)
    ▹ item_put _ _ 0 next_change (inside true (asks_for 0 1 2 9) two 1 2 []) (snapshot two 1 2 []) [] refl refl refl refl refl refl refl (inr (inl refl)) (next_change, inr (inl refl), refl) ([], record { whole = next_change ∷ []; covers = all_between two 1 2 (omega arith) (omega arith, omega arith) refl; front = refl }, λ e. refl) ▹ (λ z. cc) ▹ tt

-- a stream is of the newest branch, whichever was named
forked_stream : ClientStream
forked_stream = fresh true (asks_for 1 1 1 9)

pub newest : LawfulFrom (forked (that_sent none (requesting 0 (asks_for 1 1 1 9)))) (asked_forked ++ marked 0 1 2 ++ sent 0 next_change)
unfolding spelling dcp_frame frames_in first_frame frame_of read_of frame_row shape_fault
newest =
    record { own_node = refl; request = _; next = refl; numbers = refl; vb = refl; answered = record { own_log = refl; own_high = refl; verdict = (refl, λ z. refl); active = refl }; own = record { unopened = λ e. cc; unknown = λ e. absurd (omega (arith, e)); takeover = λ o e. absurd (omega (arith, e)); held = λ g e o. cc }; reason = fair open_setup None no_stream (asks_for 1 1 1 9) (omega arith, omega arith, omega arith); frame = (_, refl) } ▹ (λ z. dcp_answer (dcp_frame (msg.StreamAnswer (stream_verdict forked_log ask_answer.Go)) 9 0) refl refl refl refl refl refl (tt, refl))
    ▹ mark_put _ _ 0 1 2 (record (fresh true (asks_for 1 1 1 9)) { branch = 7 }) _ refl refl refl refl refl (record { opens = refl; stays = refl; goes_on = λ r. r; behind = tt; starts = refl; reaches = omega arith; whole = (next_change ∷ [], all_between two 1 2 (omega arith) (omega arith, omega arith) refl) }) ▹ (λ z. cc)
    ▹ item_put _ _ 0 next_change (record (inside true (asks_for 1 1 1 9) two 1 2 []) { branch = 7 }) (snapshot two 1 2 []) [] refl refl refl refl refl refl refl (inr (inl refl)) (next_change, inr (inl refl), refl) ([], record { whole = next_change ∷ []; covers = all_between two 1 2 (omega arith) (omega arith, omega arith) refl; front = refl }, λ e. refl) ▹ (λ z. cc) ▹ tt

-- a request that comes in two pieces is one
pub pieces : LawfulHere (serving two (that_sent none (take 30 (requesting 0 all_changes)))) (sends_rest 30 (requesting 0 all_changes)) (ok (asked all_changes ask_answer.Go))
unfolding spelling dcp_frame frames_in first_frame frame_of read_of frame_row shape_fault
pieces = (
  (
    (record { own_node = refl; request = _; next = refl; numbers = refl; vb = refl; answered = record { own_log = refl; own_high = refl; verdict = (refl, λ z. absurd (omega (arith, z))); active = refl }; own = free open_setup refl; reason = fair open_setup None no_stream all_changes all_order; frame = ([], refl) }, ((refl, λ z. dcp_answer (answer_of ask_answer.Go) refl refl refl refl refl refl (tt, refl)), tt)),
    refl,
    refl,
    refl,
    λ w no standing. cc,
    hands_plain _ _ _ _ refl refl,
    tt,
    tt,
    here_answered (serving two (that_sent none (take 30 (requesting 0 all_changes)))) (sends_rest 30 (requesting 0 all_changes)) (asked all_changes ask_answer.Go) answer.Ok (λ n c e. rw e refl) refl refl,
    tt,
    λ e. cc,
    (tt, tt),
  ),
  tt,
)

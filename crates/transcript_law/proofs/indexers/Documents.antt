-- requests of a client for documents: all lines are lawful, each answer fits what the lines tell, and after them all agrees, with the connection as the session left it
use Rattle.std.specs.Prelude.{◌≡◌, ◌≢◌, ◌⊎◌, ◌<◌, ◌≤◌, ◌*◌, ◌+◌, ◌∷◌, ◌++◌, ◌^◌, if◌then◌else◌, nat_le}
use Rattle.transcript_law.proofs.Words.{ℕ, Bool, true, false, List, [], refl, ap, sym, ◌∙◌, subst, inl, inr, ⊎_elim, arith, nat_tests, ne_eqb, Pend, All-cons, append_assoc, append-nil, AreBytes, Option, Some, None, Result, Ok, Err, length, image_of, eq-eqb, Op, Frame, WriteFits, KvRequest, Change}
use Rattle.transcript_law.proofs.Words.{Event, Status, Write, Member, Move, happens, VbReply, VbCall, Plain, plain_step, Done, after, newest_branch, is_active, doc_at, refusal_reply, States, with_vb_at, call_at, growth, write_change, new_cas}
use Rattle.transcript_law.proofs.Words.{Sound, StaysSound, PlainSession, request_handled, told, PlainNode, PlainWorld, with_node_at, with_client, with_states, spelling, Chronicle, after_lines, after_change}
use Rattle.transcript_law.proofs.{Words.{LawfulFrom}, disks.Disks.{power_in}, invariant.Seats.{seat}, invariant.Agreement.{Agrees, AgreesIn, clock_of, idle}, invariant.Carrying.{Changed}, lines.Lines.{lawful_more}, verbs.NodeLines.{agrees_same, node_again, node_grown, put_same, shelves_again}}
use Rattle.transcript_law.proofs.answers.{Awaited.{IsOutstanding, Stood, awaited, prepared_stood, written_stood}, Calm.{OfDurable, durable_settled, durable_told}, Claims.{IsOwn, OwnClaim, changes_last, serves_line}, Committed.{HowTold, all_told, change_told}, Explained.{explained, outcome_in, placed_of}}
use Rattle.{durability.specs.declared.waiting.Waiting.{Waiting}, std.proofs.lemmas.Bool.{cases_eq}, transcript_law.proofs.invariant.{Carrying.{same_clients}, Holdings.{vb_of}, Owed.{IsWaitOf, Owed, Owing, fewer_some, owed_placed}}, transcript_law.specs.StreamsTold.{Asking}}
use Rattle.transcript_law.proofs.answers.Fits.{KnownAs, Repeats, durable_away, durable_refused_fits, frame_fits, is_outcome, get_away, get_fits, has_opcode, known_as, made_fits, not_here, outcome_fits, outcome_repeats, refused_fits, reply_repeats, status_fits, status_repeats, stored_repeats, value_repeats, welcome_fits, write_away}
use Rattle.transcript_law.proofs.{invariant.ClientsTold.{HasUsed}, invariant.Lefts.{left_on, left_placed}, invariant.Sessions.{Received}, invariant.Tables.{at_here}, indexers.{Hands.{Goes, Standing, answered_goes, calmly, session_goes, stands}, Questions.{awaited_asks, hand_zero, in_hand, used_as}, Worlds.{client_here, step_quiet, vb_here, waited_else_same, world_with}}, verbs.Settling.{SettlesOn, Steady, changes_quiet, changes_told, settles}}
use Rattle.transcript_law.proofs.{lines.Telling.{LawfulBefore, before_more, told_more}, verbs.Writing.{change_fits, fewer_written, has_room, is_lawful, mine as mine_vb, newest, prepare_fits, prepare_fulfils, prepare_unheld, room_for_two, store_taken, write_aborts, write_fulfils, write_prepares, write_unheld, written}, verbs.Times.{fewer_times, placed_times, up_at_end}}
use Rattle.client_session.specs.Answers.{status_reply, stored_reply, value_reply, reply_to, reply_line, reply_lines, change_lines}
use Rattle.client_session.specs.Serving.{MOST_DURABLE, Served, awaited_by, deadline_of, durable_called, durable_replied, next_waiter, outcome_of, outcome_reply, answered_or_awaited, refused, served, settings_of, with_lines, with_used}
use Rattle.client_session.{specs.Serving.{is_dcp}, specs.declared.session.{Awaited.{Awaited}, Settings.{Settings}, Who.{Who}}}
use Rattle.{mcbp_kv.proofs.Commands.{read_fits, timeouts_fit}, mcbp_kv.specs.Features.{feature_bytes}, mcbp_kv.specs.Requests.{request_of}, mcbp_kv.specs.Replies.{reply_frame}, mcbp_kv.specs.declared.{durable.Durability.{Durability}, reply.KvReply.{KvReply}}}
use Rattle.transcript_law.proofs.indexers.{Answering.{answered_by, clients_past, durably_by, one_branch, put_twice}, Requests.{AskedFits, IsUncounted, no_change, removes_alone, some_reply}}
use Rattle.vb_calls.specs.{Settling.{is_empty, settled, unresolved}, State.{get_row, is_left, pending_of}, States.{stepped_at}, Durable.{Wish, durable_outcome, is_delete, durable_refusal, outstanding, prepare_change, prepared_vb}}
use Rattle.vb_calls.specs.Writes.{store_refusal, store_outcome, key_refusal, lacks_seqnos, new_rev, written_doc}
use Rattle.vb_calls.specs.declared.calls.{Resolution.{Resolution}, VbCall.TheVariants.{Durable, Get, Store}}
use Rattle.transcript_law.specs.{LawfulAnswers.{AllDurable, FitsFrame, FitsRequest, HasNumber, IsMadeIn, IsStill, IsTimely, WRITE_NUMBERS, serving}, LawfulClients.{IsActive}, LawfulMessages.{Moment, moment_of}, Lawfulness.{IsPrepareAsked, IsUp}, Questions.{Question, durables_after, durables_by, question_of, settings_after, settings_by}, LinesTold.{LastLine, OwnChange, told_for}, StreamsTold.{ClientsKnown, with_at}, Unanswered.{AsksDurably}}
use Rattle.vb_types.specs.declared.status.Status.TheVariants.{Etmpfail, NotMyVbucket, Success}
use Rattle.mcbp_kv.specs.declared.request.KvRequest.TheVariants as request
use Rattle.durability.specs.{Chains.{is_possible}, Outstanding.{placed}}
use Rattle.{node_core.specs.Clients.{PlainClient}, transcript_law.proofs.verbs.Making.{prepare_is_next, write_is_next}, vbucket.proofs.{Preparing.{durable_free, prepared_sound}, RowIs.{Prepares}, Soundness.{cas_rises}, Storing.{said_none}}}
use Rattle.transcript_law.proofs.invariant.Owing.{IsToldIn, OwedIf, OwedIn}
use Rattle.vb_types.specs.declared.change.Act.TheVariants as act
use Rattle.vb_types.specs.declared.{change.Level.{Level}, doc.Doc.{Doc}}

module _ (stays : StaysSound) (steady : Steady) (w : PlainWorld) (r : Chronicle) (n c clock : ℕ) (base : PlainNode) (client : PlainClient) (before : List Event) (small : clock < 2 ^ 64) (shows : base.clock ≡ clock) where
  -- the node with this connection
  abbrev node : PlainNode
  node = with_client base c (Some client)

  -- the world in which the node has these vBuckets
  abbrev pub world_at : States → PlainWorld
  world_at states = with_node_at w n (with_states node states)

  -- what was read so far
  abbrev pub so_far : States × Served → Chronicle
  so_far x = after_lines r (before ++ x.1.events)

  -- a session of this connection
  abbrev pub AtConn : PlainSession → Type 0
  AtConn session = (session.who.node ≡ n) × (session.who.client ≡ c)

  -- the durable changes of the group in which its question was so first
  abbrev serving_at : States × Served → Option (List OwnChange)
  serving_at x = serving (so_far x) n c ((so_far x).clients_at n c).asking

  -- so far all is lawful and agrees, at a session of the connection
  abbrev pub Now : States × Served → Type 0
  Now x = LawfulBefore r (before ++ x.1.events) × Agrees (world_at x.0) (so_far x) × AtConn x.1.session

  -- changes
  told_each_change : (x : States × Served) → Now x → (states : States) (m v u uuid : ℕ) (changes : List Change) → m ≡ n → u ≡ uuid → LawfulFrom (so_far x) (changes_told n v uuid changes)
      → Agrees (world_at states) (after_lines (so_far x) (changes_told n v uuid changes)) → Now (states, with_lines x.1 (changes_told m v u changes))
  told_each_change x now states m v u uuid changes at on lawful agrees =
      let lines : List Event = changes_told n v uuid changes in
      let it : Now (states, with_lines x.1 lines) = (
        subst (LawfulBefore r) (append_assoc before x.1.events lines) (before_more r (before ++ x.1.events) lines now.0 (λ more rest. lawful_more (so_far x) lines more (changes_quiet n v uuid changes) lawful rest)),
        subst (Agrees (world_at states)) (sym (ap (after_lines r) (sym (append_assoc before x.1.events lines)) ∙ told_more r (before ++ x.1.events) lines)) agrees,
        now.2,
      ) in
      subst (λ es. Now (states, with_lines x.1 es)) (λ i. changes_told (sym at i) v (sym on i) changes) it

  -- what was read so far, with more lines
  reads : (x : States × Served) (states : States) (lines : List Event) → so_far (states, with_lines x.1 lines) ≡ after_lines (so_far x) lines
  reads x states lines = ap (after_lines r) (sym (append_assoc before x.1.events lines)) ∙ told_more r (before ++ x.1.events) lines

  -- what it comes to: the connection has the session that was left
  abbrev pub Ends : States × Served → Type 0
  Ends x = Goes w n c base r x.0 (before ++ x.1.events) (record client { session = x.1.session })

  -- the frame f is to be answered, and is in hand; so many durable writes were answered before
  module _ (bytes : AreBytes client.session.reader) (f : Frame) (ahead : List Frame) (hand : client.session.awaited ≡ Some (in_hand f)) (own : is_dcp f.opcode ≡ false) (count : ℕ) where
    abbrev v : ℕ
    v = f.vb_or_status

    abbrev question : Question
    question = record { before = ahead; frame = f }

    -- so far it was not answered
    pub record Held (x : States × Served) : Type 0 where
      pub now : Now x
      pub next : question_of ((so_far x).clients_at n c).asking ≡ Some question
      pub count_is : ((so_far x).clients_at n c).asking.durables ≡ count
      pub who : x.1.session.who ≡ client.session.who
      pub closed : x.1.session.closed ≡ client.session.closed
      pub reader : x.1.session.reader ≡ client.session.reader
      pub free : x.1.session.awaited ≡ None
      pub settings : x.1.session.settings ≡ client.session.settings
      pub used : x.1.session.used ≡ client.session.used

    -- changes were told
    changed : (x : States × Served) (states : States) (m q u : ℕ) (changes : List Change) → Held x → Now (states, with_lines x.1 (changes_told m q u changes)) → Held (states, with_lines x.1 (changes_told m q u changes))
    changed x states m q u changes held now = record {
      now = now;
      next = ap (λ (k : Chronicle). question_of (k.clients_at n c).asking) (reads x states (changes_told m q u changes)) ∙ ap (λ (t : ClientsKnown). question_of (t n c).asking) (clients_past (so_far x) m q u changes) ∙ held.next;
      count_is = ap (λ (k : Chronicle). (k.clients_at n c).asking.durables) (reads x states (changes_told m q u changes)) ∙ ap (λ (t : ClientsKnown). (t n c).asking.durables) (clients_past (so_far x) m q u changes) ∙ held.count_is;
      who = held.who;
      closed = held.closed;
      reader = held.reader;
      free = held.free;
      settings = held.settings;
      used = held.used;
    }

    goes_of : (x : States × Served) (states : States) → ((q : ℕ) → states q ≡ x.0 q) → Now x → Standing w n c base r states (before ++ x.1.events) client
    goes_of x states same now = record {
      lawful = now.0;
      agrees = agrees_same (world_at x.0) (world_at states) (so_far x) now.1 (node_again w n (with_states node x.0) (with_states node states) same (λ q. refl) refl);
      bytes = bytes;
    }

    -- it is answered, and each vBucket is as it was
    module _ (x : States × Served) (held : Held x) (states : States) (same : (q : ℕ) → states q ≡ x.0 q) where
      abbrev settings : Settings
      settings = x.1.session.settings

      answered : (asked : Result KvRequest Status) → request_of settings.json f ≡ asked → (session : PlainSession) → session.who ≡ x.1.session.who → session.closed ≡ x.1.session.closed → session.reader ≡ x.1.session.reader → session.awaited ≡ None
          → session.settings ≡ settings_by asked settings → session.used ≡ x.1.session.used → HasUsed session.used (durables_by asked count) → (reply : KvReply) → Repeats f (reply_frame reply) → FitsRequest (serving_at x) (so_far x) n count settings f (reply_frame reply) asked → IsTimely (so_far x) settings f (reply_frame reply)
          → Ends (states, served session (x.1.events ++ reply_line x.1.session.who.node x.1.session.who.client reply ∷ []))
      unfolding reply_line
      answered asked is session who closed reader free set same_used numbers reply repeats fits calm =
          let g : Standing w n c base r states (before ++ x.1.events) client = goes_of x states same held.now in
          let known = (stands w n c base r g).asks.settings in
          let frame : Frame = reply_frame reply in
          let moment : Moment = moment_of ((so_far x).clients_at n c) ((so_far x).clients_at n c).asking question in
          let at : FitsFrame (serving_at x) (so_far x) n moment settings f frame = frame_fits (serving_at x) (so_far x) n moment settings f frame own (subst (λ k. FitsRequest (serving_at x) (so_far x) n k settings f frame (request_of settings.json f)) (sym held.count_is) (subst (FitsRequest (serving_at x) (so_far x) n count settings f frame) (sym is) fits)) in
          let after : settings_after settings f ≡ settings_by asked settings = (λ i. if own i then settings else settings_by (is i) settings) in
          let counted : durables_after settings f count ≡ durables_by asked count = (λ i. if own i then count else durables_by (is i) count) in
          subst (λ es. Goes w n c base r states es (record client { session = session }))
          (append_assoc before x.1.events (Event.Reply n c (spelling frame) ∷ []) ∙ (λ i. before ++ (x.1.events ++ Event.Reply (sym held.now.2.0 i) (sym held.now.2.1 i) (spelling frame) ∷ [])))
          (answered_goes w n c base r g session (who ∙ held.who) (closed ∙ held.closed) (reader ∙ held.reader) (in_hand f) hand question held.next free
          (set ∙ sym after ∙ ap (λ (s : Settings). settings_after s f) held.settings) (let u = same_used ∙ held.used in omega (arith, u)) (λ l. subst (λ k. k < 2 ^ 32) (sym (same_used ∙ held.used)) l)
          (subst (λ k. HasUsed session.used (durables_after ((so_far x).clients_at n c).asking.settings f k)) (sym held.count_is) (subst (λ s. HasUsed session.used (durables_after s f count)) (held.settings ∙ sym known) (used_as refl (sym counted) numbers))) frame repeats.response repeats.opcode repeats.opaque
          (subst (λ s. FitsFrame (serving_at x) (so_far x) n moment s f frame) (held.settings ∙ sym known) at) (subst (λ s. IsTimely (so_far x) s f frame) (held.settings ∙ sym known) calm))

      -- with a status alone
      status_goes : (asked : Result KvRequest Status) (st : Status) → request_of settings.json f ≡ asked → settings ≡ settings_by asked settings → HasUsed x.1.session.used (durables_by asked count) → FitsRequest (serving_at x) (so_far x) n count settings f (reply_frame (status_reply f st)) asked → IsStill (so_far x) → Ends (states, refused f st x.1)
      status_goes asked st is set numbers fits calm = answered asked is x.1.session refl refl refl held.free set refl numbers (status_reply f st) (status_repeats f st) fits (inr (inr calm))

    -- nothing was entered for the question in hand
    unserved_at : (x : States × Served) (held : Held x) (line : LastLine) → (so_far x).last ≡ Some line → told_for (line.served n c) ((so_far x).clients_at n c).asking.answered (so_far x).made ≡ (so_far x).made
    unserved_at x held line rises =
        let here : PlainWorld = world_with w n c base x.0 (Some client) in
        let all : OwedIn line here (so_far x) = subst (λ l. OwedIf l here (so_far x)) rises held.now.1.1.clients.owed in
        (all.each n c client (client_here w n c base x.0 (Some client))).unserved (λ b e. hand_zero true f b (sym hand ∙ e)) (so_far x).made

    -- a durable write is awaited, of which it is known what waits under its number
    awaits : (x : States × Served) → Held x → AllDurable (so_far x).made → (a : Awaited) → a.opcode ≡ f.opcode → a.opaque ≡ f.opaque → (write : Write) (wish : Durability) → request_of x.1.session.settings.json f ≡ Ok (request.Write write (Some wish))
        → a.waiter ≡ x.1.session.who.base * 2 ^ 32 + x.1.session.used → ((line : LastLine) (u : ℕ) (y : Waiting) (p : Pend) → (so_far x).last ≡ Some line → Owing (x.0 u) y p → y.waiter ≡ a.waiter → IsOwn n v write wish (so_far x).made u y p)
        → (a.waiter ≡ 0 → ⊥) → HasNumber count → HasUsed x.1.session.used (count + 1) → Ends (x.0, record x.1 { session = record x.1.session { awaited = Some a } })
    awaits x held calm a code number write wish is last owns some left numbers =
        let g : Standing w n c base r x.0 (before ++ x.1.events) client = goes_of x x.0 (λ q. refl) held.now in
        let session : PlainSession = record x.1.session { awaited = Some a } in
        let client' : PlainClient = record client { session = session } in
        let so : Chronicle = so_far x in
        let durable : AsksDurably x.1.session.settings f = record { own = own; write = write; wish = wish; asks = is } in
        let asking : Asking = (so.clients_at n c).asking in
        let step = step_quiet w n c base x.0 x.0 (Some client) (Some client') (λ q. refl) in
        let back : (u : ℕ) (y : Waiting) (p : Pend) → Owing (vb_of (world_with w n c base x.0 (Some client')) n u) y p → Owing (x.0 u) y p = λ u y p owing. subst (λ o. Owing o y p) (vb_here w n c base x.0 (Some client') u) owing in
        let again : (u : ℕ) (y : Waiting) (p : Pend) → Owing (x.0 u) y p → Owing (vb_of (world_with w n c base x.0 (Some client)) n u) y p = λ u y p owing. subst (λ o. Owing o y p) (sym (vb_here w n c base x.0 (Some client) u)) owing in
        let same : asking.settings ≡ x.1.session.settings = (stands w n c base r g).asks.settings ∙ sym held.settings in
        let owed : Owed (world_with w n c base x.0 (Some client')) so = waited_else_same w n c base x.0 x.0 client client' so g.agrees.0 g.agrees.1 step held.who (λ line rises k. record {
          base = subst (λ who. who.base ≤ line.number) (sym held.who) k.base;
          used = subst (λ u. u < 2 ^ 32) (sym held.used) k.used;
          number = λ b e. let one : a ≡ b = cc in inr (ap (λ (t : Awaited). t.waiter) (sym one) ∙ last);
          unserved = λ idle. k.unserved (λ b e. hand_zero true f b (sym hand ∙ e));
          upto = k.upto;
          past = λ u y p owing. subst (λ (t : Who × ℕ). t.0.base * 2 ^ 32 + t.1 < y.waiter → y.waiter < (t.0.base + 1) * 2 ^ 32 → ⊥) (λ i. (sym held.who i, sym held.used i)) (k.past u y p (again u y p (back u y p owing)));
          own = λ b q u y p e asks owing number.
              let one : a ≡ b = cc in
              let at = owns line u y p rises (back u y p owing) (number ∙ ap (λ (t : Awaited). t.waiter) (sym one)) in
              let both : Some question ≡ Some q = sym held.next ∙ asks in
              let frame : f ≡ q.frame = cc in
              subst (λ told. IsWaitOf n asking.settings q.frame u y p told) (sym (k.unserved (λ b e. hand_zero true f b (sym hand ∙ e)) so.made))
              (subst (λ g. IsWaitOf n asking.settings g u y p so.made) frame (record { at = sym at.0; write = write; wish = wish; asks = subst (λ (t : Settings). request_of t.json f ≡ Ok (request.Write write (Some wish))) (sym same) is; prepares = at.1; told_in = at.2 }));
        }) in
        calmly w n c base r (session_goes w n c base r g session held.who held.closed held.reader
        (awaited_asks asking client.session session client.producer.handshake (stands w n c base r g).asks f a ahead hand held.next held.reader held.settings refl code number (subst (λ s. AsksDurably s f) held.settings durable)
        some (subst HasNumber (sym held.count_is) left) (subst (λ k. HasUsed x.1.session.used (k + 1)) (sym held.count_is) numbers)) owed) refl calm

    -- its outcome is told at once, or awaited
    prepared_goes : (x : States × Served) → Held x → AllDurable (so_far x).made → (a : Awaited) → a.opcode ≡ f.opcode → a.opaque ≡ f.opaque → (write : Write) (wish : Durability) → request_of x.1.session.settings.json f ≡ Ok (request.Write write (Some wish)) → (how : Option Resolution)
        → a.waiter ≡ x.1.session.who.base * 2 ^ 32 + x.1.session.used → ((line : LastLine) (u : ℕ) (y : Waiting) (p : Pend) → (so_far x).last ≡ Some line → Owing (x.0 u) y p → y.waiter ≡ a.waiter → IsOwn n v write wish (so_far x).made u y p)
        → ((said : Resolution) → how ≡ Some said → HowTold n (so_far x) (OwnClaim (so_far x).last (so_far x).made a.waiter n v write wish) (record { waiter = a.waiter; how = said })) → (a.waiter ≡ 0 → ⊥) → HasNumber count → HasUsed x.1.session.used (count + 1) → Ends (x.0, answered_or_awaited a how x.1)
    prepared_goes x held calm a code number write wish is None last owns told_so some left numbers = awaits x held calm a code number write wish is last owns some left numbers
    prepared_goes x held calm a code number write wish is (Some how) last owns told_so some left numbers =
        answered x held x.0 (λ q. refl) (Ok (request.Write write (Some wish))) is (record x.1.session { awaited = None }) refl refl refl refl refl refl numbers (outcome_reply x.1.session.settings a how) (outcome_repeats x.1.session.settings f a how code number)
        (inr (
          left,
          outcome_fits (so_far x) n v x.1.session.settings f write wish a how (OwnClaim (so_far x).last (so_far x).made a.waiter n v write wish) code number (serving_at x) (λ told u y p served same claim.
              let (line, rises, told_is) = serves_line (so_far x).last (λ l. told_for (l.served n c) ((so_far x).clients_at n c).asking.answered (so_far x).made) told served in
              let k = claim line rises same in
              (k.0, k.1, subst (IsToldIn n u wish y p) (sym (unserved_at x held line rises) ∙ told_is) k.2)) (told_so how refl),
        )) (inr (inl (is_outcome x.1.session.settings f a write wish is how, calm)))

    -- what is known of what is asked of a vBucket
    module _ (x : States × Served) (held : Held x) where
      -- that is not there
      off : x.0 v ≡ None → IsActive ((so_far x).role_at n v) → ⊥
      off none = not_here (world_at x.0) (so_far x) n v held.now.1 (vb_here w n c base x.0 (Some client) v ∙ none)

      -- or is
      known : (world_at x.0).nodes n ≡ Some (with_states node x.0)
      known = ap (λ b. if b then Some (with_states node x.0) else w.nodes n) (eq-eqb n n refl)

      known_vb : (vb : Plain) → x.0 v ≡ Some vb → KnownAs (so_far x) n v vb
      known_vb vb has = known_as (world_at x.0) (so_far x) n v vb held.now.1 (vb_here w n c base x.0 (Some client) v ∙ has)

    -- a request that a vBucket was asked, by a session that used its numbers for the writes before
    module _ (x : States × Served) (held : Held x) (calm : IsStill (so_far x)) (fresh : HasUsed x.1.session.used count) where
      abbrev now : Now x
      now = held.now

      -- no number is left
      spent : WRITE_NUMBERS ≤ x.1.session.used → WRITE_NUMBERS < count + 1
      spent full = let most = fresh.most in omega (arith, most, full)

      unnumbered : WRITE_NUMBERS ≤ x.1.session.used → HasUsed x.1.session.used (count + 1)
      unnumbered full = let most = fresh.most in record { most = omega (arith, most); each = λ few. absurd (omega (arith, few, full)) }

      away : (asked : Result KvRequest Status) → request_of x.1.session.settings.json f ≡ asked → x.1.session.settings ≡ settings_by asked x.1.session.settings → HasUsed x.1.session.used (durables_by asked count) → FitsRequest (serving_at x) (so_far x) n count x.1.session.settings f (reply_frame (status_reply f NotMyVbucket)) asked → Ends (answered_by f x.1 (x.0, None))
      away asked is set numbers fits = status_goes x held x.0 (λ q. refl) asked NotMyVbucket is set numbers fits calm

      module _ (vb : Plain) (has : x.0 v ≡ Some vb) where
        abbrev there0 : PlainNode
        there0 = with_states node x.0

        abbrev cas : ℕ
        cas = new_cas clock vb.last_cas

        -- a reply without changes
        unchanged : (asked : KvRequest) → request_of x.1.session.settings.json f ≡ Ok asked → x.1.session.settings ≡ settings_by (Ok asked) x.1.session.settings → HasUsed x.1.session.used (durables_by (Ok asked) count) → (reply : VbReply) → change_lines x.1.session.who.node v reply.answer reply.changes ≡ [] → (kv : KvReply)
            → reply_to x.1.session.settings f reply.answer ≡ Some kv → FitsRequest (serving_at x) (so_far x) n count x.1.session.settings f (reply_frame kv) (Ok asked) → Ends (answered_by f x.1 (with_vb_at x.0 v vb, Some reply))
        unchanged asked is set numbers reply none kv said fits =
            subst (λ es. Ends (with_vb_at x.0 v vb, with_lines x.1 es)) (sym (λ i. none i ++ reply_lines x.1.session.who.node x.1.session.who.client (said i)))
            (answered x held (with_vb_at x.0 v vb) (put_same x.0 v vb has) (Ok asked) is x.1.session refl refl refl held.free set refl numbers kv (reply_repeats x.1.session.settings f reply.answer kv said) fits (inr (inr calm)))

        -- the write is made
        store_goes : (write : Write) → WriteFits write → request_of x.1.session.settings.json f ≡ Ok (request.Write write None) → store_refusal vb write ≡ None → Ends (answered_by f x.1 (stepped_at x.0 v (growth vb (write_change vb write cas) cas)))
        store_goes write fits is free =
            let (cl, in_it) = now.1 in let change : Change = write_change vb write cas in
            let member : Member = cl.nodes (seat n v) in
            let taken = store_taken vb.role (lacks_seqnos vb 1) (key_refusal vb write) free in
            let room = has_room vb.position.at (length vb.waiting) taken.1 in let here = mine_vb (world_at x.0) (so_far x) cl n v there0 vb in_it (known x held) has in
            let sound : Sound (growth vb change cas).0 = subst (λ o. Sound (store_outcome o vb write cas).0) free (stays vb (Store write clock) here.sound small) in
            let named = write_fulfils (image_of member.held) vb write cas in
            let change_is = change_fits vb write clock fits small room in let states : States = with_vb_at x.0 v (growth vb change cas).0 in
            let grown : Changed (world_at x.0) (world_at states) n v (growth vb change cas).0 w.links = node_grown w n v there0 (with_states node states) (growth vb change cas).0 (λ q. refl) (λ q o. refl) refl in
            let lefts = left_on ((so_far x).counts_at n v).risen vb.position.at vb.waiting (here.lefts taken.0) in
            let made = told_each_change x now states x.1.session.who.node v (newest_branch vb.log) member.br (change ∷ []) now.2.0
            (newest (world_at x.0) (so_far x) cl n v there0 vb in_it (known x held) has change cas taken.0 refl room change_is named vb.waiting sound)
            (is_lawful (world_at x.0) (so_far x) cl n v there0 vb in_it (known x held) has change cas taken.0 refl room change_is named vb.waiting sound (write_is_next vb here.kept write clock small (said_none vb.role (lacks_seqnos vb 1) (key_refusal vb write) free)) (λ level doc deleted e. absurd (write_prepares vb write cas level doc deleted e)) (write_unheld ((so_far x).counts_at n v) ((so_far x).disk_at n v).saved (image_of member.held) vb write cas) (λ prepared e. absurd (write_aborts vb write cas prepared e)), tt) (
              happens cl (Move.Own (seat n v) change),
              written (world_at x.0) (so_far x) cl n v there0 vb in_it (known x held) has change cas taken.0 refl room change_is named vb.waiting sound (world_at states) grown (shelves_again w n (with_states node x.0) (with_states node states) (λ q. refl) n v) (cas_rises clock vb.last_cas here.sound.last_cas) lefts (λ t. fewer_times change.seq ((so_far x).clock_at n) (λ y i. i) t)
                  (fewer_written (world_at x.0) (so_far x) cl n v there0 vb in_it (known x held) has change cas taken.0 refl room change_is named vb.waiting sound (world_at states) grown (shelves_again w n (with_states node x.0) (with_states node states) (λ q. refl) n v) (cas_rises clock vb.last_cas here.sound.last_cas) lefts (λ t. fewer_times change.seq ((so_far x).clock_at n) (λ y i. i) t)
                  (fewer_some vb (growth vb change cas).0 (λ y p some o. written_stood vb write clock free here.sound y p o))),
            ) in
            let lines : List Event = changes_told x.1.session.who.node v (newest_branch vb.log) (change ∷ []) in
            let then_held : Held (states, with_lines x.1 lines) = changed x states x.1.session.who.node v (newest_branch vb.log) (change ∷ []) held made in
            let settings : Settings = x.1.session.settings in
            let so : Chronicle = so_far (states, with_lines x.1 lines) in
            let read : so ≡ after_lines (so_far x) lines = reads x states lines in
            let made_is = made_fits n v (so.held n v) so.made settings f vb write cas (newest_branch vb.log) ((so_far x).clock_at n) (so_far x).made ((so_far x).held n v)
            (ap (λ (k : Chronicle). k.made) read ∙ (λ i. record { node = now.2.0 i; vb = v; branch = newest_branch vb.log; change = change; clock = (so_far x).clock_at (now.2.0 i) } ∷ (so_far x).made)) calm.0
            (ap (λ (k : Chronicle). k.held n v) read ∙ (λ i. with_at (so_far x).held (now.2.0 i) v ((so_far x).held (now.2.0 i) v ++ change ∷ []) n v) ∙ at_here (so_far x).held n v ((so_far x).held n v ++ change ∷ []))
            (known_vb x held vb has).image free in
            subst (λ es. Ends (states, served x.1.session es)) (append_assoc x.1.events lines (reply_line x.1.session.who.node x.1.session.who.client (stored_reply settings f (newest_branch vb.log) change.seq cas) ∷ []))
            (answered (states, with_lines x.1 lines) then_held states (λ q. refl) (Ok (request.Write write None)) is x.1.session refl refl refl held.free refl refl fresh (stored_reply settings f (newest_branch vb.log) change.seq cas)
            (stored_repeats settings f (newest_branch vb.log) change.seq cas) (inr made_is) (inl (write, is, refl)))

        stored : (write : Write) → WriteFits write → request_of x.1.session.settings.json f ≡ Ok (request.Write write None) → (said : Option Status) → store_refusal vb write ≡ said → Ends (answered_by f x.1 (stepped_at x.0 v (store_outcome said vb write cas)))
        stored write fits is (Some st) e = unchanged (request.Write write None) is refl fresh (refusal_reply st) refl (status_reply f st) refl (refused_fits (so_far x) n v vb (known_vb x held vb has) x.1.session.settings f write st e)
        stored write fits is None e = store_goes write fits is e

      got : (key : List ℕ) → request_of x.1.session.settings.json f ≡ Ok (request.Get key) → (o : Option Plain) → x.0 v ≡ o → Ends (answered_by f x.1 (call_at x.0 v (Get key) o))
      got key is None none = away (Ok (request.Get key)) is refl fresh (get_away ((so_far x).role_at n v) ((so_far x).counts_at n v).risen (image_of ((so_far x).held n v)) x.1.session.settings.json key f (off x held none))
      got key is (Some vb) has =
          let row : VbReply = get_row vb key in
          by (reply_to x.1.session.settings f row.answer) refl
        where
          by : (o : Option KvReply) → reply_to x.1.session.settings f (get_row vb key).answer ≡ o → Ends (answered_by f x.1 (call_at x.0 v (Get key) (Some vb)))
          by (Some kv) said = unchanged vb has (request.Get key) is refl fresh (plain_step vb (Get key)).1 (no_change x.1.session.who.node v (is_active vb.role) (is_left vb.waiting (pending_of vb key)) (doc_at vb key)) kv said
              (get_fits (so_far x) n v vb (known_vb x held vb has) x.1.session.settings f key (has_opcode x.1.session.settings.json f (request.Get key) is) kv said)
          by None said = absurd (some_reply x.1.session.settings f (is_active vb.role) (is_left vb.waiting (pending_of vb key)) (doc_at vb key) said)

      wrote : (write : Write) → WriteFits write → request_of x.1.session.settings.json f ≡ Ok (request.Write write None) → (o : Option Plain) → x.0 v ≡ o → Ends (answered_by f x.1 (call_at x.0 v (Store write clock) o))
      wrote write fits is None none = away (Ok (request.Write write None)) is refl fresh (write_away (so_far x) n v x.1.session.settings f write (off x held none))
      wrote write fits is (Some vb) has = stored vb has write fits is (store_refusal vb write) refl

      -- a request
      asked_goes : (q : Result KvRequest Status) → request_of x.1.session.settings.json f ≡ q → ((asked : KvRequest) → q ≡ Ok asked → AskedFits asked) → IsUncounted x.1.session.used q → Ends (after (request_handled clock f q x.1) x.0)
      unfolding request_handled told
      asked_goes (Err st) is fits none = status_goes x held x.0 (λ q. refl) (Err st) st is refl fresh (status_fits f st) calm
      asked_goes (Ok request.Noop) is fits none = status_goes x held x.0 (λ q. refl) (Ok request.Noop) Success is refl fresh (status_fits f Success) calm
      asked_goes (Ok (request.Hello features)) is fits none =
          answered x held x.0 (λ q. refl) (Ok (request.Hello features)) is (record x.1.session { settings = settings_of features }) refl refl refl held.free refl refl fresh (value_reply f (feature_bytes features)) (value_repeats f (feature_bytes features))
          (welcome_fits f features (has_opcode x.1.session.settings.json f (request.Hello features) is)) (inr (inr calm))
      asked_goes (Ok (request.Get key)) is fits none = got key is (x.0 v) refl
      asked_goes (Ok (request.Write write None)) is fits none = wrote write (fits (request.Write write None) refl).0 is (x.0 v) refl
      asked_goes (Ok (request.Write write (Some wish))) is fits none =
          let full : WRITE_NUMBERS ≤ x.1.session.used = grind (arith, nat_tests, none) in
          subst (λ b. Ends (after (if b then Done (refused f Etmpfail x.1) else durable_called f (Durable write clock wish.level (deadline_of clock wish.timeout) (next_waiter x.1.session)) x.1) x.0)) (sym none)
          (status_goes x held x.0 (λ q. refl) (Ok (request.Write write (Some wish))) Etmpfail is refl (unnumbered full) (inl (spent full, status_fits f Etmpfail)) calm)

      -- so a request goes on that counts for none
      pub request_goes : Received f → IsUncounted x.1.session.used (request_of x.1.session.settings.json f) → Ends (after (request_handled clock f (request_of x.1.session.settings.json f) x.1) x.0)
      request_goes good none = asked_goes (request_of x.1.session.settings.json f) refl (λ asked e. ((read_fits x.1.session.settings.json f asked good.readable good.extras e).0, removes_alone x.1.session.settings.json f asked e)) none

    -- a durable write, of a session that counts it, while nothing waits under the number that it gets
    module _ (x : States × Served) (held : Held (x.0, with_used x.1)) (calm : IsStill (so_far x)) (unowed : (line : LastLine) (u : ℕ) (y : Waiting) (p : Pend) → (so_far x).last ≡ Some line → Owing (x.0 u) y p → y.waiter ≡ next_waiter x.1.session → ⊥) (fresh : HasUsed x.1.session.used count) where
      abbrev counted : States × Served
      counted = (x.0, with_used x.1)

      -- what is told of the node's clock is what it shows
      clock_is : (so_far x).clock_at n ≡ clock
      clock_is = held.now.1.1.clocks n ∙ ap (λ b. clock_of (power_in (if b then Some (with_states node x.0) else w.nodes n))) (eq-eqb n n refl) ∙ shows

      -- the call has the level that is asked for, and the deadline
      abbrev AsAsked : Wish → Durability → Type 0
      AsAsked wish asked = (wish.level ≡ asked.level) × (wish.deadline ≡ deadline_of ((so_far x).clock_at n) asked.timeout)

      -- where a number is left it has that
      one_left : x.1.session.used < WRITE_NUMBERS → HasNumber count
      one_left few = let all = fresh.each few in omega (arith, few, all)

      numbers_on : x.1.session.used < WRITE_NUMBERS → HasUsed (x.1.session.used + 1) (count + 1)
      numbers_on few = let all = fresh.each few in let most = fresh.most in record { most = omega (arith, most); each = λ more. omega (arith, all) }

      module _ (vb : Plain) (has : x.0 v ≡ Some vb) where
        abbrev node0 : PlainNode
        node0 = with_states node x.0

        abbrev stamp : ℕ
        stamp = new_cas clock vb.last_cas

        -- its prepare, on this branch
        abbrev prepare_line : Write → Wish → ℕ → OwnChange
        prepare_line write wish branch = record { node = n; vb = v; branch = branch; change = prepare_change vb write wish.level stamp; clock = (so_far x).clock_at n }

        -- what waits behind the call under its number is its own prepare, which is among what is told then
        own_placed : (write : Write) (wish : Wish) (asked : Durability) (so : List OwnChange) (branch : ℕ) → AsAsked wish asked → IsMadeIn (prepare_line write wish branch) so → (y : Waiting) (p : Pend) (line : LastLine) → y.waiter ≢ 0 → (so_far x).last ≡ Some line → y.waiter ≡ next_waiter x.1.session
            → Stood vb (Durable write clock wish.level wish.deadline wish.waiter) y p → IsOwn n v write asked so v y p
        own_placed write wish asked so branch meant there y p line some rises same stood = ⊎_elim (λ o. absurd (unowed line v y p rises (subst (λ k. Owing k y p) (sym has) (some, o)) same))
            (λ k. (
              refl,
              (placed_of vb write clock wish.level wish.deadline wish.waiter y p k).0,
              record {
                named = record {
                  first = prepare_line write wish branch;
                  among = there;
                  node = refl;
                  vb = refl;
                  seq = sym (ap (λ (w : Waiting). w.seq) k.1);
                  key = sym (ap (λ (w : Waiting). w.key) k.1);
                  act = (λ i. act.Prepare (meant.0 i) (sym (ap (λ (q : Pend). q.doc) k.2) i) (sym (ap (λ (q : Pend). q.deleted) k.2) i));
                };
                due = ap (λ (w : Waiting). w.deadline) k.1 ∙ ap (λ d. Some d) meant.1;
              },
            )) stood

        -- once it is prepared, what waits waited before, or has that number
        newly : (write : Write) (wish : Wish) → wish.waiter ≡ next_waiter x.1.session → durable_refusal vb write ≡ None → Sound vb → (made : Plain) → made ≡ prepared_vb vb write wish stamp → (y : Waiting) (p : Pend) → Owing (Some made) y p
            → Owing (vb_of (world_at x.0) n v) y p ⊎ (y.waiter ≡ client.session.who.base * 2 ^ 32 + client.session.used)
        newly write wish numbered free sound made is y p owing = ⊎_elim
            (λ o. inl (subst (λ k. Owing k y p) (sym (vb_here w n c base x.0 (Some client) v ∙ has)) (owing.0, o)))
            (λ k. inr ((placed_of vb write clock wish.level wish.deadline wish.waiter y p k).1 ∙ numbered ∙ (λ i. (held.who i).base * 2 ^ 32 + held.used i)))
            (prepared_stood vb write clock wish free sound y p (subst (λ (k : Plain). IsOutstanding k y p) is owing.1))

        -- and once all is committed that may be
        own_there : (write : Write) (wish : Wish) (asked : Durability) (so : List OwnChange) (branch : ℕ) → AsAsked wish asked → IsMadeIn (prepare_line write wish branch) so → durable_refusal vb write ≡ None → Sound vb → (after_all : Plain) → after_all ≡ (durable_outcome None vb write wish stamp).0 → (line : LastLine) (u : ℕ) (y : Waiting) (p : Pend) → (so_far x).last ≡ Some line → Owing (with_vb_at x.0 v after_all u) y p → y.waiter ≡ next_waiter x.1.session → IsOwn n v write asked so u y p
        own_there write wish asked so branch meant there free sound after_all is line u y p rises owing same = ⊎_elim
            (λ e.
            let call : VbCall = Durable write clock wish.level wish.deadline wish.waiter in
            let here : Owing (Some after_all) y p = subst (λ b. Owing (if b then Some after_all else x.0 u) y p) (eq-eqb u v e) owing in
            let stood : Stood vb call y p = subst (λ (o : Option Status). IsOutstanding (durable_outcome o vb write wish stamp).0 y p → Stood vb call y p) free (awaited vb call sound small y p here.0) (subst (λ (k : Plain). IsOutstanding k y p) is here.1) in
            let k = own_placed write wish asked so branch meant there y p line here.0 rises same stood in (e, k.1, subst (λ q. IsToldIn n q asked y p so) (sym e) k.2))
            (λ ne. absurd (unowed line u y p rises (subst (λ b. Owing (if b then Some after_all else x.0 u) y p) (ne_eqb u v ne) owing) same)) (cases_eq u v)

        -- an outcome that is known at once is told by the changes before it, and is of this write
        outcome_told : (write : Write) (wish : Wish) (asked : Durability) (so : Chronicle) → AsAsked wish asked → durable_refusal vb write ≡ None → (let made : Plain = prepared_vb vb write wish stamp in let s = settled made in
            let branch : ℕ = if is_empty s.changes then newest_branch vb.log else newest_branch s.vb.log in
            so ≡ after_lines (so_far x) (changes_told n v branch (prepare_change vb write wish.level stamp ∷ s.changes)) → Sound vb → (said : Resolution) → outcome_of (next_waiter x.1.session) s.resolved ≡ Some said
            → HowTold n so (OwnClaim (so_far x).last so.made (next_waiter x.1.session) n v write asked) (record { waiter = next_waiter x.1.session; how = said }))
        outcome_told write wish asked so meant free is sound said out =
            let made : Plain = prepared_vb vb write wish stamp in let s = settled made in
            let branch : ℕ = if is_empty s.changes then newest_branch vb.log else newest_branch s.vb.log in
            let call : VbCall = Durable write clock wish.level wish.deadline wish.waiter in
            let lines : List Event = changes_told n v branch (prepare_change vb write wish.level stamp ∷ s.changes) in
            let there : IsMadeIn (prepare_line write wish branch) so.made = subst (λ (k : Chronicle). IsMadeIn (prepare_line write wish branch) k.made) (sym is) (change_told (so_far x) n v branch (prepare_change vb write wish.level stamp ∷ s.changes) (prepare_change vb write wish.level stamp) (inl refl)) in
            let Claim : ℕ → Waiting → Pend → Type 0 = OwnClaim (so_far x).last so.made (next_waiter x.1.session) n v write asked in
            let told = all_told (so_far x) n v branch Claim (prepare_change vb write wish.level stamp ∷ s.changes) vb call s.resolved tt (λ y p some stood line rises same. own_placed write wish asked so.made branch meant there y p line some rises same stood)
            (explained vb (Prepares write clock wish free) sound small) in
            let o = outcome_in (HowTold n (after_lines (so_far x) lines) Claim) (next_waiter x.1.session) said s.resolved told out in
            subst (λ m. HowTold n m Claim (record { waiter = next_waiter x.1.session; how = said })) (sym is) (subst (HowTold n (after_lines (so_far x) lines) Claim) (λ i. record { waiter = o.number i; how = o.how_is i }) o.is)

        -- its prepare is of what the question in hand asks for
        prepare_asked : (write : Write) (wish : Wish) (asked : Durability) → wish.level ≡ asked.level → request_of x.1.session.settings.json f ≡ Ok (request.Write write (Some asked)) → x.1.session.used < WRITE_NUMBERS → (so_far x).changed ≡ false
            → (level : Level) (doc : Doc) (deleted : Bool) → (prepare_change vb write wish.level stamp).act ≡ act.Prepare level doc deleted → IsPrepareAsked (so_far x).clients_at (so_far x).changed n v write.key level doc deleted
        prepare_asked write wish asked leveled is few still level doc deleted e =
            let g : Standing w n c base r x.0 (before ++ x.1.events) client = goes_of counted x.0 (λ q. refl) held.now in
            let known : ((so_far x).clients_at n c).asking.settings ≡ x.1.session.settings = (stands w n c base r g).asks.settings ∙ sym held.settings in
            let k : act.Prepare wish.level (written_doc write stamp (new_rev (doc_at vb write.key))) (is_delete write.op) ≡ act.Prepare level doc deleted = e in
            let level_is : wish.level ≡ level = cc in
            let doc_is : written_doc write stamp (new_rev (doc_at vb write.key)) ≡ doc = cc in
            let deleted_is : is_delete write.op ≡ deleted = cc in
            record {
              client = c;
              question = question;
              next = held.next;
              vb = refl;
              durable = record { own = own; write = write; wish = asked; asks = subst (λ (s : Settings). request_of s.json f ≡ Ok (request.Write write (Some asked))) (sym known) is };
              key_is = refl;
              level_is = sym level_is ∙ leveled;
              cas = stamp;
              rev = new_rev (doc_at vb write.key);
              doc_is = sym doc_is;
              deleted_is = sym deleted_is;
              numbered = subst HasNumber (sym held.count_is) (one_left few);
              still = still;
            }

        -- a durable write is prepared, and what may be committed then is
        durable_goes : (write : Write) (wish : Wish) (asked : Durability) → wish.waiter ≡ next_waiter x.1.session → wish.level ≡ asked.level → WriteFits write → (write.op ≡ Op.Delete → write.value ≡ []) → request_of x.1.session.settings.json f ≡ Ok (request.Write write (Some asked)) → durable_refusal vb write ≡ None → x.1.session.used < WRITE_NUMBERS → IsUp ((so_far x).clock_at n) wish.deadline → AsAsked wish asked
            → Ends (durably_by f x.1 (stepped_at x.0 v (durable_outcome None vb write wish stamp)))
        unfolding durable_replied
        durable_goes write wish asked numbered leveled fits alone is free few timely meant =
            let (cl, in_it) = held.now.1 in let change : Change = prepare_change vb write wish.level stamp in let made : Plain = prepared_vb vb write wish stamp in
            let member : Member = cl.nodes (seat n v) in let left = placed (outstanding write wish (vb.position.at + 1)) vb.waiting in
            let taken = durable_free vb.role (is_possible vb.others) (lacks_seqnos vb 2) (key_refusal vb write) free in
            let room = room_for_two vb.position.at (length vb.waiting) taken.2 in let here = mine_vb (world_at x.0) (so_far x) cl n v node0 vb in_it (known counted held) has in
            let sound : Sound made = prepared_sound vb write clock wish free here.sound small in
            let named = prepare_fulfils (image_of member.held) vb write wish.level stamp in
            let change_is = prepare_fits vb write clock wish.level fits alone small room in
            let states1 : States = with_vb_at x.0 v made in let there1 : PlainNode = with_states node states1 in
            let grown : Changed (world_at x.0) (world_at states1) n v made w.links = node_grown w n v node0 there1 made (λ q. refl) (λ q o. refl) refl in
            let r1 : Chronicle = after_change (so_far x) n v member.br change in
            let agrees1 : AgreesIn idle (world_at states1) r1 (happens cl (Move.Own (seat n v) change)) =
            written (world_at x.0) (so_far x) cl n v node0 vb in_it (known counted held) has change stamp taken.0 refl room change_is named left sound (world_at states1) grown (shelves_again w n node0 there1 (λ q. refl) n v) (cas_rises clock vb.last_cas here.sound.last_cas)
            (left_placed ((so_far x).counts_at n v).risen vb write wish here.sound (here.lefts taken.0))
            (placed_times (outstanding write wish (vb.position.at + 1)) vb.waiting ((so_far x).clock_at n) wish.deadline refl timely)
            (owed_placed (world_at x.0) (world_at states1) (so_far x) r1 n c v client (client_here w n c base x.0 (Some client)) (λ a e. hand_zero true f a (sym hand ∙ e)) (record { last = refl; grows = λ one durable i. inr i }) (same_clients (world_at x.0) (world_at states1) grown.powers) (λ m d. refl) grown.there
            (λ y p owing. newly write wish numbered free here.sound made refl y p (subst (λ o. Owing o y p) grown.here owing)) in_it.clients.owed) in
            let later : SettlesOn (world_at states1) r1 n v (unresolved made) (settled made) =
            settles steady.commits n v (world_at states1) r1 (happens cl (Move.Own (seat n v) change)) there1 made agrees1
            (ap (λ b. if b then Some there1 else w.nodes n) (eq-eqb n n refl)) (ap (λ b. if b then Some made else x.0 v) (eq-eqb v v refl)) in
            let states2 : States = with_vb_at x.0 v (settled made).vb in let there2 : PlainNode = with_states node states2 in
            let changed_to : Changed (world_at states1) (world_at states2) n v (settled made).vb w.links = node_grown w n v there1 there2 (settled made).vb (λ q. put_twice x.0 v made (settled made).vb q) (λ q o. refl) refl in
            let on : newest_branch vb.log ≡ member.br = newest (world_at x.0) (so_far x) cl n v node0 vb in_it (known counted held) has change stamp taken.0 refl room change_is named left sound in
            let gone = told_each_change (x.0, with_used x.1) held.now states2 x.1.session.who.node v (if is_empty (settled made).changes then newest_branch vb.log else newest_branch (settled made).vb.log) member.br (change ∷ later.cs) held.now.2.0
            (one_branch (is_empty (settled made).changes) (newest_branch vb.log) (newest_branch (settled made).vb.log) (ap newest_branch later.log) ∙ on)
            (is_lawful (world_at x.0) (so_far x) cl n v node0 vb in_it (known counted held) has change stamp taken.0 refl room change_is named left sound (prepare_is_next vb here.kept write wish.level clock small taken.3) (prepare_asked write wish asked leveled is few calm.1) (prepare_unheld ((so_far x).counts_at n v) ((so_far x).disk_at n v).saved (image_of member.held) vb write wish.level stamp) (λ prepared e. cc), subst (λ u. LawfulFrom r1 (changes_told n v u later.cs)) on later.lawful)
            (subst (λ u. Agrees (world_at states2) (after_lines r1 (changes_told n v u later.cs))) on (later.agrees (world_at states2) changed_to (shelves_again w n there1 there2 (λ q. refl) n v))) in
            let branch : ℕ = if is_empty (settled made).changes then newest_branch vb.log else newest_branch (settled made).vb.log in
            let told_now = subst (λ cs. Now (states2, with_lines (with_used x.1) (changes_told x.1.session.who.node v branch (change ∷ cs)))) (sym later.changes) gone in
            let lines : List Event = changes_told x.1.session.who.node v branch (change ∷ (settled made).changes) in
            let y2 : States × Served = (states2, with_lines (with_used x.1) lines) in
            let read_same : so_far y2 ≡ after_lines (so_far x) (changes_told n v branch (change ∷ (settled made).changes)) = reads counted states2 lines ∙ ap (λ m. after_lines (so_far x) (changes_told m v branch (change ∷ (settled made).changes))) held.now.2.0 in
            let there_told : IsMadeIn (prepare_line write wish branch) (so_far y2).made = subst (λ (k : Chronicle). IsMadeIn (prepare_line write wish branch) k.made) (sym read_same) (change_told (so_far x) n v branch (change ∷ (settled made).changes) change (inl refl)) in
            let last_same : (so_far y2).last ≡ (so_far x).last = ap (λ (k : Chronicle). k.last) (reads counted states2 lines) ∙ changes_last (so_far x) x.1.session.who.node v branch (change ∷ (settled made).changes) in
            let next : ℕ = next_waiter x.1.session in
            prepared_goes y2
            (changed counted states2 x.1.session.who.node v branch (change ∷ (settled made).changes) held told_now)
            (subst (λ (k : Chronicle). AllDurable k.made) (sym (reads counted states2 lines))
            (durable_told (so_far x) x.1.session.who.node v branch (change ∷ (settled made).changes) (All-cons OfDurable change (settled made).changes refl (durable_settled made)) calm.0))
            (awaited_by next f) refl refl write asked is (outcome_of next (settled made).resolved) refl
            (λ line u y p rises owing number. own_there write wish asked (so_far y2).made branch meant there_told free here.sound (settled made).vb refl line u y p (sym last_same ∙ rises) owing number)
            (λ said out. subst (λ l. HowTold n (so_far y2) (OwnClaim l (so_far y2).made next n v write asked) (record { waiter = next; how = said })) (sym last_same)
            (outcome_told write wish asked (so_far y2) meant free read_same here.sound said out))
            (λ z. omega (arith, z)) (one_left few) (numbers_on few)

        durably : (write : Write) (wish : Wish) (asked : Durability) → wish.waiter ≡ next_waiter x.1.session → wish.level ≡ asked.level → WriteFits write → (write.op ≡ Op.Delete → write.value ≡ []) → request_of x.1.session.settings.json f ≡ Ok (request.Write write (Some asked)) → (said : Option Status) → durable_refusal vb write ≡ said → x.1.session.used < WRITE_NUMBERS → IsUp ((so_far x).clock_at n) wish.deadline → AsAsked wish asked
            → Ends (durably_by f x.1 (stepped_at x.0 v (durable_outcome said vb write wish stamp)))
        unfolding durable_replied
        durably write wish asked numbered leveled fits alone is (Some st) e few timely meant =
            subst (λ es. Ends (with_vb_at x.0 v vb, served (with_used x.1).session (es ++ reply_line x.1.session.who.node x.1.session.who.client (status_reply f st) ∷ []))) (sym (append-nil x.1.events))
            (status_goes (x.0, with_used x.1) held (with_vb_at x.0 v vb) (put_same x.0 v vb has) (Ok (request.Write write (Some asked))) st is refl (numbers_on few) (inr (one_left few, durable_refused_fits (so_far x) n v vb (known_vb counted held vb has) x.1.session.settings f (serving_at counted) write asked st e)) calm)
        durably write wish asked numbered leveled fits alone is None e few timely meant = durable_goes write wish asked numbered leveled fits alone is e few timely meant

      prepared : (write : Write) (wish : Wish) (asked : Durability) → wish.waiter ≡ next_waiter x.1.session → wish.level ≡ asked.level → WriteFits write → (write.op ≡ Op.Delete → write.value ≡ []) → request_of x.1.session.settings.json f ≡ Ok (request.Write write (Some asked)) → x.1.session.used < WRITE_NUMBERS → IsUp ((so_far x).clock_at n) wish.deadline → AsAsked wish asked → (o : Option Plain) → x.0 v ≡ o
          → Ends (durably_by f x.1 (call_at x.0 v (Durable write clock wish.level wish.deadline wish.waiter) o))
      unfolding durable_replied
      prepared write wish asked numbered leveled fits alone is few timely meant None none =
          status_goes counted held x.0 (λ q. refl) (Ok (request.Write write (Some asked))) NotMyVbucket is refl (numbers_on few) (inr (one_left few, durable_away (so_far x) n v x.1.session.settings f write (serving_at counted) asked (off counted held none))) calm
      prepared write wish asked numbered leveled fits alone is few timely meant (Some vb) has = durably vb has write wish asked numbered leveled fits alone is (durable_refusal vb write) refl few timely meant

      -- so it goes on
      pub durable_request_goes : Received f → (write : Write) (wish : Durability) → request_of x.1.session.settings.json f ≡ Ok (request.Write write (Some wish)) → nat_le MOST_DURABLE x.1.session.used ≡ false → Ends (after (request_handled clock f (request_of x.1.session.settings.json f) x.1) x.0)
      unfolding request_handled told
      durable_request_goes good write wish is room =
          let fit = (read_fits x.1.session.settings.json f (request.Write write (Some wish)) good.readable good.extras is).0 in
          let alone = removes_alone x.1.session.settings.json f (request.Write write (Some wish)) is in
          let call : VbCall = Durable write clock wish.level (deadline_of clock wish.timeout) (next_waiter x.1.session) in
          let few : x.1.session.used < WRITE_NUMBERS = grind (arith, nat_tests, room) in
          subst (λ q. Ends (after (request_handled clock f q x.1) x.0)) (sym is)
          (subst (λ b. Ends (after (if b then Done (refused f Etmpfail x.1) else durable_called f call x.1) x.0)) (sym room)
          (prepared write (record { level = wish.level; deadline = deadline_of clock wish.timeout; waiter = next_waiter x.1.session }) wish refl refl fit alone is few
          (subst (λ k. IsUp k (deadline_of clock wish.timeout)) (sym clock_is) (up_at_end clock wish.timeout (timeouts_fit x.1.session.settings.json f write wish good.framing is).0)) (refl, ap (λ k. deadline_of k wish.timeout) (sym clock_is)) (x.0 v) refl))

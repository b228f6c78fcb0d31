-- STREAM_REQUEST of a client: whatever its producer and its vBucket say, the line is lawful, and all agrees
use Rattle.std.specs.Prelude.{◌≡◌, ◌<◌, ◌≤◌, ◌+◌, ◌++◌, ◌==◌, ◌^◌, ◌&&◌, if◌then◌else◌, not}
use Rattle.transcript_law.proofs.Words.{ℕ, Bool, true, false, List, [], length, refl, sym, ap, ◌∙◌, subst, arith, inl, inr, is_some, Role, ⊎_elim, eqb-false, eqb-true, Option, Some, None, Status, Event, Frame, LogEntry, StreamAsk, AskAnswer, Verdict, Continue, Roll, rule, Cluster, States, PlainNode, PlainWorld, PlainProducer, PlainStream, Plain, is_active, stream_at, open_refusal, open_outcome, judged_open, Chronicle, after, with_vb_at, call_at, with_id, refuse, request_refusal, verdict_with, is_sync}
use Rattle.dcp_producer.specs.declared.desk.Desk.{Desk}
use Rattle.dcp_producer.specs.{Clients.{IsShortLog}, Producers.{Served, is_client, stream_at as kept_at, with_opened}, Serving.{new_stream, next_stream, opened_answered, opening_requested, opens, refusal_requested, refused_answered, with_asked}}
unfoldable use Rattle.dcp_producer.specs.Serving.{stream_answered, stream_request}
use Rattle.mcbp_frame.proofs.Cases.{front}
use Rattle.node_core.specs.Clients.{PlainClient, delivered}
use Rattle.transcript_law.proofs.indexers.{Asking.{s as asking, answer, asked_goes, held_open, known, kept_left, left, mine, none_known, none_open, old, request, served, told, was}, Hands.{Goes, HandedUp}, Passing.{agrees, behind, cluster}}
use Rattle.transcript_law.proofs.{disks.Absent.{nothing_here}, indexers.Reasons.{away_as, open_reason, own_reason, reason_of, zero_reason}}
use Rattle.transcript_law.proofs.indexers.Granting.{granted_is, log_short, opened, opened_changes, opens_ranged, ranged_order}
use Rattle.transcript_law.proofs.indexers.{Questions.{in_hand}, Quiet.{put_again, put_here, put_there}, Refusals.{is_left, is_opened, is_plain, none_kept, own_grant, own_named, own_refusal, said_away, takes_is, zero_refused}, Setting.{sync_as}, Streams.{AreOne, at_opened_here, at_opened_there, one_opened, open_opened}}
use Rattle.transcript_law.proofs.indexers.Worlds.{free_own, step_at, step_quiet, vb_here, world_with}
use Rattle.transcript_law.proofs.invariant.{Carried.{all_there}, ClientsKept.{IsFree}, Agreement.{idle, AgreesAt, IsRefused, VbAgrees, is_down, power_of}, ClientsTold.{KeptIs, setup_of}, Holdings.{vb_of}, OpenStreams.{Among, AreKept, kept_asked, kept_opened}, Seats.{seat}, Tables.{id_here, id_there}}
use Rattle.transcript_law.proofs.links.Verdicts.{active_vb_lines, go_lawful, opens_active, opens_free, refusal_named, own_said, roll_lawful}
use Rattle.transcript_law.specs.{ClientFrames.{ask_of, is_sync as setup_sync, setup_after}, ClientStreams.{granted_if, new_stream as known_stream, opened_after}, Feeding.{HasFed, HasOpen}}
use Rattle.transcript_law.specs.{LawfulClients.{IsActive, IsFree as IsFreeOf, IsRefusal, RefusesAs, RefusesBy, RefusesOwn}, StreamLaws.{GrantsAs, LawfulSaid, LawfulVerdict}, StreamsTold.{ClientStream}}
use Rattle.vb_calls.specs.declared.calls.VbCall.TheVariants as call
use Rattle.vb_events.specs.declared.event.StreamName.{StreamName}
use Rattle.vb_types.specs.Statuses.{status_code}
use Rattle.vb_calls.specs.Streams.{asked_stream, source_of}

-- it is let continue, or sent back
abbrev Grants : AskAnswer → Type 0
Grants (AskAnswer.Refuse code) = ⊥
Grants other = Unit {0}

-- it is not let continue
abbrev IsNoGo : AskAnswer → Type 0
IsNoGo AskAnswer.Go = ⊥
IsNoGo (AskAnswer.Roll to) = Unit {0}
IsNoGo (AskAnswer.Refuse code) = Unit {0}

no_stream : (said : AskAnswer) → IsNoGo said → (v : ℕ) (g : ClientStream) (streams : ℕ → Option ClientStream) → granted_if said v g streams ≡ streams
no_stream AskAnswer.Go none v g streams = absurd none
no_stream (AskAnswer.Roll to) none v g streams = refl
no_stream (AskAnswer.Refuse code) none v g streams = refl

refusal_no_go : (said : AskAnswer) → IsRefusal said → IsNoGo said
refusal_no_go AskAnswer.Go (code, e) = cc
refusal_no_go (AskAnswer.Roll to) is = tt
refusal_no_go (AskAnswer.Refuse code) is = tt

-- what is granted is no refusal
no_refusal : (said : AskAnswer) → Grants said → IsRefusal said → ⊥
no_refusal AskAnswer.Go g (code, e) = cc
no_refusal (AskAnswer.Roll to) g (code, e) = cc
no_refusal (AskAnswer.Refuse code) g is = g

few_short : (log : List LogEntry) → length log ≤ 25 → IsShortLog log
few_short log few = omega (arith, few)

module _ (w : PlainWorld) (n c : ℕ) (node : PlainNode) (r : Chronicle) (f : Frame) (states : States) (lines : List Event) (client : PlainClient) (up : HandedUp w n c node r f states lines client) (ask : StreamAsk) (asks : ask_of f ≡ Some ask)
    (running : is_down (power_of (old w n c node r f states lines client up ask asks) n) ≡ false) where
  abbrev p : PlainProducer
  p = client.producer

  abbrev s : Served
  s = asking w n c node r f states lines client up ask asks

  abbrev v : ℕ
  v = f.vb_or_status

  abbrev k : Cluster
  k = cluster w n c node r f states lines client up

  abbrev before_it : PlainWorld
  before_it = old w n c node r f states lines client up ask asks

  abbrev so_far : Chronicle
  so_far = told w n c node r f states lines client up ask asks

  -- what it made of the vBuckets and the producer
  abbrev Comes : States × Served → Type 0
  Comes x = Goes w n c node r x.0 (lines ++ delivered client.session.who x.1) (behind w n c node r f states lines client up x.1)

  abbrev left_at : ℕ → Option ClientStream
  left_at = left w n c node r f states lines client up ask asks

  agrees_at : (pv : Plain) → states v ≡ Some pv → VbAgrees so_far n v (k.nodes (seat n v)) pv
  agrees_at pv there = subst (AgreesAt so_far n v (k.nodes (seat n v))) (vb_here w n c node states (Some (was w n c node r f states lines client up ask asks)) v ∙ there) ((agrees w n c node r f states lines client up).vbs n v)

  short_at : (pv : Plain) → states v ≡ Some pv → length pv.log ≤ 25
  short_at pv there = log_short so_far k (agrees w n c node r f states lines client up).sound n v (seat n v) pv (agrees_at pv there)

  said_at : (pv : Plain) → states v ≡ Some pv → (said : AskAnswer) → LawfulVerdict so_far.tree pv.log pv.position.at ask said → GrantsAs (so_far.role_at n v) said → LawfulSaid so_far n v ask pv.position.at pv.log said
  said_at pv there said verdict grants = own_said so_far k (agrees w n c node r f states lines client up).sound (agrees w n c node r f states lines client up).hists n v (seat n v) pv (agrees_at pv there) ask said verdict grants

  -- each vBucket is as it was, and so are the producer's streams
  quiet : (st : States) → ((q : ℕ) → st q ≡ states q) → (end : PlainProducer) → end.desk ≡ p.desk → end.handshake ≡ p.handshake → end.streams ≡ p.streams → end.window ≡ p.window → AreKept end → (log : List LogEntry) (high : ℕ) (said : AskAnswer) → IsNoGo said
      → LawfulSaid so_far n v ask high log said → RefusesOwn (setup_of p.handshake) (left_at v) ask said → RefusesBy (setup_of p.handshake) p.asked (so_far.role_at n v) (left_at v) ask said → end.asked ≡ opened_after (setup_of p.handshake) (left_at v) ask p.asked → IsShortLog log → Comes (st, answer w n c node r f states lines client up ask asks st end log high said)
  quiet st same end desk shaken streams window kept log high said none lawful own reason count short =
      let client' : PlainClient = record client { session = record client.session { awaited = Some (in_hand f) }; producer = end } in
      let new : PlainWorld = world_with w n c node st (Some client') in
      asked_goes w n c node r f states lines client up ask asks st end log high said (record {
        lawful = lawful;
        own = own;
        reason = reason;
        count = count;
        short = short;
        step = step_quiet w n c node states st (Some (was w n c node r f states lines client up ask asks)) (Some client') same;
        opens = λ q id has. inl (subst (HasOpen q id) streams has);
        desk = desk;
        shaken = shaken;
        window = window;
        kept = kept;
        one = subst AreOne (sym streams) (mine w n c node r f states lines client up ask asks).one;
        opened = λ stream i. (mine w n c node r f states lines client up ask asks).opened stream (subst (Among stream) streams i);
        streams = λ q.
            subst (λ table. KeptIs so_far.tree (so_far.branch_at n q) (so_far.held n q) (vb_of new n q) false (table q) (kept_at q end.streams))
            (sym (no_stream said none v (known_stream (setup_after (known w n c node r f states lines client up ask asks).setup (served w n c node r f states lines client up ask asks)) (request w n c node r f states lines client up ask asks) log) left_at))
            (subst (λ ss. KeptIs so_far.tree (so_far.branch_at n q) (so_far.held n q) (vb_of new n q) false (left_at q) (kept_at q ss)) (sym streams)
            (subst (λ o. KeptIs so_far.tree (so_far.branch_at n q) (so_far.held n q) o false (left_at q) (kept_at q p.streams))
            (vb_here w n c node states (Some (was w n c node r f states lines client up ask asks)) q ∙ sym (same q) ∙ sym (vb_here w n c node st (Some client') q))
            (kept_left w n c node r f states lines client up ask asks q)));
      })

  -- it is a client's
  of_client : is_client p.desk.stream ≡ true
  of_client = ap (λ (d : Desk). is_client d.stream) (mine w n c node r f states lines client up ask asks).conn.desk

  -- it takes a number where the vBucket is asked to open a stream
  counts : (b : Bool) → opens p v ask ≡ b → opened_after (setup_of p.handshake) (left_at v) ask p.asked ≡ (if b then p.asked + 1 else p.asked)
  counts b e = ap (λ t. if t then p.asked + 1 else p.asked) (takes_is p v (left_at v) ask of_client (none_known w n c node r f states lines client up ask asks) ∙ e)

  granted_no : (said : AskAnswer) → IsRefusal said → GrantsAs (so_far.role_at n v) said
  granted_no said is = subst (GrantsAs (so_far.role_at n v)) (sym is.1) tt

  -- ---- under no number

  -- it is refused, by the producer itself or by its vBucket
  refused_with : opens p v ask ≡ false → (st : States) → ((q : ℕ) → st q ≡ states q) → (log : List LogEntry) (high : ℕ) (verdict : AskAnswer) → ((code : ℕ) → verdict ≡ AskAnswer.Refuse code → code ≡ 0 → ⊥) → IsRefusal verdict → (request_refusal p ask ≡ None → RefusesAs (so_far.role_at n v) (left_at v) ask verdict)
      → ((said : AskAnswer) → LawfulVerdict so_far.tree log high ask said → GrantsAs (so_far.role_at n v) said → LawfulSaid so_far n v ask high log said) → IsShortLog log
      → Comes (st, answer w n c node r f states lines client up ask asks st p log high (verdict_with (request_refusal p ask) verdict))
  refused_with shut st same log high verdict named is given lawful short =
      let said : AskAnswer = verdict_with (request_refusal p ask) verdict in
      let good = own_named p ask verdict of_client named is so_far.tree log high in
      quiet st same p refl refl refl refl (mine w n c node r f states lines client up ask asks).kept log high said (refusal_no_go said good.1) (lawful said good.0 (granted_no said good.1)) (own_refusal p (left_at v) ask of_client verdict is) (reason_of p (so_far.role_at n v) (left_at v) ask verdict given) (sym (counts false shut)) short

  refusal_of : (why : Status) → IsRefused (refuse why) → (code : ℕ) → refuse why ≡ AskAnswer.Refuse code → code ≡ 0 → ⊥
  refusal_of why named code e z = let same : status_code why ≡ code = cc in named.0 (same ∙ z)

  -- where its own connection has a stream of the vBucket
  had_one : opens p v ask ≡ false → request_refusal p ask ≡ None → (g : ClientStream) × (left_at v ≡ Some g) × (g.over ≡ false)
  had_one shut none = by (kept_at v p.streams) refl
    where
      by : (o : Option PlainStream) → kept_at v p.streams ≡ o → (g : ClientStream) × (left_at v ≡ Some g) × (g.over ≡ false)
      by None e = let opened : opens p v ask ≡ true = (λ i. not (is_some (none i)) && not (is_some (e i))) in let z : true ≡ false = sym opened ∙ shut in cc
      by (Some stream) e = held_open w n c node r f states lines client up ask asks stream e

  -- a vBucket that is not made is not active
  away_here : states v ≡ None → IsActive (so_far.role_at n v) → ⊥
  away_here none active =
      let nothing = nothing_here before_it so_far k n v (agrees w n c node r f states lines client up) (vb_here w n c node states (Some (was w n c node r f states lines client up ask asks)) v ∙ none) running in
      let z : Some None ≡ Some (Some Role.Active) = sym nothing.role ∙ active in cc

  pub refusal_goes : opens p v ask ≡ false → Comes (after (refusal_requested f ask s) states)
  unfolding stream_answered
  refusal_goes shut = by (states v) refl
    where
      by : (o : Option Plain) → states v ≡ o → Comes (let y = call_at states v (call.OpenStream 0 ask (is_sync p.handshake)) o in (y.0, refused_answered f ask s y.1))
      by None none =
          refused_with shut states (λ q. refl) [] 0 (refuse Status.NotMyVbucket) (λ code e z. let same : 7 ≡ code = cc in omega (arith, same, z)) (status_code Status.NotMyVbucket, refl) (λ passed. away_as (so_far.role_at n v) (left_at v) ask (away_here none))
          (λ said verdict grants. said_away so_far n v before_it k (agrees w n c node r f states lines client up) (vb_here w n c node states (Some (was w n c node r f states lines client up ask asks)) v ∙ none) running ask said verdict grants)
          (few_short [] (omega arith))
      by (Some pv) there =
          let (why, because) = zero_refused pv ask in
          let at : VbAgrees so_far n v (k.nodes (seat n v)) pv = agrees_at pv there in
          subst (λ o. Comes (with_vb_at states v (open_outcome o pv 0 ask (is_sync p.handshake)).0, refused_answered f ask s (Some (open_outcome o pv 0 ask (is_sync p.handshake)).1))) (sym because)
          (refused_with shut (with_vb_at states v pv) (put_again states v pv there) pv.log pv.position.at (refuse why) (refusal_of why (refusal_named pv 0 ask why because)) (status_code why, refl)
          (λ passed. let (g, has, over) = had_one shut passed in zero_reason so_far k n v (seat n v) pv at (left_at v) ask why because g has over)
          (λ said verdict grants. said_at pv there said verdict grants) (few_short pv.log (short_at pv there)))

  -- ---- under a number of its own

  module _ (open_it : opens p v ask ≡ true) where
    abbrev id : ℕ
    id = next_stream p

    abbrev sync : Bool
    sync = is_sync p.handshake

    free_here : kept_at v p.streams ≡ None
    free_here = none_kept p (left_at v) ask of_client v open_it

    own_so : (said : AskAnswer) → RefusesOwn (setup_of p.handshake) (left_at v) ask said
    own_so said = own_grant p (left_at v) ask of_client v open_it (λ g e over. none_open w n c node r f states lines client up ask asks v free_here g e over) said

    free_left : IsFreeOf (left_at v)
    free_left g e over = none_open w n c node r f states lines client up ask asks v free_here g e over

    reason_so : (said : AskAnswer) → RefusesAs (so_far.role_at n v) (left_at v) ask said → RefusesBy (setup_of p.handshake) p.asked (so_far.role_at n v) (left_at v) ask said
    reason_so said given over zero = inr (is_left p (left_at v) ask of_client v open_it, given)

    -- it is not let continue
    not_let : (st : States) → ((q : ℕ) → st q ≡ states q) → (log : List LogEntry) (high : ℕ) (said : AskAnswer) → IsNoGo said → LawfulSaid so_far n v ask high log said → RefusesAs (so_far.role_at n v) (left_at v) ask said → IsShortLog log
        → Comes (st, answer w n c node r f states lines client up ask asks st (with_asked p) log high said)
    not_let st same log high said none lawful given short =
        quiet st same (with_asked p) refl refl refl refl (kept_asked p (mine w n c node r f states lines client up ask asks).kept) log high said none lawful (own_so said) (reason_so said given) (sym (counts true open_it)) short

    module _ (pv : Plain) (there : states v ≡ Some pv) where
      at : VbAgrees so_far n v (k.nodes (seat n v)) pv
      at = agrees_at pv there

      -- it is
      module _ (opens_it : open_refusal pv id ask ≡ None) (ruled : rule pv.log pv.position.at ask ≡ Continue) where
        abbrev pv' : Plain
        pv' = opened pv id ask sync

        abbrev st : States
        st = with_vb_at states v pv'

        abbrev stream : PlainStream
        stream = new_stream id f ask sync (source_of pv (asked_stream id ask sync))

        abbrev end : PlainProducer
        end = with_opened stream (with_asked p)

        abbrev client' : PlainClient
        client' = record client { session = record client.session { awaited = Some (in_hand f) }; producer = end }

        abbrev new : PlainWorld
        new = world_with w n c node st (Some client')

        active : is_active pv.role ≡ true
        active = opens_active pv id ask opens_it

        free : stream_at id pv.streams ≡ None
        free = opens_free pv id ask active opens_it

        free_there : IsFree id (vb_of before_it n v)
        free_there = subst (IsFree id) (sym (vb_here w n c node states (Some (was w n c node r f states lines client up ask asks)) v ∙ there)) free

        nobody : (who : StreamName) → HasFed before_it who n v id → ⊥
        nobody who fed = all_there idle before_it so_far k (agrees w n c node r f states lines client up) who n v id fed free_there

        small : v < 2 ^ 16
        small = (front up.reader f up.goes.bytes up.first).0.vb_or_status

        syncs : sync ≡ setup_sync (setup_after (known w n c node r f states lines client up ask asks).setup (served w n c node r f states lines client up ask asks))
        syncs = sym (sync_as p.handshake) ∙ ap setup_sync (sym (mine w n c node r f states lines client up ask asks).heard.sets)

        abbrev granted : ClientStream
        granted = known_stream (setup_after (known w n c node r f states lines client up ask asks).setup (served w n c node r f states lines client up ask asks)) (request w n c node r f states lines client up ask asks) pv.log

        abbrev Kept : ℕ → Type 0
        Kept q = KeptIs so_far.tree (so_far.branch_at n q) (so_far.held n q) (vb_of new n q) false (with_id left_at v (Some granted) q) (kept_at q end.streams)

        kept_here : Kept v
        kept_here =
            subst (λ o. KeptIs so_far.tree (so_far.branch_at n v) (so_far.held n v) (vb_of new n v) false o (kept_at v end.streams)) (sym (id_here left_at v (Some granted)))
            (subst (λ o. KeptIs so_far.tree (so_far.branch_at n v) (so_far.held n v) (vb_of new n v) false (Some granted) o) (sym (at_opened_here v p.streams stream free_here refl)) (
              refl,
              granted_is so_far k (agrees w n c node r f states lines client up).sound n v (seat n v) pv at active ask id f (setup_after (known w n c node r f states lines client up ask asks).setup (served w n c node r f states lines client up ask asks))
                  (served w n c node r f states lines client up ask asks) sync syncs small free opens_it ruled (is_plain p (left_at v) ask of_client v open_it) (so_far.held n v) (vb_of new n v) (vb_here w n c node st (Some client') v ∙ put_here states v pv'),
            ))

        kept_there : (q : ℕ) → (q ≡ v → ⊥) → Kept q
        kept_there q other =
            subst (λ o. KeptIs so_far.tree (so_far.branch_at n q) (so_far.held n q) (vb_of new n q) false o (kept_at q end.streams)) (sym (id_there left_at v (Some granted) q (λ e. other (sym e))))
            (subst (λ o. KeptIs so_far.tree (so_far.branch_at n q) (so_far.held n q) (vb_of new n q) false (left_at q) o) (sym (at_opened_there q p.streams stream (λ e. other (sym e))))
            (subst (λ o. KeptIs so_far.tree (so_far.branch_at n q) (so_far.held n q) o false (left_at q) (kept_at q p.streams))
            (vb_here w n c node states (Some (was w n c node r f states lines client up ask asks)) q ∙ sym (put_there states v pv' q other) ∙ sym (vb_here w n c node st (Some client') q))
            (kept_left w n c node r f states lines client up ask asks q)))

        kept_by : (q : ℕ) (b : Bool) → (q == v) ≡ b → Kept q
        kept_by q true e = subst Kept (sym (eqb-true q v e)) kept_here
        kept_by q false e = kept_there q (eqb-false q v e)

        lets : Comes (st, answer w n c node r f states lines client up ask asks st end pv.log pv.position.at AskAnswer.Go)
        lets = asked_goes w n c node r f states lines client up ask asks st end pv.log pv.position.at AskAnswer.Go (record {
          lawful = said_at pv there AskAnswer.Go
              (go_lawful so_far k (agrees w n c node r f states lines client up).sound (agrees w n c node r f states lines client up).hists n v (seat n v) pv at ask active (ranged_order ask (opens_ranged pv id ask opens_it)).0 ruled)
              (active_vb_lines so_far k (agrees w n c node r f states lines client up).sound (agrees w n c node r f states lines client up).hists n v (seat n v) pv at ask active);
          own = own_so AskAnswer.Go;
          reason = reason_so AskAnswer.Go (open_reason so_far k n v (seat n v) pv at (left_at v) ask id free_left active (opens_ranged pv id ask opens_it) AskAnswer.Go (λ is. no_refusal AskAnswer.Go tt is));
          count = sym (counts true open_it);
          short = few_short pv.log (short_at pv there);
          step = step_at w n c node states st (Some (was w n c node r f states lines client up ask asks)) (Some client') v id pv pv' there (put_here states v pv') (λ q other. put_there states v pv' q other)
              (opened_changes pv id ask sync active free at.sound) (free_own w n c node before_it (agrees w n c node r f states lines client up).differ v id nobody);
          opens = λ q j has. ⊎_elim (λ had. inl had) (λ o. inr (subst (λ x. IsFree j (vb_of before_it n x)) o.0 (subst (λ y. IsFree y (vb_of before_it n v)) o.1 free_there))) (open_opened q j stream p.streams has);
          desk = refl;
          shaken = refl;
          window = refl;
          kept = kept_opened p stream refl (mine w n c node r f states lines client up ask asks).kept;
          one = one_opened stream p.streams free_here (mine w n c node r f states lines client up ask asks).one;
          opened = λ t i. is_opened p (left_at v) ask of_client v open_it;
          streams = λ q. kept_by q (q == v) refl;
        })

      -- by what its rule says
      ruled_by : open_refusal pv id ask ≡ None → (said : Verdict) → rule pv.log pv.position.at ask ≡ said
          → Comes (with_vb_at states v (judged_open said pv id ask sync).0, opened_answered f ask s (Some (judged_open said pv id ask sync).1))
      unfolding stream_answered
      ruled_by opens_it Continue ruled = lets opens_it ruled
      ruled_by opens_it (Roll to) ruled =
          let active : is_active pv.role ≡ true = opens_active pv id ask opens_it in
          not_let (with_vb_at states v pv) (put_again states v pv there) pv.log pv.position.at (AskAnswer.Roll to) tt
          (said_at pv there (AskAnswer.Roll to)
          (roll_lawful so_far k (agrees w n c node r f states lines client up).sound (agrees w n c node r f states lines client up).hists n v (seat n v) pv at ask active to ruled)
          (active_vb_lines so_far k (agrees w n c node r f states lines client up).sound (agrees w n c node r f states lines client up).hists n v (seat n v) pv at ask active))
          (open_reason so_far k n v (seat n v) pv at (left_at v) ask id free_left active (opens_ranged pv id ask opens_it) (AskAnswer.Roll to) (λ is. no_refusal (AskAnswer.Roll to) tt is))
          (few_short pv.log (short_at pv there))

      refused_by : (why : Option Status) → open_refusal pv id ask ≡ why → Comes (with_vb_at states v (open_outcome why pv id ask sync).0, opened_answered f ask s (Some (open_outcome why pv id ask sync).1))
      unfolding stream_answered
      refused_by None opens_it = ruled_by opens_it (rule pv.log pv.position.at ask) refl
      refused_by (Some why) because =
          not_let (with_vb_at states v pv) (put_again states v pv there) pv.log pv.position.at (refuse why) tt
          (said_at pv there (refuse why) (refusal_named pv id ask why because).0 tt) (own_reason so_far k n v (seat n v) pv at (left_at v) ask id free_left why because) (few_short pv.log (short_at pv there))

    opening_goes : Comes (after (opening_requested f ask s) states)
    unfolding stream_answered
    opening_goes = by (states v) refl
      where
        by : (o : Option Plain) → states v ≡ o → Comes (let y = call_at states v (call.OpenStream id ask sync) o in (y.0, opened_answered f ask s y.1))
        by None none =
            not_let states (λ q. refl) [] 0 (refuse Status.NotMyVbucket) tt
            (said_away so_far n v before_it k (agrees w n c node r f states lines client up) (vb_here w n c node states (Some (was w n c node r f states lines client up ask asks)) v ∙ none) running ask (refuse Status.NotMyVbucket) (λ e. omega (arith, e)) tt)
            (away_as (so_far.role_at n v) (left_at v) ask (away_here none))
            (few_short [] (omega arith))
        by (Some pv) there = refused_by pv there (open_refusal pv id ask) refl

  by_opens : (b : Bool) → opens p v ask ≡ b → Comes (after (if b then opening_requested f ask s else refusal_requested f ask s) states)
  by_opens true e = opening_goes e
  by_opens false e = refusal_goes e

  pub passed_ask : Comes (after (stream_request f ask s) states)
  unfolding stream_request
  passed_ask = by_opens (opens p v ask) refl

-- frames of a client's streams, one after the other: the lines so far are lawful, all agrees, and what was quiet is so still
use Rattle.std.specs.Prelude.{◌≡◌, ◌==◌, ◌||◌, if◌then◌else◌}
use Rattle.transcript_law.proofs.Words.{ℕ, Bool, true, false, List, refl, sym, ap, ◌∙◌, subst, inl, inr, ⊎_elim, Option, Some, None, eq-eqb, eqb-true, Chronicle, Cluster, More, PlainNode, PlainProducer, PlainStream, PlainWorld, Served, States, Stop, TakesSnapshots, Turn, after_lines}
use Rattle.client_session.specs.Serving.{PlainSession}
unfoldable use Rattle.dcp_producer.specs.Frames.{next_frame}
unfoldable use Rattle.dcp_producer.specs.Pulling.{one_turn}
use Rattle.dcp_producer.specs.Pulling.{Pulling, QuietOnes, came, first_wait, is_quiet, past_turn, pull_of, stream_asked, stream_in, stream_in_turn, turn_had, with_quiet, Halting}
use Rattle.dcp_producer.specs.Producers.{stream_at as kept_at}
use Rattle.dcp_producer.proofs.Awake.{quiet_more}
use Rattle.flow_control.specs.Windows.{is_open as lets_through}
use Rattle.transcript_law.proofs.indexers.{Framed.{both_wait, wait_of, IsQuietNow, IsWaitingNow, PutSoFar, QuietSoFar, RestsNow, SoFar, TurnSoFar, WaitsNow, client_of, framed_there, mine, read, turned_so_far, world_of}, Marks.{next_turn}, Replied.{with_frame}, Streams.{same_number}}
use Rattle.transcript_law.proofs.invariant.{ClientsTold.{ClientAgrees}, OpenStreams.{Among, at_among, id_among}}
use Rattle.transcript_law.specs.{LawfulClients.{IsQuiet, WaitsSaved}, LinesTold.{OwnChange}, StreamsTold.{ClientStream, ClientsKnown}}
use Rattle.vbucket.specs.Takes.{TakesExactly}
use Rattle.vb_calls.proofs.JobReadings.{after_reads_bind}
use Rattle.vb_calls.specs.Jobs.{Ended, after_reads}

or_false : (a b : Bool) → (a || b) ≡ false → (a ≡ false) × (b ≡ false)
or_false true b e = cc
or_false false b e = (refl, e)

or_true : (a b : Bool) → (a || (b || false)) ≡ true → a ≡ false → b ≡ true
or_true true b e none = cc
or_true false true e none = refl
or_true false false e none = cc

still_more : (a b : Bool) → a ≡ true → (a || b) ≡ true
still_more true b e = refl
still_more false b e = cc

-- the chronicle with other clients, and other changes
quiet_known : (r : Chronicle) (known : ClientsKnown) (made : List OwnChange) (changed : Bool) (n v : ℕ) (y : ClientStream) → IsQuiet r n v y → IsQuiet (record r { clients_at = known; made = made; changed = changed }) n v y
quiet_known r known made changed n v y x = record { whole = x.whole; stays = x.stays; goes_on = x.goes_on; active = x.active; none = x.none }

-- so is what waits
waits_known : (r : Chronicle) (known : ClientsKnown) (made : List OwnChange) (changed : Bool) (n v : ℕ) (y : ClientStream) → WaitsSaved r n v y → WaitsSaved (record r { clients_at = known; made = made; changed = changed }) n v y
waits_known r known made changed n v y x = record { whole = x.whole; stays = x.stays; goes_on = x.goes_on; active = x.active; saved = x.saved }

-- the stream that has its turn is one of the streams
in_streams : (end : PlainProducer) (t : PlainStream) → stream_in_turn end ≡ Some t → Among t end.streams
in_streams end t e = among_in _ end.streams t e
  where
    among_in : (o : Option ℕ) (streams : List PlainStream) (t : PlainStream) → stream_in o streams ≡ Some t → Among t streams
    among_in None streams t e = cc
    among_in (Some id) streams t e = id_among id streams t e

module _ (takes : TakesSnapshots) (exactly : TakesExactly) (w : PlainWorld) (r : Chronicle) (cl : Cluster) (n c : ℕ) (node : PlainNode) (session : PlainSession) where
  -- a pull so far
  pub record Pulled (states : States) (p : Pulling) : Type 0 where
    pub so : SoFar w r cl n c node session states p.served
    pub saves : Bool
    pub waits_is : p.quiet.waits ≡ wait_of saves
    pub still : saves ≡ false → (u : PlainStream) → Among u p.served.end.streams → is_quiet u.id p.quiet ≡ true → IsQuietNow w r cl n c node session (after_lines r so.lines) u
    pub rest : (u : PlainStream) → Among u p.served.end.streams → is_quiet u.id p.quiet ≡ true → RestsNow w r cl n c node session (after_lines r so.lines) u
    pub one : saves ≡ true → (x : WaitsNow w r cl n c node session (after_lines r so.lines) p.served.end.streams) × (is_quiet x.stream.id p.quiet ≡ true)

  -- a turn in which nothing was put
  pub record Went (p p' : Pulling) (states' : States) : Type 0 where
    pub pulled : Pulled states' p'
    pub end_is : p'.served.end ≡ (past_turn p.served).end
    pub asked : (t : PlainStream) → stream_in_turn p.served.end ≡ Some t → is_quiet t.id p'.quiet ≡ true
    pub more : (id : ℕ) → is_quiet id p.quiet ≡ true → is_quiet id p'.quiet ≡ true

  abbrev pub Came : Pulling → States × Turn Pulling Halting → Type 0
  Came p (states', More p') = Went p p' states'
  Came p (states', Stop (p', None)) = Pulled states' p'
  Came p (states', Stop (p', Some halted)) = ⊥

  module _ (states : States) (p : Pulling) (g : Pulled states p) where
    open p use {served as s, quiet as q}

    here : ClientAgrees (world_of w r cl n c node session states s) (read w r cl n c node session states s g.so) n c (client_of w r cl n c node session s)
    here = mine w r cl n c node session states s g.so

    -- the next one has its turn
    past : Pulled states (pull_of (past_turn s) q)
    past = let (so, lines) = turned_so_far w r cl n c node session states s g.so (past_turn s) refl refl refl refl in record {
      so = so;
      saves = g.saves;
      waits_is = g.waits_is;
      still = λ none u i quiet. subst (λ ls. IsQuietNow w r cl n c node session (after_lines r ls) u) (sym lines) (g.still none u i quiet);
      rest = λ u i quiet. subst (λ ls. RestsNow w r cl n c node session (after_lines r ls) u) (sym lines) (g.rest u i quiet);
      one = λ waits. let x = g.one waits in (record { stream = x.0.stream; at = x.0.at; waits = subst (λ ls. IsWaitingNow w r cl n c node session (after_lines r ls) x.0.stream) (sym lines) x.0.waits }, x.1);
    }

  -- ---- a stream has its turn

  module _ (states : States) (s : Served) (q : QuietOnes) (g : Pulled states (pull_of s q)) (t : PlainStream) (i : Among t s.end.streams) (awake : is_quiet t.id q ≡ false) (through : lets_through s.end.window ≡ true) where
    own : ClientAgrees (world_of w r cl n c node session states s) (read w r cl n c node session states s g.so) n c (client_of w r cl n c node session s)
    own = mine w r cl n c node session states s g.so

    abbrev before : Chronicle
    before = read w r cl n c node session states s g.so

    -- one that was quiet is another one
    differ : (u : PlainStream) → is_quiet u.id q ≡ true → u.id ≡ t.id → ⊥
    differ u was e = let z : true ≡ false = sym was ∙ ap (λ k. is_quiet k q) e ∙ awake in cc

    apart : (u : PlainStream) → Among u s.end.streams → is_quiet u.id q ≡ true → u.vb ≡ t.vb → ⊥
    apart u k was e = let both : Some u ≡ Some t = sym (own.one u k) ∙ ap (λ v. kept_at v s.end.streams) e ∙ own.one t i in let one : u ≡ t = cc in differ u was (ap (λ (x : PlainStream). x.id) one)

    -- it put a frame
    module _ (states' : States) (p' : Pulling) (put : PutSoFar w r cl n c node session states s g.so t states' p'.served) where
      abbrev put_behind : Chronicle
      put_behind = with_frame before n c put.bytes put.line

      -- what is known of another one is what was
      there : (u : PlainStream) (y : ClientStream) → (u.vb ≡ t.vb → ⊥) → ((after_lines r put.so.lines).clients_at n c).streams u.vb ≡ Some y → (before.clients_at n c).streams u.vb ≡ Some y
      there u y other known = sym (framed_there before n c put.bytes put.line t.vb put.header u.vb other) ∙ ap (λ (x : Chronicle). (x.clients_at n c).streams u.vb) (sym put.read_is) ∙ known

      quiet_then : (u : PlainStream) → (u.vb ≡ t.vb → ⊥) → IsQuietNow w r cl n c node session before u → IsQuietNow w r cl n c node session (after_lines r put.so.lines) u
      quiet_then u other quiet y known = subst (λ x. IsQuiet x n u.vb y) (sym put.read_is) (quiet_known before put_behind.clients_at put_behind.made false n u.vb y (quiet y (there u y other known)))

      waits_then : (u : PlainStream) → (u.vb ≡ t.vb → ⊥) → IsWaitingNow w r cl n c node session before u → IsWaitingNow w r cl n c node session (after_lines r put.so.lines) u
      waits_then u other waits y known = subst (λ x. WaitsSaved x n u.vb y) (sym put.read_is) (waits_known before put_behind.clients_at put_behind.made false n u.vb y (waits y (there u y other known)))

      put_pulled : p'.quiet ≡ q → Pulled states' p'
      put_pulled same = record {
        so = put.so;
        saves = g.saves;
        waits_is = ap (λ (x : QuietOnes). x.waits) same ∙ g.waits_is;
        still = λ none u j quiet.
            let was : is_quiet u.id q ≡ true = ap (is_quiet u.id) (sym same) ∙ quiet in
            let k : Among u s.end.streams = put.others u j (differ u was) in
            quiet_then u (apart u k was) (g.still none u k was);
        rest = λ u j quiet.
            let was : is_quiet u.id q ≡ true = ap (is_quiet u.id) (sym same) ∙ quiet in
            let k : Among u s.end.streams = put.others u j (differ u was) in
            ⊎_elim (λ x. inl (quiet_then u (apart u k was) x)) (λ x. inr (waits_then u (apart u k was) x)) (g.rest u k was);
        one = λ waits.
            let x = g.one waits in
            let u : PlainStream = x.0.stream in
            let other : u.vb ≡ t.vb → ⊥ = apart u (at_among u.vb s.end.streams u x.0.at) x.1 in
            (record { stream = u; at = put.stay u.vb other ∙ x.0.at; waits = waits_then u other x.0.waits }, ap (is_quiet u.id) same ∙ x.1);
      }

    -- it was quiet
    quiet_went : (states' : States) (p' : Pulling) → QuietSoFar w r cl n c node session states s g.so q t states' p' → (p : Pulling) → s ≡ past_turn p.served → q ≡ p.quiet → stream_in_turn p.served.end ≡ Some t → Went p p' states'
    quiet_went states' p' went p behind quiet in_turn = record {
      pulled = record {
        so = went.so;
        saves = g.saves || went.waits;
        waits_is = ap (λ (x : QuietOnes). x.waits) went.quiet_is ∙ ap (λ x. first_wait x (wait_of went.waits)) g.waits_is ∙ both_wait g.saves went.waits;
        still = λ none u j was.
            let parts = or_false g.saves went.waits none in
            let k : Among u s.end.streams = subst (λ (e : PlainProducer). Among u e.streams) went.same j in
            subst (λ x. IsQuietNow w r cl n c node session x u) (sym went.read_is) (by u k parts (is_quiet u.id q) refl (sym (quiet_more q t.id (wait_of went.waits) u.id) ∙ ap (is_quiet u.id) (sym went.quiet_is) ∙ was));
        rest = λ u j was.
            let k : Among u s.end.streams = subst (λ (e : PlainProducer). Among u e.streams) went.same j in
            subst (λ x. RestsNow w r cl n c node session x u) (sym went.read_is) (rests u k (is_quiet u.id q) refl (sym (quiet_more q t.id (wait_of went.waits) u.id) ∙ ap (is_quiet u.id) (sym went.quiet_is) ∙ was));
        one = λ waits. ones g.saves refl waits;
      };
      end_is = went.same ∙ ap (λ (x : Served). x.end) behind;
      asked = λ t' e. let both : Some t ≡ Some t' = sym in_turn ∙ e in let one : t ≡ t' = cc in ap (is_quiet t'.id) went.quiet_is ∙ ap (λ (x : PlainStream). is_quiet x.id (with_quiet t.id (wait_of went.waits) q)) (sym one) ∙ now_quiet;
      more = λ id was. ap (is_quiet id) went.quiet_is ∙ quiet_more q t.id (wait_of went.waits) id ∙ still_more (is_quiet id q) (t.id == id || false) (ap (is_quiet id) quiet ∙ was);
    }
      where
        now_quiet : is_quiet t.id (with_quiet t.id (wait_of went.waits) q) ≡ true
        now_quiet = quiet_more q t.id (wait_of went.waits) t.id ∙ ap (λ b. b || (t.id == t.id || false)) awake ∙ ap (λ b. b || false) (eq-eqb t.id t.id refl)

        -- the stream that was asked rests
        it_rests : RestsNow w r cl n c node session before t
        it_rests = now went.waits refl
          where
            now : (b : Bool) → went.waits ≡ b → RestsNow w r cl n c node session before t
            now true e = inr (went.waiting e)
            now false e = inl (went.quiet e)

        rests : (u : PlainStream) → Among u s.end.streams → (b : Bool) → is_quiet u.id q ≡ b → (is_quiet u.id q || (t.id == u.id || false)) ≡ true → RestsNow w r cl n c node session before u
        rests u k true e was = g.rest u k e
        rests u k false e was =
            let same : u.id ≡ t.id = sym (eqb-true t.id u.id (or_true (is_quiet u.id q) (t.id == u.id) was e)) in
            subst (RestsNow w r cl n c node session before) (sym (same_number s.end.streams u t own.kept.rise k i same)) it_rests

        -- it waits, or one did before
        behind_now : (x : WaitsNow w r cl n c node session before s.end.streams) → WaitsNow w r cl n c node session (after_lines r went.so.lines) p'.served.end.streams
        behind_now x = record {
          stream = x.stream;
          at = ap (λ (e : PlainProducer). kept_at x.stream.vb e.streams) went.same ∙ x.at;
          waits = subst (λ y. IsWaitingNow w r cl n c node session y x.stream) (sym went.read_is) x.waits;
        }

        still_quiet : (id : ℕ) → is_quiet id q ≡ true → is_quiet id p'.quiet ≡ true
        still_quiet id was = ap (is_quiet id) went.quiet_is ∙ quiet_more q t.id (wait_of went.waits) id ∙ still_more (is_quiet id q) (t.id == id || false) was

        ones : (b : Bool) → g.saves ≡ b → (g.saves || went.waits) ≡ true → (x : WaitsNow w r cl n c node session (after_lines r went.so.lines) p'.served.end.streams) × (is_quiet x.stream.id p'.quiet ≡ true)
        ones true e waits = let x = g.one e in (behind_now x.0, still_quiet x.0.stream.id x.1)
        ones false e waits =
            let now : went.waits ≡ true = sym (ap (λ b. b || went.waits) e) ∙ waits in
            (behind_now (record { stream = t; at = own.one t i; waits = went.waiting now }), ap (is_quiet t.id) went.quiet_is ∙ now_quiet)

        by : (u : PlainStream) → Among u s.end.streams → (g.saves ≡ false) × (went.waits ≡ false) → (b : Bool) → is_quiet u.id q ≡ b → (is_quiet u.id q || (t.id == u.id || false)) ≡ true
            → IsQuietNow w r cl n c node session (read w r cl n c node session states s g.so) u
        by u k parts true e was = g.still parts.0 u k e
        by u k parts false e was =
            let same : u.id ≡ t.id = sym (eqb-true t.id u.id (or_true (is_quiet u.id q) (t.id == u.id) was e)) in
            subst (λ x. IsQuietNow w r cl n c node session (read w r cl n c node session states s g.so) x) (sym (same_number s.end.streams u t own.kept.rise k i same)) (went.quiet parts.1)

    asked_goes : (p : Pulling) → s ≡ past_turn p.served → q ≡ p.quiet → stream_in_turn p.served.end ≡ Some t → Came p (after_reads (stream_asked s q t) node.shelves states)
    asked_goes p behind quiet in_turn =
        subst (Came p) (sym (after_reads_bind (next_frame s.end.desk.stream t) (λ next. Ended (came s q next)) node.shelves states))
        (by (after_reads (next_frame s.end.desk.stream t) node.shelves states).0 (came s q (after_reads (next_frame s.end.desk.stream t) node.shelves states).1) (next_turn w r cl n c node session states s g.so q t i through takes exactly))
      where
        by : (states' : States) (x : Turn Pulling Halting) → TurnSoFar w r cl n c node session states s g.so q t (states', x) → Came p (states', x)
        by states' (More p') went = quiet_went states' p' went p behind quiet in_turn
        by states' (Stop (p', None)) put = put_pulled states' p' put.0 put.1
        by states' (Stop (p', Some halted)) put = absurd put

  -- one turn of the connection
  pub one_goes : (states : States) (p : Pulling) → Pulled states p → lets_through p.served.end.window ≡ true → Came p (after_reads (one_turn p) node.shelves states)
  unfolding one_turn
  one_goes states p g through = by (stream_in_turn p.served.end) refl
    where
      behind : Pulled states (pull_of (past_turn p.served) p.quiet)
      behind = past states p g

      whether : (t : PlainStream) → stream_in_turn p.served.end ≡ Some t → (b : Bool) → is_quiet t.id p.quiet ≡ b
          → Came p (after_reads (if b then Ended (More (pull_of (past_turn p.served) p.quiet)) else stream_asked (past_turn p.served) p.quiet t) node.shelves states)
      whether t e true quiet = record {
        pulled = behind;
        end_is = refl;
        asked = λ t' f. let both : Some t ≡ Some t' = sym e ∙ f in let one : t ≡ t' = cc in ap (λ (x : PlainStream). is_quiet x.id p.quiet) (sym one) ∙ quiet;
        more = λ id was. was;
      }
      whether t e false awake = asked_goes states (past_turn p.served) p.quiet behind t (in_streams p.served.end t e) awake through p refl refl e

      by : (o : Option PlainStream) → stream_in_turn p.served.end ≡ o → Came p (after_reads (turn_had (past_turn p.served) p.quiet o) node.shelves states)
      by None e = record { pulled = behind; end_is = refl; asked = λ t f. let z : None ≡ Some t = sym e ∙ f in cc; more = λ id was. was }
      by (Some t) e = whether t e (is_quiet t.id p.quiet) refl

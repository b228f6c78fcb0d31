-- a client's stream that has no cursor is given one where its changes come from memory: of that no line tells
use Rattle.std.specs.Prelude.{◌≡◌, if◌then◌else◌}
use Rattle.transcript_law.proofs.Words.{ℕ, true, false, refl, sym, ap, ◌∙◌, subst, inl, Some, None, eq-eqb, ne_eqb, Chronicle, Cluster, Plain, PlainNode, PlainStream, PlainWorld, Served, States, Stream, More, Stop, Turn, map, stream_at, with_vb_at}
use Rattle.client_session.specs.Serving.{PlainSession}
use Rattle.dcp_producer.specs.Frames.{place_requested, place_said, placed_next}
use Rattle.dcp_producer.specs.Pulling.{Pulling, QuietOnes, Halting}
use Rattle.flow_control.specs.Windows.{is_open as lets_through}
use Rattle.node_core.specs.Clients.{PlainClient}
use Rattle.std.proofs.lemmas.Bool.{leb-true}
use Rattle.transcript_law.proofs.indexers.{Ends.{has, known, moved_step, opens, vb_agrees}, Framed.{SoFar, TurnSoFar, client_of, mine, read, world_of}, Owning.{with_streams, went_owned}, Replacing.{replaced_same}, Steps.{ClientStep}, Worlds.{stepped_same, vb_here, waited_same}}
use Rattle.transcript_law.proofs.invariant.{Agreement.{AgreesIn, idle, vb_of}, Carried.{sound_streams}, Carrying.{StreamsChanged}, ClientsTold.{ClientAgrees, IsOpenFor, StreamIs}, OpenStreams.{Among}, Owed.{waits_same}}
use Rattle.vb_calls.proofs.Placing.{given_again, given_here, given_there, with_cursor}
use Rattle.vb_calls.specs.Streams.{given_cursor, is_in_memory}
use Rattle.vbucket.proofs.Fed.{feeds_given}
use Rattle.vb_calls.specs.Jobs.{after_reads}

module _ (w : PlainWorld) (r : Chronicle) (cl : Cluster) (n c : ℕ) (node : PlainNode) (session : PlainSession) (states : States) (s : Served) (g : SoFar w r cl n c node session states s) (q : QuietOnes) (t : PlainStream) (i : Among t s.end.streams) (through : lets_through s.end.window ≡ true) (going : t.ended ≡ false) where
  abbrev here : Chronicle
  here = read w r cl n c node session states s g

  abbrev now : PlainWorld
  now = world_of w r cl n c node session states s

  abbrev client : PlainClient
  client = client_of w r cl n c node session s

  abbrev pub x : IsOpenFor here.tree (here.branch_at n t.vb) (known w r cl n c node session states s g q t i through).g t.id (vb_of now n t.vb)
  x = opens w r cl n c node session states s g q t i through going

  there_is : states t.vb ≡ Some x.vb
  there_is = has w r cl n c node session states s g q t i through going

  module _ (none : x.stream.cursor ≡ false) (near : is_in_memory x.vb x.stream.place ≡ true) where
    abbrev given : Plain
    given = record x.vb { streams = map (given_cursor t.id) x.vb.streams }

    -- the vBuckets then
    abbrev pub given_states : States
    given_states = with_vb_at states t.vb given

    abbrev new : PlainWorld
    new = world_of w r cl n c node session given_states s

    given_is : given_states t.vb ≡ Some given
    given_is = ap (λ b. if b then Some given else states t.vb) (eq-eqb t.vb t.vb refl)

    others : (j : ℕ) → (j ≡ t.vb → ⊥) → given_states j ≡ states j
    others j ne = ap (λ b. if b then Some given else states j) (ne_eqb j t.vb ne)

    changed : StreamsChanged t.id x.vb given
    changed =
        let va = vb_agrees w r cl n c node session states s g q t i through going in
        record {
          sound = sound_streams x.vb given.streams va.sound (feeds_given x.vb.role x.vb.floor t.id x.vb.streams x.stream va.sound.feeds x.opened (leb-true x.vb.floor x.stream.place near));
          alone = refl;
          others = λ y ne. given_there t.id y x.vb.streams ne;
        }

    step : ClientStep now new n c
    step = moved_step w r cl n c node session states s g q t i through going given (Some client) given_states changed given_is others

    -- the stream stands as it did
    stands : StreamIs here.tree (here.branch_at n t.vb) (here.held n t.vb) (vb_of new n t.vb) (known w r cl n c node session states s g q t i through).g t
    stands =
        let is = (known w r cl n c node session states s g q t i through).is in
        record {
          opaque = is.opaque;
          small = is.small;
          until = is.until;
          first = is.first;
          over = is.over;
          ended = is.ended;
          gives = is.gives;
          shows = is.shows;
          put_place = is.put_place;
          none_unread = is.none_unread;
          fits = is.fits;
          next_in = is.next_in;
          started = is.started;
          begun = is.begun;
          opens = λ e. record {
            vb = given;
            there = vb_here w n c node given_states (Some client) t.vb ∙ given_is;
            active = x.active;
            branch = x.branch;
            stream = with_cursor x.stream;
            opened = given_here t.id x.vb.streams x.stream x.opened;
            ask = x.ask;
            sync = x.sync;
            taken = x.taken;
            place = x.place;
            low = x.low;
          };
        }

    mine_then : ClientAgrees new here n c client
    mine_then =
        let m = mine w r cl n c node session states s g in
        let y = known w r cl n c node session states s g q t i through in
        subst (ClientAgrees new here n c) (ap (λ xs. with_streams client xs s.end) (replaced_same s.end.streams t m.kept.rise i))
        (went_owned now new here here n c client m t t i refl refl s.end (record { bytes = refl; setup = refl; told = m.silent; opened = refl; asking = refl }) m.flow
        (λ j ne. (refl, refl, refl, vb_here w n c node given_states (Some client) j ∙ others j ne ∙ sym (vb_here w n c node states (Some client) j), refl))
        y.g y.known y.unclosed stands)

    pub agrees_then : AgreesIn idle new here cl
    agrees_then =
        stepped_same w n c node states given_states client client here cl g.agrees step (λ v id had. inl had) mine_then
        (waited_same w n c node states given_states client client here cl g.agrees step (waits_same (here.clients_at n c).asking session session refl))

    -- it is so far as it was
    abbrev pub given_so_far : SoFar w r cl n c node session given_states s
    given_so_far = record { rests = g.rests; lines = g.lines; tells = g.tells; pairs = g.pairs; lawful = g.lawful; agrees = agrees_then }

    -- what a turn comes to then, it comes to
    pub turn_given : (came : States × Turn Pulling Halting) → TurnSoFar w r cl n c node session given_states s given_so_far q t came → TurnSoFar w r cl n c node session states s g q t came
    turn_given (left, More p) y = record { so = y.so; read_is = y.read_is; same = y.same; waits = y.waits; quiet_is = y.quiet_is; quiet = y.quiet; waiting = y.waiting }
    turn_given (left, Stop (p, Some halted)) y = absurd y
    turn_given (left, Stop (p, None)) (y, quiet) = (record { so = y.so; bytes = y.bytes; line = y.line; header = y.header; read_is = y.read_is; others = y.others; stay = y.stay }, quiet)

    -- and its vBucket is asked as before it
    pub asked_given : after_reads (place_requested s.end.desk.stream t) node.shelves given_states ≡ after_reads (place_requested s.end.desk.stream t) node.shelves states
    asked_given =
        let again = given_again states t.vb t.id x.vb x.stream there_is x.opened none near in
        λ j. after_reads (placed_next s.end.desk.stream t (place_said (again j).1)) node.shelves (again j).0

    -- it has one then
    pub has_given : (opens w r cl n c node session given_states s given_so_far q t i through going).stream.cursor ≡ true
    has_given =
        let y = opens w r cl n c node session given_states s given_so_far q t i through going in
        let both : Some given ≡ Some y.vb = sym given_is ∙ has w r cl n c node session given_states s given_so_far q t i through going in
        let one : given ≡ y.vb = cc in
        let same : Some (with_cursor x.stream) ≡ Some y.stream = sym (given_here t.id x.vb.streams x.stream x.opened) ∙ ap (λ (p : Plain). stream_at t.id p.streams) one ∙ y.opened in
        let its : with_cursor x.stream ≡ y.stream = cc in
        sym (ap (λ (o : Stream). o.cursor) its)

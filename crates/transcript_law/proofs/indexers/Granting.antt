-- a stream that a vBucket lets continue: the vBucket has it, and the client's producer
use Rattle.std.specs.Prelude.{◌≡◌, ◌<◌, ◌≤◌, ◌∷◌, ◌++◌, ◌==◌, ◌&&◌, ◌^◌, if◌then◌else◌, nat_le}
use Rattle.branch_model.proofs.Ruling.{continue_top, upper_le}
use Rattle.branch_model.specs.Logs.{Falls, IsFront}
use Rattle.transcript_law.proofs.Words.{ℕ, Bool, true, false, List, [], length, refl, sym, ap, ◌∙◌, subst, arith, nat_tests, and_parts, eq-eqb, ne_eqb, eqb-false, eqb-true, All-nil, find-append, option_or, Option, Some, None, Status, LogEntry, StreamAsk, Change, Continue, rule, effective_se, effective_ss, front, uuid_of, Cluster, Plain, Stream, Sound, is_active, stream_at, new_stream, open_refusal, is_ranged, id_refusal, first_reason, Frame, PlainStream, Chronicle}
use Rattle.std.proofs.lemmas.Bool.{leb-true}
use Rattle.vbucket.proofs.Fed.{feeds_opened}
use Rattle.dcp_producer.specs.Serving.{gives_of, new_stream as kept_stream}
use Rattle.transcript_law.proofs.invariant.{Agreement.{VbAgrees, top}, Bounded.{SoundCluster}, Carried.{sound_streams}, Carrying.{StreamsChanged}, ClientsTold.{PlaceIs, StreamIs}, Holdings.{ChangeFits, IsWriterIf}}
use Rattle.transcript_law.specs.{ClientFrames.{Request, is_sync}, ClientStreams.{new_stream as known_stream, stream_view}, StreamsTold.{ClientStream, Setup}}
use Rattle.transcript_law.proofs.invariant.NoneUnread.{none_source}
use Rattle.vb_calls.specs.Streams.{asked_stream, is_in_memory, source_of}

-- ---- its vBucket

module _ (pv : Plain) (id : ℕ) (ask : StreamAsk) (sync : Bool) where
  -- the vBucket with the stream
  abbrev pub opened : Plain
  opened = record pv { streams = pv.streams ++ new_stream pv id ask sync ∷ [] }

  pub opened_here : stream_at id pv.streams ≡ None → stream_at id opened.streams ≡ Some (new_stream pv id ask sync)
  opened_here free =
      find-append (λ (s : Stream). s.id == id) pv.streams (new_stream pv id ask sync ∷ [])
      ∙ ap (λ y. option_or y (if id == id then Some (new_stream pv id ask sync) else None)) free
      ∙ ap (λ b. if b then Some (new_stream pv id ask sync) else None) (eq-eqb id id refl)

  -- and no other stream changed
  pub opened_changes : is_active pv.role ≡ true → stream_at id pv.streams ≡ None → Sound pv → StreamsChanged id pv opened
  opened_changes active free sound = record {
    sound = sound_streams pv opened.streams sound (feeds_opened pv.role pv.floor pv.streams (new_stream pv id ask sync) active sound.feeds free (leb-true pv.floor ask.start));
    alone = refl;
    others = λ x ne.
        find-append (λ (s : Stream). s.id == x) pv.streams (new_stream pv id ask sync ∷ [])
        ∙ ap (λ b. option_or (stream_at x pv.streams) (if b then Some (new_stream pv id ask sync) else None)) (ne_eqb id x (λ e. ne (sym e)))
        ∙ elim (stream_at x pv.streams) as (λ o. option_or o None ≡ o) [ None ↦ refl | Some s ↦ refl ];
  }

-- what is let continue is in its range
pub opens_ranged : (pv : Plain) (id : ℕ) (ask : StreamAsk) → open_refusal pv id ask ≡ None → is_ranged ask ≡ true
opens_ranged pv id ask = by (is_active pv.role) (id_refusal id (stream_at id pv.streams)) (is_ranged ask)
  where
    by : (a : Bool) (o : Option Status) (b : Bool) → (if a then first_reason o (if b then None else Some Status.Erange) else Some Status.NotMyVbucket) ≡ None → b ≡ true
    by true None true e = refl
    by true None false e = cc
    by true (Some st) b e = cc
    by false o b e = cc

pub ranged_order : (ask : StreamAsk) → is_ranged ask ≡ true → (ask.ss ≤ ask.start) × (ask.start ≤ ask.se)
ranged_order ask e =
    let (first, last) = and_parts (nat_le ask.start ask.end && nat_le ask.ss ask.start) (nat_le ask.start ask.se) e in
    let (a, b) = and_parts (nat_le ask.start ask.end) (nat_le ask.ss ask.start) first in
    (grind (arith, nat_tests, b), grind (arith, nat_tests, last))

-- and starts at or below what the vBucket has
reaches_start : (start ss se : ℕ) → start ≤ se → start ≤ effective_se start ss se
reaches_start start ss se low = elim (start == effective_ss start ss se) as (λ b. start ≤ (if b then start else se)) [ true ↦ omega arith | false ↦ low ]

pub starts_low : (log : List LogEntry) (high : ℕ) (ask : StreamAsk) → Falls log high → ask.start ≤ ask.se → rule log high ask ≡ Continue → ask.start ≤ high
starts_low log high ask falls low ruled = by (ask.start == 0) refl
  where
    by : (b : Bool) → (ask.start == 0) ≡ b → ask.start ≤ high
    by true e = let z : ask.start ≡ 0 = eqb-true ask.start 0 e in omega (arith, z)
    by false e =
        let not_zero : ask.start ≡ 0 → ⊥ = eqb-false ask.start 0 e in
        let above : 0 < ask.start = grind (arith, not_zero) in
        let (top, is, within) = continue_top log high ask above ruled in
        let most : top ≤ high = upper_le high log ask.uuid top falls is in
        let reach : ask.start ≤ effective_se ask.start ask.ss ask.se = reaches_start ask.start ask.ss ask.se low in
        omega (arith, most, within, reach)

-- ---- the stream

front_uuid : (log : List LogEntry) (br : ℕ) → IsFront log br → uuid_of (front log) ≡ br
front_uuid [] br e = absurd e
front_uuid (e ∷ older) br same = same

place_same : (sync : Bool) (h : List Change) (start : ℕ) → PlaceIs sync h start start
place_same true h start = refl
place_same false h start = (omega arith, λ x i above below. omega (arith, above, below))

-- no failover log is long
pub log_short : (r : Chronicle) (k : Cluster) → SoundCluster top k → (n v p : ℕ) (pv : Plain) → VbAgrees r n v (k.nodes p) pv → length pv.log ≤ 25
log_short r k sound n v p pv agrees = subst (λ (l : List LogEntry). length l ≤ 25) agrees.member.log (sound.stands p).ancestry.short

module _ (r : Chronicle) (k : Cluster) (sound : SoundCluster top k) (n v p : ℕ) (pv : Plain) (agrees : VbAgrees r n v (k.nodes p) pv) (active : is_active pv.role ≡ true) (ask : StreamAsk) where
  leads : (k.nodes p).active ≡ true
  leads = agrees.member.active ∙ active

  in_front : IsFront pv.log (k.nodes p).br
  in_front = subst (λ l. IsFront l (k.nodes p).br) agrees.member.log (sound.leads p leads).front

  falls : Falls pv.log pv.position.at
  falls = subst (λ l. Falls l pv.position.at) agrees.member.log (subst (Falls (k.nodes p).log) (ap (λ x. x.at) agrees.member.position) (sound.leads p leads).falls)

  pub on_branch : r.branch_at n v ≡ Some (uuid_of (front pv.log))
  on_branch =
      let writes = subst (λ b. IsWriterIf b r.tree (r.writer_of (k.nodes p).br) (r.branch_at n v) n v (k.nodes p).br) active agrees.writes in
      writes.branch ∙ ap Some (sym (front_uuid pv.log (k.nodes p).br in_front))

  module _ (id : ℕ) (f : Frame) (s : Setup) (before : List Frame) (sync : Bool) (syncs : sync ≡ is_sync s) (small : f.vb_or_status < 2 ^ 16) (free : stream_at id pv.streams ≡ None) (open_it : open_refusal pv id ask ≡ None) (ruled : rule pv.log pv.position.at ask ≡ Continue) (plain : ask.flags ≡ 0) where
    abbrev request : Request
    request = record { before = before; frame = f; ask = ask }

    -- as it is known
    abbrev pub granted_known : ClientStream
    granted_known = known_stream s request pv.log

    -- and as the producer keeps it
    abbrev pub granted_kept : PlainStream
    granted_kept = kept_stream id f ask sync (source_of pv (asked_stream id ask sync))

    pub granted_is : (held : List Change) (now : Option Plain) → now ≡ Some (opened pv id ask sync) → StreamIs r.tree (r.branch_at n v) held now granted_known granted_kept
    granted_is held now there = record {
      opaque = refl;
      small = small;
      until = refl;
      first = refl;
      over = refl;
      ended = refl;
      gives = ap gives_of plain;
      shows = syncs;
      put_place = refl;
      none_unread = none_source (is_in_memory pv ask.start);
      fits = All-nil ChangeFits;
      next_in = omega arith;
      started = refl;
      begun = (refl, refl);
      opens = λ e. record {
        vb = opened pv id ask sync;
        there = there;
        active = active;
        branch = on_branch;
        stream = new_stream pv id ask sync;
        opened = opened_here pv id ask sync free;
        ask = refl;
        sync = syncs;
        taken = refl;
        place = place_same (is_sync s) (stream_view r.tree granted_known) ask.start;
        low = starts_low pv.log pv.position.at ask falls (ranged_order ask (opens_ranged pv id ask open_it)).1 ruled;
      };
    }

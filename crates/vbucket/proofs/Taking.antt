-- a take is a snapshot
use Rattle.std.proofs.Common.{◌≡◌, ℕ, ◌<◌, ◌≤◌, Bool, true, false, cond, List, [], ◌∷◌, map, refl, sym, ap, subst, ◌∙◌, inl, inr, ⊎_elim, arith}
use Rattle.std.specs.Prelude.{◌==◌, not, Option, Some, None, if◌then◌else◌, nat_le, nat_lt, ◌&&◌, ◌||◌}
use Rattle.std.specs.List.{filter}
use Rattle.std.proofs.lemmas.Bool.Decides.{nat_tests}
use Rattle.vb_types.specs.declared.change.Change.{Change}
use Rattle.vb_types.specs.declared.stream.Snapshot.{Snapshot}
use Rattle.vb_types.specs.Histories.{upto, Rises, IsIn, Slot, touches, last_by, last_of, is_visible, plain}
use Rattle.branch_model.specs.Histories.{last_seq, HasOf, IsOf, StandsAs}
use Rattle.branch_model.specs.Snapshots.{Remains, Covers, plain_view}
use Rattle.branch_model.proofs.Lists.{rises_in, rises_map, from_upto, last_in, last_smaller, last_seq_le}
use Rattle.branch_model.proofs.Lasts.{remains_cover}
use Rattle.vb_calls.specs.declared.calls.VbAnswer.TheVariants as answer
use Rattle.vb_calls.specs.declared.stream.Stream.{Stream}
use Rattle.vb_calls.specs.declared.span.Span.{Span}
use Rattle.vb_calls.specs.Plain.{Plain}
use Rattle.vb_calls.specs.Spans.{all_spans, stretch, live_in, is_whole}
use Rattle.vb_calls.specs.Streams.{stream_at, is_seen, is_plain, sent_as, span_items, items_to, has_any, may_end, end_span, need_of, snapshot_of, moved_on, take_to, take_from}
use Rattle.vbucket.specs.Laws.{Sound, Follow, IsSpan, AllSpans}
use Rattle.vbucket.specs.Takes.{shown_by, IsSentFor, IsSnapshot, TakesSnapshots}
use Rattle.vbucket.proofs.Parts.{from_zero, among_most, between_of, between_tested, below_of, below_tested, most_of, both, conj, filtered, live_rises, bounded, in_filter, kept_in_filter, in_live, in_map, mapped_in, last_filtered, split, Among, found, stands_in, in_flat, in_flat_of, flat_rises}
use Rattle.vbucket.proofs.Sending.{sent_for}
use Rattle.vbucket.proofs.Covering.{in_ends, remains_ends, slot_live, plain_rises, plain_in, plain_of_view, plain_last}

sent_seq : (b : Bool) (c : Change) → (sent_as b c).seq ≡ c.seq
sent_seq true c = refl
sent_seq false c = refl

stands : (b : Bool) (c : Change) → StandsAs (sent_as b c) c
stands true c = inr refl
stands false c = inl refl

pub among_all : (h : List Change) (ws : List Span) (w : Span) → AllSpans h ws → Among w ws → IsSpan h w
among_all h [] w t a = absurd a
among_all h (v ∷ vs) w t a = ⊎_elim (λ e. subst (IsSpan h) (sym e) t.0) (λ k. among_all h vs w t.1 k) a

-- the changes that a stream is given up to the end of a span

module _ (s : Stream) (ws : List Span) (h : List Change) (low at : ℕ) (r : Rises low at h) (f : Follow low ws at) (t : AllSpans h ws) (w0 : Span) (a : Among w0 ws) (l : s.place < w0.last) where
  r0 : Rises 0 at h
  r0 = from_zero low at h r

  abbrev wanted : Change → Bool
  wanted c = nat_lt s.place c.seq && is_seen s.sync c.act

  abbrev taken : Span → Bool
  taken w = nat_lt s.place w.last && nat_le w.last w0.last

  stretch_rises : (w : Span) → w.above ≤ w.last → Rises w.above w.last (stretch w.above w.last h)
  stretch_rises w m = bounded low at w.above w.last (stretch w.above w.last h) (filtered (λ c. nat_lt w.above c.seq && nat_le c.seq w.last) low at h r) m
      (λ x i. between_of w.above w.last x.seq (in_filter (λ c. nat_lt w.above c.seq && nat_le c.seq w.last) h x i).1)

  span_rises : (w : Span) → w.above ≤ w.last → Rises w.above w.last (span_items s h w)
  span_rises w m = rises_map (sent_as (is_plain s)) (sent_seq (is_plain s)) w.above w.last (filter wanted (live_in w h))
      (filtered wanted w.above w.last (live_in w h) (live_rises w.origin w.above w.last (stretch w.above w.last h) (stretch_rises w m)))

  pub item_of : (x : Change) → IsIn x (items_to s ws h w0.last) → (c : Change) × IsIn c h × (s.place < c.seq) × (c.seq ≤ w0.last) × (x ≡ sent_as (is_plain s) c) × (is_seen s.sync c.act ≡ true)
  item_of x i =
      let j = in_flat (span_items s h) taken ws x i in
      let w = j.0 in
      let k = in_map (sent_as (is_plain s)) (filter wanted (live_in w h)) x j.3 in
      let c = k.0 in
      let m = in_filter wanted (live_in w h) c k.1 in
      let n = in_filter (λ d. nat_lt w.above d.seq && nat_le d.seq w.last) h c (in_live w.origin (stretch w.above w.last h) c m.0) in
      let v = both (nat_lt s.place c.seq) (is_seen s.sync c.act) m.1 in
      let p = below_of s.place c.seq v.0 in
      let q = (between_of s.place w0.last w.last j.2).1 in
      let b = (between_of w.above w.last c.seq n.1).1 in
      (c, n.0, p, omega arith, k.2, v.1)

  items_rise : Rises s.place w0.last (items_to s ws h w0.last)
  items_rise = bounded low at s.place w0.last (items_to s ws h w0.last) (flat_rises (span_items s h) taken span_rises low at ws f) (omega arith)
      (λ x i. let k = item_of x i in let e : x.seq ≡ k.0.seq = ap (λ (y : Change). y.seq) k.4 ∙ sent_seq (is_plain s) k.0 in let p : s.place < k.0.seq = k.2 in let q : k.0.seq ≤ w0.last = k.3 in (omega arith, omega arith))

  -- the last change of each slot is given, where the stream sees it
  pub item_there : (slot : Slot) (c : Change) → last_of slot (upto h w0.last) ≡ Some c → s.place < c.seq → is_seen s.sync c.act ≡ true → IsIn (sent_as (is_plain s) c) (items_to s ws h w0.last)
  item_there slot c e p v =
      let test = touches slot in
      let i = from_upto c h w0.last (last_in test (upto h w0.last) c e).0 in
      let m : c.seq ≤ w0.last = i.1 in
      let k = stands_in low at c.seq ws w0 f a (rises_in low at h c r i.0).0 m in
      let w = k.0 in
      let above : w.above < c.seq = k.2 in
      let reach : c.seq ≤ w.last = k.3 in
      let most : w.last ≤ w0.last = k.4 in
      let lower = last_smaller at h test w.last w0.last c r0 most reach e in
      let here = ap (last_by test) (split (λ d. nat_lt w.above d.seq) (λ d. nat_le d.seq w.last) h) ∙ last_filtered test (λ d. nat_lt w.above d.seq) (upto h w.last) c lower (below_tested w.above c.seq above) in
      let live = slot_live w.above w.last w.origin slot c (stretch w.above w.last h) (stretch_rises w (omega arith)) (among_all h ws w t k.1).tidy here in
      let item = mapped_in (sent_as (is_plain s)) (filter wanted (live_in w h)) c (kept_in_filter wanted (live_in w h) c live (conj (nat_lt s.place c.seq) (is_seen s.sync c.act) (below_tested s.place c.seq p) v)) in
      in_flat_of (span_items s h) taken ws w (sent_as (is_plain s) c) k.1 (between_tested s.place w0.last w.last (omega arith) most) item

  -- a sync stream
  sync_remains : s.sync ≡ true → Remains (items_to s ws h w0.last) h s.place w0.last
  sync_remains e = record {
    rises = items_rise;
    of = λ x i. let k = item_of x i in (k.0, k.1, subst (λ y. StandsAs y k.0) (sym k.4) (stands (is_plain s) k.0));
    has = λ slot c q p m. (sent_as (is_plain s) c, item_there slot c q p (ap (λ b. b || is_visible c.act) e), stands (is_plain s) c);
  }

  sync_full : s.sync ≡ true → last_seq s.place (items_to s ws h w0.last) ≡ w0.last
  sync_full e = let c = (among_all h ws w0 t a).ends in (remains_cover at h (items_to s ws h w0.last) s.place w0.last c.0 r0 l c.1 c.2 (sync_remains e)).reaches

  -- any other stream
  plain_remains : s.sync ≡ false → Remains (items_to s ws h w0.last) (plain_view h) s.place w0.last
  plain_remains e = record { rises = items_rise; of = of; has = has }
    where
      as_plain : (c : Change) → sent_as (is_plain s) c ≡ plain c
      as_plain c = ap (λ b. sent_as (not b) c) e

      seen : (c : Change) → is_seen s.sync c.act ≡ is_visible c.act
      seen c = ap (λ b. b || is_visible c.act) e

      of : (x : Change) → IsIn x (items_to s ws h w0.last) → IsOf (plain_view h) x
      of x i = let k = item_of x i in (plain k.0, plain_in h k.0 k.1 (sym (seen k.0) ∙ k.5), inl (k.4 ∙ as_plain k.0))

      has : (slot : Slot) (x : Change) → last_of slot (upto (plain_view h) w0.last) ≡ Some x → s.place < x.seq → x.seq ≤ w0.last → HasOf (items_to s ws h w0.last) x
      has slot x q p m =
          let k = plain_of_view h x (from_upto x (plain_view h) w0.last (last_in (touches slot) (upto (plain_view h) w0.last) x q).0).0 in
          let last = plain_last at w0.last h slot x k.0 r0 q k.1 k.2 k.3 in
          let es : x.seq ≡ k.0.seq = ap (λ (y : Change). y.seq) k.3 in
          (sent_as (is_plain s) k.0, item_there (Slot.Committed k.0.key) k.0 last (omega arith) (seen k.0 ∙ k.2), inl (as_plain k.0 ∙ sym k.3))

  shown_remains : (b : Bool) → s.sync ≡ b → Remains (items_to s ws h w0.last) (shown_by s h) s.place w0.last
  shown_remains true e = subst (λ b. Remains (items_to s ws h w0.last) (if b then h else plain_view h) s.place w0.last) (sym e) (sync_remains e)
  shown_remains false e = subst (λ b. Remains (items_to s ws h w0.last) (if b then h else plain_view h) s.place w0.last) (sym e) (plain_remains e)

  shown_rises : (b : Bool) → Rises 0 at (if b then h else plain_view h)
  shown_rises true = r0
  shown_rises false = plain_rises 0 at h r0

  abbrev Ends : List Change → Type 0
  Ends items = Covers items (shown_by s h) s.place (last_seq s.place items) × (upto (shown_by s h) w0.last ≡ upto (shown_by s h) (last_seq s.place items))

  items_end : has_any (items_to s ws h w0.last) ≡ true → Ends (items_to s ws h w0.last)
  items_end e = remains_ends at (shown_by s h) (items_to s ws h w0.last) s.place w0.last (shown_rises s.sync) (shown_remains s.sync refl) (ends_above_first (items_to s ws h w0.last) items_rise e) (omega arith)
    where
      ends_above_first : (xs : List Change) → Rises s.place w0.last xs → has_any xs ≡ true → s.place < last_seq s.place xs
      ends_above_first [] q n = cc
      ends_above_first (x ∷ xs) q n = let k : x.seq ≤ last_seq x.seq xs = in_ends s.place w0.last s.place (x ∷ xs) x q (inl refl) in let m : s.place < x.seq = q.0 in omega arith

pub snapshot_at : (vb : Plain) (s : Stream) (w : Span) → Sound vb → Among w (all_spans vb.spans) → may_end s (all_spans vb.spans) vb.held w.last ≡ true
    → IsSnapshot vb s w.last (snapshot_of s (items_to s (all_spans vb.spans) vb.held w.last))
snapshot_at vb s w sound a e =
    let ws = all_spans vb.spans in
    let h = vb.held in
    let at = vb.position.at in
    let m = both (nat_lt s.place w.last && is_whole w.last ws && nat_le (need_of s) w.last) (has_any (items_to s ws h w.last)) e in
    let n = both (nat_lt s.place w.last && is_whole w.last ws) (nat_le (need_of s) w.last) m.0 in
    let o = both (nat_lt s.place w.last) (is_whole w.last ws) n.0 in
    let l = below_of s.place w.last o.0 in
    let ends = items_end s ws h vb.floor at sound.rises sound.spans sound.tidy w a l m.1 in
    record {
      covers = ends.0;
      all = ends.1;
      within = (last_seq_le s.place w.last s.place (items_to s ws h w.last) (omega arith) (items_rise s ws h vb.floor at sound.rises sound.spans sound.tidy w a l), among_most vb.floor at ws w sound.spans a);
      full = λ q. sync_full s ws h vb.floor at sound.rises sound.spans sound.tidy w a l q;
      reaches = most_of (need_of s) w.last n.1;
      starts = refl;
      whole = o.1;
      sent = λ x i. let k = item_of s ws h vb.floor at sound.rises sound.spans sound.tidy w a l x i in (k.0, k.1, subst (IsSentFor s k.0) (sym k.4) (sent_for s k.0));
    }

-- what a take of this stream leaves
abbrev Took : Plain → Stream → Snapshot → Plain → Type 0
Took vb s snapshot after = (end : ℕ) × IsSnapshot vb s end snapshot × (after ≡ record vb { streams = map (moved_on s.id end) vb.streams })

taken_to : (vb : Plain) (s : Stream) (snapshot : Snapshot) (o : Option Span) → Sound vb → end_span s (all_spans vb.spans) vb.held ≡ o → (take_to o s vb).1.answer ≡ answer.Taken snapshot → Took vb s snapshot (take_to o s vb).0
taken_to vb s snapshot None sound e t = cc
taken_to vb s snapshot (Some w) sound e t =
    let k = found (λ v. may_end s (all_spans vb.spans) vb.held v.last) (all_spans vb.spans) w e in
    let q : snapshot_of s (items_to s (all_spans vb.spans) vb.held w.last) ≡ snapshot = cc in
    (w.last, subst (IsSnapshot vb s w.last) q (snapshot_at vb s w sound k.0 k.1), refl)

same_id : (a b : ℕ) → (a == b) ≡ true → a ≡ b
same_id a b t = grind (arith, nat_tests)

stream_id : (id : ℕ) (ss : List Stream) (s : Stream) → stream_at id ss ≡ Some s → s.id ≡ id
stream_id id [] s e = cc
stream_id id (x ∷ xs) s e = by (x.id == id) refl e (stream_id id xs s)
  where
    by : (b : Bool) → (x.id == id) ≡ b → cond b (Some x) (stream_at id xs) ≡ Some s → (stream_at id xs ≡ Some s → s.id ≡ id) → s.id ≡ id
    by true t q rest = let k : x ≡ s = cc in ap (λ (y : Stream). y.id) (sym k) ∙ same_id x.id id t
    by false t q rest = rest q

taken_from : (vb : Plain) (id : ℕ) (snapshot : Snapshot) (o : Option Stream) → Sound vb → stream_at id vb.streams ≡ o → (take_from o vb).1.answer ≡ answer.Taken snapshot
    → (s : Stream) × (end : ℕ) × (o ≡ Some s) × IsSnapshot vb s end snapshot × ((take_from o vb).0 ≡ record vb { streams = map (moved_on id end) vb.streams })
taken_from vb id snapshot None sound e t = cc
taken_from vb id snapshot (Some s) sound e t =
    let k = by s.cursor t in
    (s, k.0, refl, k.1, k.2 ∙ ap (λ n. record vb { streams = map (moved_on n k.0) vb.streams }) (stream_id id vb.streams s e))
  where
    end : Bool → Option Span
    end b = if b then end_span s (all_spans vb.spans) vb.held else None

    by : (b : Bool) → (take_to (end b) s vb).1.answer ≡ answer.Taken snapshot → Took vb s snapshot (take_to (end b) s vb).0
    by true t = taken_to vb s snapshot (end_span s (all_spans vb.spans) vb.held) sound refl t
    by false t = cc

pub take_snapshots : TakesSnapshots
take_snapshots vb id snapshot sound t = taken_from vb id snapshot (stream_at id vb.streams) sound refl t

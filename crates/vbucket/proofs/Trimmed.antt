-- spans that are given up, and the changes that stand before the others then
use Rattle.std.proofs.Common.{◌≡◌, ℕ, ◌<◌, ◌≤◌, Bool, true, false, cond, not, leb, ltb, List, [], ◌∷◌, ◌++◌, length, refl, ap, sym, ◌∙◌, subst, inl, inr, ⊎_elim, arith}
use Rattle.std.specs.Prelude.{◌⊎◌, ◌==◌, if◌then◌else◌, min, Option, Some, None, option_to_list}
use Rattle.std.specs.List.{filter, flat_map, fold, sum_by}
use Rattle.std.proofs.lemmas.Bool.{leb-true, leb-false, ltb-true, lt-ltb, le-ltb, lt-leb, cases_lt, cond-false, cond-true}
use Rattle.std.proofs.lemmas.Bool.Decides.{nat_tests}
use Rattle.std.proofs.lemmas.List.Elements.{filter-append}
use Rattle.std.proofs.lemmas.List.Sums.{fold-append}
use Rattle.vb_types.specs.Histories.{IsIn, Rises, upto}
use Rattle.vb_types.specs.Images.{applied}
use Rattle.vb_types.specs.declared.change.Change.{Change}
use Rattle.branch_model.proofs.Lists.{in_append, rises_in, rises_upto}
use Rattle.branch_model.proofs.Lasts.{rises_filter}
use Rattle.vb_calls.specs.declared.span.Span.{Span}
use Rattle.vb_calls.specs.declared.stream.Stream.{Stream}
use Rattle.vb_calls.specs.Spans.{change_weight, live_in, live_of, stretch}
use Rattle.vb_calls.specs.State.{Plain, image_in}
use Rattle.vb_calls.specs.Streams.{stream_at}
use Rattle.vb_calls.specs.Trims.{end_of, ended_by, min_fed, needless_of, needless_to, trim_floor, trimmed_vb}
use Rattle.cursor_set.specs.Cursors.{Places, least_with, place_of}
use Rattle.cursor_set.proofs.Leasts.{least_exact}
use Rattle.ckpt_list.proofs.Climbs.{at_most}
use Rattle.ckpt_list.proofs.Sheds.{between_above, past}
use Rattle.vbucket.specs.Laws.{AllSpans, AreCounted, AreFed, CasUpTo, Follow, IsSpan, IsWithin, Sound, Tidy}
use Rattle.vbucket.specs.Steady.{AreApart, CursorsAreStreams, cursor_of}
use Rattle.vbucket.specs.Memory.{IsOpen}
use Rattle.vbucket.specs.Stands.{IsSpanned, open_live}
use Rattle.vbucket.proofs.Counting.{filter_none}
use Rattle.vbucket.proofs.Feeding.{fed_at}
use Rattle.vbucket.proofs.Parts.{bounded, follow_most, in_filter, in_live, in_stretch, kept_in_filter}
use Rattle.vbucket.proofs.Pending.{pends_fold}
use Rattle.vbucket.proofs.Prepares.{differ_fold, seqs_fold}

-- the changes above a seqno
abbrev pub above : ℕ → List Change → List Change
above f h = filter (λ c. ltb f c.seq) h

-- what rises is what is not above a seqno, and then what is
pub parted : (f low high : ℕ) (h : List Change) → Rises low high h → upto h f ++ above f h ≡ h
parted f low high [] r = refl
parted f low high (c ∷ cs) r = by (leb c.seq f) (ltb f c.seq) refl (at_most f c.seq) (parted f c.seq high cs r.1)
  where
    by : (a b : Bool) → leb c.seq f ≡ a → b ≡ not (leb c.seq f) → upto cs f ++ above f cs ≡ cs → cond a (c ∷ upto cs f) (upto cs f) ++ cond b (c ∷ above f cs) (above f cs) ≡ c ∷ cs
    by true true t u ih = let no = u ∙ ap not t in absurd (cc)
    by true false t u ih = ap (λ xs. c ∷ xs) ih
    by false false t u ih = let no = u ∙ ap not t in absurd (cc)
    by false true t u ih =
        let up : f < c.seq = leb-false c.seq f t in
        let none : upto cs f ≡ [] = filter_none (λ x. leb x.seq f) cs (λ x i. let k = (rises_in c.seq high cs x r.1 i).0 in lt-leb x.seq f (omega (arith, k, up))) in
        let all : above f cs ≡ cs = sym (ap (λ xs. xs ++ above f cs) none) ∙ ih in
        ap (λ xs. xs ++ c ∷ above f cs) none ∙ ap (λ xs. c ∷ xs) all

-- the end of spans that are given up is where they begin, or at most where they are given up to
pub end_low : (low n : ℕ) (ws : List Span) → (end_of low (ended_by n ws) ≡ low) ⊎ (end_of low (ended_by n ws) ≤ n)
end_low low n [] = inl refl
end_low low n (w ∷ ws) = by (leb w.last n) refl (end_low w.last n ws) (end_low low n ws)
  where
    by : (b : Bool) → leb w.last n ≡ b → (end_of w.last (ended_by n ws) ≡ w.last) ⊎ (end_of w.last (ended_by n ws) ≤ n) → (end_of low (ended_by n ws) ≡ low) ⊎ (end_of low (ended_by n ws) ≤ n)
        → (end_of low (cond b (w ∷ ended_by n ws) (ended_by n ws)) ≡ low) ⊎ (end_of low (cond b (w ∷ ended_by n ws) (ended_by n ws)) ≤ n)
    by true t ih other = let m : w.last ≤ n = leb-true w.last n t in ⊎_elim (λ e. inr (omega (arith, e, m))) (λ l. inr l) ih
    by false t ih other = other

-- a number is at or above the end, if it is at or above both
pub end_below : (low n m : ℕ) (ws : List Span) → low ≤ m → n ≤ m → end_of low (ended_by n ws) ≤ m
end_below low n m ws l k = ⊎_elim (λ e. omega (arith, e, l)) (λ e. omega (arith, e, k)) (end_low low n ws)

-- the live changes of a span that begins at or above a seqno are those of the changes above it
pub live_above : (f : ℕ) (h : List Change) (w : Span) → f ≤ w.above → live_in w (above f h) ≡ live_in w h
live_above f h w m = ap (live_of w.origin) (between_above f w.above w.last h m)

live_within : (h : List Change) (w : Span) (x : Change) → IsIn x (live_in w h) → (w.above < x.seq) × (x.seq ≤ w.last)
live_within h w x i = let k = in_stretch w.above w.last h x (in_live w.origin (stretch w.above w.last h) x i) in (k.1, k.2)

-- of spans that follow one another, before others, these stay, and begin at f
pub record Left (h : List Change) (low high : ℕ) (ws more : List Span) (f : ℕ) (kept : List Span) : Type 0 where
  pub up : low ≤ f
  pub follow : Follow f (kept ++ more) high
  pub tidy : AllSpans h (ws ++ more) → AllSpans h (kept ++ more)
  pub items : above f (flat_map (λ w. live_in w h) ws) ≡ flat_map (λ w. live_in w h) kept

all_in : (p : Change → Bool) (xs : List Change) → ((x : Change) → IsIn x xs → p x ≡ true) → filter p xs ≡ xs
all_in p [] k = refl
all_in p (x ∷ xs) k = ap (λ b. cond b (x ∷ filter p xs) (filter p xs)) (k x (inl refl)) ∙ ap (λ ys. x ∷ ys) (all_in p xs (λ y i. k y (inr i)))

flat_low : (h : List Change) (low high : ℕ) (ws more : List Span) → Follow low (ws ++ more) high → (x : Change) → IsIn x (flat_map (λ w. live_in w h) ws) → low < x.seq
flat_low h low high [] more f x i = absurd i
flat_low h low high (w ∷ ws) more f x i =
    let at : w.above ≡ low = f.0 in
    let up : low < w.last = f.1 in
    ⊎_elim (λ a. omega (arith, at, (live_within h w x a).0)) (λ b. omega (arith, up, flat_low h w.last high ws more f.2 x b)) (in_append x (live_in w h) (flat_map (λ v. live_in v h) ws) i)

all_left : (h : List Change) (low high : ℕ) (ws more : List Span) → Follow low (ws ++ more) high → Left h low high ws more low ws
all_left h low high ws more f = record {
  up = omega arith;
  follow = f;
  tidy = λ t. t;
  items = all_in (λ c. ltb low c.seq) (flat_map (λ w. live_in w h) ws) (λ x i. lt-ltb low x.seq (flat_low h low high ws more f x i));
}

pub left_by : (h : List Change) (n low high : ℕ) (ws more : List Span) → Follow low (ws ++ more) high → Left h low high ws more (end_of low (ended_by n ws)) (past (λ w. w.last) n ws)
left_by h n low high [] more f = all_left h low high [] more f
left_by h n low high (w ∷ ws) more f = by (left_by h n w.last high ws more f.2) (leb w.last n) (ltb n w.last) refl (at_most n w.last)
  where
    by : Left h w.last high ws more (end_of w.last (ended_by n ws)) (past (λ v. v.last) n ws) → (a b : Bool) → leb w.last n ≡ a → b ≡ not (leb w.last n)
        → Left h low high (w ∷ ws) more (end_of low (cond a (w ∷ ended_by n ws) (ended_by n ws))) (cond b (w ∷ past (λ v. v.last) n ws) (past (λ v. v.last) n ws))
    by r true true t u = let no = u ∙ ap not t in absurd (cc)
    by r true false t u =
        let k : low < w.last = f.1 in
        let g : ℕ = end_of w.last (ended_by n ws) in
        let rest : List Change = flat_map (λ v. live_in v h) ws in
        record {
          up = omega (arith, k, r.up);
          follow = r.follow;
          tidy = λ t. r.tidy t.1;
          items = filter-append (λ (c : Change). ltb g c.seq) (live_in w h) rest
              ∙ ap (λ xs. xs ++ above g rest) (filter_none (λ c. ltb g c.seq) (live_in w h) (λ x i. le-ltb g x.seq (omega (arith, r.up, (live_within h w x i).1))))
              ∙ r.items;
        }
    by r false false t u = let no = u ∙ ap not t in absurd (cc)
    by r false true t u =
        let m : n < w.last = leb-false w.last n t in
        let stay = later_stay n w.last high ws more f.2 (omega arith) in
        subst (λ vs. Left h low high (w ∷ ws) more (end_of low vs) (w ∷ past (λ v. v.last) n ws)) (sym stay.0)
        (subst (λ vs. Left h low high (w ∷ ws) more low (w ∷ vs)) (sym stay.1) (all_left h low high (w ∷ ws) more f))
      where
        later_stay : (n low high : ℕ) (ws more : List Span) → Follow low (ws ++ more) high → n ≤ low → (ended_by n ws ≡ []) × (past (λ v. v.last) n ws ≡ ws)
        later_stay n low high [] more f l = (refl, refl)
        later_stay n low high (v ∷ vs) more f l =
            let k : low < v.last = f.1 in
            let up : n < v.last = omega arith in
            let rest = later_stay n v.last high vs more f.2 (omega arith) in (
              cond-false (leb v.last n) _ _ (lt-leb v.last n up) ∙ rest.0,
              cond-true (ltb n v.last) _ _ (lt-ltb n v.last up) ∙ ap (λ xs. v ∷ xs) rest.1,
            )

-- spans of the changes above a seqno, where they begin there or above

span_above : (f : ℕ) (h : List Change) (w : Span) → f ≤ w.above → w.above < w.last → IsSpan h w → IsSpan (above f h) w
span_above f h w m l is =
    let same = between_above f w.above w.last h m in
    record {
      tidy = subst (Tidy w.origin) (sym same) is.tidy;
      ends = (is.ends.0, kept_in_filter (λ c. ltb f c.seq) h is.ends.0 is.ends.1 (lt-ltb f _ (omega (arith, m, l, is.ends.2))), is.ends.2);
      room = subst (λ xs. IsWithin (length (live_of w.origin xs)) (sum_by change_weight (live_of w.origin xs))) (sym same) is.room;
    }

spans_above : (f : ℕ) (h : List Change) (low high : ℕ) (ws : List Span) → f ≤ low → Follow low ws high → AllSpans h ws → AllSpans (above f h) ws
spans_above f h low high [] m follow t = tt
spans_above f h low high (w ∷ ws) m follow t =
    let at : w.above ≡ low = follow.0 in
    let k : low < w.last = follow.1 in
    (span_above f h w (omega arith) (omega arith) t.0, spans_above f h w.last high ws (omega arith) follow.2 t.1)

-- what is kept of changes that stand in spans

pub trimmed_left : (s : Plain) → IsSpanned s → Left s.held s.floor s.position.at s.spans.sealed (option_to_list s.spans.current) (trim_floor s) (past (λ w. w.last) (needless_to s) s.spans.sealed)
trimmed_left s is = left_by s.held (needless_to s) s.floor s.position.at s.spans.sealed (option_to_list s.spans.current) is.spans

fed_le : (n : ℕ) (ss : List Stream) → fold min_fed n ss ≤ n
fed_le n [] = omega arith
fed_le n (s ∷ ss) = omega (arith, fed_le (min_fed n s) ss, one s.cursor)
  where
    one : (b : Bool) → (if b then min n s.place else n) ≤ n
    one true = omega arith
    one false = omega arith

pub needless_low : (s : Plain) → (needless_to s ≤ s.saved) × (needless_to s ≤ s.flushed)
needless_low s = let k = fed_le (min s.saved s.flushed) s.streams in (omega (arith, k), omega (arith, k))

pub trimmed_spanned : (s : Plain) → IsSpanned s → IsSpanned (trimmed_vb s)
trimmed_spanned s is =
    let f : ℕ = trim_floor s in
    let l = trimmed_left s is in
    let top : f ≤ s.position.at = follow_most f s.position.at _ l.follow in
    record {
      rises = bounded s.floor s.position.at f s.position.at (above f s.held) (rises_filter (λ c. ltb f c.seq) s.floor s.position.at s.held is.rises) top
          (λ x i. let k = in_filter (λ c. ltb f c.seq) s.held x i in (ltb-true f x.seq k.1, (rises_in s.floor s.position.at s.held x is.rises k.0).1));
      current = is.current;
      spans = l.follow;
      tidy = spans_above f s.held f s.position.at _ (omega arith) l.follow (l.tidy is.tidy);
      flushed = (end_below s.floor (needless_to s) s.flushed s.spans.sealed is.flushed.0 (needless_low s).1, is.flushed.1);
    }

pub trimmed_image : (s : Plain) → IsSpanned s → image_in (trimmed_vb s) ≡ image_in s
trimmed_image s is = sym (fold-append applied s.base (upto s.held (trim_floor s)) (above (trim_floor s) s.held)) ∙ ap (fold applied s.base) (parted (trim_floor s) s.floor s.position.at s.held is.rises)

-- the live changes of the open span are those that are kept
pub trimmed_open : (s : Plain) → IsSpanned s → (o : Option Span) → s.spans.current ≡ o → open_live o (above (trim_floor s) s.held) ≡ open_live o s.held
trimmed_open s is None e = refl
trimmed_open s is (Some w) e =
    let l = trimmed_left s is in
    live_above (trim_floor s) s.held w (begins _ (subst (λ o. Follow (trim_floor s) (past (λ v. v.last) (needless_to s) s.spans.sealed ++ option_to_list o) s.position.at) e l.follow))
  where
    begins : (ws : List Span) → Follow (trim_floor s) (ws ++ w ∷ []) s.position.at → trim_floor s ≤ w.above
    begins ws g = at (trim_floor s) ws g
      where
        at : (low : ℕ) (ws : List Span) → Follow low (ws ++ w ∷ []) s.position.at → low ≤ w.above
        at low [] g = let k : w.above ≡ low = g.0 in omega arith
        at low (v ∷ vs) g = let k : low < v.last = g.1 in omega (arith, k, at v.last vs g.2)

pub trimmed_items : (s : Plain) → IsSpanned s → above (trim_floor s) (flat_map (λ w. live_in w s.held) s.spans.sealed) ≡ flat_map (λ w. live_in w (above (trim_floor s) s.held)) (trimmed_vb s).spans.sealed
trimmed_items s is =
    let l = trimmed_left s is in l.items ∙ sym (kept_live (trim_floor s) _ _ (omega arith) l.follow)
  where
    kept_live : (low : ℕ) (ws more : List Span) → trim_floor s ≤ low → Follow low (ws ++ more) s.position.at → flat_map (λ w. live_in w (above (trim_floor s) s.held)) ws ≡ flat_map (λ w. live_in w s.held) ws
    kept_live low [] more m g = refl
    kept_live low (w ∷ ws) more m g =
        let k : w.above ≡ low = g.0 in
        let u : low < w.last = g.1 in
        let here : live_in w (above (trim_floor s) s.held) ≡ live_in w s.held = live_above (trim_floor s) s.held w (omega arith) in
        (λ i. here i ++ kept_live w.last ws more (omega arith) g.2 i)

-- where streams stand that have a cursor

fed_each : (n : ℕ) (ss : List Stream) (s : Stream) → IsOpen s ss → s.cursor ≡ true → fold min_fed n ss ≤ s.place
fed_each n [] s i has = absurd i
fed_each n (x ∷ xs) s i has = ⊎_elim
    (λ e. let one : min_fed n x ≡ min n s.place = ap (min_fed n) (sym e) ∙ ap (λ b. if b then min n s.place else n) has in omega (arith, fed_le (min_fed n x) xs, one))
    (λ r. fed_each (min_fed n x) xs s r has)
    i

fed_reached : (n : ℕ) (ss : List Stream) → (fold min_fed n ss ≡ n) ⊎ ((s : Stream) × IsOpen s ss × (s.cursor ≡ true) × (fold min_fed n ss ≡ s.place))
fed_reached n [] = inl refl
fed_reached n (x ∷ xs) = ⊎_elim (λ e. here x.cursor refl e) (λ r. inr (r.0, inr r.1, r.2, r.3)) (fed_reached (min_fed n x) xs)
  where
    here : (b : Bool) → x.cursor ≡ b → fold min_fed (min_fed n x) xs ≡ min_fed n x → (fold min_fed (min_fed n x) xs ≡ n) ⊎ ((s : Stream) × IsOpen s (x ∷ xs) × (s.cursor ≡ true) × (fold min_fed (min_fed n x) xs ≡ s.place))
    here false t e = inl (e ∙ ap (λ b. if b then min n x.place else n) t)
    here true t e =
        let m : min_fed n x ≡ min n x.place = ap (λ b. if b then min n x.place else n) t in
        ⊎_elim (λ l. inl (omega (arith, e, m, l))) (λ l. inr (x, inl refl, t, omega (arith, e, m, l))) (cases_lt n x.place)

open_found : (id : ℕ) (ss : List Stream) (s : Stream) → stream_at id ss ≡ Some s → IsOpen s ss
open_found id [] s e = absurd (cc)
open_found id (x ∷ xs) s e = by (x.id == id) e (open_found id xs s)
  where
    by : (b : Bool) → cond b (Some x) (stream_at id xs) ≡ Some s → (stream_at id xs ≡ Some s → IsOpen s xs) → IsOpen s (x ∷ xs)
    by true e ih = let same : x ≡ s = cc in inl (sym same)
    by false e ih = inr (ih e)

-- no two have one number
found_open : (ss : List Stream) (s : Stream) → AreApart ss → IsOpen s ss → stream_at s.id ss ≡ Some s
found_open [] s a i = absurd i
found_open (x ∷ xs) s a i = ⊎_elim (λ e. ap (λ b. cond b (Some x) (stream_at s.id xs)) (own (ap (λ (y : Stream). y.id) (sym e))) ∙ ap Some (sym e)) (λ r. behind (found_open xs s a.2 r)) i
  where
    own : x.id ≡ s.id → (x.id == s.id) ≡ true
    own k = grind (arith, nat_tests, k)

    behind : stream_at s.id xs ≡ Some s → cond (x.id == s.id) (Some x) (stream_at s.id xs) ≡ Some s
    behind at = by (x.id == s.id) refl
      where
        by : (b : Bool) → (x.id == s.id) ≡ b → cond b (Some x) (stream_at s.id xs) ≡ Some s
        by true t =
            let k : x.id ≡ s.id = grind (arith, nat_tests, t) in
            let no : None ≡ Some s = sym a.1 ∙ ap (λ i. stream_at i xs) k ∙ at in
            absurd (cc)
        by false t = at

pub needless_fed : (vb : Plain) (s : Stream) → IsOpen s vb.streams → s.cursor ≡ true → needless_to vb ≤ s.place
needless_fed vb s i has = fed_each (min vb.saved vb.flushed) vb.streams s i has

-- it is one of these
pub needless_from : (vb : Plain) → (needless_to vb ≡ min vb.saved vb.flushed) ⊎ ((s : Stream) × IsOpen s vb.streams × (s.cursor ≡ true) × (needless_to vb ≡ s.place))
needless_from vb = fed_reached (min vb.saved vb.flushed) vb.streams

-- the floor of a trim is at or below each
pub trim_fed : (s : Plain) → AreFed s.role s.floor s.streams → AreFed s.role (trim_floor s) s.streams
trim_fed s are = record { few = are.few; cursors = λ id t e has. end_below s.floor (needless_to s) t.place s.spans.sealed (are.cursors id t e has) (needless_fed s t (open_found id s.streams t e) has) }

casses_part : (n : ℕ) (p : Change → Bool) (cs : List Change) → CasUpTo n cs → CasUpTo n (filter p cs)
casses_part n p [] k = tt
casses_part n p (c ∷ cs) k = by (p c) (casses_part n p cs k.1)
  where
    by : (b : Bool) → CasUpTo n (filter p cs) → CasUpTo n (cond b (c ∷ filter p cs) (filter p cs))
    by true r = (k.0, r)
    by false r = r

pub trimmed_sound : (s : Plain) → Sound s → Sound (trimmed_vb s)
trimmed_sound s is =
    let f : ℕ = trim_floor s in
    let l = trimmed_left s is.spanned in
    let low : Rises s.floor f (upto s.held f) = rises_upto s.floor s.position.at f s.held l.up is.spanned.rises in
    record {
      spanned = trimmed_spanned s is.spanned;
      placed = is.placed;
      stamped = record {
        casses = casses_part s.last_cas (λ c. ltb f c.seq) s.held is.casses;
        pends = pends_fold s.last_cas s.base (upto s.held f) is.pends (casses_part s.last_cas (λ c. leb c.seq f) s.held is.casses);
        last_cas = is.last_cas;
      };
      based = record { low = seqs_fold s.floor f s.base (upto s.held f) low is.low; apart = differ_fold s.floor f s.base (upto s.held f) low is.low is.apart };
      saved = end_below s.floor (needless_to s) s.saved s.spans.sealed is.saved (needless_low s).0;
      counted = subst (λ image. AreCounted s.role image s.position.at s.waiting s.others s.acks) (sym (trimmed_image s is.spanned)) is.counted;
      feeds = trim_fed s is.feeds;
    }

-- the least place of the cursors is that of the streams that have one, and of what was taken to be written down

module _ (places : Places) (streams : List Stream) (saved flushed : ℕ) (are : CursorsAreStreams places streams) (zero : place_of places 0 ≡ Some flushed) where
  at_stream : (id place : ℕ) → (id ≡ 0 → ⊥) → place_of places id ≡ Some place → (s : Stream) × (stream_at id streams ≡ Some s) × (s.cursor ≡ true) × (s.place ≡ place)
  at_stream id place ne e = by (stream_at id streams) refl (are.cursors id ∙ ap (λ b. if b then None else place_of places id) (other (id == 0) refl) ∙ e)
    where
      other : (b : Bool) → (id == 0) ≡ b → b ≡ false
      other true t = absurd (ne (grind (arith, nat_tests, t)))
      other false t = refl

      by : (o : Option Stream) → stream_at id streams ≡ o → cursor_of o ≡ Some place → (s : Stream) × (stream_at id streams ≡ Some s) × (s.cursor ≡ true) × (s.place ≡ place)
      by None at e = absurd (cc)
      by (Some s) at e = has s.cursor refl e
        where
          has : (b : Bool) → s.cursor ≡ b → (if b then Some s.place else None) ≡ Some place → (t : Stream) × (stream_at id streams ≡ Some t) × (t.cursor ≡ true) × (t.place ≡ place)
          has true t e = (s, at, t, let k : s.place ≡ place = cc in k)
          has false t e = absurd (cc)

  pub least_fed : least_with places saved ≡ needless_of saved flushed streams
  least_fed = (least_exact places saved (needless_of saved flushed streams)).1 (reached, omega (arith, most), each)
    where
      most : needless_of saved flushed streams ≤ min saved flushed
      most = fed_le (min saved flushed) streams

      reached : (needless_of saved flushed streams ≡ saved) ⊎ ((id : ℕ) × (place_of places id ≡ Some (needless_of saved flushed streams)))
      reached = ⊎_elim
          (λ e. ⊎_elim (λ l. inl (omega (arith, e, l))) (λ l. inr (0, zero ∙ ap Some (let k : flushed ≡ needless_of saved flushed streams = omega (arith, e, l) in k))) (cases_lt saved flushed))
          (λ r. inr (r.0.id, fed_at places streams r.0.id r.0 are (found_open streams r.0 are.apart r.1) r.2 ∙ ap Some (sym r.3)))
          (fed_reached (min saved flushed) streams)

      each : (id place : ℕ) → place_of places id ≡ Some place → needless_of saved flushed streams ≤ place
      each id place e = by (id == 0) refl
        where
          by : (b : Bool) → (id == 0) ≡ b → needless_of saved flushed streams ≤ place
          by true t =
              let k : id ≡ 0 = grind (arith, nat_tests, t) in
              let same : Some flushed ≡ Some place = sym zero ∙ ap (place_of places) (sym k) ∙ e in
              let is : flushed ≡ place = cc in
              omega (arith, is, most)
          by false t =
              let r = at_stream id place (λ z. let no = sym t ∙ ap (λ i. i == 0) z in absurd (cc)) e in
              omega (arith, fed_each (min saved flushed) streams r.0 (open_found id streams r.0 r.1) r.2, r.3)

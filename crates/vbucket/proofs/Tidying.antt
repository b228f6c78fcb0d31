-- spans stay tidy
use Rattle.std.proofs.Common.{◌≡◌, ℕ, ◌<◌, ◌≤◌, Bool, true, false, List, [], ◌∷◌, ◌++◌, refl, sym, ap, subst, ◌∙◌, inl, inr, ⊎_elim, arith}
use Rattle.std.specs.Prelude.{◌+◌, ◌-◌, Option, Some, None, if◌then◌else◌, nat_lt, ◌⊎◌, option_to_list, ◌||◌}
use Rattle.std.proofs.lemmas.Bool.{cases_lt}
use Rattle.std.proofs.lemmas.Bool.Decides.{nat_tests}
use Rattle.std.proofs.lemmas.Slice.Eq.{bytes_eq-Decides}
use Rattle.vb_types.specs.declared.change.Change.{Change}
use Rattle.vb_types.specs.Histories.{Rises, IsIn, Slot, touches}
use Rattle.branch_model.proofs.Lists.{in_append, in_left, in_right, rises_in, last_in, last_above, same_seq}
use Rattle.vb_types.specs.declared.role.Role.{Role}
use Rattle.vb_types.specs.declared.role.Role.TheVariants as role
use Rattle.vb_calls.specs.State.{is_active}
use Rattle.vb_calls.specs.declared.span.Span.{Span}
use Rattle.vb_calls.specs.declared.span.Origin.TheVariants.{Own}
use Rattle.vb_calls.specs.declared.span.TheConstants.{MAX_WEIGHT}
use Rattle.vb_calls.specs.Spans.{Spans, all_spans, with_change, with_own, with_newer, with_other, with_received, own_joined, received_joined, is_durable, change_weight, span_to, stretch, last_at}
use Rattle.vbucket.specs.Laws.{Follow, IsSpan, AllSpans, MayShare, OpensOwn, Tidy}
use Rattle.vbucket.proofs.Grown.{Grown}
use Rattle.vbucket.proofs.Parts.{follow_most, in_stretch, within_stretch, last_filtered, between_tested, below_of}
use Rattle.vbucket.proofs.Counting.{OneMore, InPlace, one_more, lasts_newer, Fit, fit_alone, fit_other, fit_newer, live_new, live_one, stretch_sealed, stretch_joined, stretch_alone}
use Rattle.vb_calls.specs.Spans.{live_of, live_in, live_weight}
use Rattle.std.specs.Prelude.{nat_le, ◌&&◌}

-- each change of c's key in the span may share it with c
abbrev pub Shares : List Change → Span → Change → Type 0
Shares h w c = (x : Change) → IsIn x (stretch w.above w.last h) → x.key ≡ c.key → MayShare w.origin x c

-- a change of a key is not above the key's last one

pub last_of_key : (at : ℕ) (h : List Change) (x : Change) (key : List ℕ) → Rises 0 at h → IsIn x h → x.key ≡ key → (d : Change) × (last_at h key ≡ Some d) × (x.seq ≤ d.seq)
last_of_key at h x key r i e = last_above (touches (Slot.Pending key)) 0 at h x r i ((bytes_eq-Decides x.key key).1 e)

no_key : (at : ℕ) (h : List Change) (x : Change) (key : List ℕ) → Rises 0 at h → last_at h key ≡ None → IsIn x h → x.key ≡ key → ⊥
no_key at h x key r n i e = let k = last_of_key at h x key r i e in let q : None ≡ Some k.0 = sym n ∙ k.1 in cc

above_none : (at : ℕ) (h : List Change) (x d : Change) (key : List ℕ) → Rises 0 at h → last_at h key ≡ Some d → IsIn x h → x.key ≡ key → x.seq ≤ d.seq
above_none at h x d key r s i e =
    let k = last_of_key at h x key r i e in
    let q : k.0 ≡ d = (let y : Some k.0 ≡ Some d = sym k.1 ∙ s in cc) in
    subst (λ (y : Change). x.seq ≤ y.seq) q k.2

-- what is taken into a span

other_shares : (at : ℕ) (h : List Change) (w : Span) (c : Change) → Rises 0 at h → ((d : Change) → last_at h c.key ≡ Some d → d.seq ≤ w.above) → Shares h w c
other_shares at h w c r f x i e =
    let k = in_stretch w.above w.last h x i in
    let d = last_of_key at h x c.key r k.0 e in
    let l : d.0.seq ≤ w.above = f d.0 d.1 in
    let m : w.above < x.seq = k.1 in
    let n : x.seq ≤ d.0.seq = d.2 in
    absurd (omega arith)

newer_acts : (h : List Change) (w : Span) (d c : Change) (j : Span) → with_newer h w d c ≡ Some j → (is_durable d.act ≡ false) × (is_durable c.act ≡ false)
newer_acts h w d c j e = by (is_durable d.act) (is_durable c.act) (nat_lt MAX_WEIGHT (live_weight w h + change_weight c - change_weight d)) e
  where
    by : (a b t : Bool) → (if a || b || t then None else Some (span_to w c)) ≡ Some j → (a ≡ false) × (b ≡ false)
    by true b t e = cc
    by false true t e = cc
    by false false t e = (refl, refl)

newer_shares : (at : ℕ) (h : List Change) (w : Span) (d c : Change) → Rises 0 at h → w.last ≡ at → w.origin ≡ Own → Tidy w.origin (stretch w.above w.last h) → last_at h c.key ≡ Some d → w.above < d.seq
    → is_durable d.act ≡ false → is_durable c.act ≡ false → Shares h w c
newer_shares at h w d c r l o t s a nd nc x i e =
    let k = in_stretch w.above w.last h x i in
    let m : x.seq ≤ d.seq = above_none at h x d c.key r s k.0 e in
    let id = last_in (touches (Slot.Pending c.key)) h d s in
    let kd : d.key ≡ c.key = (bytes_eq-Decides d.key c.key).0 id.1 in
    let dl = (rises_in 0 at h d r id.0).1 in
    let dw : IsIn d (stretch w.above w.last h) = within_stretch w.above w.last h d id.0 a (omega arith) in
    let nx : is_durable x.act ≡ false = ⊎_elim
    (λ (q : x.seq < d.seq). (subst (λ p. MayShare p x d) o (t x d i dw (e ∙ sym kd) q)).0)
    (λ (q : d.seq ≤ x.seq). let same : x ≡ d = same_seq 0 at h x d r k.0 id.0 (omega arith) in subst (λ (y : Change). is_durable y.act ≡ false) (sym same) nd)
    (cases_lt x.seq d.seq) in
    subst (λ p. MayShare p x c) (sym o) (nx, nc)

pub own_shares : (at : ℕ) (h : List Change) (w j : Span) (c : Change) (o : Option Change) → Rises 0 at h → w.last ≡ at → w.origin ≡ Own → Tidy w.origin (stretch w.above w.last h) → last_at h c.key ≡ o → with_own h w o c ≡ Some j → Shares h w c
own_shares at h w j c None r l o t s e = other_shares at h w c r (λ d q. let z : None ≡ Some d = sym s ∙ q in cc)
own_shares at h w j c (Some d) r l o t s e = by (nat_lt w.above d.seq) refl e
  where
    by : (b : Bool) → nat_lt w.above d.seq ≡ b → (if b then with_newer h w d c else with_other h w c) ≡ Some j → Shares h w c
    by true q e = let n = newer_acts h w d c j e in newer_shares at h w d c r l o t s (grind (arith, nat_tests)) n.0 n.1
    by false q e = other_shares at h w c r (λ x y. let z : x ≡ d = (let v : Some x ≡ Some d = sym y ∙ s in cc) in subst (λ (v : Change). v.seq ≤ w.above) (sym z) (grind (arith, nat_tests)))

pub received_shares : (at : ℕ) (h : List Change) (w j : Span) (c : Change) (o : Option Change) → Rises 0 at h → last_at h c.key ≡ o → with_received h w o c ≡ Some j → Shares h w c
received_shares at h w j c None r s e = other_shares at h w c r (λ d q. let z : None ≡ Some d = sym s ∙ q in cc)
received_shares at h w j c (Some d) r s e = by (nat_lt w.above d.seq) refl e
  where
    by : (b : Bool) → nat_lt w.above d.seq ≡ b → (if b then None else with_other h w c) ≡ Some j → Shares h w c
    by true q e = cc
    by false q e = other_shares at h w c r (λ x y. let z : x ≡ d = (let v : Some x ≡ Some d = sym y ∙ s in cc) in subst (λ (v : Change). v.seq ≤ w.above) (sym z) (grind (arith, nat_tests)))

-- the changes of a span, with c
abbrev pub Enters : List Change → Span → Change → List Change
Enters h w c = stretch w.above w.last h ++ c ∷ []

pub none_there : (at : ℕ) (h : List Change) (w : Span) (key : List ℕ) → Rises 0 at h → ((d : Change) → last_at h key ≡ Some d → d.seq ≤ w.above) → last_at (stretch w.above w.last h) key ≡ None
none_there at h w key r f = by (last_at (stretch w.above w.last h) key) refl
  where
    by : (o : Option Change) → last_at (stretch w.above w.last h) key ≡ o → last_at (stretch w.above w.last h) key ≡ None
    by None e = e
    by (Some z) e =
        let i = last_in (touches (Slot.Pending key)) (stretch w.above w.last h) z e in
        let k = in_stretch w.above w.last h z i.0 in
        let d = last_of_key at h z key r k.0 ((bytes_eq-Decides z.key key).0 i.1) in
        let l : d.0.seq ≤ w.above = f d.0 d.1 in
        let m : w.above < z.seq = k.1 in
        let n : z.seq ≤ d.0.seq = d.2 in
        absurd (omega arith)

-- one more live change, where its key is not in the span
pub enters_other : (at : ℕ) (h : List Change) (w : Span) (c : Change) → Rises 0 at h → ((d : Change) → last_at h c.key ≡ Some d → d.seq ≤ w.above) → OneMore (live_of w.origin (Enters h w c)) (live_in w h) c
enters_other at h w c r f =
    subst (λ xs. OneMore xs (live_in w h) c) (sym (live_new w.origin (stretch w.above w.last h) c (none_there at h w c.key r f))) (one_more (live_in w h) c)

-- a live change in place of another, where its key is in an own span
pub enters_newer : (at : ℕ) (h : List Change) (w : Span) (d c : Change) → Rises 0 at h → w.last ≡ at → w.origin ≡ Own → last_at h c.key ≡ Some d → w.above < d.seq → InPlace (live_of w.origin (Enters h w c)) (live_in w h) d c
enters_newer at h w d c r l o s a =
    let cs = stretch w.above w.last h in
    let i = last_in (touches (Slot.Pending c.key)) h d s in
    let m = (rises_in 0 at h d r i.0).1 in
    let last = last_filtered (touches (Slot.Pending c.key)) (λ x. nat_lt w.above x.seq && nat_le x.seq w.last) h d s (between_tested w.above w.last d.seq a (omega arith)) in
    subst (λ p. InPlace (live_of p (Enters h w c)) (live_of p cs) d c) (sym o) (lasts_newer cs d c last)

-- a key's last change that does not lie in the span lies below it
pub not_in : (h : List Change) (w : Span) (key : List ℕ) (d : Change) → last_at h key ≡ Some d → nat_lt w.above d.seq ≡ false → (x : Change) → last_at h key ≡ Some x → x.seq ≤ w.above
not_in h w key d s q x y = let z : x ≡ d = (let v : Some x ≡ Some d = sym y ∙ s in cc) in subst (λ (v : Change). v.seq ≤ w.above) (sym z) (grind (arith, nat_tests))

pub not_there : (h : List Change) (w : Span) (key : List ℕ) → last_at h key ≡ None → (x : Change) → last_at h key ≡ Some x → x.seq ≤ w.above
not_there h w key s x y = let z : None ≡ Some x = sym s ∙ y in cc

pub own_fits : (at : ℕ) (h : List Change) (w j : Span) (c : Change) (o : Option Change) → Rises 0 at h → w.last ≡ at → w.origin ≡ Own → IsSpan h w → last_at h c.key ≡ o → with_own h w o c ≡ Some j → Fit (live_of w.origin (Enters h w c))
own_fits at h w j c None r l o is s e = fit_other h w j c (live_of w.origin (Enters h w c)) e (enters_other at h w c r (not_there h w c.key s))
own_fits at h w j c (Some d) r l o is s e = by (nat_lt w.above d.seq) refl e
  where
    by : (b : Bool) → nat_lt w.above d.seq ≡ b → (if b then with_newer h w d c else with_other h w c) ≡ Some j → Fit (live_of w.origin (Enters h w c))
    by true q e = fit_newer h w j d c (live_of w.origin (Enters h w c)) e is.room (enters_newer at h w d c r l o s (below_of w.above d.seq q))
    by false q e = fit_other h w j c (live_of w.origin (Enters h w c)) e (enters_other at h w c r (not_in h w c.key d s q))

pub received_fits : (at : ℕ) (h : List Change) (w j : Span) (c : Change) (o : Option Change) → Rises 0 at h → last_at h c.key ≡ o → with_received h w o c ≡ Some j → Fit (live_of w.origin (Enters h w c))
received_fits at h w j c None r s e = fit_other h w j c (live_of w.origin (Enters h w c)) e (enters_other at h w c r (not_there h w c.key s))
received_fits at h w j c (Some d) r s e = by (nat_lt w.above d.seq) refl e
  where
    by : (b : Bool) → nat_lt w.above d.seq ≡ b → (if b then None else with_other h w c) ≡ Some j → Fit (live_of w.origin (Enters h w c))
    by true q e = cc
    by false q e = fit_other h w j c (live_of w.origin (Enters h w c)) e (enters_other at h w c r (not_in h w c.key d s q))

-- spans of a history with one more change

in_pushed : (h : List Change) (c x : Change) → IsIn x (h ++ c ∷ []) → IsIn x h ⊎ (x ≡ c)
in_pushed h c x i = ⊎_elim (λ l. inl l) (λ k. ⊎_elim (λ e. inr e) (λ n. absurd n) k) (in_append x h (c ∷ []) i)

seq_of : (x c : Change) → x ≡ c → x.seq ≡ c.seq
seq_of x c e = ap (λ (y : Change). y.seq) e

stays_span : (h : List Change) (c : Change) (w : Span) → w.last < c.seq → IsSpan h w → IsSpan (h ++ c ∷ []) w
stays_span h c w l is = record {
  tidy = λ x y i k e m. is.tidy x y (kept x i) (kept y k) e m;
  ends = (is.ends.0, in_left is.ends.0 h (c ∷ []) is.ends.1, is.ends.2);
  room = subst Fit (sym live) is.room;
}
  where
    live : live_in w (h ++ c ∷ []) ≡ live_in w h
    live = ap (live_of w.origin) (stretch_sealed w.above w.last h c l)

    kept : (x : Change) → IsIn x (stretch w.above w.last (h ++ c ∷ [])) → IsIn x (stretch w.above w.last h)
    kept x i =
        let k = in_stretch w.above w.last (h ++ c ∷ []) x i in
        let m : x.seq ≤ w.last = k.2 in
        ⊎_elim (λ j. within_stretch w.above w.last h x j k.1 m) (λ e. let q = seq_of x c e in absurd (omega arith)) (in_pushed h c x k.0)

-- the live changes of a new span
pub alone_live : (at : ℕ) (h : List Change) (c : Change) (w : Span) → Rises 0 at h → at < c.seq → w.above ≡ at → w.last ≡ c.seq → live_in w (h ++ c ∷ []) ≡ c ∷ []
alone_live at h c w r l a e =
    ap (λ k. live_of w.origin (stretch k w.last (h ++ c ∷ []))) a ∙ ap (λ k. live_of w.origin (stretch at k (h ++ c ∷ []))) e ∙ ap (live_of w.origin) (stretch_alone at h c r l) ∙ live_one w.origin c

alone_span : (at : ℕ) (h : List Change) (c : Change) (w : Span) → Rises 0 at h → at < c.seq → w.above ≡ at → w.last ≡ c.seq → IsSpan (h ++ c ∷ []) w
alone_span at h c w r l a e = record {
  tidy = λ x y i k q z. let p = is_c x i in let s = is_c y k in absurd (omega arith);
  ends = (c, in_right c h (c ∷ []) (inl refl), sym e);
  room = fit_alone c (live_in w (h ++ c ∷ [])) (alone_live at h c w r l a e);
}
  where
    is_c : (x : Change) → IsIn x (stretch w.above w.last (h ++ c ∷ [])) → x.seq ≡ c.seq
    is_c x i =
        let k = in_stretch w.above w.last (h ++ c ∷ []) x i in
        let m : w.above < x.seq = k.1 in
        ⊎_elim (λ j. let n = (rises_in 0 at h x r j).1 in absurd (omega arith)) (λ q. seq_of x c q) (in_pushed h c x k.0)

-- the live changes of a span that goes on to c
pub joined_live : (at : ℕ) (h : List Change) (c : Change) (w j : Span) → Rises 0 at h → w.last ≡ at → w.above < w.last → at < c.seq → j.above ≡ w.above → j.last ≡ c.seq → j.origin ≡ w.origin → live_in j (h ++ c ∷ []) ≡ live_of w.origin (Enters h w c)
joined_live at h c w j r l u m a e o =
    ap (λ p. live_of p (stretch j.above j.last (h ++ c ∷ []))) o
    ∙ ap (λ k. live_of w.origin (stretch k j.last (h ++ c ∷ []))) a
    ∙ ap (λ k. live_of w.origin (stretch w.above k (h ++ c ∷ []))) e
    ∙ ap (live_of w.origin) (stretch_joined w.above at h c r (omega arith) m)
    ∙ ap (λ k. live_of w.origin (stretch w.above k h ++ c ∷ [])) (sym l)

-- stood in the span, or is c
abbrev StoodOrIs : List Change → Span → Change → Change → Type 0
StoodOrIs h w c x = IsIn x (stretch w.above w.last h) ⊎ (x ≡ c)

joined_span : (at : ℕ) (h : List Change) (c : Change) (w j : Span) → Rises 0 at h → w.last ≡ at → w.above < w.last → at < c.seq → j.above ≡ w.above → j.last ≡ c.seq → j.origin ≡ w.origin → IsSpan h w → Shares h w c × Fit (live_of w.origin (Enters h w c)) → IsSpan (h ++ c ∷ []) j
joined_span at h c w j r l u m a e o is both = record {
  tidy = λ x y i k q n. subst (λ p. MayShare p x y) (sym o) (share x y (old x i) (old y k) q n);
  ends = (c, in_right c h (c ∷ []) (inl refl), sym e);
  room = subst Fit (sym (joined_live at h c w j r l u m a e o)) both.1;
}
  where
    shares : Shares h w c
    shares = both.0

    old : (x : Change) → IsIn x (stretch j.above j.last (h ++ c ∷ [])) → StoodOrIs h w c x
    old x i =
        let k = in_stretch j.above j.last (h ++ c ∷ []) x i in
        let b : j.above < x.seq = k.1 in
        ⊎_elim (λ t. let n = (rises_in 0 at h x r t).1 in inl (within_stretch w.above w.last h x t (omega arith) (omega arith))) (λ q. inr q) (in_pushed h c x k.0)

    most : (x : Change) → IsIn x (stretch w.above w.last h) → x.seq < c.seq
    most x i = let k : x.seq ≤ w.last = (in_stretch w.above w.last h x i).2 in omega arith

    share : (x y : Change) → StoodOrIs h w c x → StoodOrIs h w c y → x.key ≡ y.key → x.seq < y.seq → MayShare w.origin x y
    share x y i k q n = ⊎_elim
        (λ ix. ⊎_elim (λ iy. is.tidy x y ix iy q n) (λ ey. subst (λ z. MayShare w.origin x z) (sym ey) (shares x ix (q ∙ ap (λ (z : Change). z.key) ey))) k)
        (λ ex. let s = seq_of x c ex in ⊎_elim (λ iy. let t = most y iy in absurd (omega arith)) (λ ey. let t = seq_of y c ey in absurd (omega arith)) k) i

all_append : (h : List Change) (xs ys : List Span) → AllSpans h xs → AllSpans h ys → AllSpans h (xs ++ ys)
all_append h [] ys a b = b
all_append h (x ∷ xs) ys a b = (a.0, all_append h xs ys a.1 b)

all_stay : (low at : ℕ) (h : List Change) (c : Change) (ws : List Span) → Follow low ws at → at < c.seq → AllSpans h ws → AllSpans (h ++ c ∷ []) ws
all_stay low at h c [] f l a = tt
all_stay low at h c (w ∷ ws) f l a = (let m = follow_most w.last at ws f.2 in stays_span h c w (omega arith) a.0, all_stay w.last at h c ws f.2 l a.1)

-- all but the last span stay, and that one is replaced
all_grow : (low at : ℕ) (h : List Change) (c : Change) (ws : List Span) (w j : Span) → Follow low (ws ++ w ∷ []) at → at < c.seq → AllSpans h (ws ++ w ∷ []) → (w.last ≡ at → w.above < w.last → IsSpan h w → IsSpan (h ++ c ∷ []) j)
    → AllSpans (h ++ c ∷ []) (ws ++ j ∷ [])
all_grow low at h c [] w j f l a g = (g f.2 (let e : w.above ≡ low = f.0 in let m : low < w.last = f.1 in omega arith) a.0, tt)
all_grow low at h c (v ∷ vs) w j f l a g = (let m = follow_most v.last at (vs ++ w ∷ []) f.2 in stays_span h c v (omega arith) a.0, all_grow v.last at h c vs w j f.2 l a.1 g)

-- the open span with a change has it beside none that it may not share with
abbrev pub JoinsTidy : List Change → Option Span → Option Span → Change → ℕ → Type 0
JoinsTidy h current joined c at = (w j : Span) → current ≡ Some w → joined ≡ Some j → w.last ≡ at → IsSpan h w → Shares h w c × Fit (live_of w.origin (Enters h w c))

pub own_joins : (at : ℕ) (h : List Change) (c : Change) (current : Option Span) → Rises 0 at h → ((w : Span) → current ≡ Some w → w.origin ≡ Own) → JoinsTidy h current (own_joined h current (last_at h c.key) c) c at
own_joins at h c None r own w j e q l is = cc
own_joins at h c (Some v) r own w j e q l is =
    let s : v ≡ w = cc in
    let t : with_own h w (last_at h c.key) c ≡ Some j = subst (λ (y : Span). with_own h y (last_at h c.key) c ≡ Some j) s q in
    (own_shares at h w j c (last_at h c.key) r l (own w e) is.tidy refl t, own_fits at h w j c (last_at h c.key) r l (own w e) is refl t)

pub received_joins : (at : ℕ) (h : List Change) (c : Change) (current : Option Span) → Rises 0 at h → JoinsTidy h current (received_joined h current (last_at h c.key) c) c at
received_joins at h c None r w j e q l is = cc
received_joins at h c (Some v) r w j e q l is =
    let s : v ≡ w = cc in
    let t : with_received h w (last_at h c.key) c ≡ Some j = subst (λ (y : Span). with_received h y (last_at h c.key) c ≡ Some j) s q in
    (received_shares at h w j c (last_at h c.key) r refl t, received_fits at h w j c (last_at h c.key) r refl t)

-- the open span stays one of own changes
pub opens_own : (r : Role) (ws : Spans) (joined : Option Span) (alone : Span) (seq : ℕ) → OpensOwn r ws.current → alone.origin ≡ Own → Grown ws.current joined seq → OpensOwn r (with_change ws joined alone).current
opens_own role.Active ws None alone seq o a g = a
opens_own role.Active ws (Some j) alone seq o a g = let k : OpensOwn role.Active (Some g.0) = subst (OpensOwn role.Active) g.1 o in g.4 ∙ k
opens_own role.Replica ws joined alone seq o a g = tt
opens_own role.Pending ws joined alone seq o a g = tt
opens_own role.Dead ws joined alone seq o a g = tt

-- an active vBucket's open span is of own changes
pub own_span : (r : Role) (current : Option Span) → is_active r ≡ true → OpensOwn r current → (w : Span) → current ≡ Some w → w.origin ≡ Own
own_span role.Active None e o w q = cc
own_span role.Active (Some v) e o w q = let s : v ≡ w = cc in subst (λ (y : Span). y.origin ≡ Own) s o
own_span role.Replica current e o w q = cc
own_span role.Pending current e o w q = cc
own_span role.Dead current e o w q = cc

pub entered_tidy : (low : ℕ) (ws : Spans) (joined : Option Span) (alone : Span) (at : ℕ) (h : List Change) (c : Change) → Rises 0 at h → Follow low (all_spans ws) at → AllSpans h (all_spans ws) → at < c.seq → alone.above ≡ at → alone.last ≡ c.seq
    → Grown ws.current joined c.seq → JoinsTidy h ws.current joined c at → AllSpans (h ++ c ∷ []) (all_spans (with_change ws joined alone))
entered_tidy low ws None alone at h c r f a l ab la g s = all_append (h ++ c ∷ []) (all_spans ws) (alone ∷ []) (all_stay low at h c (all_spans ws) f l a) (alone_span at h c alone r l ab la, tt)
entered_tidy low ws (Some j) alone at h c r f a l ab la g s =
    all_grow low at h c ws.sealed g.0 j
    (subst (λ o. Follow low (ws.sealed ++ option_to_list o) at) g.1 f) l
    (subst (λ o. AllSpans h (ws.sealed ++ option_to_list o)) g.1 a)
    (λ e u is. joined_span at h c g.0 j r e u l g.2 g.3 g.4 is (s g.0 j g.1 refl e is))

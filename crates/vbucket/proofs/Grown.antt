-- the spans after a change
use Rattle.std.proofs.Common.{◌≡◌, ℕ, ◌<◌, Bool, true, false, List, [], ◌∷◌, ◌++◌, refl, sym, ap, subst, ◌∙◌, arith}
use Rattle.std.specs.Prelude.{Option, Some, None, if◌then◌else◌, nat_le, nat_lt, ◌||◌, ◌+◌, ◌-◌, option_to_list}
use Rattle.vb_types.specs.declared.change.Change.{Change}
use Rattle.vb_calls.specs.declared.span.Span.{Span}
use Rattle.vb_calls.specs.declared.span.TheConstants.{MAX_ITEMS, MAX_WEIGHT}
use Rattle.vb_calls.specs.Spans.{Spans, all_spans, with_change, span_to, with_other, with_newer, with_own, with_received, own_joined, received_joined, is_durable, change_weight, live_count, live_weight}
use Rattle.vbucket.specs.Laws.{Follow}

-- the span that a change entered goes on from the open one
abbrev pub Grown : Option Span → Option Span → ℕ → Type 0
Grown current None seq = Unit {0}
Grown current (Some j) seq = (w : Span) × (current ≡ Some w) × (j.above ≡ w.above) × (j.last ≡ seq) × (j.origin ≡ w.origin)

follow_push : (low at : ℕ) (ws : List Span) (w : Span) → Follow low ws at → w.above ≡ at → at < w.last → Follow low (ws ++ w ∷ []) w.last
follow_push low at [] w f a l = (a ∙ sym f, (let e : low ≡ at = f in omega arith), refl)
follow_push low at (v ∷ vs) w f a l = (f.0, f.1, follow_push v.last at vs w f.2 a l)

follow_grow : (low at : ℕ) (ws : List Span) (w j : Span) → Follow low (ws ++ w ∷ []) at → j.above ≡ w.above → at < j.last → Follow low (ws ++ j ∷ []) j.last
follow_grow low at [] w j f a l = (a ∙ f.0, (let e : w.last ≡ at = f.2 in let m : low < w.last = f.1 in omega arith), refl)
follow_grow low at (v ∷ vs) w j f a l = (f.0, f.1, follow_grow v.last at vs w j f.2 a l)

pub entered_follow : (low : ℕ) (ws : Spans) (joined : Option Span) (alone : Span) (at seq : ℕ) → Follow low (all_spans ws) at → at < seq → alone.above ≡ at → alone.last ≡ seq → Grown ws.current joined seq
    → Follow low (all_spans (with_change ws joined alone)) seq
entered_follow low ws None alone at seq f l a e g = subst (λ n. Follow low (all_spans ws ++ alone ∷ []) n) e (follow_push low at (all_spans ws) alone f a (subst (λ n. at < n) (sym e) l))
entered_follow low ws (Some j) alone at seq f l a e g =
    subst (λ n. Follow low (ws.sealed ++ j ∷ []) n) g.3
    (follow_grow low at ws.sealed g.0 j (subst (λ o. Follow low (ws.sealed ++ option_to_list o) at) g.1 f) g.2 (subst (λ n. at < n) (sym g.3) l))

-- what is made unless a test forbids it
pub built : {X : Type 0} (b : Bool) (x j : X) → (if b then None else Some x) ≡ Some j → x ≡ j
built true x j e = cc
built false x j e = cc

abbrev Goes : Span → Span → ℕ → Type 0
Goes w j seq = (j.above ≡ w.above) × (j.last ≡ seq) × (j.origin ≡ w.origin)

goes : (w : Span) (c : Change) (j : Span) → span_to w c ≡ j → Goes w j c.seq
goes w c j e = (sym (ap (λ (x : Span). x.above) e), sym (ap (λ (x : Span). x.last) e), sym (ap (λ (x : Span). x.origin) e))

other_goes : (h : List Change) (w : Span) (c : Change) (j : Span) → with_other h w c ≡ Some j → Goes w j c.seq
other_goes h w c j e = goes w c j (built (nat_le MAX_ITEMS (live_count w h) || nat_lt MAX_WEIGHT (live_weight w h + change_weight c)) _ j e)

newer_goes : (h : List Change) (w : Span) (d c : Change) (j : Span) → with_newer h w d c ≡ Some j → Goes w j c.seq
newer_goes h w d c j e = goes w c j (built (is_durable d.act || is_durable c.act || nat_lt MAX_WEIGHT (live_weight w h + change_weight c - change_weight d)) _ j e)

own_goes : (h : List Change) (w : Span) (o : Option Change) (c : Change) (j : Span) → with_own h w o c ≡ Some j → Goes w j c.seq
own_goes h w None c j e = other_goes h w c j e
own_goes h w (Some d) c j e = by (nat_lt w.above d.seq) e
  where
    by : (b : Bool) → (if b then with_newer h w d c else with_other h w c) ≡ Some j → Goes w j c.seq
    by true e = newer_goes h w d c j e
    by false e = other_goes h w c j e

received_goes : (h : List Change) (w : Span) (o : Option Change) (c : Change) (j : Span) → with_received h w o c ≡ Some j → Goes w j c.seq
received_goes h w None c j e = other_goes h w c j e
received_goes h w (Some d) c j e = by (nat_lt w.above d.seq) e
  where
    by : (b : Bool) → (if b then None else with_other h w c) ≡ Some j → Goes w j c.seq
    by true e = cc
    by false e = other_goes h w c j e

grown_by : (w : Span) (o : Option Span) (seq : ℕ) → ((j : Span) → o ≡ Some j → Goes w j seq) → Grown (Some w) o seq
grown_by w None seq f = tt
grown_by w (Some j) seq f = let g = f j refl in (w, refl, g.0, g.1, g.2)

pub own_grown : (h : List Change) (current : Option Span) (o : Option Change) (c : Change) → Grown current (own_joined h current o c) c.seq
own_grown h None o c = tt
own_grown h (Some w) o c = grown_by w (with_own h w o c) c.seq (own_goes h w o c)

pub received_grown : (h : List Change) (current : Option Span) (o : Option Change) (c : Change) → Grown current (received_joined h current o c) c.seq
received_grown h None o c = tt
received_grown h (Some w) o c = grown_by w (with_received h w o c) c.seq (received_goes h w o c)

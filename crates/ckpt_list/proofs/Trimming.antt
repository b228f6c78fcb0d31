-- the laws of trims, and of cursors that are put
use Rattle.std.proofs.Common.{◌≡◌, ◌≢◌, ◌↔◌, ℕ, ◌<◌, ◌≤◌, Bool, true, false, cond, not, leb, ltb, List, [], ◌∷◌, ◌++◌, length, refl, ap, sym, ◌∙◌, subst, inl, inr, ⊎_elim, arith}
use Rattle.std.specs.Prelude.{◌⊎◌, Some, None}
use Rattle.std.specs.FinMap as finite
use Rattle.std.specs.List.{All, filter}
use Rattle.std.proofs.lemmas.Bool.{leb-true, leb-false, ltb-true, lt-ltb, lt-leb, le-ltb, cond-true, cond-false, cases_lt}
use Rattle.std.proofs.lemmas.List.Elements.{All-cons, All-nil}
use Rattle.vb_types.specs.declared.change.Change.{Change}
use Rattle.vb_types.specs.Histories.{IsIn, Rises}
use Rattle.vb_calls.specs.declared.span.Span.{Span}
use Rattle.branch_model.proofs.Lasts.{in_filter, kept_in_filter}
use Rattle.branch_model.proofs.Lists.{in_append, in_left, in_right, rises_in}
use Rattle.checkpoint.specs.Checkpoints.{ckpt_last, items_above}
use Rattle.cursor_set.specs.Cursors.{place_of}
use Rattle.cursor_set.proofs.Exactly.{cursors_apart, inserted_here, removed_here}
use Rattle.cursor_set.proofs.Leasts.{least_exact}
use Rattle.ckpt_list.specs.Laws.{IsWanted, Puts, PutsExactly, Trims, TrimsExactly}
use Rattle.ckpt_list.specs.Lists.{Ckpts, held_of}
use Rattle.ckpt_list.specs.Sound.{IsSound}
use Rattle.vb_calls.specs.Trims.{end_of, ended_by}
use Rattle.ckpt_list.specs.Trims.{needless, trimmed_to}
use Rattle.ckpt_list.proofs.Climbs.{Climbs, all_kept, at_most, climbs_at, climbs_follow, none_kept}
use Rattle.ckpt_list.proofs.Sheds.{floor_to, past, spans_shed}
use Rattle.ckpt_list.proofs.Takes.{follow_le}
use Rattle.ckpt_list.proofs.Weights.{all_above}

-- of spans whose ends rise those that end at most at n are a front, and each that stays ends above n
pub record Parted (n : ℕ) (ws gone kept : List Span) : Type 0 where
  pub front : ws ≡ gone ++ kept
  pub low : (m : ℕ) → n ≤ m → All (λ w. w.last ≤ m) gone
  pub first : (w : Span) (vs : List Span) → kept ≡ w ∷ vs → n < w.last

pub parted : (n low : ℕ) (ws : List Span) → Climbs (λ (w : Span). w.last) low ws → Parted n ws (ended_by n ws) (past (λ w. w.last) n ws)
parted n low [] f = record { front = refl; low = λ m l. All-nil _; first = λ w vs e. absurd (cc) }
parted n low (w ∷ ws) f = by (parted n w.last ws f.1) (leb w.last n) (ltb n w.last) refl (at_most n w.last)
  where
    by : Parted n ws (ended_by n ws) (past (λ v. v.last) n ws) → (b c : Bool) → leb w.last n ≡ b → c ≡ not (leb w.last n)
        → Parted n (w ∷ ws) (cond b (w ∷ ended_by n ws) (ended_by n ws)) (cond c (w ∷ past (λ v. v.last) n ws) (past (λ v. v.last) n ws))
    by r true true t u = let no = u ∙ ap not t in absurd (cc)
    by r true false t u =
        let m : w.last ≤ n = leb-true w.last n t in
        record { front = ap (λ vs. w ∷ vs) r.front; low = λ k l. All-cons (λ v. v.last ≤ k) w _ (omega arith) (r.low k l); first = r.first }
    by r false false t u = let no = u ∙ ap not t in absurd (cc)
    by r false true t u =
        let m : n < w.last = leb-false w.last n t in
        let none : ended_by n ws ≡ [] = none_kept (λ (v : Span). leb v.last n) ws (λ i d l. lt-leb _ n (omega (arith, m, climbs_at (λ (v : Span). v.last) w.last ws f.1 i d l))) in
        let all : past (λ (v : Span). v.last) n ws ≡ ws = all_kept (λ (v : Span). ltb n v.last) ws (λ i d l. lt-ltb n _ (omega (arith, m, climbs_at (λ (v : Span). v.last) w.last ws f.1 i d l))) in
        subst (λ vs. Parted n (w ∷ ws) vs (w ∷ past (λ v. v.last) n ws)) (sym none) (record {
          front = ap (λ vs. w ∷ vs) (sym all);
          low = λ k l. All-nil _;
          first = λ v vs e. let same : w ≡ v = cc in subst (λ (x : Span). n < x.last) same m;
        })

pub end_last : (low : ℕ) (ws : List Span) (w : Span) → end_of low (ws ++ w ∷ []) ≡ w.last
end_last low [] w = refl
end_last low (v ∷ vs) w = end_last v.last vs w

none_goes : (l : Ckpts) (n : ℕ) → IsSound l → ended_by n l.sealed ≡ [] → l.sealed ≡ ended_by n l.sealed ++ past (λ w. w.last) n l.sealed → trimmed_to l n ≡ l
none_goes l n s none front = λ i. record l {
  sealed = (sym (front ∙ ap (λ vs. vs ++ past (λ (w : Span). w.last) n l.sealed) none)) i;
  items = (ap (λ vs. items_above (end_of l.floor vs) l.items) none ∙ all_above l.floor l.newest.above l.items s.items) i;
  floor = (ap (end_of l.floor) none) i;
}

live_above : (l : Ckpts) (f : ℕ) → IsSound l → f ≤ l.newest.above → (c : Change) → IsIn c (items_above f l.items ++ l.newest.items) ↔ (IsIn c (held_of l) × (f < c.seq))
live_above l f s m c = (
  (λ i. ⊎_elim
      (λ a. let k = in_filter (λ (d : Change). ltb f d.seq) c l.items a in (in_left c l.items l.newest.items k.0, ltb-true f c.seq k.1))
      (λ b. let up = (rises_in l.newest.above (ckpt_last l.newest) l.newest.items c s.newest b).0 in (in_right c l.items l.newest.items b, omega (arith, up, m)))
      (in_append c (items_above f l.items) l.newest.items i)),
  (λ h. ⊎_elim
      (λ a. in_left c (items_above f l.items) l.newest.items (kept_in_filter (λ (d : Change). ltb f d.seq) c l.items a (lt-ltb f c.seq h.1)))
      (λ b. in_right c (items_above f l.items) l.newest.items b)
      (in_append c l.items l.newest.items h.0)),
)

pub trims_exactly : TrimsExactly
trims_exactly l saved s =
    let n : ℕ = needless l saved in
    let least = (least_exact l.places saved n).0 refl in
    let p = parted n l.floor l.sealed (climbs_follow l.floor l.newest.above l.sealed s.spans) in
    let shed = spans_shed n l.floor l.newest.above l.sealed s.spans in
    record {
      gone = ended_by n l.sealed;
      front = p.front;
      number = refl;
      written = p.low saved least.1;
      given = λ id place e. p.low place (least.2 id place e);
      first = λ w ws e. let up : n < w.last = p.first w ws e in
          ⊎_elim (λ t. inl (omega (arith, t, up))) (λ r. inr (r.0, n, r.1, up)) least.0;
      still = λ none. none_goes l n s none p.front;
      floor = λ w ws e. ap (end_of l.floor) e ∙ end_last l.floor ws w;
      newest = refl;
      places = refl;
      live = live_above l (floor_to l n) s (follow_le (floor_to l n) l.newest.above _ shed.follow);
    }

pub puts_exactly : PutsExactly
puts_exactly l id = record {
  put = λ place. inserted_here l.places id place;
  others = λ place other ne. (cursors_apart l.places id other ne).put place;
  gone = removed_here l.places id;
  stay = λ other ne. (cursors_apart l.places id other ne).removed;
}

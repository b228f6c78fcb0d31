-- the flusher takes all, and it is saved
use Rattle.std.proofs.Common.{◌≡◌, ℕ, zero, suc, ◌<◌, ◌≤◌, max, Bool, true, false, cond, List, [], ◌∷◌, ◌++◌, length, refl, ap, sym, ◌∙◌, subst, append_assoc, arith}
use Rattle.std.specs.Prelude.{Some, None, nat_lt}
use Rattle.std.specs.List.{find}
use Rattle.std.proofs.lemmas.Bool.Decides.{nat_tests}
use Rattle.vb_calls.specs.declared.calls.VbCall.TheVariants as call
use Rattle.vb_calls.specs.declared.span.Span.{Span}
use Rattle.vb_calls.specs.declared.span.Origin.{Origin}
use Rattle.vb_calls.specs.declared.span.Origin.TheVariants.{Own}
use Rattle.vb_calls.specs.State.{Plain, is_active}
use Rattle.vb_calls.specs.Plain.{plain_step}
use Rattle.vb_calls.specs.Spans.{all_spans, span_position}
use Rattle.vb_calls.specs.Flushing.{flush_from, unflushed_span}
use Rattle.vb_calls.specs.Settling.{Resolving, unresolved}
use Rattle.storm_model.specs.Sums.{flushed, written_down}
use Rattle.storm_model.proofs.Conduct.{rests}
use Rattle.storm_model.proofs.Lining.{Chain, chain_rises}

pub below : (a b : ℕ) (t : Bool) → nat_lt a b ≡ t → a < b → nat_lt a b ≡ true
below a b true e l = e
below a b false e l = absurd (grind (arith, nat_tests))

pub not_below : (a b : ℕ) (t : Bool) → nat_lt a b ≡ t → b ≤ a → nat_lt a b ≡ false
not_below a b true e l = absurd (grind (arith, nat_tests))
not_below a b false e l = e

-- all is saved, and nothing else is another
pub record Drained (d vb : Plain) (n : ℕ) : Type 0 where
  pub saved : d.saved ≡ n
  pub held : d.held ≡ vb.held
  pub spans : d.spans ≡ vb.spans
  pub streams : d.streams ≡ vb.streams
  pub position : d.position ≡ vb.position

done_is : (vb : Plain) (seq : ℕ) → vb.waiting ≡ [] → (plain_step vb (call.FlushDone seq)).0 ≡ record vb { saved = max vb.saved seq }
done_is vb seq none = ap (λ (s : Resolving). s.vb) (rests (is_active vb.role) vb.waiting (unresolved (record vb { saved = max vb.saved seq })) none)

taken_is : (vb : Plain) (w : Span) → unflushed_span vb ≡ Some w → w.origin ≡ Own → vb.waiting ≡ []
    → written_down (plain_step vb call.FlushTake).1.answer (plain_step vb call.FlushTake).0 ≡ record vb { flushed = w.last; saved = max vb.saved w.last }
taken_is vb w e o none =
    ap (λ x. written_down (flush_from x vb).1.answer (flush_from x vb).0) e
    ∙ ap (λ (r : Origin). (plain_step (record vb { flushed = w.last }) (call.FlushDone (span_position r w.last).at)).0) o
    ∙ done_is (record vb { flushed = w.last }) w.last none

nothing_is : (vb : Plain) → unflushed_span vb ≡ None → written_down (plain_step vb call.FlushTake).1.answer (plain_step vb call.FlushTake).0 ≡ vb
nothing_is vb e = ap (λ x. written_down (flush_from x vb).1.answer (flush_from x vb).0) e

find_rest : (from f : ℕ) (front rest : List Span) → Chain from f front → find (λ w. nat_lt f w.last) (front ++ rest) ≡ find (λ w. nat_lt f w.last) rest
find_rest from f [] rest h = refl
find_rest from f (w ∷ front) rest h =
    ap (λ b. cond b (Some w) (find (λ x. nat_lt f x.last) (front ++ rest))) (not_below f w.last (nat_lt f w.last) refl (let r = chain_rises w.last f front h.3 in omega (arith, r)))
    ∙ find_rest w.last f front rest h.3

find_none : (f : ℕ) (vb : Plain) (front : List Span) → all_spans vb.spans ≡ front ++ [] → Chain 0 f front → vb.flushed ≡ f → unflushed_span vb ≡ None
find_none f vb front s h e = (λ i. find (λ w. nat_lt (e i) w.last) (s i)) ∙ find_rest 0 f front [] h

find_next : (f : ℕ) (vb : Plain) (front : List Span) (w : Span) (rest : List Span) → all_spans vb.spans ≡ front ++ w ∷ rest → Chain 0 f front → vb.flushed ≡ f → f < w.last → unflushed_span vb ≡ Some w
find_next f vb front w rest s h e l = (λ i. find (λ x. nat_lt (e i) x.last) (s i)) ∙ find_rest 0 f front (w ∷ rest) h
    ∙ ap (λ b. cond b (Some w) (find (λ x. nat_lt f x.last) rest)) (below f w.last (nat_lt f w.last) refl l)

pub chain_front : (from f : ℕ) (front : List Span) (w : Span) → Chain from f front → w.above ≡ f → f < w.last → w.origin ≡ Own → Chain from w.last (front ++ w ∷ [])
chain_front from f [] w h a l o = (a ∙ sym h, omega (arith, h, l), o, refl)
chain_front from f (x ∷ front) w h a l o = (h.0, h.1, h.2, chain_front x.last f front w h.3 a l o)

pub drained : (k : ℕ) (vb : Plain) (f n : ℕ) (front rest : List Span) → all_spans vb.spans ≡ front ++ rest → Chain 0 f front → Chain f n rest
    → vb.waiting ≡ [] → vb.flushed ≡ f → vb.saved ≡ f → length rest ≤ k → Drained (flushed k vb) vb n
drained zero vb f n front [] s h r none e d l = record { saved = d ∙ r; held = refl; spans = refl; streams = refl; position = refl }
drained zero vb f n front (w ∷ rest) s h r none e d l = absurd (omega arith)
drained (suc k) vb f n front [] s h r none e d l =
    subst (λ (x : Plain). Drained (flushed k x) vb n) (sym (nothing_is vb (find_none f vb front s h e))) (drained k vb f n front [] s h r none e d (omega arith))
drained (suc k) vb f n front (w ∷ rest) s h r none e d l =
    let now : Plain = record vb { flushed = w.last; saved = max vb.saved w.last } in
    let higher : max vb.saved w.last ≡ w.last = let low = r.1 in omega (arith, d, low) in
    let more : Drained (flushed k now) now n = drained k now w.last n (front ++ w ∷ []) rest (s ∙ sym (append_assoc front (w ∷ []) rest)) (chain_front 0 f front w h r.0 r.1 r.2) r.3 none refl higher (omega arith) in
    subst (λ (x : Plain). Drained (flushed k x) vb n) (sym (taken_is vb w (find_next f vb front w rest s h e r.1) r.2 none))
    (record { saved = more.saved; held = more.held; spans = more.spans; streams = more.streams; position = more.position })

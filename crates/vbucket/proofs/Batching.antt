-- batches are the rests of spans
use Rattle.std.proofs.Common.{◌≡◌, ℕ, zero, suc, ◌+◌, ◌<◌, ◌≤◌, Bool, true, false, cond, List, [], ◌∷◌, refl, sym, ap, subst, ◌∙◌, inl, inr, ⊎_elim, arith}
use Rattle.std.specs.Prelude.{max, ◌⊎◌, Option, Some, None, nat_lt}
use Rattle.std.specs.List.{filter, find}
use Rattle.std.proofs.lemmas.Bool.{cases_lt}
use Rattle.std.proofs.lemmas.Bool.Decides.{nat_tests}
use Rattle.vb_types.specs.declared.change.Change.{Change}
use Rattle.vb_types.specs.declared.journal.Batch.{Batch}
use Rattle.vb_types.specs.Histories.{Rises, IsIn}
use Rattle.vb_calls.specs.declared.calls.VbAnswer.TheVariants as answer
use Rattle.vb_calls.specs.declared.calls.VbCall.TheVariants.{FlushTake}
use Rattle.vb_calls.specs.declared.calls.VbReply.{VbReply}
use Rattle.vb_calls.specs.declared.span.Span.{Span}
use Rattle.vb_calls.specs.declared.span.Origin.{Origin}
use Rattle.vb_calls.specs.declared.span.Origin.TheVariants.{Own, Received}
use Rattle.vb_calls.specs.Flushing.{batch_of, flush_from, unflushed_span}
use Rattle.vb_calls.specs.Plain.{Plain, plain_step}
use Rattle.vb_calls.specs.Spans.{all_spans, live_in, span_position, stretch}
use Rattle.vbucket.specs.Laws.{Follow, Sound}
use Rattle.vbucket.specs.Saving.{AllAreGiven, FlushesAs, FlushesExactly, Gives, IsGiven, IsNext, IsOneOf, IsRest, SavesExactly}
use Rattle.vbucket.proofs.Ending.{found_first}
use Rattle.vb_calls.specs.State.{quiet_reply}
use Rattle.vb_calls.specs.Settling.{and_settled}
use Rattle.vbucket.specs.Settles.{Settles}
use Rattle.vbucket.proofs.Settling.{settles}
use Rattle.vbucket.proofs.Parts.{Among, among_most, below_of, bounded, kept_in_filter, filtered, found, in_filter, in_live, in_stretch, live_rises, below_tested}
use Rattle.vbucket.proofs.Queued.{lives_rise}
use Rattle.vbucket.proofs.Soundness.{flushed_most}
use Rattle.vbucket.proofs.Parts.{from_zero}

-- the test that finds the next span
abbrev goes_on : Plain → Span → Bool
goes_on vb w = nat_lt vb.flushed w.last

next_span : (vb : Plain) (w : Span) → Sound vb → unflushed_span vb ≡ Some w → IsNext vb w
next_span vb w s e =
    let k = found (goes_on vb) (all_spans vb.spans) w e in
    record {
      one = k.0;
      above = below_of vb.flushed w.last k.1;
      first = λ v a l. found_first (goes_on vb) vb.floor vb.position.at (all_spans vb.spans) w v s.spans e a (below_tested vb.flushed v.last l);
    }

-- a span begins where the one before it ends, or at the floor
above_low : (low high : ℕ) (ws : List Span) (w : Span) → Follow low ws high → Among w ws → low ≤ w.above
above_low low high [] w f a = absurd a
above_low low high (v ∷ vs) w f a = ⊎_elim
    (λ e. let q : w.above ≡ v.above = ap (λ (x : Span). x.above) e in let k : v.above ≡ low = f.0 in omega arith)
    (λ t. let m = above_low v.last high vs w f.2 t in let l : low < v.last = f.1 in omega arith) a

in_span : (h : List Change) (w : Span) (c : Change) → IsIn c (live_in w h) → (w.above < c.seq) × (c.seq ≤ w.last)
in_span h w c i = let k = in_stretch w.above w.last h c (in_live w.origin (stretch w.above w.last h) c i) in (k.1, k.2)

at_end : (o : Origin) (n : ℕ) → (span_position o n).at ≡ n
at_end Own n = refl
at_end (Received ss se) n = refl

nonempty : (low high : ℕ) (ws : List Span) (w : Span) → Follow low ws high → Among w ws → w.above < w.last
nonempty low high [] w f a = absurd a
nonempty low high (v ∷ vs) w f a = ⊎_elim
    (λ e. let q : w.above ≡ v.above = ap (λ (x : Span). x.above) e in let m : w.last ≡ v.last = ap (λ (x : Span). x.last) e in let k : v.above ≡ low = f.0 in let l : low < v.last = f.1 in omega arith)
    (λ t. nonempty v.last high vs w f.2 t) a

rest_of : (vb : Plain) (w : Span) → Sound vb → unflushed_span vb ≡ Some w → IsRest vb w (batch_of vb w)
rest_of vb w s e =
    let later : Change → Bool = λ c. nat_lt vb.flushed c.seq in
    let live : List Change = live_in w vb.held in
    let next = next_span vb w s e in
    let some : w.above < w.last = nonempty vb.floor vb.position.at (all_spans vb.spans) w s.spans next.one in
    let rise : Rises w.above w.last live = live_rises w.origin w.above w.last (stretch w.above w.last vb.held) (lives_rise vb.position.at vb.held w (from_zero vb.floor vb.position.at vb.held s.rises) some) in
    let up : vb.flushed < w.last = next.above in
    record {
      items = λ c. (λ i. let k = in_filter later live c i in (k.0, below_of vb.flushed c.seq k.1), λ k. kept_in_filter later live c k.0 (below_tested vb.flushed c.seq k.1));
      within = λ c i. in_span vb.held w c (in_filter later live c i).0;
      rises = bounded w.above w.last vb.flushed w.last (filter later live) (filtered later w.above w.last live rise) (omega arith)
          (λ c i. let k = in_filter later live c i in (below_of vb.flushed c.seq k.1, (in_span vb.held w c k.0).1));
      ends = at_end w.origin w.last;
      own = λ o. ap (λ x. span_position x w.last) o;
      received = λ ss se o. ap (λ x. span_position x w.last) o;
      cas = refl;
      log = refl;
    }

-- where no span goes on, all was taken
all_taken : (low at n : ℕ) (ws : List Span) → Follow low ws at → low ≤ n → find (λ w. nat_lt n w.last) ws ≡ None → at ≤ n
all_taken low at n [] f l e = let k : low ≡ at = f in omega arith
all_taken low at n (w ∷ ws) f l e = by (nat_lt n w.last) refl e (all_taken w.last at n ws f.2)
  where
    by : (b : Bool) → nat_lt n w.last ≡ b → cond b (Some w) (find (λ w. nat_lt n w.last) ws) ≡ None → (w.last ≤ n → find (λ w. nat_lt n w.last) ws ≡ None → at ≤ n) → at ≤ n
    by true q k ih = cc
    by false q k ih = ih (grind (arith, nat_tests)) k

flushes_as : (vb : Plain) (o : Option Span) → Sound vb → unflushed_span vb ≡ o → FlushesAs vb (flush_from o vb)
flushes_as vb None s e =
    let most = all_taken vb.floor vb.position.at vb.flushed (all_spans vb.spans) s.spans s.flushed.0 e in
    let least : vb.flushed ≤ vb.position.at = s.flushed.1 in
    record {
      nothing = (λ q. omega arith, λ k. refl);
      taken = λ batch q. cc;
      some = λ l. absurd (omega arith);
      saved = refl;
      stays = refl;
    }
flushes_as vb (Some w) s e =
    let next = next_span vb w s e in
    let up : vb.flushed < w.last = next.above in
    let most : w.last ≤ vb.position.at = among_most vb.floor vb.position.at (all_spans vb.spans) w s.spans next.one in
    record {
      nothing = (λ q. cc, λ k. absurd (omega arith));
      taken = λ batch q. let k : batch_of vb w ≡ batch = cc in (w, next, subst (IsRest vb w) k (rest_of vb w s e), refl);
      some = λ l. (batch_of vb w, refl);
      saved = refl;
      stays = refl;
    }

pub flushes : FlushesExactly
flushes vb s = flushes_as vb (unflushed_span vb) s refl

-- all that live are given

-- of two spans one is behind the other, or they are the same
apart : (low high : ℕ) (ws : List Span) (v w : Span) → Follow low ws high → Among v ws → Among w ws → (w ≡ v) ⊎ ((w.last ≤ v.above) ⊎ (v.last ≤ w.above))
apart low high [] v w f a b = absurd a
apart low high (x ∷ xs) v w f a b = ⊎_elim
    (λ e. ⊎_elim (λ q. inl (q ∙ sym e)) (λ j. let m = above_low x.last high xs w f.2 j in let k : v.last ≡ x.last = ap (λ (y : Span). y.last) e in inr (inr (omega arith))) b)
    (λ i. ⊎_elim (λ q. let m = above_low x.last high xs v f.2 i in let k : w.last ≡ x.last = ap (λ (y : Span). y.last) q in inr (inl (omega arith))) (λ j. apart x.last high xs v w f.2 i j) b)
    a

given_by : (fuel : ℕ) (vb : Plain) (w : Span) (c : Change) → vb.position.at ≤ vb.flushed + fuel → Sound vb → IsOneOf w (all_spans vb.spans) → IsIn c (live_in w vb.held) → vb.flushed < c.seq → (batches : List Batch) × Gives vb batches × IsGiven c batches
given_by zero vb w c l s one i up =
    let k = (in_span vb.held w c i).1 in
    let m = among_most vb.floor vb.position.at (all_spans vb.spans) w s.spans one in
    absurd (omega arith)
given_by (suc fuel) vb w c l s one i up = by (unflushed_span vb) refl (given_by fuel)
  where
    by : (o : Option Span) → unflushed_span vb ≡ o
        → ((vb : Plain) (w : Span) (c : Change) → vb.position.at ≤ vb.flushed + fuel → Sound vb → IsOneOf w (all_spans vb.spans) → IsIn c (live_in w vb.held) → vb.flushed < c.seq → (batches : List Batch) × Gives vb batches × IsGiven c batches)
        → (batches : List Batch) × Gives vb batches × IsGiven c batches
    by None e ih =
        let k = (in_span vb.held w c i).1 in
        let m = among_most vb.floor vb.position.at (all_spans vb.spans) w s.spans one in
        let n = all_taken vb.floor vb.position.at vb.flushed (all_spans vb.spans) s.spans s.flushed.0 e in
        absurd (omega arith)
    by (Some v) e ih =
        let next = next_span vb v s e in
        let step : plain_step vb FlushTake ≡ flush_from (Some v) vb = ap (λ o. flush_from o vb) e in
        let said : (plain_step vb FlushTake).1.answer ≡ answer.Rows (batch_of vb v) = ap (λ (p : Plain × VbReply). p.1.answer) step in
        let to : Plain = record vb { flushed = v.last } in
        let left : (plain_step vb FlushTake).0 ≡ to = ap (λ (p : Plain × VbReply). p.0) step in
        let c_in = in_span vb.held w c i in
        let low : w.above < c.seq = c_in.0 in
        let high : c.seq ≤ w.last = c_in.1 in
        let rise : vb.flushed < v.last = next.above in
        ⊎_elim
        (λ (m : v.last < c.seq).
        let rest = ih to w c (omega arith) (flushed_most vb v s e) one i m in
        (batch_of vb v ∷ rest.0, (said, subst (λ (x : Plain). Gives x rest.0) (sym left) rest.1), inr rest.2))
        (λ (m : c.seq ≤ v.last).
        let reach : v.last ≤ w.last = next.first w one (omega arith) in
        let same : w ≡ v = ⊎_elim (λ q. q)
        (λ q. ⊎_elim (λ (x : w.last ≤ v.above). let y : v.above < v.last = nonempty vb.floor vb.position.at (all_spans vb.spans) v s.spans next.one in absurd (omega arith)) (λ (x : v.last ≤ w.above). absurd (omega arith)) q)
        (apart vb.floor vb.position.at (all_spans vb.spans) v w s.spans next.one one) in
        let here : IsIn c (live_in v vb.held) = subst (λ (x : Span). IsIn c (live_in x vb.held)) same i in
        (batch_of vb v ∷ [], (said, tt), inl (((rest_of vb v s e).items c).1 (here, up))))
        (cases_lt v.last c.seq)

pub all_given : AllAreGiven
all_given vb w c s one i up = given_by vb.position.at vb w c (omega arith) s one i up

-- what is saved

pub saves : SavesExactly
saves vb seq =
    let made : Plain × VbReply = (record vb { saved = max vb.saved seq }, quiet_reply (answer.Num (max vb.saved seq))) in
    let k = settles made in
    let same : (and_settled made).0.saved ≡ max vb.saved seq = ap (λ (x : Plain). x.saved) k.commits.2.stays in
    record {
      told = ap answer.Num (sym same);
      keeps = subst (λ n. vb.saved ≤ n) (sym same) (omega arith);
      reaches = subst (λ n. seq ≤ n) (sym same) (omega arith);
      no_more = subst (λ n. (n ≡ vb.saved) ⊎ (n ≡ seq)) (sym same) (by (cases_lt vb.saved seq));
      made = subst (λ n. Settles (record vb { saved = n }, quiet_reply (answer.Num n)) (and_settled made)) (sym same) k;
    }
  where
    by : (vb.saved < seq) ⊎ (seq ≤ vb.saved) → (max vb.saved seq ≡ vb.saved) ⊎ (max vb.saved seq ≡ seq)
    by (inl l) = inr (omega arith)
    by (inr l) = inl (omega arith)

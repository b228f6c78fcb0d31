-- what a rollback leaves, what a vBucket is loaded of, and its numbers
use Rattle.std.proofs.Common.{◌≡◌, ◌≢◌, ℕ, ◌+◌, ◌<◌, ◌≤◌, Bool, true, false, cond, List, [], ◌∷◌, length, refl, ap, ◌∙◌, inl, inr, ⊎_elim, arith, length-append}
use Rattle.std.specs.Prelude.{◌⊎◌, if◌then◌else◌, nat_le, max}
use Rattle.std.specs.List.{filter, flat_map}
use Rattle.std.proofs.lemmas.Bool.{cases_lt}
use Rattle.vb_types.specs.declared.change.Change.{Change}
use Rattle.vb_types.specs.declared.role.LogEntry.{LogEntry}
use Rattle.vb_types.specs.declared.role.Role.{Role}
use Rattle.vb_types.specs.declared.role.Role.TheVariants as role
use Rattle.vb_types.specs.declared.status.Status.TheVariants as status
use Rattle.vb_types.specs.Images.{Picture}
use Rattle.branch_model.specs.Logs.{kept_to}
use Rattle.vb_calls.specs.declared.calls.VbAnswer.TheVariants as answer
use Rattle.vb_calls.specs.declared.span.Span.{Span}
use Rattle.vb_calls.specs.declared.stream.Stream.{Stream}
use Rattle.vb_calls.specs.Following.{is_follower, rolled_vb}
use Rattle.vb_calls.specs.Plain.{Plain}
use Rattle.vb_calls.specs.Spans.{all_spans, live_in}
use Rattle.vb_calls.specs.State.{loaded_role, quiet_reply, refusal_reply}
use Rattle.vbucket.specs.Saving.{AreCursors, CountsExactly, CountsInNumbers, IsEntry, LoadsExactly, RollsAs, RollsExactly, lives}
use Rattle.vbucket.proofs.Parts.{most_not, most_of}
use Rattle.vbucket.proofs.Receiving.{follower_of, not_follower}
use Rattle.vbucket.proofs.Wholes.{loads_sound}

-- rollbacks

kept_entry : (n : ℕ) (log : List LogEntry) (e : LogEntry) → IsEntry e (kept_to n log) → IsEntry e log × (e.seq ≤ n)
kept_entry n [] e i = absurd i
kept_entry n (x ∷ xs) e i = by (nat_le x.seq n) refl i (kept_entry n xs e)
  where
    by : (b : Bool) → nat_le x.seq n ≡ b → IsEntry e (cond b (x ∷ kept_to n xs) (kept_to n xs)) → (IsEntry e (kept_to n xs) → IsEntry e xs × (e.seq ≤ n)) → IsEntry e (x ∷ xs) × (e.seq ≤ n)
    by true t j ih = ⊎_elim (λ q. let k : e.seq ≡ x.seq = ap (λ (y : LogEntry). y.seq) q in let l = most_of x.seq n t in (inl q, omega arith)) (λ j. let k = ih j in (inr k.0, k.1)) j
    by false t j ih = let k = ih j in (inr k.0, k.1)

entry_is_kept : (n : ℕ) (log : List LogEntry) (e : LogEntry) → IsEntry e log → e.seq ≤ n → IsEntry e (kept_to n log)
entry_is_kept n [] e i l = absurd i
entry_is_kept n (x ∷ xs) e i l = by (nat_le x.seq n) refl i (λ j. entry_is_kept n xs e j l)
  where
    by : (b : Bool) → nat_le x.seq n ≡ b → IsEntry e (x ∷ xs) → (IsEntry e xs → IsEntry e (kept_to n xs)) → IsEntry e (cond b (x ∷ kept_to n xs) (kept_to n xs))
    by true t j ih = ⊎_elim (λ q. inl q) (λ j. inr (ih j)) j
    by false t j ih = ⊎_elim (λ q. let k : e.seq ≡ x.seq = ap (λ (y : LogEntry). y.seq) q in let m = most_not x.seq n t in absurd (omega arith)) (λ j. ih j) j

rolls_as : (vb : Plain) (at : ℕ) (image : Picture) (cas : ℕ) (b : Bool) → is_follower vb.role ≡ b
    → RollsAs vb at image cas (if b then (rolled_vb vb at image cas, quiet_reply (answer.Num at)) else (vb, refusal_reply status.NotMyVbucket))
rolls_as vb at image cas true f = record {
  foreign = (λ q. cc, λ n. absurd (n (follower_of vb.role f)));
  done = (λ q. follower_of vb.role f, λ k. refl);
  holds = λ k. refl;
  none = λ k. (refl, refl);
  position = λ k. refl;
  entries = λ k e. (λ i. kept_entry at vb.log e i, λ i. entry_is_kept at vb.log e i.0 i.1);
  marks = λ k. (refl, refl, refl);
  counts = λ k. (omega arith, omega arith, larger (cases_lt vb.last_cas cas));
  stays = (refl, refl, refl, refl);
}
  where
    larger : (vb.last_cas < cas) ⊎ (cas ≤ vb.last_cas) → (max vb.last_cas cas ≡ vb.last_cas) ⊎ (max vb.last_cas cas ≡ cas)
    larger (inl l) = inr (omega arith)
    larger (inr l) = inl (omega arith)
rolls_as vb at image cas false f = record {
  foreign = (λ q. not_follower vb.role f, λ n. refl);
  done = (λ q. cc, λ k. absurd (not_follower vb.role f k));
  holds = λ k. absurd (not_follower vb.role f k);
  none = λ k. absurd (not_follower vb.role f k);
  position = λ k. absurd (not_follower vb.role f k);
  entries = λ k e. absurd (not_follower vb.role f k);
  marks = λ k. absurd (not_follower vb.role f k);
  counts = λ k. absurd (not_follower vb.role f k);
  stays = (refl, refl, refl, refl);
}

pub rolls : RollsExactly
rolls vb at image cas = rolls_as vb at image cas (is_follower vb.role) refl

-- numbers

lives_all : (h : List Change) (ws : List Span) → length (flat_map (λ w. live_in w h) ws) ≡ lives h ws
lives_all h [] = refl
lives_all h (w ∷ ws) = length-append (live_in w h) (flat_map (λ w. live_in w h) ws) ∙ ap (λ n. length (live_in w h) + n) (lives_all h ws)

cursors : (ss : List Stream) → AreCursors ss (1 + length (filter (λ s. s.cursor) ss))
cursors [] = refl
cursors (s ∷ ss) = by s.cursor refl (cursors ss)
  where
    rest : List Stream
    rest = filter (λ s. s.cursor) ss

    by : (b : Bool) → s.cursor ≡ b → AreCursors ss (1 + length rest) → AreCursors (s ∷ ss) (1 + length (cond b (s ∷ rest) rest))
    by true e ih = inl (e, (1 + length rest, omega arith, ih))
    by false e ih = inr (e, ih)

pub counts : CountsExactly
counts vb = (
  length (all_spans vb.spans),
  length (flat_map (λ w. live_in w vb.held) (all_spans vb.spans)),
  1 + length (filter (λ s. s.cursor) vb.streams),
  record { told = refl; windows_counted = refl; of_lives = lives_all vb.held (all_spans vb.spans); of_cursors = cursors vb.streams; stays = refl },
)

pub in_numbers : CountsInNumbers
in_numbers doc = (refl, refl, refl, refl)

-- a vBucket that was written down

dead_of : (r : Role) → r ≡ role.Active → loaded_role r ≡ role.Dead
dead_of r e = ap loaded_role e

loaded_role_same : (r : Role) → r ≢ role.Active → loaded_role r ≡ r
loaded_role_same role.Active n = absurd (n refl)
loaded_role_same role.Replica n = refl
loaded_role_same role.Pending n = refl
loaded_role_same role.Dead n = refl

pub loads : LoadsExactly
loads node r log position cas image = record {
  sound = λ k. loads_sound node r log position cas image k.within.0 k.within.1 k.capped k.fits k.pends k.low k.apart;
  holds = refl;
  none = (refl, refl, refl);
  stands = (refl, refl, refl);
  alone = (refl, refl, refl);
  marks = (refl, refl, refl);
  dead = dead_of r;
  same = loaded_role_same r;
}

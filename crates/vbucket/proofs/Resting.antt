-- after each call no more may be committed; and what a follower may acknowledge
use Rattle.std.proofs.Common.{◌≡◌, ◌≢◌, ℕ, ◌≤◌, Bool, true, false, [], refl, sym, ap, subst, ◌∙◌, arith}
use Rattle.std.specs.Prelude.{◌&&◌, ◌==◌, if◌then◌else◌, nat_lt}
use Rattle.std.proofs.lemmas.Bool.Decides.{nat_tests}
use Rattle.durability.specs.Chains.{has_enough}
use Rattle.durability.specs.Laws.{ThirdsSaved}
use Rattle.durability.specs.Outstanding.{acked}
use Rattle.durability.specs.Pending.{due}
use Rattle.durability.proofs.Dues.{due_complete, due_greatest, due_of, due_thirds}
use Rattle.branch_model.specs.Requests.{fork_of}
use Rattle.vb_types.specs.declared.position.TheConstants.{MAX_SEQ}
use Rattle.vb_types.specs.declared.status.Status.TheVariants as status
use Rattle.vb_calls.specs.declared.calls.VbAnswer.TheVariants as answer
use Rattle.vb_calls.specs.declared.calls.VbCall.{VbCall}
use Rattle.vb_calls.specs.declared.calls.VbReply.{VbReply}
use Rattle.vb_calls.specs.Durable.{pending_prepares}
use Rattle.vb_calls.specs.Following.{is_follower}
use Rattle.vb_calls.specs.Settling.{has_seqno}
use Rattle.vb_calls.specs.State.{Plain, image_in, quiet_reply, refusal_reply}
use Rattle.vbucket.specs.DurableLaws.{DuesAs, DuesExactly, IsComplete, IsDue, StaysAtRest, ThirdsAreSaved}
use Rattle.vbucket.specs.Laws.{IsTimely, Sound}
use Rattle.vbucket.specs.Settles.{IsSettled}
use Rattle.vbucket.proofs.Backing.{none_idle}
use Rattle.vbucket.proofs.Committing.{none_rests, settled_rests}
use Rattle.vbucket.proofs.Dues.{at_key, pend_at}
use Rattle.vbucket.proofs.Receiving.{follower_of, not_follower}
use Rattle.vbucket.proofs.RowIs.{RowIs, Receives, Rolls, Settles, Turns, Writes, Yields, row_is}
use Rattle.vbucket.proofs.Soundness.{follows_idle, start_sound}
use Rattle.vbucket.proofs.Turns.{fork_inside, fork_whole}

-- a call that leaves the outstanding prepares, what is acknowledged, the chain and what is saved

seq_before : (m n : ℕ) → m ≤ n → nat_lt m MAX_SEQ ≡ false → nat_lt n MAX_SEQ ≡ false
seq_before m n l e = grind (arith, nat_tests)

less_is : (a b c : Bool) → (a && b) ≡ false → (b ≡ false → c ≡ false) → (a && c) ≡ false
less_is true b c e f = f e
less_is false b c e f = refl

pub rests_on : (vb after : Plain) → after.waiting ≡ vb.waiting → after.acks ≡ vb.acks → after.others ≡ vb.others → after.saved ≡ vb.saved → vb.position.at ≤ after.position.at → IsSettled vb → IsSettled after
rests_on vb after w a o s l r = λ v more e.
    let k = r v more (sym w ∙ e) in
    let m : has_enough (acked after.acks) after.others after.saved v ≡ has_enough (acked vb.acks) vb.others vb.saved v = (λ i. has_enough (acked (a i)) (o i) (s i) v) in
    ap (λ b. b && has_seqno after) m ∙ less_is (has_enough (acked vb.acks) vb.others vb.saved v) (has_seqno vb) (has_seqno after) k (seq_before vb.position.at after.position.at l)

-- one that follows has no outstanding prepare
follows_none : (vb : Plain) → Sound vb → is_follower vb.role ≡ true → vb.waiting ≡ []
follows_none vb s e = none_idle vb.role vb.waiting (follows_idle vb.role e) s.waits.only

row_rests : (vb : Plain) {c : VbCall} {made : Plain × VbReply} → RowIs vb c made → Sound vb → IsTimely c → IsSettled vb → IsSettled made.0
row_rests vb {made = made} (Writes write clock free) s t r = rests_on vb made.0 refl refl refl refl (omega arith) r
row_rests vb {made = made} (Receives c a f next is) s t r = none_rests made.0 (follows_none vb s f)
row_rests vb (Settles c start is) s t r = settled_rests start.0 (start_sound vb is s t)
row_rests vb {made = made} (Rolls at image cas f) s t r = none_rests made.0 (follows_none vb s f)
row_rests vb {made = made} (Turns c new loud idle) s t r = none_rests made.0 refl
row_rests vb {made = made} (Yields id kept on at) s t r = none_rests made.0 refl
row_rests vb other s t r = r

pub stays_at_rest : StaysAtRest
stays_at_rest vb call s t r = row_rests vb (row_is vb call) s t r

-- what a follower may acknowledge

complete_of : (vb : Plain) (n : ℕ) → n ≤ fork_of vb.position → IsComplete vb n
complete_of vb n l = (
  λ e. subst (λ x. n ≤ x) (fork_whole vb.position.at vb.position.ss vb.position.se e) l,
  λ e. subst (λ x. n ≤ x) (fork_inside vb.position.at vb.position.ss vb.position.se e) l,
)

is_same : (a b : ℕ) → (a == b) ≡ true → a ≡ b
is_same a b e = grind (arith, nat_tests)

is_other : (a b : ℕ) → (a == b) ≡ false → a ≢ b
is_other a b e = grind (arith, nat_tests)

complete_at_fork : (vb : Plain) (n : ℕ) → IsComplete vb n → n ≤ fork_of vb.position
complete_at_fork vb n k = by (vb.position.at == vb.position.se) refl
  where
    by : (b : Bool) → (vb.position.at == vb.position.se) ≡ b → n ≤ fork_of vb.position
    by true e = let same = is_same vb.position.at vb.position.se e in subst (λ x. n ≤ x) (sym (fork_whole vb.position.at vb.position.ss vb.position.se same)) (k.0 same)
    by false e = let other = is_other vb.position.at vb.position.se e in subst (λ x. n ≤ x) (sym (fork_inside vb.position.at vb.position.ss vb.position.se other)) (k.1 other)

module _ (vb : Plain) where
  abbrev number : ℕ
  number = due (pending_prepares vb) (fork_of vb.position) vb.saved

  thirds_of : (n : ℕ) → ThirdsSaved (pending_prepares vb) n vb.saved → ThirdsAreSaved vb n
  thirds_of n h = λ key p e level l. h p (pend_at (image_in vb).pending key p e) level l

  of_thirds : (n : ℕ) → ThirdsAreSaved vb n → ThirdsSaved (pending_prepares vb) n vb.saved
  of_thirds n h = λ p i level l. let k = at_key (image_in vb).pending p i in h k.0 p k.1 level l

  is_due : IsDue vb number
  is_due = record {
    one = λ l. let k = due_of (pending_prepares vb) (fork_of vb.position) vb.saved l in let m = at_key (image_in vb).pending k.0 k.1 in (m.0, k.0, m.1, k.2);
    complete = λ l. complete_of vb number (due_complete (pending_prepares vb) (fork_of vb.position) vb.saved);
    thirds = thirds_of number (due_thirds (pending_prepares vb) (fork_of vb.position) vb.saved);
    greatest = λ key p e c h. due_greatest (pending_prepares vb) (fork_of vb.position) vb.saved p (pend_at (image_in vb).pending key p e) (complete_at_fork vb p.seq c) (of_thirds p.seq h);
  }

  dues : (b : Bool) → is_follower vb.role ≡ b → DuesAs vb (vb, if b then quiet_reply (answer.Dues number vb.saved) else refusal_reply status.NotMyVbucket)
  dues true e = record { foreign = (λ q. cc, λ n. absurd (n (follower_of vb.role e))); tells = λ f. (number, refl, is_due); stays = refl }
  dues false e = record { foreign = (λ q. not_follower vb.role e, λ n. refl); tells = λ f. absurd (not_follower vb.role e f); stays = refl }

pub dues_exactly : DuesExactly
dues_exactly vb = dues vb (is_follower vb.role) refl

-- what a line `down` leaves of its link, as it is known of its answers
use Rattle.std.specs.Prelude.{◌≡◌, ◌+◌, ◌∷◌, ◌++◌, ◌⊎◌, if◌then◌else◌}
use Rattle.std.specs.List.{All}
use Rattle.mcbp_frame.{proofs.Pieces.{left-spellings, parted}, specs.Cutting.{Parted, frames_in, left_of}}
use Rattle.takeover.specs.declared.{give_up.GiveStep.{GiveStep}, give_up.GiveStep.TheVariants.{AwaitActive, AwaitPending}, give_up.GiveUp.{GiveUp}, take_over.TakeOver.{TakeOver}, take_over.TakeStep.{TakeStep}, take_over.TakeStep.TheVariants.{Own, Pend}}
use Rattle.transcript_law.proofs.Words.{ℕ, Bool, true, false, List, [], length, length-append, drop, zero, suc, filter, filter-append, refl, ap, sym, ◌∙◌, subst, arith, inl, inr, ⊎_elim, append-nil, append_assoc, Option, Some, None, All-tail, All-nil, All-cons, Chronicle, Cluster, Event, Frame, PlainLink, PlainStream, PlainWorld, Readable}
use Rattle.transcript_law.proofs.balance.Measures.{frames_back, spelled}
use Rattle.transcript_law.proofs.invariant.Agreement.{Handing, LinkAgrees, is_state_answer}
use Rattle.transcript_law.proofs.links.Takes.{DownLeft, NoneTaken, OwnTaken, PendTaken}
use Rattle.transcript_law.proofs.noted.{Downing.{DownCame, ObeyedNext, ObeyedNone, owns_at, pends_at}, Groups.{dial_at}, Moments.{Moment, Stands, answers_at, gives_at, last_at}, Staying.{IsNoAnswer}}
use Rattle.transcript_law.specs.TakeoverNotes.{turns_consumer}

-- ---- what was written

-- the frames behind others are read as those are
readable_behind : (xs ys : List Frame) → All Readable (xs ++ ys) → All Readable ys
readable_behind [] ys good = good
readable_behind (x ∷ xs) ys good = readable_behind xs ys (All-tail Readable x (xs ++ ys) good)

none_dropped : (n : ℕ) → ◌≡◌ {A = List ℕ} (drop n []) []
none_dropped zero = refl
none_dropped (suc n) = refl

none_left : left_of [] ≡ []
unfolding left_of
none_left = none_dropped _

-- more bytes behind whole frames are whole frames, where all together are
pub record Wrote (xs ys : List Frame) (out : List ℕ) : Type 0 where
  pub more : List Frame
  pub joined : ys ≡ xs ++ more
  pub out_is : out ≡ spelled more
  pub good : All Readable more

wrote_of : (xs ys : List Frame) (out : List ℕ) → All Readable xs → All Readable ys → spelled xs ++ out ≡ spelled ys → Wrote xs ys out
wrote_of xs ys out good_xs good_ys e =
    let p : Parted ys (spelled xs) out = parted (spelled xs) out ys good_ys e in
    let joined : ys ≡ xs ++ p.later = p.joined ∙ ap (λ fs. fs ++ p.later) (frames_back xs good_xs) in
    let left : left_of (spelled xs) ≡ [] = ap left_of (sym (append-nil (spelled xs))) ∙ left-spellings xs [] good_xs ∙ none_left in
    record {
      more = p.later;
      joined = joined;
      out_is = sym (ap (λ bs. bs ++ out) left) ∙ p.behind;
      good = readable_behind xs p.later (subst (All Readable) joined good_ys);
    }

-- ---- answers to states among it

-- how many are on their way, by the step and by what was told last
abbrev count_at : GiveStep → Option TakeStep → ℕ
count_at AwaitPending (Some Pend) = 1
count_at AwaitActive (Some Own) = 1
count_at step last = 0

abbrev count_in : Option GiveUp → Option TakeStep → ℕ
count_in None last = 0
count_in (Some g) last = count_at g.step last

answers_count : (o : ℕ) (takeover : Bool) (m : Moment) → length (answers_at o m) ≡ count_in (gives_at takeover m) (last_at m)
answers_count o true (Moment.Follows Handing.Unstated) = refl
answers_count o false (Moment.Follows Handing.Unstated) = refl
answers_count o takeover (Moment.Follows Handing.Offered) = refl
answers_count o takeover (Moment.Follows Handing.Pended) = refl
answers_count o takeover (Moment.Follows Handing.Due) = refl
answers_count o takeover (Moment.Follows Handing.Ceded) = refl
answers_count o takeover (Moment.Follows Handing.Stated) = refl
answers_count o takeover (Moment.Owns true) = refl
answers_count o takeover (Moment.Owns false) = refl

-- among some frames there is none, or one
none_among : (fs : List Frame) → length (filter is_state_answer fs) ≡ 0 → All IsNoAnswer fs
none_among [] e = All-nil IsNoAnswer
none_among (f ∷ fs) e = by (is_state_answer f) refl e (none_among fs)
  where
    by : (b : Bool) → is_state_answer f ≡ b → length (if b then f ∷ filter is_state_answer fs else filter is_state_answer fs) ≡ 0 → (length (filter is_state_answer fs) ≡ 0 → All IsNoAnswer fs) → All IsNoAnswer (f ∷ fs)
    by true q z later = absurd (omega (arith, z))
    by false q z later = All-cons IsNoAnswer f fs q (later z)

record OneAmong (fs : List Frame) : Type 0 where
  before : List Frame
  answer : Frame
  behind : List Frame
  is_answer : is_state_answer answer ≡ true
  parts : fs ≡ before ++ answer ∷ behind
  none : All IsNoAnswer before

one_among : (fs : List Frame) → length (filter is_state_answer fs) ≡ 1 → OneAmong fs
one_among [] e = absurd (omega (arith, e))
one_among (f ∷ fs) e = by (is_state_answer f) refl e (one_among fs)
  where
    by : (b : Bool) → is_state_answer f ≡ b → length (if b then f ∷ filter is_state_answer fs else filter is_state_answer fs) ≡ 1 → (length (filter is_state_answer fs) ≡ 1 → OneAmong fs) → OneAmong (f ∷ fs)
    by true q z later = record { before = []; answer = f; behind = fs; is_answer = q; parts = refl; none = All-nil IsNoAnswer }
    by false q z later = let x = later z in record {
      before = f ∷ x.before;
      answer = x.answer;
      behind = x.behind;
      is_answer = x.is_answer;
      parts = ap (λ ys. f ∷ ys) x.parts;
      none = All-cons IsNoAnswer f x.before q x.none;
    }

-- ---- whether a state was obeyed

module _ (r : Chronicle) (lines : List Event) (link link' : PlainLink) (d : DownLeft r lines link link') (more : List Frame) (good : All Readable more) (out_is : d.out ≡ spelled more) (s : PlainStream) (y : Stands link s) (x : Stands link' s) where
  abbrev takeover : Bool
  takeover = link.consumer.dialed.takeover

  abbrev turns : Bool
  turns = turns_consumer (Some (dial_at link)) lines

  bytes : spelled y.asked ++ d.out ≡ spelled x.asked
  bytes = ap (λ bs. bs ++ d.out) (sym y.wrote) ∙ append_assoc link.up_heard link.up d.out ∙ (λ i. sym d.heard i ++ sym d.up i) ∙ x.wrote

  wrote : Wrote y.asked x.asked d.out
  wrote = wrote_of y.asked x.asked d.out y.readable x.readable bytes

  same : wrote.more ≡ more
  same = sym (frames_back wrote.more wrote.good) ∙ ap frames_in (sym wrote.out_is ∙ out_is) ∙ frames_back more good

  counts : length (filter is_state_answer x.asked) ≡ length (filter is_state_answer y.asked) + length (filter is_state_answer more)
  counts = ap (λ fs. length (filter is_state_answer fs)) (wrote.joined ∙ ap (λ fs. y.asked ++ fs) same) ∙ ap (λ (fs : List Frame). length fs) (filter-append is_state_answer y.asked more)
      ∙ length-append (filter is_state_answer y.asked) (filter is_state_answer more)

  gives_same : gives_at takeover y.moment ≡ gives_at takeover x.moment
  gives_same = sym y.gives ∙ x.gives ∙ ap (λ q. gives_at q.takeover x.moment) d.dialed

  before : length (filter is_state_answer y.asked) ≡ count_in (gives_at takeover y.moment) (last_at y.moment)
  before = ap (λ (fs : List Frame). length fs) y.answers ∙ answers_count link.consumer.asked takeover y.moment

  after : length (filter is_state_answer x.asked) ≡ count_in (gives_at takeover x.moment) (last_at x.moment)
  after = ap (λ (fs : List Frame). length fs) x.answers ∙ answers_count link'.consumer.asked takeover x.moment

  taken_none : NoneTaken link.consumer.dialed link.consumer.taking link'.consumer.taking lines → ObeyedNone link link' more turns
  taken_none n =
      let lasts : last_at x.moment ≡ last_at y.moment = sym x.last ∙ ap (λ (t : TakeOver). t.last) n.0 ∙ y.last in
      let level : count_in (gives_at takeover x.moment) (last_at x.moment) ≡ count_in (gives_at takeover y.moment) (last_at y.moment) = λ i. count_in (sym gives_same i) (lasts i) in
      record { taking = n.0; none = none_among more (omega (arith, counts, before, after, level)); turned = n.1 }

  -- one answer was written
  next : length (filter is_state_answer y.asked) ≡ 0 → count_in (gives_at takeover x.moment) (last_at x.moment) ≡ 1 → OneAmong more
  next none one = one_among more (omega (arith, counts, after, none, one))

  taken_pend : PendTaken r link.consumer.dialed link.consumer.taking link'.consumer.taking → ObeyedNext link link' more turns
  taken_pend p =
      let at = pends_at link.consumer.asked takeover y.moment x.moment gives_same (sym y.last ∙ p.0) (sym x.last ∙ p.1) in
      let one = next (ap (λ (fs : List Frame). length fs) (y.answers ∙ at.1)) (λ i. count_in ((sym gives_same ∙ at.0) i) ((sym x.last ∙ p.1) i)) in
      record { next = inl (p.0, p.1); before = one.before; behind = one.behind; answer = one.answer; is_answer = one.is_answer; wrote_is = one.parts; none_before = one.none }

  taken_own : OwnTaken link.consumer.dialed link.consumer.taking link'.consumer.taking lines → ObeyedNext link link' more turns
  taken_own p =
      let at = owns_at link.consumer.asked takeover y.moment x.moment gives_same (sym y.last ∙ p.0) (sym x.last ∙ p.1) in
      let one = next (ap (λ (fs : List Frame). length fs) (y.answers ∙ at.1)) (λ i. count_in ((sym gives_same ∙ at.0) i) ((sym x.last ∙ p.1) i)) in
      record { next = inr (p.0, p.1, p.2); before = one.before; behind = one.behind; answer = one.answer; is_answer = one.is_answer; wrote_is = one.parts; none_before = one.none }

  obeyed : ObeyedNone link link' more turns ⊎ ObeyedNext link link' more turns
  obeyed = ⊎_elim (λ t. ⊎_elim (λ n. inl (taken_none n)) (λ p. inr (taken_pend p)) t) (λ o. inr (taken_own o)) d.takes

-- so the link went on
pub link_went : (w w' : PlainWorld) (r r' : Chronicle) (k k' : Cluster) (lines : List Event) (link link' : PlainLink) → DownLeft r lines link link' → LinkAgrees w r k link [] [] → LinkAgrees w' r' k' link' [] [] → DownCame lines link link'
link_went w w' r r' k k' lines link link' d b a =
    let wrote : Wrote b.talk.asked a.talk.asked d.out = wrote_of b.talk.asked a.talk.asked d.out b.talk.ups.readable a.talk.ups.readable
    (ap (λ bs. bs ++ d.out) (ap spelled b.talk.ups.joined ∙ sym b.talk.ups.bytes) ∙ append_assoc link.up_heard link.up d.out ∙ (λ i. sym d.heard i ++ sym d.up i) ∙ a.talk.ups.bytes ∙ ap spelled (sym a.talk.ups.joined)) in
    record {
      server = d.server;
      dialed = d.dialed;
      heard = d.heard;
      wrote = wrote.more;
      good = wrote.good;
      up = d.up ∙ ap (λ bs. link.up ++ bs) wrote.out_is;
      obeyed = λ s y x. obeyed r lines link link' d wrote.more wrote.good wrote.out_is s y x;
    }

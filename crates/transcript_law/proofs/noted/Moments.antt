-- where the handover of a link's stream stands, by its step, by what its consumer was told last, and by the answer that is on its way up
use Rattle.std.specs.Prelude.{◌≡◌, ◌<◌, ◌≤◌, ◌+◌, ◌-◌, ◌∷◌, ◌++◌, ◌⊎◌, if◌then◌else◌}
use Rattle.std.specs.List.{All}
use Rattle.mcbp_frame.specs.declared.frame.TheConstants.{HEADER_LEN}
use Rattle.takeover.specs.GivingUp.{new_give_up}
use Rattle.takeover.specs.declared.give_up.GiveStep.{GiveStep}
use Rattle.takeover.specs.declared.give_up.GiveStep.TheVariants.{AwaitActive, AwaitPending, End, SendAll, SendRest, Yield}
use Rattle.takeover.specs.declared.give_up.GiveUp.{GiveUp}
use Rattle.takeover.specs.declared.take_over.TakeOver.{TakeOver}
use Rattle.takeover.specs.declared.take_over.TakeStep.{TakeStep}
use Rattle.takeover.specs.declared.take_over.TakeStep.TheVariants.{Own, Pend}
use Rattle.transcript_law.proofs.Words.{ℕ, Bool, true, false, List, [], length, filter, concat, concat-append, map, map-append, refl, ap, sym, ◌∙◌, subst, arith, inl, inr, append_assoc, length-append, filter-append, Option, Some, None, Chronicle, Cluster, Frame, Granted, Member, Plain, PlainConsumer, PlainLink, PlainProducer, PlainStream, PlainWorld, Readable, Role, frames_in, spelling}
use Rattle.mcbp_frame.proofs.Cases.{length-spelling}
use Rattle.mcbp_frame.specs.Frames.{body_size}
use Rattle.transcript_law.proofs.balance.Measures.{frames_back, spelled}
use Rattle.transcript_law.proofs.invariant.Agreement.{EndsStand, Handing, LinkAgrees, Wants, answers_in, gives_in, heir_answers, heir_step, is_state_answer, kept_stream, state_answer, taken_in}
use Rattle.transcript_law.proofs.noted.Known.{ComesUp, behind_answer}

-- its consumer's vBucket follows, or took its branch over, and that is answered or not
pub data Moment : Type 0 where
  Follows : Handing → Moment
  Owns : Bool → Moment

abbrev pub gives_at : Bool → Moment → Option GiveUp
gives_at takeover (Moment.Follows h) = gives_in takeover h
gives_at takeover (Moment.Owns answered) = Some (heir_step answered)

abbrev pub last_at : Moment → Option TakeStep
last_at (Moment.Follows h) = (taken_in h).last
last_at (Moment.Owns answered) = Some Own

abbrev pub answers_at : ℕ → Moment → List Frame
answers_at o (Moment.Follows h) = answers_in o h
answers_at o (Moment.Owns answered) = heir_answers o answered

-- of a link that has this stream alone, and of the frames on its way up
pub record Stands (link : PlainLink) (s : PlainStream) : Type 0 where
  pub moment : Moment
  pub gives : s.gives ≡ gives_at link.consumer.dialed.takeover moment
  pub last : link.consumer.taking.last ≡ last_at moment
  pub alone : link.server.streams ≡ s ∷ []
  pub asked : List Frame
  pub readable : All Readable asked
  pub wrote : link.up_heard ++ link.up ≡ spelled asked
  pub answers : filter is_state_answer asked ≡ answers_at link.consumer.asked moment

kept_is : (over : Bool) (stream s : PlainStream) (more : List PlainStream) → s ∷ more ≡ kept_stream over stream → (stream ≡ s) × (s ∷ more ≡ s ∷ [])
kept_is true stream s more e = cc
kept_is false stream s more e = let same : stream ≡ s = cc in (same, e ∙ ap (λ t. t ∷ []) same)

module _ (link : PlainLink) (s : PlainStream) (more : List PlainStream) (has : link.server.streams ≡ s ∷ more) (asked : List Frame) (readable : All Readable asked) (wrote : link.up_heard ++ link.up ≡ spelled asked) where
  ends_at : (fv : Wants) (kn : Member) (pv : Option Plain) (leader : Member) (g : Option Granted) (said : Option Role) (point : Option ℕ) (down : List Frame) → EndsStand fv kn pv leader g said point link.server link.consumer asked down → Stands link s
  ends_at fv kn pv leader g said point down (EndsStand.IsAsking ask none x) = let z : [] ≡ s ∷ more = sym x.no_stream ∙ has in cc
  ends_at fv kn pv leader g said point down (EndsStand.IsRefusedYet none x) = let z : [] ≡ s ∷ more = sym x.no_stream ∙ has in cc
  ends_at fv kn pv leader g said point down (EndsStand.IsStreaming x is) =
      let k = kept_is x.granted_is.over x.serving.stream s more (sym has ∙ x.serving.stream_is) in record {
        moment = Moment.Follows x.serving.handing;
        gives = ap (λ (t : PlainStream). t.gives) (sym k.0) ∙ x.serving.gives_is;
        last = ap (λ (t : TakeOver). t.last) x.taking.taken_is;
        alone = has ∙ k.1;
        asked = asked;
        readable = readable;
        wrote = wrote;
        answers = x.serving.acks.answers_are;
      }
  ends_at fv kn pv leader g said point down (EndsStand.IsHeir x is) =
      let k = kept_is x.granted_is.over x.stream s more (sym has ∙ x.stream_is) in record {
        moment = Moment.Owns x.answered;
        gives = ap (λ (t : PlainStream). t.gives) (sym k.0) ∙ x.gives_is;
        last = ap (λ (t : TakeOver). t.last) x.owns;
        alone = has ∙ k.1;
        asked = asked;
        readable = readable;
        wrote = wrote;
        answers = x.acks.answers_are;
      }

pub stands_of : (w : PlainWorld) (r : Chronicle) (c : Cluster) (link : PlainLink) → LinkAgrees w r c link [] [] → (s : PlainStream) (more : List PlainStream) → link.server.streams ≡ s ∷ more → Stands link s
stands_of w r c link a s more has = ends_at link s more has a.talk.asked a.talk.ups.readable (a.talk.ups.bytes ∙ ap spelled (sym a.talk.ups.joined)) _ _ _ _ _ _ _ _ a.talk.stands

-- its frames are those in the bytes on their way up
pub asked_is : (link : PlainLink) (s : PlainStream) (x : Stands link s) → frames_in (link.up_heard ++ link.up) ≡ x.asked
asked_is link s x = ap frames_in x.wrote ∙ frames_back x.asked x.readable

-- ---- an answer that is on its way

-- the stream waits, and its consumer did what the state asks for
abbrev pub IsDoneIn : GiveStep → Option TakeStep → Type 0
IsDoneIn AwaitPending (Some Pend) = Unit {0}
IsDoneIn AwaitActive (Some Own) = Unit {0}
IsDoneIn step last = ⊥

abbrev pub IsDone : Option GiveUp → Option TakeStep → Type 0
IsDone None last = ⊥
IsDone (Some g) last = IsDoneIn g.step last

-- then the answer is on its way up
pub done_answers : (o : ℕ) (takeover : Bool) (m : Moment) → IsDone (gives_at takeover m) (last_at m) → answers_at o m ≡ state_answer o ∷ []
done_answers o true (Moment.Follows Handing.Unstated) d = absurd d
done_answers o false (Moment.Follows Handing.Unstated) d = absurd d
done_answers o takeover (Moment.Follows Handing.Offered) d = absurd d
done_answers o takeover (Moment.Follows Handing.Pended) d = refl
done_answers o takeover (Moment.Follows Handing.Due) d = absurd d
done_answers o takeover (Moment.Follows Handing.Ceded) d = absurd d
done_answers o takeover (Moment.Follows Handing.Stated) d = absurd d
done_answers o takeover (Moment.Owns true) d = absurd d
done_answers o takeover (Moment.Owns false) d = refl

-- once it came, none is
abbrev pub HasComeIn : GiveStep → Type 0
HasComeIn Yield = Unit {0}
HasComeIn End = Unit {0}
HasComeIn step = ⊥

abbrev pub HasCome : Option GiveUp → Type 0
HasCome None = ⊥
HasCome (Some g) = HasComeIn g.step

pub come_answers : (o : ℕ) (takeover : Bool) (m : Moment) → HasCome (gives_at takeover m) → answers_at o m ≡ []
come_answers o true (Moment.Follows Handing.Unstated) d = absurd d
come_answers o false (Moment.Follows Handing.Unstated) d = absurd d
come_answers o takeover (Moment.Follows Handing.Offered) d = absurd d
come_answers o takeover (Moment.Follows Handing.Pended) d = absurd d
come_answers o takeover (Moment.Follows Handing.Due) d = refl
come_answers o takeover (Moment.Follows Handing.Ceded) d = absurd d
come_answers o takeover (Moment.Follows Handing.Stated) d = absurd d
come_answers o takeover (Moment.Owns true) d = refl
come_answers o takeover (Moment.Owns false) d = absurd d

-- the step alone
abbrev pub step_of : Option GiveUp → Option GiveStep
step_of None = None
step_of (Some g) = Some g.step

-- what its consumer did by then
pub yield_last : (takeover : Bool) (m : Moment) → gives_at takeover m ≡ Some (record { step = Yield }) → last_at m ≡ Some Pend
yield_last takeover m e = by takeover m (ap step_of e)
  where
    by : (takeover : Bool) (m : Moment) → step_of (gives_at takeover m) ≡ Some Yield → last_at m ≡ Some Pend
    by true (Moment.Follows Handing.Unstated) e = let z : Some SendAll ≡ Some Yield = e in cc
    by false (Moment.Follows Handing.Unstated) e = cc
    by takeover (Moment.Follows Handing.Offered) e = cc
    by takeover (Moment.Follows Handing.Pended) e = refl
    by takeover (Moment.Follows Handing.Due) e = refl
    by takeover (Moment.Follows Handing.Ceded) e = refl
    by takeover (Moment.Follows Handing.Stated) e = refl
    by takeover (Moment.Owns true) e = let z : Some End ≡ Some Yield = e in cc
    by takeover (Moment.Owns false) e = let z : Some AwaitActive ≡ Some Yield = e in cc

pub end_last : (takeover : Bool) (m : Moment) → gives_at takeover m ≡ Some (record { step = End }) → last_at m ≡ Some Own
end_last takeover m e = by takeover m (ap step_of e)
  where
    by : (takeover : Bool) (m : Moment) → step_of (gives_at takeover m) ≡ Some End → last_at m ≡ Some Own
    by true (Moment.Follows Handing.Unstated) e = let z : Some SendAll ≡ Some End = e in cc
    by false (Moment.Follows Handing.Unstated) e = cc
    by takeover (Moment.Follows Handing.Offered) e = cc
    by takeover (Moment.Follows Handing.Pended) e = cc
    by takeover (Moment.Follows Handing.Due) e = cc
    by takeover (Moment.Follows Handing.Ceded) e = cc
    by takeover (Moment.Follows Handing.Stated) e = cc
    by takeover (Moment.Owns answered) e = refl

-- ---- frames that came up

pub spelled_more : (xs ys : List Frame) → length (spelled (xs ++ ys)) ≡ length (spelled xs) + length (spelled ys)
spelled_more xs ys = ap (λ fs. length (concat fs)) (map-append spelling xs ys) ∙ ap (λ (l : List ℕ). length l) (concat-append (map spelling xs) (map spelling ys)) ∙ length-append (spelled xs) (spelled ys)

-- behind frames of which none is an answer the first one is the first one
pub skipped : (took rest : List Frame) → filter is_state_answer took ≡ [] → behind_answer (took ++ rest) ≡ behind_answer rest
skipped [] rest none = refl
skipped (f ∷ took) rest none = by (is_state_answer f) refl none (skipped took rest)
  where
    by : (b : Bool) → is_state_answer f ≡ b → (if b then f ∷ filter is_state_answer took else filter is_state_answer took) ≡ [] → (filter is_state_answer took ≡ [] → behind_answer (took ++ rest) ≡ behind_answer rest)
        → (if b then took ++ rest else behind_answer (took ++ rest)) ≡ behind_answer rest
    by true e z later = cc
    by false e z later = later z

-- where one is among them, all the others are behind it
pub passed : (took rest : List Frame) → (filter is_state_answer took ≡ [] → ⊥) → length (spelled rest) ≤ length (spelled (behind_answer (took ++ rest)))
passed [] rest some = absurd (some refl)
passed (f ∷ took) rest some = by (is_state_answer f) some (passed took rest)
  where
    by : (b : Bool) → ((if b then f ∷ filter is_state_answer took else filter is_state_answer took) ≡ [] → ⊥) → ((filter is_state_answer took ≡ [] → ⊥) → length (spelled rest) ≤ length (spelled (behind_answer (took ++ rest))))
        → length (spelled rest) ≤ length (spelled (if b then took ++ rest else behind_answer (took ++ rest)))
    by true s later = let m = spelled_more took rest in omega (arith, m)
    by false s later = later s

-- one answer in all, and it is left over
pub left_over : (took rest : List Frame) (a : Frame) → filter is_state_answer (took ++ rest) ≡ a ∷ [] → filter is_state_answer rest ≡ a ∷ [] → filter is_state_answer took ≡ []
left_over took rest a all left = by (filter is_state_answer took) (sym (filter-append is_state_answer took rest ∙ ap (λ fs. filter is_state_answer took ++ fs) left) ∙ all)
  where
    by : (fs : List Frame) → fs ++ (a ∷ []) ≡ a ∷ [] → fs ≡ []
    by [] e = refl
    by (f ∷ fs) e = let n : length (f ∷ (fs ++ (a ∷ []))) ≡ 1 = ap (λ (l : List Frame). length l) e in let m = length-append fs (a ∷ []) in absurd (omega (arith, n, m))

-- or it came
pub come_along : (took rest : List Frame) (a : Frame) → filter is_state_answer (took ++ rest) ≡ a ∷ [] → filter is_state_answer rest ≡ [] → filter is_state_answer took ≡ [] → ⊥
come_along took rest a all left none = let z : [] ≡ a ∷ [] = sym (filter-append is_state_answer took rest ∙ (λ i. none i ++ left i)) ∙ all in cc

-- ---- bytes that were moved up

module _ (y x : PlainLink) (n : ℕ) (took : List Frame) (frames : frames_in (y.up_heard ++ y.up) ≡ took ++ frames_in (x.up_heard ++ x.up)) (fewer : length y.up ≡ n + length x.up) where
  abbrev pub rest : List Frame
  rest = frames_in (x.up_heard ++ x.up)

  -- the answer is on its way yet
  pub comes_later : (moved : ℕ) → filter is_state_answer took ≡ [] → ComesUp moved y → ComesUp (moved + n) x
  comes_later moved none c =
      let same : length (spelled (behind_answer (frames_in (y.up_heard ++ y.up)))) ≡ length (spelled (behind_answer rest)) = ap (λ fs. length (spelled (behind_answer fs))) frames ∙ ap (λ fs. length (spelled fs)) (skipped took rest none) in
      omega (arith, c, same, fewer)

  -- it came
  pub came : (moved : ℕ) → (filter is_state_answer took ≡ [] → ⊥) → x.up_heard ++ x.up ≡ spelled rest → ComesUp moved y → HEADER_LEN ≤ moved + n
  came moved some wrote c =
      let same : length (spelled (behind_answer (frames_in (y.up_heard ++ y.up)))) ≡ length (spelled (behind_answer (took ++ rest))) = ap (λ fs. length (spelled (behind_answer fs))) frames in
      let p = passed took rest some in
      let all : length x.up_heard + length x.up ≡ length (spelled rest) = sym (length-append x.up_heard x.up) ∙ ap (λ (l : List ℕ). length l) wrote in
      omega (arith, c, same, fewer, p, all)

-- an answer that is written behind other frames, and others behind it
pub written_answer : (y x : PlainLink) (moved : ℕ) (before more : List Frame) (a : Frame) → is_state_answer a ≡ true → filter is_state_answer (frames_in (y.up_heard ++ y.up) ++ before) ≡ []
    → frames_in (x.up_heard ++ x.up) ≡ (frames_in (y.up_heard ++ y.up) ++ before) ++ a ∷ more → x.up ≡ y.up ++ spelled (before ++ a ∷ more) → ComesUp moved x
written_answer y x moved before more a is none frames up =
    let front : List Frame = frames_in (y.up_heard ++ y.up) ++ before in
    let same : length (spelled (behind_answer (frames_in (x.up_heard ++ x.up)))) ≡ length (spelled more)
    = ap (λ fs. length (spelled (behind_answer fs))) frames ∙ ap (λ fs. length (spelled fs)) (skipped front (a ∷ more) none) ∙ ap (λ b. length (spelled (if b then more else behind_answer more))) is in
    let long : length x.up ≡ length y.up + length (spelled (before ++ a ∷ more)) = ap (λ (l : List ℕ). length l) up ∙ length-append y.up (spelled (before ++ a ∷ more)) in
    let parts = spelled_more before (a ∷ more) in
    let one : length (spelled (a ∷ more)) ≡ length (spelling a) + length (spelled more) = length-append (spelling a) (spelled more) in
    let h : length (spelling a) ≡ 24 + body_size a = length-spelling a in
    omega (arith, same, long, parts, one, h)

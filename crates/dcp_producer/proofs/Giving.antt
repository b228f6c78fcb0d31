-- which vBuckets are given up in front of a pull, and what answers to states do
use Rattle.std.proofs.Common.{◌≡◌, ◌⊎◌, ◌<◌, ℕ, Bool, true, false, List, [], ◌∷◌, ◌++◌, length, map, refl, sym, ap, ◌∙◌, subst, inl, inr, append-nil, append_assoc, arith, Option, Some, None}
use Rattle.std.specs.Prelude.{if◌then◌else◌, ◌==◌, ◌&&◌, not, nat_le, nat_lt}
use Rattle.std.specs.List.{All, flat_map}
use Rattle.std.specs.Option.{option_map}
use Rattle.std.proofs.lemmas.Bool.{eqb-true, false≢true}
use Rattle.std.proofs.lemmas.Bool.Decides.{nat_tests}
use Rattle.std.proofs.lemmas.List.Elements.{All-head, All-tail, All-nil, All-cons}
use Rattle.mcbp_dcp.specs.DcpFrames.{dcp_frame}
use Rattle.mcbp_dcp.specs.declared.message.DcpMsg.TheVariants as msg
use Rattle.mcbp_frame.specs.declared.frame.Frame.{Frame}
use Rattle.mcbp_frame.specs.declared.frame.TheConstants.{RESPONSE}
use Rattle.takeover.specs.Laws.{number}
use Rattle.takeover.specs.GivingUp.{answered, behind_answer, done}
use Rattle.takeover.specs.declared.give_up.GiveStep.{GiveStep}
use Rattle.takeover.specs.declared.give_up.GiveStep.TheVariants as step
use Rattle.takeover.specs.declared.give_up.GiveUp.{GiveUp}
use Rattle.vb_calls.specs.declared.calls.VbAnswer.{VbAnswer}
use Rattle.vb_calls.specs.declared.calls.VbAnswer.TheVariants as answer
use Rattle.vb_calls.specs.declared.calls.VbCall.TheVariants as call
use Rattle.vb_calls.specs.declared.calls.VbReply.{VbReply}
use Rattle.vb_calls.specs.Programs.{Always, AnyCall, Prog, Done, Call, Made, Told, bind, each}
use Rattle.vb_calls.proofs.Binds.{fold_bind}
use Rattle.flow_control.specs.Windows.{is_open}
use Rattle.dcp_producer.specs.declared.yields.Yielded.{Yielded}
use Rattle.dcp_producer.specs.Ends.{IsBehind, IsSaid}
use Rattle.dcp_producer.specs.Giving.{Given, Yields, all_given, behind_yield, given_of, given_up, is_due, is_yield, none_given, one_given, told_as, told_by, with_given, with_told, yields}
use Rattle.dcp_producer.specs.Having.{IsSound, YieldsSound}
use Rattle.dcp_producer.specs.Holding.{IsShut}
use Rattle.dcp_producer.specs.Producers.{PlainStream, PlainProducer, Served}
use Rattle.dcp_producer.specs.Serving.{frame_answered, heard}
use Rattle.dcp_producer.specs.Takeovers.{Asked, Awaits, HearEach, HearsSo, IsDue, NoneAwaits, YieldsBy, YieldsInOrder, YieldsSo}
use Rattle.dcp_producer.specs.Wanting.{AllPersist, Persists}
use Rattle.dcp_producer.proofs.Persisting.{persists_itself}
use Rattle.dcp_producer.proofs.Pulling.{shut, shut_not_open}
use Rattle.dcp_producer.proofs.Sound.{sound_persists}
use Rattle.dcp_producer.proofs.Walking.{always_told}
use Rattle.dcp_producer.proofs.Weighing.{taken_heard}

-- ---- a stream of which the vBucket is to be given up

yield_number : (s : GiveStep) → number s ≡ 4 → is_yield s ≡ true
yield_number step.SendAll is = absurd (omega (arith, is))
yield_number step.SendPending is = absurd (omega (arith, is))
yield_number step.AwaitPending is = absurd (omega (arith, is))
yield_number step.Yield is = refl
yield_number step.SendRest is = absurd (omega (arith, is))
yield_number step.SendActive is = absurd (omega (arith, is))
yield_number step.AwaitActive is = absurd (omega (arith, is))
yield_number step.End is = absurd (omega (arith, is))

yield_is : (s : GiveStep) → is_yield s ≡ true → s ≡ step.Yield
yield_is step.SendAll is = absurd (false≢true is)
yield_is step.SendPending is = absurd (false≢true is)
yield_is step.AwaitPending is = absurd (false≢true is)
yield_is step.Yield is = refl
yield_is step.SendRest is = absurd (false≢true is)
yield_is step.SendActive is = absurd (false≢true is)
yield_is step.AwaitActive is = absurd (false≢true is)
yield_is step.End is = absurd (false≢true is)

module _ (x : PlainStream) where
  due_tested : IsDue x → is_due x ≡ true
  due_tested due =
      let (g, gives, is) = due.fourth in
      let behind = due.behind in
      let one : yields x.gives ≡ true = ap yields gives ∙ yield_number g.step is in
      let two : nat_le (length x.items) x.next ≡ true = grind (arith, nat_tests, behind) in
      λ i. one i && two i && not (due.alive i)

  yields_at : (o : Option GiveUp) → x.gives ≡ o → yields o ≡ true → (g : GiveUp) × (x.gives ≡ Some g) × (g.step ≡ step.Yield)
  yields_at None gives is = absurd (false≢true is)
  yields_at (Some g) gives is = (g, gives, yield_is g.step is)

  test_due : is_due x ≡ true → (g : GiveUp) × (x.gives ≡ Some g) × (g.step ≡ step.Yield) × IsBehind x × (x.ended ≡ false)
  test_due is = by (yields x.gives) (nat_le (length x.items) x.next) x.ended refl refl refl is
    where
      by : (y b e : Bool) → yields x.gives ≡ y → nat_le (length x.items) x.next ≡ b → x.ended ≡ e → (y && b && not e) ≡ true → (g : GiveUp) × (x.gives ≡ Some g) × (g.step ≡ step.Yield) × IsBehind x × (x.ended ≡ false)
      by true true false one two three is = let (g, gives, at_it) = yields_at x.gives refl one in (g, gives, at_it, grind (arith, nat_tests, two), three)
      by true true true one two three is = absurd (false≢true is)
      by true false false one two three is = absurd (false≢true is)
      by true false true one two three is = absurd (false≢true is)
      by false true false one two three is = absurd (false≢true is)
      by false true true one two three is = absurd (false≢true is)
      by false false false one two three is = absurd (false≢true is)
      by false false true one two three is = absurd (false≢true is)

  is_due_so : is_due x ≡ true → IsDue x
  is_due_so is = let (g, gives, at_it, behind, alive) = test_due is in record { fourth = (g, gives, ap number at_it); behind = behind; alive = alive }

-- a reply that says that a vBucket was given up, and one that does not
done_told : (v : ℕ) (reply : Option VbReply) (r : VbReply) → reply ≡ Some r → r.answer ≡ answer.Done → told_as v reply ≡ Some (record { vb = v; ended = r.ended; resolved = r.resolved })
done_told v reply r there is = ap (told_as v) there ∙ ap (told_by v r) is

none_told : (v : ℕ) (reply : Option VbReply) → (IsSaid reply answer.Done → ⊥) → told_as v reply ≡ None
none_told v None never = refl
none_told v (Some r) never = by r.answer refl
  where
    by : (a : VbAnswer) → r.answer ≡ a → told_by v r a ≡ None
    by answer.Done is = absurd (never (r, refl, is))
    by other is = refl

listed : (o : Option Yielded) (yielded : List Yielded) → with_told o yielded ≡ yielded ++ with_told o []
listed None yielded = sym (append-nil yielded)
listed (Some told) yielded = refl

-- it is the same stream
yield_persists : (x : PlainStream) (o : Option Yielded) → Persists x (behind_yield o x)
yield_persists x None = (refl, refl, refl, λ is. refl)
yield_persists x (Some told) = (refl, refl, refl, λ is. is)

-- ---- one stream after the other

told_bind : {A B : Type 0} (prog : Prog A) (k : A → Prog B) (made : List Made) (b : B) → Told (bind prog k) made b → (m : List Made) × (a : A) × (n : List Made) × (made ≡ m ++ n) × Told prog m a × Told (k a) n b
told_bind (Done a) k made b told = ([], a, made, refl, refl, told)
told_bind (Call v call next) k [] b told = absurd told
told_bind (Call v call next) k (x ∷ made) b (at_it, asked, told) =
    let (m, a, n, parts, first, second) = told_bind (next x.2) k made b told in (x ∷ m, a, n, ap (λ l. x ∷ l) parts, (at_it, asked, first), second)

-- what one turn comes to
record Came (x : PlainStream) (g : Given) (made : List Made) (g' : Given) : Type 0 where
  turn : Asked
  so : YieldsSo turn
  stood : turn.stream ≡ x
  calls : made ≡ turn.made
  streams : g'.streams ≡ g.streams ++ turn.left ∷ []
  told : g'.yielded ≡ g.yielded ++ turn.told
  same : Persists x turn.left

one_came : (x : PlainStream) (g : Given) (made : List Made) (g' : Given) → Told (one_given x g) made g' → Came x g made g'
one_came x g made g' told = by (is_due x) refl made told
  where
    yields_by : (m : Made) → is_due x ≡ true → m.0 ≡ x.vb → m.1 ≡ call.Yield x.id
        → YieldsBy (record { stream = x; made = m ∷ []; left = behind_yield (told_as x.vb m.2) x; told = with_told (told_as x.vb m.2) [] }) m.2
    yields_by m is at_it asked = record {
      made = λ i. (at_it i, asked i, m.2) ∷ [];
      done = λ r there says.
          let comes = done_told x.vb m.2 r there says in
          let goes : (behind_yield (told_as x.vb m.2) x).gives ≡ option_map done x.gives = ap (λ o. (behind_yield o x).gives) comes in
          let (g, gives, at_four, behind, alive) = test_due x is in (
            (done g, goes ∙ ap (option_map done) gives, ap (λ (s : GiveStep). number (done (record { step = s })).step) at_four),
            ap (λ o. behind_yield o x) comes ∙ (λ i. record x { gives = sym goes i }),
            ap (λ o. with_told o []) comes,
          );
      refused = λ no. let comes = none_told x.vb m.2 no in (ap (λ o. behind_yield o x) comes, ap (λ o. with_told o []) comes);
    }

    by : (b : Bool) → is_due x ≡ b → (made : List Made)
        → Told (bind (if b then Call x.vb (call.Yield x.id) (λ reply. Done (behind_yield (told_as x.vb reply) x, told_as x.vb reply)) else Done (x, None)) (λ z. Done (with_given g z))) made g' → Came x g made g'
    by false is [] comes = record {
      turn = record { stream = x; made = []; left = x; told = [] };
      so = record { due = λ due. absurd (false≢true (sym is ∙ due_tested x due)); stays = λ no. (refl, refl, refl) };
      stood = refl;
      calls = refl;
      streams = ap (λ (h : Given). h.streams) comes;
      told = ap (λ (h : Given). h.yielded) comes ∙ sym (append-nil g.yielded);
      same = persists_itself x;
    }
    by false is (m ∷ made) comes = absurd comes
    by true is [] comes = absurd comes
    by true is (m ∷ []) (at_it, asked, comes) = record {
      turn = record { stream = x; made = m ∷ []; left = behind_yield (told_as x.vb m.2) x; told = with_told (told_as x.vb m.2) [] };
      so = record { due = λ due. (m.2, yields_by m is at_it asked); stays = λ no. absurd (no (is_due_so x is)) };
      stood = refl;
      calls = refl;
      streams = ap (λ (h : Given). h.streams) comes;
      told = ap (λ (h : Given). h.yielded) comes ∙ listed (told_as x.vb m.2) g.yielded;
      same = yield_persists x (told_as x.vb m.2);
    }
    by true is (m ∷ n ∷ made) (at_it, asked, comes) = absurd comes

record AllCame (xs : List PlainStream) (g : Given) (made : List Made) (g' : Given) : Type 0 where
  turns : List Asked
  so : All YieldsSo turns
  stood : map (λ t. t.stream) turns ≡ xs
  calls : made ≡ flat_map (λ t. t.made) turns
  streams : g'.streams ≡ g.streams ++ map (λ t. t.left) turns
  told : g'.yielded ≡ g.yielded ++ flat_map (λ t. t.told) turns
  same : AllPersist xs (map (λ t. t.left) turns)

all_came : (xs : List PlainStream) (g : Given) (made : List Made) (g' : Given) → Told (each one_given xs g) made g' → AllCame xs g made g'
all_came [] g [] g' comes = record {
  turns = [];
  so = All-nil YieldsSo;
  stood = refl;
  calls = refl;
  streams = ap (λ (h : Given). h.streams) comes ∙ sym (append-nil g.streams);
  told = ap (λ (h : Given). h.yielded) comes ∙ sym (append-nil g.yielded);
  same = refl;
}
all_came [] g (m ∷ made) g' comes = absurd comes
all_came (x ∷ xs) g made g' told =
    let (m, h, n, parts, first, second) = told_bind (one_given x g) (each one_given xs) made g' (subst (λ p. Told p made g') (fold_bind one_given xs (one_given x g)) told) in
    let one = one_came x g m h first in
    let rest = all_came xs h n g' second in
    record {
      turns = one.turn ∷ rest.turns;
      so = All-cons YieldsSo one.turn rest.turns one.so rest.so;
      stood = λ i. one.stood i ∷ rest.stood i;
      calls = parts ∙ (λ i. one.calls i ++ rest.calls i);
      streams = rest.streams ∙ ap (λ ys. ys ++ map (λ (t : Asked). t.left) rest.turns) one.streams ∙ append_assoc g.streams (one.turn.left ∷ []) (map (λ (t : Asked). t.left) rest.turns);
      told = rest.told ∙ ap (λ ys. ys ++ flat_map (λ (t : Asked). t.told) rest.turns) one.told ∙ append_assoc g.yielded one.turn.told (flat_map (λ (t : Asked). t.told) rest.turns);
      same = (one.same, rest.same);
    }

module _ (k : ℕ) (end : PlainProducer) where
  given_by : Bool → Prog Yields
  given_by b = if b then all_given end else Done (record { end = end; yielded = [] })

  given_is : given_up k end ≡ given_by (nat_lt 0 k && is_open end.window)
  unfolding given_up given_by
  given_is = refl

  pub none_given_up : (k ≡ 0) ⊎ IsShut end.window → given_up k end ≡ Done (record { end = end; yielded = [] })
  unfolding given_by
  none_given_up (inl none) = given_is ∙ ap (λ n. given_by (nat_lt 0 n && is_open end.window)) none
  none_given_up (inr closed) = given_is ∙ ap (λ b. given_by (nat_lt 0 k && b)) (shut_not_open end.window closed) ∙ by (nat_lt 0 k)
    where
      by : (b : Bool) → given_by (b && false) ≡ Done (record { end = end; yielded = [] })
      by true = refl
      by false = refl

  pub yields_in_turn : (made : List Made) (came : Yields) → 0 < k → (IsShut end.window → ⊥) → Told (given_up k end) made came → YieldsInOrder end made came
  unfolding given_by
  yields_in_turn made came some free told =
      let one : nat_lt 0 k ≡ true = grind (arith, nat_tests, some) in
      let two : is_open end.window ≡ true = open_by (is_open end.window) refl in
      by (subst (λ p. Told p made came) (given_is ∙ (λ i. given_by (one i && two i))) told)
    where
      open_by : (b : Bool) → is_open end.window ≡ b → is_open end.window ≡ true
      open_by true is = is
      open_by false is = absurd (free (shut end.window is))

      by : Told (all_given end) made came → YieldsInOrder end made came
      by told =
          let (m, g, n, parts, first, second) = told_bind (each one_given end.streams none_given) (λ g. Done (given_of end g)) made came told in
          let all = all_came end.streams none_given m g first in
          last n all parts second
        where
          last : {m : List Made} {g : Given} (n : List Made) → AllCame end.streams none_given m g → made ≡ m ++ n → Told (Done (given_of end g)) n came → YieldsInOrder end made came
          last {m} {g} [] all parts comes = record {
            asked = all.turns;
            each = all.so;
            streams = all.stood;
            calls = parts ∙ append-nil m ∙ all.calls;
            left = ap (λ (y : Yields). y.end) comes ∙ (λ i. record end { streams = all.streams i });
            told = ap (λ (y : Yields). y.yielded) comes ∙ all.told;
          }
          last (x ∷ n) all parts comes = absurd comes

-- ---- the connection stays sound

module _ (k : ℕ) (end : PlainProducer) (sound : IsSound end) where
  sound_by : (b : Bool) (made : List Made) (came : Yields) → Told (if b then all_given end else Done (record { end = end; yielded = [] })) made came → IsSound came.end
  sound_by false [] came comes = subst (λ (y : Yields). IsSound y.end) (sym comes) sound
  sound_by false (m ∷ made) came comes = absurd comes
  sound_by true made came told =
      let (m, g, n, parts, first, second) = told_bind (each one_given end.streams none_given) (λ g. Done (given_of end g)) made came told in
      let all = all_came end.streams none_given m g first in
      last g n second (subst (AllPersist end.streams) (sym all.streams) all.same)
    where
      last : (g : Given) (n : List Made) → Told (Done (given_of end g)) n came → AllPersist end.streams g.streams → IsSound came.end
      last g [] comes same = subst (λ (y : Yields). IsSound y.end) (sym comes) (sound_persists end g.streams same sound)
      last g (x ∷ n) comes same = absurd comes

  pub sound_yields : Always AnyCall YieldsSound (given_up k end)
  unfolding given_up
  sound_yields = always_told YieldsSound (given_up k end) (λ made came told. sound_by (nat_lt 0 k && is_open end.window) made came told)

-- ---- answers to states

answer_goes : (s : GiveStep) → (number s ≡ 3 → number (behind_answer s) ≡ 4) × (number s ≡ 7 → number (behind_answer s) ≡ 8)
answer_goes step.SendAll = (λ is. absurd (omega (arith, is)), λ is. absurd (omega (arith, is)))
answer_goes step.SendPending = (λ is. absurd (omega (arith, is)), λ is. absurd (omega (arith, is)))
answer_goes step.AwaitPending = (λ is. refl, λ is. absurd (omega (arith, is)))
answer_goes step.Yield = (λ is. absurd (omega (arith, is)), λ is. absurd (omega (arith, is)))
answer_goes step.SendRest = (λ is. absurd (omega (arith, is)), λ is. absurd (omega (arith, is)))
answer_goes step.SendActive = (λ is. absurd (omega (arith, is)), λ is. absurd (omega (arith, is)))
answer_goes step.AwaitActive = (λ is. absurd (omega (arith, is)), λ is. refl)
answer_goes step.End = (λ is. absurd (omega (arith, is)), λ is. absurd (omega (arith, is)))

answer_stays : (s : GiveStep) → (number s ≡ 3 → ⊥) → (number s ≡ 7 → ⊥) → behind_answer s ≡ s
answer_stays step.SendAll third seventh = refl
answer_stays step.SendPending third seventh = refl
answer_stays step.AwaitPending third seventh = absurd (third refl)
answer_stays step.Yield third seventh = refl
answer_stays step.SendRest third seventh = refl
answer_stays step.SendActive third seventh = refl
answer_stays step.AwaitActive third seventh = absurd (seventh refl)
answer_stays step.End third seventh = refl

module _ (opaque : ℕ) (x : PlainStream) where
  heard_gives : x.opaque ≡ opaque → heard opaque x ≡ record x { gives = option_map answered x.gives }
  heard_gives same =
      let e : (x.opaque == opaque) ≡ true = grind (arith, nat_tests, same) in
      ap (λ b. if b then record x { gives = option_map answered x.gives } else x) e

  gives_then : x.opaque ≡ opaque → (g : GiveUp) → x.gives ≡ Some g → (heard opaque x).gives ≡ Some (answered g)
  gives_then same g gives = ap (λ (s : PlainStream). s.gives) (heard_gives same) ∙ ap (option_map answered) gives

  still : (b : Bool) → (x.opaque == opaque) ≡ b → (o : Option GiveUp) → x.gives ≡ o → (Awaits opaque x → ⊥) → (if b then record x { gives = option_map answered x.gives } else x) ≡ x
  still false differs o gives never = refl
  still true same None gives never = λ i. record x { gives = (ap (option_map answered) gives ∙ sym gives) i }
  still true same (Some g) gives never =
      let kept : behind_answer g.step ≡ g.step = answer_stays g.step (λ is. never (eqb-true x.opaque opaque same, inl (g, gives, is))) (λ is. never (eqb-true x.opaque opaque same, inr (g, gives, is))) in
      let itself : Some (answered g) ≡ Some g = λ i. Some (record { step = kept i }) in
      λ i. record x { gives = (ap (option_map answered) gives ∙ itself ∙ sym gives) i }

  pub hears_so : HearsSo opaque x (heard opaque x)
  hears_so = record {
    goes = λ waits. heard_gives waits.0 ∙ (λ i. record x { gives = (sym (ap (λ (s : PlainStream). s.gives) (heard_gives waits.0))) i });
    third = λ waits third. (answered third.0, gives_then waits.0 third.0 third.1, (answer_goes third.0.step).0 third.2);
    seventh = λ waits seventh. (answered seventh.0, gives_then waits.0 seventh.0 seventh.1, (answer_goes seventh.0.step).1 seventh.2);
    stays = λ no. still (x.opaque == opaque) refl x.gives refl no;
  }

hear_each : (opaque : ℕ) (xs : List PlainStream) → HearEach opaque xs (map (heard opaque) xs)
hear_each opaque [] = refl
hear_each opaque (x ∷ xs) = (hears_so opaque x, hear_each opaque xs)

none_hears : (opaque : ℕ) (xs : List PlainStream) → NoneAwaits opaque xs → map (heard opaque) xs ≡ xs
none_hears opaque [] none = refl
none_hears opaque (x ∷ xs) none = λ i.
    (hears_so opaque x).stays (All-head (λ (s : PlainStream). Awaits opaque s → ⊥) x xs none) i ∷ none_hears opaque xs (All-tail (λ (s : PlainStream). Awaits opaque s → ⊥) x xs none) i

pub taken_goes : (f : Frame) (s : Served) → f.magic ≡ RESPONSE → f.opcode ≡ 0x5b → f.vb_or_status ≡ 0
    → (new : List PlainStream) × HearEach f.opaque s.end.streams new × (frame_answered f s ≡ Done (record s { end = record s.end { streams = new } }))
taken_goes f s is opcode success = (map (heard f.opaque) s.end.streams, hear_each f.opaque s.end.streams, taken_heard f s is opcode success)

pub none_dropped : (f : Frame) (s : Served) → f.magic ≡ RESPONSE → f.opcode ≡ 0x5b → f.vb_or_status ≡ 0 → NoneAwaits f.opaque s.end.streams → frame_answered f s ≡ Done s
none_dropped f s is opcode success none = taken_heard f s is opcode success ∙ (λ i. Done (record s { end = record s.end { streams = none_hears f.opaque s.end.streams none i } }))

-- the answer as it is written
pub answer_goes_on : (s : Served) → (new : List PlainStream) × HearEach 0x0a0b0c0d s.end.streams new
    × (frame_answered (dcp_frame (msg.StateAnswer 0) 0x0a0b0c0d 0x0102) s ≡ Done (record s { end = record s.end { streams = new } }))
unfolding dcp_frame
answer_goes_on s = taken_goes (dcp_frame (msg.StateAnswer 0) 0x0a0b0c0d 0x0102) s refl refl refl

-- loops of turns of which each that goes on leaves less, and rests where nothing is left
use Rattle.std.proofs.Common.{◌≡◌, ◌<◌, ◌≤◌, ℕ, zero, suc, ◌+◌, arith, refl, sym, ap, ◌∙◌, subst, inl, inr, Option}
use Rattle.std.proofs.lemmas.Bool.{cases_lt}
use Rattle.vb_calls.specs.declared.calls.VbCall.{VbCall}
use Rattle.vb_calls.specs.declared.calls.VbReply.{VbReply}
use Rattle.vb_calls.specs.Jobs as job
use Rattle.vb_calls.specs.Jobs.{Job, AlwaysJob, RanJob}
use Rattle.vb_calls.specs.Shelves.{Ask, Got}
use Rattle.vb_calls.specs.Programs.{Prog, Done, Call, bind, Turn, More, Stop, go_on, repeated, Ran, Began, AnyReply, AnyCall, Always}
use Rattle.vb_calls.proofs.Binds.{bind_done, bind_assoc, bind_same}
use Rattle.vb_calls.proofs.Conduct.{always_so}
use Rattle.vb_calls.proofs.Runs.{ran_bind, began_bind, repeated_next, repeated_began, repeated_ended}

-- what holds of any answer holds of each that a program may come to
pub always_any : {A : Type 0} (answers : A → Type 0) (prog : Prog A) → ((a : A) → answers a) → Always AnyCall answers prog
always_any answers (Done a) so = so a
always_any answers (Call v call next) so = (tt, λ reply any. always_any answers (next reply) so)

-- what holds of every answer of a program holds of the one that it came to
pub ran_always : {W A : Type 0} (step : W → ℕ → VbCall → Option VbReply → W → Type 0) (answers : A → Type 0) (prog : Prog A) (old : W) (a : A) (new : W)
    → Always AnyCall answers prog → Ran step prog old a new → answers a
ran_always step answers (Done x) old a new always ran = subst answers (sym ran.0) always
ran_always step answers (Call v call next) old a new always ran = ran_always step answers (next ran.0) ran.1 a new (always.1 ran.0 tt) ran.3

-- the same of a job
pub ran_always_job : {W J A : Type 0} (step : W → ℕ → VbCall → Option VbReply → W → Type 0) (asks : J → ℕ → (ask : Ask) → Got ask → J → Type 0) (requests : ℕ → Ask → Type 0) (answers : A → Type 0) (j : Job A) (old : W) (kept : J) (a : A) (new : W) (left : J)
    → AlwaysJob AnyReply AnyCall requests answers j → RanJob step asks j old kept a new left → answers a
ran_always_job step asks requests answers (job.Ended x) old kept a new left always ran = subst answers (sym ran.0) always
ran_always_job step asks requests answers (job.Call v call next) old kept a new left always ran = ran_always_job step asks requests answers (next ran.0) ran.1 kept a new left (always.1 ran.0 tt) ran.3
ran_always_job step asks requests answers (job.Request v ask next) old kept a new left always ran = ran_always_job step asks requests answers (next ran.0) old ran.1 a new left (always.1 ran.0) ran.3

-- one turn, and then the others
first_turn : {A R : Type 0} (f : A → Prog (Turn A R)) (n : ℕ) (a : A) → repeated (suc n) f a ≡ bind (f a) (go_on (repeated n f))
first_turn {A = A} {R = R} f zero a =
    let k : Turn A R → Prog (Turn A R) = λ t. Done t in
    let so : (t : Turn A R) → k t ≡ go_on (repeated zero f) t = λ t. by t in
    sym (bind_done (f a)) ∙ bind_same (f a) k (go_on (repeated zero f)) (always_any (λ t. k t ≡ go_on (repeated zero f) t) (f a) so)
  where
    by : (t : Turn A R) → Done t ≡ go_on (repeated zero f) t
    by (More b) = refl
    by (Stop r) = refl
first_turn {A = A} {R = R} f (suc n) a =
    let k : Turn A R → Prog (Turn A R) = λ t. bind (go_on (repeated n f) t) (go_on f) in
    ap (λ p. bind p (go_on f)) (first_turn f n a) ∙ bind_assoc (f a) (go_on (repeated n f)) (go_on f)
    ∙ bind_same (f a) k (go_on (repeated (suc n) f)) (always_any (λ t. k t ≡ go_on (repeated (suc n) f) t) (f a) by)
  where
    by : (t : Turn A R) → bind (go_on (repeated n f) t) (go_on f) ≡ go_on (repeated (suc n) f) t
    by (More b) = refl
    by (Stop r) = refl

-- a turn that goes on leaves less
unfoldable pub Fewer : {A : Type 0} → (A → ℕ) → A → Turn A A → Type 0
Fewer size a (More b) = size b < size a
Fewer size a (Stop b) = Unit {0}

-- what a turn came to, and the turns behind it
unfoldable pub onward : {A : Type 0} → (A → Prog A) → Turn A A → Prog A
onward later (More a) = later a
onward later (Stop a) = Done a

-- a turn of a loop: it leaves less where it goes on, and stops at once where nothing is left
pub record Lessens {A : Type 0} (f : A → Prog (Turn A A)) (size : A → ℕ) : Type 0 where
  pub fewer : (a : A) → Always AnyCall (Fewer size a) (f a)
  pub rests : (a : A) → size a ≡ 0 → f a ≡ Done (Stop a)

-- a loop ends where its turns came to
pub record Ends {A : Type 0} (k : Turn A A → Prog A) : Type 0 where
  pub more : (a : A) → k (More a) ≡ Done a
  pub stop : (a : A) → k (Stop a) ≡ Done a

module _ {A : Type 0} (f : A → Prog (Turn A A)) (size : A → ℕ) (k : Turn A A → Prog A) (lessens : Lessens f size) (ends : Ends k) where
  -- turns go on in the same way behind one turn, where they do so with less
  same_behind : (n m : ℕ) (a : A) → ((b : A) → size b < size a → bind (repeated n f b) k ≡ bind (repeated m f b) k)
      → (t : Turn A A) → Fewer size a t → bind (go_on (repeated n f) t) k ≡ bind (go_on (repeated m f) t) k
  unfolding Fewer
  same_behind n m a again (More b) fewer = again b fewer
  same_behind n m a again (Stop b) fewer = refl

  at_rest : (n : ℕ) (a : A) → size a ≡ 0 → bind (repeated n f a) k ≡ Done a
  at_rest zero a none = ends.more a
  at_rest (suc n) a none =
      ap (λ p. bind p k) (first_turn f n a ∙ ap (λ p. bind p (go_on (repeated n f))) (lessens.rests a none)) ∙ ends.stop a

  -- any number of turns that is not below what there is does the same
  pub same_turns : (n m : ℕ) (a : A) → size a ≤ n → size a ≤ m → bind (repeated n f a) k ≡ bind (repeated m f a) k
  same_turns zero m a below above = let none : size a ≡ 0 = omega (arith, below) in at_rest zero a none ∙ sym (at_rest m a none)
  same_turns (suc n) zero a below above = let none : size a ≡ 0 = omega (arith, above) in at_rest (suc n) a none ∙ sym (at_rest zero a none)
  same_turns (suc n) (suc m) a below above =
      ap (λ p. bind p k) (first_turn f n a) ∙ bind_assoc (f a) (go_on (repeated n f)) k
      ∙ bind_same (f a) (λ t. bind (go_on (repeated n f) t) k) (λ t. bind (go_on (repeated m f) t) k)
      (always_so AnyReply AnyCall (Fewer size a) (λ t. bind (go_on (repeated n f) t) k ≡ bind (go_on (repeated m f) t) k) (f a)
      (λ t fewer. same_behind n m a (λ b less. same_turns n m b (omega (arith, less, below)) (omega (arith, less, above))) t fewer) (lessens.fewer a))
      ∙ sym (ap (λ p. bind p k) (first_turn f m a) ∙ bind_assoc (f a) (go_on (repeated m f)) k)

  -- one turn, and then all the others: of as many as there are with `many`
  pub turn_first : (many : A → ℕ) → ((a : A) → size a ≤ many a) → (a : A) → size a ≤ many a
      → bind (repeated (many a) f a) k ≡ bind (f a) (onward (λ b. bind (repeated (many b) f b) k))
  unfolding Fewer onward
  turn_first many enough a below =
      same_turns (many a) (suc (many a)) a below (omega (arith, below))
      ∙ ap (λ p. bind p k) (first_turn f (many a) a) ∙ bind_assoc (f a) (go_on (repeated (many a) f)) k
      ∙ bind_same (f a) (λ t. bind (go_on (repeated (many a) f) t) k) (onward (λ b. bind (repeated (many b) f b) k))
      (always_so AnyReply AnyCall (Fewer size a) (λ t. bind (go_on (repeated (many a) f) t) k ≡ onward (λ b. bind (repeated (many b) f b) k) t) (f a) by (lessens.fewer a))
    where
      by : (t : Turn A A) → Fewer size a t → bind (go_on (repeated (many a) f) t) k ≡ onward (λ b. bind (repeated (many b) f b) k) t
      by (More b) fewer = same_turns (many a) (many b) b (omega (arith, fewer, below)) (enough b)
      by (Stop b) fewer = ends.stop b

-- ---- in code

stopped_same : {A R : Type 0} (x y : R) → (t : Turn A R) → t ≡ Stop x → t ≡ Stop y → x ≡ y
stopped_same x y t one other = let both : Stop x ≡ Stop y = sym one ∙ other in cc

module _ {W A : Type 0} (step : W → ℕ → VbCall → Option VbReply → W → Type 0) (f : A → Prog (Turn A A)) (size : A → ℕ) (k : Turn A A → Prog A) (lessens : Lessens f size) (ends : Ends k) (a : A) (old : W) where
  -- so many turns came here
  pub record Turned (b : A) (mid : W) : Type 0 where
    pub turns : ℕ
    pub fewer : turns + size b ≤ size a
    pub ran : Ran step (repeated turns f a) old (More b) mid

  pub turned_none : Turned a old
  turned_none = record { turns = 0; fewer = omega arith; ran = (refl, refl) }

  pub turned_fewer : (b c : A) (mid new : W) → Ran step (f b) mid (More c) new → size c < size b
  unfolding Fewer
  turned_fewer b c mid new turn = ran_always step (Fewer size b) (f b) mid (More c) new (lessens.fewer b) turn

  pub turned_one : (b c : A) (mid new : W) → Turned b mid → Ran step (f b) mid (More c) new → Turned c new
  turned_one b c mid new so turn = record {
    turns = so.turns + 1;
    fewer = omega (arith, so.fewer, turned_fewer b c mid new turn);
    ran = repeated_next step f so.turns a old b mid (More c) new so.ran turn;
  }

  pub turned_all : (n : ℕ) (b c : A) (mid new : W) → size a ≤ n → Turned b mid → Ran step (f b) mid (Stop c) new → Ran step (bind (repeated n f a) k) old c new
  turned_all n b c mid new enough so turn =
      elim (cases_lt so.turns n) [
        | inl below ↦ repeated_ended step f k n so.turns a old b mid c new c new below so.ran turn (subst (λ p. Ran step p new c new) (sym (ends.stop c)) (refl, refl))
        | inr above ↦
            let none : size b ≡ 0 = omega (arith, so.fewer, enough, above) in
            let all : so.turns ≡ n = omega (arith, so.fewer, enough, above) in
            let rests : Ran step (Done (Stop b)) mid (Stop c) new = subst (λ p. Ran step p mid (Stop c) new) (lessens.rests b none) turn in
            let same : c ≡ b = stopped_same c b (Stop c) refl rests.0 in
            let end : Ran step (k (More b)) mid c new = subst (λ p. Ran step p mid c new) (sym (ends.more b)) (same, rests.1) in
            ran_bind step (repeated n f a) k old (More b) mid c new (subst (λ m. Ran step (repeated m f a) old (More b) mid) all so.ran) end
      ]

  pub turned_part : (n : ℕ) (b : A) (mid new : W) → size a ≤ n → 0 < size b → Turned b mid → Began step (f b) mid new → Began step (bind (repeated n f a) k) old new
  turned_part n b mid new enough some so turn =
      began_bind step (repeated n f a) k old new (repeated_began step f n so.turns a old b mid new (omega (arith, so.fewer, enough, some)) so.ran turn)

-- a pull in which who was quiet is passed over, beside one that asks everybody, over plain vBuckets
use Rattle.std.proofs.Common.{◌≡◌, ◌≢◌, ℕ, zero, suc, true, false, List, [], ◌∷◌, ◌++◌, refl, sym, ap, ◌∙◌, subst, inr}
use Rattle.std.specs.Prelude.{if◌then◌else◌}
use Rattle.std.specs.List.{All}
use Rattle.std.proofs.lemmas.Bool.{false≢true}
use Rattle.std.proofs.lemmas.List.Elements.{All-head, All-tail, All-nil, All-cons, All-append}
use Rattle.vb_events.specs.declared.event.StreamName.{StreamName}
use Rattle.vb_calls.specs.States.{States}
use Rattle.vb_calls.specs.Jobs.{Job, Ended, Call, Request, AlwaysJob, after_reads, bind_job, go_on_job, repeated_job}
use Rattle.vb_calls.specs.Programs.{Turn, More, Stop, AnyCall, AnyReply}
use Rattle.vb_calls.specs.Shelves.{Ask, Shelves}
use Rattle.vb_calls.proofs.JobBinds.{bind_job_assoc, bind_job_done, bind_job_same}
use Rattle.dcp_producer.specs.declared.next_frame.NextFrame.TheVariants as next
use Rattle.dcp_producer.specs.declared.next_frame.Waits.{Waits}
use Rattle.dcp_producer.specs.declared.next_frame.Waits.TheVariants as wait
use Rattle.dcp_producer.specs.Frames.{Next, next_frame}
use Rattle.dcp_producer.specs.Producers.{PlainStream}
use Rattle.dcp_producer.specs.Pulling.{QuietOnes, first_wait, is_quiet, with_quiet}
use Rattle.dcp_producer.proofs.Awake.{quiet_same, quiet_then, says_wait, wait_none, wait_turned, waits_in, waits_more}
use Rattle.dcp_producer.proofs.Stills.{IsStill, same_next, still_again}

-- ---- turns, the first one first

abbrev AnyAsk : ℕ → Ask → Type 0
AnyAsk v ask = Unit {0}

always_any : {A : Type 0} (answers : A → Type 0) (job : Job A) → ((a : A) → answers a) → AlwaysJob AnyReply AnyCall AnyAsk answers job
always_any answers (Ended a) so = so a
always_any answers (Call v call next) so = (tt, λ reply any. always_any answers (next reply) so)
always_any answers (Request v ask next) so = (tt, λ got. always_any answers (next got) so)

-- one turn, and then the others
pub first_turn : {A R : Type 0} (f : A → Job (Turn A R)) (n : ℕ) (a : A) → repeated_job (suc n) f a ≡ bind_job (f a) (go_on_job (repeated_job n f))
first_turn {A = A} {R = R} f zero a =
    let k : Turn A R → Job (Turn A R) = λ t. Ended t in
    let so : (t : Turn A R) → k t ≡ go_on_job (repeated_job zero f) t = λ t. by t in
    sym (bind_job_done (f a)) ∙ bind_job_same AnyCall AnyAsk (f a) k (go_on_job (repeated_job zero f)) (always_any (λ t. k t ≡ go_on_job (repeated_job zero f) t) (f a) so)
  where
    by : (t : Turn A R) → Ended t ≡ go_on_job (repeated_job zero f) t
    by (More b) = refl
    by (Stop r) = refl
first_turn {A = A} {R = R} f (suc n) a =
    let k : Turn A R → Job (Turn A R) = λ t. bind_job (go_on_job (repeated_job n f) t) (go_on_job f) in
    ap (λ p. bind_job p (go_on_job f)) (first_turn f n a) ∙ bind_job_assoc (f a) (go_on_job (repeated_job n f)) (go_on_job f)
    ∙ bind_job_same AnyCall AnyAsk (f a) k (go_on_job (repeated_job (suc n) f)) (always_any (λ t. k t ≡ go_on_job (repeated_job (suc n) f) t) (f a) by)
  where
    by : (t : Turn A R) → bind_job (go_on_job (repeated_job n f) t) (go_on_job f) ≡ go_on_job (repeated_job (suc n) f) t
    by (More b) = refl
    by (Stop r) = refl

-- ---- which streams of an order wait

-- what is so of all of two kinds of streams
each_so : (P Q R : PlainStream → Type 0) → ((x : PlainStream) → P x → Q x → R x) → (xs : List PlainStream) → All P xs → All Q xs → All R xs
each_so P Q R so [] p q = All-nil R
each_so P Q R so (x ∷ xs) p q = All-cons R x xs (so x (All-head P x xs p) (All-head Q x xs q)) (each_so P Q R so xs (All-tail P x xs p) (All-tail Q x xs q))

pub waits_same : (f g : PlainStream → Waits) (xs : List PlainStream) → All (λ x. f x ≡ g x) xs → waits_in f xs ≡ waits_in g xs
waits_same f g [] all = refl
waits_same f g (x ∷ xs) all = λ i. first_wait (All-head (λ (y : PlainStream). f y ≡ g y) x xs all i) (waits_same f g xs (All-tail (λ (y : PlainStream). f y ≡ g y) x xs all) i)

module _ (name : StreamName) (shelves : Shelves) where
  -- what a stream says that it waits for, over these vBuckets
  abbrev pub waits_at : States → PlainStream → Waits
  waits_at states stream = says_wait (after_reads (next_frame name stream) shelves states).1.0

  -- one that was quiet does
  abbrev pub waits_now : QuietOnes → States → PlainStream → Waits
  waits_now q states stream = if is_quiet stream.id q then waits_at states stream else wait.Nothing

  -- those that were quiet are so still, and wait for what they say
  pub record AreStill (q : QuietOnes) (states : States) (order : List PlainStream) : Type 0 where
    pub still : All (λ x. is_quiet x.id q ≡ true → IsStill name shelves x states) order
    pub waits : q.waits ≡ waits_in (waits_now q states) order

  abbrev pub Still : QuietOnes → States → PlainStream → Type 0
  Still q states x = is_quiet x.id q ≡ true → IsStill name shelves x states

  module _ (q : QuietOnes) (states : States) (x : PlainStream) (rest : List PlainStream) (are : AreStill q states (x ∷ rest)) where
    rest_still : All (Still q states) rest
    rest_still = All-tail (Still q states) x rest are.still

    pub first_still : Still q states x
    first_still = All-head (Still q states) x rest are.still

    -- one that was quiet before comes last
    pub passed_still : AreStill q states (rest ++ x ∷ [])
    passed_still = record {
      still = All-append (Still q states) rest (x ∷ []) rest_still (All-cons (Still q states) x [] first_still (All-nil (Still q states)));
      waits = are.waits ∙ wait_turned (waits_now q states x) (waits_in (waits_now q states) rest) ∙ sym (waits_more (waits_now q states) rest x);
    }

    module _ (fresh : is_quiet x.id q ≡ false) where
      rest_waits : q.waits ≡ waits_in (waits_now q states) rest
      rest_waits = are.waits ∙ ap (λ b. first_wait (if b then waits_at states x else wait.Nothing) (waits_in (waits_now q states) rest)) fresh

      module _ (states' : States) (others : All (λ y. states y.vb ≡ states' y.vb) rest) where
        left_still : All (Still q states') rest
        left_still = each_so (Still q states) (λ (y : PlainStream). states y.vb ≡ states' y.vb) (Still q states') (λ y so same quiet. still_again name shelves y states states' same (so quiet)) rest rest_still others

        left_waits : q.waits ≡ waits_in (waits_now q states') rest
        left_waits = rest_waits
            ∙ waits_same (waits_now q states) (waits_now q states') rest
            (each_so (λ (y : PlainStream). states y.vb ≡ states' y.vb) (λ (y : PlainStream). states y.vb ≡ states' y.vb) (λ (y : PlainStream). waits_now q states y ≡ waits_now q states' y)
            (λ y same same'. ap (λ (n : Next). if is_quiet y.id q then says_wait n.0 else wait.Nothing) (same_next name shelves y states states' same)) rest others others)

        -- so does one that is quiet now, also over what it left
        pub quiet_still : (waits : Waits) (left : PlainStream) → left.id ≡ x.id → after_reads (next_frame name left) shelves states' ≡ (states', (next.Quiet waits, left)) → All (λ y. y.id ≢ x.id) rest
            → AreStill (with_quiet left.id waits q) states' (rest ++ left ∷ [])
        quiet_still waits left id is others_differ =
            let q' : QuietOnes = with_quiet left.id waits q in
            let differ : All (λ (y : PlainStream). y.id ≢ left.id) rest = subst (λ n. All (λ (y : PlainStream). y.id ≢ n) rest) (sym id) others_differ in
            let same : All (λ (y : PlainStream). is_quiet y.id q' ≡ is_quiet y.id q) rest =
            each_so (λ (y : PlainStream). y.id ≢ left.id) (λ (y : PlainStream). y.id ≢ left.id) (λ (y : PlainStream). is_quiet y.id q' ≡ is_quiet y.id q) (λ y other other'. quiet_same q left.id waits y.id other) rest differ differ in
            let now : is_quiet left.id q' ≡ true = quiet_then q left.id waits left.id (inr refl) in
            let last : waits_now q' states' left ≡ waits = (λ i. if now i then says_wait (is i).1.0 else wait.Nothing) in
            record {
              still = All-append (Still q' states') rest (left ∷ [])
                  (each_so (Still q states') (λ (y : PlainStream). is_quiet y.id q' ≡ is_quiet y.id q) (Still q' states') (λ y so e quiet. so (sym e ∙ quiet)) rest left_still same)
                  (All-cons (Still q' states') left [] (λ quiet. (waits, is)) (All-nil (Still q' states')));
              waits = (λ i. first_wait (left_waits i) waits)
                  ∙ (λ i. first_wait (waits_same (waits_now q states') (waits_now q' states') rest
                  (each_so (λ (y : PlainStream). is_quiet y.id q' ≡ is_quiet y.id q) (λ (y : PlainStream). y.id ≢ left.id) (λ (y : PlainStream). waits_now q states' y ≡ waits_now q' states' y) (λ y e other. ap (λ b. if b then waits_at states' y else wait.Nothing) (sym e)) rest same differ) i) waits)
                  ∙ (λ i. first_wait (waits_in (waits_now q' states') rest) (sym last i))
                  ∙ sym (waits_more (waits_now q' states') rest left);
            }

        -- one that is over leaves the others so
        pub end_still : AreStill q states' rest
        end_still = record { still = left_still; waits = left_waits }

        -- and one that put a frame comes last
        pub put_still : (left : PlainStream) → left.id ≡ x.id → AreStill q states' (rest ++ left ∷ [])
        put_still left same =
            let awake : is_quiet left.id q ≡ false = ap (λ n. is_quiet n q) same ∙ fresh in
            record {
              still = All-append (Still q states') rest (left ∷ []) left_still
                  (All-cons (Still q states') left [] (λ quiet. absurd (false≢true (sym awake ∙ quiet))) (All-nil (Still q states')));
              waits = left_waits ∙ sym (wait_none (waits_in (waits_now q states') rest)) ∙ (λ i. first_wait (waits_in (waits_now q states') rest) (sym (ap (λ b. if b then waits_at states' left else wait.Nothing) awake) i)) ∙ sym (waits_more (waits_now q states') rest left);
            }

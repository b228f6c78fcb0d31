-- a call over seats is one turn of its vBucket's seat
use Rattle.std.proofs.Common.{◌≡◌, ◌≢◌, ℕ, ◌+◌, List, [], ◌∷◌, ◌++◌, Option, Some, None, refl, sym, ap, ◌∙◌, arith, length-append}
use Rattle.std.specs.Prelude.{◌==◌, if◌then◌else◌, length}
use Rattle.std.proofs.lemmas.Bool.{eqb-true, eq-eqb, false_from_ne_true}
use Rattle.vb_calls.specs.Plain.{plain_step}
use Rattle.vb_calls.specs.declared.calls.VbCall.{VbCall}
use Rattle.vb_calls.specs.declared.calls.VbReply.{VbReply}
use Rattle.vb_turn.specs.Laws.{TurnsAreLegal}
use Rattle.vb_turn.proofs.Learning.{turns_are_legal}
use Rattle.vbucket.specs.Highs.{high_of}
use Rattle.vbucket.specs.Rows.{row_at}
use Rattle.vbucket.specs.Stands.{StandsFor}
use Rattle.node_threads.specs.Seats.{VbView, Row, number_of, CalledVb}
use Rattle.node_threads.specs.Laws.{TookTurn, CallsAreTurns, SeatsInNumbers}

laws : TurnsAreLegal StandsFor plain_step high_of
laws = turns_are_legal StandsFor plain_step high_of

took : (x : Row) (y : VbView) (call : VbCall) (reply : VbReply) → CalledVb x.view call reply y → TookTurn x (record x { view = y }) call reply
took x y call reply called =
    let last = laws.last x.view y (call, reply) called in
    let same = laws.same x.view y (call, reply) called in
    record {
      place = last.0;
      seen = last.1;
      last = (last.2, last.3);
      mine = last.4;
      kept = laws.kept x.view y (call, reply) called;
      answers = λ o opens vb stands. laws.answers x.view y (call, reply) called o opens vb stands last.0 (call, reply) last.3;
      same = (refl, refl, same.0, same.1, same.2);
    }

at_own : (v : ℕ) (row : Row) (rest : Option Row) → (if v == v then Some row else rest) ≡ Some row
at_own v row rest = ap (λ b. if b then Some row else rest) (eq-eqb v v refl)

at_other : (v w : ℕ) (row : Row) (rest : Option Row) → w ≢ v → (if w == v then Some row else rest) ≡ rest
at_other v w row rest ne = ap (λ b. if b then Some row else rest) (false_from_ne_true (w == v) (λ e. ne (eqb-true w v e)))

pub calls_are_turns : CallsAreTurns
calls_are_turns = record {
  turn = λ old new v call reply step. let (x, y, at, called, with) = step in (x, record x { view = y }, at, with v ∙ at_own v (record x { view = y }) (row_at number_of v old), took x y call reply called);
  others = λ old new v call reply step w ne. let (x, y, at, called, with) = step in with w ∙ at_other v w (record x { view = y }) (row_at number_of w old) ne;
  none = λ old new v call step. step;
  there = λ old new v call reply none step. let (x, y, at, called, with) = step in not_both (row_at number_of v old) none at;
}
  where
    not_both : {x : Row} (o : Option Row) → o ≡ None → o ≡ Some x → ⊥
    not_both None n s = cc
    not_both (Some row) n s = cc

-- a list is not one longer than itself
not_longer : {A : Type 0} (xs : List A) (a : A) → xs ≡ xs ++ a ∷ [] → ⊥
not_longer xs a e = let n : length xs ≡ length xs + 1 = ap length e ∙ length-append xs (a ∷ []) in absurd (omega arith)

some_is : {A : Type 0} (a b : A) → Some a ≡ Some b → a ≡ b
some_is a b e = cc

-- no turn leaves its seat as it was
not_still : (row x : Row) (y : VbView) (call : VbCall) (reply : VbReply) → Some row ≡ Some x → Some row ≡ Some (record x { view = y }) → CalledVb x.view call reply y → ⊥
not_still row x y call reply before after called =
    let same : x.view ≡ y = ap (λ (r : Row). r.view) (sym (some_is row x before) ∙ some_is row (record x { view = y }) after) in
    not_longer x.view.mine (length called.base, (call, reply)) (ap (λ (v : VbView). v.mine) (same ∙ called.new))

pub in_numbers : (three five : Row) (call : VbCall) (reply : VbReply) → SeatsInNumbers three five call reply
in_numbers three five call reply = record {
  silent = λ step. cc;
  stays = λ step. let (x, y, at, called, with) = step in not_still (record three { number = 3 }) x y call reply at (with 3) called;
  other = λ five' step. let (x, y, at, called, with) = step in not_still (record three { number = 3 }) x y call reply at (with 3) called;
  unseated = λ new step. cc;
  nobody = (refl, refl);
  lost = λ step. cc;
}

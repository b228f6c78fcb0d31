-- what a legal history says of each of its calls, and of the numbers on its way
use Rattle.std.proofs.Common.{◌≡◌, ℕ, zero, suc, ◌<◌, ◌≤◌, Bool, true, false, List, [], ◌∷◌, ◌++◌, length, refl, ◌∙◌, subst, arith, le_refl}
use Rattle.std.specs.Prelude.{◌↔◌, max, nat_lt, take, drop}
use Rattle.std.proofs.lemmas.Bool.Decides.{nat_tests}
use Rattle.std.proofs.lemmas.List.{take-append-drop}
use Rattle.vb_turn.specs.History.{after, Legal, top}
use Rattle.vb_turn.specs.Laws.{behind, EachAnswers, HistoriesSayWhatIsLegal}
use Rattle.vb_turn.proofs.Histories.{top_front, top_prefix}

module _ {P C R : Type 0} (next : P → C → P × R) where
  pub each_answers : (s : P) (log : List (C × R)) → Legal next s log → EachAnswers next s log
  each_answers s [] l k e h = absurd cc
  each_answers s (x ∷ es) l zero e h = let same : x ≡ e = cc h in subst (λ (y : C × R). (next s y.0).1 ≡ y.1) same l.0
  each_answers s (x ∷ es) l (suc k) e h = each_answers (next s x.0).0 es l.1 k e h

  pub legal_by : (s : P) (log : List (C × R)) → EachAnswers next s log → Legal next s log
  legal_by s [] h = tt
  legal_by s (x ∷ es) h = (h 0 x refl, legal_by (next s x.0).0 es (λ k e i. h (suc k) e i))

  grown : (s : P) (log more : List (C × R)) → Legal next s (log ++ more) ↔ (Legal next s log × Legal next (after next s log) more)
  grown s [] more = (λ l. (tt, l), λ p. p.1)
  grown s (x ∷ es) more = let r = grown (next s x.0).0 es more in (λ l. ((l.0, (r.0 l.1).0), (r.0 l.1).1), λ p. (p.0.0, r.1 (p.0.1, p.1)))

  module _ (number : P → ℕ) where
    end_high : (s : P) (log : List (C × R)) → number (after next s log) ≤ top next number s log
    end_high s [] = le_refl (number s)
    end_high s (x ∷ es) = let r = end_high (next s x.0).0 es in
        let a : ℕ = number s in let b : ℕ = top next number (next s x.0).0 es in let c : ℕ = number (after next (next s x.0).0 es) in
        let h : c ≤ b = r in let goal : c ≤ max a b = omega arith in goal

    pub high : (s : P) (log : List (C × R)) (k : ℕ) → number (behind next s log k) ≤ top next number s log
    high s log k = let r = end_high s (take k log) in let t = top_prefix next number s (take k log) log (drop k log, take-append-drop k log) in
        let a : ℕ = number (behind next s log k) in let b : ℕ = top next number s (take k log) in let c : ℕ = top next number s log in
        let h : a ≤ b = r in let i : b ≤ c = t in let goal : a ≤ c = omega arith in goal

    -- the greatest of a first number and of others, of which the state behind k calls has the greatest
    met_by : (s : P) (x : C × R) (es : List (C × R)) (b : Bool) → nat_lt (number s) (top next number (next s x.0).0 es) ≡ b
        → (k : ℕ) × (k ≤ length es) × (top next number (next s x.0).0 es ≡ number (behind next (next s x.0).0 es k))
        → (k : ℕ) × (k ≤ length (x ∷ es)) × (top next number s (x ∷ es) ≡ number (behind next s (x ∷ es) k))
    met_by s x es true e (k, below, is) = let a : ℕ = number s in let b : ℕ = top next number (next s x.0).0 es in
        let l : a < b = grind (arith, nat_tests) in let m : max a b ≡ b = omega arith in (suc k, omega arith, m ∙ is)
    met_by s x es false e r = let a : ℕ = number s in let b : ℕ = top next number (next s x.0).0 es in
        let l : b ≤ a = grind (arith, nat_tests) in let m : max a b ≡ a = omega arith in (0, omega arith, m)

    pub met : (s : P) (log : List (C × R)) → (k : ℕ) × (k ≤ length log) × (top next number s log ≡ number (behind next s log k))
    met s [] = (0, omega arith, refl)
    met s (x ∷ es) = met_by s x es (nat_lt (number s) (top next number (next s x.0).0 es)) refl (met (next s x.0).0 es)

    pub histories_say_what_is_legal : HistoriesSayWhatIsLegal next number
    histories_say_what_is_legal = record {
      legal = λ s log. (each_answers s log, legal_by s log);
      grown = grown;
      high = high;
      met = met;
      stays = top_front next number;
    }

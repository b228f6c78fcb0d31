-- which failover logs a producer may answer
use Rattle.std.proofs.Common.{◌≡◌, ℕ, true, List, [], ◌∷◌, length, refl, arith}
use Rattle.std.specs.Prelude.{nat_le, not, ◌==◌, ◌&&◌}
use Rattle.std.proofs.lemmas.Bool.Decides.{nat_tests}
use Rattle.vb_types.specs.declared.role.LogEntry.{LogEntry}
use Rattle.vb_types.specs.declared.position.TheConstants.{MAX_SEQ}
use Rattle.branch_model.specs.Logs.{log_limit, Lacks, Distinct, Falls}
use Rattle.vb_calls.specs.Following.{log_lacks, log_differs, log_falls}
use Rattle.vbucket.specs.Adopting.{AnswerableExactly}
use Rattle.vbucket.proofs.Parts.{both, conj, most_of, most_tested}

differ_of : (a b : ℕ) → not (a == b) ≡ true → a ≡ b → ⊥
differ_of a b e = grind (arith, nat_tests)

differ_tested : (a b : ℕ) → (a ≡ b → ⊥) → not (a == b) ≡ true
differ_tested a b n = grind (arith, nat_tests)

pub lacks_of : (log : List LogEntry) (u : ℕ) → log_lacks log u ≡ true → Lacks log u
lacks_of [] u e = tt
lacks_of (x ∷ xs) u e = let k = both (not (x.uuid == u)) (log_lacks xs u) e in (differ_of x.uuid u k.0, lacks_of xs u k.1)

pub lacks_tested : (log : List LogEntry) (u : ℕ) → Lacks log u → log_lacks log u ≡ true
lacks_tested [] u l = refl
lacks_tested (x ∷ xs) u l = conj (not (x.uuid == u)) (log_lacks xs u) (differ_tested x.uuid u l.0) (lacks_tested xs u l.1)

differs_of : (log : List LogEntry) → log_differs log ≡ true → Distinct log
differs_of [] e = tt
differs_of (x ∷ xs) e = let k = both (log_lacks xs x.uuid) (log_differs xs) e in (lacks_of xs x.uuid k.0, differs_of xs k.1)

differs_tested : (log : List LogEntry) → Distinct log → log_differs log ≡ true
differs_tested [] d = refl
differs_tested (x ∷ xs) d = conj (log_lacks xs x.uuid) (log_differs xs) (lacks_tested xs x.uuid d.0) (differs_tested xs d.1)

falls_of : (log : List LogEntry) (n : ℕ) → log_falls log n ≡ true → Falls log n
falls_of [] n e = tt
falls_of (x ∷ xs) n e = let k = both (nat_le x.seq n) (log_falls xs x.seq) e in (most_of x.seq n k.0, falls_of xs x.seq k.1)

falls_tested : (log : List LogEntry) (n : ℕ) → Falls log n → log_falls log n ≡ true
falls_tested [] n f = refl
falls_tested (x ∷ xs) n f = conj (nat_le x.seq n) (log_falls xs x.seq) (most_tested x.seq n f.0) (falls_tested xs x.seq f.1)

pub exactly : AnswerableExactly
exactly log = (
  λ e.
      let a = both (nat_le 1 (length log) && nat_le (length log) log_limit && log_lacks log 0 && log_differs log) (log_falls log MAX_SEQ) e in
      let b = both (nat_le 1 (length log) && nat_le (length log) log_limit && log_lacks log 0) (log_differs log) a.0 in
      let c = both (nat_le 1 (length log) && nat_le (length log) log_limit) (log_lacks log 0) b.0 in
      let d = both (nat_le 1 (length log)) (nat_le (length log) log_limit) c.0 in
      record { some = most_of 1 (length log) d.0; short = most_of (length log) log_limit d.1; branches = lacks_of log 0 c.1; distinct = differs_of log b.1; falls = falls_of log MAX_SEQ a.1 },
  λ r.
      conj (nat_le 1 (length log) && nat_le (length log) log_limit && log_lacks log 0 && log_differs log) (log_falls log MAX_SEQ)
      (conj (nat_le 1 (length log) && nat_le (length log) log_limit && log_lacks log 0) (log_differs log)
      (conj (nat_le 1 (length log) && nat_le (length log) log_limit) (log_lacks log 0)
      (conj (nat_le 1 (length log)) (nat_le (length log) log_limit) (most_tested 1 (length log) r.some) (most_tested (length log) log_limit r.short))
      (lacks_tested log 0 r.branches))
      (differs_tested log r.distinct))
      (falls_tested log MAX_SEQ r.falls),
)

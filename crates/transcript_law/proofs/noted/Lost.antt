-- by lines: a branch that was made, on which nobody writes, and which no link may give an heir, stays so
use Rattle.std.specs.Prelude.{◌≡◌, ◌∷◌, ◌&&◌, ◌||◌, ◌==◌, if◌then◌else◌}
use Rattle.transcript_law.proofs.Words.{ℕ, Bool, true, false, List, [], refl, ap, sym, ◌∙◌, subst, ⊎_elim, eqb-true, eqb-false, eq-eqb, ne_eqb, Option, Some, None, Chronicle, Event, Granted, Role, StreamName, after_line, after_lines, after_role, stream_branch}
use Rattle.transcript_law.proofs.invariant.{Noted.{IsFreed}, Trees.{IsTold, new_untold}}
use Rattle.transcript_law.proofs.noted.Freed.{DialsDiffer, Freed, IsCeded, Less, LineFits, ceded_before, line_freed}
use Rattle.transcript_law.specs.{Heirs.{IsHeir, LawfulRole, LawfulState}, Lawfulness.{LawfulLine}}

-- nobody writes on it, and no link has its consumer take it over
pub record IsLost (r : Chronicle) (u : ℕ) : Type 0 where
  pub free : IsFreed r u
  pub none : (l : ℕ) (g : Granted) → IsCeded r l g → stream_branch g ≡ u → ⊥

-- so it is as long as each writer is the one that it was, and each link on which active was stated was one
pub lost_by : (r r' : Chronicle) (u : ℕ) → (IsTold r.tree u → IsTold r'.tree u) → r'.writer_of u ≡ r.writer_of u → ((l : ℕ) (g' : Granted) → IsCeded r' l g' → stream_branch g' ≡ u → (g : Granted) × IsCeded r l g × (stream_branch g ≡ stream_branch g')) → IsLost r u → IsLost r' u
lost_by r r' u told writer before x = record {
  free = record { free = writer ∙ x.free.free; is_told = told x.free.is_told; named = x.free.named };
  none = λ l g' c e. (let (g, b, same) = before l g' c e in x.none l g b (same ∙ e));
}

pub lost_less : (r r' : Chronicle) (u : ℕ) → Less r r' → IsLost r u → IsLost r' u
lost_less r r' u less x = lost_by r r' u (less.told u) (less.writers u) (λ l g' c e. ceded_before r r' less l g' c) x

-- the one that is to be its heir would be by such a link
pub no_heir : (r : Chronicle) (n v u : ℕ) → IsLost r u → (h : IsHeir r n v) → stream_branch h.given.stream ≡ u → ⊥
no_heir r n v u x h e = x.none h.given.link h.given.stream (record { dial = record { producer = h.given.fed.0; node = n; vb = v }; dialed = h.given.fed.1; stated = h.given.stated; stream = h.given.fed.2; pending = h.pending }) e

-- nor is active stated for it, of which nobody is the writer
pub no_state : (r : Chronicle) (l u : ℕ) → IsLost r u → (s : LawfulState r l Role.Active) → stream_branch s.stream ≡ u → ⊥
no_state r l u x s e = let z : ◌≡◌ {A = Option (ℕ × ℕ)} None (Some (s.dial.producer, s.dial.vb)) = sym x.free.free ∙ ap r.writer_of (sym e) ∙ s.writer.made_or_took in cc

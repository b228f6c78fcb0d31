-- what takes do, one after the other
use Rattle.std.proofs.Common.{◌≡◌, ℕ, ◌+◌, ◌≤◌, List, [], ◌++◌, take, length, sym, ap, ◌∙◌, length-append, length-take, arith}
use Rattle.std.proofs.KnownBytes.{Consumes-nil, Consumes-trans, Consumes-kept}
use Rattle.dcp_io.specs.Counts.{raised, Rose}
use Rattle.dcp_io.specs.Moves.{Intake, Takes, Drew}
use Rattle.dcp_io.specs.declared.Took.{Took}
use Rattle.dcp_io.specs.declared.Took.TheVariants as took
use Rattle.dcp_io.proofs.Counted.{raised_none, raised_more, raised_kept, raised_within, rose_by_one}

-- before the first turn
pub drew_none : (s : Intake) → Drew s s [] 0
drew_none s = record { left = Consumes-nil s.left; taken = sym (raised_none s.taken); turned = sym (raised_none s.turns) }

-- a count after one more step
next_count : (a b c m n : ℕ) → b ≡ raised a m → c ≡ raised b n → c ≡ raised a (m + n)
next_count a b c m n p q = q ∙ ap (λ k. raised k n) p ∙ raised_more a m n

-- a turn that gave n bytes adds n
pub length_taken : (n : ℕ) (bytes room : List ℕ) → n ≤ length room → length (bytes ++ take n room) ≡ length bytes + n
length_taken n bytes room h = omega (arith, length-append bytes (take n room), length-take n room)

-- a turn that gave bytes
pub drew_more : {a b c : Intake} {bytes room : List ℕ} {turns n : ℕ} → Drew a b bytes turns → Takes b c room (took.Bytes n) → Drew a c (bytes ++ take n room) (turns + 1)
drew_more {a} {b} {c} {bytes} {room} {turns} {n} d t = record {
  left = Consumes-trans a.left b.left c.left bytes (take n room) d.left t.gave.2;
  taken = next_count a.taken b.taken c.taken (length bytes) n d.taken t.gave.3 ∙ ap (raised a.taken) (sym (length_taken n bytes room t.gave.1));
  turned = next_count a.turns b.turns c.turns turns 1 d.turned t.turned;
}

-- a turn that found the end
pub drew_end : {a b c : Intake} {bytes room : List ℕ} {turns : ℕ} → Drew a b bytes turns → Takes b c room took.End → Drew a c bytes (turns + 1)
drew_end {a} {b} {c} {bytes} {room} {turns} d t = record {
  left = Consumes-kept a.left b.left c.left bytes d.left t.gave.0;
  taken = t.gave.2 ∙ d.taken;
  turned = next_count a.turns b.turns c.turns turns 1 d.turned t.turned;
}

-- a turn that failed
pub drew_failed : {a b c : Intake} {bytes room : List ℕ} {turns : ℕ} → Drew a b bytes turns → Takes b c room took.Failed → Drew a c bytes (turns + 1)
drew_failed {a} {b} {c} {bytes} {room} {turns} d t = record {
  left = Consumes-kept a.left b.left c.left bytes d.left t.gave.0;
  taken = t.gave.1 ∙ d.taken;
  turned = next_count a.turns b.turns c.turns turns 1 d.turned t.turned;
}

-- a take that failed was counted
pub take_rose : {old new : Intake} {room : List ℕ} → Takes old new room took.Failed → Rose old.faults new.faults
take_rose {old} {new} t = rose_by_one old.faults new.faults t.gave.2

-- no take makes the count of faults fall
pub take_kept : {old new : Intake} {room : List ℕ} (answer : Took) → Takes old new room answer → old.faults ≤ new.faults
take_kept {old} {new} (took.Bytes n) t = let e : new.faults ≡ old.faults = t.gave.4 in omega arith
take_kept {old} {new} took.End t = let e : new.faults ≡ old.faults = t.gave.3 in omega arith
take_kept {old} {new} took.Failed t = let e : new.faults ≡ raised old.faults 1 = t.gave.2 in omega (arith, raised_kept old.faults 1)

-- so many turns more at most
pub drew_within : {a b : Intake} {bytes : List ℕ} {turns : ℕ} → Drew a b bytes turns → b.turns ≤ a.turns + turns
drew_within {a} {b} {bytes} {turns} d = let e : b.turns ≡ raised a.turns turns = d.turned in omega (arith, raised_within a.turns turns)

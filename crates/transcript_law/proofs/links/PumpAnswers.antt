-- what is answered to a pull: as many frames were put as are told of, and whether that is all
use Rattle.std.specs.Prelude.{◌++◌, ◌+◌, ◌<◌, ◌∷◌, ◌≡◌, ◌≤◌, if◌then◌else◌}
use Rattle.transcript_law.proofs.Words.{Served, begun}
use Rattle.transcript_law.proofs.Words.{why_of, frames_put, Halt, pull_result, PlainLink, moved_len, pump_at, pump_result, PlainNode}
use Rattle.transcript_law.proofs.Words.{List, [], ap, arith, length, refl, subst, suc, sym, true, ℕ, ◌∙◌, filter-append, length-append, filter, both_sent_lines, frames_in_lines}
use Rattle.transcript_law.proofs.Words.{Dial, Option, IsPumped, PutsAsTold, is_frame}
use Rattle.transcript_law.proofs.Words.{Event, Why}
use Rattle.transcript_law.proofs.lines.{Calm.{AnyKind, takes_any}, Pulling.{Lines, PutFew, Puts, pull_so}, Refusals.{CarriesOut}}
use Rattle.dcp_producer.specs.Pulling.{frame_put}
use Rattle.vb_calls.specs.Programs.{AnyCall}
use Rattle.transcript_law.proofs.Words.{Frame, StreamName}
use Rattle.vb_calls.proofs.JobConduct.{after_job_always}
use Rattle.vb_calls.proofs.JobReadings.{after_job_bind}
use Rattle.vb_calls.specs.Jobs.{Ended, IsRead, after_job}

-- no more bytes are moved than were asked for
pub moved_few : (wanted : ℕ) (queue : List ℕ) → moved_len wanted queue ≤ wanted
moved_few wanted queue = omega arith

-- frames that are put
told_more : (lines : List Event) (line : Event) → is_frame line ≡ true → frames_in_lines (lines ++ line ∷ []) ≡ frames_in_lines lines + 1
told_more lines line is =
    ap (λ (xs : List Event). length xs) (filter-append is_frame lines (line ∷ []))
    ∙ length-append (filter is_frame lines) (filter is_frame (line ∷ []))
    ∙ ap (λ b. frames_in_lines lines + length (if b then line ∷ [] else [])) is

-- so many frames were put, and told of
abbrev pub Counted : ℕ → Served → Type 0
Counted n s = (s.count ≡ n) × (frames_in_lines s.events ≡ n)

-- a line of a frame
abbrev IsFrame : StreamName → Event → Type 0
IsFrame name line = is_frame line ≡ true

pub one_more : (n : ℕ) (s : Served) (f : Frame) (line : Event) → is_frame line ≡ true → Counted n s → Counted (suc n) (frame_put f line s)
one_more n s f line is (counts, tells) =
    let t : frames_in_lines (s.events ++ line ∷ []) ≡ frames_in_lines s.events + 1 = told_more s.events line is in (omega (arith, counts), t ∙ ap (λ k. k + 1) tells ∙ omega arith)

-- the answer by how many were put, and why no more
pub put_says : (k n : ℕ) (s : Served) (halted : Halt) → Counted n s → PutFew k n halted → PutsAsTold k s.events s.count (why_of halted)
put_says k n s Halt.All c e = record { told = c.0 ∙ sym c.1; most = let same = c.0 in omega (arith, same, e); all = λ q. c.0 ∙ e; only = λ q. refl }
put_says k n s Halt.Idle c few = record { told = c.0 ∙ sym c.1; most = let same = c.0 in omega (arith, same, few); all = λ q. cc; only = λ q. let same = c.0 in absurd (omega (arith, same, few, q)) }
put_says k n s Halt.Full c few = record { told = c.0 ∙ sym c.1; most = let same = c.0 in omega (arith, same, few); all = λ q. cc; only = λ q. let same = c.0 in absurd (omega (arith, same, few, q)) }
put_says k n s Halt.WaitState c few = record { told = c.0 ∙ sym c.1; most = let same = c.0 in omega (arith, same, few); all = λ q. cc; only = λ q. let same = c.0 in absurd (omega (arith, same, few, q)) }
put_says k n s Halt.WaitSaved c few = record { told = c.0 ∙ sym c.1; most = let same = c.0 in omega (arith, same, few); all = λ q. cc; only = λ q. let same = c.0 in absurd (omega (arith, same, few, q)) }
put_says k n s Halt.Disk c few = record { told = c.0 ∙ sym c.1; most = let same = c.0 in omega (arith, same, few); all = λ q. cc; only = λ q. let same = c.0 in absurd (omega (arith, same, few, q)) }

pub pump_says : (dial : Option Dial) (frames : ℕ) (link : PlainLink) (node : PlainNode) → CarriesOut (λ told. IsPumped dial frames told.events told.answer) (pump_at frames link node).1.1
pump_says dial frames link node =
    let lines : Lines IsFrame = record { items = λ name c. refl; markers = λ name start end flags. refl; ends = λ name reason. refl; states = λ name told. refl } in
    let first : Served = begun link.server in let x = after_job (frames_put frames first) node.vbs node.shelves in
    let put = after_job_always AnyCall IsRead (Puts AnyKind IsFrame takes_any lines Counted (λ n s end same c. c) one_more frames) (frames_put frames first) node.vbs node.shelves
    (pull_so AnyKind IsFrame takes_any lines Counted (λ n s end same c. c) one_more frames first (refl, refl)) in
    subst (λ y. CarriesOut (λ told. IsPumped dial frames told.events told.answer) (pump_result link node y).1.1) (sym (after_job_bind (frames_put frames first) (λ put. Ended (pull_result link.up_heard put)) node.vbs node.shelves))
    (put_says frames put.0 x.1.0 x.1.1 put.1 put.2, λ why e s. cc)

-- answers judged by hand
pub pumped_right : PutsAsTold 9 both_sent_lines 3 Why.Idle
pumped_right = record { told = refl; most = omega arith; all = λ e. cc; only = λ e. absurd (omega arith) }

pub pumped_all : PutsAsTold 3 both_sent_lines 3 Why.All
pumped_all = record { told = refl; most = omega arith; all = λ e. refl; only = λ e. refl }

pub pumped_full : PutsAsTold 9 both_sent_lines 3 Why.Full
pumped_full = record { told = refl; most = omega arith; all = λ e. cc; only = λ e. absurd (omega arith) }

pub full_at_once : (wanted : ℕ) → 0 < wanted → PutsAsTold wanted [] 0 Why.Full
full_at_once wanted some = record { told = refl; most = omega arith; all = λ e. cc; only = λ e. absurd (omega (arith, some, e)) }

pub full_fewer : PutsAsTold 9 both_sent_lines 2 Why.Full → ⊥
full_fewer p = let e : ◌≡◌ {A = ℕ} 2 3 = p.told in omega arith

pub full_more : PutsAsTold 9 both_sent_lines 4 Why.Full → ⊥
full_more p = let e : ◌≡◌ {A = ℕ} 4 3 = p.told in omega arith

pub pumped_not_full : PutsAsTold 3 both_sent_lines 3 Why.Full → ⊥
pumped_not_full p = let e : Why.Full ≡ Why.All = p.only refl in cc

pub pumped_fewer : PutsAsTold 9 both_sent_lines 2 Why.Idle → ⊥
pumped_fewer p = let e : ◌≡◌ {A = ℕ} 2 3 = p.told in omega arith

pub pumped_not_all : PutsAsTold 9 both_sent_lines 3 Why.All → ⊥
pumped_not_all p = let e : ◌≡◌ {A = ℕ} 3 9 = p.all refl in omega arith

pub pumped_not_idle : PutsAsTold 3 both_sent_lines 3 Why.Idle → ⊥
pumped_not_idle p = let e : Why.Idle ≡ Why.All = p.only refl in cc

pub pumped_excess : PutsAsTold 2 both_sent_lines 3 Why.All → ⊥
pumped_excess p = let e : 3 ≤ 2 = p.most in omega arith

pub two_numbers : (a b : ℕ) → a < b → a ≡ b → ⊥
two_numbers a b l e = omega (arith, l, e)

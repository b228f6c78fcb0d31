-- the first record of a vBucket can be written down
use Rattle.std.proofs.Common.{◌≡◌, ℕ, ◌≤◌, true, List, length, refl, sym, ap, subst, arith}
use Rattle.std.specs.Prelude.{◌≢◌, ◌↔◌, ◌&&◌, nat_le}
use Rattle.std.proofs.lemmas.Bool.Decides.{nat_tests}
use Rattle.vb_events.specs.declared.event.Answer.TheVariants as line
use Rattle.vb_events.specs.declared.event.Cause.TheVariants as cause
use Rattle.vb_types.specs.declared.journal.Record.TheVariants as noted
use Rattle.vb_types.specs.declared.role.LogEntry.{LogEntry}
use Rattle.vb_types.specs.declared.role.Role.{Role}
use Rattle.vb_types.specs.declared.role.Role.TheVariants as role
use Rattle.vb_journal.specs.Payloads.{payload_of, is_kept, is_writable}
use Rattle.vb_journal.proofs.Sizes.{length_payload}
use Rattle.vb_calls.specs.State.{first_log}
use Rattle.vb_calls.specs.Flushes.{wrote_of}
use Rattle.vb_calls.specs.Shelves.{Ask, Got, Fate, Stood, WasClosed, DiskFailed}
use Rattle.node_core.specs.Admin.{noted_answer}
use Rattle.node_core.specs.Noting.{FirstNoted, NotesFirst}
use Rattle.node_core.specs.Outcomes.{MadeIf}
use Rattle.node_core.specs.declared.out.NodeOut.{NodeOut}

kept_role : (r : Role) → r ≢ role.Pending → is_kept r ≡ true
kept_role role.Active kept = refl
kept_role role.Replica kept = refl
kept_role role.Pending kept = absurd (kept refl)
kept_role role.Dead kept = refl

short_log : (log : List LogEntry) → length log ≤ 25 → nat_le (length log) 25 ≡ true
short_log log short = grind (arith, nat_tests, short)

short_payload : (r : Role) (log : List LogEntry) → length log ≤ 25 → nat_le (length (payload_of (noted.State r log))) 33599999 ≡ true
short_payload r log short =
    let len : length (payload_of (noted.State r log)) ≤ 33599999 = omega (arith, length_payload (noted.State r log), short) in
    grind (arith, nat_tests, len)

-- a role but Pending, with a log of at most 25 entries
pub state_writable : (r : Role) (log : List LogEntry) → r ≢ role.Pending → length log ≤ 25 → is_writable (noted.State r log) ≡ true
unfolding is_writable
state_writable r log kept short = λ i. (kept_role r kept i && short_log log short i) && short_payload r log short i

-- a vBucket begins with at most one entry
first_short : (r : Role) (uuid : ℕ) → length (first_log r uuid) ≤ 25
first_short role.Active uuid = omega arith
first_short role.Replica uuid = omega arith
first_short role.Pending uuid = omega arith
first_short role.Dead uuid = omega arith

pub first_writable : (r : Role) (uuid : ℕ) → r ≢ role.Pending → is_writable (noted.State r (first_log r uuid)) ≡ true
first_writable r uuid kept = state_writable r (first_log r uuid) kept (first_short r uuid)

fine_so : (fate : Fate) → (noted_answer (wrote_of fate) line.Ok ≡ line.Ok) ↔ (fate ≡ Stood)
fine_so Stood = (λ is. refl, λ is. refl)
fine_so WasClosed = (λ is. cc, λ is. cc)
fine_so DiskFailed = (λ is. cc, λ is. cc)

closed_so : (fate : Fate) → (noted_answer (wrote_of fate) line.Ok ≡ line.No cause.Closed) ↔ (fate ≡ WasClosed)
closed_so Stood = (λ is. cc, λ is. cc)
closed_so WasClosed = (λ is. refl, λ is. refl)
closed_so DiskFailed = (λ is. cc, λ is. cc)

failed_so : (fate : Fate) → (noted_answer (wrote_of fate) line.Ok ≡ line.No cause.Disk) ↔ (fate ≡ DiskFailed)
failed_so Stood = (λ is. cc, λ is. cc)
failed_so WasClosed = (λ is. cc, λ is. cc)
failed_so DiskFailed = (λ is. refl, λ is. refl)

module _ {J : Type 0} (asks : J → ℕ → (ask : Ask) → Got ask → J → Type 0) where
  first_noted : (n v uuid : ℕ) (r : Role) (kept : J) (out : NodeOut) (left : J) → MadeIf asks n v r uuid true kept out left → FirstNoted asks v (noted.State r (first_log r uuid)) kept out left
  first_noted n v uuid r kept out left made =
      let said : out.answer ≡ noted_answer (wrote_of made.0) line.Ok = ap (λ o. o.answer) made.2 in record {
        fate = made.0;
        appended = made.1;
        fine = subst (λ a. (a ≡ line.Ok) ↔ (made.0 ≡ Stood)) (sym said) (fine_so made.0);
        closed = subst (λ a. (a ≡ line.No cause.Closed) ↔ (made.0 ≡ WasClosed)) (sym said) (closed_so made.0);
        failed = subst (λ a. (a ≡ line.No cause.Disk) ↔ (made.0 ≡ DiskFailed)) (sym said) (failed_so made.0);
      }

  pub notes_first : NotesFirst asks
  notes_first = record {
    active = λ n v uuid kept out left made. first_noted n v uuid role.Active kept out left made;
    replica = λ n v uuid kept out left made. first_noted n v uuid role.Replica kept out left made;
    refused = λ n v uuid r kept out left made. made.0;
  }

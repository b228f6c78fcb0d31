-- the journals of a keeper as they are seen, by the numbers of their vBuckets
use Rattle.std.specs.Prelude.{◌≡◌, ℕ, ◌==◌, Bool, true, List, Option, Some, None, is_some, refl}
use Rattle.std.specs.List.{find, position}
use Rattle.std.specs.Coded.{Coded, code_by, coded×, coded_ℕ}
use Rattle.flusher.specs.contracts.flusher.Flusher as flusher_row
use Rattle.flusher.specs.declared.flusher.Flusher.{Flusher}
use Rattle.flusher.specs.declared.flusher.Flusher.TheVariants as flusher
use Rattle.vb_calls.specs.Shelves.{Flush, Idle, Out, Written}
use Rattle.vb_journal.specs.Books.{JournalState, state_code}
use Rattle.vb_journal.specs.Payloads.{is_writable}
use Rattle.vb_types.specs.declared.journal.Record.TheVariants.{Rows}
use Rattle.disk_journals.specs.declared.slot.Stage.{Stage}
use Rattle.disk_journals.specs.declared.slot.Stage.TheVariants as stage

-- a journal with its number, and the batch on its way
pub record Seen (D : Type 0) : Type 0 where
  pub number : ℕ
  pub journal : JournalState D
  pub flusher : Flusher

-- as a tuple of its fields
abbrev pub seen_code : {D : Type 0} → Coded D → Coded (Seen D)
seen_code {D} code =
    code_by (ℕ × (JournalState D × Flusher)) (coded× coded_ℕ (coded× (state_code code) flusher_row.the_row.coded)) (λ s. (s.number, (s.journal, s.flusher)))
    (λ p. record { number = p.0; journal = p.1.0; flusher = p.1.1 }) (λ _. refl)

-- a batch that is to be appended can be written down
abbrev pub IsSendable : Flusher → Type 0
IsSendable flusher.Idle = Unit {0}
IsSendable (flusher.Out batch) = is_writable (Rows batch) ≡ true
IsSendable (flusher.Written receipt) = Unit {0}

-- the batch on its way
abbrev pub flush_of : Flusher → Flush
flush_of flusher.Idle = Idle
flush_of (flusher.Out batch) = Out batch
flush_of (flusher.Written receipt) = Written receipt

-- the journal of a number, if there is one
abbrev pub seen_at : {D : Type 0} → List (Seen D) → ℕ → Option (Seen D)
seen_at slots v = find (λ s. s.number == v) slots

-- there is a journal of this number
abbrev pub has_seen : {D : Type 0} → List (Seen D) → ℕ → Bool
has_seen slots v = is_some (seen_at slots v)

-- where the first journal of a number stands
unfoldable pub place_in : {D : Type 0} → List (Seen D) → ℕ → Option ℕ
place_in slots v = position (λ s. s.number == v) slots

-- the batch on its way to a journal; none is where there is no journal
abbrev pub flush_in : {D : Type 0} → Option (Seen D) → Flush
flush_in None = Idle
flush_in (Some s) = flush_of s.flusher

-- the batch on its way to the journal of a number
abbrev pub flush_at : {D : Type 0} → List (Seen D) → ℕ → Flush
flush_at slots v = flush_in (seen_at slots v)

-- how far a batch is
abbrev pub stage_of : Flush → Stage
stage_of Idle = stage.Idle
stage_of (Out batch) = stage.Out
stage_of (Written seq) = stage.Written

-- the flusher and a reader, turn by turn
use Rattle.std.proofs.Common.{◌≡◌, ℕ, zero, suc, ◌+◌, ◌-◌, ◌<◌, ◌≤◌, Bool, false, List, refl, sym, ap, ◌∙◌, subst, arith}
use Rattle.vb_types.specs.Images.{Picture, nothing}
use Rattle.vb_calls.specs.Plain.{Plain}
use Rattle.vb_disk.specs.Memory.{MemStorage}
use Rattle.disk_journals.specs.Seen.{Seen}
use Rattle.node_threads.specs.Seats.{Row}
use Rattle.storm_model.specs.Sums.{flushed, read}
use Rattle.storm_seats.specs.Draining.{IsStill, ReadBy, flushed_once, read_once, took}
use Rattle.storm_seats.proofs.Drained.{flushed_dry, read_more, read_none, read_still}
use Rattle.storm.specs.Ending.{IsQuiet, IsRead, Reads}

-- so many turns of so many are done
pub record Flushing (v count done : ℕ) (vb : Plain) (rows : List Row) (kept : List (Seen MemStorage)) : Type 0 where
  pub now : Plain
  pub reads : Reads v rows now
  pub quiet : IsQuiet v kept
  pub rest : flushed (count - done) now ≡ flushed count vb

abbrev pub Flushes : ℕ → List Row → List Row → List (Seen MemStorage) → List (Seen MemStorage) → Bool → Type 0
Flushes v rows new kept left more = (vb : Plain) → Reads v rows vb → IsQuiet v kept → Reads v new (flushed_once vb) × IsQuiet v left × (more ≡ false → flushed_once vb ≡ vb)

pub flush_begin : (v count : ℕ) (vb : Plain) (rows : List Row) (kept : List (Seen MemStorage)) → Reads v rows vb → IsQuiet v kept → Flushing v count 0 vb rows kept
flush_begin v count vb rows kept r q = record { now = vb; reads = r; quiet = q; rest = ap (λ n. flushed n vb) (let e : count - 0 ≡ count = omega arith in e) }

one_less : (count done : ℕ) → done < count → count - done ≡ suc (count - suc done)
one_less count done l = omega arith

pub flush_on : (v count done : ℕ) (vb : Plain) (rows new : List Row) (kept left : List (Seen MemStorage)) (more : Bool) → done < count → Flushing v count done vb rows kept → Flushes v rows new kept left more → Flushing v count (suc done) vb new left
flush_on v count done vb rows new kept left more l f s =
    let t = s f.now f.reads f.quiet in
    record { now = flushed_once f.now; reads = t.0; quiet = t.1; rest = sym (ap (λ n. flushed n f.now) (one_less count done l)) ∙ f.rest }

pub flush_stop : (v count done : ℕ) (vb : Plain) (rows new : List Row) (kept left : List (Seen MemStorage)) (more : Bool) → done < count → Flushing v count done vb rows kept → Flushes v rows new kept left more → more ≡ false → Reads v new (flushed count vb)
flush_stop v count done vb rows new kept left more l f s none =
    let t = s f.now f.reads f.quiet in
    subst (Reads v new) (t.2 none ∙ sym (flushed_dry (count - done) f.now (t.2 none)) ∙ f.rest) t.0

pub flush_end : (v count done : ℕ) (vb : Plain) (rows : List Row) (kept : List (Seen MemStorage)) → count ≤ done → Flushing v count done vb rows kept → Reads v rows (flushed count vb)
flush_end v count done vb rows kept l f = subst (Reads v rows) (sym (ap (λ n. flushed n f.now) (let e : count - done ≡ 0 = omega arith in e)) ∙ f.rest) f.reads

-- so many takes of so many are done
pub record Reading (v id count done : ℕ) (vb : Plain) (rows : List Row) (image : Picture) : Type 0 where
  pub now : Plain
  pub reads : Reads v rows now
  pub by : ReadBy id vb now
  pub rest : read (count - done) id now image ≡ read count id vb nothing

abbrev pub Takes : ℕ → ℕ → List Row → List Row → Picture → Picture → Bool → Type 0
Takes v id rows new image after more = (vb : Plain) → Reads v rows vb → Reads v new (took id vb) × (after ≡ read_once id vb image) × (more ≡ false → IsStill id vb)

abbrev pub HasRead : ℕ → ℕ → ℕ → Plain → List Row → Picture → Type 0
HasRead v id count vb rows image = (after : Plain) × Reads v rows after × ReadBy id vb after × (image ≡ read count id vb nothing)

pub read_begin : (v id count : ℕ) (vb : Plain) (rows : List Row) (image : Picture) → image ≡ nothing → Reads v rows vb → Reading v id count 0 vb rows image
read_begin v id count vb rows image none r = record { now = vb; reads = r; by = read_none id vb; rest = (λ i. read ((let e : count - 0 ≡ count = omega arith in e) i) id vb (none i)) }

pub read_on : (v id count done : ℕ) (vb : Plain) (rows new : List Row) (image after : Picture) (more : Bool) → done < count → Reading v id count done vb rows image → Takes v id rows new image after more → Reading v id count (suc done) vb new after
read_on v id count done vb rows new image after more l f s =
    let t = s f.now f.reads in
    record {
      now = took id f.now;
      reads = t.0;
      by = read_more id vb f.now f.by;
      rest = ap (read (count - suc done) id (took id f.now)) t.1 ∙ sym (ap (λ n. read n id f.now image) (one_less count done l)) ∙ f.rest;
    }

pub read_stop : (v id count done : ℕ) (vb : Plain) (rows new : List Row) (image after : Picture) (more : Bool) → done < count → Reading v id count done vb rows image → Takes v id rows new image after more → more ≡ false → HasRead v id count vb new after
read_stop v id count done vb rows new image after more l f s none =
    let t = s f.now f.reads in
    let still = t.2 none in
    (took id f.now, t.0, read_more id vb f.now f.by, t.1 ∙ still.image image ∙ sym (read_still (count - done) id f.now image still) ∙ f.rest)

pub read_end : (v id count done : ℕ) (vb : Plain) (rows : List Row) (image : Picture) → count ≤ done → Reading v id count done vb rows image → HasRead v id count vb rows image
read_end v id count done vb rows image l f = (f.now, f.reads, f.by, sym (ap (λ n. read n id f.now image) (let e : count - done ≡ 0 = omega arith in e)) ∙ f.rest)

pub is_read : (v id count done : ℕ) (vb : Plain) (rows : List Row) (image : Picture) → Reading v id count done vb rows image → IsRead v rows
is_read v id count done vb rows image f = (f.now, f.reads)

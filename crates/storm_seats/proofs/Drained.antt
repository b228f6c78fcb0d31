-- what the flusher and the readers come to, turn by turn
use Rattle.std.proofs.Common.{◌≡◌, ◌≢◌, ℕ, zero, suc, ◌+◌, Bool, true, false, cond, List, [], ◌∷◌, map, refl, sym, ap, ◌∙◌, subst}
use Rattle.std.specs.Prelude.{◌==◌, Option, Some, None, if◌then◌else◌, option_map}
use Rattle.std.specs.List.{find}
use Rattle.std.proofs.lemmas.Bool.{eqb-true, false_from_ne_true}
use Rattle.vb_types.specs.Images.{Picture}
use Rattle.vb_calls.specs.declared.calls.VbCall.TheVariants as call
use Rattle.vb_calls.specs.declared.span.Span.{Span}
use Rattle.vb_calls.specs.declared.stream.Stream.{Stream}
use Rattle.vb_calls.specs.Flushing.{flush_from, unflushed_span}
use Rattle.vb_calls.specs.Plain.{Plain, plain_step}
use Rattle.vb_calls.specs.Spans.{all_spans}
use Rattle.vb_calls.specs.Streams.{end_span, moved_on, stream_at, take_from, take_to}
use Rattle.vb_calls.proofs.Placing.{changed_at, found_id, moved_id}
use Rattle.storm_model.specs.Sums.{flushed, read, taken_in, written_down}
use Rattle.storm_seats.specs.Draining.{IsStill, ReadBy, flushed_once, has_rows, is_taken, read_once, took}

no : {A : Type 0} → true ≡ false → A
no e = absurd (cc e)

-- ---- where there is no more

still_to : (o : Option Span) (s : Stream) (vb : Plain) → is_taken (take_to o s vb).1.answer ≡ false → ((take_to o s vb).0 ≡ vb) × ((image : Picture) → taken_in (take_to o s vb).1.answer image ≡ image)
still_to None s vb e = (refl, λ image. refl)
still_to (Some w) s vb e = no e

still_from : (o : Option Stream) (vb : Plain) → is_taken (take_from o vb).1.answer ≡ false → ((take_from o vb).0 ≡ vb) × ((image : Picture) → taken_in (take_from o vb).1.answer image ≡ image)
still_from None vb e = (refl, λ image. refl)
still_from (Some s) vb e = still_to (if s.cursor then end_span s (all_spans vb.spans) vb.held else None) s vb e

-- a take that gives nothing changes nothing
pub still : (id : ℕ) (vb : Plain) → is_taken (plain_step vb (call.Take id)).1.answer ≡ false → IsStill id vb
still id vb e = let s = still_from (stream_at id vb.streams) vb e in record { stays = s.0; image = s.1 }

-- and so do all further ones
pub read_still : (k id : ℕ) (vb : Plain) (image : Picture) → IsStill id vb → read k id vb image ≡ image
read_still zero id vb image s = refl
read_still (suc k) id vb image s = (λ i. read k id (s.stays i) (s.image image i)) ∙ read_still k id vb image s

no_rows : (o : Option Span) (vb : Plain) → has_rows (flush_from o vb).1.answer ≡ false → written_down (flush_from o vb).1.answer (flush_from o vb).0 ≡ vb
no_rows None vb e = refl
no_rows (Some w) vb e = no e

-- a flusher that finds no batch changes nothing
pub dry : (vb : Plain) → has_rows (plain_step vb call.FlushTake).1.answer ≡ false → flushed_once vb ≡ vb
dry vb e = no_rows (unflushed_span vb) vb e

pub flushed_dry : (k : ℕ) (vb : Plain) → flushed_once vb ≡ vb → flushed k vb ≡ vb
flushed_dry zero vb e = refl
flushed_dry (suc k) vb e = ap (flushed k) e ∙ flushed_dry k vb e

-- ---- what a reader leaves to the other

-- the stream of a number, once one moved on
moved_at : (id i e : ℕ) (ss : List Stream) → stream_at id (map (moved_on i e) ss) ≡ option_map (moved_on i e) (stream_at id ss)
moved_at id i e ss = changed_at (moved_on i e) (moved_id i e) id ss

not_moved : (i e : ℕ) (s : Stream) → s.id ≢ i → moved_on i e s ≡ s
not_moved i e s ne = ap (λ b. if b then record { id = s.id; ask = s.ask; sync = s.sync; place = e; cursor = s.cursor; taken = true } else s) (false_from_ne_true (s.id == i) (λ t. ne (eqb-true s.id i t)))

-- another stream stands where it stood
other_at : (id i e : ℕ) (ss : List Stream) → id ≢ i → stream_at id (map (moved_on i e) ss) ≡ stream_at id ss
other_at id i e ss ne = moved_at id i e ss ∙ by (stream_at id ss) refl
  where
    by : (o : Option Stream) → stream_at id ss ≡ o → option_map (moved_on i e) o ≡ o
    by None at = refl
    by (Some s) at = ap Some (not_moved i e s (λ same. ne (sym (found_id id ss s at) ∙ same)))

read_to : (o : Option Span) (id : ℕ) (s : Stream) (vb : Plain) → s.id ≡ id → ReadBy id vb (take_to o s vb).0
read_to None id s vb e = record { rest = refl; others = λ other ne. refl }
read_to (Some w) id s vb e = record { rest = refl; others = λ other ne. other_at other s.id w.last vb.streams (λ same. ne (same ∙ e)) }

read_from : (o : Option Stream) (id : ℕ) (vb : Plain) → stream_at id vb.streams ≡ o → ReadBy id vb (take_from o vb).0
read_from None id vb at = record { rest = refl; others = λ other ne. refl }
read_from (Some s) id vb at = read_to (if s.cursor then end_span s (all_spans vb.spans) vb.held else None) id s vb (found_id id vb.streams s at)

pub read_none : (id : ℕ) (vb : Plain) → ReadBy id vb vb
read_none id vb = record { rest = refl; others = λ other ne. refl }

-- a reader that goes on
pub read_more : (id : ℕ) (a b : Plain) → ReadBy id a b → ReadBy id a (took id b)
read_more id a b r =
    let m : ReadBy id b (took id b) = read_from (stream_at id b.streams) id b refl in
    record {
      rest = m.rest ∙ ap (λ (p : Plain). record p { streams = (took id b).streams }) r.rest;
      others = λ other ne. m.others other ne ∙ r.others other ne;
    }

-- ---- the other reader reads the same

module _ (id : ℕ) where
  -- a vBucket, and the same one with other streams of which this one stands where it stood
  abbrev moved : Plain → List Stream → Plain
  moved a ss = record a { streams = ss }

  abbrev Same : ℕ → Type 0
  Same k = (a : Plain) (ss : List Stream) (image : Picture) → stream_at id ss ≡ stream_at id a.streams → read k id (moved a ss) image ≡ read k id a image

  same_to : (k : ℕ) → Same k → (a : Plain) (ss : List Stream) (image : Picture) → stream_at id ss ≡ stream_at id a.streams → (s : Stream) (o : Option Span)
      → read k id (take_to o s (moved a ss)).0 (taken_in (take_to o s (moved a ss)).1.answer image) ≡ read k id (take_to o s a).0 (taken_in (take_to o s a).1.answer image)
  same_to k more a ss image e s None = more a ss image e
  same_to k more a ss image e s (Some w) =
      more (moved a (map (moved_on s.id w.last) a.streams)) (map (moved_on s.id w.last) ss) (taken_in (take_to (Some w) s a).1.answer image)
      (moved_at id s.id w.last ss ∙ ap (option_map (moved_on s.id w.last)) e ∙ sym (moved_at id s.id w.last a.streams))

  same_from : (k : ℕ) → Same k → (a : Plain) (ss : List Stream) (image : Picture) → stream_at id ss ≡ stream_at id a.streams → (o : Option Stream)
      → read k id (take_from o (moved a ss)).0 (taken_in (take_from o (moved a ss)).1.answer image) ≡ read k id (take_from o a).0 (taken_in (take_from o a).1.answer image)
  same_from k more a ss image e None = more a ss image e
  same_from k more a ss image e (Some s) = same_to k more a ss image e s (if s.cursor then end_span s (all_spans a.spans) a.held else None)

  same_read : (k : ℕ) → Same k
  same_read zero a ss image e = refl
  same_read (suc k) a ss image e =
      ap (λ (o : Option Stream). read k id (take_from o (moved a ss)).0 (taken_in (take_from o (moved a ss)).1.answer image)) e
      ∙ same_from k (same_read k) a ss image e (stream_at id a.streams)

  pub reads_same : (other k : ℕ) (a b : Plain) (image : Picture) → ReadBy other a b → id ≢ other → read k id b image ≡ read k id a image
  reads_same other k a b image r ne = ap (λ (p : Plain). read k id p image) r.rest ∙ same_read k a b.streams image (r.others id ne)

pub read_saved : (id : ℕ) (a b : Plain) → ReadBy id a b → b.saved ≡ a.saved
read_saved id a b r = ap (λ (p : Plain). p.saved) r.rest

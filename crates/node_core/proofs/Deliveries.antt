-- what a dial acknowledges of a delivery by its bytes
use Rattle.std.proofs.Common.{◌≡◌, ◌<◌, ℕ, ◌+◌, Bool, true, false, List, [], ◌∷◌, ◌++◌, map, length, refl, sym, subst, ap, ◌∙◌, arith, append-nil, Option, Some, None}
use Rattle.std.specs.Prelude.{◌==◌, ◌||◌, min, if◌then◌else◌, is_some}
use Rattle.std.specs.List.{filter_map}
use Rattle.std.proofs.lemmas.Bool.{or_right}
use Rattle.std.proofs.lemmas.Bool.Decides.{nat_tests}
use Rattle.std.proofs.lemmas.List.Elements.{filter_map-append}
use Rattle.std.proofs.lemmas.List.Sums.{sum_by-append, sum_by-cons}
use Rattle.mcbp_frame.specs.declared.frame.Frame.{Frame}
use Rattle.mcbp_frame.specs.declared.frame.FrameFault.{FrameFault}
use Rattle.mcbp_frame.specs.Cutting.{front_fault, frames_in, left_of}
use Rattle.mcbp_frame.specs.Spelling.{spelling}
use Rattle.mcbp_frame.proofs.Cases.{length-spelling}
use Rattle.vb_events.specs.declared.event.Event.{Event}
use Rattle.vb_events.specs.declared.event.Event.TheVariants as event
use Rattle.vb_events.specs.declared.event.EndReason.{EndReason}
use Rattle.vb_events.specs.declared.event.EndReason.TheVariants as reason
use Rattle.dcp_consumer.specs.Counting.{counted_bytes, counted_len, is_counted, bytes_acknowledged}
use Rattle.dcp_consumer.specs.Machine.{over_why}
use Rattle.node_core.specs.Conduct.{Writes, AcknowledgesBytes, noop_written, AnyOther, Dues, CallsAs, bytes_written, seqno_written, Acknowledged, SomeCounts, OwesBytes, Delivers, begins}
use Rattle.node_core.specs.Dials.{PlainDial, DialResult, untold, is_broken, is_over, over_for, with_left, with_line, fault_met, bytes_counted, with_end_line, rest_met, bytes_taken, dial_bytes, frames_taken}
use Rattle.node_core.proofs.Acknowledging.{Taken, calls_bind, fault_told, frames_acknowledge, lines_told}
use Rattle.node_core.proofs.Conduct.{either, one_own, wrote_keeps}

-- ---- whether a frame counts

-- a frame, and others
one_more : (f : Frame) (more : List Frame) → counted_bytes (f ∷ more) ≡ counted_len f + counted_bytes more
unfolding counted_bytes
one_more f more = sum_by-cons counted_len f more

pub some_more : (before more : List Frame) → counted_bytes (before ++ more) ≡ counted_bytes before + counted_bytes more
unfolding counted_bytes
some_more before more = sum_by-append counted_len before more

len_tested : (f : Frame) (b : Bool) → is_counted f ≡ b → counted_len f ≡ (if b then length (spelling f) else 0)
len_tested f b is = ap (λ b. if b then length (spelling f) else 0) is

-- where one counts, there are bytes
some_bytes : (frames : List Frame) → SomeCounts frames → 0 < counted_bytes frames
some_bytes frames (before, f, behind, are, is) =
    let here : counted_bytes frames ≡ counted_bytes before + counted_bytes (f ∷ behind) = ap counted_bytes are ∙ some_more before (f ∷ behind) in
    omega (arith, here, one_more f behind, len_tested f true is, length-spelling f)

-- and where none does, there are none
no_bytes : (frames : List Frame) → (SomeCounts frames → ⊥) → counted_bytes frames ≡ 0
unfolding counted_bytes
no_bytes [] none = refl
no_bytes (f ∷ more) none = by (no_bytes more (λ some. none (f ∷ some.0, some.1, some.2, ap (λ l. f ∷ l) some.3, some.4))) (is_counted f) refl
  where
    by : counted_bytes more ≡ 0 → (b : Bool) → is_counted f ≡ b → counted_bytes (f ∷ more) ≡ 0
    by rest true is = absurd (none ([], f, more, refl, is))
    by rest false is = omega (arith, rest, one_more f more, len_tested f false is)

-- ---- what is owed

module _ (frames : List Frame) (dial : PlainDial) where
  -- nothing is
  abbrev none_owed : Bool
  none_owed = is_over dial || dial.consumer.dialed.buffer == 0 || counted_bytes frames == 0

  -- what is
  abbrev pub owed_bytes : List ℕ
  owed_bytes = if none_owed then [] else min (counted_bytes frames) 4294967295 ∷ []

  nothing : none_owed ≡ true → owed_bytes ≡ []
  nothing is = ap (λ b. if b then [] else min (counted_bytes frames) 4294967295 ∷ []) is

  all_owed : is_over dial ≡ false → (dial.consumer.dialed.buffer == 0) ≡ false → (counted_bytes frames == 0) ≡ false → owed_bytes ≡ min (counted_bytes frames) 4294967295 ∷ []
  all_owed going buffer some = λ i. if going i || buffer i || some i then [] else min (counted_bytes frames) 4294967295 ∷ []

  zero_tested : (n : ℕ) → n ≡ 0 → (n == 0) ≡ true
  zero_tested n is = ap (λ m. m == 0) is

  above_zero : (n : ℕ) → 0 < n → (n == 0) ≡ false
  above_zero n above = grind (arith, nat_tests, above)

  pub owes : OwesBytes frames dial owed_bytes
  owes =
      let first : Bool = is_over dial in
      let second : Bool = is_over dial || dial.consumer.dialed.buffer == 0 in
      record {
        owed = λ going buffer some. all_owed (ap is_some going) (above_zero dial.consumer.dialed.buffer buffer) (above_zero (counted_bytes frames) (some_bytes frames some));
        over = λ why over. nothing (ap (λ o. is_some o || dial.consumer.dialed.buffer == 0 || counted_bytes frames == 0) over);
        unbuffered = λ none. nothing (ap (λ b. b || counted_bytes frames == 0) (or_right first (dial.consumer.dialed.buffer == 0) (zero_tested dial.consumer.dialed.buffer none)));
        uncounted = λ none. nothing (or_right second (counted_bytes frames == 0) (zero_tested (counted_bytes frames) (no_bytes frames none)));
      }

-- ---- what is written

-- these bytes are the last that was acknowledged
abbrev Last : List ℕ → List ℕ → DialResult → Dues → DialResult → Type 0
Last bytes noops old d new = (m : Acknowledged bytes noops old d new) × ((before : List Writes) × (m.link.writes.0 ≡ before ++ map AcknowledgesBytes bytes))

module _ {noops : List ℕ} (old s : DialResult) (d : Dues) (frames : List Frame) (m : Acknowledged [] noops old d s) where
  abbrev wrote : List ℕ
  wrote = bytes_acknowledged (counted_bytes frames) s.dial.consumer

  abbrev most : ℕ
  most = min (counted_bytes frames) 4294967295

  last_by : (b : Bool) → Last (if b then [] else most ∷ []) noops old d (if b then s else record s { out = s.out ++ wrote })
  last_by true = (m, (m.link.writes.0, sym (append-nil m.link.writes.0)))
  last_by false = (
    record {
      next = m.next;
      last = m.last;
      link = wrote_keeps old s s.dial.consumer (AcknowledgesBytes most) wrote tt refl (omega arith) (sym (append-nil wrote)) m.link;
      written = filter_map-append seqno_written m.link.writes.0 (AcknowledgesBytes most ∷ []) ∙ append-nil (filter_map seqno_written m.link.writes.0) ∙ m.written;
      told = m.told;
      counted = filter_map-append bytes_written m.link.writes.0 (AcknowledgesBytes most ∷ []) ∙ ap (λ l. l ++ most ∷ []) m.counted;
      answered = filter_map-append noop_written m.link.writes.0 (AcknowledgesBytes most ∷ []) ∙ append-nil (filter_map noop_written m.link.writes.0) ∙ m.answered;
      heard = m.heard;
    },
    (m.link.writes.0, refl),
  )

  counted_last : Last (owed_bytes frames s.dial) noops old d (bytes_counted frames s)
  unfolding bytes_counted
  counted_last = last_by (none_owed frames s.dial)

-- the last line writes nothing
end_last : {noops : List ℕ} (bytes : List ℕ) (old s : DialResult) (d : Dues) (why : Option EndReason) → Last bytes noops old d s → Last bytes noops old d (with_end_line why s)
unfolding lines_told
end_last bytes old s d None m = m
end_last {noops = noops} bytes old s d (Some why) m =
    let line : Event = event.Ended s.dial.consumer.dialed.link why in
    either (Last bytes noops old d) (is_broken (Some why)) s (with_line s line) m (lines_told old s d (line ∷ []) (one_own s.dial.consumer.dialed line refl) refl m.0, m.1)

-- the dial stays as it is
same_dial : (frames : List Frame) (s : DialResult) → (bytes_counted frames s).dial ≡ s.dial
unfolding bytes_counted
same_dial frames s = either (λ (t : DialResult). t.dial ≡ s.dial) (none_owed frames s.dial) s (record s { out = s.out ++ bytes_acknowledged (counted_bytes frames) s.dial.consumer }) refl refl

ended_dial : (why : Option EndReason) (s : DialResult) → (with_end_line why s).dial ≡ s.dial
ended_dial None s = refl
ended_dial (Some why) s = either (λ (t : DialResult). t.dial ≡ s.dial) (is_broken (Some why)) s (with_line s (event.Ended s.dial.consumer.dialed.link why)) refl refl

-- bytes that begin no frame end no link but one that went on
fault_open : (fault : Option FrameFault) (s : DialResult) → over_why (fault_met fault s).dial.consumer.handshake ≡ None → over_why s.dial.consumer.handshake ≡ None
fault_open None s goes = goes
fault_open (Some fault) s goes = by (is_over s.dial) goes
  where
    by : (b : Bool) → over_why (if b then s else over_for reason.Protocol s).dial.consumer.handshake ≡ None → over_why s.dial.consumer.handshake ≡ None
    by true goes = goes
    by false goes = cc

-- behind its frames
rest_delivers : (frames : List Frame) (bytes : List ℕ) (dial : PlainDial) (d : Dues) (t : DialResult) → Taken frames (with_left (untold dial) bytes) d t
    → CallsAs (Delivers frames (left_of bytes) (untold dial)) d (rest_met frames t)
rest_delivers frames bytes dial d t (noops, m, (taken, behind, are, own, all)) =
    let old : DialResult = with_left (untold dial) bytes in
    let met : DialResult = fault_met (front_fault t.dial.heard) t in
    let s : DialResult = bytes_counted frames met in
    let why : Option EndReason = over_why s.dial.consumer.handshake in
    let same : (with_end_line why s).dial ≡ met.dial = ended_dial why s ∙ same_dial frames met in
    let came : Last (owed_bytes frames met.dial) noops old d (with_end_line why s) =
    end_last (owed_bytes frames met.dial) old s d why (counted_last old met d frames (fault_told old t d (front_fault t.dial.heard) m)) in
    record {
      bytes = owed_bytes frames met.dial;
      owes = subst (λ dial. OwesBytes frames dial (owed_bytes frames met.dial)) (sym same) (owes frames met.dial);
      noops = noops;
      answers = (taken, behind, are, own, λ goes. all (fault_open (front_fault t.dial.heard) t (ap (λ (p : PlainDial). over_why p.consumer.handshake) (sym same) ∙ goes)));
      acknowledged = came.0;
      last = came.1;
    }

-- the next bytes
pub bytes_acknowledge : (piece : List ℕ) (dial : PlainDial)
    → CallsAs (Delivers (frames_in (dial.heard ++ piece)) (left_of (dial.heard ++ piece)) (untold dial)) (begins AnyOther dial) (dial_bytes piece dial)
unfolding bytes_taken
bytes_acknowledge piece dial =
    let bytes : List ℕ = dial.heard ++ piece in
    let old : DialResult = with_left (untold dial) bytes in
    calls_bind (Taken (frames_in bytes) old) (Delivers (frames_in bytes) (left_of bytes) (untold dial)) (begins AnyOther dial) (frames_taken (frames_in bytes) old) (rest_met (frames_in bytes))
    (frames_acknowledge bytes dial) (rest_delivers (frames_in bytes) bytes dial)

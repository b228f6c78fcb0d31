-- what is outstanding with frames on their way, in numbers
use Rattle.std.specs.Prelude.{◌≡◌, ℕ, ◌+◌, ◌++◌, List, [], ◌∷◌}
use Rattle.std.specs.List.{sum_by}
use Rattle.transcript_law.proofs.Words.{refl, ap, sym, ◌∙◌, arith, append-nil, All-cons, All-nil, Frame, Readable, dcp_frame, spelling}
use Rattle.mcbp_dcp.specs.declared.message.DcpMsg.TheVariants as msg
use Rattle.transcript_law.specs.Balance.{MeansOutstanding, acknowledged_in, answer_row, acknowledged_by, bytes_row, counted_in, end_row, marker_row, seqno_row, stream_len}
use Rattle.transcript_law.proofs.balance.Measures.{acknowledged_is, counted_is, no_frames, over, over_more, over_one}

-- so many bytes count and are acknowledged in these
pub record Weighs (bytes : List ℕ) (counted acked : ℕ) : Type 0 where
  pub counts : counted_in bytes ≡ counted
  pub acks : acknowledged_in bytes ≡ acked

none : Weighs [] 0 0
none = record { counts = counted_is [] ∙ ap (sum_by stream_len) no_frames; acks = acknowledged_is [] ∙ ap (sum_by acknowledged_by) no_frames }

-- a frame, and bytes behind it
frame_weighs : (f : Frame) (bytes more : List ℕ) (counted acked c a : ℕ) → Readable f → spelling f ≡ bytes → stream_len f ≡ c → acknowledged_by f ≡ a → Weighs more counted acked → Weighs (bytes ++ more) (c + counted) (a + acked)
frame_weighs f bytes more counted acked c a good is count ack rest = record {
  counts = counted_is (bytes ++ more) ∙ front stream_len ∙ (λ i. (over_one stream_len f good ∙ count) i + (sym (counted_is more) ∙ rest.counts) i);
  acks = acknowledged_is (bytes ++ more) ∙ front acknowledged_by ∙ (λ i. (over_one acknowledged_by f good ∙ ack) i + (sym (acknowledged_is more) ∙ rest.acks) i);
}
  where
    front : (each : Frame → ℕ) → over each (bytes ++ more) ≡ over each (spelling f) + over each more
    front each = ap (λ b. over each (b ++ more)) (sym is) ∙ over_more each (spelling f) more (f ∷ []) (All-cons Readable f [] good (All-nil Readable)) (sym (append-nil (spelling f)))

-- a link with such bytes on its ways
means : (down up : List ℕ) (counted acked m k n : ℕ) → Weighs down counted m → Weighs up k acked → counted + acked ≡ n → MeansOutstanding down up n
means down up counted acked m k n d u is link downs ups =
    let e : counted_in (link.down_heard ++ link.down) + acknowledged_in (link.up_heard ++ link.up) ≡ n = (λ i. (ap counted_in downs ∙ d.counts) i + (ap acknowledged_in ups ∙ u.acks) i) ∙ is in
    (λ b. b ∙ e, λ o. o ∙ sym e)

module _ (more : List ℕ) (counted acked : ℕ) (rest : Weighs more counted acked) where
  marker : Weighs (marker_row ++ more) (44 + counted) (0 + acked)
  unfolding dcp_frame spelling
  marker = frame_weighs (dcp_frame (msg.SnapshotMarker 0 1 1) 5 0) marker_row more counted acked 44 0 (search arith) refl refl refl rest

  end : Weighs (end_row ++ more) (28 + counted) (0 + acked)
  unfolding dcp_frame spelling
  end = frame_weighs (dcp_frame (msg.StreamEnd 2) 5 0) end_row more counted acked 28 0 (search arith) refl refl refl rest

  answer : Weighs (answer_row ++ more) (0 + counted) (0 + acked)
  unfolding dcp_frame spelling
  answer = frame_weighs (dcp_frame (msg.ControlAnswer 0) 2 0) answer_row more counted acked 0 0 (search arith) refl refl refl rest

  seqno : Weighs (seqno_row ++ more) (0 + counted) (0 + acked)
  unfolding dcp_frame spelling
  seqno = frame_weighs (dcp_frame (msg.SeqnoAcknowledged 1) 5 0) seqno_row more counted acked 0 0 (search arith) refl refl refl rest

  acked_44 : Weighs (bytes_row 44 ++ more) (0 + counted) (44 + acked)
  unfolding dcp_frame spelling
  acked_44 = frame_weighs (dcp_frame (msg.BufferAcknowledgement 44) 5 0) (bytes_row 44) more counted acked 0 44 (search arith) refl refl refl rest

  acked_28 : Weighs (bytes_row 28 ++ more) (0 + counted) (28 + acked)
  unfolding dcp_frame spelling
  acked_28 = frame_weighs (dcp_frame (msg.BufferAcknowledgement 28) 5 0) (bytes_row 28) more counted acked 0 28 (search arith) refl refl refl rest

pub nothing_means : MeansOutstanding [] [] 0
nothing_means = means [] [] 0 0 0 0 0 none none refl

pub marker_means : MeansOutstanding (answer_row ++ marker_row) [] 44
marker_means = means (answer_row ++ marker_row) [] 44 0 0 0 44 (answer marker_row 44 0 (marker [] 0 0 none)) none refl

pub acked_means : MeansOutstanding [] (seqno_row ++ bytes_row 44) 44
acked_means = means [] (seqno_row ++ bytes_row 44) 0 44 0 0 44 none (seqno (bytes_row 44) 0 44 (acked_44 [] 0 0 none)) refl

pub both_mean : MeansOutstanding (marker_row ++ end_row) (bytes_row 44 ++ bytes_row 28) 144
both_mean = means (marker_row ++ end_row) (bytes_row 44 ++ bytes_row 28) 72 72 0 0 144 (marker end_row 28 0 (end [] 0 0 none)) (acked_44 (bytes_row 28) 0 28 (acked_28 [] 0 0 none)) refl

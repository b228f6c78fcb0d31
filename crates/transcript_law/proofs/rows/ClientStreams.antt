-- lines of clients' streams, and the frames behind them
use Rattle.std.proofs.Common.{Bool, List, [], ap, false, inl, refl, suc, sym, true, zero, ℕ, ◌∙◌, ◌∷◌, ◌≡◌, ◌<◌, ◌≤◌}
use Rattle.std.proofs.lemmas.Bool.{and_from, le-leb, lt-ltb}
use Rattle.std.specs.Prelude.{Some, length, nat_le, nat_lt, take, ◌&&◌, ◌-◌}
use Rattle.vb_calls.specs.Spans.{stretch}
use Rattle.mcbp_dcp.specs.DcpFrames.{dcp_frame}
use Rattle.mcbp_dcp.specs.declared.message.DcpMsg.{DcpMsg}
use Rattle.client_session.proofs.Chunks.{nothing}
use Rattle.flow_control.specs.Windows.{is_open as lets_through}
use Rattle.mcbp_frame.proofs.Cutting.{frames-none}
use Rattle.mcbp_frame.specs.Cutting.{frame_in, frames_in}
use Rattle.mcbp_frame.specs.Spelling.{spelling}
use Rattle.vb_events.specs.declared.event.Event.{Event}
use Rattle.vb_events.specs.declared.event.Event.TheVariants as event
use Rattle.vb_types.specs.Histories.{IsIn, Rises, touches, upto}
use Rattle.vb_types.specs.declared.change.Change.{Change}
use Rattle.branch_model.proofs.Lasts.{in_filter, kept_in_filter}
use Rattle.branch_model.proofs.Lists.{last_in}
use Rattle.branch_model.specs.Histories.{last_seq}
use Rattle.branch_model.specs.Snapshots.{Covers}
use Rattle.transcript_law.specs.ClientStreamRows.{frame_of}
use Rattle.transcript_law.specs.ClientFrames.{is_closed_by}
use Rattle.transcript_law.specs.ClientStreams.{ClientKnown, ClientStream, vb_in_header}
use Rattle.transcript_law.specs.LawfulClients.{IsPut}
use Rattle.transcript_law.specs.Questions.{flow_now, in_front, served_frames, unserved, window_after}

infixr 2 ◌▹◌
-- a pair
pub ◌▹◌ : {A B : Type 0} → A → B → A × B
a ▹ b = (a, b)

-- where nothing came behind a last request for a stream nothing was served behind it
take_none : (k : ℕ) → take {A = ℕ} k [] ≡ []
take_none zero = refl
take_none (suc k) = refl

pub none_served : (known : ClientKnown) → known.bytes ≡ [] → served_frames known ≡ []
none_served known silent =
    ap (λ bytes. frames_in (in_front (unserved known.asking) bytes)) silent ∙ ap frames_in (take_none (0 - length (unserved known.asking))) ∙ frames-none [] (ap frame_in nothing)

-- and nothing is counted into its window
pub none_counted : (known : ClientKnown) → known.flow.bytes ≡ [] → lets_through known.flow.window ≡ true → lets_through (flow_now known).window ≡ true
none_counted known silent opens =
    ap (λ fs. lets_through (window_after known.flow.setup known.flow.window fs))
    (ap (λ bytes. frames_in (in_front (unserved known.asking) bytes)) silent ∙ ap frames_in (take_none (0 - length (unserved known.asking))) ∙ frames-none [] (ap frame_in nothing)) ∙ opens

-- a message whose header names the vBucket v stands behind its line, and no frame closed its stream that was served
abbrev pub put_still : (known : ClientKnown) (m : DcpMsg) (v : ℕ) (g : ClientStream) (more : List Event) → vb_in_header (spelling (dcp_frame m 9 v)) ≡ v → known.streams v ≡ Some g → g.opaque ≡ 9 → is_closed_by (served_frames known) v ≡ false → lets_through (flow_now known).window ≡ true → IsPut 0 1 known m (frame_of v m ∷ more)
put_still known m v g more header is nine still through = record {
  bytes = spelling (dcp_frame m 9 v);
  stands = (more, refl);
  stream = g;
  known_as = ap known.streams header ∙ is;
  spelled = ap (λ w. spelling (dcp_frame m 9 w)) (sym header) ∙ ap (λ o. spelling (dcp_frame m o (vb_in_header (spelling (dcp_frame m 9 v))))) (sym nine);
  unclosed = ap (is_closed_by (served_frames known)) header ∙ still;
  through = through;
}

-- nothing was served
abbrev pub put_by : (known : ClientKnown) (m : DcpMsg) (v : ℕ) (g : ClientStream) (more : List Event) → vb_in_header (spelling (dcp_frame m 9 v)) ≡ v → known.streams v ≡ Some g → g.opaque ≡ 9 → known.bytes ≡ [] → lets_through (flow_now known).window ≡ true → IsPut 0 1 known m (frame_of v m ∷ more)
put_by known m v g more header is nine silent through = put_still known m v g more header is nine (ap (λ fs. is_closed_by fs v) (none_served known silent)) through

-- the bytes that stand behind a line
pub bytes_are : (bytes : List ℕ) (more : List Event) (known : ClientKnown) (m : DcpMsg) (p : IsPut 0 1 known m (event.Reply 0 1 bytes ∷ more)) → p.bytes ≡ bytes
bytes_are bytes more known m p = by p.bytes p.stands.0 p.stands.1
  where
    by : (there : List ℕ) (rest : List Event) → event.Reply 0 1 bytes ∷ more ≡ event.Reply 0 1 there ∷ rest → there ≡ bytes
    by there rest e = cc

-- a line is judged by the stream of the vBucket that the frame behind it names
pub stream_is : (known : ClientKnown) (m said : DcpMsg) (v : ℕ) (g : ClientStream) (more : List Event) → vb_in_header (spelling (dcp_frame said 9 v)) ≡ v → known.streams v ≡ Some g → (p : IsPut 0 1 known m (frame_of v said ∷ more)) → p.stream ≡ g
stream_is known m said v g more header is p =
    let same : Some g ≡ Some p.stream = sym is ∙ ap known.streams (sym header) ∙ ap (λ b. known.streams (vb_in_header b)) (sym (bytes_are (spelling (dcp_frame said 9 v)) more known m p)) ∙ p.known_as in cc

-- and that frame is spelled for that stream
pub spelled_is : (known : ClientKnown) (m : DcpMsg) (bytes : List ℕ) (g : ClientStream) (more : List Event) → known.streams (vb_in_header bytes) ≡ Some g → IsPut 0 1 known m (event.Reply 0 1 bytes ∷ more) → bytes ≡ spelling (dcp_frame m g.opaque (vb_in_header bytes))
spelled_is known m bytes g more is p =
    let same : p.bytes ≡ bytes = bytes_are bytes more known m p in
    let one : Some g ≡ Some p.stream = sym is ∙ ap (λ b. known.streams (vb_in_header b)) (sym same) ∙ p.known_as in
    let stream : p.stream ≡ g = cc in
    sym same ∙ p.spelled ∙ ap (λ b. spelling (dcp_frame m p.stream.opaque (vb_in_header b))) same ∙ ap (λ (h : ClientStream). spelling (dcp_frame m h.opaque (vb_in_header bytes))) stream

-- the changes between two ends are a whole snapshot
pub all_between : (h : List Change) (from end : ℕ) → from < end → Rises from end (stretch from end h) → last_seq from (stretch from end h) ≡ end → Covers (stretch from end h) h from end
all_between h from end goes rises reaches = record {
  goes_on = goes;
  remains = record { rises = rises; of = λ x i. (x, (in_filter within x h i).0, inl refl); has = λ s c e a b. (c, there c (in_filter (λ d. nat_le d.seq end) c h (last_in (touches s) (upto h end) c e).0).0 a b, inl refl) };
  reaches = reaches;
}
  where
    within : Change → Bool
    within c = nat_lt from c.seq && nat_le c.seq end

    there : (c : Change) → IsIn c h → from < c.seq → c.seq ≤ end → IsIn c (stretch from end h)
    there c i a b = kept_in_filter within c h i (and_from (nat_lt from c.seq) (nat_le c.seq end) (lt-ltb from c.seq a) (le-leb c.seq end b))
